use Rattle.std.proofs.Common.{◌≡◌, ◌+◌, ℕ, List, Some, suc, sym, subst, arith}
use Rattle.std.specs.Str.{IsValidUpTo}
use Rattle.hy_base.specs.First.{IsFirst}
use Rattle.hy_base.specs.declared.refusal.Rule.TheVariants.{L4}
use Rattle.hy_lexer.specs.Tokens.{Breaks}
use Rattle.hy_lexer.proofs.First.{refusal, valid_up_to_breaks}
use Rattle.hy_lexer.proofs.lexer.lex.Goals as goal

broken_there : (bytes : List ℕ) (at from : ℕ) → IsValidUpTo bytes at → from ≡ at → IsFirst (Breaks bytes) (Some (refusal L4 from (from + 1)))
broken_there bytes at from valid e =
    let next : suc from ≡ from + 1 = omega arith in
    subst (λ to. IsFirst (Breaks bytes) (Some (refusal L4 from to))) next (valid_up_to_breaks bytes from (subst (IsValidUpTo bytes) (sym e) valid))

pub returns-in-Err : goal.returns-in-Err
returns-in-Err c = broken_there c.args.bytes.now _ c.valid_up_to-from.result c.in-Err.ensures.cases.1 c.valid_up_to-from.ensures
