-- What the parser answers, from where the machine stops.
use Rattle.std.proofs.Common.{◌≡◌, ℕ, Result, Ok, Err, IsErrAnd, List, length, sym, subst}
use Rattle.hy_base.specs.Answers.{Answers}
use Rattle.hy_base.specs.declared.refusal.Fault.{Fault}
use Rattle.hy_lexer.specs.Spans.{AreApart}
use Rattle.hy_lexer.specs.declared.token.Token.{Token}
use Rattle.hy_tree.specs.Denotes.{program_of}
use Rattle.hy_tree.specs.Numbers.{number_program}
use Rattle.hy_tree.specs.declared.declaration.Program.{Program}
use Rattle.hy_phrases.specs.declared.stop.Stop.{Stop}
use Rattle.hy_grammar.specs.Machine.{Halt, start as begin, walk}
use Rattle.hy_grammar.specs.Parses.{Breaks, HasTree, refusal_of}
use Rattle.hy_phrases.specs.Reads.{Halts}
use Rattle.hy_parser.specs.ReadsDeclarations.{ReadsProgram, refused}
use Rattle.hy_grammar_laws.proofs.Faults.{accepts, refuses}

pub program_fails : (tokens : List Token) (r : Result Program Stop) (e : Stop) → IsErrAnd r (λ y. y ≡ e) → Halts e (walk (length tokens) begin tokens)
    → ReadsProgram tokens r
program_fails tokens (Ok p) e h g = absurd h
program_fails tokens (Err y) e h g = subst (λ z. Halts z (walk (length tokens) begin tokens)) (sym h) g

pub answers_tree : (tokens : List Token) (size : ℕ) (plain made : Program) → AreApart 0 tokens size
    → walk (length tokens) begin tokens ≡ Ok (program_of plain) → program_of made ≡ number_program (program_of plain)
    → Answers (Breaks tokens size) (λ (tree : Program). HasTree tokens (program_of tree)) (Ok made)
answers_tree tokens size plain made apart h e = let a = accepts tokens size (program_of plain) apart h in (a.0, (program_of plain, a.1, e))

pub answers_refusal : (tokens : List Token) (size : ℕ) (halt : Halt) (fault : Fault) → AreApart 0 tokens size → walk (length tokens) begin tokens ≡ Err halt
    → fault ≡ refused (refusal_of tokens size halt)
    → Answers (Breaks tokens size) (λ (tree : Program). HasTree tokens (program_of tree)) (Err fault)
answers_refusal tokens size halt fault apart h e =
    subst (λ f. Answers (Breaks tokens size) (λ (tree : Program). HasTree tokens (program_of tree)) (Err f)) (sym e) (refuses tokens size halt apart h)
