-- Where a chain of operators ends, or cannot go on.
use Rattle.std.proofs.Common.{◌≡◌, ℕ, Bool, Option, Some, None, Ok, List, [], ◌∷◌, refl, ap, ◌∙◌}
use Rattle.hy_base.specs.declared.position.Span.{Span}
use Rattle.hy_lexer.specs.declared.token.Token.{Token}
use Rattle.hy_tree.specs.Tree as T
use Rattle.hy_tree.specs.declared.operator.Operator.{Operator}
use Rattle.hy_phrases.specs.declared.operators.Infix.{Infix}
use Rattle.hy_phrases.specs.declared.operators.Level.TheVariants as level
use Rattle.hy_phrases.specs.declared.tiers.OpenChain.{OpenChain}
use Rattle.hy_phrases.specs.declared.tiers.Tiers.{Tiers}
use Rattle.hy_grammar.specs.ExprSteps.{joined, compare, operate}
use Rattle.hy_phrases.specs.Infixes.{level_of}
use Rattle.hy_grammar.specs.Kinds.{Disjunction, Addition}
use Rattle.hy_grammar.specs.Machine.{walk}
use Rattle.hy_phrases.specs.OpenChains.{tier_of, tiers_of}
use Rattle.hy_expressions.specs.ReadsExpressions.{IsOperatorAhead}
use Rattle.hy_grammar.specs.Stack as stack
use Rattle.hy_grammar.specs.Stack.{Use, Operated, Valued}
use Rattle.hy_expressions.proofs.OperandWalks.{operated_left, operated_ends}

pub chain_ends : (total : ℕ) (e : T.Expr) (tiers : stack.Tiers) (u : Use) (old : List Token) (compares : Bool) (ahead : Option Infix) → ahead ≡ None
    → IsOperatorAhead compares old (Ok ahead)
    → walk total (Operated e tiers u) old ≡ walk total (Valued (joined Disjunction e tiers) u) old
chain_ends total e tiers u old compares (Some found) q h = let w : ⊥ = cc in absurd w
chain_ends total e tiers u [] compares None q h = operated_left total e tiers u [] refl
chain_ends total e tiers u (t ∷ ts) compares None q h = operated_ends total e tiers u t (t ∷ ts) ts refl (h t ts refl)

compared : (tier : Option OpenChain) (operand : T.Expr) (operator : Operator) (token : Span) (tiers : stack.Tiers) → (tier ≡ None → ⊥)
    → compare (tier_of tier) operand operator token tiers ≡ None
compared None operand operator token tiers h = absurd (h refl)
compared (Some chain) operand operator token tiers h = refl

pub second_comparison : (tiers : Tiers) (operand : T.Expr) (found : Infix) (token : Span) → found.level ≡ level.Comparison → (tiers.comparison ≡ None → ⊥)
    → operate (level_of found.level) operand found.operator token (tiers_of tiers) ≡ None
second_comparison tiers operand found token h g =
    ap (λ l. operate (level_of l) operand found.operator token (tiers_of tiers)) h
    ∙ compared tiers.comparison (joined Addition operand (tiers_of tiers)) found.operator token (tiers_of tiers) g
