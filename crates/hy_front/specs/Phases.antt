-- The rules of a source, phase by phase.
use Rattle.std.specs.Prelude.{◌≡◌, ◌<◌, ◌⊎◌, ℕ, List, [], ◌∷◌, None, length}
use Rattle.hy_base.specs.First.{Refusal, IsFirst}
use Rattle.hy_base.specs.declared.refusal.Rule.TheVariants.{Z1}
use Rattle.hy_lexer.specs.Tokens as L
use Rattle.hy_lexer.specs.declared.token.Token.{Token}
use Rattle.hy_grammar.specs.Parses as P
use Rattle.hy_tree.specs.Findings as N
use Rattle.hy_tree.specs.Tree as T
use Rattle.hy_front.specs.Unbuilt as X

-- A rule of the earliest phase in which one is broken.
abbrev pub InPhases : List (Refusal → Type 0) → Refusal → Type 0
InPhases [] f = ⊥
InPhases (phase ∷ later) f = phase f ⊎ (IsFirst phase None × InPhases later f)

-- the longest source, in bytes
abbrev pub longest : ℕ
longest = 1048576

-- The source is too long.
abbrev pub BreaksLength : List ℕ → Refusal → Type 0
BreaksLength bytes f = (f ≡ record { rule = Z1; span = record { from = longest; to = longest } }) × (longest < length bytes)

-- A rule of the grammar is broken by its tokens.
abbrev pub BreaksGrammar : List ℕ → Refusal → Type 0
BreaksGrammar bytes f = (tokens : List Token) × L.HasTokens bytes tokens × P.Breaks tokens (length bytes) f

-- These are the tokens of the source, and this is their tree.
abbrev pub HasTree : List ℕ → T.Program → Type 0
HasTree bytes tree = (tokens : List Token) × L.HasTokens bytes tokens × P.HasTree tokens tree

-- A rule on names is broken in its tree.
abbrev pub BreaksNames : List ℕ → Refusal → Type 0
BreaksNames bytes f = (tree : T.Program) × HasTree bytes tree × N.Breaks tree f

-- A form of its tree is not built.
abbrev pub BreaksForms : List ℕ → Refusal → Type 0
BreaksForms bytes f = (tree : T.Program) × HasTree bytes tree × X.Breaks tree f

-- The phases are Z, L, P, N and X.
abbrev pub Breaks : List ℕ → Refusal → Type 0
Breaks bytes = InPhases (BreaksLength bytes ∷ L.Breaks bytes ∷ BreaksGrammar bytes ∷ BreaksNames bytes ∷ BreaksForms bytes ∷ [])

-- The source breaks no rule, and this is its tree.
pub record IsTree (bytes : List ℕ) (tree : T.Program) : Type 0 where
  pub sound : IsFirst (Breaks bytes) None
  pub read : HasTree bytes tree
