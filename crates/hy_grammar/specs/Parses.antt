-- What the parser answers.
use Rattle.std.specs.Prelude.{◌≡◌, ◌<◌, ◌≤◌, ◌-◌, ◌==◌, cond, ℕ, suc, Option, Some, None, List, [], ◌∷◌, ◌++◌, length, drop}
use Rattle.hy_base.specs.First.{Refusal}
use Rattle.hy_base.specs.declared.refusal.Rule.TheVariants.{P1, P2}
use Rattle.hy_lexer.specs.declared.token.Token.{Token}
use Rattle.hy_tree.specs.Tree as T
use Rattle.hy_grammar.specs.Grammar.{IsProgram}
use Rattle.hy_tree.specs.Numbers.{number_program}
use Rattle.hy_grammar.specs.Machine.{Halt, Unexpected, TooDeep, step, start, most_levels}
use Rattle.hy_grammar.specs.Stack.{State, depth}

-- some program begins with these tokens
abbrev pub Begins : List Token → Type 0
Begins tokens = (more : List Token) × (tree : T.Program) × IsProgram (tokens ++ more) tree

abbrev pub reached_from : Option State → (State → Option State) → Option State
reached_from None more = None
reached_from (Some s) more = more s

-- the state after tokens, before which stand so many, or none where one of them cannot stand
unfoldable pub reached : ℕ → State → List Token → Option State
reached place s [] = Some s
reached place s (t ∷ ts) = reached_from (step s t place) (λ s'. reached (suc place) s' ts)

-- These tokens begin a program, and so many levels are open after them.
abbrev pub Opens : List Token → ℕ → Type 0
Opens tokens levels = (s : State) × (reached 0 start tokens ≡ Some s) × (depth s ≡ levels)

-- The tokens break a rule there, in a source of so many bytes.
pub data Breaks (tokens : List Token) (size : ℕ) : Refusal → Type 0 where
  -- the tokens before this one begin a program, and with it they begin none
  unexpected : (before : List Token) (t : Token) (behind : List Token) → tokens ≡ before ++ t ∷ behind → Begins before → (Begins (before ++ t ∷ []) → ⊥)
      → Breaks tokens size (record { rule = P1; span = t.span })
  -- all of them begin a program, and are none: the end of the file, twice
  too_short : Begins tokens → ((tree : T.Program) → IsProgram tokens tree → ⊥)
      → Breaks tokens size (record { rule = P1; span = record { from = size; to = size } })
  -- this one is allowed, and begins a level above the limit
  too_deep : (before : List Token) (t : Token) (behind : List Token) {few many : ℕ} → tokens ≡ before ++ t ∷ behind → Opens before few → few ≤ most_levels
      → Opens (before ++ t ∷ []) many → most_levels < many
      → Breaks tokens size (record { rule = P2; span = t.span })

-- The tree that the grammar reads from the tokens, with its nodes numbered.
abbrev pub HasTree : List Token → T.Program → Type 0
HasTree tokens tree = (plain : T.Program) × IsProgram tokens plain × (tree ≡ number_program plain)

-- REFUSALS, BY WHERE THE MACHINE STOPS

abbrev pub at_end : ℕ → Refusal
at_end size = record { rule = P1; span = record { from = size; to = size } }

abbrev pub unexpected_at : ℕ → List Token → Refusal
unexpected_at size [] = at_end size
unexpected_at size (t ∷ ts) = record { rule = P1; span = t.span }

-- Where a token that begins a level too many is the last of the source, its end is the end of the file, where P1 comes before P2.
abbrev pub too_deep_at : ℕ → List Token → Refusal
too_deep_at size [] = at_end size
too_deep_at size (t ∷ ts) = cond (t.span.to == size) (at_end size) (record { rule = P2; span = t.span })

-- the refusal of a source of so many bytes where the machine stops so far before its end
abbrev pub refusal_of : List Token → ℕ → Halt → Refusal
refusal_of tokens size (Unexpected left) = unexpected_at size (drop (length tokens - left) tokens)
refusal_of tokens size (TooDeep left) = too_deep_at size (drop (length tokens - left) tokens)
