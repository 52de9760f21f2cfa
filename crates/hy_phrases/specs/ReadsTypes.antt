-- What the functions that read a written type ensure.
use Rattle.std.specs.Prelude.{◌≤◌, ◌<◌, ℕ, Result, List, length, OnOk}
use denote.Ref.{MutBor}
use Rattle.std.specs.declared.alloc.Global.{Global}
use Rattle.hy_base.specs.declared.position.Span.{Span}
use Rattle.hy_lexer.specs.declared.token.Token.{Token}
use Rattle.hy_tree.specs.Denotes.{type_of}
use Rattle.hy_tree.specs.declared.written.TypeExp.{TypeExp}
use Rattle.hy_phrases.specs.declared.stop.Stop.{Stop}
use Rattle.hy_phrases.specs.declared.stream.Tokens.{Tokens}
use Rattle.hy_phrases.specs.Reads.{Reads}
use Rattle.hy_grammar.specs.Stack.{TypeUse, TypeWanted, ArrayTypeWord, TypesOpened}
use Rattle.hy_grammar.specs.TypeSteps.{typed}

abbrev pub IsType : ℕ → List Token → Result TypeExp Stop → List Token → Type 0
IsType levels = Reads {X = TypeUse} levels type_of TypeWanted typed

-- after the word `Array`
abbrev pub IsArrayType : ℕ → Span → List Token → Result TypeExp Stop → List Token → Type 0
IsArrayType levels word = Reads {X = TypeUse} levels type_of (ArrayTypeWord word) typed

-- after the `(`
abbrev pub IsTupleType : ℕ → Span → List Token → Result TypeExp Stop → List Token → Type 0
IsTupleType levels bracket = Reads {X = TypeUse} levels type_of (TypesOpened bracket) typed

-- A function value that reads a type where fewer levels than these are left.
pub record NestsTypes (levels : ℕ) (pre : Global → MutBor Tokens → ℕ → Type 0) (post : Global → MutBor Tokens → ℕ → Result TypeExp Stop → MutBor Tokens
    → Type 0) : Type 0 where
  pub callable : (alloc : Global) (old : MutBor Tokens) (inner : ℕ) → inner < levels → pre alloc old inner
  pub reads : (alloc : Global) (old new : MutBor Tokens) (inner : ℕ) (r : Result TypeExp Stop) → inner < levels → post alloc old inner r new
      → IsType inner old.now.rest.now r new.now.rest.now
  pub within : (alloc : Global) (old new : MutBor Tokens) (inner : ℕ) (r : Result TypeExp Stop) → inner < levels → post alloc old inner r new
      → length new.now.rest.now ≤ length old.now.rest.now
  pub progress : (alloc : Global) (old new : MutBor Tokens) (inner : ℕ) (r : Result TypeExp Stop) → inner < levels → post alloc old inner r new
      → OnOk r (length new.now.rest.now < length old.now.rest.now)
