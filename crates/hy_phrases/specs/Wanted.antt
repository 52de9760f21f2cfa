-- What comes of a token that is wanted.
use Rattle.std.specs.Prelude.{◌≡◌, ℕ, List, [], ◌∷◌, length}
use Rattle.hy_base.specs.declared.position.Span.{Span}
use Rattle.hy_lexer.specs.declared.token.Token.{Token}
use Rattle.hy_lexer.specs.declared.token.TokenKind.{TokenKind}
use Rattle.hy_lexer.specs.declared.token.TokenKind.TheVariants as k
use Rattle.hy_tree.specs.declared.name.Name.{Name}
use Rattle.hy_phrases.specs.declared.stop.Stop.{Stop}
use Rattle.hy_phrases.specs.declared.stop.Stop.TheVariants as stop

abbrev pub tail : List Token → List Token
tail [] = []
tail (t ∷ ts) = ts

-- the next token is of this kind
abbrev pub Sees : TokenKind → List Token → Type 0
Sees kind [] = ⊥
Sees kind (t ∷ ts) = t.kind ≡ kind

-- a token of this kind was taken
pub record Takes (kind : TokenKind) (old : List Token) (span : Span) (new : List Token) : Type 0 where
  pub token : Token
  pub is : token.kind ≡ kind
  pub stands : token.span ≡ span
  pub front : old ≡ token ∷ new

-- a token of this kind was wanted and did not come
pub record Misses (kind : TokenKind) (old : List Token) (e : Stop) : Type 0 where
  pub lacks : Sees kind old → ⊥
  pub stops : e ≡ stop.Unexpected (length old)

-- A token of this kind was wanted that opens a level, where so many may be opened: it did not come, or opens one too many.
abbrev pub OpensNone : TokenKind → ℕ → List Token → Stop → Type 0
OpensNone kind levels old stop.NoMemory = ⊥
OpensNone kind levels old (stop.Unexpected left) = (Sees kind old → ⊥) × (left ≡ length old)
OpensNone kind levels old (stop.TooDeep left) = Sees kind old × (levels ≡ 0) × (left ≡ length old)

-- a name was taken
pub record TakesName (old : List Token) (name : Name) (new : List Token) : Type 0 where
  pub token : Token
  pub is : token.kind ≡ k.Name name.text
  pub stands : token.span ≡ name.span
  pub front : old ≡ token ∷ new

-- the next token is no name
abbrev pub LacksName : List Token → Type 0
LacksName [] = Unit {0}
LacksName (t ∷ ts) = (text : List ℕ) → t.kind ≡ k.Name text → ⊥

-- a name was wanted and did not come, or memory ran out
abbrev pub MissesName : List Token → Stop → Type 0
MissesName old stop.NoMemory = Unit {0}
MissesName old (stop.Unexpected left) = LacksName old × (left ≡ length old)
MissesName old (stop.TooDeep left) = ⊥
