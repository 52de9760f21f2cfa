-- What comes of the token after a part of a list, and of a token of several kinds.
use Rattle.std.specs.Prelude.{◌≡◌, Bool, true, false, Option, Some, None, List, [], ◌∷◌, Result, Ok, Err}
use Rattle.hy_base.specs.declared.position.Span.{Span}
use Rattle.hy_lexer.specs.declared.token.Token.{Token}
use Rattle.hy_lexer.specs.declared.token.TokenKind.{TokenKind}
use Rattle.hy_lexer.specs.declared.token.TokenKind.TheVariants as k
use Rattle.hy_parser.specs.declared.heading.OwnerSort.{OwnerSort}
use Rattle.hy_parser.specs.declared.heading.OwnerSort.TheVariants as owner
use Rattle.hy_phrases.specs.declared.mark.Mark.{Mark}
use Rattle.hy_phrases.specs.declared.stop.Stop.{Stop}
use Rattle.hy_phrases.specs.Marks.{kind_of}
use Rattle.hy_phrases.specs.Wanted.{Sees, Takes, Misses}

-- `,` was taken, or the token that ends the list, or neither came
abbrev pub GoesOn : Mark → List Token → Result Bool Stop → List Token → Type 0
GoesOn close old (Ok true) new = (span : Span) × Takes k.Comma old span new
GoesOn close old (Ok false) new = (span : Span) × (Sees k.Comma old → ⊥) × Takes (kind_of close) old span new
GoesOn close old (Err e) new = (Sees k.Comma old → ⊥) × Misses (kind_of close) old e

-- what the next token is, if it is something
abbrev pub ahead : {W : Type 0} → (TokenKind → Option W) → List Token → Option W
ahead of [] = None
ahead of (t ∷ ts) = of t.kind

-- a token was taken that is something
pub record TakesSome {W : Type 0} (of : TokenKind → Option W) (old : List Token) (what : W) (span : Span) (new : List Token) : Type 0 where
  pub token : Token
  pub is : of token.kind ≡ Some what
  pub stands : token.span ≡ span
  pub front : old ≡ token ∷ new

-- it was taken, or does not come
abbrev pub TakesOf : {W : Type 0} → (TokenKind → Option W) → List Token → Option (W × Span) → List Token → Type 0
TakesOf of old (Some taken) new = TakesSome of old taken.0 taken.1 new
TakesOf of old None new = (ahead of old ≡ None) × (new ≡ old)

-- `public` was taken, or does not come
abbrev pub TakesPublic : List Token → Bool → List Token → Type 0
TakesPublic old true new = (span : Span) × Takes k.Public old span new
TakesPublic old false new = (Sees k.Public old → ⊥) × (new ≡ old)

abbrev pub TakesMemberPublic : OwnerSort → List Token → Bool → List Token → Type 0
TakesMemberPublic owner.Trait old public new = (public ≡ false) × (new ≡ old)
TakesMemberPublic sort old public new = TakesPublic old public new
