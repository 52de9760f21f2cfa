-- Where the tokens of a text stand.
use Rattle.std.specs.Prelude.{◌<◌, ◌≤◌, ◌⊎◌, ◌-◌, ℕ, List, [], ◌∷◌, ◌++◌, take, drop}
use Rattle.hy_lexer.specs.declared.token.Token.{Token}
use Rattle.hy_lexer.specs.Pieces.{IsPiece, Space, Comment}

-- The spans are in order, apart and not empty: none begins before the one place, and none ends after the other.
abbrev pub AreApart : ℕ → List Token → ℕ → Type 0
AreApart at [] end = at ≤ end
AreApart at (t ∷ tokens) end = (at ≤ t.span.from) × (t.span.from < t.span.to) × AreApart t.span.to tokens end

-- The text is spaces and comments.
pub data IsGap : List ℕ → Type 0 where
  none : IsGap []
  more : (text rest : List ℕ) → IsPiece text Space ⊎ IsPiece text Comment → IsGap rest → IsGap (text ++ rest)

-- Spaces and comments alone stand between this place and the first token, between two tokens, and after the last.
abbrev pub AreGapsBetween : List ℕ → ℕ → List Token → Type 0
AreGapsBetween bytes at [] = IsGap (drop at bytes)
AreGapsBetween bytes at (t ∷ tokens) = IsGap (take (t.span.from - at) (drop at bytes)) × AreGapsBetween bytes t.span.to tokens
