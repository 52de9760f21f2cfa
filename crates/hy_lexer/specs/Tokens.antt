-- The tokens of a source, and the rules that it may break.
use Rattle.std.specs.Prelude.{◌≡◌, ◌<◌, ℕ, suc, ◌+◌, cond, Bool, true, false, ◌||◌, nat_lt, List, [], ◌∷◌, ◌++◌, length, take, drop, Option, Some, None}
use Rattle.std.specs.Prelude.{pos, ◌==◌}
use Rattle.std.specs.List.{AllByRecursion}
use Rattle.std.specs.Str.{IsUtf8, StartsWithNoChar}
use Rattle.hy_base.specs.First.{Refusal}
use Rattle.hy_base.specs.declared.position.Span.{Span}
use Rattle.hy_base.specs.declared.refusal.Rule.{Rule}
use Rattle.hy_base.specs.declared.refusal.Rule.TheVariants.{L1, L2, L3, L4}
use Rattle.hy_lexer.specs.declared.token.Token.{Token}
use Rattle.hy_lexer.specs.declared.token.TokenKind.{TokenKind}
use Rattle.hy_lexer.specs.declared.token.TokenKind.TheVariants as token
use Rattle.hy_lexer.specs.Pieces.{Piece, PieceKind, Space, Comment, OpenComment, BadCharacter, Number, Token as TokenPiece, Splits}

-- the rule that a piece breaks
abbrev pub rule_of : PieceKind → Option Rule
rule_of Space = None
rule_of Comment = None
rule_of OpenComment = Some L2
rule_of BadCharacter = Some L1
rule_of (Number n) = cond (nat_lt 9223372036854775807 n) (Some L3) None
rule_of (TokenPiece kind) = None

-- the token that a piece is
abbrev pub token_of : PieceKind → Option TokenKind
token_of Space = None
token_of Comment = None
token_of OpenComment = None
token_of BadCharacter = None
token_of (Number n) = Some (token.Number (pos n))
token_of (TokenPiece kind) = Some kind

-- whether a line feed is in a text
abbrev pub has_line_feed : List ℕ → Bool
has_line_feed [] = false
has_line_feed (byte ∷ text) = (byte == 10) || has_line_feed text

-- how many bytes pieces have
abbrev pub size_of : List Piece → ℕ
size_of [] = 0
size_of (piece ∷ pieces) = length piece.text + size_of pieces

abbrev pub span : ℕ → ℕ → Span
span from to = record { from = from; to = to }

-- a token, if the piece is one, in front of others
abbrev pub in_front : Option TokenKind → Bool → Span → List Token → List Token
in_front None first s tokens = tokens
in_front (Some kind) first s tokens = record { kind = kind; span = s; first = first } ∷ tokens

-- whether the token after a piece is the first on its line, where a token in place of the piece would be or not
abbrev pub first_behind : Option TokenKind → Bool → List ℕ → Bool
first_behind None first text = first || has_line_feed text
first_behind (Some kind) first text = false

-- the tokens among pieces that begin at this place of the source, and whether the next token is the first on its line
abbrev pub tokens_of : ℕ → Bool → List Piece → List Token
tokens_of at first [] = []
tokens_of at first (piece ∷ pieces) =
    in_front (token_of piece.kind) first (span at (at + length piece.text))
    (tokens_of (at + length piece.text) (first_behind (token_of piece.kind) first piece.text) pieces)

-- no rule is broken by the piece
abbrev pub IsSound : Piece → Type 0
IsSound piece = rule_of piece.kind ≡ None

-- These are the tokens of the source.
pub record HasTokens (bytes : List ℕ) (tokens : List Token) : Type 0 where
  pub utf8 : IsUtf8 bytes
  pub pieces : List Piece
  pub split : Splits bytes pieces []
  pub sound : AllByRecursion IsSound pieces
  pub taken : tokens ≡ tokens_of 0 true pieces

-- The source breaks this rule there.
pub data Breaks : List ℕ → Refusal → Type 0 where
  -- a bad character, an open comment or a number that is too large
  piece : {bytes behind : List ℕ} {rule : Rule} (before : List Piece) (it : Piece) → IsUtf8 bytes → Splits bytes (before ++ it ∷ []) behind
      → rule_of it.kind ≡ Some rule
      → Breaks bytes (record { rule = rule; span = span (size_of before) (size_of before + length it.text) })
  -- a byte that begins no whole character, after whole ones
  not_utf8 : {bytes : List ℕ} (at : ℕ) → at < length bytes → IsUtf8 (take at bytes) → StartsWithNoChar (drop at bytes)
      → Breaks bytes (record { rule = L4; span = span at (suc at) })
