-- What the scanner finds at the start of a text.
use Rattle.std.specs.Prelude.{◌≡◌, ◌<◌, ℕ, suc, cond, nat_lt, ◌==◌, List, [], ◌∷◌, ◌++◌, length, Option, Some, None, Result, Ok, Err}
use Rattle.std.specs.Char.{encode_utf8}
use Rattle.std.specs.List.{AllByRecursion}
use Rattle.std.specs.Str.{IsCharBoundary, encode_utf8_all}
use Rattle.hy_base.specs.declared.position.Span.{Span}
use Rattle.hy_base.specs.declared.refusal.Fault.{Fault}
use Rattle.hy_base.specs.declared.refusal.Fault.TheVariants.{Refused, NoMemory}
use Rattle.hy_lexer.specs.declared.scan.ByteClass.{ByteClass}
use Rattle.hy_lexer.specs.declared.scan.ByteClass.TheVariants as class
use Rattle.hy_lexer.specs.declared.scan.Scanned.{Scanned}
use Rattle.hy_lexer.specs.declared.scan.Shape.{Shape}
use Rattle.hy_lexer.specs.declared.scan.Shape.TheVariants as shape
use Rattle.hy_lexer.specs.declared.token.TokenKind.{TokenKind}
use Rattle.hy_lexer.specs.Pieces.{PieceKind, Space, Comment, OpenComment, BadCharacter, Number, Token, IsNext, IsPiece, ContinuesWord, Nests, number_of}
use Rattle.hy_lexer.specs.Tokens.{rule_of, token_of}
use Rattle.hy_lexer.specs.Words.{kind_in, marks, pairs, word_token}

-- no byte of this sort begins the text
abbrev pub StopsAt : (ℕ → Type 0) → List ℕ → Type 0
StopsAt Is text = (byte : ℕ) (rest : List ℕ) → text ≡ byte ∷ rest → Is byte → ⊥

-- no character that continues a word begins the text
abbrev pub StopsWord : List ℕ → Type 0
StopsWord text = (c : ℕ) (rest : List ℕ) → text ≡ encode_utf8 c ++ rest → ContinuesWord c → ⊥

-- The text begins with so many bytes of this sort, and no more.
pub record IsRun (Is : ℕ → Type 0) (text : List ℕ) (count : ℕ) : Type 0 where
  pub front : List ℕ
  pub behind : List ℕ
  pub joined : text ≡ front ++ behind
  pub all : AllByRecursion Is front
  pub stops : StopsAt Is behind
  pub size : count ≡ length front

-- The text begins with characters that continue a word, as many as there are.
pub record IsWordRun (text behind : List ℕ) : Type 0 where
  pub front : List ℕ
  pub joined : text ≡ encode_utf8_all front ++ behind
  pub all : AllByRecursion ContinuesWord front
  pub stops : StopsWord behind

-- The text begins with these two bytes.
abbrev pub Begins : ℕ → ℕ → List ℕ → Type 0
Begins first second text = (behind : List ℕ) × (text ≡ first ∷ second ∷ behind)

-- the text has this second byte
abbrev pub HasSecond : ℕ → List ℕ → Type 0
HasSecond second text = (first : ℕ) × (behind : List ℕ) × (text ≡ first ∷ second ∷ behind)

-- a byte of ASCII begins the text
abbrev pub BeginsInAscii : List ℕ → Type 0
BeginsInAscii text = (byte : ℕ) × (behind : List ℕ) × (text ≡ byte ∷ behind) × (byte < 128)

-- The text begins with a mark of two bytes, or with none.
abbrev pub BeginsWithPair : List ℕ → TokenKind → Type 0
BeginsWithPair text kind = (first : ℕ) × (second : ℕ) × (behind : List ℕ) × (text ≡ first ∷ second ∷ behind)
    × (Some kind ≡ kind_in pairs (first ∷ second ∷ []))

abbrev pub LacksPair : List ℕ → Type 0
LacksPair text = (first second : ℕ) (behind : List ℕ) → text ≡ first ∷ second ∷ behind → kind_in pairs (first ∷ second ∷ []) ≡ None

-- a comment that is closed after so many bytes of what stands after its first `/*`; one that is not closed
abbrev pub IsClosed : List ℕ → ℕ → Type 0
IsClosed inner count = (front : List ℕ) × (behind : List ℕ) × (inner ≡ front ++ behind) × Nests 1 front 0 × (count ≡ length front)

abbrev pub IsOpen : List ℕ → Type 0
IsOpen inner = (level : ℕ) × Nests 1 inner (suc level)

-- a piece that the text begins with is a mark
abbrev pub OnlyMarks : List ℕ → Type 0
OnlyMarks text = (more : List ℕ) (kind : PieceKind) (rest : List ℕ) → text ≡ more ++ rest → IsPiece more kind → (it : TokenKind) × (kind ≡ Token it)
    × (kind_in marks more ≡ Some it)

-- what a piece may be that begins with this byte
abbrev pub class_of : ℕ → ByteClass
class_of byte =
    cond (nat_lt byte 48)
    (cond (byte == 32) class.Space
    (cond (byte == 10) class.Space (cond (byte == 9) class.Space (cond (byte == 13) class.Space (cond (byte == 47) class.Slash class.Mark)))))
    (cond (nat_lt byte 58) class.Digit
    (cond (nat_lt byte 65) class.Mark
    (cond (nat_lt byte 91) class.Word
    (cond (byte == 95) class.Word
    (cond (nat_lt byte 97) class.Mark (cond (nat_lt byte 123) class.Word (cond (nat_lt byte 128) class.Mark class.Word)))))))

-- the class of a text's first byte
abbrev pub class_at : List ℕ → ByteClass
class_at [] = class.Mark
class_at (byte ∷ text) = class_of byte

-- the kind of a piece that has this shape
abbrev pub piece_kind : Shape → List ℕ → PieceKind
piece_kind shape.Space text = Space
piece_kind shape.Comment text = Comment
piece_kind shape.OpenComment text = OpenComment
piece_kind shape.BadCharacter text = BadCharacter
piece_kind shape.Number text = Number (number_of text)
piece_kind shape.Word text = Token (word_token text)
piece_kind (shape.Mark kind) text = Token kind

-- This is what the text begins with, and a character ends there.
pub record Scans (text : List ℕ) (scanned : Scanned) : Type 0 where
  pub front : List ℕ
  pub behind : List ℕ
  pub size : scanned.length ≡ length front
  pub next : IsNext text (record { text = front; kind = piece_kind scanned.shape front }) behind
  pub cut : IsCharBoundary text scanned.length

-- the token that a piece is, or the rule that it breaks at its span
abbrev pub Takes : PieceKind → Span → Result (Option TokenKind) Fault → Type 0
Takes kind span (Ok found) = (rule_of kind ≡ None) × (found ≡ token_of kind)
Takes kind span (Err (Refused rule at)) = (rule_of kind ≡ Some rule) × (at ≡ span)
Takes kind span (Err NoMemory) = Unit {0}
