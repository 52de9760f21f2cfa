-- What the pieces of a text are.
use Rattle.std.specs.Prelude.{◌≡◌, ◌≢◌, ◌≤◌, ◌⊎◌, ℕ, suc, ◌+◌, ◌*◌, ◌-◌, ◌==◌, cond, List, [], ◌∷◌, ◌++◌, codes, fold, length, IsTrue, Some}
use Rattle.std.specs.Char.{encode_utf8}
use Rattle.std.specs.List.{AllByRecursion}
use Rattle.std.specs.Str.{encode_utf8_all}
use Rattle.unicode_ident.specs.Ident.{is_xid_start, is_xid_continue}
use Rattle.hy_lexer.specs.declared.token.TokenKind.{TokenKind}
use Rattle.hy_lexer.specs.Words.{kind_in, marks, word_token}

-- what a piece is
pub data PieceKind : Type 0 where
  Space : PieceKind
  Comment : PieceKind
  -- a block comment that is not closed
  OpenComment : PieceKind
  -- a character that begins no token
  BadCharacter : PieceKind
  Number : ℕ → PieceKind
  Token : TokenKind → PieceKind

pub record Piece : Type 0 where
  pub text : List ℕ
  pub kind : PieceKind

-- a space, a tab, a carriage return or a line feed
abbrev pub IsSpace : ℕ → Type 0
IsSpace byte = (byte ≡ 32) ⊎ ((byte ≡ 9) ⊎ ((byte ≡ 13) ⊎ (byte ≡ 10)))

abbrev pub IsDigit : ℕ → Type 0
IsDigit byte = (48 ≤ byte) × (byte ≤ 57)

-- a byte of a number after its first
abbrev pub IsNumberByte : ℕ → Type 0
IsNumberByte byte = IsDigit byte ⊎ (byte ≡ 95)

-- a number with one more digit; `_` is skipped
abbrev pub with_digit : ℕ → ℕ → ℕ
with_digit n byte = cond (byte == 95) n (n * 10 + (byte - 48))

-- the number that digits spell
abbrev pub number_of : List ℕ → ℕ
number_of digits = fold with_digit 0 digits

-- a character that begins a word: one that Unicode lets begin an identifier, or `_`
abbrev pub StartsWord : ℕ → Type 0
StartsWord c = IsTrue (is_xid_start c) ⊎ (c ≡ 95)

-- a character that continues a word
abbrev pub ContinuesWord : ℕ → Type 0
ContinuesWord c = IsTrue (is_xid_continue c)

-- A character that begins a word, and characters that continue it.
pub record IsWord (text : List ℕ) : Type 0 where
  pub first : ℕ
  pub rest : List ℕ
  pub starts : StartsWord first
  pub continues : AllByRecursion ContinuesWord rest
  pub spelled : text ≡ encode_utf8_all (first ∷ rest)

-- neither `/*` nor `*/` begins this text
abbrev pub BeginsNoMark : List ℕ → Type 0
BeginsNoMark text = (rest : List ℕ) → (text ≢ codes "/*" ++ rest) × (text ≢ codes "*/" ++ rest)

-- A text within comments leads from one level of nesting to another. Level 0 is outside, and the text ends where it is met.
pub data Nests : ℕ → List ℕ → ℕ → Type 0 where
  end : {level : ℕ} → Nests level [] level
  opens : {old new : ℕ} {text : List ℕ} → Nests (suc (suc old)) text new → Nests (suc old) (47 ∷ 42 ∷ text) new
  closes : {old new : ℕ} {text : List ℕ} → Nests old text new → Nests (suc old) (42 ∷ 47 ∷ text) new
  other : {old new byte : ℕ} {text : List ℕ} → BeginsNoMark (byte ∷ text) → Nests (suc old) text new → Nests (suc old) (byte ∷ text) new

-- This text, alone, is a piece of this kind.
pub data IsPiece : List ℕ → PieceKind → Type 0 where
  space : {byte : ℕ} → IsSpace byte → IsPiece (byte ∷ []) Space
  line_comment : {text : List ℕ} → AllByRecursion (λ byte. byte ≢ 10) text → IsPiece (47 ∷ 47 ∷ text) Comment
  block_comment : {text : List ℕ} → Nests 1 text 0 → IsPiece (47 ∷ 42 ∷ text) Comment
  open_comment : {text : List ℕ} {level : ℕ} → Nests 1 text (suc level) → IsPiece (47 ∷ 42 ∷ text) OpenComment
  word : {text : List ℕ} → IsWord text → IsPiece text (Token (word_token text))
  number : {first : ℕ} {rest : List ℕ} → IsDigit first → AllByRecursion IsNumberByte rest → IsPiece (first ∷ rest) (Number (number_of (first ∷ rest)))
  mark : {text : List ℕ} {kind : TokenKind} → kind_in marks text ≡ Some kind → IsPiece text (Token kind)

-- The text begins with a piece, and no longer beginning of it is one.
pub record IsLongest (text : List ℕ) (piece : Piece) (behind : List ℕ) : Type 0 where
  pub joined : text ≡ piece.text ++ behind
  pub is_piece : IsPiece piece.text piece.kind
  pub longest : (more : List ℕ) (kind : PieceKind) (rest : List ℕ) → text ≡ more ++ rest → IsPiece more kind → length more ≤ length piece.text

-- No beginning of the text is a piece, so its first character is a bad one.
pub record IsBad (text : List ℕ) (piece : Piece) (behind : List ℕ) : Type 0 where
  pub joined : text ≡ piece.text ++ behind
  pub character : (c : ℕ) × (piece.text ≡ encode_utf8 c)
  pub is_bad : piece.kind ≡ BadCharacter
  pub none : (more : List ℕ) (kind : PieceKind) (rest : List ℕ) → text ≡ more ++ rest → IsPiece more kind → ⊥

-- The text begins with this piece.
abbrev pub IsNext : List ℕ → Piece → List ℕ → Type 0
IsNext text piece behind = IsLongest text piece behind ⊎ IsBad text piece behind

-- A text is split into pieces from its start, up to what is left after them.
pub data Splits : List ℕ → List Piece → List ℕ → Type 0 where
  done : {text : List ℕ} → Splits text [] text
  next : {text mid behind : List ℕ} {piece : Piece} {pieces : List Piece} → IsNext text piece mid → Splits mid pieces behind
      → Splits text (piece ∷ pieces) behind
