-- What a piece is, by its first byte.
use Rattle.std.proofs.Common.{◌≡◌, ◌≢◌, ℕ, suc, ◌<◌, ◌≤◌, ◌⊎◌, inl, inr, List, [], ◌∷◌, ◌++◌, length, refl, sym, ◌∙◌, ap, subst, Some, true, arith}
use Rattle.std.proofs.Common.{length-append}
use Rattle.std.specs.List.{AllByRecursion}
use Rattle.std.specs.Char.{encode_utf8, is_ascii_alphabetic}
use Rattle.std.specs.Str.{encode_utf8_all}
use Rattle.std.proofs.lemmas.Bool.Decides.{nat_tests, leb_tells}
use Rattle.std.proofs.lemmas.Str.{char_from_byte, length-encode, len_utf8_bounds}
use Rattle.unicode_ident.proofs.IdentLemmas.{is_xid_start-ascii}
use Rattle.hy_lexer.specs.declared.scan.ByteClass.TheVariants as class
use Rattle.hy_lexer.specs.declared.token.TokenKind.{TokenKind}
use Rattle.hy_lexer.specs.Pieces.{PieceKind, Space, Comment, OpenComment, Number, Token, IsPiece, IsWord, IsSpace, IsDigit, StartsWord, IsNumberByte}
use Rattle.hy_lexer.specs.Pieces.{number_of, Nests, space, line_comment, block_comment, open_comment, word, number, mark}
use Rattle.hy_lexer.specs.Scans.{class_of, class_at}
use Rattle.hy_lexer.specs.Words.{kind_in, marks, word_token}
use Rattle.hy_lexer.proofs.Tables.{kind_in-All}

pub class_of-space : (byte : ℕ) → IsSpace byte → class_of byte ≡ class.Space
class_of-space byte (inl e) = ap class_of e
class_of-space byte (inr (inl e)) = ap class_of e
class_of-space byte (inr (inr (inl e))) = ap class_of e
class_of-space byte (inr (inr (inr e))) = ap class_of e

pub class_of-digit : (byte : ℕ) → IsDigit byte → class_of byte ≡ class.Digit
class_of-digit byte h = grind (arith, nat_tests, h)

pub class_of-letter : (byte : ℕ) → byte < 128 → is_ascii_alphabetic byte ≡ true → class_of byte ≡ class.Word
class_of-letter byte small h = grind (arith, nat_tests)

pub class_of-high : (byte : ℕ) → 128 ≤ byte → class_of byte ≡ class.Word
class_of-high byte h = grind (arith, nat_tests)

pub class_of-start : (c : ℕ) → c < 128 → StartsWord c → class_of c ≡ class.Word
class_of-start c small (inl h) = class_of-letter c small (sym (is_xid_start-ascii c small) ∙ h)
class_of-start c small (inr e) = ap class_of e

-- A character has a byte, at least.
pub encode_some : (c : ℕ) → 1 ≤ length (encode_utf8 c)
encode_some c = omega (arith, length-encode c, (len_utf8_bounds c).0)

-- the first byte of a character that begins a word
class_at-start : (text behind : List ℕ) (c : ℕ) → text ≡ encode_utf8 c ++ behind → StartsWord c → class_at text ≡ class.Word
class_at-start [] behind c e h =
    let l : 0 ≡ length (encode_utf8 c ++ behind) = ap length e in
    absurd (omega (arith, encode_some c, length-append (encode_utf8 c) behind, l))
class_at-start (byte ∷ text) behind c e h = elim (leb_tells 128 byte) [
  | inl high ↦ class_of-high byte high.1
  | inr low ↦ let same : c ≡ byte = char_from_byte (byte ∷ text) behind c e low.1 (omega arith) in class_of-start byte low.1 (subst StartsWord same h)
]

pub class_at-word : (text : List ℕ) → IsWord text → class_at text ≡ class.Word
class_at-word text w = class_at-start text (encode_utf8_all w.rest) w.first w.spelled w.starts

-- how the marks look
abbrev IsMarkText : List ℕ → Type 0
IsMarkText text = ((class_at text ≡ class.Mark) ⊎ (class_at text ≡ class.Slash)) × ((length text ≡ 1) ⊎ (length text ≡ 2))

mark_text : (text : List ℕ) (kind : TokenKind) → kind_in marks text ≡ Some kind → IsMarkText text
mark_text text kind found =
    kind_in-All IsMarkText marks text kind (
      (inl refl, inr refl),
      (
        (inl refl, inr refl),
        (
          (inl refl, inr refl),
          (
            (inl refl, inr refl),
            (
              (inl refl, inr refl),
              (
                (inl refl, inr refl),
                (
                  (inl refl, inr refl),
                  (
                    (inl refl, inr refl),
                    (
                      (inl refl, inr refl),
                      (
                        (inr refl, inr refl),
                        (
                          (inl refl, inr refl),
                          (
                            (inl refl, inr refl),
                            (
                              (inl refl, inl refl),
                              (
                                (inl refl, inl refl),
                                (
                                  (inl refl, inl refl),
                                  (
                                    (inl refl, inl refl),
                                    (
                                      (inl refl, inl refl),
                                      (
                                        (inl refl, inl refl),
                                        (
                                          (inl refl, inl refl),
                                          (
                                            (inl refl, inl refl),
                                            (
                                              (inl refl, inl refl),
                                              (
                                                (inl refl, inl refl),
                                                (
                                                  (inl refl, inl refl),
                                                  (
                                                    (inr refl, inl refl),
                                                    (
                                                      (inl refl, inl refl),
                                                      (
                                                        (inl refl, inl refl),
                                                        (
                                                          (inl refl, inl refl),
                                                          (
                                                            (inl refl, inl refl),
                                                            (
                                                              (inl refl, inl refl),
                                                              ((inl refl, inl refl), ((inl refl, inl refl), ((inl refl, inl refl), tt))),
                                                            ),
                                                          ),
                                                        ),
                                                      ),
                                                    ),
                                                  ),
                                                ),
                                              ),
                                            ),
                                          ),
                                        ),
                                      ),
                                    ),
                                  ),
                                ),
                              ),
                            ),
                          ),
                        ),
                      ),
                    ),
                  ),
                ),
              ),
            ),
          ),
        ),
      ),
    )
    found

pub mark_class : (text : List ℕ) (kind : TokenKind) → kind_in marks text ≡ Some kind → (class_at text ≡ class.Mark) ⊎ (class_at text ≡ class.Slash)
mark_class text kind found = (mark_text text kind found).0

pub mark_size : (text : List ℕ) (kind : TokenKind) → kind_in marks text ≡ Some kind → (length text ≡ 1) ⊎ (length text ≡ 2)
mark_size text kind found = (mark_text text kind found).1

-- A piece is not empty.
pub not_empty : (text : List ℕ) (kind : PieceKind) → IsPiece text kind → 0 < length text
not_empty text kind (space h) = omega arith
not_empty text kind (line_comment h) = omega arith
not_empty text kind (block_comment h) = omega arith
not_empty text kind (open_comment h) = omega arith
not_empty text kind (word w) = omega (arith, encode_some w.first, ap length w.spelled, length-append (encode_utf8 w.first) (encode_utf8_all w.rest))
not_empty text kind (number first rest) = omega arith
not_empty text kind (mark found) = elim (mark_size text _ found) [ inl e ↦ omega arith | inr e ↦ omega arith ]

pub space_form : (text : List ℕ) (kind : PieceKind) → IsPiece text kind → class_at text ≡ class.Space → (kind ≡ Space) × (length text ≡ 1)
space_form text kind (space h) e = (refl, refl)
space_form text kind (line_comment h) e = cc
space_form text kind (block_comment h) e = cc
space_form text kind (open_comment h) e = cc
space_form text kind (word w) e = cc (class_at-word _ w)
space_form text kind (number first rest) e = cc (class_of-digit _ first)
space_form text kind (mark found) e = elim (mark_class text _ found) [ inl m ↦ cc | inr m ↦ cc ]

pub word_form : (text : List ℕ) (kind : PieceKind) → IsPiece text kind → class_at text ≡ class.Word → (kind ≡ Token (word_token text)) × IsWord text
word_form text kind (space h) e = cc (class_of-space _ h)
word_form text kind (line_comment h) e = cc
word_form text kind (block_comment h) e = cc
word_form text kind (open_comment h) e = cc
word_form text kind (word w) e = (refl, w)
word_form text kind (number first rest) e = cc (class_of-digit _ first)
word_form text kind (mark found) e = elim (mark_class text _ found) [ inl m ↦ cc | inr m ↦ cc ]

pub number_form : (text : List ℕ) (kind : PieceKind) → IsPiece text kind → class_at text ≡ class.Digit → (kind ≡ Number (number_of text))
    × AllByRecursion IsNumberByte text
number_form text kind (space h) e = cc (class_of-space _ h)
number_form text kind (line_comment h) e = cc
number_form text kind (block_comment h) e = cc
number_form text kind (open_comment h) e = cc
number_form text kind (word w) e = cc (class_at-word _ w)
number_form text kind (number first rest) e = (refl, (inl first, rest))
number_form text kind (mark found) e = elim (mark_class text _ found) [ inl m ↦ cc | inr m ↦ cc ]

-- a piece that is a mark
abbrev pub IsMark : List ℕ → PieceKind → Type 0
IsMark text kind = (it : TokenKind) × (kind ≡ Token it) × (kind_in marks text ≡ Some it)

pub mark_form : (text : List ℕ) (kind : PieceKind) → IsPiece text kind → class_at text ≡ class.Mark → IsMark text kind
mark_form text kind (space h) e = cc (class_of-space _ h)
mark_form text kind (line_comment h) e = cc
mark_form text kind (block_comment h) e = cc
mark_form text kind (open_comment h) e = cc
mark_form text kind (word w) e = cc (class_at-word _ w)
mark_form text kind (number first rest) e = cc (class_of-digit _ first)
mark_form text kind (mark found) e = (_, refl, found)

-- a piece that begins with a slash
pub data IsSlashForm : List ℕ → PieceKind → Type 0 where
  line : {text : List ℕ} → AllByRecursion (λ byte. byte ≢ 10) text → IsSlashForm (47 ∷ 47 ∷ text) Comment
  closed : {text : List ℕ} → Nests 1 text 0 → IsSlashForm (47 ∷ 42 ∷ text) Comment
  unclosed : {text : List ℕ} {level : ℕ} → Nests 1 text (suc level) → IsSlashForm (47 ∷ 42 ∷ text) OpenComment
  marked : {text : List ℕ} {it : TokenKind} → kind_in marks text ≡ Some it → IsSlashForm text (Token it)

pub slash_form : (text : List ℕ) (kind : PieceKind) → IsPiece text kind → class_at text ≡ class.Slash → IsSlashForm text kind
slash_form text kind (space h) e = cc (class_of-space _ h)
slash_form text kind (line_comment h) e = line h
slash_form text kind (block_comment h) e = closed h
slash_form text kind (open_comment h) e = unclosed h
slash_form text kind (word w) e = cc (class_at-word _ w)
slash_form text kind (number first rest) e = cc (class_of-digit _ first)
slash_form text kind (mark found) e = marked found

pub ruleset all_lemmas = (space_form, word_form, number_form, mark_form, slash_form, not_empty)
