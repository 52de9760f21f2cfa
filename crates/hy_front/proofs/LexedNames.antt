-- A name that the lexer read has no character that full names are written with, and is not `_`.
use Rattle.std.proofs.Common.{◌≡◌, ◌≢◌, ◌<◌, ◌≤◌, ◌+◌, ◌/◌, ◌%◌, ◌⊎◌, inl, inr, ⊎_elim, ℕ, zero, suc, List, [], ◌∷◌, ◌++◌, length, get_or, Bool, true, false}
use Rattle.std.proofs.Common.{cond, Option, Some, None, IsTrue, codes, refl, sym, ap, subst, ◌∙◌, arith, Contains}
use Rattle.std.specs.List.{AllByRecursion}
use Rattle.std.specs.Option.{unwrap_or}
use Rattle.std.specs.Char.{encode_utf8}
use Rattle.std.specs.Str.{bytes_eq, encode_utf8_all}
use Rattle.unicode_ident.specs.Ident.{is_xid_start, is_xid_continue}
use Rattle.unicode_ident.proofs.IdentLemmas.{is_xid_start-is_xid_continue, is_xid_continue-ascii}
use lib.Utf8.{encode}
use lib.Dec.{ltb}
use Rattle.hy_base.specs.declared.position.Span.{Span}
use Rattle.hy_lexer.specs.Pieces.{Piece, PieceKind, Space, Comment, OpenComment, BadCharacter, Number, Token as TokenPiece, IsPiece, space, line_comment}
use Rattle.hy_lexer.specs.Pieces.{block_comment, open_comment, word, number, mark, IsWord, StartsWord, ContinuesWord, IsNext, IsLongest, IsBad, Splits, done}
use Rattle.hy_lexer.specs.Pieces.{next}
use Rattle.hy_lexer.specs.Tokens.{HasTokens, token_of, tokens_of, in_front, first_behind}
use Rattle.hy_lexer.specs.Words.{kind_in, reserved, marks, word_token}
use Rattle.hy_lexer.specs.declared.token.Token.{Token}
use Rattle.hy_lexer.specs.declared.token.TokenKind.{TokenKind}
use Rattle.hy_lexer.specs.declared.token.TokenKind.TheVariants as token
use Rattle.hy_scope.specs.FullNames.{IsNameCharacter, IsNameText}

-- THE CHARACTERS OF WORDS

-- The bytes of a character are itself, or above those of ASCII.
all_bytes : (P : ℕ → Type 0) (c : ℕ) → P c → ((byte : ℕ) → 128 ≤ byte → P byte) → AllByRecursion P (encode c)
unfolding encode
all_bytes P c here high = by (ltb c 128) (ltb c 2048) (ltb c 65536)
  where
    by : (x y z : Bool) → AllByRecursion P (cond x (c ∷ []) (cond y ((192 + c / 64) ∷ (128 + c % 64) ∷ [])
        (cond z ((224 + c / 4096) ∷ (128 + (c / 64) % 64) ∷ (128 + c % 64) ∷ []) ((240 + c / 262144) ∷ (128 + (c / 4096) % 64) ∷ (128 + (c / 64) % 64)
        ∷ (128 + c % 64) ∷ []))))
    by true y z = (here, tt)
    by false true z = (high (192 + c / 64) (omega arith), (high (128 + c % 64) (omega arith), tt))
    by false false true = (high (224 + c / 4096) (omega arith), (high (128 + (c / 64) % 64) (omega arith), (high (128 + c % 64) (omega arith), tt)))
    by false false false = (
      high (240 + c / 262144) (omega arith),
      (
        high (128 + (c / 4096) % 64) (omega arith),
        (
          high (128 + (c / 64) % 64) (omega arith),
          (high (128 + c % 64) (omega arith), tt),
        ),
      ),
    )

all_joined : (P : ℕ → Type 0) (xs ys : List ℕ) → AllByRecursion P xs → AllByRecursion P ys → AllByRecursion P (xs ++ ys)
all_joined P [] ys h k = k
all_joined P (x ∷ xs) ys h k = (h.0, all_joined P xs ys h.1 k)

-- what is no character of words
apart : (c d : ℕ) → is_xid_continue d ≡ false → is_xid_continue c ≡ true → c ≢ d
apart c d out is e = let clash : true ≡ false = sym is ∙ ap is_xid_continue e ∙ out in cc

plain_character : (c : ℕ) → is_xid_continue c ≡ true → IsNameCharacter c
plain_character c is = (
  apart c 40 (is_xid_continue-ascii 40 (omega arith)) is,
  apart c 41 (is_xid_continue-ascii 41 (omega arith)) is,
  apart c 58 (is_xid_continue-ascii 58 (omega arith)) is,
)

above : (byte : ℕ) → 128 ≤ byte → IsNameCharacter byte
above byte high = ((λ e. omega (arith, e, high)), (λ e. omega (arith, e, high)), (λ e. omega (arith, e, high)))

starts_continue : (c : ℕ) → StartsWord c → is_xid_continue c ≡ true
starts_continue c (inl start) = is_xid_start-is_xid_continue c start
starts_continue c (inr e) = ap is_xid_continue e ∙ is_xid_continue-ascii 95 (omega arith)

plain_text : (chars : List ℕ) → AllByRecursion ContinuesWord chars → IsNameText (encode_utf8_all chars)
plain_text [] h = tt
plain_text (c ∷ chars) h = all_joined IsNameCharacter (encode_utf8 c) (encode_utf8_all chars) (all_bytes IsNameCharacter c (plain_character c h.0) above)
    (plain_text chars h.1)

plain_word : (text : List ℕ) → IsWord text → IsNameText text
plain_word text w = subst IsNameText (sym w.spelled) (plain_text (w.first ∷ w.rest) (starts_continue w.first w.starts, w.continues))

-- THE PIECE THAT A NAME IS

here_or_later : (P : TokenKind → Type 0) (row : TokenKind) (rest : Option TokenKind) (kind : TokenKind) → P row → (rest ≡ Some kind → P kind) → (b : Bool)
    → cond b (Some row) rest ≡ Some kind → P kind
here_or_later P row rest kind is later true e = let same : row ≡ kind = cc in subst P same is
here_or_later P row rest kind is later false e = later e

-- what holds of the token of each row holds of one that is found
found_row : (P : TokenKind → Type 0) (table : List (List ℕ × TokenKind)) (text : List ℕ) (kind : TokenKind) → AllByRecursion (λ row. P row.1) table
    → kind_in table text ≡ Some kind → P kind
found_row P [] text kind all found = absurd (cc)
found_row P (row ∷ table) text kind all found = here_or_later P row.1 (kind_in table text) kind all.0 (found_row P table text kind all.1)
    (bytes_eq text row.0) found

abbrev IsNoName : TokenKind → Type 0
IsNoName kind = (text : List ℕ) → kind ≡ token.Name text → ⊥

no_word_is_name : (text : List ℕ) (kind : TokenKind) → kind_in reserved text ≡ Some kind → IsNoName kind
no_word_is_name text kind found = found_row IsNoName reserved text kind (
  (λ text e. cc),
  (
    (λ text e. cc),
    (
      (λ text e. cc),
      (
        (λ text e. cc),
        (
          (λ text e. cc),
          (
            (λ text e. cc),
            (
              (λ text e. cc),
              (
                (λ text e. cc),
                (
                  (λ text e. cc),
                  (
                    (λ text e. cc),
                    (
                      (λ text e. cc),
                      (
                        (λ text e. cc),
                        (
                          (λ text e. cc),
                          (
                            (λ text e. cc),
                            (
                              (λ text e. cc),
                              (
                                (λ text e. cc),
                                (
                                  (λ text e. cc),
                                  (
                                    (λ text e. cc),
                                    (
                                      (λ text e. cc),
                                      (
                                        (λ text e. cc),
                                        (
                                          (λ text e. cc),
                                          (
                                            (λ text e. cc),
                                            (
                                              (λ text e. cc),
                                              (
                                                (λ text e. cc),
                                                ((λ text e. cc), ((λ text e. cc), ((λ text e. cc), ((λ text e. cc), ((λ text e. cc), ((λ text e. cc), tt)))))),
                                              ),
                                            ),
                                          ),
                                        ),
                                      ),
                                    ),
                                  ),
                                ),
                              ),
                            ),
                          ),
                        ),
                      ),
                    ),
                  ),
                ),
              ),
            ),
          ),
        ),
      ),
    ),
  ),
) found

no_mark_is_name : (text : List ℕ) (kind : TokenKind) → kind_in marks text ≡ Some kind → IsNoName kind
no_mark_is_name text kind found = found_row IsNoName marks text kind (
  (λ text e. cc),
  (
    (λ text e. cc),
    (
      (λ text e. cc),
      (
        (λ text e. cc),
        (
          (λ text e. cc),
          (
            (λ text e. cc),
            (
              (λ text e. cc),
              (
                (λ text e. cc),
                (
                  (λ text e. cc),
                  (
                    (λ text e. cc),
                    (
                      (λ text e. cc),
                      (
                        (λ text e. cc),
                        (
                          (λ text e. cc),
                          (
                            (λ text e. cc),
                            (
                              (λ text e. cc),
                              (
                                (λ text e. cc),
                                (
                                  (λ text e. cc),
                                  (
                                    (λ text e. cc),
                                    (
                                      (λ text e. cc),
                                      (
                                        (λ text e. cc),
                                        (
                                          (λ text e. cc),
                                          (
                                            (λ text e. cc),
                                            (
                                              (λ text e. cc),
                                              (
                                                (λ text e. cc),
                                                (
                                                  (λ text e. cc),
                                                  (
                                                    (λ text e. cc),
                                                    (
                                                      (λ text e. cc),
                                                      ((λ text e. cc), ((λ text e. cc), ((λ text e. cc), ((λ text e. cc), ((λ text e. cc), tt))))),
                                                    ),
                                                  ),
                                                ),
                                              ),
                                            ),
                                          ),
                                        ),
                                      ),
                                    ),
                                  ),
                                ),
                              ),
                            ),
                          ),
                        ),
                      ),
                    ),
                  ),
                ),
              ),
            ),
          ),
        ),
      ),
    ),
  ),
) found

same_text : (one other : List ℕ) → token.Name one ≡ token.Name other → one ≡ other
same_text one other e = cc

-- a word whose token is a name
named_word : (text name : List ℕ) (o : Option TokenKind) → kind_in reserved text ≡ o → unwrap_or o (token.Name text) ≡ token.Name name → (text ≡ name)
    × (kind_in reserved text ≡ None)
named_word text name None none e = (same_text text name e, none)
named_word text name (Some kind) found e = absurd (no_word_is_name text kind found name e)

not_underscore : (text : List ℕ) → kind_in reserved text ≡ None → text ≢ codes "_"
not_underscore text none e = let clash : None ≡ Some token.Underscore = sym none ∙ ap (kind_in reserved) e in cc

abbrev IsName : List ℕ → Type 0
IsName name = IsNameText name × (name ≢ codes "_")

same_kind : (one other : TokenKind) → Some one ≡ Some other → one ≡ other
same_kind one other e = cc

spelt : {text : List ℕ} {piece : PieceKind} → IsPiece text piece → (kind : TokenKind) (name : List ℕ) → piece ≡ TokenPiece kind → kind ≡ token.Name name
    → IsName name
spelt (space at) kind name e is = absurd (cc)
spelt (line_comment at) kind name e is = absurd (cc)
spelt (block_comment at) kind name e is = absurd (cc)
spelt (open_comment at) kind name e is = absurd (cc)
spelt (word {text} at) kind name e is =
    let kind_is : word_token text ≡ kind = cc in
    let h = named_word text name (kind_in reserved text) refl (kind_is ∙ is) in
    (subst IsNameText h.0 (plain_word text at), λ under. not_underscore text h.1 (h.0 ∙ under))
spelt (number digit more) kind name e is = absurd (cc)
spelt (mark {text} {kind = spelled} found) kind name e is =
    let kind_is : spelled ≡ kind = cc in
    absurd (no_mark_is_name text spelled found name (kind_is ∙ is))

piece_is : (text name : List ℕ) (kind : PieceKind) → IsPiece text kind → token_of kind ≡ Some (token.Name name) → IsName name
piece_is text name Space is e = absurd (cc)
piece_is text name Comment is e = absurd (cc)
piece_is text name OpenComment is e = absurd (cc)
piece_is text name BadCharacter is e = absurd (cc)
piece_is text name (Number n) is e = absurd (cc)
piece_is text name (TokenPiece kind) is e = spelt is kind name refl (same_kind kind (token.Name name) e)

next_is : (text behind name : List ℕ) (piece : Piece) → IsNext text piece behind → token_of piece.kind ≡ Some (token.Name name) → IsName name
next_is text behind name piece (inl longest) e = piece_is piece.text name piece.kind longest.is_piece e
next_is text behind name piece (inr bad) e = let clash : None ≡ Some (token.Name name) = sym (ap token_of bad.is_bad) ∙ e in absurd (cc)

-- THE TOKENS

abbrev In : Token → List Token → Type 0
In it [] = ⊥
In it (t ∷ ts) = (t ≡ it) ⊎ In it ts

inside : (ts : List Token) (it : Token) → Contains ts it → In it ts
inside ts it h = at ts h.0 h.1 h.2
  where
    at : (ts : List Token) (k : ℕ) → k < length ts → get_or ts k it ≡ it → In it ts
    at [] k l e = absurd (omega (arith, l))
    at (t ∷ ts) zero l e = inl e
    at (t ∷ ts) (suc k) l e = inr (at ts k (omega arith) e)

in_front_is : (text behind name : List ℕ) (piece : Piece) → IsNext text piece behind → (span : Span) (first : Bool) (later : List Token) (it : Token)
    → (In it later → IsName name) → it.kind ≡ token.Name name → (o : Option TokenKind) → token_of piece.kind ≡ o → In it (in_front o first span later)
    → IsName name
in_front_is text behind name piece is span first later it rest e None none i = rest i
in_front_is text behind name piece is span first later it rest e (Some kind) found i =
    ⊎_elim (λ here. next_is text behind name piece is (found ∙ ap Some (ap (λ (t : Token). t.kind) here ∙ e))) rest i

named_token : {text behind : List ℕ} {pieces : List Piece} → Splits text pieces behind → (at : ℕ) (first : Bool) (it : Token) (name : List ℕ)
    → In it (tokens_of at first pieces) → it.kind ≡ token.Name name → IsName name
named_token done at first it name i e = absurd i
named_token (next {text} {mid} {behind} {piece} {pieces} is rest) at first it name i e =
    let later = tokens_of (at + length piece.text) (first_behind (token_of piece.kind) first piece.text) pieces in
    in_front_is text mid name piece is (record { from = at; to = at + length piece.text }) first later it
    (λ i. named_token rest (at + length piece.text) (first_behind (token_of piece.kind) first piece.text) it name i e) e (token_of piece.kind) refl i

pub is_name : (bytes : List ℕ) (tokens : List Token) (it : Token) (text : List ℕ) → HasTokens bytes tokens → Contains tokens it → it.kind ≡ token.Name text
    → IsName text
is_name bytes tokens it text has within e = named_token has.split 0 true it text (subst (In it) has.taken (inside tokens it within)) e
