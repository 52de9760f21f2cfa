-- What comes next in a text, by its first bytes.
use Rattle.std.proofs.Common.{◌≡◌, ◌≢◌, ℕ, suc, ◌<◌, ◌≤◌, ◌⊎◌, inl, inr, List, [], ◌∷◌, ◌++◌, length, refl, sym, ◌∙◌, ap, subst, arith, Some, None, Option}
use Rattle.std.proofs.Common.{length-append, append_assoc, append-nil}
use Rattle.std.specs.Char.{encode_utf8}
use Rattle.std.specs.List.{AllByRecursion}
use Rattle.std.specs.Str.{encode_utf8_all}
use Rattle.std.proofs.lemmas.Str.{encode_same, encode_ascii}
use Rattle.hy_lexer.specs.declared.scan.ByteClass.TheVariants as class
use Rattle.hy_lexer.specs.declared.token.TokenKind.{TokenKind}
use Rattle.hy_lexer.specs.Pieces.{PieceKind, Space, Comment, OpenComment, BadCharacter, Number, Token, IsPiece, IsWord, IsSpace, IsDigit, IsNumberByte}
use Rattle.hy_lexer.specs.Pieces.{StartsWord, ContinuesWord, number_of, Nests, IsNext, space, line_comment, block_comment, open_comment, word, number, mark}
use Rattle.hy_lexer.specs.Scans.{class_of, class_at, StopsAt, StopsWord, OnlyMarks}
use Rattle.hy_lexer.specs.Words.{kind_in, marks, pairs, singles, word_token}
use Rattle.hy_lexer.proofs.Comments.{within_closed, EndsEarlier}
use Rattle.hy_lexer.proofs.Forms.{not_empty, space_form, word_form, number_form, mark_form, slash_form, IsSlashForm, line, closed, unclosed, marked, IsMark}
use Rattle.hy_lexer.proofs.Forms.{mark_size, class_of-digit, class_at-word}
use Rattle.hy_lexer.proofs.Tables.{kind_in-All, kind_in-either, kind_in-append, kind_in_lacks}

-- a piece that a text begins with has its first byte
first_same : (text more rest : List ℕ) (kind : PieceKind) → text ≡ more ++ rest → IsPiece more kind → class_at more ≡ class_at text
first_same text [] rest kind e p = absurd (omega (arith, not_empty [] kind p))
first_same text (byte ∷ more) rest kind e p = sym (ap class_at e)

is_longest : (front behind : List ℕ) (kind : PieceKind) → IsPiece front kind
    → ((more : List ℕ) (it : PieceKind) (rest : List ℕ) → front ++ behind ≡ more ++ rest → IsPiece more it → length more ≤ length front)
    → IsNext (front ++ behind) (record { text = front; kind = kind }) behind
is_longest front behind kind p longest = inl (record { joined = refl; is_piece = p; longest = longest })

pub next_space : (byte : ℕ) (behind : List ℕ) → class_of byte ≡ class.Space → IsSpace byte
    → IsNext (byte ∷ behind) (record { text = byte ∷ []; kind = Space }) behind
next_space byte behind e h = is_longest (byte ∷ []) behind Space (space h)
    (λ more it rest same p. omega (arith, (space_form more it p (first_same (byte ∷ behind) more rest it same p ∙ e)).1))

run_longest : (Is : ℕ → Type 0) (front behind more rest : List ℕ) → front ++ behind ≡ more ++ rest → AllByRecursion Is more → StopsAt Is behind
    → length more ≤ length front
run_longest Is front behind [] rest e all stops = omega arith
run_longest Is [] behind (byte ∷ more) rest e all stops = absurd (stops byte (more ++ rest) e all.0)
run_longest Is (one ∷ front) behind (byte ∷ more) rest e all stops =
    let tail : front ++ behind ≡ more ++ rest = cc in omega (arith, run_longest Is front behind more rest tail all.1 stops)

pub next_number : (byte : ℕ) (front behind : List ℕ) → IsDigit byte → AllByRecursion IsNumberByte front → StopsAt IsNumberByte behind
    → IsNext (byte ∷ (front ++ behind)) (record { text = byte ∷ front; kind = Number (number_of (byte ∷ front)) }) behind
next_number byte front behind digit all stops = is_longest (byte ∷ front) behind (Number (number_of (byte ∷ front))) (number digit all)
    (λ more it rest same p. run_longest IsNumberByte (byte ∷ front) behind more rest same
    (number_form more it p (first_same (byte ∷ (front ++ behind)) more rest it same p ∙ class_of-digit byte digit)).1 stops)

word_longest : (front more : List ℕ) (behind rest : List ℕ) → encode_utf8_all front ++ behind ≡ encode_utf8_all more ++ rest
    → AllByRecursion ContinuesWord more → StopsWord behind → length (encode_utf8_all more) ≤ length (encode_utf8_all front)
word_longest front [] behind rest e all stops = omega arith
word_longest [] (c ∷ more) behind rest e all stops = absurd (stops c (encode_utf8_all more ++ rest) (e ∙ rw append_assoc) all.0)
word_longest (d ∷ front) (c ∷ more) behind rest e all stops =
    let both = encode_same d c (encode_utf8_all front ++ behind) (encode_utf8_all more ++ rest) (rw (← append_assoc) (rw (← append_assoc) e)) in
    omega (
      arith,
      word_longest front more behind rest both.1 all.1 stops,
      length-append (encode_utf8 d) (encode_utf8_all front),
      length-append (encode_utf8 c) (encode_utf8_all more),
      ap (λ n. length (encode_utf8 n)) both.0,
    )

word_within : (front behind more rest : List ℕ) (w : IsWord front) (v : IsWord more) → front ++ behind ≡ more ++ rest → StopsWord behind
    → length more ≤ length front
word_within front behind more rest w v same stops =
    let e : encode_utf8 w.first ++ (encode_utf8_all w.rest ++ behind) ≡ encode_utf8 v.first ++ (encode_utf8_all v.rest ++ rest) =
    rw (← append_assoc, ← append_assoc) (sym (ap (λ t. t ++ behind) w.spelled) ∙ same ∙ ap (λ t. t ++ rest) v.spelled) in
    let both = encode_same w.first v.first (encode_utf8_all w.rest ++ behind) (encode_utf8_all v.rest ++ rest) e in
    omega (
      arith,
      word_longest w.rest v.rest behind rest both.1 v.continues stops,
      ap (λ n. length (encode_utf8 n)) both.0,
      ap length w.spelled,
      ap length v.spelled,
      length-append (encode_utf8 w.first) (encode_utf8_all w.rest),
      length-append (encode_utf8 v.first) (encode_utf8_all v.rest),
    )

pub next_word : (front behind : List ℕ) → IsWord front → StopsWord behind
    → IsNext (front ++ behind) (record { text = front; kind = Token (word_token front) }) behind
next_word front behind w stops = is_longest front behind (Token (word_token front)) (word w)
    (λ more it rest same p.
    let e : class_at more ≡ class.Word = first_same (front ++ behind) more rest it same p
    ∙ sym (first_same (front ++ behind) front behind (Token (word_token front)) refl (word w)) ∙ class_at-word front w in
    word_within front behind more rest w (word_form more it p e).1 same stops)

-- a character that begins no word, and is no ASCII
pub bad_character : (c : ℕ) (behind : List ℕ) → class_at (encode_utf8 c ++ behind) ≡ class.Word → (StartsWord c → ⊥)
    → IsNext (encode_utf8 c ++ behind) (record { text = encode_utf8 c; kind = BadCharacter }) behind
bad_character c behind e free = inr (record {
  joined = refl;
  character = (c, refl);
  is_bad = refl;
  none = λ more kind rest same p.
      let w : IsWord more = (word_form more kind p (first_same (encode_utf8 c ++ behind) more rest kind same p ∙ e)).1 in
      let both = encode_same c w.first behind (encode_utf8_all w.rest ++ rest) (same ∙ ap (λ t. t ++ rest) w.spelled ∙ rw append_assoc) in
      free (subst StartsWord (sym both.0) w.starts);
})

-- marks
pub only_marks : (text : List ℕ) → class_at text ≡ class.Mark → OnlyMarks text
only_marks text e more kind rest same p = mark_form more kind p (first_same text more rest kind same p ∙ e)

in_pairs : (text : List ℕ) (it : TokenKind) → kind_in marks text ≡ Some it → length text ≡ 2 → kind_in pairs text ≡ Some it
in_pairs text it found two = elim (kind_in-either pairs singles text it found) [
  | inl h ↦ h
  | inr h ↦ let one : length text ≡ 1 =
      kind_in-All (λ t. length t ≡ 1) singles text it (
        refl,
        (
          refl,
          (
            refl,
            (refl, (refl, (refl, (refl, (refl, (refl, (refl, (refl, (refl, (refl, (refl, (refl, (refl, (refl, (refl, (refl, (refl, tt))))))))))))))))),
          ),
        ),
      ) h in
      absurd (omega arith)
]

in_singles : (text : List ℕ) (it : TokenKind) → kind_in marks text ≡ Some it → length text ≡ 1 → kind_in singles text ≡ Some it
in_singles text it found one = elim (kind_in-either pairs singles text it found) [
  | inl h ↦ let two : length text ≡ 2 =
      kind_in-All (λ t. length t ≡ 2) pairs text it (refl, (refl, (refl, (refl, (refl, (refl, (refl, (refl, (refl, (refl, (refl, (refl, tt)))))))))))) h in
      absurd (omega arith)
  | inr h ↦ h
]

pub next_pair : (a b : ℕ) (behind : List ℕ) (it : TokenKind) → OnlyMarks (a ∷ b ∷ behind) → kind_in pairs (a ∷ b ∷ []) ≡ Some it
    → IsNext (a ∷ b ∷ behind) (record { text = a ∷ b ∷ []; kind = Token it }) behind
next_pair a b behind it only found = is_longest (a ∷ b ∷ []) behind (Token it) (mark (kind_in-append pairs singles (a ∷ b ∷ []) it found))
    (λ more kind rest same p. let m = only more kind rest same p in elim (mark_size more m.0 m.2) [ inl h ↦ omega arith | inr h ↦ omega arith ])

-- no mark of two bytes begins with this one
abbrev pub NoPair : ℕ → List ℕ → Type 0
NoPair a behind = (b : ℕ) (rest : List ℕ) → behind ≡ b ∷ rest → kind_in pairs (a ∷ b ∷ []) ≡ None

not_longer : (a : ℕ) (behind more rest : List ℕ) (it : TokenKind) → NoPair a behind → a ∷ behind ≡ more ++ rest → kind_in marks more ≡ Some it
    → length more ≡ 2 → ⊥
not_longer a behind [] rest it free same found two = omega arith
not_longer a behind (b ∷ []) rest it free same found two = omega arith
not_longer a behind (b ∷ c ∷ []) rest it free same found two =
    let e : kind_in pairs (a ∷ c ∷ []) ≡ None = free c rest (cc) in
    let f : kind_in pairs (b ∷ c ∷ []) ≡ Some it = in_pairs (b ∷ c ∷ []) it found two in
    let same_byte : a ≡ b = cc in
    let g : None ≡ Some it = sym e ∙ ap (λ n. kind_in pairs (n ∷ c ∷ [])) same_byte ∙ f in cc
not_longer a behind (b ∷ c ∷ d ∷ more) rest it free same found two = omega arith

differ : ◌≡◌ {A = ℕ} 1 2 → ⊥
differ e = omega (arith, e)

one_byte_no_pair : (a : ℕ) (it : TokenKind) → kind_in pairs (a ∷ []) ≡ Some it → ⊥
one_byte_no_pair a it h =
    differ (kind_in-All (λ t. length t ≡ 2) pairs (a ∷ []) it (
      refl,
      (refl, (refl, (refl, (refl, (refl, (refl, (refl, (refl, (refl, (refl, (refl, tt))))))))))),
    ) h)

no_pair_alone : (a : ℕ) (found : Option TokenKind) → kind_in pairs (a ∷ []) ≡ found → kind_in pairs (a ∷ []) ≡ None
no_pair_alone a None e = e
no_pair_alone a (Some it) e = absurd (one_byte_no_pair a it e)

pub next_single : (a : ℕ) (behind : List ℕ) (it : TokenKind) → OnlyMarks (a ∷ behind) → NoPair a behind → kind_in singles (a ∷ []) ≡ Some it
    → IsNext (a ∷ behind) (record { text = a ∷ []; kind = Token it }) behind
next_single a behind it only free found = is_longest (a ∷ []) behind (Token it) (mark (kind_in_lacks pairs singles (a ∷ []) (no_pair_alone a _ refl) ∙ found))
    (λ more kind rest same p. let m = only more kind rest same p in
    elim (mark_size more m.0 m.2) [ inl h ↦ omega arith | inr h ↦ absurd (not_longer a behind more rest m.0 free same m.2 h) ])

no_mark_at_all : (a : ℕ) (behind more rest : List ℕ) (it : TokenKind) → NoPair a behind → kind_in singles (a ∷ []) ≡ None → a ∷ behind ≡ more ++ rest
    → kind_in marks more ≡ Some it → length more ≡ 1 → ⊥
no_mark_at_all a behind [] rest it free none same found one = omega arith
no_mark_at_all a behind (b ∷ []) rest it free none same found one =
    let same_byte : a ≡ b = cc in
    let g : None ≡ Some it = sym none ∙ ap (λ n. kind_in singles (n ∷ [])) same_byte ∙ in_singles (b ∷ []) it found one in cc
no_mark_at_all a behind (b ∷ c ∷ more) rest it free none same found one = omega arith

pub bad_mark : (a : ℕ) (behind : List ℕ) → a < 128 → OnlyMarks (a ∷ behind) → NoPair a behind → kind_in singles (a ∷ []) ≡ None
    → IsNext (a ∷ behind) (record { text = a ∷ []; kind = BadCharacter }) behind
bad_mark a behind small only free none = inr (record {
  joined = refl;
  character = (a, sym (encode_ascii a small));
  is_bad = refl;
  none = λ more kind rest same p. let m = only more kind rest same p in
      elim (mark_size more m.0 m.2) [
        | inl h ↦ no_mark_at_all a behind more rest m.0 free none same m.2 h
        | inr h ↦
            not_longer a behind more rest m.0 free same m.2 h
      ];
})

-- comments
same_second : (a b c d : ℕ) (x y : List ℕ) → a ∷ b ∷ x ≡ c ∷ d ∷ y → b ≡ d
same_second a b c d x y e = cc

behind_two : (a b c d : ℕ) (x y : List ℕ) → a ∷ b ∷ x ≡ c ∷ d ∷ y → x ≡ y
behind_two a b c d x y e = cc

apart : ◌≡◌ {A = ℕ} 47 42 → ⊥
apart e = omega (arith, e)

line_longest : (body behind more rest : List ℕ) (kind : PieceKind) → IsSlashForm more kind → StopsAt (λ byte. byte ≢ 10) behind
    → 47 ∷ 47 ∷ (body ++ behind) ≡ more ++ rest → length more ≤ length (47 ∷ 47 ∷ body)
line_longest body behind more rest kind (line {text = text} all) stops same =
    omega (arith, run_longest (λ byte. byte ≢ 10) body behind text rest (behind_two _ _ _ _ _ _ same) all stops)
line_longest body behind more rest kind (closed h) stops same = absurd (apart (same_second _ _ _ _ _ _ same))
line_longest body behind more rest kind (unclosed h) stops same = absurd (apart (same_second _ _ _ _ _ _ same))
line_longest body behind more rest kind (marked {it = it} found) stops same = elim (mark_size more it found) [ inl h ↦ omega arith | inr h ↦ omega arith ]

pub next_line : (body behind : List ℕ) → AllByRecursion (λ byte. byte ≢ 10) body → StopsAt (λ byte. byte ≢ 10) behind
    → IsNext (47 ∷ 47 ∷ (body ++ behind)) (record { text = 47 ∷ 47 ∷ body; kind = Comment }) behind
next_line body behind all stops = is_longest (47 ∷ 47 ∷ body) behind Comment (line_comment all)
    (λ more it rest same p. line_longest body behind more rest it (slash_form more it p (first_same (47 ∷ 47 ∷ (body ++ behind)) more rest it same p)) stops
    same)

no_longer : (inner more : List ℕ) (new : ℕ) → EndsEarlier inner more new → length more ≤ length inner
no_longer inner more new (inl h) = omega arith
no_longer inner more new (inr h) = omega (arith, ap length h.0)

block_longest : (inner behind more rest : List ℕ) (kind : PieceKind) → Nests 1 inner 0 → IsSlashForm more kind → 47 ∷ 42 ∷ (inner ++ behind) ≡ more ++ rest
    → length more ≤ length (47 ∷ 42 ∷ inner)
block_longest inner behind more rest kind h (line all) same = absurd (apart (sym (same_second _ _ _ _ _ _ same)))
block_longest inner behind more rest kind h (closed {text = text} d) same =
    omega (arith, no_longer inner text 0 (within_closed 1 0 inner h refl 0 text behind rest d (behind_two _ _ _ _ _ _ same)))
block_longest inner behind more rest kind h (unclosed {text = text} {level = level} d) same =
    omega (arith, no_longer inner text (suc level) (within_closed 1 0 inner h refl (suc level) text behind rest d (behind_two _ _ _ _ _ _ same)))
block_longest inner behind more rest kind h (marked {it = it} found) same = elim (mark_size more it found) [ inl h ↦ omega arith | inr h ↦ omega arith ]

pub next_block : (inner behind : List ℕ) → Nests 1 inner 0 → IsNext (47 ∷ 42 ∷ (inner ++ behind)) (record { text = 47 ∷ 42 ∷ inner; kind = Comment }) behind
next_block inner behind h = is_longest (47 ∷ 42 ∷ inner) behind Comment (block_comment h)
    (λ more it rest same p. block_longest inner behind more rest it h (slash_form more it p (first_same (47 ∷ 42 ∷ (inner ++ behind)) more rest it same p))
    same)

pub next_open : (inner : List ℕ) (level : ℕ) → Nests 1 inner (suc level) → IsNext (47 ∷ 42 ∷ inner) (record { text = 47 ∷ 42 ∷ inner; kind = OpenComment }) []
next_open inner level h = inl (record {
  joined = rw append-nil;
  is_piece = open_comment h;
  longest = λ more it rest same p. omega (arith, ap length same, length-append more rest);
})

slash_is_mark : (behind more rest : List ℕ) (kind : PieceKind) → StopsAt (λ byte. (byte ≡ 47) ⊎ (byte ≡ 42)) behind → IsSlashForm more kind
    → 47 ∷ behind ≡ more ++ rest → IsMark more kind
slash_is_mark behind more rest kind stops (line {text = text} h) same = absurd (stops 47 (text ++ rest) (cc) (inl refl))
slash_is_mark behind more rest kind stops (closed {text = text} h) same = absurd (stops 42 (text ++ rest) (cc) (inr refl))
slash_is_mark behind more rest kind stops (unclosed {text = text} h) same = absurd (stops 42 (text ++ rest) (cc) (inr refl))
slash_is_mark behind more rest kind stops (marked {it = it} found) same = (it, refl, found)

-- a slash that begins no comment
pub only_slash : (behind : List ℕ) → StopsAt (λ byte. (byte ≡ 47) ⊎ (byte ≡ 42)) behind → OnlyMarks (47 ∷ behind)
only_slash behind stops more kind rest same p =
    slash_is_mark behind more rest kind stops (slash_form more kind p (first_same (47 ∷ behind) more rest kind same p)) same

pub ruleset all_lemmas = (next_space, next_number, next_word)
