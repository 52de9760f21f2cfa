-- What the functions of the scanner find.
use Rattle.std.proofs.Common.{◌≡◌, ◌≢◌, ℕ, suc, ◌+◌, ◌-◌, ◌<◌, inl, inr, List, [], ◌∷◌, ◌++◌, length, get_or, drop, refl, sym, ◌∙◌, ap, subst, arith, Some}
use Rattle.std.proofs.Common.{None, true, false, Bool, nat_lt, ◌==◌, length-append, append_assoc, ltb-true, ltb-false, cond, take, take_all, length-drop}
use Rattle.std.specs.Char.{encode_utf8}
use Rattle.std.specs.List.{AllByRecursion}
use Rattle.std.specs.Str.{IsUtf8, IsCharBoundary, encode_utf8_all}
use Rattle.std.proofs.lemmas.Bool.Decides.{eqb_tells}
use Rattle.std.proofs.lemmas.Str.{encode_ascii, IsUtf8-past_char, IsCharBoundary-at_seam, IsCharBoundary-after_ascii, IsCharBoundary-before_ascii}
use Rattle.std.proofs.lemmas.Str.{IsCharBoundary-end, IsUtf8-nil}
use Rattle.hy_lexer.specs.declared.scan.ByteClass.{ByteClass}
use Rattle.hy_lexer.specs.declared.scan.ByteClass.TheVariants as class
use Rattle.hy_lexer.specs.declared.scan.Shape.{Shape}
use Rattle.hy_lexer.specs.declared.scan.Shape.TheVariants as shape
use Rattle.hy_lexer.specs.declared.token.TokenKind.{TokenKind}
use Rattle.hy_lexer.specs.Pieces.{Comment, OpenComment, IsNext, IsWord, IsSpace, IsDigit, IsNumberByte, StartsWord, Nests}
use Rattle.hy_lexer.specs.Scans.{Scans, IsRun, IsWordRun, Begins, IsClosed, IsOpen, OnlyMarks, HasSecond, BeginsInAscii, BeginsWithPair, LacksPair}
use Rattle.hy_lexer.specs.Scans.{class_of, class_at, piece_kind}
use Rattle.hy_lexer.specs.Words.{kind_in, pairs, singles}
use Rattle.hy_lexer.proofs.Comments.{closed_ends}
use Rattle.hy_lexer.proofs.Longest.{next_space, next_number, next_word, next_pair, next_single, next_line, next_block, next_open, bad_mark, bad_character}
use Rattle.hy_lexer.proofs.Longest.{only_marks, only_slash, NoPair}
use Rattle.hy_lexer.proofs.Tables.{kind_in-All}

scans : (text front behind : List ℕ) (it : Shape) (count : ℕ) → count ≡ length front
    → IsNext text (record { text = front; kind = piece_kind it front }) behind → IsCharBoundary text count
    → Scans text (record { shape = it; length = count })
scans text front behind it count e n cut = record { front = front; behind = behind; size = e; next = n; cut = cut }

-- where a character ends
cut_at : (text front behind : List ℕ) (count : ℕ) → text ≡ front ++ behind → count ≡ length front → IsUtf8 behind → IsCharBoundary text count
cut_at text front behind count e size utf8 = subst (IsCharBoundary text) (sym size) (IsCharBoundary-at_seam text front behind e utf8)

past_ascii : (byte : ℕ) (rest : List ℕ) → byte < 128 → IsUtf8 (byte ∷ rest) → IsUtf8 rest
past_ascii byte rest small utf8 = IsUtf8-past_char (byte ∷ rest) rest byte utf8 (ap (λ t. t ++ rest) (sym (encode_ascii byte small)))

abbrev IsSmall : ℕ → Type 0
IsSmall byte = byte < 128

past_all : (front behind : List ℕ) → AllByRecursion IsSmall front → IsUtf8 (front ++ behind) → IsUtf8 behind
past_all [] behind all utf8 = utf8
past_all (byte ∷ front) behind all utf8 = past_all front behind all.1 (past_ascii byte (front ++ behind) all.0 utf8)

-- the tests of a class, one by one
never_space : (digit low upper underscore high lower ascii : Bool)
    → cond digit class.Digit
    (cond low class.Mark
    (cond upper class.Word (cond underscore class.Word (cond high class.Mark (cond lower class.Word (cond ascii class.Mark class.Word))))))
    ≡ class.Space → ⊥
never_space true low upper underscore high lower ascii e = cc
never_space false true upper underscore high lower ascii e = cc
never_space false false true underscore high lower ascii e = cc
never_space false false false true high lower ascii e = cc
never_space false false false false true lower ascii e = cc
never_space false false false false false true ascii e = cc
never_space false false false false false false true e = cc
never_space false false false false false false false e = cc

low_or_high : (below blank feed tab return slash : Bool) (high : ByteClass) → blank ≡ false → feed ≡ false → tab ≡ false → return ≡ false
    → (high ≡ class.Space → ⊥)
    → cond below (cond blank class.Space (cond feed class.Space (cond tab class.Space (cond return class.Space (cond slash class.Slash class.Mark)))))
    high ≡ class.Space → ⊥
low_or_high false blank feed tab return slash high a b d f other e = other e
low_or_high true true feed tab return slash high a b d f other e = cc
low_or_high true false true tab return slash high a b d f other e = cc
low_or_high true false false true return slash high a b d f other e = cc
low_or_high true false false false true slash high a b d f other e = cc
low_or_high true false false false false true high a b d f other e = cc
low_or_high true false false false false false high a b d f other e = cc

never_digit : (low upper underscore high lower ascii : Bool)
    → cond low class.Mark
    (cond upper class.Word (cond underscore class.Word (cond high class.Mark (cond lower class.Word (cond ascii class.Mark class.Word))))) ≡ class.Digit
    → ⊥
never_digit true upper underscore high lower ascii e = cc
never_digit false true underscore high lower ascii e = cc
never_digit false false true high lower ascii e = cc
never_digit false false false true lower ascii e = cc
never_digit false false false false true ascii e = cc
never_digit false false false false false true e = cc
never_digit false false false false false false e = cc

never_slash : (digit low upper underscore high lower ascii : Bool)
    → cond digit class.Digit
    (cond low class.Mark
    (cond upper class.Word (cond underscore class.Word (cond high class.Mark (cond lower class.Word (cond ascii class.Mark class.Word))))))
    ≡ class.Slash → ⊥
never_slash true low upper underscore high lower ascii e = cc
never_slash false true upper underscore high lower ascii e = cc
never_slash false false true underscore high lower ascii e = cc
never_slash false false false true high lower ascii e = cc
never_slash false false false false true lower ascii e = cc
never_slash false false false false false true ascii e = cc
never_slash false false false false false false true e = cc
never_slash false false false false false false false e = cc

no_slash : (below blank feed tab return slash : Bool) (high : ByteClass) → slash ≡ false → (high ≡ class.Slash → ⊥)
    → cond below (cond blank class.Space (cond feed class.Space (cond tab class.Space (cond return class.Space (cond slash class.Slash class.Mark)))))
    high ≡ class.Slash → ⊥
no_slash false blank feed tab return slash high f other e = other e
no_slash true true feed tab return slash high f other e = cc
no_slash true false true tab return slash high f other e = cc
no_slash true false false true return slash high f other e = cc
no_slash true false false false true slash high f other e = cc
no_slash true false false false false true high f other e = cc
no_slash true false false false false false high f other e = cc

low_no_digit : (blank feed tab return slash : Bool)
    → cond blank class.Space (cond feed class.Space (cond tab class.Space (cond return class.Space (cond slash class.Slash class.Mark)))) ≡ class.Digit → ⊥
low_no_digit true feed tab return slash e = cc
low_no_digit false true tab return slash e = cc
low_no_digit false false true return slash e = cc
low_no_digit false false false true slash e = cc
low_no_digit false false false false true e = cc
low_no_digit false false false false false e = cc

digit_range : (below digit : Bool) (low high : ByteClass) → (low ≡ class.Digit → ⊥) → (high ≡ class.Digit → ⊥)
    → cond below low (cond digit class.Digit high) ≡ class.Digit → (below ≡ false) × (digit ≡ true)
digit_range true digit low high a b e = absurd (a e)
digit_range false true low high a b e = (refl, refl)
digit_range false false low high a b e = absurd (b e)

-- a space
is_space : (byte : ℕ) → class_of byte ≡ class.Space → IsSpace byte
is_space byte e = elim (eqb_tells byte 32) [
  | inl h ↦ inl h.1
  | inr a ↦ elim (eqb_tells byte 9) [
    | inl h ↦ inr (inl h.1)
    | inr b ↦ elim (eqb_tells byte 13) [
      | inl h ↦ inr (inr (inl h.1))
      | inr d ↦ elim (eqb_tells byte 10) [
        | inl h ↦ inr (inr (inr h.1))
        | inr f ↦
            absurd (low_or_high (nat_lt byte 48) (byte == 32) (byte == 10) (byte == 9) (byte == 13) (byte == 47) _ a.0 f.0 b.0 d.0
            (never_space (nat_lt byte 58) (nat_lt byte 65) (nat_lt byte 91) (byte == 95) (nat_lt byte 97) (nat_lt byte 123) (nat_lt byte 128)) e)
      ]
    ]
  ]
]

small_space : (byte : ℕ) → IsSpace byte → byte < 128
small_space byte (inl h) = omega arith
small_space byte (inr (inl h)) = omega arith
small_space byte (inr (inr (inl h))) = omega arith
small_space byte (inr (inr (inr h))) = omega arith

pub scan_space : (text : List ℕ) → 0 < length text → IsUtf8 text → class_of (get_or text 0 0) ≡ class.Space
    → Scans text (record { shape = shape.Space; length = 1 })
scan_space [] some utf8 e = absurd (omega arith)
scan_space (byte ∷ behind) some utf8 e =
    let is = is_space byte e in
    scans (byte ∷ behind) (byte ∷ []) behind shape.Space 1 refl (next_space byte behind e is)
    (cut_at (byte ∷ behind) (byte ∷ []) behind 1 refl refl (past_ascii byte behind (small_space byte is) utf8))

-- a number
is_digit : (byte : ℕ) → class_of byte ≡ class.Digit → IsDigit byte
is_digit byte e =
    let both = digit_range (nat_lt byte 48) (nat_lt byte 58) _ _ (low_no_digit (byte == 32) (byte == 10) (byte == 9) (byte == 13) (byte == 47))
    (never_digit (nat_lt byte 65) (nat_lt byte 91) (byte == 95) (nat_lt byte 97) (nat_lt byte 123) (nat_lt byte 128)) e in
    (ltb-false byte 48 both.0, omega (arith, ltb-true byte 58 both.1))

small_digits : (front : List ℕ) → AllByRecursion IsNumberByte front → AllByRecursion IsSmall front
small_digits [] all = tt
small_digits (byte ∷ front) all = (elim all.0 [ inl h ↦ omega arith | inr h ↦ omega arith ], small_digits front all.1)

number_run : (text front behind : List ℕ) (count : ℕ) → text ≡ front ++ behind → AllByRecursion IsNumberByte front
    → ((byte : ℕ) (rest : List ℕ) → behind ≡ byte ∷ rest → IsNumberByte byte → ⊥) → count ≡ length front → IsUtf8 text → class_at text ≡ class.Digit
    → Scans text (record { shape = shape.Number; length = count })
number_run [] front behind count e all stops size utf8 d = cc
number_run (byte ∷ text) [] behind count e all stops size utf8 d = absurd (stops byte text (sym e) (inl (is_digit byte d)))
number_run (byte ∷ text) (one ∷ front) behind count e all stops size utf8 d =
    let same : byte ≡ one = cc in
    let digit : IsDigit one = is_digit one (ap class_of (sym same) ∙ d) in
    subst (λ t. Scans t (record { shape = shape.Number; length = count })) (sym e)
    (scans (one ∷ (front ++ behind)) (one ∷ front) behind shape.Number count size (next_number one front behind digit all.1 stops)
    (cut_at (one ∷ (front ++ behind)) (one ∷ front) behind count refl size
    (past_all (one ∷ front) behind (small_digits (one ∷ front) all) (subst IsUtf8 e utf8))))

pub scan_number : (text : List ℕ) (count : ℕ) → IsUtf8 text → class_at text ≡ class.Digit → IsRun IsNumberByte text count
    → Scans text (record { shape = shape.Number; length = count })
scan_number text count utf8 d run = number_run text run.front run.behind count run.joined run.all run.stops run.size utf8 d

-- a word
pub scan_word : (text behind after : List ℕ) (c count : ℕ) → text ≡ encode_utf8 c ++ behind → StartsWord c → IsWordRun behind after → IsUtf8 after
    → count ≡ length text - length after → Scans text (record { shape = shape.Word; length = count })
scan_word text behind after c count e starts run utf8 size =
    let front = encode_utf8 c ++ encode_utf8_all run.front in
    let whole : text ≡ front ++ after = e ∙ ap (λ t. encode_utf8 c ++ t) run.joined ∙ rw append_assoc in
    let l : count ≡ length front = omega (arith, ap length whole, length-append front after) in
    let w : IsWord front = record { first = c; rest = run.front; starts = starts; continues = run.all; spelled = refl } in
    scans text front after shape.Word count l (subst (λ t. IsNext t (record { text = front; kind = piece_kind shape.Word front }) after) (sym whole)
    (next_word front after w run.stops))
    (cut_at text front after count whole l utf8)

pub scan_bad_character : (text behind : List ℕ) (c count : ℕ) → text ≡ encode_utf8 c ++ behind → (StartsWord c → ⊥) → class_at text ≡ class.Word
    → IsUtf8 behind → count ≡ length text - length behind
    → Scans text (record { shape = shape.BadCharacter; length = count })
scan_bad_character text behind c count e free d utf8 size =
    let l : count ≡ length (encode_utf8 c) = omega (arith, ap length e, length-append (encode_utf8 c) behind) in
    scans text (encode_utf8 c) behind shape.BadCharacter count l
    (subst (λ t. IsNext t (record { text = encode_utf8 c; kind = piece_kind shape.BadCharacter (encode_utf8 c) }) behind) (sym e)
    (bad_character c behind (subst (λ t. class_at t ≡ class.Word) e d) free))
    (cut_at text (encode_utf8 c) behind count e l utf8)

-- comments
at_seam : (front rest : List ℕ) (byte : ℕ) → get_or (front ++ byte ∷ rest) (length front) 0 ≡ byte
at_seam [] rest byte = refl
at_seam (x ∷ front) rest byte = at_seam front rest byte

line_cut : (text front behind : List ℕ) → text ≡ front ++ behind → ((byte : ℕ) (rest : List ℕ) → behind ≡ byte ∷ rest → byte ≢ 10 → ⊥)
    → IsCharBoundary text (length front)
line_cut text front [] e stops = cut_at text front [] (length front) e refl IsUtf8-nil
line_cut text front (byte ∷ rest) e stops = elim (eqb_tells byte 10) [
  | inl h ↦ IsCharBoundary-before_ascii text (length front) (omega (arith, ap length e, length-append front (byte ∷ rest)))
      (omega (arith, ap (λ t. get_or t (length front) 0) e, at_seam front rest byte, h.1))
  | inr h ↦ absurd (stops byte rest refl h.1)
]

pub scan_line : (text : List ℕ) (count : ℕ) → Begins 47 47 text → IsRun (λ byte. byte ≢ 10) (drop 2 text) count
    → Scans text (record { shape = shape.Comment; length = 2 + count })
scan_line text count begins run =
    let inner : begins.0 ≡ run.front ++ run.behind = sym (ap (drop 2) begins.1) ∙ run.joined in
    let whole : text ≡ 47 ∷ 47 ∷ (run.front ++ run.behind) = begins.1 ∙ ap (λ t. 47 ∷ 47 ∷ t) inner in
    let size : 2 + count ≡ length (47 ∷ 47 ∷ run.front) = omega (arith, run.size) in
    scans text (47 ∷ 47 ∷ run.front) run.behind shape.Comment (2 + count) size
    (subst (λ t. IsNext t (record { text = 47 ∷ 47 ∷ run.front; kind = Comment }) run.behind) (sym whole) (next_line run.front run.behind run.all run.stops))
    (subst (IsCharBoundary text) (sym size) (line_cut text (47 ∷ 47 ∷ run.front) run.behind whole run.stops))

block_cut : (text front behind init : List ℕ) → text ≡ front ++ behind → front ≡ init ++ 47 ∷ [] → IsUtf8 text → IsCharBoundary text (length front)
block_cut text front behind init e ends utf8 =
    let whole : text ≡ init ++ 47 ∷ behind = e ∙ ap (λ t. t ++ behind) ends ∙ rw append_assoc in
    let size : length front ≡ length init + 1 = omega (arith, ap length ends, length-append init (47 ∷ [])) in
    subst (IsCharBoundary text) (sym size)
    (IsCharBoundary-after_ascii text (length init) utf8 (omega (arith, ap length whole, length-append init (47 ∷ behind)))
    (omega (arith, ap (λ t. get_or t (length init) 0) whole, at_seam init behind 47)))

pub scan_block : (text : List ℕ) (count : ℕ) → IsUtf8 text → Begins 47 42 text → IsClosed (drop 2 text) count
    → Scans text (record { shape = shape.Comment; length = 2 + count })
scan_block text count utf8 begins (front, behind, joined, nests, size) =
    let inner : begins.0 ≡ front ++ behind = sym (ap (drop 2) begins.1) ∙ joined in
    let whole : text ≡ 47 ∷ 42 ∷ (front ++ behind) = begins.1 ∙ ap (λ t. 47 ∷ 42 ∷ t) inner in
    let long : 2 + count ≡ length (47 ∷ 42 ∷ front) = omega (arith, size) in
    let ends = closed_ends 1 0 front nests (omega arith) refl in
    scans text (47 ∷ 42 ∷ front) behind shape.Comment (2 + count) long
    (subst (λ t. IsNext t (record { text = 47 ∷ 42 ∷ front; kind = Comment }) behind) (sym whole) (next_block front behind nests))
    (subst (IsCharBoundary text) (sym long) (block_cut text (47 ∷ 42 ∷ front) behind (47 ∷ 42 ∷ ends.0) whole (ap (λ t. 47 ∷ 42 ∷ t) ends.1) utf8))

pub scan_open : (text : List ℕ) → Begins 47 42 text → IsOpen (drop 2 text) → Scans text (record { shape = shape.OpenComment; length = length text })
scan_open text begins (level, nests) =
    scans text text [] shape.OpenComment (length text) refl
    (subst (λ t. IsNext t (record { text = t; kind = OpenComment }) []) (sym begins.1)
    (next_open begins.0 level (subst (λ t. Nests 1 t (suc level)) (ap (drop 2) begins.1) nests)))
    (IsCharBoundary-end text)

-- marks
pair_small : (a b : ℕ) (it : TokenKind) → kind_in pairs (a ∷ b ∷ []) ≡ Some it → b < 128
pair_small a b it found =
    ltb-true b 128 (kind_in-All (λ t. nat_lt (get_or t 1 0) 128 ≡ true) pairs (a ∷ b ∷ []) it (
      refl,
      (refl, (refl, (refl, (refl, (refl, (refl, (refl, (refl, (refl, (refl, (refl, tt))))))))))),
    ) found)

pub scan_pair : (text behind : List ℕ) (a b : ℕ) (it : TokenKind) → text ≡ a ∷ b ∷ behind → IsUtf8 text → OnlyMarks text
    → Some it ≡ kind_in pairs (a ∷ b ∷ []) → Scans text (record { shape = shape.Mark it; length = 2 })
scan_pair text behind a b it e utf8 only found =
    scans text (a ∷ b ∷ []) behind (shape.Mark it) 2 refl
    (subst (λ t. IsNext t (record { text = a ∷ b ∷ []; kind = piece_kind (shape.Mark it) (a ∷ b ∷ []) }) behind) (sym e)
    (next_pair a b behind it (subst OnlyMarks e only) (sym found)))
    (IsCharBoundary-after_ascii text 1 utf8 (omega (arith, ap length e)) (omega (arith, ap (λ t. get_or t 1 0) e, pair_small a b it (sym found))))

pub scan_single : (text behind : List ℕ) (a : ℕ) (it : TokenKind) → text ≡ a ∷ behind → a < 128 → IsUtf8 text → OnlyMarks text → NoPair a behind
    → Some it ≡ kind_in singles (a ∷ []) → Scans text (record { shape = shape.Mark it; length = 1 })
scan_single text behind a it e small utf8 only free found =
    scans text (a ∷ []) behind (shape.Mark it) 1 refl
    (subst (λ t. IsNext t (record { text = a ∷ []; kind = piece_kind (shape.Mark it) (a ∷ []) }) behind) (sym e)
    (next_single a behind it (subst OnlyMarks e only) free (sym found)))
    (cut_at text (a ∷ []) behind 1 e refl (past_ascii a behind small (subst IsUtf8 e utf8)))

pub scan_bad_mark : (text behind : List ℕ) (a : ℕ) → text ≡ a ∷ behind → a < 128 → IsUtf8 text → OnlyMarks text → NoPair a behind
    → None ≡ kind_in singles (a ∷ []) → Scans text (record { shape = shape.BadCharacter; length = 1 })
scan_bad_mark text behind a e small utf8 only free none =
    scans text (a ∷ []) behind shape.BadCharacter 1 refl
    (subst (λ t. IsNext t (record { text = a ∷ []; kind = piece_kind shape.BadCharacter (a ∷ []) }) behind) (sym e)
    (bad_mark a behind small (subst OnlyMarks e only) free (sym none)))
    (cut_at text (a ∷ []) behind 1 e refl (past_ascii a behind small (subst IsUtf8 e utf8)))

-- what a slice from the third byte on is
pub behind_two : (bytes text : List ℕ) → bytes ≡ text → take (length bytes - 2) (drop 2 bytes) ≡ drop 2 text
behind_two bytes text e = take_all (length bytes - 2) (drop 2 bytes) (omega (arith, length-drop 2 bytes)) ∙ ap (drop 2) e

no_pair : (text behind : List ℕ) (a : ℕ) → text ≡ a ∷ behind → LacksPair text → NoPair a behind
no_pair text behind a e lacks b rest f = lacks a b rest (e ∙ ap (λ t. a ∷ t) f)

head_of : (text : List ℕ) (begins : BeginsInAscii text) (bytes : List ℕ) → bytes ≡ text → get_or bytes 0 0 ≡ begins.0
head_of text begins bytes e = ap (λ t. get_or t 0 0) (e ∙ begins.2)

pub found_pair : (text bytes : List ℕ) (it : TokenKind) → bytes ≡ text → IsUtf8 text → OnlyMarks text → BeginsWithPair bytes it
    → Scans text (record { shape = shape.Mark it; length = 2 })
found_pair text bytes it e utf8 only (a, b, behind, joined, found) = scan_pair text behind a b it (sym e ∙ joined) utf8 only found

pub found_single : (text bytes : List ℕ) (it : TokenKind) → bytes ≡ text → IsUtf8 text → OnlyMarks text → BeginsInAscii text → LacksPair bytes
    → Some it ≡ kind_in singles (get_or bytes 0 0 ∷ []) → Scans text (record { shape = shape.Mark it; length = 1 })
found_single text bytes it e utf8 only begins lacks found =
    scan_single text begins.1 begins.0 it begins.2 begins.3 utf8 only (no_pair text begins.1 begins.0 begins.2 (subst LacksPair e lacks))
    (found ∙ ap (λ n. kind_in singles (n ∷ [])) (head_of text begins bytes e))

pub found_bad : (text bytes : List ℕ) → bytes ≡ text → IsUtf8 text → OnlyMarks text → BeginsInAscii text → LacksPair bytes
    → None ≡ kind_in singles (get_or bytes 0 0 ∷ []) → Scans text (record { shape = shape.BadCharacter; length = 1 })
found_bad text bytes e utf8 only begins lacks none =
    scan_bad_mark text begins.1 begins.0 begins.2 begins.3 utf8 only (no_pair text begins.1 begins.0 begins.2 (subst LacksPair e lacks))
    (none ∙ ap (λ n. kind_in singles (n ∷ [])) (head_of text begins bytes e))

-- a slash that is followed by neither a slash nor a star
is_slash : (byte : ℕ) → class_of byte ≡ class.Slash → byte ≡ 47
is_slash byte e = elim (eqb_tells byte 47) [
  | inl h ↦ h.1
  | inr f ↦ absurd (no_slash (nat_lt byte 48) (byte == 32) (byte == 10) (byte == 9) (byte == 13) (byte == 47) _ f.0
      (never_slash (nat_lt byte 58) (nat_lt byte 65) (nat_lt byte 91) (byte == 95) (nat_lt byte 97) (nat_lt byte 123) (nat_lt byte 128)) e)
]

pub slash_only : (text bytes : List ℕ) → bytes ≡ text → class_at text ≡ class.Slash → (HasSecond 47 bytes → ⊥) → (HasSecond 42 bytes → ⊥) → OnlyMarks text
slash_only [] bytes e d one two = cc
slash_only (byte ∷ behind) bytes e d one two =
    let is : byte ≡ 47 = is_slash byte d in
    subst (λ n. OnlyMarks (n ∷ behind)) (sym is) (only_slash behind
    (λ b rest f h. elim h [
      | inl g ↦ one (byte, rest, e ∙ ap (λ t. byte ∷ t) (f ∙ ap (λ n. n ∷ rest) g))
      | inr g ↦ two (byte, rest, e ∙ ap (λ t. byte ∷ t) (f ∙ ap (λ n. n ∷ rest) g))
    ]))

pub slash_begins : (text bytes : List ℕ) (second : ℕ) → bytes ≡ text → class_at text ≡ class.Slash → HasSecond second bytes → Begins 47 second text
slash_begins text bytes second e d (first, behind, joined) =
    let whole : text ≡ first ∷ second ∷ behind = sym e ∙ joined in
    let is : first ≡ 47 = is_slash first (sym (ap class_at whole) ∙ d) in
    (behind, whole ∙ ap (λ n. n ∷ second ∷ behind) is)

pub mark_only : (text bytes : List ℕ) → bytes ≡ text → 0 < length text → class_of (get_or bytes 0 0) ≡ class.Mark → OnlyMarks text
mark_only [] bytes e some d = absurd (omega arith)
mark_only (byte ∷ behind) bytes e some d = only_marks (byte ∷ behind) (ap class_of (sym (ap (λ t. get_or t 0 0) e)) ∙ d)

pub space_first : (text bytes : List ℕ) → bytes ≡ text → 0 < length text → IsUtf8 text → class_of (get_or bytes 0 0) ≡ class.Space
    → Scans text (record { shape = shape.Space; length = 1 })
space_first text bytes e some utf8 d = scan_space text some utf8 (ap class_of (sym (ap (λ t. get_or t 0 0) e)) ∙ d)
