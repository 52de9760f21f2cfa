-- How bytes without a line feed are split, by what comes after them.
use Rattle.std.proofs.Common.{◌≡◌, ◌<◌, ℕ, zero, suc, ◌+◌, ◌-◌, ◌==◌, Bool, false, List, [], ◌∷◌, ◌++◌, length, if◌then◌else◌, refl, sym, ap, ◌∙◌, zero-add}
use Rattle.std.proofs.Common.{suc-add, append-nil, arith}
use Rattle.std.specs.List.{AllByRecursion}
use Rattle.hy_base.specs.Lines.{Split, Line, Last, TooLong, ahead, split_line}
use Rattle.hy_runs.specs.Taking.{IsInLine}

-- one byte more
pub all_in_line : (bytes : List ℕ) (byte : ℕ) → AllByRecursion IsInLine bytes → IsInLine byte → AllByRecursion IsInLine (bytes ++ byte ∷ [])
all_in_line [] byte all here = (here, tt)
all_in_line (b ∷ bytes) byte all here = (all.0, all_in_line bytes byte all.1 here)

all_ahead : List ℕ → Split → Split
all_ahead [] x = x
all_ahead (b ∷ bytes) x = ahead b (all_ahead bytes x)

goes_on : (b : ℕ) (bytes : List ℕ) (is_feed : Bool) (x y : Split) → is_feed ≡ false → x ≡ y → (if is_feed then Line [] bytes else ahead b x) ≡ ahead b y
goes_on b bytes is_feed x y feed same = rw feed (ap (ahead b) same)

splits : (n : ℕ) (bytes rest : List ℕ) → AllByRecursion IsInLine bytes → split_line (length bytes + n) (bytes ++ rest) ≡ all_ahead bytes (split_line n rest)
unfolding all_ahead
splits n [] rest all = rw zero-add refl
splits n (b ∷ bytes) rest all =
    rw suc-add (goes_on b (bytes ++ rest) (b == 10) (split_line (length bytes + n) (bytes ++ rest)) (all_ahead bytes (split_line n rest)) all.0
    (splits n bytes rest all.1))

line_ahead : (bytes : List ℕ) → all_ahead bytes (Line [] []) ≡ Line bytes []
unfolding all_ahead
line_ahead [] = refl
line_ahead (b ∷ bytes) = ap (ahead b) (line_ahead bytes)

last_ahead : (bytes : List ℕ) → all_ahead bytes (Last []) ≡ Last bytes
unfolding all_ahead
last_ahead [] = refl
last_ahead (b ∷ bytes) = ap (ahead b) (last_ahead bytes)

long_ahead : (bytes : List ℕ) → all_ahead bytes (TooLong []) ≡ TooLong []
unfolding all_ahead
long_ahead [] = refl
long_ahead (b ∷ bytes) = ap (ahead b) (long_ahead bytes)

splits_at : (most n : ℕ) (bytes rest : List ℕ) → AllByRecursion IsInLine bytes → most ≡ length bytes + n
    → split_line most (bytes ++ rest) ≡ all_ahead bytes (split_line n rest)
splits_at most n bytes rest all e = ap (λ m. split_line m (bytes ++ rest)) e ∙ splits n bytes rest all

-- a line feed
pub splits_line : (most : ℕ) (bytes : List ℕ) → AllByRecursion IsInLine bytes → length bytes < most → split_line most (bytes ++ 10 ∷ []) ≡ Line bytes []
splits_line most bytes all room =
    let e : most ≡ length bytes + suc (most - suc (length bytes)) = omega arith in splits_at most (suc (most - suc (length bytes))) bytes (10 ∷ []) all e
    ∙ line_ahead bytes

-- nothing, where there is room for more
pub splits_last : (most : ℕ) (bytes : List ℕ) → AllByRecursion IsInLine bytes → length bytes < most → split_line most bytes ≡ Last bytes
splits_last most bytes all room =
    let e : most ≡ length bytes + suc (most - suc (length bytes)) = omega arith in
    ap (split_line most) (sym (append-nil bytes)) ∙ splits_at most (suc (most - suc (length bytes))) bytes [] all e ∙ last_ahead bytes

-- nothing, where there is none
pub splits_long : (most : ℕ) (bytes : List ℕ) → AllByRecursion IsInLine bytes → length bytes ≡ most → split_line most bytes ≡ TooLong []
splits_long most bytes all full =
    let e : most ≡ length bytes + zero = omega arith in ap (split_line most) (sym (append-nil bytes)) ∙ splits_at most zero bytes [] all e ∙ long_ahead bytes
