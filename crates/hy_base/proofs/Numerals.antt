-- Numbers of digits in 64 bits.
use Rattle.std.proofs.Common.{◌≡◌, ◌≢◌, ℕ, ◌+◌, ◌-◌, ◌*◌, ◌^◌, ◌==◌, ◌&&◌, min, Bool, true, false, nat_le, List, [], ◌∷◌, Some, None, if◌then◌else◌, refl}
use Rattle.std.proofs.Common.{sym, ap, ◌∙◌, arith}
use Rattle.std.specs.Option.{option_map}
use Rattle.std.proofs.lemmas.Bool.{false_from_ne_true, eqb-true}
use Rattle.hy_base.specs.Lines.{digits_from}
use Rattle.hy_base.specs.Digits.{capped, capped_from}

pub differs : (a b : ℕ) → a ≢ b → (a == b) ≡ false
differs a b h = false_from_ne_true (a == b) (λ e. h (eqb-true a b e))

-- one digit more, of a number that was cut to the greatest
more : (most n d : ℕ) → min (10 * min n most + d) most ≡ min (10 * n + d) most
more most n d = omega arith

alike_more : (m n d : ℕ) → capped m ≡ capped n → capped (10 * m + d) ≡ capped (10 * n + d)
alike_more m n d e = sym (more (2 ^ 64 - 1) m d) ∙ ap (λ k. min (10 * k + d) (2 ^ 64 - 1)) e ∙ more (2 ^ 64 - 1) n d

capped_at : (is_digit : Bool) (m n : ℕ) (bytes : List ℕ) → capped_from m bytes ≡ capped_from n bytes →
    option_map capped (if is_digit then digits_from m bytes else None) ≡ option_map capped (if is_digit then digits_from n bytes else None)
capped_at true m n bytes e = e
capped_at false m n bytes e = refl

-- only the number as far as it is kept counts
alike : (bytes : List ℕ) (m n : ℕ) → capped m ≡ capped n → capped_from m bytes ≡ capped_from n bytes
alike [] m n e = ap Some e
alike (b ∷ bytes) m n e =
    capped_at (nat_le 48 b && nat_le b 57) (10 * m + (b - 48)) (10 * n + (b - 48)) bytes
    (alike bytes (10 * m + (b - 48)) (10 * n + (b - 48)) (alike_more m n (b - 48) e))

-- the program's sum
summed : (most n d : ℕ) → min (min (min (n * 10) most + d) most) most ≡ min (10 * n + d) most
summed most n d = omega arith

pub one_digit : (bytes rest : List ℕ) (b n : ℕ) → bytes ≡ b ∷ rest → (nat_le 48 b && nat_le b 57) ≡ true →
    capped_from (min (min (n * 10) (2 ^ 64 - 1) + (b - 48)) (2 ^ 64 - 1)) rest ≡ capped_from n bytes
one_digit bytes rest b n parts is =
    alike rest (min (min (n * 10) (2 ^ 64 - 1) + (b - 48)) (2 ^ 64 - 1)) (10 * n + (b - 48)) (summed (2 ^ 64 - 1) n (b - 48)) ∙ (rw (parts, is) refl)
