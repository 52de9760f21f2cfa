use Rattle.std.proofs.Common.{◌≡◌, ℕ, ◌+◌, ◌-◌, ◌*◌, ◌/◌, ◌<◌, ◌≤◌, List, [], ◌∷◌, fold, arith, ap, ◌∙◌, inl, inr}
use Rattle.std.proofs.lemmas.Bool.Decides.{eqb_tells, nat_tests}
use Rattle.hy_lexer.specs.Pieces.{number_of, with_digit}
use Rattle.hy_lexer.proofs.number.number_value.Goals as goal

at_least : (n byte : ℕ) → n ≤ with_digit n byte
at_least n byte = elim (eqb_tells byte 95) [ inl h ↦ grind (arith, nat_tests) | inr h ↦ grind (arith, nat_tests) ]

-- more digits make no number smaller
grows : (n : ℕ) (digits : List ℕ) → n ≤ fold with_digit n digits
grows n [] = omega arith
grows n (byte ∷ digits) = omega (arith, at_least n byte, grows (with_digit n byte) digits)

with_other : (n byte : ℕ) → (byte ≡ 95 → ⊥) → with_digit n byte ≡ n * 10 + (byte - 48)
with_other n byte other = grind (arith, nat_tests)

too_large : (n digit : ℕ) → (9223372036854775807 - digit) / 10 < n → 9223372036854775807 < n * 10 + digit
too_large n digit h = omega arith

above : (n byte digit whole : ℕ) (rest behind : List ℕ) → whole ≡ fold with_digit n rest → rest ≡ byte ∷ behind → (byte ≡ 95 → ⊥) → digit ≡ byte - 48
    → (9223372036854775807 - digit) / 10 < n → 9223372036854775807 < whole
above n byte digit whole rest behind e f other d h =
    omega (arith, e ∙ ap (fold with_digit n) f, grows (with_digit n byte) behind, with_other n byte other, too_large n digit h, d)

pub returns-then-value-digit : goal.returns-then-value-digit
returns-then-value-digit c =
    above c.loop-byte.value c.in-Some.byte.now c.from-digit.result (number_of c.args.digits.now) c.loop-byte.rest.now c.in-Some.behind.now
    c.loop-byte.invariant.value c.in-Some.ensures.cases.0 c.if-byte-ne95.true
    (c.from-digit.ensures ∙ c.saturating_sub.ensures) c.if-value-digit.true
