-- How numbers compare, as tests.
use Rattle.std.proofs.Common.{◌≡◌, ◌<◌, ◌≤◌, ℕ, true, false, nat_eq, nat_lt, ◌⊎◌, arith}
use Rattle.std.proofs.lemmas.Bool.Decides.{nat_tests}

pub same_test : (a : ℕ) → nat_eq a a ≡ true
same_test a = grind (arith, nat_tests)

pub less_apart : (a b : ℕ) → a < b → nat_eq b a ≡ false
less_apart a b h = grind (arith, nat_tests)

pub less_before : (a b : ℕ) → a < b → nat_eq a b ≡ false
less_before a b h = grind (arith, nat_tests)

pub below : (a b : ℕ) → a < b → nat_lt a b ≡ true
below a b h = grind (arith, nat_tests)

pub above : (a b : ℕ) → b ≤ a → nat_lt a b ≡ false
above a b h = grind (arith, nat_tests)

pub less_or : (a b : ℕ) → (a < b) ⊎ (b ≤ a)
less_or a b = grind arith
