-- Tests of all numbers below one, and of ranges.
use Rattle.std.proofs.Common.{◌≡◌, ◌<◌, ◌≤◌, ◌+◌, ℕ, zero, suc, Bool, true, false, ◌&&◌, cond, ◌⊎◌, inl, inr, Option, Some, None, IsSomeAnd, refl, sym, ap}
use Rattle.std.proofs.Common.{◌∙◌, arith}
use Rattle.std.specs.Bool.{Decides}
use Rattle.std.proofs.lemmas.Bool.Decides.{nat_tests, same_from_decides}
use Rattle.std.specs.Option.{option_map}
use Rattle.hy_access.specs.declared.access.Range.{Range}
use Rattle.hy_access.specs.Accesses.{Meets, MeetsAccess, Covers}
use Rattle.hy_access.specs.Accesses as live
use Rattle.hy_object.specs.States.{all_below}
use Rattle.hy_object.specs.Checks.{meets, header_meets}
use Rattle.hy_store.specs.Opened.{abstract_range}

pub both : (a b : Bool) → (a && b) ≡ true → (a ≡ true) × (b ≡ true)
both true true h = (refl, refl)
both true false h = absurd (cc)
both false b h = absurd (cc)

pub joined : (a b : Bool) → a ≡ true → b ≡ true → (a && b) ≡ true
joined a b h k = rw (h, k) refl

below_cases : (k n : ℕ) → k < suc n → (k ≡ n) ⊎ (k < n)
below_cases k n h = grind arith

-- what holds of all numbers below one holds of each
pub each_below : (n : ℕ) (f : ℕ → Bool) → all_below n f ≡ true → (k : ℕ) → k < n → f k ≡ true
each_below zero f all k h = absurd (omega arith)
each_below (suc n) f all k h =
    elim (below_cases k n h) [
      | inl is ↦ ap f is ∙ (both (f n) (all_below n f) all).0
      | inr less ↦ each_below n f (both (f n) (all_below n f) all).1 k less
    ]

pub all_below_if : (n : ℕ) (f : ℕ → Bool) → ((k : ℕ) → k < n → f k ≡ true) → all_below n f ≡ true
all_below_if zero f each = refl
all_below_if (suc n) f each = joined (f n) (all_below n f) (each n (omega arith)) (all_below_if n f (λ k h. each k (omega arith)))

pub meets_if : (r o : Range) → Meets r o → meets (abstract_range o) (abstract_range r) ≡ true
meets_if r o m =
    let p = m.one in
    let q = m.both in
    let same : o.block ≡ r.block = q.same_block ∙ sym p.same_block in
    let a : 0 < o.len = omega arith in
    let b : 0 < r.len = omega arith in
    let c : o.from < r.from + r.len = omega arith in
    let d : r.from < o.from + o.len = omega arith in
    grind (arith, nat_tests)

meets_parts : (r o : Range) → meets (abstract_range o) (abstract_range r) ≡ true → (o.block ≡ r.block) × (0 < o.len) × (0 < r.len)
    × (o.from < r.from + r.len) × (r.from < o.from + o.len)
meets_parts r o h = grind (arith, nat_tests)

-- the same, with the cell
pub meets_then : (r o : Range) → meets (abstract_range o) (abstract_range r) ≡ true → Meets r o
meets_then r o h =
    let p = meets_parts r o h in
    elim (below_or r.from o.from) [
      | inl le ↦ record {
        block = o.block;
        cell = o.from;
        one = record { same_block = sym p.0; from = le; to = p.3 };
        both = record { same_block = refl; from = omega arith; to = omega (arith, p.1) };
      }
      | inr le ↦ record {
        block = o.block;
        cell = r.from;
        one = record { same_block = sym p.0; from = omega arith; to = omega (arith, p.2) };
        both = record { same_block = refl; from = le; to = p.4 };
      }
    ]
  where
    below_or : (a b : ℕ) → (a ≤ b) ⊎ (b ≤ a)
    below_or a b = grind arith

or_cases : (a b : Bool) → cond a true b ≡ true → (a ≡ true) ⊎ (b ≡ true)
or_cases true b h = inl refl
or_cases false b h = inr h

or_left : (a b : Bool) → a ≡ true → cond a true b ≡ true
or_left a b h = rw h refl

or_right : (a b : Bool) → b ≡ true → cond a true b ≡ true
or_right true b h = refl
or_right false b h = h

header_then : (r : Range) (h : Option Range) → header_meets (option_map abstract_range h) (abstract_range r) ≡ true → IsSomeAnd h (Meets r)
header_then r None e = absurd (cc)
header_then r (Some o) e = meets_then r o e

header_if : (r : Range) (h : Option Range) → IsSomeAnd h (Meets r) → header_meets (option_map abstract_range h) (abstract_range r) ≡ true
header_if r None m = absurd m
header_if r (Some o) m = meets_if r o m

-- an access meets a range by its own range or by its header
abbrev pub touches : live.Access → Range → Bool
touches one r = cond (meets (abstract_range one.own) (abstract_range r)) true (header_meets (option_map abstract_range one.header) (abstract_range r))

pub touches_then : (r : Range) (one : live.Access) → touches one r ≡ true → MeetsAccess r one
touches_then r one h =
    elim (or_cases (meets (abstract_range one.own) (abstract_range r)) (header_meets (option_map abstract_range one.header) (abstract_range r)) h) [
      | inl m ↦ inl (meets_then r one.own m)
      | inr m ↦ inr (header_then r one.header m)
    ]

pub touches_if : (r : Range) (one : live.Access) → MeetsAccess r one → touches one r ≡ true
touches_if r one (inl m) = or_left (meets (abstract_range one.own) (abstract_range r)) _ (meets_if r one.own m)
touches_if r one (inr m) = or_right (meets (abstract_range one.own) (abstract_range r)) _ (header_if r one.header m)

turned : (r o : Range) → Meets r o → Meets o r
turned r o m = record { block = m.block; cell = m.cell; one = m.both; both = m.one }

-- the program's test of two ranges is the machine's
pub meets_is : (a b : Range) (result : Bool) → Decides result (Meets a b) → meets (abstract_range a) (abstract_range b) ≡ result
meets_is a b result so =
    same_from_decides (meets (abstract_range a) (abstract_range b)) result (λ h. turned b a (meets_then b a h), λ m. meets_if b a (turned a b m)) so

-- where it fails of one it does not hold of all
pub some_fails : (n : ℕ) (f : ℕ → Bool) (k : ℕ) → k < n → f k ≡ false → all_below n f ≡ false
some_fails n f k below h = decided (all_below n f) refl
  where
    decided : (b : Bool) → all_below n f ≡ b → b ≡ false
    decided false e = refl
    decided true e = sym (each_below n f e k below) ∙ h

pub neither : (a b : Bool) → b ≡ false → (a && b) ≡ false
neither true b h = h
neither false b h = refl
