-- What the functions answer that number a part of a tree.
use Rattle.std.specs.Prelude.{◌≡◌, ℕ, ◌+◌, ◌-◌, ◌^◌, min, Result, Ok, Err, List, map}
use Rattle.hy_base.specs.declared.refusal.NoMemory.{NoMemory}
use Rattle.hy_tree.specs.Numbers.{count_all, number_all, numbered}
use Rattle.hy_tree.specs.Tree.{At}

-- Unless memory ran out, the part that was made is the old one, numbered from `before` on, and `after` is the next number.
abbrev pub IsNumberedFrom : {R P : Type 0} → (R → P) → (P → ℕ) → (ℕ → P → P) → ℕ → R → Result R NoMemory → ℕ → Type 0
IsNumberedFrom of count number before part (Ok made) after = (of made ≡ number before (of part)) × (after ≡ before + count (of part))
IsNumberedFrom of count number before part (Err failure) after = Unit {0}

-- the same of parts that stand one after the other
abbrev pub AreNumberedFrom : {R P : Type 0} → (R → P) → (P → ℕ) → (ℕ → P → P) → ℕ → List R → Result (List R) NoMemory → ℕ → Type 0
AreNumberedFrom of count number before parts made after = IsNumberedFrom (map of) (count_all count) (number_all count number) before parts made after

-- the same of two parts, one after the other
abbrev pub AreTwoNumberedFrom : {R S P Q : Type 0} → (R → P) → (P → ℕ) → (ℕ → P → P) → (S → Q) → (Q → ℕ) → (ℕ → Q → Q) → ℕ → R → S → Result (R × S) NoMemory
    → ℕ → Type 0
AreTwoNumberedFrom of count number of' count' number' before one other (Ok made) after =
    (of made.0 ≡ number before (of one)) × ((of' made.1 ≡ number' (before + count (of one)) (of' other))
    × (after ≡ before + count (of one) + count' (of' other)))
AreTwoNumberedFrom of count number of' count' number' before one other (Err failure) after = Unit {0}

-- the same of what a node is, where the node itself took the number before
abbrev pub IsKindNumberedFrom : {R P : Type 0} → (R → At → P) → (P → ℕ) → (ℕ → P → P) → ℕ → R → Result R NoMemory → ℕ → Type 0
IsKindNumberedFrom of count number before kind (Ok made) after =
    (n : ℕ) (at : At) → before ≡ n + 1 → (of made (numbered n at) ≡ number n (of kind at)) × (after ≡ n + count (of kind at))
IsKindNumberedFrom of count number before kind (Err failure) after = Unit {0}

-- The nodes of a part are added to those that were counted before, up to 2^32 - 1.
abbrev pub IsCountedFrom : {R P : Type 0} → (R → P) → (P → ℕ) → ℕ → R → ℕ → Type 0
IsCountedFrom of count before part after = after ≡ min (before + count (of part)) (2 ^ 32 - 1)

-- the same of parts that stand one after the other
abbrev pub AreCountedFrom : {R P : Type 0} → (R → P) → (P → ℕ) → ℕ → List R → ℕ → Type 0
AreCountedFrom of count before parts after = IsCountedFrom (map of) (count_all count) before parts after
