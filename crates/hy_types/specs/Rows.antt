-- The rows of a table, from the last to the first.
use Rattle.std.specs.Prelude.{◌≡◌, ◌==◌, ℕ, List, [], ◌∷◌, length, if◌then◌else◌, Option, Some, None}
use Rattle.hy_types.specs.declared.kinds.Ty.{Ty}
use Rattle.hy_types.specs.Types.{AllBelow, mentioned}

-- the row of a number
abbrev pub row_in : List Ty → ℕ → Option Ty
row_in [] n = None
row_in (row ∷ before) n = if n == length before then Some row else row_in before n

-- each row speaks of rows before it, and stands once
abbrev pub AreRows : List Ty → Type 0
AreRows [] = Unit {0}
AreRows (row ∷ before) = AllBelow (length before) (mentioned row) × ((n : ℕ) → row_in before n ≡ Some row → ⊥) × AreRows before
