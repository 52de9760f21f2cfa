-- What a place of a row holds.
use Rattle.std.specs.Prelude.{◌≡◌, ℕ, get_or, List, Option, Some, None}

-- the place at the index holds a value
abbrev pub IsFilled : {X : Type 0} → List (Option X) → ℕ → Type 0
IsFilled {X = X} cs i = (x : X) × (get_or cs i None ≡ Some x)
