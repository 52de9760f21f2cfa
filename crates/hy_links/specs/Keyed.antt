-- Lists of records that each have a number of their own.
use Rattle.std.specs.Prelude.{◌==◌, ℕ, if◌then◌else◌, List, [], ◌∷◌, Option, Some, None}

module _ {X : Type 0} (number : X → ℕ) where
  -- the first record of this number
  abbrev pub numbered : ℕ → List X → Option X
  numbered n [] = None
  numbered n (x ∷ rest) = if number x == n then Some x else numbered n rest

  -- the list without the records of this number
  abbrev pub without : ℕ → List X → List X
  without n [] = []
  without n (x ∷ rest) = if number x == n then without n rest else x ∷ without n rest

  -- the list with this done to the records of this number, and to no other
  abbrev pub changed : ℕ → (X → X) → List X → List X
  changed n change [] = []
  changed n change (x ∷ rest) = (if number x == n then change x else x) ∷ changed n change rest

-- what is put in front of a list, if anything is
abbrev pub in_front : {X : Type 0} → Option X → List X → List X
in_front None rest = rest
in_front (Some x) rest = x ∷ rest

-- what is found at these places, in their order
abbrev pub gathered : {X : Type 0} → (ℕ → Option X) → List ℕ → List X
gathered found [] = []
gathered found (i ∷ places) = in_front (found i) (gathered found places)
