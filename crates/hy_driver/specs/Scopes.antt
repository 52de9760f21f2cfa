-- The names that are declared so far in a block, and what a look-up finds.
use Rattle.std.specs.Prelude.{◌≡◌, ℕ, List, [], ◌∷◌, ◌++◌, Option, Some, None, Bool, if◌then◌else◌, Contains, slice_get}
use Rattle.std.specs.List.{list_any}
use Rattle.std.specs.Str.{bytes_eq}

-- in order
abbrev pub Scope : Type 0
Scope = List (List ℕ)

abbrev pub is_known : Scope → List ℕ → Bool
is_known scope name = list_any (bytes_eq name) scope

-- a name that is declared again keeps its place
abbrev pub with_name : Scope → List ℕ → Scope
with_name scope name = if is_known scope name then scope else scope ++ name ∷ []

-- where a name stands, or that it is not there
abbrev pub Finds : List ℕ → Option ℕ → Scope → Type 0
Finds name (Some place) scope = slice_get scope place ≡ Some name
Finds name None scope = Contains scope name → ⊥
