-- The types of places.
use Rattle.std.specs.Prelude.{◌≡◌, ◌⊎◌, ℕ, zero, suc, List, [], ◌∷◌, Option, Some, None}
use Rattle.hy_types.specs.declared.kinds.TyId.{TyId}
use Rattle.hy_types.specs.Types.{Table}
use Rattle.hy_types.specs.Words.{HasWords}
use Rattle.hy_core.specs.Plain.{Step, Part, Index, Place, Fun}
use Rattle.hy_core.specs.Values.{Selector, PartAt, ElementAt, Path}
use Rattle.hy_core.specs.Control.{Form, Arrays, form, parts_of, part_type, element_type, local_type}

-- one of a list
abbrev pub Among : {A : Type 0} → A → List A → Type 0
Among x [] = ⊥
Among x (y ∷ ys) = (x ≡ y) ⊎ Among x ys

abbrev pub all : {A : Type 0} → (A → Type 0) → List A → Type 0
all P [] = Unit {0}
all P (x ∷ xs) = P x × all P xs

-- no one twice
abbrev pub Distinct : {A : Type 0} → List A → Type 0
Distinct [] = Unit {0}
Distinct (x ∷ xs) = (Among x xs → ⊥) × Distinct xs

-- the type of a place whose steps stand in a type
abbrev pub steps_type : Table → Option TyId → List Step → Option TyId
steps_type types None steps = None
steps_type types (Some t) [] = Some t
steps_type types (Some t) (Part i ∷ steps) = steps_type types (part_type (form types t) i) steps
steps_type types (Some t) (Index l s ∷ steps) = steps_type types (element_type (form types t)) steps

abbrev pub place_type : Table → Fun → Place → Option TyId
place_type types f p = steps_type types (local_type f p.local) p.steps

-- the type of a part; an element is no part
abbrev pub selected_type : Form → Selector → Option TyId
selected_type f (PartAt i) = part_type f i
selected_type f (ElementAt i) = None

-- the type of the part at a path that enters no array
abbrev pub type_at : Table → Option TyId → Path → Option TyId
type_at types None q = None
type_at types (Some t) [] = Some t
type_at types (Some t) (s ∷ q) = type_at types (selected_type (form types t) s) q

-- At that path stands a part of the type that has no parts of its own.
abbrev pub IsLeaf : Table → TyId → Path → Type 0
IsLeaf types t q = (u : TyId) × (type_at types (Some t) q ≡ Some u) × (parts_of (form types u) ≡ [])

-- at that path stands an array
abbrev pub IsArrayAt : Table → TyId → Path → Type 0
IsArrayAt types t q = (u e : TyId) × (type_at types (Some t) q ≡ Some u) × (form types u ≡ Arrays e)

-- at that path stands an array whose elements hold arrays
abbrev pub IsNestedAt : Table → TyId → Path → Type 0
IsNestedAt types t q = (u e : TyId) × (type_at types (Some t) q ≡ Some u) × (form types u ≡ Arrays e) × ((r : Path) × IsArrayAt types e r)

-- a type is another, or is a part or element of it, at that depth
abbrev pub IsIn : Table → ℕ → TyId → TyId → Type 0
IsIn types zero u t = u ≡ t
IsIn types (suc n) u t = (v : TyId) × (Among v (parts_of (form types t)) ⊎ (element_type (form types t) ≡ Some v)) × IsIn types n u v

-- The type, and each that it has in it at any depth, that of elements too, has at most 4,096 words.
abbrev pub IsSmall : Table → TyId → Type 0
IsSmall types t = (n : ℕ) (u : TyId) → IsIn types n u t → (words : ℕ) × HasWords types u words

-- the steps before the first index
abbrev pub still : List Step → Path
still [] = []
still (Part i ∷ steps) = PartAt i ∷ still steps
still (Index l s ∷ steps) = []

-- the type of what stands before the first index: the array, or the place itself
abbrev pub still_type : Table → Fun → Place → Option TyId
still_type types f p = type_at types (local_type f p.local) (still p.steps)
