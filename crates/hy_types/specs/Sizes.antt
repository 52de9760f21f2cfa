-- What a table knows of the words of its types.
use Rattle.std.specs.Prelude.{◌≡◌, ◌+◌, ◌<◌, ◌≤◌, ◌⊎◌, ℕ, Bool, true, false, List, if◌then◌else◌, nat_le, Some, None, Contains, slice_get}
use Rattle.hy_types.specs.declared.kinds.TyId.{TyId}
use Rattle.hy_types.specs.declared.kinds.Ty.{Ty}
use Rattle.hy_types.specs.declared.kinds.Ty.TheVariants as ty
use Rattle.hy_types.specs.declared.sizes.Size.{Size}
use Rattle.hy_types.specs.declared.sizes.Size.TheVariants.{Pending, Parameter, Large, Words}
use Rattle.hy_types.specs.Types.{Table, row_at, declared}
use Rattle.hy_types.specs.Words.{shape, TakeTogether, HoldsParameter, IsTooLarge, HasWords}

abbrev pub is_pending : Size → Bool
is_pending Pending = true
is_pending Parameter = false
is_pending Large = false
is_pending (Words words) = false

-- what is known of two types together
abbrev pub plus : Size → Size → Size
plus Pending Pending = Pending
plus Pending Parameter = Parameter
plus Pending Large = Pending
plus Pending (Words n) = Pending
plus Parameter b = Parameter
plus Large Pending = Pending
plus Large Parameter = Parameter
plus Large Large = Large
plus Large (Words n) = Large
plus (Words m) Pending = Pending
plus (Words m) Parameter = Parameter
plus (Words m) Large = Large
plus (Words m) (Words n) = if nat_le (m + n) 4096 then Words (m + n) else Large

-- what is known of a type is right
abbrev pub IsRight : Table → TyId → Size → Type 0
IsRight table id Pending = Unit {0}
IsRight table id Parameter = HoldsParameter table id
IsRight table id Large = IsTooLarge table id
IsRight table id (Words words) = HasWords table id words

-- so is what is known of each
abbrev pub AreRight : Table → List Size → Type 0
AreRight table sizes = (id : TyId) (size : Size) → slice_get sizes id.at ≡ Some size → IsRight table id size

-- one of these types waits
abbrev pub SomeWaits : List Size → List TyId → Type 0
SomeWaits sizes ids = (id : TyId) × Contains ids id × (slice_get sizes id.at ≡ Some Pending)

-- what is known of types together is right
abbrev pub IsRightTogether : Table → List Size → List TyId → Size → Type 0
IsRightTogether table sizes ids Pending = SomeWaits sizes ids
IsRightTogether table sizes ids Parameter = (id : TyId) × Contains ids id × HoldsParameter table id
IsRightTogether table sizes ids Large = (words : ℕ) × TakeTogether table ids words × (4096 < words)
IsRightTogether table sizes ids (Words words) = TakeTogether table ids words × (words ≤ 4096)

-- a row waits for the declaration of a product, or for one of its parts
abbrev pub Waits : Table → List Size → Ty → Type 0
Waits table sizes row = ((declaration : ℕ) × (row ≡ ty.Product declaration) × (declared table declaration ≡ None))
    ⊎ ((own : ℕ) × (parts : List TyId) × (shape table row ≡ Some (own, parts)) × SomeWaits sizes parts)

-- what is known of a row is right, and nothing only where it waits
abbrev pub IsRightFor : Table → List Size → TyId → Ty → Size → Type 0
IsRightFor table sizes id row Pending = Waits table sizes row
IsRightFor table sizes id row Parameter = IsRight table id Parameter
IsRightFor table sizes id row Large = IsRight table id Large
IsRightFor table sizes id row (Words words) = IsRight table id (Words words)

-- each type of which nothing is known waits
abbrev pub AreSettled : Table → List Size → Type 0
AreSettled table sizes = (id : TyId) (row : Ty) → row_at table id ≡ Some row → slice_get sizes id.at ≡ Some Pending → Waits table sizes row
