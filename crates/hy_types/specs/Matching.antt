-- Types in place of parameters.
use Rattle.std.specs.Prelude.{◌≡◌, ◌<◌, ◌↔◌, ◌==◌, ℕ, Bool as Truth, true, false, List, Option, Some, None, slice_get, slice_set}
use Rattle.hy_types.specs.declared.kinds.TyId.{TyId}
use Rattle.hy_types.specs.Types.{Table, HasId, type_of, plain_types, PlainType, PlainTypes, Int, Sized, Bool, Tuple, Product, Array, Param, End, More}

-- a type with types in place of its parameters
abbrev mutual
  pub substitute : (ℕ → PlainType) → PlainType → PlainType
  substitute types Int = Int
  substitute types (Sized num) = Sized num
  substitute types Bool = Bool
  substitute types (Tuple parts) = Tuple (substitute_all types parts)
  substitute types (Product declaration) = Product declaration
  substitute types (Array element) = Array (substitute types element)
  substitute types (Param place) = types place

  pub substitute_all : (ℕ → PlainType) → PlainTypes → PlainTypes
  substitute_all types End = End
  substitute_all types (More first rest) = More (substitute types first) (substitute_all types rest)

-- each parameter in a type is one of the first so many
abbrev mutual
  pub ParametersBelow : ℕ → PlainType → Type 0
  ParametersBelow count Int = Unit {0}
  ParametersBelow count (Sized num) = Unit {0}
  ParametersBelow count Bool = Unit {0}
  ParametersBelow count (Tuple parts) = AllParametersBelow count parts
  ParametersBelow count (Product declaration) = Unit {0}
  ParametersBelow count (Array element) = ParametersBelow count element
  ParametersBelow count (Param place) = place < count

  pub AllParametersBelow : ℕ → PlainTypes → Type 0
  AllParametersBelow count End = Unit {0}
  AllParametersBelow count (More first rest) = ParametersBelow count first × AllParametersBelow count rest

-- types for the parameters are those that were found, as far as they were
abbrev pub Agrees : Table → List (Option TyId) → (ℕ → PlainType) → Type 0
Agrees table found types = (place : ℕ) (id : TyId) → slice_get found place ≡ Some (Some id) → types place ≡ type_of table id

-- types for the parameters are those of a list
abbrev pub Gives : Table → List TyId → (ℕ → PlainType) → Type 0
Gives table args types = (place : ℕ) (id : TyId) → slice_get args place ≡ Some id → types place ≡ type_of table id

-- what was found is of the table
abbrev pub AreFound : Table → List (Option TyId) → Type 0
AreFound table found = (place : ℕ) (id : TyId) → slice_get found place ≡ Some (Some id) → HasId table id

-- what was found before is there
abbrev pub StillFound : List (Option TyId) → List (Option TyId) → Type 0
StillFound old new = (place : ℕ) (id : TyId) → slice_get old place ≡ Some (Some id) → slice_get new place ≡ Some (Some id)

-- types for the parameters that were found, and make one type the other
abbrev pub Makes : Table → List (Option TyId) → TyId → TyId → (ℕ → PlainType) → Type 0
Makes table found wanted given types = Agrees table found types × (substitute types (type_of table wanted) ≡ type_of table given)

-- What matching finds. Where it answers true, the types that agree with what is found then are just those that make the two
-- equal; where it answers false, no types do.
abbrev pub Matches : Table → TyId → TyId → List (Option TyId) → Truth → List (Option TyId) → Type 0
Matches table wanted given old true new = (types : ℕ → PlainType) → Agrees table new types ↔ Makes table old wanted given types
Matches table wanted given old false new = (types : ℕ → PlainType) → Makes table old wanted given types → ⊥

-- the same of lists of types, place by place
abbrev pub MatchesAll : Table → List TyId → List TyId → List (Option TyId) → Truth → List (Option TyId) → Type 0
MatchesAll table wanted given old true new = (types : ℕ → PlainType)
    → Agrees table new types ↔ (Agrees table old types × (substitute_all types (plain_types (type_of table) wanted) ≡ plain_types (type_of table) given))
MatchesAll table wanted given old false new = (types : ℕ → PlainType) → Agrees table old types
    → substitute_all types (plain_types (type_of table) wanted) ≡ plain_types (type_of table) given → ⊥

-- one place is filled with a type, or has one that is the same or another
abbrev pub Fills : ℕ → TyId → Option TyId → Truth → List (Option TyId) → List (Option TyId) → Type 0
Fills place id None answer old new = (answer ≡ true) × (new ≡ slice_set old place (Some id))
Fills place id (Some other) answer old new = (answer ≡ (other.at == id.at)) × (new ≡ old)

-- one type is another with the types of a list in place of its parameters
abbrev pub Replaces : Table → List TyId → TyId → Table → TyId → Type 0
Replaces old args ty new id = (types : ℕ → PlainType) → Gives old args types → type_of new id ≡ substitute types (type_of old ty)

-- the same of lists of types, place by place
abbrev pub ReplacesAll : Table → List TyId → List TyId → Table → List TyId → Type 0
ReplacesAll old args tys new ids = (types : ℕ → PlainType) → Gives old args types
    → plain_types (type_of new) ids ≡ substitute_all types (plain_types (type_of old) tys)
