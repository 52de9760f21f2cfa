-- Types by their numbers in a table.
use Rattle.std.specs.Prelude.{◌≡◌, List}
use Rattle.hy_types.specs.Types.{Table, HasId, HasIds, PlainType, PlainTypes, plain_types, type_of}
use Rattle.hy_types.specs.declared.kinds.TyId.{TyId}

-- this is the number of the type
pub record IsNumber (table : Table) (type : PlainType) (id : TyId) : Type 0 where
  pub known : HasId table id
  pub is : type_of table id ≡ type

-- these are the numbers of the types, one by one
pub record AreNumbers (table : Table) (types : PlainTypes) (ids : List TyId) : Type 0 where
  pub known : HasIds table ids
  pub are : plain_types (type_of table) ids ≡ types
