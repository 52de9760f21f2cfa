-- What the code's tables of a walk show.
use Rattle.std.specs.Prelude.{◌≡◌, ◌==◌, ℕ, List, Option, Some, IfSome, option_and_then}
use Rattle.std.specs.Map.{lookup}
use Rattle.std.specs.Option.{option_map}
use Rattle.hy_tree.specs.declared.declaration.TypeParam.{TypeParam}
use Rattle.hy_types.specs.Types.{Table, HasId, PlainType, type_of}
use Rattle.hy_types.specs.declared.kinds.TyId.{TyId}
use Rattle.hy_signatures.specs.Shown.{source_shown}
use Rattle.hy_signatures.specs.TablesShown.{AreTables}
use Rattle.hy_signatures.specs.declared.source.Source.{Source}
use Rattle.hy_signatures.specs.declared.tables.Tables.{Tables}
use Rattle.hy_check.specs.Known.{Known}
use Rattle.hy_check.specs.Typing.{Around}
use Rattle.hy_check.specs.declared.checker.Checker.{Checker}

-- what is kept for a variable, parameter or new value
abbrev pub local_at : List (ℕ × Option TyId) → ℕ → Option (Option TyId)
local_at locals node = lookup (λ other. node == other) locals

-- the type of one, where one is kept
abbrev pub locals_shown : Table → List (ℕ × Option TyId) → ℕ → Option PlainType
locals_shown table locals node = option_and_then (λ id. option_map (type_of table) id) (local_at locals node)

-- what is kept for a node that has a type
abbrev pub noted_at : List (ℕ × TyId) → ℕ → Option TyId
noted_at noted node = lookup (λ other. node == other) noted

abbrev pub types_shown : Table → List (ℕ × TyId) → ℕ → Option PlainType
types_shown table noted node = option_map (type_of table) (noted_at noted node)

abbrev pub around_shown : Table → Source → List TypeParam → Option TyId → List (ℕ × Option TyId) → Around
around_shown table source generics own locals = record {
  source = source_shown source;
  generics = generics;
  own = option_map (type_of table) own;
  locals = λ node. locals_shown table locals node;
}

-- all numbers are the table's
pub record AreRight (table : Table) (source : Source) (tables : Tables) (own : Option TyId) (locals : List (ℕ × Option TyId)) (noted : List (ℕ × TyId))
    : Type 0 where
  pub declared : AreTables table (source_shown source) tables
  pub itself : IfSome own (λ id. HasId table id)
  pub variables : (node : ℕ) (id : TyId) → local_at locals node ≡ Some (Some id) → HasId table id
  pub nodes : (node : ℕ) (id : TyId) → noted_at noted node ≡ Some id → HasId table id

-- what a checker knows
abbrev pub known_of : Checker → Known
known_of c = record {
  table = c.types;
  around = around_shown c.types c.source c.generics.now c.own c.locals.entries;
  first = c.first;
  types = λ node. types_shown c.types c.noted.entries node;
}

-- its tables are right
abbrev pub IsRight : Checker → Type 0
IsRight c = AreRight c.types c.source c.tables c.own c.locals.entries c.noted.entries
