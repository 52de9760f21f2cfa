-- What the code's tables of members show.
use Rattle.std.specs.Prelude.{◌≡◌, ℕ, List, [], map, Option, Some, None}
use Rattle.std.specs.Map.{lookup}
use Rattle.std.specs.Option.{option_map}
use Rattle.std.specs.Str.{bytes_eq}
use Rattle.hy_tree.specs.Denotes.{type_of, callable_of}
use Rattle.hy_tree.specs.Tree as T
use Rattle.hy_tree.specs.declared.declaration.CallableKind.{CallableKind}
use Rattle.hy_tree.specs.declared.declaration.CallableKind.TheVariants as kind
use Rattle.hy_types.specs.Types as Y
use Rattle.hy_types.specs.Types.{Table, HasIds}
use Rattle.hy_signatures.specs.CallablesShown.{HasTypes}
use Rattle.hy_signatures.specs.Declarations.{Source, Field, fields_among, callable_named}
use Rattle.hy_signatures.specs.declared.callables.CallableTypes.{CallableTypes}
use Rattle.hy_signatures.specs.declared.members.ByName.{ByName}
use Rattle.hy_signatures.specs.declared.members.FieldType.{FieldType}
use Rattle.hy_signatures.specs.declared.members.Members.{Members}

-- FIELDS

abbrev pub field_shown : Table → FieldType → Field
field_shown table field = record {
  name = field.name.now.text;
  node = field.node;
  written = type_of field.written.now;
  type = Y.type_of table field.number;
}

-- these are kept of the fields
pub record HasFields (table : Table) (fields : List Field) (kept : List FieldType) : Type 0 where
  pub known : HasIds table (map (λ (field : FieldType). field.number) kept)
  pub are : map (field_shown table) kept ≡ fields

-- MEMBERS THAT ARE CALLED

-- what is kept for a full name
abbrev pub row_named : ByName → List ℕ → Option CallableTypes
row_named by name = lookup (λ key. bytes_eq name key.items) by.rows.entries

-- what has a full name
abbrev pub by_name_shown : ByName → List ℕ → Option T.Callable
by_name_shown by name = option_map (λ (row : CallableTypes). callable_of row.callable.now) (row_named by name)

-- the first of these members of a kind by full name, with their types
pub record AreByName (table : Table) (source : Source) (wanted : CallableKind) (members : List T.Member) (by : ByName) : Type 0 where
  pub shown : (name : List ℕ) → by_name_shown by name ≡ callable_named wanted name members
  pub types : (name : List ℕ) (row : CallableTypes) → row_named by name ≡ Some row → HasTypes table source (callable_of row.callable.now) row

-- ALL MEMBERS

pub record HasMembers (table : Table) (source : Source) (members : List T.Member) (kept : Members) : Type 0 where
  pub fields : HasFields table (fields_among source members) kept.fields.items
  pub functions : AreByName table source kind.Function members kept.functions
  pub subscripts : AreByName table source kind.Subscript members kept.subscripts
  pub requirements : AreByName table source kind.Requirement members kept.requirements

-- what is kept of a type or trait with these members; where nothing is kept, it has none
abbrev pub MembersAre : Table → Source → List T.Member → Option Members → Type 0
MembersAre table source members None = members ≡ []
MembersAre table source members (Some kept) = HasMembers table source members kept

-- what is kept of one member, where there is one
pub record IsFound (table : Table) (source : Source) (wanted : Option T.Callable) (found : Option CallableTypes) : Type 0 where
  pub is : option_map (λ (row : CallableTypes). callable_of row.callable.now) found ≡ wanted
  pub types : (row : CallableTypes) → found ≡ Some row → HasTypes table source (callable_of row.callable.now) row
