-- What a source declares: its functions, types and traits by the nodes of their declarations, the members of a type by name, and
-- the types that are written.
use Rattle.std.specs.Prelude.{ℕ, ◌==◌, ◌-◌, ◌&&◌, ◌||◌, Bool as Truth, true, false, List, [], ◌∷◌, ◌++◌, Option, Some, None, cond, slice_get, unwrap_or, map}
use Rattle.std.specs.Str.{bytes_eq}
use Rattle.hy_tree.specs.Tree as T
use Rattle.hy_tree.specs.Names.{or, own_name}
use Rattle.hy_tree.specs.declared.declaration.CallableKind.{CallableKind}
use Rattle.hy_tree.specs.declared.declaration.CallableKind.TheVariants as kind
use Rattle.hy_tree.specs.declared.declaration.TypeParam.{TypeParam}
use Rattle.hy_tree.specs.declared.meant.Meant.{Meant}
use Rattle.hy_tree.specs.declared.meant.Meant.TheVariants as meant
use Rattle.hy_tree.specs.declared.name.NameUse.{NameUse}
use Rattle.hy_tree.specs.declared.predeclared.TheConstants.{INT, INT8, INT16, INT32, UINT8, UINT16, UINT32, UINT64, BOOL, COPYABLE}
use Rattle.hy_types.specs.Types as Y
use Rattle.hy_base.specs.declared.numbers.Num.TheVariants as num
use Rattle.hy_signatures.specs.PlainTypes.{same_type, unit}
use Rattle.hy_types.specs.Types.{PlainType, PlainTypes}

-- a source: its declarations, and what the name at a node stands for
pub record Source : Type 0 where
  pub decls : List T.Decl
  pub meant : ℕ → Meant

abbrev pub source_of : List Meant → T.Program → Source
source_of table p = record { decls = p.decls; meant = λ node. unwrap_or (slice_get table node) meant.Nothing }

-- WRITTEN TYPES

abbrev pub sized_type : ℕ → Option PlainType
sized_type number =
    cond (number == INT8) (Some (Y.Sized num.I8))
    (cond (number == INT16) (Some (Y.Sized num.I16))
    (cond (number == INT32) (Some (Y.Sized num.I32))
    (cond (number == UINT8) (Some (Y.Sized num.U8))
    (cond (number == UINT16) (Some (Y.Sized num.U16))
    (cond (number == UINT32) (Some (Y.Sized num.U32))
    (cond (number == UINT64) (Some (Y.Sized num.U64)) None))))))

-- the type that a predeclared name stands for
abbrev pub built_type : ℕ → Option PlainType
built_type number = cond (number == INT) (Some Y.Int) (cond (number == BOOL) (Some Y.Bool) (sized_type number))

-- the type that a name stands for
abbrev pub type_meant : Meant → Option PlainType
type_meant (meant.Product node) = Some (Y.Product node)
type_meant (meant.Param place) = Some (Y.Param place)
type_meant (meant.Built number) = built_type number
type_meant other = None

-- a name of a type stands for one; so the empty tuple is never taken
abbrev pub named_type : Source → ℕ → PlainType
named_type source node = unwrap_or (type_meant (source.meant node)) unit

abbrev mutual
  pub written_type : Source → T.TypeExp → PlainType
  written_type source (T.NamedType name at) = named_type source at.node
  written_type source (T.SelfType token at) = named_type source at.node
  written_type source (T.ArrayType element at) = Y.Array (written_type source element)
  written_type source (T.TupleType parts at) = Y.Tuple (written_types source parts)

  pub written_types : Source → T.TypeExps → PlainTypes
  written_types source T.NoType = Y.End
  written_types source (T.ThenType written more) = Y.More (written_type source written) (written_types source more)

-- the type that is written, or `()`
abbrev pub result_type : Source → Option T.TypeExp → PlainType
result_type source None = unit
result_type source (Some written) = written_type source written

-- BY NODE

abbrev pub callable_if : ℕ → T.Callable → Option T.Callable
callable_if node c = cond (c.at.node == node) (Some c) None

abbrev pub member_if : ℕ → T.MemberKind → Option T.Callable
member_if node (T.Field name written) = None
member_if node T.MemberwiseInit = None
member_if node (T.MemberCallable c) = callable_if node c

abbrev pub callable_among : ℕ → List T.Member → Option T.Callable
callable_among node [] = None
callable_among node (member ∷ more) = or (member_if node member.kind) (callable_among node more)

abbrev pub callable_in : ℕ → T.DeclKind → Option T.Callable
callable_in node (T.DeclCallable c) = callable_if node c
callable_in node (T.DeclProduct p) = callable_among node p.members
callable_in node (T.DeclTrait t) = callable_among node t.members
callable_in node (T.DeclConform c) = callable_among node c.members

-- the function, method, subscript, `deinit` or requirement that is declared at a node
abbrev pub callable_at : ℕ → List T.Decl → Option T.Callable
callable_at node [] = None
callable_at node (decl ∷ more) = or (callable_in node decl.kind) (callable_at node more)

abbrev pub trait_members : ℕ → T.DeclKind → List T.Member
trait_members node (T.DeclTrait t) = cond (t.at.node == node) t.members []
trait_members node other = []

-- the members of the trait at a node
abbrev pub members_of_trait : ℕ → List T.Decl → List T.Member
members_of_trait node [] = []
members_of_trait node (decl ∷ more) = trait_members node decl.kind ++ members_of_trait node more

-- MEMBERS OF A TYPE
-- They are those of its declaration and those of its conformances, in the order of the file.

abbrev pub members_for : Source → PlainType → T.DeclKind → List T.Member
members_for source type (T.DeclCallable c) = []
members_for source type (T.DeclProduct p) = cond (same_type type (Y.Product p.at.node)) p.members []
members_for source type (T.DeclTrait t) = []
members_for source type (T.DeclConform c) = cond (same_type type (named_type source c.target.node)) c.members []

abbrev pub members_in : Source → PlainType → List T.Decl → List T.Member
members_in source type [] = []
members_in source type (decl ∷ more) = members_for source type decl.kind ++ members_in source type more

abbrev pub members_of : Source → PlainType → List T.Member
members_of source type = members_in source type source.decls

-- a field: its name, the node of its member, and its type
pub record Field : Type 0 where
  pub name : List ℕ
  pub node : ℕ
  pub written : T.TypeExp
  pub type : PlainType

abbrev pub field_of : Source → ℕ → T.MemberKind → List Field
field_of source node (T.Field name written) = record { name = name.text; node = node; written = written; type = written_type source written } ∷ []
field_of source node T.MemberwiseInit = []
field_of source node (T.MemberCallable c) = []

abbrev pub fields_among : Source → List T.Member → List Field
fields_among source [] = []
fields_among source (member ∷ more) = field_of source member.at.node member.kind ++ fields_among source more

-- the fields of a type, in order: those of a product
abbrev pub fields_of : Source → PlainType → List Field
fields_of source type = fields_among source (members_of source type)

abbrev pub field_named : List ℕ → List Field → Option Field
field_named name [] = None
field_named name (field ∷ more) = cond (bytes_eq name field.name) (Some field) (field_named name more)

abbrev pub field_at : ℕ → List Field → Option Field
field_at node [] = None
field_at node (field ∷ more) = cond (field.node == node) (Some field) (field_at node more)

abbrev pub names_of : List Field → List (Option (List ℕ))
names_of fields = map (λ (field : Field). Some field.name) fields

abbrev pub same_kind : CallableKind → CallableKind → Truth
same_kind kind.Function kind.Function = true
same_kind kind.Subscript kind.Subscript = true
same_kind kind.Deinit kind.Deinit = true
same_kind kind.Requirement kind.Requirement = true
same_kind a b = false

abbrev pub callable_named_here : CallableKind → List ℕ → T.MemberKind → Option T.Callable
callable_named_here wanted name (T.MemberCallable c) = cond (same_kind c.kind wanted && bytes_eq name (own_name c)) (Some c) None
callable_named_here wanted name other = None

-- the first member of this kind with this full name
abbrev pub callable_named : CallableKind → List ℕ → List T.Member → Option T.Callable
callable_named wanted name [] = None
callable_named wanted name (member ∷ more) = or (callable_named_here wanted name member.kind) (callable_named wanted name more)

-- the requirement with this full name of the first bound that has one
abbrev pub requirement_named : Source → List ℕ → List NameUse → Option T.Callable
requirement_named source name [] = None
requirement_named source name (bound ∷ more) = or (requirement_of source name (source.meant bound.node)) (requirement_named source name more)
  where
    requirement_of : Source → List ℕ → Meant → Option T.Callable
    requirement_of source name (meant.Trait node) = callable_named kind.Requirement name (members_of_trait node source.decls)
    requirement_of source name other = None

-- the bounds of a type parameter
abbrev pub bounds_at : ℕ → List TypeParam → List NameUse
bounds_at place [] = []
bounds_at place (p ∷ more) = cond (place == 0) p.bounds (bounds_at (place - 1) more)

-- WHAT IS COPYABLE

abbrev pub is_copyable_trait : Meant → Truth
is_copyable_trait (meant.Built number) = number == COPYABLE
is_copyable_trait other = false

-- whether `Copyable` is in a list of traits
abbrev pub lists_copyable : Source → List NameUse → Truth
lists_copyable source [] = false
lists_copyable source (name ∷ more) = is_copyable_trait (source.meant name.node) || lists_copyable source more

abbrev pub declared_copyable : Source → PlainType → T.DeclKind → Truth
declared_copyable source type (T.DeclCallable c) = false
declared_copyable source type (T.DeclProduct p) = same_type type (Y.Product p.at.node) && lists_copyable source p.traits
declared_copyable source type (T.DeclTrait t) = false
declared_copyable source type (T.DeclConform c) = same_type type (named_type source c.target.node) && lists_copyable source c.traits

-- whether a type declares `Copyable`, or a conformance of it does
abbrev pub declares_copyable : Source → PlainType → List T.Decl → Truth
declares_copyable source type [] = false
declares_copyable source type (decl ∷ more) = declared_copyable source type decl.kind || declares_copyable source type more

-- Integers and truth values are copyable; a tuple or an array is where its parts are; a product where it declares `Copyable`; a
-- type parameter, of these, where a bound says so.
abbrev mutual
  pub is_copyable : Source → List TypeParam → PlainType → Truth
  is_copyable source generics Y.Int = true
  is_copyable source generics Y.Bool = true
  is_copyable source generics (Y.Sized num) = true
  is_copyable source generics (Y.Tuple parts) = are_copyable source generics parts
  is_copyable source generics (Y.Product node) = declares_copyable source (Y.Product node) source.decls
  is_copyable source generics (Y.Array element) = is_copyable source generics element
  is_copyable source generics (Y.Param place) = lists_copyable source (bounds_at place generics)

  pub are_copyable : Source → List TypeParam → PlainTypes → Truth
  are_copyable source generics Y.End = true
  are_copyable source generics (Y.More first rest) = is_copyable source generics first && are_copyable source generics rest
