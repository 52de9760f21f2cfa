-- What is known of the nodes of a source that breaks no rule on names and types, and what it declares.
use Rattle.std.specs.Prelude.{ℕ, suc, ◌==◌, ◌&&◌, ◌||◌, Bool as Truth, false, List, [], ◌∷◌, Option, Some, None, cond, option_map}
use Rattle.std.specs.Prelude.{unwrap_or, codes}
use Rattle.std.specs.Str.{bytes_eq}
use Rattle.hy_tree.specs.Tree as T
use Rattle.hy_tree.specs.Findings.{meanings}
use Rattle.hy_tree.specs.Names.{or, own_name}
use Rattle.hy_tree.specs.Numbers.{nodes_stmts}
use Rattle.hy_tree.specs.declared.declaration.CallableKind.TheVariants as kind
use Rattle.hy_tree.specs.declared.meant.Meant.{Meant}
use Rattle.hy_tree.specs.declared.meant.Meant.TheVariants as meant
use Rattle.hy_tree.specs.declared.operator.Mode.{Mode}
use Rattle.hy_types.specs.Types as Y
use Rattle.hy_types.specs.Types.{PlainType}
use Rattle.hy_signatures.specs.PlainTypes.{unit}
use Rattle.hy_signatures.specs.Declarations.{Source, source_of, Field, fields_among, members_of, named_type, callable_at, callable_among, same_kind}
use Rattle.hy_check.specs.Facts.{Fact, facts, type_among, call_among}
use Rattle.hy_check.specs.Uses.{Sig, same_mode}

-- a source, with the types of its expressions, variables and parameters, and with its calls, by node
pub record Known : Type 0 where
  pub source : Source
  pub type : ℕ → Option PlainType
  pub call : ℕ → Option Sig

abbrev pub known_with : Source → List Fact → Known
known_with source all = record { source = source; type = λ node. type_among node all; call = λ node. call_among node all }

abbrev pub known_in : Source → Known
known_in source = known_with source (facts source)

-- what is known of a numbered tree
abbrev pub known_of : T.Program → Known
known_of p = known_in (source_of (meanings p) p)

-- the type of an expression, step, variable or parameter; `()` where it has none
abbrev pub type_at : Known → ℕ → PlainType
type_at known node = unwrap_or (known.type node) unit

-- NAMES

abbrev pub is_local : ℕ → Meant → Truth
is_local node (meant.Local other) = node == other
is_local node other = false

abbrev pub some_mentions : Source → ℕ → List ℕ → Truth
some_mentions source node [] = false
some_mentions source node (name ∷ more) = is_local node (source.meant name) || some_mentions source node more

-- whether the variable, parameter or projection that is declared at a node is mentioned anywhere in these statements
abbrev pub mentioned : Source → ℕ → T.Stmts → Truth
mentioned source node stmts = some_mentions source node (nodes_stmts stmts)

-- FIELDS
-- The fields of a product are its parts, in order of declaration.

-- the place of a field by its name
abbrev pub place_named : List ℕ → List Field → Option ℕ
place_named name [] = None
place_named name (field ∷ more) = cond (bytes_eq name field.name) (Some 0) (option_map (λ n. suc n) (place_named name more))

abbrev pub place_among : ℕ → List Field → Option ℕ
place_among node [] = None
place_among node (field ∷ more) = cond (field.node == node) (Some 0) (option_map (λ n. suc n) (place_among node more))

abbrev pub place_in : Source → ℕ → T.DeclKind → Option ℕ
place_in source node (T.DeclProduct p) = place_among node (fields_among source p.members)
place_in source node other = None

abbrev pub place_in_some : Source → ℕ → List T.Decl → Option ℕ
place_in_some source node [] = None
place_in_some source node (decl ∷ more) = or (place_in source node decl.kind) (place_in_some source node more)

-- the place of the field that is declared at a node
abbrev pub place_of_field : Source → ℕ → ℕ
place_of_field source node = unwrap_or (place_in_some source node source.decls) 0

-- BODIES

abbrev pub owner_if : Option T.Callable → PlainType → Option PlainType
owner_if None type = None
owner_if (Some c) type = Some type

abbrev pub owner_in : Source → ℕ → T.DeclKind → Option PlainType
owner_in source node (T.DeclCallable c) = None
owner_in source node (T.DeclProduct p) = owner_if (callable_among node p.members) (Y.Product p.at.node)
owner_in source node (T.DeclTrait t) = None
owner_in source node (T.DeclConform c) = owner_if (callable_among node c.members) (named_type source c.target.node)

abbrev pub owner_among : Source → ℕ → List T.Decl → Option PlainType
owner_among source node [] = None
owner_among source node (decl ∷ more) = or (owner_in source node decl.kind) (owner_among source node more)

-- the type of `self` in the member that is declared at a node; a function or subscript of the file has none
abbrev pub owner_of : Source → ℕ → Option PlainType
owner_of source node = owner_among source node source.decls

-- the body for a convention
abbrev pub variant_for : Mode → List T.Variant → Option T.Variant
variant_for wanted [] = None
variant_for wanted (v ∷ more) = cond (same_mode wanted v.mode) (Some v) (variant_for wanted more)

abbrev pub deinit_in : T.MemberKind → Option ℕ
deinit_in (T.MemberCallable c) = cond (same_kind c.kind kind.Deinit) (Some c.at.node) None
deinit_in other = None

abbrev pub deinit_among : List T.Member → Option ℕ
deinit_among [] = None
deinit_among (member ∷ more) = or (deinit_in member.kind) (deinit_among more)

-- the `deinit` of a product, by the node of its declaration
abbrev pub deinit_of : Source → (product : ℕ) → Option ℕ
deinit_of source product = deinit_among (members_of source (Y.Product product))

abbrev pub is_subscript_kind : Option T.Callable → Truth
is_subscript_kind None = false
is_subscript_kind (Some c) = same_kind c.kind kind.Subscript

-- whether a subscript is declared at a node
abbrev pub is_subscript : Source → ℕ → Truth
is_subscript source node = is_subscript_kind (callable_at node source.decls)

abbrev pub main_in : T.DeclKind → Option ℕ
main_in (T.DeclCallable c) = cond (same_kind c.kind kind.Function && bytes_eq (own_name c) (codes "main()")) (Some c.at.node) None
main_in other = None

abbrev pub main_among : List T.Decl → Option ℕ
main_among [] = None
main_among (decl ∷ more) = or (main_in decl.kind) (main_among more)

-- the node of `fun main()`
abbrev pub main_of : Source → ℕ
main_of source = unwrap_or (main_among source.decls) 0
