-- What a file declares, and which names are predeclared.
use Rattle.std.specs.Prelude.{ℕ, List, [], ◌∷◌, Option, Some, None, Bool, cond, ◌||◌, codes}
use Rattle.std.specs.Str.{bytes_eq}
use Rattle.hy_tree.specs.Tree as T
use Rattle.hy_tree.specs.Names.{Names, no_names, with_name, own_name, base_text}
use Rattle.hy_tree.specs.declared.declaration.CallableKind.{CallableKind}
use Rattle.hy_tree.specs.declared.declaration.CallableKind.TheVariants as kind
use Rattle.hy_tree.specs.declared.meant.Meant.{Meant}
use Rattle.hy_tree.specs.declared.meant.Meant.TheVariants as meant
use Rattle.hy_tree.specs.declared.name.Name.{Name}
use Rattle.hy_tree.specs.declared.predeclared.TheConstants.{PRINT, READ, PRECONDITION, INT, BOOL, COPYABLE, MOVABLE, DEINITIALIZABLE, COUNT, APPEND}
use Rattle.hy_tree.specs.declared.predeclared.TheConstants.{REMOVE_LAST, SWAP_AT, COPY, INT8, INT16, INT32, UINT8, UINT16, UINT32, UINT64}

-- the members of a type: fields by name, the base names of methods and subscripts, and these by full name
pub record Family : Type 0 where
  pub fields : Names
  pub bases : Names
  pub callables : Names

abbrev pub no_family : Family
no_family = record { fields = no_names; bases = no_names; callables = no_names }

-- the names of a file, the predeclared ones among them
pub record File : Type 0 where
  pub types : Names
  pub traits : Names
  -- functions and subscripts by full name
  pub callables : Names
  -- the base names of functions and subscripts
  pub bases : Names
  -- the names of members of all types and traits
  pub members : Names
  -- the members of each type, those of its conformances among them
  pub families : List ℕ → Family

-- the predeclared types
abbrev pub is_integer : List ℕ → Bool
is_integer name =
    bytes_eq name (codes "Int8") || (bytes_eq name (codes "Int16") || (bytes_eq name (codes "Int32") || (bytes_eq name (codes "UInt8")
    || (bytes_eq name (codes "UInt16") || (bytes_eq name (codes "UInt32") || (bytes_eq name (codes "UInt64") || bytes_eq name (codes "Int")))))))

abbrev pub with_integers : Names → Names
with_integers names =
    with_name (codes "Int") (meant.Built INT) (with_name (codes "UInt64") (meant.Built UINT64)
    (with_name (codes "UInt32") (meant.Built UINT32) (with_name (codes "UInt16") (meant.Built UINT16)
    (with_name (codes "UInt8") (meant.Built UINT8) (with_name (codes "Int32") (meant.Built INT32)
    (with_name (codes "Int16") (meant.Built INT16) (with_name (codes "Int8") (meant.Built INT8) names)))))))

-- names that no declaration may have
abbrev pub is_reserved : List ℕ → Bool
is_reserved name =
    bytes_eq name (codes "print") ||
    (bytes_eq name (codes "read") ||
    (bytes_eq name (codes "precondition") || (is_integer name || (bytes_eq name (codes "Bool") || (bytes_eq name (codes "Copyable")
    || (bytes_eq name (codes "Movable") || bytes_eq name (codes "Deinitializable")))))))

abbrev pub predeclared : File
predeclared = record {
  types = with_name (codes "Bool") (meant.Built BOOL) (with_integers no_names);
  traits = with_name (codes "Deinitializable") (meant.Built DEINITIALIZABLE)
      (with_name (codes "Movable") (meant.Built MOVABLE) (with_name (codes "Copyable") (meant.Built COPYABLE) no_names));
  callables = with_name (codes "precondition(_:)") (meant.Built PRECONDITION)
      (with_name (codes "read()") (meant.Built READ) (with_name (codes "print(_:)") (meant.Built PRINT) no_names));
  bases = with_name (codes "precondition") (meant.Built PRECONDITION)
      (with_name (codes "read") (meant.Built READ) (with_name (codes "print") (meant.Built PRINT) no_names));
  members = with_name (codes "copy") (meant.Built COPY) (with_name (codes "swap_at") (meant.Built SWAP_AT)
      (with_name (codes "remove_last") (meant.Built REMOVE_LAST)
      (with_name (codes "append") (meant.Built APPEND) (with_name (codes "count") (meant.Built COUNT) no_names))));
  families = λ owner. no_family;
}

-- MEMBERS

-- what a function or subscript of the file is called by, and what it means
abbrev pub meaning_of : CallableKind → ℕ → Meant
meaning_of kind.Subscript node = meant.Sub node
meaning_of kind.Function node = meant.Fun node
meaning_of kind.Deinit node = meant.Fun node
meaning_of kind.Requirement node = meant.Fun node

-- the name of a member that is called: `deinit` has one of its own
abbrev pub member_name_as : CallableKind → List ℕ → List ℕ
member_name_as kind.Deinit own = codes "deinit"
member_name_as kind.Function own = own
member_name_as kind.Subscript own = own
member_name_as kind.Requirement own = own

abbrev pub member_name : T.Callable → List ℕ
member_name c = member_name_as c.kind (own_name c)

abbrev pub asked : Option Name → Names → Names
asked (Some name) names = with_name name.text meant.Nothing names
asked None names = names

abbrev pub with_member : Family → ℕ → T.MemberKind → Family
with_member family node (T.Field name written) = record family { fields = with_name name.text (meant.SelfField node) family.fields }
with_member family node T.MemberwiseInit = family
with_member family node (T.MemberCallable c) = record family {
  bases = with_name (base_text c.name) meant.Nothing family.bases;
  callables =
      with_name (member_name c) meant.Nothing family.callables;
}

abbrev pub with_members : Family → List T.Member → Family
with_members family [] = family
with_members family (member ∷ more) = with_members (with_member family member.at.node member.kind) more

-- the names with which members are asked for
abbrev pub with_asked : Names → T.MemberKind → Names
with_asked names (T.Field name written) = with_name name.text meant.Nothing names
with_asked names T.MemberwiseInit = names
with_asked names (T.MemberCallable c) = asked c.name names

abbrev pub with_all_asked : Names → List T.Member → Names
with_all_asked names [] = names
with_all_asked names (member ∷ more) = with_all_asked (with_asked names member.kind) more

-- THE FILE

-- the members of a type come to those that its name has already
abbrev pub with_family : List ℕ → List T.Member → (List ℕ → Family) → List ℕ → Family
with_family owner members families = λ name. cond (bytes_eq name owner) (with_members (families owner) members) (families name)

abbrev pub with_decl : File → T.DeclKind → File
with_decl file (T.DeclCallable c) = record file {
  callables = with_name (own_name c) (meaning_of c.kind c.at.node) file.callables;
  bases = with_name (base_text c.name) meant.Nothing file.bases;
}
with_decl file (T.DeclProduct p) = record file {
  types = with_name p.name.text (meant.Product p.at.node) file.types;
  members = with_all_asked file.members p.members;
  families = with_family p.name.text p.members file.families;
}
with_decl file (T.DeclTrait t) = record file {
  traits = with_name t.name.text (meant.Trait t.at.node) file.traits;
  members = with_all_asked file.members t.members;
}
with_decl file (T.DeclConform c) = record file {
  members = with_all_asked file.members c.members;
  families = with_family c.target.text c.members file.families;
}

abbrev pub with_decls : File → List T.Decl → File
with_decls file [] = file
with_decls file (decl ∷ more) = with_decls (with_decl file decl.kind) more
