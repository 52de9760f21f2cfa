-- Tables of members.
use Rattle.std.proofs.Common.{◌≡◌, ◌&&◌, ℕ, Bool, true, false, cond, List, [], ◌∷◌, ◌++◌, length, map}
use Rattle.std.proofs.Common.{Option, Some, None, is_some, refl, ap, sym, subst, ◌∙◌, append_assoc}
use Rattle.std.proofs.Common.{true≢false}
use Rattle.std.proofs.lemmas.List.{map_push, append-nil}
use Rattle.std.proofs.lemmas.Slice.Eq.{bytes_eq-Decides}
use Rattle.std.specs.Option.{option_map}
use Rattle.std.specs.Str.{bytes_eq}
use Rattle.hy_tree.specs.Denotes.{callable_of}
use Rattle.hy_tree.specs.Names.{or, own_name}
use Rattle.hy_tree.specs.Tree as T
use Rattle.hy_tree.specs.declared.declaration.CallableKind.{CallableKind}
use Rattle.hy_tree.specs.declared.declaration.CallableKind.TheVariants as kind
use Rattle.hy_types.specs.Types.{Table, Extends, HasId, HasIds}
use Rattle.hy_types.specs.declared.kinds.TyId.{TyId}
use Rattle.hy_types.proofs.Replaced.{type_kept, ids_stay, below_push}
use Rattle.hy_signatures.specs.CallablesShown.{HasTypes}
use Rattle.hy_signatures.specs.Declarations.{Source, Field, same_kind, callable_named, callable_named_here}
use Rattle.hy_signatures.specs.Declarations.{field_of, fields_among, members_of_trait, requirement_named}
use Rattle.std.proofs.Common.{◌<◌, ◌+◌, suc, get_or, drop, drop-cons, arith}
use Rattle.hy_tree.specs.declared.name.NameUse.{NameUse}
use Rattle.hy_tree.specs.declared.meant.Meant.TheVariants as meant
use Rattle.hy_signatures.specs.MembersShown.{IsFound}
use Rattle.hy_signatures.specs.MembersShown.{field_shown, HasFields, HasMembers, AreByName, row_named}
use Rattle.hy_signatures.specs.declared.callables.CallableTypes.{CallableTypes}
use Rattle.hy_signatures.specs.declared.members.ByName.{ByName}
use Rattle.hy_signatures.specs.declared.members.FieldType.{FieldType}
use Rattle.hy_signatures.specs.declared.members.Members.{Members}
use Rattle.hy_signatures.proofs.CallableTables.{or_none, among_push, types_kept, types_put}

-- FIELDS

abbrev numbers : List FieldType → List TyId
numbers kept = map (λ (field : FieldType). field.number) kept

shown_kept : (old new : Table) → Extends old new → (kept : List FieldType) → HasIds old (numbers kept)
    → map (field_shown new) kept ≡ map (field_shown old) kept
shown_kept old new stays [] known = refl
shown_kept old new stays (field ∷ more) known = λ i.
    record (field_shown old field) { type = type_kept old new stays field.number known.0 i } ∷ shown_kept old new stays more known.1 i

pub fields_kept : (old new : Table) (fields : List Field) (kept : List FieldType) → Extends old new → HasFields old fields kept → HasFields new fields kept
fields_kept old new fields kept stays has = record {
  known = ids_stay old new stays (numbers kept) has.known;
  are = shown_kept old new stays kept has.known ∙ has.are;
}

-- one field more
pub fields_more : (old new : Table) (before : List Field) (kept : List FieldType) (field : FieldType) (one : Field)
    → Extends old new → HasFields old before kept
    → HasId new field.number → field_shown new field ≡ one → HasFields new (before ++ one ∷ []) (kept ++ field ∷ [])
fields_more old new before kept field one stays has known is =
    let first = fields_kept old new before kept stays has in
    record {
      known = subst (HasIds new) (sym (map_push (λ (f : FieldType). f.number) kept field))
          (below_push (length new.types) (numbers kept) field.number first.known known);
      are = map_push (field_shown new) kept field ∙ (λ i. first.are i ++ is i ∷ []);
    }

-- MEMBERS THAT ARE CALLED

there : {A : Type 0} (o : Option A) → is_some o ≡ true → (a : A) × (o ≡ Some a)
there (Some a) h = (a, refl)
there None h = absurd (true≢false (sym h))

nothing : {A : Type 0} (o : Option A) → is_some o ≡ false → o ≡ None
nothing (Some a) h = absurd (true≢false h)
nothing None h = refl

kind_itself : (k : CallableKind) → same_kind k k ≡ true
kind_itself kind.Function = refl
kind_itself kind.Subscript = refl
kind_itself kind.Deinit = refl
kind_itself kind.Requirement = refl

present_or : {A : Type 0} (b : Bool) (o : Option A) (a : A) → (b ≡ true → is_some o ≡ true) → or o (cond b (Some a) None) ≡ o
present_or true None a h = absurd (true≢false (sym (h refl)))
present_or true (Some x) a h = refl
present_or false o a h = or_none o

absent_or : {A : Type 0} (b : Bool) (o : Option A) (a : A) → (b ≡ true → is_some o ≡ false) → cond b (Some a) o ≡ or o (cond b (Some a) None)
absent_or true None a h = refl
absent_or true (Some x) a h = absurd (true≢false (h refl))
absent_or false o a h = sym (or_none o)

map_some : {A B : Type 0} (f : A → B) (o : Option A) → is_some (option_map f o) ≡ is_some o
map_some f None = refl
map_some f (Some a) = refl

map_cond : {A B : Type 0} (f : A → B) (b : Bool) (a : A) (o : Option A) → option_map f (cond b (Some a) o) ≡ cond b (Some (f a)) (option_map f o)
map_cond f true a o = refl
map_cond f false a o = refl

named_push : (wanted : CallableKind) (name : List ℕ) (members : List T.Member) (member : T.Member) → callable_named wanted name (members ++ member ∷ [])
    ≡ or (callable_named wanted name members) (callable_named_here wanted name member.kind)
named_push wanted name members member =
    among_push (λ (m : T.Member). callable_named_here wanted name m.kind) (callable_named wanted name) refl (λ m more. refl) members member

-- what the member is by a full name
here : (wanted : CallableKind) (name : List ℕ) (c : T.Callable) (member : T.MemberKind) → member ≡ T.MemberCallable c → c.kind ≡ wanted
    → callable_named_here wanted name member ≡ cond (bytes_eq name (own_name c)) (Some c) None
here wanted name c member is same =
    ap (callable_named_here wanted name) is
    ∙ ap (λ b. cond (b && bytes_eq name (own_name c)) (Some c) None) (ap (same_kind c.kind) (sym same) ∙ kind_itself c.kind)

-- one member more, whose full name has a member
pub name_present : (table : Table) (source : Source) (wanted : CallableKind) (before : List T.Member) (by : ByName) (member : T.Member) (c : T.Callable)
    → member.kind ≡ T.MemberCallable c → c.kind ≡ wanted → is_some (row_named by (own_name c)) ≡ true → AreByName table source wanted before by
    → AreByName table source wanted (before ++ member ∷ []) by
name_present table source wanted before by member c is same has are = record {
  shown = λ name.
      are.shown name
      ∙ sym (present_or (bytes_eq name (own_name c)) (callable_named wanted name before) c
      (λ e. ap is_some (sym (are.shown name)) ∙ map_some (λ (row : CallableTypes). callable_of row.callable.now) (row_named by name)
      ∙ ap (λ n. is_some (row_named by n)) ((bytes_eq-Decides name (own_name c)).0 e) ∙ has))
      ∙ sym (named_push wanted name before member ∙ ap (or (callable_named wanted name before)) (here wanted name c member.kind is same));
  types = are.types;
}

-- one member more, whose full name has none yet
pub name_absent : (old new : Table) (source : Source) (wanted : CallableKind) (before : List T.Member) (by after : ByName) (member : T.Member)
    (c : T.Callable)
    (row : CallableTypes) → member.kind ≡ T.MemberCallable c → c.kind ≡ wanted → is_some (row_named by (own_name c)) ≡ false
    → ((name : List ℕ) → row_named after name ≡ cond (bytes_eq name (own_name c)) (Some row) (row_named by name)) → callable_of row.callable.now ≡ c
    → HasTypes new source c row → Extends old new → AreByName old source wanted before by → AreByName new source wanted (before ++ member ∷ []) after
name_absent old new source wanted before by after member c row is same free put called has stays are = record {
  shown = λ name.
      ap (option_map (λ (r : CallableTypes). callable_of r.callable.now)) (put name)
      ∙ map_cond (λ (r : CallableTypes). callable_of r.callable.now) (bytes_eq name (own_name c)) row (row_named by name)
      ∙ (λ i. cond (bytes_eq name (own_name c)) (Some (called i)) (are.shown name i))
      ∙ absent_or (bytes_eq name (own_name c)) (callable_named wanted name before) c
      (λ e. ap is_some (sym (are.shown name)) ∙ map_some (λ (r : CallableTypes). callable_of r.callable.now) (row_named by name)
      ∙ ap (λ n. is_some (row_named by n)) ((bytes_eq-Decides name (own_name c)).0 e) ∙ free)
      ∙ sym (named_push wanted name before member ∙ ap (or (callable_named wanted name before)) (here wanted name c member.kind is same));
  types = λ name other at.
      types_put old new source row (bytes_eq name (own_name c)) (row_named by name) other stays
      (subst (λ callable. HasTypes new source callable row) (sym called) has) (are.types name other) (sym (put name) ∙ at);
}

-- one member more, which has none of these names
pub name_other : (old new : Table) (source : Source) (wanted : CallableKind) (before : List T.Member) (by : ByName) (member : T.Member)
    → ((name : List ℕ) → callable_named_here wanted name member.kind ≡ None) → Extends old new → AreByName old source wanted before by
    → AreByName new source wanted (before ++ member ∷ []) by
name_other old new source wanted before by member other stays are = record {
  shown = λ name.
      are.shown name ∙ sym (named_push wanted name before member ∙ ap (or (callable_named wanted name before)) (other name)
      ∙ or_none (callable_named wanted name before));
  types = λ name row at. types_kept old new source (callable_of row.callable.now) row stays (are.types name row at);
}

other_kind : (wanted : CallableKind) (c : T.Callable) (member : T.MemberKind) → member ≡ T.MemberCallable c → same_kind c.kind wanted ≡ false
    → (name : List ℕ) → callable_named_here wanted name member ≡ None
other_kind wanted c member is differs name =
    ap (callable_named_here wanted name) is ∙ ap (λ b. cond (b && bytes_eq name (own_name c)) (Some c) None) differs

pub fields_push : (source : Source) (members : List T.Member) (member : T.Member) → fields_among source (members ++ member ∷ [])
    ≡ fields_among source members ++ field_of source member.at.node member.kind
fields_push source [] member = append-nil (field_of source member.at.node member.kind)
fields_push source (m ∷ more) member =
    ap (λ fields. field_of source m.at.node m.kind ++ fields) (fields_push source more member)
    ∙ sym (append_assoc (field_of source m.at.node m.kind) (fields_among source more) (field_of source member.at.node member.kind))

-- one member more, which is no field
fields_other : (old new : Table) (source : Source) (before : List T.Member) (kept : List FieldType) (member : T.Member)
    → field_of source member.at.node member.kind ≡ []
    → Extends old new → HasFields old (fields_among source before) kept → HasFields new (fields_among source (before ++ member ∷ [])) kept
fields_other old new source before kept member none stays has =
    subst (λ fields. HasFields new fields kept)
    (sym (fields_push source before member ∙ ap (λ fields. fields_among source before ++ fields) none ∙ append-nil (fields_among source before)))
    (fields_kept old new (fields_among source before) kept stays has)

module _ (old new : Table) (source : Source) (before : List T.Member) (kept : Members) (member : T.Member) (stays : Extends old new)
    (has : HasMembers old source before kept) where
  -- what is called stays
  pub names_kept : (wanted : CallableKind) (by : ByName) → ((name : List ℕ) → callable_named_here wanted name member.kind ≡ None)
      → AreByName old source wanted before by → AreByName new source wanted (before ++ member ∷ []) by
  names_kept wanted by none are = name_other old new source wanted before by member none stays are

  -- one member more, which is a field
  pub with_field : (after : List FieldType) (one : Field) → field_of source member.at.node member.kind ≡ one ∷ []
      → HasFields new (fields_among source before ++ one ∷ []) after → HasFields new (fields_among source (before ++ member ∷ [])) after
  with_field after one is more =
      subst (λ all. HasFields new all after) (sym (fields_push source before member ∙ ap (λ some. fields_among source before ++ some) is)) more

  -- one member more, which is `memberwise init`
  pub with_init : member.kind ≡ T.MemberwiseInit → HasMembers new source (before ++ member ∷ []) kept
  with_init is = record {
    fields = fields_other old new source before kept.fields.items member (ap (field_of source member.at.node) is) stays has.fields;
    functions = names_kept kind.Function kept.functions (λ name. ap (callable_named_here kind.Function name) is) has.functions;
    subscripts = names_kept kind.Subscript kept.subscripts (λ name. ap (callable_named_here kind.Subscript name) is) has.subscripts;
    requirements = names_kept kind.Requirement kept.requirements (λ name. ap (callable_named_here kind.Requirement name) is) has.requirements;
  }

  module _ (c : T.Callable) (is : member.kind ≡ T.MemberCallable c) where
    no_field : field_of source member.at.node member.kind ≡ []
    no_field = ap (field_of source member.at.node) is

    kept_fields : HasFields new (fields_among source (before ++ member ∷ [])) kept.fields.items
    kept_fields = fields_other old new source before kept.fields.items member no_field stays has.fields

    other : (wanted : CallableKind) (by : ByName) → same_kind c.kind wanted ≡ false → AreByName old source wanted before by
        → AreByName new source wanted (before ++ member ∷ []) by
    other wanted by differs are = name_other old new source wanted before by member (other_kind wanted c member.kind is differs) stays are

    pub with_function : (by : ByName) → c.kind ≡ kind.Function → AreByName new source kind.Function (before ++ member ∷ []) by
        → HasMembers new source (before ++ member ∷ []) (record kept { functions = by })
    with_function by same are = record {
      fields = kept_fields;
      functions = are;
      subscripts = other kind.Subscript kept.subscripts (ap (λ k. same_kind k kind.Subscript) same) has.subscripts;
      requirements = other kind.Requirement kept.requirements (ap (λ k. same_kind k kind.Requirement) same) has.requirements;
    }

    pub with_subscript : (by : ByName) → c.kind ≡ kind.Subscript → AreByName new source kind.Subscript (before ++ member ∷ []) by
        → HasMembers new source (before ++ member ∷ []) (record kept { subscripts = by })
    with_subscript by same are = record {
      fields = kept_fields;
      functions = other kind.Function kept.functions (ap (λ k. same_kind k kind.Function) same) has.functions;
      subscripts = are;
      requirements = other kind.Requirement kept.requirements (ap (λ k. same_kind k kind.Requirement) same) has.requirements;
    }

    pub with_requirement : (by : ByName) → c.kind ≡ kind.Requirement → AreByName new source kind.Requirement (before ++ member ∷ []) by
        → HasMembers new source (before ++ member ∷ []) (record kept { requirements = by })
    with_requirement by same are = record {
      fields = kept_fields;
      functions = other kind.Function kept.functions (ap (λ k. same_kind k kind.Function) same) has.functions;
      subscripts = other kind.Subscript kept.subscripts (ap (λ k. same_kind k kind.Subscript) same) has.subscripts;
      requirements = are;
    }

    pub with_deinit : c.kind ≡ kind.Deinit → HasMembers new source (before ++ member ∷ []) kept
    with_deinit same = record {
      fields = kept_fields;
      functions = other kind.Function kept.functions (ap (λ k. same_kind k kind.Function) same) has.functions;
      subscripts = other kind.Subscript kept.subscripts (ap (λ k. same_kind k kind.Subscript) same) has.subscripts;
      requirements = other kind.Requirement kept.requirements (ap (λ k. same_kind k kind.Requirement) same) has.requirements;
    }

-- IN A TABLE THAT GROWS

by_name_kept : (old new : Table) (source : Source) (wanted : CallableKind) (members : List T.Member) (by : ByName) → Extends old new
    → AreByName old source wanted members by → AreByName new source wanted members by
by_name_kept old new source wanted members by stays are = record {
  shown = are.shown;
  types = λ name row at. types_kept old new source (callable_of row.callable.now) row stays (are.types name row at);
}

pub members_kept : (old new : Table) (source : Source) (members : List T.Member) (kept : Members) → Extends old new → HasMembers old source members kept
    → HasMembers new source members kept
members_kept old new source members kept stays has = record {
  fields = fields_kept old new (fields_among source members) kept.fields.items stays has.fields;
  functions = by_name_kept old new source kind.Function members kept.functions stays has.functions;
  subscripts = by_name_kept old new source kind.Subscript members kept.subscripts stays has.subscripts;
  requirements = by_name_kept old new source kind.Requirement members kept.requirements stays has.requirements;
}

-- LOOK-UPS

pub found_in : (table : Table) (source : Source) (wanted : CallableKind) (list : List T.Member) (by : ByName) (name : List ℕ) (found : Option CallableTypes)
    → found ≡ row_named by name → AreByName table source wanted list by → IsFound table source (callable_named wanted name list) found
found_in table source wanted list by name found e are = record {
  is = ap (option_map (λ (row : CallableTypes). callable_of row.callable.now)) e ∙ are.shown name;
  types = λ row at. are.types name row (sym e ∙ at);
}

no_row : {A : Type 0} (table : Table) (source : Source) (row : CallableTypes) → None ≡ Some row → A
no_row table source row e = absurd (cc)

-- what a first bound requires is what some bounds require
found_first : (table : Table) (source : Source) (one rest all : Option T.Callable) (row : CallableTypes) → or one rest ≡ all
    → IsFound table source one (Some row) → IsFound table source all (Some row)
found_first table source None rest all row same found = absurd (let e = found.is in cc)
found_first table source (Some c) rest all row same found = record { is = found.is ∙ same; types = found.types }

-- where a first bound requires nothing, the others count
found_later : (table : Table) (source : Source) (one rest : Option T.Callable) → IsFound table source one None → or one rest ≡ rest
found_later table source None rest found = refl
found_later table source (Some c) rest found = absurd (let e = found.is in cc)

pub found_none : (table : Table) (source : Source) (all : Option T.Callable) → None ≡ all → IsFound table source all None
found_none table source all e = record { is = e; types = λ row at. no_row table source row at }

-- a bound that names a trait
pub trait_bound : (source : Source) (name : List ℕ) (bound : NameUse) (node : ℕ) → source.meant bound.node ≡ meant.Trait node
    → callable_named kind.Requirement name (members_of_trait node source.decls) ≡ requirement_named source name (bound ∷ [])
trait_bound source name bound node is =
    sym (or_none (callable_named kind.Requirement name (members_of_trait node source.decls)))
    ∙ ap (λ m. requirement_named (record { decls = source.decls; meant = λ n. m }) name (bound ∷ [])) (sym is)

parted : {A : Type 0} (one rest : Option A) → or one rest ≡ or (or one None) rest
parted one rest = ap (λ a. or a rest) (sym (or_none one))

module _ (source : Source) (name : List ℕ) (all : List NameUse) (k : ℕ) (bound : NameUse) (item : bound ≡ get_or all k bound) (lt : k < length all)
    (table : Table) (so : requirement_named source name (drop k all) ≡ requirement_named source name all) where
  bounds_parted : or (requirement_named source name (bound ∷ [])) (requirement_named source name (drop (k + 1) all)) ≡ requirement_named source name all
  bounds_parted =
      let next : suc k ≡ k + 1 = omega arith in
      let at : drop k all ≡ bound ∷ drop (k + 1) all = drop-cons all k bound lt ∙ (λ i. sym item i ∷ drop (next i) all) in
      sym (parted _ (requirement_named source name (drop (k + 1) all))) ∙ ap (requirement_named source name) (sym at) ∙ so

  pub bound_found : (row : CallableTypes) → IsFound table source (requirement_named source name (bound ∷ [])) (Some row)
      → IsFound table source (requirement_named source name all) (Some row)
  bound_found row found =
      found_first table source (requirement_named source name (bound ∷ [])) (requirement_named source name (drop (k + 1) all))
      (requirement_named source name all) row bounds_parted found

  pub bound_later : IsFound table source (requirement_named source name (bound ∷ [])) None
      → requirement_named source name (drop (k + 1) all) ≡ requirement_named source name all
  bound_later found =
      sym (found_later table source (requirement_named source name (bound ∷ [])) (requirement_named source name (drop (k + 1) all)) found) ∙ bounds_parted
