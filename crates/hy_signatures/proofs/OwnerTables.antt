-- Tables of types.
use Rattle.std.proofs.Common.{◌≡◌, ◌||◌, ◌&&◌, Bool, true, false, cond, List, [], ◌∷◌, ◌++◌, Option, Some, None, refl, ap, sym, subst, ◌∙◌, true≢false}
use Rattle.std.proofs.lemmas.Bool.{eqb-true}
use Rattle.std.proofs.lemmas.List.{append-nil, map_more}
use Rattle.hy_base.specs.declared.numbers.Num.{Num}
use Rattle.hy_base.specs.declared.numbers.Num.TheVariants.{I8, I16, I32, U8, U16, U32, U64}
use Rattle.hy_base.specs.contracts.numbers.NumPartialEq.TheImpl as nums
use Rattle.hy_signatures.specs.NamedShown.{named_shown}
use Rattle.hy_signatures.specs.OwnersShown.{same_named, owner_at, IsOwner, OwnerIs, OwnersAre, Adds}
use Rattle.hy_signatures.specs.declared.owners.Owner.{Owner}
use Rattle.hy_signatures.specs.declared.owners.Owners.{Owners}
use Rattle.hy_signatures.specs.MembersShown.{HasMembers}
use Rattle.std.proofs.Common.{◌==◌}
use Rattle.std.specs.Option.{unwrap_or}
use Rattle.hy_tree.specs.declared.meant.Meant.{Meant}
use Rattle.hy_tree.specs.declared.meant.Meant.TheVariants as meant
use Rattle.hy_tree.specs.declared.predeclared.TheConstants.{INT, INT8, INT16, INT32, UINT8, UINT16, UINT32, UINT64, BOOL}
use Rattle.hy_types.specs.Types as Y
use Rattle.hy_signatures.specs.Declarations.{sized_type, type_meant}
use Rattle.hy_signatures.specs.Declarations.{Source, members_for, members_in, declared_copyable, declares_copyable}
use Rattle.hy_tree.specs.Denotes.{decl_of}
use Rattle.hy_tree.specs.declared.declaration.Decl.{Decl}
use Rattle.hy_types.specs.Types.{PlainType}
use Rattle.hy_types.proofs.Replaced.{extends_itself, extends_on}
use Rattle.std.proofs.Common.{ℕ, ◌<◌, ◌+◌, length, get_or, take, map, append_assoc}
use Rattle.hy_tree.specs.Tree as T
use Rattle.hy_types.specs.Types.{Table, Extends}
use Rattle.std.specs.Map.{lookup}
use Rattle.hy_signatures.proofs.MemberTables.{members_kept}
use Rattle.hy_signatures.specs.PlainTypes.{same_num, same_type, unit}
use Rattle.hy_signatures.specs.contracts.named.NamedPartialEq.TheImpl.{ghosts}
use Rattle.hy_signatures.specs.declared.named.Named.{Named}
use Rattle.hy_signatures.specs.declared.named.Named.TheVariants as named
use Rattle.hy_signatures.proofs.Equality.{equal_num, itself, one_answer}

nums_alike : (a b : Num) → nums.ghosts.eq a b ≡ same_num a b
nums_alike I8 I8 = refl
nums_alike I16 I16 = refl
nums_alike I32 I32 = refl
nums_alike U8 U8 = refl
nums_alike U16 U16 = refl
nums_alike U32 U32 = refl
nums_alike U64 U64 = refl
nums_alike a b = refl

-- the test of the code is that of the definitions
pub named_alike : (a b : Named) → ghosts.eq a b ≡ same_named a b
named_alike named.Int named.Int = refl
named_alike named.Bool named.Bool = refl
named_alike (named.Sized a) (named.Sized b) = nums_alike a b
named_alike named.Unit named.Unit = refl
named_alike (named.Product a) (named.Product b) = refl
named_alike (named.Param a) (named.Param b) = refl
named_alike a b = refl

pub named_tells : (a b : Named) → same_named a b ≡ true → a ≡ b
named_tells named.Int named.Int h = refl
named_tells named.Bool named.Bool h = refl
named_tells (named.Sized a) (named.Sized b) h = ap named.Sized (equal_num a b h)
named_tells named.Unit named.Unit h = refl
named_tells (named.Product a) (named.Product b) h = ap named.Product (eqb-true a b h)
named_tells (named.Param a) (named.Param b) h = ap named.Param (eqb-true a b h)
named_tells a b h = absurd (true≢false (sym h))

pub named_itself : (a : Named) → same_named a a ≡ true
named_itself a = itself (named_shown a)

pub named_turned : (a b : Named) → same_named a b ≡ same_named b a
named_turned a b = one_answer (same_named a b) (same_named b a)
    (λ h. subst (λ x. same_named x a ≡ true) (named_tells a b h) (named_itself a))
    (λ h. subst (λ x. same_named x b ≡ true) (named_tells b a h) (named_itself b))

-- a look-up by the test of the code
pub looked_alike : {X : Type 0} (wanted : Named) (entries : List (Named × X)) → lookup (λ other. same_named wanted other) entries
    ≡ lookup (ghosts.eq wanted) entries
looked_alike wanted entries = λ i. lookup (λ other. sym (named_alike wanted other) i) entries

-- ONE TYPE MORE

or_false : (b : Bool) → b || false ≡ b
or_false true = refl
or_false false = refl

pub owner_kept : (old new : Table) (source : Source) (members : List T.Member) (copyable : Bool) (kept : Option Owner) → Extends old new
    → OwnerIs old source members copyable kept → OwnerIs new source members copyable kept
owner_kept old new source members copyable None stays is = is
owner_kept old new source members copyable (Some kept) stays is =
    record { members = members_kept old new source members kept.members stays is.members; copyable = is.copyable }

module _ (old new : Table) (source : Source) (before mid after : Owners) (owner : Named) (more : List T.Member) (declares : Bool) (taken kept : Owner)
    (take : (members : List T.Member) (copyable : Bool) → OwnerIs old source members copyable (owner_at before owner)
    → IsOwner old source members copyable taken)
    (rest : (other : Named) → same_named other owner ≡ false → owner_at mid other ≡ owner_at before other)
    (made : (members : List T.Member) → HasMembers old source members taken.members → HasMembers new source (members ++ more) kept.members)
    (flag : kept.copyable ≡ (taken.copyable || declares))
    (put : (other : Named) → owner_at after other ≡ cond (same_named other owner) (Some kept) (owner_at mid other))
    (stays : Extends old new) where
  at : (members : Named → List T.Member) (copyable : Named → Bool) → OwnersAre old source members copyable before → (other : Named) (b : Bool)
      → same_named other owner ≡ b
      → OwnerIs new source (members other ++ cond b more []) (copyable other || (b && declares)) (owner_at after other)
  at members copyable are other true h =
      let same : other ≡ owner = named_tells other owner h in
      let was : IsOwner old source (members other) (copyable other) taken = take (members other) (copyable other)
      (subst (λ (o : Named). OwnerIs old source (members other) (copyable other) (owner_at before o)) same (are other)) in
      subst (OwnerIs new source (members other ++ more) (copyable other || declares))
      (sym (put other ∙ ap (λ b. cond b (Some kept) (owner_at mid other)) h))
      (record { members = made (members other) was.members; copyable = flag ∙ ap (λ b. b || declares) was.copyable })
  at members copyable are other false h =
      subst (OwnerIs new source (members other ++ []) (copyable other || false))
      (sym (put other ∙ ap (λ b. cond b (Some kept) (owner_at mid other)) h ∙ rest other h))
      (subst (λ list. OwnerIs new source list (copyable other || false) (owner_at before other)) (sym (append-nil (members other)))
      (subst (λ b. OwnerIs new source (members other) b (owner_at before other)) (sym (or_false (copyable other)))
      (owner_kept old new source (members other) (copyable other) (owner_at before other) stays (are other))))

  pub adds_one : Adds old new source (λ other. cond (same_named other owner) more []) (λ other. same_named other owner && declares) before after
  adds_one = record { owners = λ members copyable are other. at members copyable are other (same_named other owner) refl; stays = stays }

-- WALKS OVER DECLARATIONS

-- nothing is added
pub adds_none : (table : Table) (source : Source) (owners : Owners) → Adds table table source (λ named. []) (λ named. false) owners owners
adds_none table source owners = record {
  owners = λ members copyable are named.
      subst (λ list. OwnerIs table source list (copyable named || false) (owner_at owners named)) (sym (append-nil (members named)))
      (subst (λ b. OwnerIs table source (members named) b (owner_at owners named)) (sym (or_false (copyable named))) (are named));
  stays = extends_itself table;
}

or_or : (a b c : Bool) → (a || b) || c ≡ a || (b || c)
or_or true b c = refl
or_or false b c = refl

-- some declarations and one more
pub adds_more : (old mid new : Table) (source : Source) (before between after : Owners) (some one all : Named → List T.Member)
    (declared declares either : Named → Bool) → Adds old mid source some declared before between → Adds mid new source one declares between after
    → ((named : Named) → some named ++ one named ≡ all named) → ((named : Named) → (declared named || declares named) ≡ either named)
    → Adds old new source all either before after
adds_more old mid new source before between after some one all declared declares either first then joined or_both = record {
  owners = λ members copyable are named.
      subst (λ list. OwnerIs new source list (copyable named || either named) (owner_at after named))
      (append_assoc (members named) (some named) (one named) ∙ ap (λ list. members named ++ list) (joined named))
      (subst (λ b. OwnerIs new source ((members named ++ some named) ++ one named) b (owner_at after named))
      (or_or (copyable named) (declared named) (declares named) ∙ ap (λ b. copyable named || b) (or_both named))
      (then.owners (λ other. members other ++ some other) (λ other. copyable other || declared other) (first.owners members copyable are) named));
  stays = extends_on old mid new first.stays then.stays;
}

members_push : (source : Source) (type : PlainType) (decls : List T.Decl) (decl : T.Decl) → members_in source type (decls ++ decl ∷ [])
    ≡ members_in source type decls ++ members_for source type decl.kind
members_push source type [] decl = append-nil (members_for source type decl.kind)
members_push source type (d ∷ more) decl =
    ap (λ list. members_for source type d.kind ++ list) (members_push source type more decl)
    ∙ sym (append_assoc (members_for source type d.kind) (members_in source type more) (members_for source type decl.kind))

copyable_push : (source : Source) (type : PlainType) (decls : List T.Decl) (decl : T.Decl) → declares_copyable source type (decls ++ decl ∷ [])
    ≡ declares_copyable source type decls || declared_copyable source type decl.kind
copyable_push source type [] decl = or_false (declared_copyable source type decl.kind)
copyable_push source type (d ∷ more) decl =
    ap (λ b. declared_copyable source type d.kind || b) (copyable_push source type more decl)
    ∙ sym (or_or (declared_copyable source type d.kind) (declares_copyable source type more) (declared_copyable source type decl.kind))

module _ (source : Source) (type : PlainType) (all : List Decl) (k : ℕ) (decl : Decl) (item : decl ≡ get_or all k decl) (lt : k < length all) where
  one_longer : map decl_of (take (k + 1) all) ≡ map decl_of (take k all) ++ decl_of decl ∷ []
  one_longer = map_more decl_of all k decl lt ∙ ap (λ d. map decl_of (take k all) ++ decl_of d ∷ []) (sym item)

  pub members_longer : members_in source type (map decl_of (take k all)) ++ members_for source type (decl_of decl).kind
      ≡ members_in source type (map decl_of (take (k + 1) all))
  members_longer = sym (ap (members_in source type) one_longer ∙ members_push source type (map decl_of (take k all)) (decl_of decl))

  pub copyable_longer : (declares_copyable source type (map decl_of (take k all)) || declared_copyable source type (decl_of decl).kind)
      ≡ declares_copyable source type (map decl_of (take (k + 1) all))
  copyable_longer = sym (ap (declares_copyable source type) one_longer ∙ copyable_push source type (map decl_of (take k all)) (decl_of decl))

-- the same is added by other words
pub adds_alike : (old new : Table) (source : Source) (before after : Owners) (more more' : Named → List T.Member) (declares declares' : Named → Bool)
    → Adds old new source more declares before after → ((named : Named) → more named ≡ more' named)
    → ((named : Named) → declares named ≡ declares' named) → Adds old new source more' declares' before after
adds_alike old new source before after more more' declares declares' adds same also = record {
  owners = λ members copyable are named.
      subst (λ list. OwnerIs new source (members named ++ list) (copyable named || declares' named) (owner_at after named)) (same named)
      (subst (λ b. OwnerIs new source (members named ++ more named) (copyable named || b) (owner_at after named)) (also named)
      (adds.owners members copyable are named));
  stays = adds.stays;
}

-- TYPES THAT NO NAME STANDS FOR

abbrev IsNamed : PlainType → Type 0
IsNamed type = (n : Named) × (named_shown n ≡ type)

pick : (b : Bool) (type : PlainType) (rest : Option PlainType) → IsNamed type → IsNamed (unwrap_or rest unit)
    → IsNamed (unwrap_or (cond b (Some type) rest) unit)
pick true type rest one other = one
pick false type rest one other = other

sized_named : (number : ℕ) → IsNamed (unwrap_or (sized_type number) unit)
sized_named number =
    pick (number == INT8) (Y.Sized I8) _ (named.Sized I8, refl)
    (pick (number == INT16) (Y.Sized I16) _ (named.Sized I16, refl)
    (pick (number == INT32) (Y.Sized I32) _ (named.Sized I32, refl)
    (pick (number == UINT8) (Y.Sized U8) _ (named.Sized U8, refl)
    (pick (number == UINT16) (Y.Sized U16) _ (named.Sized U16, refl)
    (pick (number == UINT32) (Y.Sized U32) _ (named.Sized U32, refl)
    (pick (number == UINT64) (Y.Sized U64) None (named.Sized U64, refl) (named.Unit, refl)))))))

meant_named : (m : Meant) → IsNamed (unwrap_or (type_meant m) unit)
meant_named (meant.Product node) = (named.Product node, refl)
meant_named (meant.Param place) = (named.Param place, refl)
meant_named (meant.Built number) =
    pick (number == INT) Y.Int _ (named.Int, refl) (pick (number == BOOL) Y.Bool (sized_type number) (named.Bool, refl) (sized_named number))
meant_named meant.Nothing = (named.Unit, refl)
meant_named (meant.Local node) = (named.Unit, refl)
meant_named (meant.SelfField node) = (named.Unit, refl)
meant_named (meant.Fun node) = (named.Unit, refl)
meant_named (meant.Sub node) = (named.Unit, refl)
meant_named (meant.Trait node) = (named.Unit, refl)

module _ (source : Source) (type : PlainType) (none : (n : Named) → same_type type (named_shown n) ≡ false) where
  no_member : (decl : T.DeclKind) → members_for source type decl ≡ []
  no_member (T.DeclCallable c) = refl
  no_member (T.DeclProduct p) = ap (λ b. cond b p.members []) (none (named.Product p.at.node))
  no_member (T.DeclTrait t) = refl
  no_member (T.DeclConform c) =
      let target = meant_named (source.meant c.target.node) in
      ap (λ b. cond b c.members []) (ap (same_type type) (sym target.1) ∙ none target.0)

  -- a type that no name stands for has no members
  pub no_members : (decls : List T.Decl) → members_in source type decls ≡ []
  no_members [] = refl
  no_members (decl ∷ more) = ap (λ list. list ++ members_in source type more) (no_member decl.kind) ∙ no_members more
