-- What a walk knows, in a table of types that grows, and after several parts of a walk.
use Rattle.std.proofs.Common.{◌≡◌, ◌==◌, ℕ, List, [], ◌∷◌, ◌++◌, Option, Some, None, IfSome, cond, flat_map, Bool, true, false, refl, sym, ap, subst, ◌∙◌}
use Rattle.std.proofs.Common.{append_assoc}
use Rattle.std.proofs.lemmas.Grind.{flat_map-append}
use Rattle.std.proofs.lemmas.List.{append-nil}
use Rattle.std.specs.Option.{option_map, option_and_then}
use Rattle.hy_base.specs.First.{Refusal}
use Rattle.hy_base.proofs.Walks.{after_append}
use Rattle.hy_tree.specs.Names.{or}
use Rattle.hy_tree.specs.declared.declaration.TypeParam.{TypeParam}
use Rattle.hy_types.specs.Types.{Table, HasId, Extends, type_of}
use Rattle.hy_types.specs.declared.kinds.TyId.{TyId}
use Rattle.hy_types.proofs.Replaced.{id_stays, type_kept, extends_itself, extends_on}
use Rattle.hy_signatures.specs.Shown.{source_shown}
use Rattle.hy_signatures.specs.declared.source.Source.{Source}
use Rattle.hy_signatures.specs.declared.tables.Tables.{Tables}
use Rattle.hy_signatures.proofs.SourceTables.{tables_kept}
use Rattle.hy_check.specs.Facts.{Fact, HasType, Calls, type_among, phrase_types}
use Rattle.hy_check.specs.Known.{Known, Learns, Walks}
use Rattle.hy_check.specs.KnownShown.{AreRight, IsRight, known_of, local_at, noted_at, types_shown, around_shown}
use Rattle.hy_check.specs.declared.checker.Checker.{Checker}
use Rattle.hy_check.specs.Noted.{note, after}
use Rattle.hy_check.specs.Phrases.{Phrase}
use Rattle.hy_check.specs.Refusals.{broken_by}

-- A TABLE OF TYPES THAT GROWS

module _ (old new : Table) (stays : Extends old new) where
  pub perhaps_stays : (o : Option TyId) → IfSome o (λ id. HasId old id) → IfSome o (λ id. HasId new id)
  perhaps_stays None known = known
  perhaps_stays (Some id) known = id_stays old new stays id known

  pub perhaps_kept : (o : Option TyId) → IfSome o (λ id. HasId old id) → option_map (type_of new) o ≡ option_map (type_of old) o
  perhaps_kept None known = refl
  perhaps_kept (Some id) known = ap Some (type_kept old new stays id known)

  noted_kept : (o : Option TyId) → ((id : TyId) → o ≡ Some id → HasId old id) → option_map (type_of new) o ≡ option_map (type_of old) o
  noted_kept None known = refl
  noted_kept (Some id) known = ap Some (type_kept old new stays id (known id refl))

  local_kept : (o : Option (Option TyId)) → ((id : TyId) → o ≡ Some (Some id) → HasId old id)
      → option_and_then (λ id. option_map (type_of new) id) o ≡ option_and_then (λ id. option_map (type_of old) id) o
  local_kept None known = refl
  local_kept (Some None) known = refl
  local_kept (Some (Some id)) known = ap Some (type_kept old new stays id (known id refl))

  module _ (source : Source) (tables : Tables) (own : Option TyId) (locals : List (ℕ × Option TyId)) (noted : List (ℕ × TyId))
      (right : AreRight old source tables own locals noted) where
    pub right_kept : AreRight new source tables own locals noted
    right_kept = record {
      declared = tables_kept old new (source_shown source) tables stays right.declared;
      itself = perhaps_stays own right.itself;
      variables = λ node id at. id_stays old new stays id (right.variables node id at);
      nodes = λ node id at. id_stays old new stays id (right.nodes node id at);
    }

    pub around_kept : (generics : List TypeParam) → around_shown new source generics own locals ≡ around_shown old source generics own locals
    around_kept generics = λ i. record {
      source = source_shown source;
      generics = generics;
      own = perhaps_kept own right.itself i;
      locals = λ node. local_kept (local_at locals node) (λ id at. right.variables node id at) i;
    }

    pub types_kept : (node : ℕ) → types_shown new noted node ≡ types_shown old noted node
    types_kept node = noted_kept (noted_at noted node) (λ id at. right.nodes node id at)

-- SEVERAL PARTS OF A WALK

pub or_none : {A : Type 0} (a : Option A) → or a None ≡ a
or_none None = refl
or_none (Some a) = refl

or_or : {A : Type 0} (a b c : Option A) → or (or a b) c ≡ or a (or b c)
or_or None b c = refl
or_or (Some a) b c = refl

pub among_both : (node : ℕ) (fs gs : List Fact) → type_among node (fs ++ gs) ≡ or (type_among node fs) (type_among node gs)
among_both node [] gs = refl
among_both node (HasType other type ∷ fs) gs = by (among_both node fs gs) (other == node)
  where
    by : type_among node (fs ++ gs) ≡ or (type_among node fs) (type_among node gs) → (b : Bool)
        → cond b (Some type) (type_among node (fs ++ gs)) ≡ or (cond b (Some type) (type_among node fs)) (type_among node gs)
    by rest true = refl
    by rest false = rest
among_both node (Calls other sig ∷ fs) gs = among_both node fs gs

pub learns_none : (known : Known) → Learns known known [] []
learns_none known = record { around = refl; first = refl; types = λ node. sym (or_none (known.types node)); stays = extends_itself known.table }

-- one part and the next
pub learns_then : (a b c : Known) (xs ys : List Refusal) (fs gs : List Fact) → Learns a b xs fs → Learns b c ys gs → Learns a c (xs ++ ys) (fs ++ gs)
learns_then a b c xs ys fs gs h k = record {
  around = k.around ∙ h.around;
  first = k.first ∙ ap (after ys) h.first ∙ sym (after_append note xs ys a.first);
  types = λ node. k.types node ∙ ap (λ o. or o (type_among node gs)) (h.types node)
      ∙ or_or (a.types node) (type_among node fs) (type_among node gs) ∙ ap (or (a.types node)) (sym (among_both node fs gs));
  stays = extends_on a.table b.table c.table h.stays k.stays;
}

-- what stands in the tables of a checker, in a table of types that grows
module _ (c : Checker) (new : Table) (right : IsRight c) (stays : Extends c.types new) where
  pub grown_right : IsRight (record c { types = new })
  grown_right = right_kept c.types new stays c.source c.tables c.own c.locals.entries c.noted.entries right

  pub grown : Learns (known_of c) (known_of (record c { types = new })) [] []
  grown = record {
    around = around_kept c.types new stays c.source c.tables c.own c.locals.entries c.noted.entries right c.generics.now;
    first = refl;
    types = λ node. types_kept c.types new stays c.source c.tables c.own c.locals.entries c.noted.entries right node
        ∙ sym (or_none (types_shown c.types c.noted.entries node));
    stays = stays;
  }

pub local_known : (c : Checker) (node : ℕ) (o : Option TyId) → IsRight c → local_at c.locals.entries node ≡ Some o → IfSome o (λ id. HasId c.types id)
local_known c node None right at = tt
local_known c node (Some id) right at = right.variables node id at

pub walks_then : (a b c : Known) (ps qs : List Phrase) → Walks a b ps → Walks b c qs → Walks a c (ps ++ qs)
walks_then a b c ps qs h k =
    let both = learns_then a b c (flat_map broken_by ps) (flat_map broken_by qs) (flat_map phrase_types ps) (flat_map phrase_types qs) h k in
    subst (λ (fs : List Fact). Learns a c (flat_map broken_by (ps ++ qs)) fs) (sym (flat_map-append phrase_types ps qs))
    (subst (λ (xs : List Refusal). Learns a c xs (flat_map phrase_types ps ++ flat_map phrase_types qs)) (sym (flat_map-append broken_by ps qs)) both)

-- HOW FAR A WALK HAS COME

-- of all broken rules and types of nodes, these are the rest
pub record IsLearning (start now : Known) (all rest : List Refusal) (facts more : List Fact) : Type 0 where
  pub done : List Refusal
  pub told : List Fact
  pub learns : Learns start now done told
  pub parted : done ++ rest ≡ all
  pub kept : told ++ more ≡ facts

pub learning_start : (known : Known) (all : List Refusal) (facts : List Fact) → IsLearning known known all all facts facts
learning_start known all facts = record { done = []; told = []; learns = learns_none known; parted = refl; kept = refl }

pub learning_next : (start now new : Known) (all rest one later : List Refusal) (facts more fs after : List Fact) → IsLearning start now all rest facts more
    → rest ≡ one ++ later → more ≡ fs ++ after → Learns now new one fs → IsLearning start new all later facts after
learning_next start now new all rest one later facts more fs after at same told learns = record {
  done = at.done ++ one;
  told = at.told ++ fs;
  learns = learns_then start now new at.done one at.told fs at.learns learns;
  parted = append_assoc at.done one later ∙ ap (λ xs. at.done ++ xs) (sym same) ∙ at.parted;
  kept = append_assoc at.told fs after ∙ ap (λ xs. at.told ++ xs) (sym told) ∙ at.kept;
}

pub learning_end : (start now : Known) (all rest : List Refusal) (facts more : List Fact) → IsLearning start now all rest facts more → rest ≡ []
    → more ≡ [] → Learns start now all facts
learning_end start now all rest facts more at none nothing =
    subst (λ (xs : List Refusal). Learns start now xs facts) (sym (append-nil at.done) ∙ ap (λ xs. at.done ++ xs) (sym none) ∙ at.parted)
    (subst (λ (fs : List Fact). Learns start now at.done fs) (sym (append-nil at.told) ∙ ap (λ fs. at.told ++ fs) (sym nothing) ∙ at.kept) at.learns)

-- of all phrases, these are the rest
pub record IsAt (start now : Known) (all rest : List Phrase) : Type 0 where
  pub done : List Phrase
  pub walks : Walks start now done
  pub parted : done ++ rest ≡ all

pub at_start : (known : Known) (all : List Phrase) → IsAt known known all all
at_start known all = record { done = []; walks = learns_none known; parted = refl }

pub at_next : (start now new : Known) (all rest one more : List Phrase) → IsAt start now all rest → rest ≡ one ++ more → Walks now new one
    → IsAt start new all more
at_next start now new all rest one more at same walks = record {
  done = at.done ++ one;
  walks = walks_then start now new at.done one at.walks walks;
  parted = append_assoc at.done one more ∙ ap (λ ps. at.done ++ ps) (sym same) ∙ at.parted;
}

pub at_end : (start now : Known) (all rest : List Phrase) → IsAt start now all rest → rest ≡ [] → Walks start now all
at_end start now all rest at none =
    subst (λ (ps : List Phrase). Walks start now ps) (sym (append-nil at.done) ∙ ap (λ ps. at.done ++ ps) (sym none) ∙ at.parted) at.walks
