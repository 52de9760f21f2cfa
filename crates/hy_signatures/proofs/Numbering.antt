-- Loops that number types.
use Rattle.std.proofs.Common.{◌≡◌, ◌<◌, ◌≤◌, ℕ, ◌+◌, List, [], ◌∷◌, ◌++◌, length, get_or, take, map, refl, sym, ap, ◌∙◌}
use Rattle.std.proofs.lemmas.List.{take_more, take_all, map_push}
use Rattle.hy_tree.specs.Denotes.{type_of, types_of, param_of}
use Rattle.hy_tree.specs.declared.declaration.Param.{Param}
use Rattle.hy_signatures.specs.CallablesShown.{parameter_types}
use Rattle.hy_tree.specs.declared.written.TypeExp.{TypeExp}
use Rattle.hy_types.specs.Types as Y
use Rattle.hy_types.specs.Types.{Table, Extends, HasIds, PlainType, PlainTypes, plain_types}
use Rattle.hy_types.specs.declared.kinds.TyId.{TyId}
use Rattle.hy_types.proofs.Replaced.{id_stays, ids_stay, type_kept, types_kept, extends_itself, extends_on, below_push}
use Rattle.hy_signatures.specs.Declarations.{Source, written_type, written_types}
use Rattle.hy_signatures.specs.Numbered.{IsNumber, AreNumbers}
use Rattle.hy_signatures.specs.PlainTypes.{types, unit}
use Rattle.hy_signatures.specs.Basics.{AreBasics}
use Rattle.hy_signatures.specs.declared.types.Basics.{Basics}

-- a type keeps its number
pub number_kept : (old new : Table) (type : PlainType) (id : TyId) → Extends old new → IsNumber old type id → IsNumber new type id
number_kept old new type id stays is =
    record { known = id_stays old new stays id is.known; is = type_kept old new stays id is.known ∙ is.is }

pub numbers_kept : (old new : Table) (plain : PlainTypes) (ids : List TyId) → Extends old new → AreNumbers old plain ids → AreNumbers new plain ids
numbers_kept old new plain ids stays is =
    record { known = ids_stay old new stays ids is.known; are = types_kept old new stays ids is.known ∙ is.are }

pub basics_kept : (old new : Table) (basics : Basics) → Extends old new → AreBasics old basics → AreBasics new basics
basics_kept old new basics stays are = record {
  int = number_kept old new Y.Int basics.int stays are.int;
  truth = number_kept old new Y.Bool basics.truth stays are.truth;
  unit = number_kept old new unit basics.unit stays are.unit;
}

types_push : (plain : TyId → PlainType) (ids : List TyId) (id : TyId) (ts : List PlainType) (t : PlainType) → plain_types plain ids ≡ types ts
    → plain id ≡ t → plain_types plain (ids ++ id ∷ []) ≡ types (ts ++ t ∷ [])
types_push plain [] id [] t e h = λ i. Y.More (h i) Y.End
types_push plain [] id (u ∷ ts) t e h = cc
types_push plain (x ∷ ids) id [] t e h = cc
types_push plain (x ∷ ids) id (u ∷ ts) t e h =
    let head : plain x ≡ u = cc in
    let tail : plain_types plain ids ≡ types ts = cc in
    λ i. Y.More (head i) (types_push plain ids id ts t tail h i)

-- the first so many of a list have numbers, in a table that grows
pub record Numbering {X : Type 0} (f : X → PlainType) (all : List X) (old now : Table) (ids : List TyId) (k : ℕ) : Type 0 where
  pub stays : Extends old now
  pub are : AreNumbers now (types (map f (take k all))) ids

module _ {X : Type 0} (f : X → PlainType) (all : List X) (old : Table) where
  pub numbering_start : Numbering f all old old [] 0
  numbering_start = record { stays = extends_itself old; are = record { known = tt; are = refl } }

  pub numbering_more : (now new : Table) (ids : List TyId) (k : ℕ) (x : X) (id : TyId) → x ≡ get_or all k x → k < length all
      → Numbering f all old now ids k → Extends now new → IsNumber new (f x) id → Numbering f all old new (ids ++ id ∷ []) (k + 1)
  numbering_more now new ids k x id item lt before stays is =
      let kept = numbers_kept now new (types (map f (take k all))) ids stays before.are in
      let longer : map f (take k all) ++ f x ∷ [] ≡ map f (take (k + 1) all) =
      sym (map_push f (take k all) x) ∙ ap (λ y. map f (take k all ++ y ∷ [])) item ∙ ap (map f) (sym (take_more all k x lt)) in
      record {
        stays = extends_on old now new before.stays stays;
        are = record {
          known = below_push (length new.types) ids id kept.known is.known;
          are = types_push (Y.type_of new) ids id (map f (take k all)) (f x) kept.are is.is ∙ ap types longer;
        };
      }

  pub numbering_all : (now : Table) (ids : List TyId) (k : ℕ) → length all ≤ k → Numbering f all old now ids k → AreNumbers now (types (map f all)) ids
  numbering_all now ids k end so = record { known = so.are.known; are = so.are.are ∙ ap (λ xs. types (map f xs)) (take_all k all end) }

-- WRITTEN TYPES

pub written_all : (source : Source) (parts : List TypeExp) → types (map (λ x. written_type source (type_of x)) parts) ≡ written_types source (types_of parts)
written_all source [] = refl
written_all source (part ∷ more) = ap (Y.More (written_type source (type_of part))) (written_all source more)

pub parameters_all : (source : Source) (params : List Param) → types (map (λ (p : Param). written_type source (type_of p.written)) params)
    ≡ parameter_types source (map param_of params)
parameters_all source [] = refl
parameters_all source (p ∷ more) = ap (Y.More (written_type source (type_of p.written))) (parameters_all source more)
