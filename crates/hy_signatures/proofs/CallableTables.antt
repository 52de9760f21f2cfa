-- Tables of what can be called.
use Rattle.std.proofs.Common.{◌≡◌, ◌<◌, ◌+◌, ℕ, Bool, true, false, cond, List, [], ◌∷◌, ◌++◌, length, get_or, take, map}
use Rattle.std.proofs.Common.{Option, Some, None, refl, ap, sym, subst, ◌∙◌}
use Rattle.std.proofs.lemmas.List.{map_more}
use Rattle.hy_tree.specs.Names.{or}
use Rattle.hy_types.proofs.Replaced.{extends_itself, extends_on}
use Rattle.hy_tree.specs.Denotes.{callable_of}
use Rattle.hy_tree.specs.Tree as T
use Rattle.hy_types.specs.Types.{Table, Extends}
use Rattle.hy_signatures.specs.CallablesShown.{HasTypes, parameter_types, callables_shown, Keeps}
use Rattle.hy_signatures.specs.Declarations.{Source, result_type}
use Rattle.hy_signatures.specs.declared.callables.CallableTypes.{CallableTypes}
use Rattle.hy_signatures.specs.declared.callables.Callables.{Callables}
use Rattle.hy_signatures.proofs.Numbering.{number_kept, numbers_kept}

pub types_kept : (old new : Table) (source : Source) (c : T.Callable) (row : CallableTypes) → Extends old new → HasTypes old source c row
    → HasTypes new source c row
types_kept old new source c row stays has = record {
  params = numbers_kept old new (parameter_types source c.params) row.params stays has.params;
  result = number_kept old new (result_type source c.result) row.result stays has.result;
}

-- one row more
pub types_put : (old new : Table) (source : Source) (made : CallableTypes) (is_new : Bool) (before : Option CallableTypes) (row : CallableTypes)
    → Extends old new → HasTypes new source (callable_of made.callable.now) made
    → (before ≡ Some row → HasTypes old source (callable_of row.callable.now) row) → cond is_new (Some made) before ≡ Some row
    → HasTypes new source (callable_of row.callable.now) row
types_put old new source made true before row stays has had at =
    let same : made ≡ row = cc in subst (λ (r : CallableTypes). HasTypes new source (callable_of r.callable.now) r) same has
types_put old new source made false before row stays has had at = types_kept old new source (callable_of row.callable.now) row stays (had at)

-- WALKS OVER DECLARATIONS

pub or_none : {A : Type 0} (a : Option A) → or a None ≡ a
or_none None = refl
or_none (Some a) = refl

pub or_or : {A : Type 0} (a b c : Option A) → or (or a b) c ≡ or a (or b c)
or_or None b c = refl
or_or (Some a) b c = refl

-- nothing is kept
pub keeps_none : (table : Table) (source : Source) (callables : Callables) → Keeps table table source callables callables (λ node. None)
keeps_none table source callables =
    record { shown = λ node. sym (or_none (callables_shown callables node)); types = λ have. have; stays = extends_itself table }

-- some declarations and one more
pub keeps_more : (old mid new : Table) (source : Source) (before between after : Callables) (some one all : ℕ → Option T.Callable)
    → Keeps old mid source before between some → Keeps mid new source between after one → ((node : ℕ) → or (some node) (one node) ≡ all node)
    → Keeps old new source before after all
keeps_more old mid new source before between after some one all first then same = record {
  shown = λ node. then.shown node ∙ ap (λ a. or a (one node)) (first.shown node) ∙ or_or (callables_shown before node) (some node) (one node)
      ∙ ap (or (callables_shown before node)) (same node);
  types = λ have. then.types (first.types have);
  stays = extends_on old mid new first.stays then.stays;
}

module _ {Y : Type 0} (one : Y → Option T.Callable) (among : List Y → Option T.Callable) (none : among [] ≡ None)
    (some : (y : Y) (more : List Y) → among (y ∷ more) ≡ or (one y) (among more)) where
  pub among_push : (ys : List Y) (y : Y) → among (ys ++ y ∷ []) ≡ or (among ys) (one y)
  among_push [] y = some y [] ∙ ap (or (one y)) none ∙ or_none (one y) ∙ sym (ap (λ a. or a (one y)) none)
  among_push (z ∷ ys) y = some z (ys ++ y ∷ []) ∙ ap (or (one z)) (among_push ys y) ∙ sym (or_or (one z) (among ys) (one y))
      ∙ sym (ap (λ a. or a (one y)) (some z ys))

  -- of a list, one more
  pub among_more : {X : Type 0} (of : X → Y) (all : List X) (k : ℕ) (x : X) → x ≡ get_or all k x → k < length all
      → or (among (map of (take k all))) (one (of x)) ≡ among (map of (take (k + 1) all))
  among_more of all k x item lt =
      ap (λ y. or (among (map of (take k all))) (one (of y))) item
      ∙ sym (ap among (map_more of all k x lt) ∙ among_push (map of (take k all)) (of (get_or all k x)))
