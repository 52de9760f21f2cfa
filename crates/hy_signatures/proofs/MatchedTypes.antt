-- Types for type parameters.
use Rattle.std.proofs.Common.{◌≡◌, List, [], ◌∷◌, suc, length, Option, Some, None, refl, ap}
use Rattle.std.specs.Option.{option_and_then}
use Rattle.std.proofs.Common.{ℕ, zero, ◌<◌, get_or, map, arith}
use Rattle.hy_types.specs.Types.{Table, PlainType, plain_types, type_of}
use Rattle.std.proofs.Common.{Bool, true, false, ◌&&◌, ◌⊎◌, inl, inr, sym, ◌∙◌}
use Rattle.std.proofs.lemmas.Bool.{cases_order}
use Rattle.std.specs.Option.{option_map}
use Rattle.hy_types.specs.Types.{Extends, HasId, More}
use Rattle.hy_types.proofs.Replaced.{type_kept}
use Rattle.hy_signatures.specs.PlainTypes.{replaced, replaced_all, types}
use Rattle.hy_signatures.specs.SolutionShown.{AreFound, found_shown, number_found}
use Rattle.hy_signatures.specs.declared.solutions.Solution.{Solution}
use Rattle.hy_signatures.specs.Signatures as S
use Rattle.hy_signatures.specs.Signatures.{fitted, solved, is_wanted, are_determined}
use Rattle.hy_signatures.specs.SignaturesShown.{AreWanted, parameter_shown}
use Rattle.hy_signatures.specs.WantedShown.{IsWanted}
use Rattle.hy_signatures.specs.declared.signatures.Parameter.{Parameter}
use Rattle.hy_types.specs.declared.kinds.TyId.{TyId}
use Rattle.hy_signatures.specs.PlainTypes.{Found, matched, matched_all}

-- what finds nothing after any found types finds nothing
never : (next : Found → Option Found) (first : Option Found) → ((found : Found) → next found ≡ None) → option_and_then next first ≡ None
never next None none = refl
never next (Some found) none = none found

-- lists of different lengths do not match
pub lengths_differ : (plain : TyId → PlainType) (wanted given : List TyId) (found : Found) → (length wanted ≡ length given → ⊥)
    → matched_all (plain_types plain wanted) (plain_types plain given) found ≡ None
lengths_differ plain [] [] found differ = absurd (differ refl)
lengths_differ plain [] (g ∷ given) found differ = refl
lengths_differ plain (w ∷ wanted) [] found differ = refl
lengths_differ plain (w ∷ wanted) (g ∷ given) found differ =
    never (matched_all (plain_types plain wanted) (plain_types plain given)) (matched (plain w) (plain g) found)
    (λ after. lengths_differ plain wanted given after (λ e. differ (ap suc e)))

-- as many types as parameters are wanted
pub counts_differ : (table : Table) (params : List Parameter) (given : List TyId) (found : Found) → (length params ≡ length given → ⊥)
    → solved (map (parameter_shown table) params) (map (type_of table) given) found ≡ None
counts_differ table [] [] found differ = absurd (differ refl)
counts_differ table [] (g ∷ given) found differ = refl
counts_differ table (p ∷ params) [] found differ = refl
counts_differ table (p ∷ params) (g ∷ given) found differ =
    never (solved (map (parameter_shown table) params) (map (type_of table) given)) (fitted (parameter_shown table p).wanted (type_of table g) found)
    (λ after. counts_differ table params given after (λ e. differ (ap suc e)))

pub wanted_at : (table : Table) (params : List Parameter) (k : ℕ) (d : Parameter) → AreWanted table params → k < length params
    → IsWanted table (get_or params k d).wanted
wanted_at table [] k d are lt = absurd (omega (arith, lt))
wanted_at table (p ∷ params) zero d are lt = are.0
wanted_at table (p ∷ params) (suc k) d are lt = wanted_at table params k d are.1 (omega (arith, lt))

and_false : (b : Bool) → b && false ≡ false
and_false true = refl
and_false false = refl

-- a type parameter that stands in no type of a parameter is not determined
pub not_determined : (params : List S.Parameter) (place count : ℕ) → place < count → is_wanted place params ≡ false → are_determined count params ≡ false
not_determined params place zero lt none = absurd (omega (arith, lt))
not_determined params place (suc count) lt none = by (λ before. not_determined params place count before none) (cases_order place count)
  where
    by : (place < count → are_determined count params ≡ false) → (place ≡ count) ⊎ ((place < count) ⊎ (count < place))
        → are_determined (suc count) params ≡ false
    by earlier (inl here) =
        ap (λ b. are_determined count params && b) (ap (λ n. is_wanted n params) (sym here) ∙ none) ∙ and_false (are_determined count params)
    by earlier (inr (inl before)) = ap (λ b. b && is_wanted count params) (earlier before)
    by earlier (inr (inr after)) = absurd (omega (arith, lt, after))

-- IN A TABLE THAT GROWS

shown_still : (old new : Table) (o : Option TyId) → Extends old new → ((id : TyId) → o ≡ Some id → HasId old id)
    → option_map (type_of new) o ≡ option_map (type_of old) o
shown_still old new None stays known = refl
shown_still old new (Some id) stays known = ap Some (type_kept old new stays id (known id refl))

pub found_still : (old new : Table) (found : Solution) → Extends old new → AreFound old found → found_shown new found ≡ found_shown old found
found_still old new found stays known = λ i place. shown_still old new (number_found found place) stays (known place) i

pub replaced_each : (found : Found) (plain : TyId → PlainType) (ids : List TyId) → types (map (λ id. replaced found (plain id)) ids)
    ≡ replaced_all found (plain_types plain ids)
replaced_each found plain [] = refl
replaced_each found plain (id ∷ ids) = ap (More (replaced found (plain id))) (replaced_each found plain ids)
