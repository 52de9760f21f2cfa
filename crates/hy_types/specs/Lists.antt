-- Whether two lists have the same types.
use Rattle.std.specs.Prelude.{◌≡◌, ◌==◌, Bool, List}
use Rattle.std.proofs.Common.{ap}
use Rattle.std.specs.Bool.{Decides}
use Rattle.std.specs.Cmp.{IsEquivalence, IsPartialEquivalence, decided, unsigned_Decides, partial_equiv_from_equiv}
use Rattle.std.specs.Cmp.Lexicographic.{pointwise, pointwise_decides}
use Rattle.std.specs.Hash.{HashWrites, Alike, same_Alike, slice, u32}
use Rattle.hy_types.specs.declared.kinds.TyId.{TyId}

abbrev pub same_id : TyId → TyId → Bool
same_id a b = a.at == b.at

abbrev pub same_ids : List TyId → List TyId → Bool
same_ids = pointwise same_id

pub same_id-Decides : (a b : TyId) → Decides (same_id a b) (a ≡ b)
same_id-Decides a b = (λ h. λ i. record { at = (unsigned_Decides a.at b.at).0 h i }, λ e. (unsigned_Decides a.at b.at).1 (ap (λ (id : TyId). id.at) e))

pub same_ids-Decides : (xs ys : List TyId) → Decides (same_ids xs ys) (xs ≡ ys)
same_ids-Decides = pointwise_decides same_id-Decides

pub same_ids_equiv : IsEquivalence same_ids
same_ids_equiv = decided same_ids same_ids-Decides

pub same_ids_per : IsPartialEquivalence same_ids
same_ids_per = partial_equiv_from_equiv same_ids_equiv

-- what a hash reads of a list
abbrev pub ids_input : List TyId → HashWrites
ids_input ids = slice (λ (id : TyId). u32 id.at) ids

pub ids_alike : Alike same_ids ids_input
ids_alike = same_Alike ids_input same_ids-Decides
