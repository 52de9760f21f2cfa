-- Copyable types.
use Rattle.std.proofs.Common.{◌≡◌, ◌==◌, ◌<◌, ◌≤◌, ◌&&◌, ◌++◌, ℕ, zero, suc, ◌+◌, ◌-◌, cond, inl, inr}
use Rattle.std.proofs.Common.{Bool, true, false, List, [], ◌∷◌, length, get_or, drop, Some, slice_get}
use Rattle.std.proofs.Common.{refl, sym, ap, ◌∙◌, arith, drop-cons}
use Rattle.std.proofs.lemmas.List.{drop_all}
use Rattle.std.proofs.lemmas.Bool.{ne_eqb}
use Rattle.hy_tree.specs.declared.declaration.TypeParam.{TypeParam}
use Rattle.hy_types.proofs.Reading.{slice_get-push}
use Rattle.hy_types.specs.Types.{Table, plain_types, type_of}
use Rattle.hy_types.specs.declared.kinds.TyId.{TyId}
use Rattle.hy_signatures.specs.CopyablesShown.{TellCopyable}
use Rattle.hy_signatures.specs.Declarations.{Source, is_copyable, are_copyable, bounds_at}

module _ (table : Table) (source : Source) (generics : List TypeParam) (flags : List Bool) (parts : List TyId) (k : ℕ) where
  abbrev are : List TyId → Bool
  are ids = are_copyable source generics (plain_types (type_of table) ids)

  module _ (d : TyId) (flag : Bool) (lt : k < length parts) (tells : TellCopyable table source generics flags) (so : are (drop k parts) ≡ are parts)
      (at : slice_get flags (get_or parts k d).at ≡ Some flag) where
    split : are (drop k parts) ≡ flag && are (drop (k + 1) parts)
    split =
        let next : suc k ≡ k + 1 = omega arith in
        ap are (drop-cons parts k d lt ∙ ap (λ n. get_or parts k d ∷ drop n parts) next)
        ∙ ap (λ b. b && are (drop (k + 1) parts)) (sym (tells (get_or parts k d) flag at))

    -- a part that is copyable
    pub copyable_more : flag ≡ true → are (drop (k + 1) parts) ≡ are parts
    copyable_more e = ap (λ b. b && are (drop (k + 1) parts)) (sym e) ∙ sym split ∙ so

    -- a part that is not
    pub not_copyable : flag ≡ false → false ≡ are parts
    not_copyable e = ap (λ b. b && are (drop (k + 1) parts)) (sym e) ∙ sym split ∙ so

  pub all_are : length parts ≤ k → are (drop k parts) ≡ are parts → true ≡ are parts
  all_are end so = sym (ap are (drop_all k parts end)) ∙ so

not_zero : (n : ℕ) → (suc n == 0) ≡ false
not_zero n = ne_eqb (suc n) 0 (λ e. omega (arith, e))

bounds_next : (p : TypeParam) (more : List TypeParam) (place : ℕ) → bounds_at (suc place) (p ∷ more) ≡ bounds_at place more
bounds_next p more place =
    let less : suc place - 1 ≡ place = omega arith in
    λ i. cond (not_zero place i) p.bounds (bounds_at (less i) more)

pub bounds_there : (generics : List TypeParam) (place : ℕ) (d : TypeParam) → place < length generics
    → bounds_at place generics ≡ (get_or generics place d).bounds
bounds_there [] place d lt = absurd (omega (arith, lt))
bounds_there (p ∷ more) zero d lt = refl
bounds_there (p ∷ more) (suc place) d lt = bounds_next p more place ∙ bounds_there more place d (omega (arith, lt))

pub bounds_none : (generics : List TypeParam) (place : ℕ) → length generics ≤ place → bounds_at place generics ≡ []
bounds_none [] place le = refl
bounds_none (p ∷ more) zero le = absurd (omega (arith, le))
bounds_none (p ∷ more) (suc place) le = bounds_next p more place ∙ bounds_none more place (omega (arith, le))

-- one flag more
pub tells_more : (table : Table) (source : Source) (generics : List TypeParam) (flags : List Bool) (one : Bool) (at : ℕ) → at ≡ length flags
    → one ≡ is_copyable source generics (type_of table (record { at = at })) → TellCopyable table source generics flags
    → TellCopyable table source generics (flags ++ one ∷ [])
tells_more table source generics flags one at end is tells id flag here =
    elim (slice_get-push flags one id.at flag here) [
      | inl h ↦ tells id flag h
      | inr h ↦ sym h.1 ∙ is ∙ ap (λ n. is_copyable source generics (type_of table (record { at = n }))) (end ∙ sym h.0)
    ]
