-- What is known of words stays right.
use Rattle.std.proofs.Common.{◌≡◌, ◌<◌, ◌≤◌, ◌+◌, ◌⊎◌, inl, inr, ℕ, suc, Bool, true, false, List, [], ◌∷◌, ◌++◌, length, take, get_or, nat_le}
use Rattle.std.proofs.Common.{if◌then◌else◌, Some, slice_get, refl, sym, ap, subst, arith, Contains}
use Rattle.std.proofs.lemmas.Bool.{leb-true, leb-false}
use Rattle.std.proofs.lemmas.List.Elements.{Contains-append_left, Contains-push}
use Rattle.hy_types.specs.declared.kinds.TyId.{TyId}
use Rattle.hy_types.specs.declared.kinds.Ty.{Ty}
use Rattle.hy_types.specs.declared.kinds.Ty.TheVariants as ty
use Rattle.hy_types.specs.declared.sizes.Size.{Size}
use Rattle.hy_types.specs.declared.sizes.Size.TheVariants.{Pending, Parameter, Large, Words}
use Rattle.hy_types.specs.Types.{Table, AllBelow, row_at}
use Rattle.hy_types.specs.Words.{shape, Takes, of, TakeTogether, none, in_part, HoldsParameter, HasWords}
use Rattle.hy_types.specs.Sizes.{plus, IsRight, AreRight, IsRightTogether, IsRightFor}
use Rattle.std.proofs.lemmas.List.{take_more}
use Rattle.std.proofs.lemmas.Option.{slice_get-get_or}
use Rattle.hy_types.proofs.Sums.{sum_push}
use Rattle.hy_types.proofs.Reading.{below_at}

-- one more type beside others
module _ (table : Table) (sizes : List Size) (ids : List TyId) (id : TyId) where
  left : (P : TyId → Type 0) → (x : TyId) × Contains ids x × P x → (x : TyId) × Contains (ids ++ id ∷ []) x × P x
  left P (x, c, p) = (x, Contains-append_left ids (id ∷ []) x c, p)

  here : (P : TyId → Type 0) → P id → (x : TyId) × Contains (ids ++ id ∷ []) x × P x
  here P p = (id, Contains-push ids id, p)

  summed : (m n : ℕ) → TakeTogether table ids m → Takes table id n
      → IsRightTogether table sizes (ids ++ id ∷ []) (if nat_le (m + n) 4096 then Words (m + n) else Large)
  summed m n t u = by (nat_le (m + n) 4096) refl
    where
      by : (b : Bool) → nat_le (m + n) 4096 ≡ b → IsRightTogether table sizes (ids ++ id ∷ []) (if nat_le (m + n) 4096 then Words (m + n) else Large)
      by true e = subst (λ b. IsRightTogether table sizes (ids ++ id ∷ []) (if b then Words (m + n) else Large)) (sym e) (
        sum_push table t u,
        leb-true (m + n) 4096 e,
      )
      by false e = subst (λ b. IsRightTogether table sizes (ids ++ id ∷ []) (if b then Words (m + n) else Large)) (sym e) (
        m + n,
        sum_push table t u,
        leb-false (m + n) 4096 e,
      )

  pub known_push : (a b : Size) → IsRightTogether table sizes ids a → slice_get sizes id.at ≡ Some b → IsRight table id b
      → IsRightTogether table sizes (ids ++ id ∷ []) (plus a b)
  known_push Pending Pending h e r = left (λ x. slice_get sizes x.at ≡ Some Pending) h
  known_push Pending Parameter h e r = here (HoldsParameter table) r
  known_push Pending Large h e r = left (λ x. slice_get sizes x.at ≡ Some Pending) h
  known_push Pending (Words n) h e r = left (λ x. slice_get sizes x.at ≡ Some Pending) h
  known_push Parameter b h e r = left (HoldsParameter table) h
  known_push Large Pending h e r = here (λ x. slice_get sizes x.at ≡ Some Pending) e
  known_push Large Parameter h e r = here (HoldsParameter table) r
  known_push Large Large h e r = (h.0 + r.0, sum_push table h.1 r.1, omega (arith, h.2))
  known_push Large (Words n) h e r = (h.0 + n, sum_push table h.1 r.0, omega (arith, h.2))
  known_push (Words m) Pending h e r = here (λ x. slice_get sizes x.at ≡ Some Pending) e
  known_push (Words m) Parameter h e r = here (HoldsParameter table) r
  known_push (Words m) Large h e r = (m + r.0, sum_push table h.0 r.1, omega (arith, r.2))
  known_push (Words m) (Words n) h e r = summed m n h.0 r.0

-- the step of the loop that adds up what is known
pub known_step : (sizes : List Size) (parts : List TyId) (i : ℕ) (d : TyId) (e : Size) (a r : Size) → i < length parts → AllBelow (length sizes) parts
    → r ≡ plus a (get_or sizes (get_or parts i d).at e)
    → ((table : Table) → AreRight table sizes → IsRightTogether table sizes (take i parts) a) → (table : Table) → AreRight table sizes
    → IsRightTogether table sizes (take (i + 1) parts) r
known_step sizes parts i d e a r l below is before table right =
    let part = get_or parts i d in
    let at = slice_get-get_or sizes part.at e (below_at (length sizes) parts i d below l) in
    subst (λ ids. IsRightTogether table sizes ids r) (sym (take_more parts i d l))
    (subst (λ s. IsRightTogether table sizes (take i parts ++ part ∷ []) s) (sym is)
    (known_push table sizes (take i parts) part a (get_or sizes part.at e) (before table right) at (right part (get_or sizes part.at e) at)))

-- what is known of a row
module _ (table : Table) (sizes : List Size) (id : TyId) (row : Ty) (own : ℕ) (parts : List TyId) (at : row_at table id ≡ Some row)
    (shaped : shape table row ≡ Some (own, parts)) where
  pub known_row : own ≡ 0 → (s : Size) → IsRightTogether table sizes parts s → IsRightFor table sizes id row s
  known_row e Pending h = inr (own, parts, shaped, h)
  known_row e Parameter (part, c, holds) = (suc holds.0, holds.1, holds.2, in_part (row, at, shaped) c holds.3, holds.4)
  known_row e Large h = (own + h.0, of (row, at, shaped) h.1, omega (arith, h.2))
  known_row e (Words n) h = (subst (λ k. Takes table id k) (let f : own + n ≡ n = omega arith in f) (of (row, at, shaped) h.0), h.1)

  pub known_leaf : parts ≡ [] → own ≤ 4096 → HasWords table id own
  known_leaf e l = (
    subst (λ k. Takes table id k) (let f : own + 0 ≡ own = omega arith in f) (of (row, at, shaped) (subst (λ ps. TakeTogether table ps 0) (sym e) none)),
    l,
  )

pub one_word : (table : Table) (row : Ty) → (row ≡ ty.Int) ⊎ (row ≡ ty.Bool) → shape table row ≡ Some (1, [])
one_word table row (inl e) = ap (shape table) e
one_word table row (inr e) = ap (shape table) e
