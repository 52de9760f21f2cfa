-- What follows where nothing is known of a type.
use Rattle.std.proofs.Common.{◌≡◌, ◌<◌, ◌≤◌, ◌⊎◌, inl, inr, ℕ, suc, zero, List, [], length, take, Option, Some, None, IsSome, slice_get, sym, ap, subst}
use Rattle.std.proofs.Common.{◌∙◌, arith, true≢false, unwrap_or}
use Rattle.std.proofs.lemmas.Option.{slice_get_within, slice_get_cases}
use Rattle.std.specs.Option.{option_map, option_and_then}
use Rattle.hy_types.specs.declared.kinds.TyId.{TyId}
use Rattle.hy_types.specs.declared.kinds.Ty.{Ty}
use Rattle.hy_types.specs.declared.sizes.Size.{Size}
use Rattle.hy_types.specs.declared.sizes.Size.TheVariants.{Pending, Parameter, Large}
use Rattle.hy_types.specs.Types.{Table, row_at}
use Rattle.hy_types.specs.Words.{shape, Takes, of, TakeTogether, none, more, LiesIn, itself, in_part, AreDeclared, HasWords, HasNoWords, parts_at}
use Rattle.hy_types.specs.Kept.{IsKept}
use Rattle.hy_types.specs.Sizes.{SomeWaits, Waits, AreSettled, IsRightTogether}
use Rattle.hy_types.proofs.Sums.{one_shape, made, one_sum, sum_take, sum_part, no_parameter, cons_cases}

pub there : {X : Type 0} (xs : List X) (n : ℕ) → n < length xs → (x : X) × (slice_get xs n ≡ Some x)
there xs n l =
    elim (slice_get_cases xs n).1 [
      | inl c ↦ (c.0, c.2)
      | inr c ↦ absurd (omega (arith, c.0))
    ]

module _ (table : Table) (sizes : List Size) (long : length sizes ≡ length table.types) (settled : AreSettled table sizes) where
  row_of : (id : TyId) → slice_get sizes id.at ≡ Some Pending → (row : Ty) × (row_at table id ≡ Some row) × Waits table sizes row
  row_of id pending =
      let l = slice_get_within sizes id.at Pending pending in
      let r = there table.types id.at (omega (arith, l, long)) in
      (r.0, r.1, settled id r.0 r.1 pending)

  -- a type of which nothing is known is endless, if all is declared
  pub is_endless : (depth : ℕ) (id : TyId) → AreDeclared table id → slice_get sizes id.at ≡ Some Pending → (inner : TyId) × LiesIn table depth inner id
  is_endless zero id declared_all pending = (id, itself)
  is_endless (suc depth) id declared_all pending = by (row_of id pending) (λ part d p. is_endless depth part d p)
    where
      by : (row : Ty) × (row_at table id ≡ Some row) × Waits table sizes row
          → ((part : TyId) → AreDeclared table part → slice_get sizes part.at ≡ Some Pending → (inner : TyId) × LiesIn table depth inner part)
          → (inner : TyId) × LiesIn table (suc depth) inner id
      by (row, at, inl w) rest = absurd (let f : IsSome {T = List TyId} None = subst IsSome w.2 (declared_all 0 w.0 id itself (at ∙ ap Some w.1)) in
          true≢false (sym f))
      by (row, at, inr (own, parts, shaped, (part, c, waiting))) rest =
          let below = rest part (λ d declaration inner l. declared_all (suc d) declaration inner (in_part (row, at, shaped) c l)) waiting in
          (below.0, in_part (row, at, shaped) c below.1)

  -- something is known of a type with words
  mutual
    pub not_pending : {id : TyId} {n : ℕ} → Takes table id n → slice_get sizes id.at ≡ Some Pending → ⊥
    not_pending (of {id = id} {own = own} {parts = parts} h t) pending = waiting (row_of id pending) (λ s. none_pending t s)
      where
        waiting : (row : Ty) × (row_at table id ≡ Some row) × Waits table sizes row → (SomeWaits sizes parts → ⊥) → ⊥
        waiting (row, at, inl w) never =
            let rows : Some row ≡ Some h.0 = sym at ∙ h.1 in
            let same : row ≡ h.0 = cc in
            let bad : ◌≡◌ {A = Option (ℕ × List TyId)} None (Some (own, parts)) =
            sym (ap (shape table) w.1 ∙ ap (option_map (λ (ps : List TyId). (0, ps))) w.2) ∙ ap (shape table) same ∙ h.2 in
            cc
        waiting (row, at, inr (own', parts', shaped, waits)) never =
            let s = one_shape table id own' own parts' parts (row, at, shaped) h in
            never (subst (SomeWaits sizes) s.1 waits)

    pub none_pending : {ids : List TyId} {n : ℕ} → TakeTogether table ids n → SomeWaits sizes ids → ⊥
    none_pending none (id, c, pending) = absurd (omega (arith, c.1))
    none_pending (more {id = x} {ids = xs} t ts) (id, c, pending) =
        elim (cons_cases x xs id c) [
          | inl e ↦ not_pending t (subst (λ (i : TyId). slice_get sizes i.at ≡ Some Pending) (sym e) pending)
          | inr d ↦ none_pending ts (id, d, pending)
        ]

-- why a type has no words, by what is known of it
pub no_words : (table : Table) (sizes : List Size) → IsKept table sizes → (id : TyId) (size : Size) → AreDeclared table id
    → slice_get sizes id.at ≡ Some size → (size ≡ Pending) ⊎ ((size ≡ Parameter) ⊎ (size ≡ Large)) → HasNoWords table id
no_words table sizes kept id size all at (inl e) = inr (inl (λ depth. is_endless table sizes kept.long kept.settled depth id all (at ∙ ap Some e)))
no_words table sizes kept id size all at (inr (inl e)) = inl (kept.right id Parameter (at ∙ ap Some e))
no_words table sizes kept id size all at (inr (inr e)) = inr (inr (kept.right id Large (at ∙ ap Some e)))

-- types with words in all are known to have them
pub all_known : (table : Table) (sizes : List Size) → IsKept table sizes → (ids : List TyId) (m : ℕ) → TakeTogether table ids m → m ≤ 4096 → (size : Size)
    → IsRightTogether table sizes ids size
    → (size ≡ Pending) ⊎ ((size ≡ Parameter) ⊎ (size ≡ Large)) → ⊥
all_known table sizes kept ids m t l size h (inl e) = none_pending table sizes kept.long kept.settled t (subst (IsRightTogether table sizes ids) e h)
all_known table sizes kept ids m t l size h (inr (inl e)) =
    let p = subst (IsRightTogether table sizes ids) e h in
    let w = sum_part table t p.0 p.1 in
    no_parameter table p.0 w.0 w.1 p.2
all_known table sizes kept ids m t l size h (inr (inr e)) =
    let p = subst (IsRightTogether table sizes ids) e h in
    let same : m ≡ p.0 = one_sum table t p.1 in
    omega (arith, same, p.2, l)

-- the words of the parts in front
pub front_words : (table : Table) (id : TyId) (words : ℕ) → HasWords table id words → (k : ℕ) → (m : ℕ) × TakeTogether table (take k (parts_at table id)) m
    × (m ≤ 4096)
front_words table id words has k =
    let g = made table has.0 in
    let parts : parts_at table id ≡ g.parts =
    ap (λ o. unwrap_or (option_map (λ (s : ℕ × List TyId). s.1) (option_and_then (shape table) o)) []) g.shaped.1
    ∙ ap (λ o. unwrap_or (option_map (λ (s : ℕ × List TyId). s.1) o) []) g.shaped.2 in
    let s = sum_take table k g.together in
    (s.0, subst (λ ps. TakeTogether table (take k ps) s.0) (sym parts) s.1, omega (arith, s.2, g.sum, has.1))
