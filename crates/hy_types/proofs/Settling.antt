-- The pass that makes out words.
use Rattle.std.proofs.Common.{◌≡◌, ◌<◌, ◌≤◌, ◌+◌, ◌⊎◌, inl, inr, ℕ, suc, zero, Bool, true, false, List, [], ◌∷◌, length, get_or, Some, slice_get, count_by}
use Rattle.std.proofs.Common.{if◌then◌else◌, refl, sym, ap, subst, ◌∙◌, arith, true≢false}
use Rattle.std.proofs.Math.ListN.{set, length-set}
use Rattle.std.proofs.lemmas.Bool.Decides.{leb_tells}
use Rattle.std.proofs.lemmas.List.Sums.{sum_by-set}
use Rattle.std.proofs.lemmas.Option.{get_or_from_slice_get}
use Rattle.hy_types.specs.declared.kinds.TyId.{TyId}
use Rattle.hy_types.specs.declared.kinds.Ty.{Ty}
use Rattle.hy_types.specs.declared.sizes.Size.{Size}
use Rattle.hy_types.specs.declared.sizes.Size.TheVariants.{Pending, Parameter, Large, Words}
use Rattle.hy_types.specs.Types.{Table, row_at}
use Rattle.hy_types.specs.Sizes.{is_pending, IsRight, AreRight, Waits, IsRightFor}

-- what is true after some rows of a pass
pub record Passes (types : List Ty) (products : List (ℕ × List TyId)) (start sizes : List Size) (changed : Bool) (place : ℕ) : Type 0 where
  pub long : length sizes ≡ length types
  pub right : (table : Table) → table.products ≡ products → table.types ≡ types → AreRight table start → AreRight table sizes
  pub most : count_by is_pending sizes ≤ count_by is_pending start
  pub fewer : changed ≡ true → count_by is_pending sizes < count_by is_pending start
  pub same : changed ≡ false → sizes ≡ start
  pub waits : changed ≡ false → (table : Table) → table.products ≡ products → table.types ≡ types → AreRight table start → (id : TyId) (row : Ty)
      → id.at < place → row_at table id ≡ Some row → slice_get sizes id.at ≡ Some Pending → Waits table sizes row

pending_is : (size : Size) → is_pending size ≡ true → size ≡ Pending
pending_is Pending e = refl
pending_is Parameter e = absurd (true≢false (sym e))
pending_is Large e = absurd (true≢false (sym e))
pending_is (Words n) e = absurd (true≢false (sym e))

right_for : (table : Table) (sizes : List Size) (id : TyId) (row : Ty) (size : Size) → is_pending size ≡ false → IsRightFor table sizes id row size
    → IsRight table id size
right_for table sizes id row Pending e h = absurd (true≢false e)
right_for table sizes id row Parameter e h = h
right_for table sizes id row Large e h = h
right_for table sizes id row (Words n) e h = h

-- what an index has in a list that was written at another, and at it
pub set_cases : {X : Type 0} (xs : List X) (i k : ℕ) (y x : X) → slice_get (set xs i y) k ≡ Some x → ((k ≡ i) × (y ≡ x)) ⊎ (slice_get xs k ≡ Some x)
set_cases [] i k y x e = inr e
set_cases (z ∷ xs) zero zero y x e = inl (refl, cc)
set_cases (z ∷ xs) zero (suc k) y x e = inr e
set_cases (z ∷ xs) (suc i) zero y x e = inr e
set_cases (z ∷ xs) (suc i) (suc k) y x e = elim (set_cases xs i k y x e) [ inl g ↦ inl (ap (λ n. suc n) g.0, g.1) | inr g ↦ inr g ]

count_set : (xs : List Size) (i : ℕ) (y d : Size) → i < length xs → is_pending (get_or xs i d) ≡ true → is_pending y ≡ false
    → count_by is_pending (set xs i y) + 1 ≡ count_by is_pending xs
count_set xs i y d l p q =
    let s = sum_by-set (λ x. let n : ℕ = if is_pending x then 1 else 0 in n) xs i y d l in
    let a : ◌≡◌ {A = ℕ} (if is_pending (get_or xs i d) then 1 else 0) 1 = ap (λ b. let n : ℕ = if b then 1 else 0 in n) p in
    let b : ◌≡◌ {A = ℕ} (if is_pending y then 1 else 0) 0 = ap (λ b. let n : ℕ = if b then 1 else 0 in n) q in
    omega (arith, s, a, b)

module _ (types : List Ty) (products : List (ℕ × List TyId)) (start sizes : List Size) (changed : Bool) (place : ℕ)
    (before : Passes types products start sizes changed place) where
  -- a row of which something is known
  pub passed_over : (e : Size) → is_pending (get_or sizes place e) ≡ false → Passes types products start sizes changed (place + 1)
  passed_over e known = record {
    long = before.long;
    right = before.right;
    most = before.most;
    fewer = before.fewer;
    same = before.same;
    waits = λ no table ps ts right id row l at pending.
        elim (leb_tells (suc id.at) place) [
          | inl t ↦ before.waits no table ps ts right id row (omega (arith, t.1)) at pending
          | inr t ↦
              let here : slice_get sizes place ≡ Some Pending =
              subst (λ n. slice_get sizes n ≡ Some Pending) (let f : id.at ≡ place = omega (arith, t.1) in f) pending in
              absurd (true≢false (ap is_pending (sym (get_or_from_slice_get sizes place Pending e here)) ∙ known))
        ];
  }

  module _ (row : Ty) (size : Size) (at : slice_get types place ≡ Some row)
      (known : (table : Table) (id : TyId) → table.products ≡ products → AreRight table sizes → row_at table id ≡ Some row
      → IsRightFor table sizes id row size) where
    -- a row of which nothing can be known yet
    pub left_open : is_pending size ≡ true → Passes types products start sizes changed (place + 1)
    left_open still = record {
      long = before.long;
      right = before.right;
      most = before.most;
      fewer = before.fewer;
      same = before.same;
      waits = λ no table ps ts right id row' l at' pending.
          elim (leb_tells (suc id.at) place) [
            | inl t ↦ before.waits no table ps ts right id row' (omega (arith, t.1)) at' pending
            | inr t ↦
                let there : slice_get types place ≡ Some row' =
                subst (λ n. slice_get types n ≡ Some row') (let f : id.at ≡ place = omega (arith, t.1) in f) (ap (λ ts. slice_get ts id.at) (sym ts)
                ∙ at') in
                let rows : Some row' ≡ Some row = sym there ∙ at in
                let same : row' ≡ row = cc in
                subst (λ r. Waits table sizes r) (sym same) (subst (λ s. IsRightFor table sizes id row s) (pending_is size still)
                (known table id ps (before.right table ps ts right) (at' ∙ ap Some same)))
          ];
    }

    -- a row of which something is known now
    pub made_out : (e : Size) → place < length sizes → is_pending (get_or sizes place e) ≡ true → is_pending size ≡ false
        → Passes types products start (set sizes place size) true (place + 1)
    made_out e l was is = record {
      long = length-set sizes place size ∙ before.long;
      right = λ table ps ts right id s got.
          elim (set_cases sizes place id.at size s got) [
            | inl g ↦
                let here : row_at table id ≡ Some row = ap (λ ts. slice_get ts id.at) ts ∙ ap (slice_get types) g.0 ∙ at in
                subst (IsRight table id) g.1 (right_for table sizes id row size is (known table id ps (before.right table ps ts right) here))
            | inr g ↦ before.right table ps ts right id s g
          ];
      most = omega (arith, count_set sizes place size e l was is, before.most);
      fewer = λ yes. omega (arith, count_set sizes place size e l was is, before.most);
      same = λ no. absurd (true≢false no);
      waits = λ no. absurd (true≢false no);
    }

-- a record of the same pass, at what the variables are
pub passes_as : (types : List Ty) (products : List (ℕ × List TyId)) (start sizes sizes' : List Size) (changed changed' : Bool) (place : ℕ) → sizes' ≡ sizes
    → changed' ≡ changed → Passes types products start sizes changed place → Passes types products start sizes' changed' place
passes_as types products start sizes sizes' changed changed' place e f h =
    subst (λ s. Passes types products start s changed' place) (sym e) (subst (λ b. Passes types products start sizes b place) (sym f) h)
