-- What putting a type into a table does.
use Rattle.std.proofs.Common.{◌≡◌, ◌<◌, ◌⊎◌, ◌↔◌, inl, inr, ℕ, suc, zero, Bool, true, false, not, ◌||◌, List, [], ◌∷◌, ◌++◌, length, reverse, if◌then◌else◌}
use Rattle.std.proofs.Common.{Some, slice_get, refl, sym, ap, subst, ◌∙◌, arith, true≢false}
use Rattle.std.specs.List.{list_any}
use Rattle.std.proofs.lemmas.List.{length-reverse, append-nil}
use Rattle.std.proofs.lemmas.Option.{slice_get_within}
use Rattle.hy_types.specs.declared.kinds.TyId.{TyId}
use Rattle.hy_types.specs.declared.kinds.Ty.{Ty}
use Rattle.hy_types.specs.declared.kinds.Ty.TheVariants as ty
use Rattle.std.specs.Cmp.{unsigned_Decides}
use Rattle.hy_types.specs.Lists.{same_ids-Decides, same_id-Decides}
use Rattle.hy_types.specs.Types.{Table, AllBelow, mentioned, row_at, HasId, type_in, type_of, type_of_row, Extends}
use Rattle.hy_types.specs.Rows.{AreRows}
use Rattle.hy_types.proofs.Reading.{slice_get-push, reverse-push, row_in_types, type_in-before, same_meant, type_at, one_number}
use Rattle.hy_types.specs.contracts.kinds.TyPartialEq.TheImpl.{ghosts}
use Rattle.hy_base.specs.declared.numbers.Num.{Num}
use Rattle.hy_base.specs.declared.numbers.Num.TheVariants.{I8, I16, I32, U8, U16, U32, U64}
use Rattle.hy_base.specs.contracts.numbers.NumPartialEq.TheImpl as nums

same_num : (a b : Num) → nums.ghosts.eq a b ≡ true → a ≡ b
same_num I8 I8 e = refl
same_num I16 I16 e = refl
same_num I32 I32 e = refl
same_num U8 U8 e = refl
same_num U16 U16 e = refl
same_num U32 U32 e = refl
same_num U64 U64 e = refl
same_num a b e = absurd (true≢false (sym e))

num_itself : (a : Num) → nums.ghosts.eq a a ≡ true
num_itself I8 = refl
num_itself I16 = refl
num_itself I32 = refl
num_itself U8 = refl
num_itself U16 = refl
num_itself U32 = refl
num_itself U64 = refl

pub same_row : (a b : Ty) → ghosts.eq a b ≡ true → a ≡ b
same_row ty.Int ty.Int e = refl
same_row (ty.Sized a) (ty.Sized b) e = ap ty.Sized (same_num a b e)
same_row ty.Bool ty.Bool e = refl
same_row (ty.Tuple xs) (ty.Tuple ys) e = ap ty.Tuple ((same_ids-Decides xs ys).0 e)
same_row (ty.Product a) (ty.Product b) e = ap ty.Product ((unsigned_Decides a b).0 e)
same_row (ty.Array a) (ty.Array b) e = ap ty.Array ((same_id-Decides a b).0 e)
same_row (ty.Param a) (ty.Param b) e = ap ty.Param ((unsigned_Decides a b).0 e)
same_row a b e = absurd (true≢false (sym e))

row_itself : (a : Ty) → ghosts.eq a a ≡ true
row_itself ty.Int = refl
row_itself (ty.Sized a) = num_itself a
row_itself ty.Bool = refl
row_itself (ty.Tuple xs) = (same_ids-Decides xs xs).1 refl
row_itself (ty.Product a) = (unsigned_Decides a a).1 refl
row_itself (ty.Array a) = (same_id-Decides a a).1 refl
row_itself (ty.Param a) = (unsigned_Decides a a).1 refl

-- a row that no test finds is not there
is_new : (row : Ty) (rows : List Ty) → list_any (ghosts.eq row) rows ≡ false → (n : ℕ) → slice_get rows n ≡ Some row → ⊥
is_new row [] none n e = cc
is_new row (x ∷ rows) none zero e =
    let same : x ≡ row = cc in
    let yes : ghosts.eq row x ≡ true = ap (ghosts.eq row) same ∙ row_itself row in
    true≢false (sym (ap (λ b. b || list_any (ghosts.eq row) rows) yes) ∙ none)
is_new row (x ∷ rows) none (suc n) e = is_new row rows (rest (ghosts.eq row x) (list_any (ghosts.eq row) rows) none) n e
  where
    rest : (a b : Bool) → a || b ≡ false → b ≡ false
    rest true b h = absurd (true≢false h)
    rest false b h = h

-- a row has its number in a table, put last or there before
pub record Interned (old new : Table) (row : Ty) (id : TyId) : Type 0 where
  pub at : row_at new id ≡ Some row
  pub how : (new ≡ old) ⊎ ((new ≡ record { types = old.types ++ row ∷ []; products = old.products }) × (id.at ≡ length old.types)
      × ((n : ℕ) → slice_get old.types n ≡ Some row → ⊥))

pub interned : (old new : Table) (row : Ty) (place : ℕ) (added : Bool) → added ≡ not (list_any (ghosts.eq row) old.types)
    → new.types ≡ (if list_any (ghosts.eq row) old.types then old.types else old.types ++ row ∷ [])
    → new.products ≡ old.products → (k : Ty) → slice_get new.types place ≡ Some k → ghosts.eq row k ≡ true → Interned old new row (record { at = place })
interned old new row place added is keys products k at same = by (list_any (ghosts.eq row) old.types) refl
  where
    here : slice_get new.types place ≡ Some row
    here = at ∙ ap Some (sym (same_row row k same))

    by : (b : Bool) → list_any (ghosts.eq row) old.types ≡ b → Interned old new row (record { at = place })
    by true e = record {
      at = here;
      how =
          inl (λ i. record { types = (keys ∙ ap (λ b. if b then old.types else old.types ++ row ∷ []) e) i; products = products i });
    }
    by false e =
        let types = keys ∙ ap (λ b. if b then old.types else old.types ++ row ∷ []) e in
        let fresh = is_new row old.types e in
        record {
          at = here;
          how = inr (
            λ i. record { types = types i; products = products i },
            elim (slice_get-push old.types row place row (ap (λ l. slice_get l place) (sym types) ∙ here)) [ inl g ↦ absurd (fresh place g) | inr g ↦ g.0 ],
            fresh,
          );
        }

-- the same of equal tables
pub interned_as : (old old' new new' : Table) (row : Ty) (id : TyId) → old ≡ old' → new' ≡ new → Interned old new row id → Interned old' new' row id
interned_as old old' new new' row id e f h = subst (λ t. Interned t new' row id) e (subst (λ t. Interned old t row id) (sym f) h)

-- a type that is added is new, and is put last
pub added_new : (row : Ty) (rows rows' : List Ty) (added : Bool) → added ≡ true → added ≡ not (list_any (ghosts.eq row) rows)
    → rows' ≡ (if list_any (ghosts.eq row) rows then rows else rows ++ row ∷ [])
    → ((n : ℕ) → slice_get rows n ≡ Some row → ⊥) × (rows' ≡ rows ++ row ∷ [])
added_new row rows rows' added true_added is keys = by (list_any (ghosts.eq row) rows) refl
  where
    by : (b : Bool) → list_any (ghosts.eq row) rows ≡ b → ((n : ℕ) → slice_get rows n ≡ Some row → ⊥) × (rows' ≡ rows ++ row ∷ [])
    by true e = absurd (true≢false (sym true_added ∙ is ∙ ap not e))
    by false e = (is_new row rows e, keys ∙ ap (λ b. if b then rows else rows ++ row ∷ []) e)

-- the rows of a table with one more
pub rows_push : (types : List Ty) (row : Ty) → AreRows (reverse types) → AllBelow (length types) (mentioned row)
    → ((n : ℕ) → slice_get types n ≡ Some row → ⊥) → AreRows (reverse (types ++ row ∷ []))
rows_push types row good below fresh =
    subst AreRows (sym (reverse-push types row)) (
      subst (λ n. AllBelow n (mentioned row)) (sym (length-reverse types)) below,
      λ n e. fresh n (row_in_types types n ∙ e),
      good,
    )

module _ (old new : Table) (row : Ty) (id : TyId) (good : AreRows (reverse old.types)) (below : AllBelow (length old.types) (mentioned row))
    (done : Interned old new row id) where
  pub good_after : AreRows (reverse new.types)
  good_after =
      elim done.how [
        | inl e ↦ subst (λ (t : Table). AreRows (reverse t.types)) (sym e) good
        | inr h ↦ subst (λ (t : Table). AreRows (reverse t.types)) (sym h.0) (rows_push old.types row good below h.2)
      ]

  pub extends : Extends old new
  extends =
      elim done.how [
        | inl e ↦ record { more = []; types = ap (λ (t : Table). t.types) e ∙ sym (append-nil old.types); products = ap (λ (t : Table). t.products) e }
        | inr h ↦ record { more = row ∷ []; types = ap (λ (t : Table). t.types) h.0; products = ap (λ (t : Table). t.products) h.0 }
      ]

  -- a number's type stays
  pub type_stays : (other : TyId) → HasId old other → type_of new other ≡ type_of old other
  type_stays other l =
      elim done.how [
        | inl e ↦ ap (λ t. type_of t other) e
        | inr h ↦ ap (λ t. type_of t other) h.0 ∙ ap (λ rows. type_in rows other) (reverse-push old.types row)
            ∙ type_in-before row (reverse old.types) other (omega (arith, l, length-reverse old.types))
      ]

  same_row_type : type_of_row old row ≡ type_of_row new row
  same_row_type = same_meant (type_of old) (type_of new) (length old.types) row (λ other l. sym (type_stays other l)) below

  pub type_is : type_of new id ≡ type_of_row old row
  type_is = type_at new good_after id row done.at ∙ sym same_row_type

  within : HasId new id
  within = slice_get_within new.types id.at row done.at

  pub equal_ids : (other : TyId) → HasId new other → (type_of new other ≡ type_of_row old row) ↔ (other ≡ id)
  equal_ids other l = (λ e. one_number new good_after other id l within (e ∙ sym type_is), λ e. ap (type_of new) e ∙ type_is)

  pub once : (other : TyId) → row_at new other ≡ Some row → other ≡ id
  once other at = one_number new good_after other id (slice_get_within new.types other.at row at) within (type_at new good_after other row at
      ∙ sym (type_at new good_after id row done.at))

  pub there_before : HasId old id → new ≡ old
  there_before l = elim done.how [ inl e ↦ e | inr h ↦ absurd (omega (arith, h.1, l)) ]

  pub first_use : HasId old id ⊎ ((id.at ≡ length old.types) × (new.types ≡ old.types ++ row ∷ []))
  first_use =
      elim done.how [
        | inl e ↦ inl (subst (λ (t : Table). id.at < length t.types) e within)
        | inr h ↦ inr (h.1, ap (λ (t : Table). t.types) h.0)
      ]
