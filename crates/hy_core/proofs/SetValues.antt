-- What is set in the values of a type: which of the parts that have no parts of their own are whole, and which are unset.
use Rattle.std.proofs.Common.{◌≡◌, ◌≢◌, ◌⊎◌, inl, inr, ⊎_elim, ℕ, zero, suc, ◌<◌, Bool, true, false, cond, ◌&&◌, ◌||◌, List, [], ◌∷◌, ◌++◌, length, Option}
use Rattle.std.proofs.Common.{Some, None, slice_get, refl, sym, ap, ◌∙◌, subst, append_assoc, arith}
use Rattle.std.specs.Prelude.{pos, negsuc, int_lt, nat_lt, if◌then◌else◌}
use Rattle.std.specs.Option.{option_map}
use Rattle.std.proofs.lemmas.Bool.{lt-ltb}
use Rattle.std.proofs.lemmas.Option.{slice_get_within}
use Rattle.hy_types.specs.declared.kinds.TyId.{TyId}
use Rattle.hy_types.specs.declared.kinds.Ty.{Ty}
use Rattle.hy_types.specs.declared.kinds.Ty.TheVariants as ty
use Rattle.hy_types.specs.Types.{Table, declared}
use Rattle.hy_types.specs.Words.{HasShape, Takes, of, TakeTogether, none, more}
use Rattle.hy_types.specs.Words as sizes
use Rattle.hy_core.specs.Values.{Val, Unset, Number, Truth, Tuple, Product, Array, Vals, No, And, Selector, PartAt, ElementAt, Path, many, nth, with_nth}
use Rattle.hy_core.specs.Values.{part, with_part, get, put, shape, Has, IsThere, is_whole, all_whole, is_blank, all_blank, holds_array, any_array}
use Rattle.hy_core.specs.Values.{nests_array, any_nests, Diverge}
use Rattle.hy_core.specs.Operators.{at_end, popped, blanks, ordered, same_type}
use Rattle.hy_base.specs.declared.numbers.IntegerType.TheVariants.{Int}
use Rattle.hy_core.specs.Statements.{swapped}
use Rattle.hy_core.specs.Control.{Form, Numbers, Flags, Arrays, product_form, form_of, form, parts_of, part_type}
use Rattle.hy_core.specs.Typing.{Among, selected_type, type_at, IsLeaf, IsArrayAt, IsNestedAt, IsIn, IsSmall}
use Rattle.hy_core.specs.Flow.{InitState, IsUnset, IsSet, IsKnown, IsEmpty, IsEmptyWithout, IsDoubtful, IsSetWith, IsSetSo, Counts}
use Rattle.hy_core.specs.Flow.{InitMap, map_at, with_map, all_set, none_set}
use Rattle.hy_core.proofs.Values.{selector_tells, selector_dec, get_get, get_put_below, get_put_apart, there_back}
use Rattle.hy_core.proofs.OpenPlaces.{get_put}
use Rattle.hy_core.proofs.Values.{get_unset}
use Rattle.hy_core.proofs.Typed.{form_at, sub, form_on, Fits, FitsAll, FitsEach, fits_part, fits_many, fits_blanks}
use Rattle.hy_core.proofs.TypedWalks.{sub_selected}

-- WHOLE VALUES

and_left : (a b : Bool) → (a && b) ≡ true → a ≡ true
and_left true b e = refl
and_left false b e = e

and_right : (a b : Bool) → (a && b) ≡ true → b ≡ true
and_right true b e = e
and_right false b e = absurd (cc)

and_both : (a b : Bool) → a ≡ true → b ≡ true → (a && b) ≡ true
and_both true b e f = f
and_both false b e f = e

whole_nth : (i : ℕ) (vs : Vals) → i < many vs → all_whole vs ≡ true → is_whole (nth i vs) ≡ true
whole_nth i No lt e = absurd (omega arith)
whole_nth zero (And v vs) lt e = and_left (is_whole v) (all_whole vs) e
whole_nth (suc i) (And v vs) lt e = whole_nth i vs (omega arith) (and_right (is_whole v) (all_whole vs) e)

whole_part : (s : Selector) (v : Val) → Has s (shape v) → is_whole v ≡ true → is_whole (part s v) ≡ true
whole_part s Unset h e = absurd h
whole_part s (Number t n) h e = absurd h
whole_part s (Truth b) h e = absurd h
whole_part (PartAt i) (Tuple vs) h e = whole_nth i vs h e
whole_part (ElementAt i) (Tuple vs) h e = absurd h
whole_part (PartAt i) (Product d vs) h e = whole_nth i vs h e
whole_part (ElementAt i) (Product d vs) h e = absurd h
whole_part (PartAt i) (Array vs) h e = absurd h
whole_part (ElementAt i) (Array vs) h e = whole_nth i vs h e

pub whole_get : (p : Path) (v : Val) → IsThere p v → is_whole v ≡ true → is_whole (get p v) ≡ true
whole_get [] v h e = e
whole_get (i ∷ p) v h e = whole_get p (part i v) h.1 (whole_part i v h.0 e)

whole_with_nth : (i : ℕ) (w : Val) (vs : Vals) → all_whole vs ≡ true → is_whole w ≡ true → all_whole (with_nth i w vs) ≡ true
whole_with_nth i w No e f = refl
whole_with_nth zero w (And v vs) e f = and_both (is_whole w) (all_whole vs) f (and_right (is_whole v) (all_whole vs) e)
whole_with_nth (suc i) w (And v vs) e f =
    and_both (is_whole v) (all_whole (with_nth i w vs)) (and_left (is_whole v) (all_whole vs) e)
    (whole_with_nth i w vs (and_right (is_whole v) (all_whole vs) e) f)

whole_with : (s : Selector) (w v : Val) → is_whole v ≡ true → is_whole w ≡ true → is_whole (with_part s w v) ≡ true
whole_with s w Unset e f = e
whole_with s w (Number t n) e f = refl
whole_with s w (Truth b) e f = refl
whole_with (PartAt i) w (Tuple vs) e f = whole_with_nth i w vs e f
whole_with (ElementAt i) w (Tuple vs) e f = e
whole_with (PartAt i) w (Product d vs) e f = whole_with_nth i w vs e f
whole_with (ElementAt i) w (Product d vs) e f = e
whole_with (PartAt i) w (Array vs) e f = e
whole_with (ElementAt i) w (Array vs) e f = whole_with_nth i w vs e f

pub whole_put : (p : Path) (w v : Val) → IsThere p v → is_whole v ≡ true → is_whole w ≡ true → is_whole (put p w v) ≡ true
whole_put [] w v h e f = f
whole_put (i ∷ p) w v h e f = whole_with i _ v e (whole_put p w (part i v) h.1 (whole_part i v h.0 e) f)

pub whole_unset : (p : Path) → is_whole (get p Unset) ≢ true
whole_unset p e = let z : is_whole Unset ≡ true = ap is_whole (sym (get_unset p)) ∙ e in absurd (let y : false ≡ true = z in cc)

there_front : (p q : Path) (v : Val) → IsThere (p ++ q) v → IsThere p v
there_front [] q v h = tt
there_front (i ∷ p) q v h = (h.0, there_front p q (part i v) h.1)

-- arrays that are changed

pub whole_end : (vs : Vals) (v : Val) → all_whole vs ≡ true → is_whole v ≡ true → all_whole (at_end vs v) ≡ true
whole_end No v e f = and_both (is_whole v) true f refl
whole_end (And w ws) v e f =
    and_both (is_whole w) (all_whole (at_end ws v)) (and_left (is_whole w) (all_whole ws) e) (whole_end ws v (and_right (is_whole w) (all_whole ws) e) f)

pub whole_popped : (v : Val) (vs : Vals) → all_whole (And v vs) ≡ true → (all_whole (popped v vs).rest ≡ true) × (is_whole (popped v vs).last ≡ true)
whole_popped v No e = (refl, and_left (is_whole v) true e)
whole_popped v (And w ws) e = let r = whole_popped w ws (and_right (is_whole v) (all_whole (And w ws)) e) in
    (and_both (is_whole v) (all_whole (popped w ws).rest) (and_left (is_whole v) (all_whole (And w ws)) e) r.0, r.1)

pub whole_swapped : (i j : ℕ) (vs : Vals) → i < many vs → j < many vs → all_whole vs ≡ true → all_whole (swapped i j vs) ≡ true
whole_swapped i j vs li lj e = whole_with_nth i _ _ (whole_with_nth j _ vs e (whole_nth i vs li e)) (whole_nth j vs lj e)

-- PATHS

-- one is beside the other, at or below its end, or above it
pub split : (p q : Path) → Diverge p q ⊎ (((r : Path) × (q ≡ p ++ r)) ⊎ ((i : Selector) × (r : Path) × (p ≡ q ++ i ∷ r)))
split [] q = inr (inl (q, refl))
split (s ∷ p) [] = inr (inr (s, p, refl))
split (s ∷ p) (t ∷ q) = ⊎_elim
    (λ e. ⊎_elim (λ a. inl (inr a)) (λ b. ⊎_elim
    (λ x. inr (inl (x.0, ap (λ k. k ∷ q) (sym e) ∙ ap (λ z. s ∷ z) x.1)))
    (λ x. inr (inr (x.0, x.1, ap (λ k. k ∷ p) e ∙ ap (λ z. t ∷ z) x.2))) b) (split p q))
    (λ n. inl (inl n)) (selector_dec s t)

apart_self : (p r : Path) → Diverge p (p ++ r) → ⊥
apart_self [] r a = a
apart_self (s ∷ p) r (inl n) = n refl
apart_self (s ∷ p) r (inr a) = apart_self p r a

-- MAPS

pub map_below : (p : Path) (c : InitMap) (r : Path) → map_at p c r ≡ c (p ++ r)
map_below [] c r = refl
map_below (i ∷ p) c r = map_below p (λ q. c (i ∷ q)) r

pub with_map_below : (p : Path) (d c : InitMap) (r : Path) → with_map p d c (p ++ r) ≡ d r
with_map_below [] d c r = refl
with_map_below (i ∷ p) d c r = ⊎_elim
    (λ e. ap (λ b. cond b (with_map p d (λ r. c (i ∷ r)) (p ++ r)) (c (i ∷ (p ++ r)))) e.0 ∙ with_map_below p d (λ r. c (i ∷ r)) r)
    (λ n. absurd (n.1 refl)) (selector_tells i i)

pub with_map_apart : (p : Path) (d c : InitMap) (q : Path) → Diverge p q → with_map p d c q ≡ c q
with_map_apart [] d c q a = absurd a
with_map_apart (i ∷ p) d c [] a = absurd a
with_map_apart (i ∷ p) d c (j ∷ q) a = ⊎_elim
    (λ e. ap (λ b. cond b (with_map p d (λ r. c (i ∷ r)) q) (c (j ∷ q))) e.0 ∙ with_map_apart p d (λ r. c (i ∷ r)) q (inner a e.1)
    ∙ ap (λ k. c (k ∷ q)) (sym e.1))
    (λ n. ap (λ b. cond b (with_map p d (λ r. c (i ∷ r)) q) (c (j ∷ q))) n.0) (selector_tells j i)
  where
    inner : Diverge (i ∷ p) (j ∷ q) → j ≡ i → Diverge p q
    inner (inl n) e = absurd (n (sym e))
    inner (inr a) e = a

pub with_map_above : (q : Path) (i : Selector) (r : Path) (d c : InitMap) → with_map (q ++ i ∷ r) d c q ≡ c q
with_map_above [] i r d c = refl
with_map_above (j ∷ q) i r d c = ⊎_elim
    (λ e. ap (λ b. cond b (with_map (q ++ i ∷ r) d (λ r. c (j ∷ r)) q) (c (j ∷ q))) e.0 ∙ with_map_above q i r d (λ r. c (j ∷ r)))
    (λ n. absurd (n.1 refl)) (selector_tells j j)

-- WHAT A STATE SAYS OF A VALUE

-- of a truth value itself; of a number whether it is above 0, where it is not below
abbrev pub truth_of : Val → Option Bool
truth_of Unset = None
truth_of (Number t (pos zero)) = Some false
truth_of (Number t (pos (suc n))) = Some true
truth_of (Number t (negsuc n)) = None
truth_of (Truth b) = Some b
truth_of (Tuple vs) = None
truth_of (Product d vs) = None
truth_of (Array vs) = None

abbrev pub Meets : InitState → Val → Type 0
Meets IsSet v = is_whole v ≡ true
Meets IsUnset v = v ≡ Unset
Meets (IsKnown b) v = truth_of v ≡ Some b
Meets IsEmpty v = v ≡ Array No
Meets (IsEmptyWithout l) v = ⊥
Meets IsDoubtful v = ⊥
Meets (IsSetWith f) v = ⊥

-- what is known of a truth value or number is known of no other value
known_whole : (v : Val) (b : Bool) → truth_of v ≡ Some b → is_whole v ≡ true
known_whole Unset b e = absurd (cc)
known_whole (Number t n) b e = refl
known_whole (Truth c) b e = refl
known_whole (Tuple vs) b e = absurd (cc)
known_whole (Product d vs) b e = absurd (cc)
known_whole (Array vs) b e = absurd (cc)

known_single : (i : Selector) (v : Val) (b : Bool) → truth_of v ≡ Some b → Has i (shape v) → ⊥
known_single i Unset b e h = absurd (cc)
known_single i (Number t n) b e h = h
known_single i (Truth c) b e h = h
known_single i (Tuple vs) b e h = absurd (cc)
known_single i (Product d vs) b e h = absurd (cc)
known_single i (Array vs) b e h = absurd (cc)

-- an array without elements has no part
empty_single : (i : Selector) (v : Val) → v ≡ Array No → Has i (shape v) → ⊥
empty_single (PartAt k) v e h = let z : Has (PartAt k) (shape (Array No)) = subst (λ v. Has (PartAt k) (shape v)) e h in z
empty_single (ElementAt k) v e h = let z : Has (ElementAt k) (shape (Array No)) = subst (λ v. Has (ElementAt k) (shape v)) e h in absurd (omega (arith, z))

-- of an array that is counted, and of the count
abbrev pub array_state : Vals → InitState
array_state No = IsEmpty
array_state (And v vs) = IsSet

abbrev pub is_filled : Vals → Bool
is_filled No = false
is_filled (And v vs) = true

pub array_meets : (vs : Vals) → all_whole vs ≡ true → Meets (array_state vs) (Array vs)
array_meets No whole = refl
array_meets (And v vs) whole = whole

pub count_meets : (vs : Vals) → Meets (IsKnown (is_filled vs)) (Number Int (pos (many vs)))
count_meets No = refl
count_meets (And v vs) = refl

-- Whether 0 is below a number is whether that is above 0.
pub zero_below : (v w : Val) (b e : Bool) → Meets (IsKnown false) v → Meets (IsKnown b) w → ordered int_lt v w ≡ Some e → e ≡ b
zero_below Unset w b e hv hw is = absurd (cc)
zero_below (Truth c) w b e hv hw is = absurd (cc)
zero_below (Tuple vs) w b e hv hw is = absurd (cc)
zero_below (Product d vs) w b e hv hw is = absurd (cc)
zero_below (Array vs) w b e hv hw is = absurd (cc)
zero_below (Number t (pos (suc k))) w b e hv hw is = absurd (cc)
zero_below (Number t (negsuc k)) w b e hv hw is = absurd (cc)
zero_below (Number t (pos zero)) w b e hv hw is = by w hw is
  where
    chosen : (c a : Bool) → (if c then Some a else None) ≡ Some e → Some a ≡ Some b → e ≡ b
    chosen true a q r = cc
    chosen false a q r = absurd (cc)

    by : (w : Val) → truth_of w ≡ Some b → ordered int_lt (Number t (pos zero)) w ≡ Some e → e ≡ b
    by Unset hw is = absurd (cc)
    by (Number u (pos zero)) hw is = chosen (same_type t u) false is hw
    by (Number u (pos (suc n))) hw is = chosen (same_type t u) (nat_lt 0 (suc n)) is (ap Some (lt-ltb 0 (suc n) (omega arith)) ∙ hw)
    by (Number u (negsuc n)) hw is = absurd (cc)
    by (Truth c) hw is = absurd (cc)
    by (Tuple vs) hw is = absurd (cc)
    by (Product d vs) hw is = absurd (cc)
    by (Array vs) hw is = absurd (cc)

pub meets_set : (s : InitState) (v : Val) → IsSetSo s → Meets s v → is_whole v ≡ true
meets_set IsSet v h m = m
meets_set IsUnset v h m = absurd h
meets_set (IsKnown b) v h m = known_whole v b m
meets_set IsEmpty v h m = ap is_whole m
meets_set (IsEmptyWithout l) v h m = absurd m
meets_set IsDoubtful v h m = absurd h
meets_set (IsSetWith f) v h m = absurd h

pub meets_counts : (w s : InitState) (v : Val) → Counts w s → Meets s v → Meets w v
meets_counts IsSet s v h m = meets_set s v h m
meets_counts IsUnset s v h m = subst (λ s. Meets s v) h m
meets_counts (IsKnown b) s v h m = subst (λ s. Meets s v) h m
meets_counts IsEmpty s v h m = subst (λ s. Meets s v) h m
meets_counts (IsEmptyWithout l) s v h m = absurd h
meets_counts IsDoubtful s v h m = absurd h
meets_counts (IsSetWith f) s v h m = absurd h

meets_put : (s : InitState) (i : Selector) (p : Path) (w v : Val) → IsThere (i ∷ p) v → is_whole w ≡ true → Meets s v → Meets s (put (i ∷ p) w v)
meets_put IsSet i p w v there whole h = whole_put (i ∷ p) w v there h whole
meets_put IsUnset i p w v there whole h = absurd (let z : Has i (shape Unset) = subst (λ v. Has i (shape v)) h there.0 in z)
meets_put (IsKnown b) i p w v there whole h = absurd (known_single i v b h there.0)
meets_put IsEmpty i p w v there whole h = absurd (empty_single i v h there.0)
meets_put (IsEmptyWithout l) i p w v there whole h = absurd h
meets_put IsDoubtful i p w v there whole h = absurd h
meets_put (IsSetWith f) i p w v there whole h = absurd h

meets_unset : (s : InitState) (v w : Val) → v ≡ Unset → w ≡ Unset → Meets s v → Meets s w
meets_unset IsSet v w e f h = absurd (whole_unset [] (ap is_whole (sym e) ∙ h))
meets_unset IsUnset v w e f h = f
meets_unset (IsKnown b) v w e f h = absurd (let z : None ≡ Some b = ap truth_of (sym e) ∙ h in cc)
meets_unset IsEmpty v w e f h = absurd (let z : Unset ≡ Array No = sym e ∙ h in cc)
meets_unset (IsEmptyWithout l) v w e f h = absurd h
meets_unset IsDoubtful v w e f h = absurd h
meets_unset (IsSetWith k) v w e f h = absurd h

meets_there : (s : InitState) (i : Selector) (p : Path) (v : Val) → IsThere (i ∷ p) v → get (i ∷ p) v ≡ Unset → Meets s v → ⊥
meets_there IsSet i p v there e h = whole_unset [] (ap is_whole (sym e) ∙ whole_get (i ∷ p) v there h)
meets_there IsUnset i p v there e h = let z : Has i (shape Unset) = subst (λ v. Has i (shape v)) h there.0 in z
meets_there (IsKnown b) i p v there e h = known_single i v b h there.0
meets_there IsEmpty i p v there e h = empty_single i v h there.0
meets_there (IsEmptyWithout l) i p v there e h = h
meets_there IsDoubtful i p v there e h = h
meets_there (IsSetWith f) i p v there e h = h

module _ (types : Table) where
  -- TYPES

  pub type_append : (o : Option TyId) (p q : Path) → type_at types o (p ++ q) ≡ type_at types (type_at types o p) q
  type_append None [] q = refl
  type_append (Some t) [] q = refl
  type_append None (i ∷ p) q = refl
  type_append (Some t) (i ∷ p) q = type_append (selected_type (form types t) i) p q

  pub form_type : (o : Option TyId) (p : Path) (u : TyId) → type_at types o p ≡ Some u → form_on types (form_at types o) p ≡ form types u
  form_type None p u e = absurd (cc)
  form_type (Some t) [] u e = ap (form types) (let z : t ≡ u = cc in z)
  form_type (Some t) (i ∷ p) u e = go (selected_type (form types t) i) refl e (λ o e. form_type o p u e)
    where
      go : (o : Option TyId) → selected_type (form types t) i ≡ o → type_at types o p ≡ Some u
          → ((o : Option TyId) → type_at types o p ≡ Some u → form_on types (form_at types o) p ≡ form types u)
          → form_on types (sub types (form types t) i) p ≡ form types u
      go None q e on = absurd (cc)
      go (Some w) q e on = ap (λ f. form_on types f p) (sub_selected types (form types t) i w q) ∙ on (Some w) e

  -- where a type has no parts, no selector has a type
  no_selected : (f : Form) (i : Selector) → parts_of f ≡ [] → selected_type f i ≡ None
  no_selected f (PartAt i) e = ap (λ us. slice_get us i) e
  no_selected f (ElementAt i) e = refl

  pub leaf_above : (t u : TyId) (q : Path) (i : Selector) (r : Path) → IsLeaf types t q → type_at types (Some t) (q ++ i ∷ r) ≡ Some u → ⊥
  leaf_above t u q i r l e =
      let z : type_at types (Some l.0) (i ∷ r) ≡ Some u = ap (λ o. type_at types o (i ∷ r)) (sym l.1) ∙ sym (type_append (Some t) q (i ∷ r)) ∙ e in
      let x : type_at types None r ≡ Some u = ap (λ o. type_at types o r) (sym (no_selected (form types l.0) i l.2)) ∙ z in
      absurd (cc)

  -- what has no parts has no other path
  pub single_leaf : (u : TyId) (q : Path) → parts_of (form types u) ≡ [] → IsLeaf types u q → q ≡ []
  single_leaf u [] f leaf = refl
  single_leaf u (i ∷ q) f leaf = absurd (leaf_above u leaf.0 [] i q (u, refl, f) leaf.1)

  -- one state of it
  pub sets_single : (u : TyId) (s : InitState) (v : Val) → parts_of (form types u) ≡ [] → Meets s v → (q : Path) → IsLeaf types u q → Meets s (get q v)
  sets_single u s v f m q leaf = subst (λ q. Meets s (get q v)) (sym (single_leaf u q f leaf)) m

  pub leaf_below : (t u : TyId) (p r : Path) → type_at types (Some t) p ≡ Some u → IsLeaf types u r → IsLeaf types t (p ++ r)
  leaf_below t u p r e l = (l.0, type_append (Some t) p r ∙ ap (λ o. type_at types o r) e ∙ l.1, l.2)

  pub leaf_back : (t u : TyId) (p r : Path) → type_at types (Some t) p ≡ Some u → IsLeaf types t (p ++ r) → IsLeaf types u r
  leaf_back t u p r e l = (l.0, ap (λ o. type_at types o r) (sym e) ∙ sym (type_append (Some t) p r) ∙ l.1, l.2)

  -- an array has no parts by number
  pub no_leaf : (t a e : TyId) (p : Path) (j : Selector) (r : Path) → type_at types (Some t) p ≡ Some a → form types a ≡ Arrays e
      → IsLeaf types t (p ++ j ∷ r) → ⊥
  no_leaf t a e p j r is f l =
      let z : type_at types (Some a) (j ∷ r) ≡ Some l.0 = ap (λ o. type_at types o (j ∷ r)) (sym is) ∙ sym (type_append (Some t) p (j ∷ r)) ∙ l.1 in
      let x : type_at types None r ≡ Some l.0 = ap (λ o. type_at types o r) (sym (no_selected (form types a) j (ap parts_of f))) ∙ z in
      absurd (cc)

  -- WHOLE VALUES OF A TYPE

  -- a whole value has all parts of its type
  has_part : (f : Form) (i : ℕ) (u : TyId) (v : Val) → Fits types f v → is_whole v ≡ true → part_type f i ≡ Some u → Has (PartAt i) (shape v)
  has_part f i u Unset h w e = absurd (cc)
  has_part f i u (Number k n) h w e = absurd (let z : part_type (Numbers k) i ≡ Some u = subst (λ f. part_type f i ≡ Some u) h.0 e in cc)
  has_part f i u (Truth b) h w e = absurd (let z : part_type Flags i ≡ Some u = subst (λ f. part_type f i ≡ Some u) h e in cc)
  has_part f i u (Tuple vs) h w e = subst (λ k. i < k) (sym (fits_many types h.0 vs h.2))
      (slice_get_within h.0 i u (subst (λ f. part_type f i ≡ Some u) h.1 e))
  has_part f i u (Product d vs) h w e =
      subst (λ k. i < k) (sym (fits_many types h.0 vs h.3)) (slice_get_within h.0 i u (subst (λ f. part_type f i ≡ Some u) h.1 e))
  has_part f i u (Array vs) h w e = absurd (let z : part_type (Arrays h.0) i ≡ Some u = subst (λ f. part_type f i ≡ Some u) h.1 e in cc)

  has_selected : (f : Form) (i : Selector) (u : TyId) (v : Val) → Fits types f v → is_whole v ≡ true → selected_type f i ≡ Some u → Has i (shape v)
  has_selected f (PartAt i) u v h w e = has_part f i u v h w e
  has_selected f (ElementAt i) u v h w e = absurd (cc)

  pub whole_typed : (o : Option TyId) (p : Path) (u : TyId) (v : Val) → type_at types o p ≡ Some u → Fits types (form_at types o) v → is_whole v ≡ true
      → is_whole (get p v) ≡ true
  whole_typed None p u v e h w = absurd (cc)
  whole_typed (Some t) [] u v e h w = w
  whole_typed (Some t) (i ∷ p) u v e h w = go (selected_type (form types t) i) refl e (λ o e h w. whole_typed o p u (part i v) e h w)
    where
      go : (o : Option TyId) → selected_type (form types t) i ≡ o → type_at types o p ≡ Some u
          → ((o : Option TyId) → type_at types o p ≡ Some u → Fits types (form_at types o) (part i v) → is_whole (part i v) ≡ true
          → is_whole (get p (part i v)) ≡ true) → is_whole (get p (part i v)) ≡ true
      go None q e on = absurd (cc)
      go (Some x) q e on =
          on (Some x) e (subst (λ f. Fits types f (part i v)) (sub_selected types (form types t) i x q) (fits_part types (form types t) i v h))
          (whole_part i v (has_selected (form types t) i x v h w q) w)

  second : (a b : ℕ × List TyId) → Some a ≡ Some b → a.1 ≡ b.1
  second a b e = let z : a ≡ b = cc in ap (λ s. s.1) z

  -- the parts of a type are those of its words
  shape_parts : (t : TyId) (own : ℕ) (parts : List TyId) → HasShape types t own parts → parts_of (form types t) ≡ parts
  shape_parts t own parts h = ap (λ o. parts_of (form_of types o)) h.1 ∙ row h.0 h.2
    where
      found : (d : ℕ) (o : Option (List TyId)) → option_map {U = ℕ × List TyId} (λ ps. (0, ps)) o ≡ Some (own, parts) → parts_of (product_form d o) ≡ parts
      found d None e = absurd (cc)
      found d (Some ps) e = second (0, ps) (own, parts) e

      row : (r : Ty) → sizes.shape types r ≡ Some (own, parts) → parts_of (form_of types (Some r)) ≡ parts
      row ty.Int e = second (1, []) (own, parts) e
      row (ty.Sized num) e = second (1, []) (own, parts) e
      row ty.Bool e = second (1, []) (own, parts) e
      row (ty.Tuple ps) e = second (0, ps) (own, parts) e
      row (ty.Product d) e = found d (declared types d) e
      row (ty.Array a) e = second (2, []) (own, parts) e
      row (ty.Param k) e = absurd (cc)

  abbrev Leaves : TyId → Val → Type 0
  Leaves t v = (q : Path) → IsLeaf types t q → is_whole (get q v) ≡ true

  part_leaf : (t : TyId) (parts : List TyId) (i : ℕ) (u : TyId) (r : Path) → parts_of (form types t) ≡ parts → slice_get parts i ≡ Some u → IsLeaf types u r
      → IsLeaf types t (PartAt i ∷ r)
  part_leaf t parts i u r e q l = (l.0, ap (λ o. type_at types o r) (ap (λ us. slice_get us i) e ∙ q) ∙ l.1, l.2)

  unset_blank : (ts : List TyId) (i : ℕ) → nth i (blanks ts) ≡ Unset
  unset_blank [] i = refl
  unset_blank (t ∷ ts) zero = refl
  unset_blank (t ∷ ts) (suc i) = unset_blank ts i

  abbrev LeavesAll : List TyId → Type 0
  LeavesAll ts = (vs : Vals) → FitsAll types ts vs → ((i : ℕ) (u : TyId) → slice_get ts i ≡ Some u → Leaves u (nth i vs)) → all_whole vs ≡ true

  leaves_by : (t : TyId) (parts : List TyId) → parts_of (form types t) ≡ parts → LeavesAll parts → (v : Val) → Fits types (form types t) v → Leaves t v
      → is_whole v ≡ true
  leaves_by t parts e all (Number u k) fits leaf = refl
  leaves_by t parts e all (Truth b) fits leaf = refl
  leaves_by t parts e all (Tuple vs) fits leaf =
      all vs (subst (λ ts. FitsAll types ts vs) (sym (ap parts_of fits.1) ∙ e) fits.2) (λ i u q r l. leaf (PartAt i ∷ r) (part_leaf t parts i u r e q l))
  leaves_by t parts e all (Product d vs) fits leaf =
      all vs (subst (λ ts. FitsAll types ts vs) (sym (ap parts_of fits.1) ∙ e) fits.3) (λ i u q r l. leaf (PartAt i ∷ r) (part_leaf t parts i u r e q l))
  leaves_by t parts e all (Array vs) fits leaf = leaf [] (t, refl, ap parts_of fits.1)
  leaves_by t [] e all Unset fits leaf = leaf [] (t, refl, e)
  leaves_by t (p ∷ ps) e all Unset fits leaf = all (blanks (p ∷ ps)) (fits_blanks types (p ∷ ps))
      (λ i u q r l. ap (λ v. is_whole (get r v)) (unset_blank (p ∷ ps) i) ∙ leaf (PartAt i ∷ r) (part_leaf t (p ∷ ps) i u r e q l))

  -- a value is whole where all parts without parts are
  mutual
    pub leaves_whole : (t : TyId) (n : ℕ) → Takes types t n → (v : Val) → Fits types (form types t) v → Leaves t v → is_whole v ≡ true
    leaves_whole _ _ (of {id} {own} {words} {parts} sh together) v fits leaf =
        leaves_by id parts (shape_parts id own parts sh) (leaves_all parts words together) v fits leaf

    leaves_all : (ts : List TyId) (n : ℕ) → TakeTogether types ts n → LeavesAll ts
    leaves_all _ _ none No fits leaf = refl
    leaves_all _ _ none (And v vs) fits leaf = absurd fits
    leaves_all _ _ (more {id} {ids} {first} {rest} x xs) No fits leaf = absurd fits
    leaves_all _ _ (more {id} {ids} {first} {rest} x xs) (And v vs) fits leaf =
        and_both (is_whole v) (all_whole vs) (leaves_whole id first x v fits.0 (leaf 0 id refl)) (leaves_all ids rest xs vs fits.1 (λ i w q. leaf (suc i) w q))

  -- the type at a path lies in the type
  in_path : (t u : TyId) (p : Path) → type_at types (Some t) p ≡ Some u → IsIn types (length p) u t
  in_path t u [] e = let z : t ≡ u = cc in sym z
  in_path t u (ElementAt i ∷ p) e = absurd (cc)
  in_path t u (PartAt i ∷ p) e = go (part_type (form types t) i) refl e (λ w e. in_path w u p e)
    where
      found : (ts : List TyId) (i : ℕ) (w : TyId) → slice_get ts i ≡ Some w → Among w ts
      found [] i w e = absurd (cc)
      found (x ∷ xs) zero w e = let z : x ≡ w = cc in inl (sym z)
      found (x ∷ xs) (suc i) w e = inr (found xs i w e)

      go : (o : Option TyId) → part_type (form types t) i ≡ o → type_at types o p ≡ Some u
          → ((w : TyId) → type_at types (Some w) p ≡ Some u → IsIn types (length p) u w) → IsIn types (suc (length p)) u t
      go None q e on = absurd (cc)
      go (Some w) q e on = (w, inl (found (parts_of (form types t)) i w q), on w e)

  -- WHAT A COVER CALLS SET, AND UNSET

  abbrev pub Sets : TyId → InitMap → Val → Type 0
  Sets t c v = (q : Path) → IsLeaf types t q → Meets (c q) (get q v)

  -- a change at a path that is there
  sets_put : (t : TyId) (c c' : InitMap) (v : Val) (p : Path) (w : Val) → Sets t c v → IsThere p v
      → ((q : Path) → Diverge p q → c' q ≡ c q)
      → ((r : Path) → IsLeaf types t (p ++ r) → Meets (c' (p ++ r)) (get r w))
      → ((q : Path) (i : Selector) (r : Path) → p ≡ q ++ i ∷ r → IsLeaf types t q → Meets (c' q) (put (i ∷ r) w (get q v)))
      → Sets t c' (put p w v)
  sets_put t c c' v p w s there beside below above q l = ⊎_elim
      (λ a. subst (Meets (c' q)) (sym (get_put_apart p q w v there a)) (subst (λ z. Meets z (get q v)) (sym (beside q a)) (s q l)))
      (λ b. ⊎_elim
      (λ x. subst (λ q. Meets (c' q) (get q (put p w v))) (sym x.1)
      (subst (Meets (c' (p ++ x.0))) (sym (get_get p x.0 (put p w v) ∙ ap (get x.0) (get_put p w v there))) (below x.0 (subst (IsLeaf types t) x.1 l))))
      (λ x. subst (λ p. Meets (c' q) (get q (put p w v))) (sym x.2)
      (subst (Meets (c' q)) (sym (get_put_below q (x.0 ∷ x.1) w v (there_front q (x.0 ∷ x.1) v (subst (λ p. IsThere p v) x.2 there))))
      (above q x.0 x.1 x.2 l))) b)
      (split p q)

  -- at a path of the type, where the map says so of the new value
  pub sets_exact : (t u : TyId) (c d : InitMap) (v : Val) (p : Path) (w : Val) → Sets t c v → IsThere p v → type_at types (Some t) p ≡ Some u → Sets u d w
      → Sets t (with_map p d c) (put p w v)
  sets_exact t u c d v p w s there is new = sets_put t c (with_map p d c) v p w s there
      (λ q a. with_map_apart p d c q a)
      (λ r l. subst (λ z. Meets z (get r w)) (sym (with_map_below p d c r)) (new r (leaf_back t u p r is l)))
      (λ q i r e l. absurd (leaf_above t u q i r l (ap (type_at types (Some t)) (sym e) ∙ is)))

  -- at a path that goes on into an array, by a whole value
  pub sets_inner : (t a e : TyId) (c : InitMap) (v : Val) (p : Path) (j : Selector) (r : Path) (w : Val) → Sets t c v → IsThere (p ++ j ∷ r) v
      → type_at types (Some t) p ≡ Some a → form types a ≡ Arrays e → is_whole w ≡ true
      → Sets t c (put (p ++ j ∷ r) w v)
  sets_inner t a e c v p j r w s there is f whole = sets_put t c c v (p ++ j ∷ r) w s there
      (λ q a. refl)
      (λ x l. absurd (no_leaf t a e p j (r ++ x) is f (subst (IsLeaf types t) (append_assoc p (j ∷ r) x) l)))
      (λ q i x z l. meets_put (c q) i x w (get q v) (there_back q (i ∷ x) v (subst (λ p. IsThere p v) z there)) whole (s q l))

  -- where more is known of what stands at a path of the type
  pub sets_told : (t u : TyId) (c d : InitMap) (v : Val) (p : Path) → Sets t c v → type_at types (Some t) p ≡ Some u → Sets u d (get p v)
      → Sets t (with_map p d c) v
  sets_told t u c d v p s is new q l = ⊎_elim
      (λ a. subst (λ z. Meets z (get q v)) (sym (with_map_apart p d c q a)) (s q l))
      (λ b. ⊎_elim
      (λ x. subst (λ q. Meets (with_map p d c q) (get q v)) (sym x.1) (subst (λ z. Meets z (get (p ++ x.0) v)) (sym (with_map_below p d c x.0))
      (subst (Meets (d x.0)) (sym (get_get p x.0 v)) (new x.0 (leaf_back t u p x.0 is (subst (IsLeaf types t) x.1 l))))))
      (λ x. subst (λ z. Meets z (get q v)) (sym (ap (λ p. with_map p d c q) x.2 ∙ with_map_above q x.0 x.1 d c)) (s q l)) b) (split p q)

  -- where nothing was, by what has nothing set
  pub sets_blank : (t : TyId) (c : InitMap) (v : Val) (p : Path) (w : Val) → Sets t c v → IsThere p v → get p v ≡ Unset
      → ((r : Path) → IsLeaf types t (p ++ r) → get r w ≡ Unset) → Sets t c (put p w v)
  sets_blank t c v p w s there is blank = sets_put t c c v p w s there
      (λ q a. refl)
      (λ r l. meets_unset (c (p ++ r)) (get (p ++ r) v) (get r w) (get_get p r v ∙ ap (get r) is ∙ get_unset r) (blank r l) (s (p ++ r) l))
      (λ q i r z l. absurd (meets_there (c q) i r (get q v) (there_back q (i ∷ r) v (subst (λ p. IsThere p v) z there)) (sym (get_get q (i ∷ r) v)
      ∙ ap (λ p. get p v) (sym z) ∙ is) (s q l)))

  pub sets_whole : (u : TyId) (w : Val) → Fits types (form types u) w → is_whole w ≡ true → Sets u all_set w
  sets_whole u w fits whole q l = whole_typed (Some u) q l.0 w l.1 fits whole

  pub sets_none : (u : TyId) → Sets u none_set Unset
  sets_none u q l = get_unset q

  -- what stands at a path of the type
  pub sets_part : (t u : TyId) (c : InitMap) (v : Val) (p : Path) → Sets t c v → type_at types (Some t) p ≡ Some u → Sets u (map_at p c) (get p v)
  sets_part t u c v p s is q l =
      subst (λ z. Meets z (get q (get p v))) (sym (map_below p c q)) (subst (Meets (c (p ++ q))) (get_get p q v) (s (p ++ q) (leaf_below t u p q is l)))

  -- with another map of the same parts
  pub sets_same : (u : TyId) (c d : InitMap) (v : Val) → ((q : Path) → IsLeaf types u q → d q ≡ c q) → Sets u c v → Sets u d v
  sets_same u c d v h s q l = subst (λ z. Meets z (get q v)) (sym (h q l)) (s q l)

  -- with a map as which it counts
  pub sets_counts : (u : TyId) (c d : InitMap) (v : Val) → ((q : Path) → IsLeaf types u q → Counts (d q) (c q)) → Sets u c v → Sets u d v
  sets_counts u c d v h s q l = meets_counts (d q) (c q) (get q v) (h q l) (s q l)

  -- a value of which all is called set
  pub all_sets : (u : TyId) (c : InitMap) (v : Val) → IsSmall types u → Fits types (form types u) v → Sets u c v
      → ((q : Path) → IsLeaf types u q → IsSetSo (c q)) → is_whole v ≡ true
  all_sets u c v small fits s h = let n = small 0 u refl in let takes : Takes types u n.0 = n.1.0 in
      leaves_whole u n.0 takes v fits (λ q l. meets_set (c q) (get q v) (h q l) (s q l))

  no_parts : (ts : List TyId) → FitsAll types ts No → ts ≡ []
  no_parts [] fits = refl
  no_parts (t ∷ ts) fits = absurd fits

  -- a value of which all is called unset
  mutual
    pub leaves_blank : (t : TyId) (v : Val) → Fits types (form types t) v → ((q : Path) → IsLeaf types t q → get q v ≡ Unset) → is_blank v ≡ true
    leaves_blank t Unset fits h = refl
    leaves_blank t (Number u n) fits h = absurd (let z = h [] (t, refl, ap parts_of fits.0) in cc)
    leaves_blank t (Truth b) fits h = absurd (let z = h [] (t, refl, ap parts_of fits) in cc)
    leaves_blank t (Tuple No) fits h = absurd (let z = h [] (t, refl, ap parts_of fits.1 ∙ no_parts fits.0 fits.2) in cc)
    leaves_blank t (Tuple (And v vs)) fits h =
        blank_all fits.0 (And v vs) fits.2 (λ i u q e l. h (PartAt i ∷ q) (part_leaf t fits.0 i u q (ap parts_of fits.1) e l))
    leaves_blank t (Product d No) fits h = absurd (let z = h [] (t, refl, ap parts_of fits.1 ∙ no_parts fits.0 fits.3) in cc)
    leaves_blank t (Product d (And v vs)) fits h =
        blank_all fits.0 (And v vs) fits.3 (λ i u q e l. h (PartAt i ∷ q) (part_leaf t fits.0 i u q (ap parts_of fits.1) e l))
    leaves_blank t (Array vs) fits h = absurd (let z = h [] (t, refl, ap parts_of fits.1) in cc)

    blank_all : (ts : List TyId) (vs : Vals) → FitsAll types ts vs
        → ((i : ℕ) (u : TyId) (q : Path) → slice_get ts i ≡ Some u → IsLeaf types u q → get q (nth i vs) ≡ Unset) → all_blank vs ≡ true
    blank_all ts No fits h = refl
    blank_all [] (And v vs) fits h = absurd fits
    blank_all (t ∷ ts) (And v vs) fits h =
        and_both (is_blank v) (all_blank vs) (leaves_blank t v fits.0 (λ q l. h 0 t q refl l)) (blank_all ts vs fits.1 (λ i u q e l. h (suc i) u q e l))

  -- a value of which no array is set
  array_part : (t : TyId) (parts : List TyId) (i : ℕ) (u : TyId) (r : Path) → parts_of (form types t) ≡ parts → slice_get parts i ≡ Some u
      → IsArrayAt types u r → IsArrayAt types t (PartAt i ∷ r)
  array_part t parts i u r e q l = (l.0, l.1, ap (λ o. type_at types o r) (ap (λ us. slice_get us i) e ∙ q) ∙ l.2, l.3)

  or_none : (a b : Bool) → a ≡ false → b ≡ false → (a || b) ≡ false
  or_none true b e f = absurd (cc)
  or_none false b e f = f

  mutual
    pub no_array : (t : TyId) (v : Val) → Fits types (form types t) v → ((q : Path) → IsArrayAt types t q → get q v ≡ Unset) → holds_array v ≡ false
    no_array t Unset fits h = refl
    no_array t (Number u n) fits h = refl
    no_array t (Truth b) fits h = refl
    no_array t (Tuple vs) fits h = no_arrays fits.0 vs fits.2 (λ i u q e l. h (PartAt i ∷ q) (array_part t fits.0 i u q (ap parts_of fits.1) e l))
    no_array t (Product d vs) fits h = no_arrays fits.0 vs fits.3 (λ i u q e l. h (PartAt i ∷ q) (array_part t fits.0 i u q (ap parts_of fits.1) e l))
    no_array t (Array vs) fits h = absurd (let z = h [] (t, fits.0, refl, fits.1) in cc)

    no_arrays : (ts : List TyId) (vs : Vals) → FitsAll types ts vs
        → ((i : ℕ) (u : TyId) (q : Path) → slice_get ts i ≡ Some u → IsArrayAt types u q → get q (nth i vs) ≡ Unset) → any_array vs ≡ false
    no_arrays ts No fits h = refl
    no_arrays [] (And v vs) fits h = absurd fits
    no_arrays (t ∷ ts) (And v vs) fits h =
        or_none (holds_array v) (any_array vs) (no_array t v fits.0 (λ q l. h 0 t q refl l)) (no_arrays ts vs fits.1 (λ i u q e l. h (suc i) u q e l))

  -- a value in which each array that may hold arrays has no element
  nested_part : (t : TyId) (parts : List TyId) (i : ℕ) (u : TyId) (r : Path) → parts_of (form types t) ≡ parts → slice_get parts i ≡ Some u
      → IsNestedAt types u r → IsNestedAt types t (PartAt i ∷ r)
  nested_part t parts i u r e q l = (l.0, l.1, ap (λ o. type_at types o r) (ap (λ us. slice_get us i) e ∙ q) ∙ l.2, l.3, l.4)

  flat_elements : (e : TyId) (vs : Vals) → FitsEach types e vs → ((r : Path) → IsArrayAt types e r → ⊥) → any_array vs ≡ false
  flat_elements e No fits h = refl
  flat_elements e (And v vs) fits h =
      or_none (holds_array v) (any_array vs) (no_array e v fits.0 (λ r arr. absurd (h r arr))) (flat_elements e vs fits.1 h)

  mutual
    pub none_nested : (t : TyId) (v : Val) → Fits types (form types t) v → ((q : Path) → IsNestedAt types t q → get q v ≡ Array No) → nests_array v ≡ false
    none_nested t Unset fits h = refl
    none_nested t (Number u n) fits h = refl
    none_nested t (Truth b) fits h = refl
    none_nested t (Tuple vs) fits h = no_nests fits.0 vs fits.2 (λ i u q e l. h (PartAt i ∷ q) (nested_part t fits.0 i u q (ap parts_of fits.1) e l))
    none_nested t (Product d vs) fits h = no_nests fits.0 vs fits.3 (λ i u q e l. h (PartAt i ∷ q) (nested_part t fits.0 i u q (ap parts_of fits.1) e l))
    none_nested t (Array No) fits h = refl
    none_nested t (Array (And v vs)) fits h = flat_elements fits.0 (And v vs) fits.2
        (λ r arr. let z : Array (And v vs) ≡ Array No = h [] (t, fits.0, refl, fits.1, (r, arr)) in absurd (cc))

    no_nests : (ts : List TyId) (vs : Vals) → FitsAll types ts vs
        → ((i : ℕ) (u : TyId) (q : Path) → slice_get ts i ≡ Some u → IsNestedAt types u q → get q (nth i vs) ≡ Array No) → any_nests vs ≡ false
    no_nests ts No fits h = refl
    no_nests [] (And v vs) fits h = absurd fits
    no_nests (t ∷ ts) (And v vs) fits h = or_none (nests_array v) (any_nests vs) (none_nested t v fits.0 (λ q l. h 0 t q refl l))
        (no_nests ts vs fits.1 (λ i u q e l. h (suc i) u q e l))

  in_in : (n m : ℕ) (w u t : TyId) → IsIn types n w u → IsIn types m u t → (k : ℕ) × IsIn types k w t
  in_in n zero w u t i j = (n, subst (IsIn types n w) j i)
  in_in n (suc m) w u t i j = let r = in_in n m w u j.0 i j.2 in (suc r.0, (j.0, j.1, r.1))

  pub small_part : (t u : TyId) (p : Path) → type_at types (Some t) p ≡ Some u → IsSmall types t → IsSmall types u
  small_part t u p is small n w i = let r = in_in n (length p) w u t i (in_path t u p is) in small r.0 w r.1
