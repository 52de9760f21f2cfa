-- A whole part of a value, which is lent to another activation: what is set in the value stays so, whatever whole part comes back.
use Rattle.std.proofs.Common.{◌≡◌, ◌⊎◌, inl, inr, ⊎_elim, ℕ, zero, suc, ◌<◌, true, List, [], ◌∷◌, ◌++◌, Some, slice_get}
use Rattle.std.proofs.Common.{refl, sym, ap, ◌∙◌, subst, append_assoc, arith}
use Rattle.hy_types.specs.declared.kinds.TyId.{TyId}
use Rattle.hy_types.specs.Types.{Table}
use Rattle.hy_core.specs.Values.{Val, Unset, Number, Truth, Tuple, Product, Array, Vals, No, And, Selector, PartAt, ElementAt, Path, many, nth, get, put}
use Rattle.hy_core.specs.Values.{IsThere, is_whole}
use Rattle.hy_core.specs.Control.{Form, Arrays, form, part_type}
use Rattle.hy_core.specs.Typing.{type_at, IsLeaf}
use Rattle.hy_core.specs.Flow.{IsSet, InitMap, all_set, with_map}
use Rattle.hy_core.proofs.Values.{get_get}
use Rattle.hy_core.proofs.Typed.{form_on, Fits, FitsAll, fits_get}
use Rattle.hy_core.proofs.SetValues.{Meets, Sets, split, with_map_apart, with_map_above, with_map_below, form_type, leaf_above, leaf_back, no_leaf}
use Rattle.hy_core.proofs.SetValues.{sets_exact, sets_inner, sets_same, sets_whole}

module _ (types : Table) where
  -- how a path leads to a whole part: by parts of the type, to what the map calls set, or into an array
  pub data LeadsTo (t : TyId) (c : InitMap) (path : Path) : Type 0 where
    by_parts : (u : TyId) → type_at types (Some t) path ≡ Some u → ((r : Path) → IsLeaf types u r → c (path ++ r) ≡ IsSet) → LeadsTo t c path
    past_array : (a e : TyId) (p : Path) (j : Selector) (r : Path) → path ≡ p ++ j ∷ r → type_at types (Some t) p ≡ Some a → form types a ≡ Arrays e
        → LeadsTo t c path

  pub leads_same : (t : TyId) (c d : InitMap) (path : Path) → ((r : Path) → d (path ++ r) ≡ c (path ++ r)) → LeadsTo t c path → LeadsTo t d path
  leads_same t c d path same (by_parts u is set) = by_parts u is (λ r leaf. same r ∙ set r leaf)
  leads_same t c d path same (past_array a e p j r z is f) = past_array a e p j r z is f

  -- what comes back there, whole, leaves what is set
  pub keeps_lent : (t : TyId) (c : InitMap) (path : Path) (v w : Val) → LeadsTo t c path → Sets types t c v → IsThere path v
      → Fits types (form_on types (form types t) path) w → is_whole w ≡ true → Sets types t c (put path w v)
  keeps_lent t c path v w (by_parts u is set) s there fits whole = sets_same types t (with_map path all_set c) c (put path w v) same
      (sets_exact types t u c all_set v path w s there is
      (sets_whole types u w (subst (λ f. Fits types f w) (form_type types (Some t) path u is) fits) whole))
    where
      same : (q : Path) → IsLeaf types t q → c q ≡ with_map path all_set c q
      same q leaf = ⊎_elim (λ a. sym (with_map_apart path all_set c q a)) (λ b. ⊎_elim
          (λ x. ap c x.1 ∙ set x.0 (leaf_back types t u path x.0 is (subst (IsLeaf types t) x.1 leaf))
          ∙ sym (ap (with_map path all_set c) x.1 ∙ with_map_below path all_set c x.0))
          (λ x. absurd (leaf_above types t u q x.0 x.1 leaf (ap (type_at types (Some t)) (sym x.2) ∙ is))) b) (split path q)
  keeps_lent t c path v w (past_array a e p j r z is f) s there fits whole = subst (λ q. IsThere q v → Sets types t c (put q w v)) (sym z)
      (λ there. sets_inner types t a e c v p j r w s there is f whole) there

  -- PATHS of a value that are there

  abbrev Way : TyId → Path → Type 0
  Way t path = ((u : TyId) × (type_at types (Some t) path ≡ Some u))
      ⊎ ((a e : TyId) × (p : Path) × (j : Selector) × (r : Path) × (path ≡ p ++ j ∷ r) × (type_at types (Some t) p ≡ Some a) × (form types a ≡ Arrays e))

  part_there : (parts : List TyId) (i : ℕ) (vs : Vals) → FitsAll types parts vs → i < many vs → (y : TyId) × (slice_get parts i ≡ Some y)
      × Fits types (form types y) (nth i vs)
  part_there [] i No h lt = absurd (omega arith)
  part_there (t ∷ ts) i No h lt = absurd h
  part_there [] i (And v vs) h lt = absurd h
  part_there (t ∷ ts) zero (And v vs) h lt = (t, refl, h.0)
  part_there (t ∷ ts) (suc i) (And v vs) h lt = part_there ts i vs h.1 (omega arith)

  one_more : (t y : TyId) (f : Form) (i : ℕ) (p : Path) → form types t ≡ f → part_type f i ≡ Some y → Way y p → Way t (PartAt i ∷ p)
  one_more t y f i p e is (inl x) = inl (x.0, ap (λ o. type_at types o p) (ap (λ f. part_type f i) e ∙ is) ∙ x.1)
  one_more t y f i p e is (inr x) = inr (
    x.0,
    x.1,
    PartAt i ∷ x.2,
    x.3,
    x.4,
    ap (λ p. PartAt i ∷ p) x.5,
    ap (λ o. type_at types o x.2) (ap (λ f. part_type f i) e ∙ is) ∙ x.6,
    x.7,
  )

  way : (p : Path) (t : TyId) (v : Val) → Fits types (form types t) v → IsThere p v → Way t p
  way [] t v h there = inl (t, refl)
  way (s ∷ p) t Unset h there = absurd there.0
  way (s ∷ p) t (Number k n) h there = absurd there.0
  way (s ∷ p) t (Truth b) h there = absurd there.0
  way (PartAt i ∷ p) t (Tuple vs) h there = let y = part_there h.0 i vs h.2 there.0 in
      one_more t y.0 _ i p h.1 y.1 (way p y.0 (nth i vs) y.2 there.1)
  way (ElementAt i ∷ p) t (Tuple vs) h there = absurd there.0
  way (PartAt i ∷ p) t (Product d vs) h there = let y = part_there h.0 i vs h.3 there.0 in
      one_more t y.0 _ i p h.1 y.1 (way p y.0 (nth i vs) y.2 there.1)
  way (ElementAt i ∷ p) t (Product d vs) h there = absurd there.0
  way (PartAt i ∷ p) t (Array vs) h there = absurd there.0
  way (ElementAt i ∷ p) t (Array vs) h there = inr (t, h.0, [], ElementAt i, p, refl, refl, h.1)

  -- A whole part of a value: all of it may be called set.
  pub leads_to : (t : TyId) (c : InitMap) (path : Path) (v : Val) → Fits types (form types t) v → IsThere path v → LeadsTo t (with_map path all_set c) path
  leads_to t c path v fits there = by (way path t v fits there)
    where
      by : Way t path → LeadsTo t (with_map path all_set c) path
      by (inl x) = by_parts x.0 x.1 (λ r leaf. with_map_below path all_set c r)
      by (inr x) = past_array x.0 x.1 x.2 x.3 x.4 x.5 x.6 x.7

  pub sets_lent : (t : TyId) (c : InitMap) (path : Path) (v : Val) → Fits types (form types t) v → Sets types t c v → IsThere path v
      → is_whole (get path v) ≡ true → Sets types t (with_map path all_set c) v
  sets_lent t c path v fits s there whole q leaf = ⊎_elim (λ a. subst (λ z. Meets z (get q v)) (sym (with_map_apart path all_set c q a)) (s q leaf))
      (λ b. ⊎_elim
      (λ x. subst (λ q. Meets (with_map path all_set c q) (get q v)) (sym x.1)
      (subst (λ z. Meets z (get (path ++ x.0) v)) (sym (with_map_below path all_set c x.0)) (inside (way path t v fits there) x.0
      (subst (IsLeaf types t) x.1 leaf))))
      (λ x. subst (λ z. Meets z (get q v)) (sym (ap (λ p. with_map p all_set c q) x.2 ∙ with_map_above q x.0 x.1 all_set c)) (s q leaf)) b) (split path q)
    where
      inside : Way t path → (r : Path) → IsLeaf types t (path ++ r) → is_whole (get (path ++ r) v) ≡ true
      inside (inl x) r leaf = ap is_whole (get_get path r v) ∙ sets_whole types x.0 (get path v)
          (subst (λ f. Fits types f (get path v)) (form_type types (Some t) path x.0 x.1) (fits_get types (form types t) path v fits)) whole r
          (leaf_back types t x.0 path r x.1 leaf)
      inside (inr x) r leaf = absurd (no_leaf types t x.0 x.1 x.2 x.3 (x.4 ++ r) x.6 x.7
          (subst (IsLeaf types t) (ap (λ p. p ++ r) x.5 ∙ append_assoc x.2 (x.3 ∷ x.4) r) leaf))
