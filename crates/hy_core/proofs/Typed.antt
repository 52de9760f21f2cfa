-- Values of a type, and what changes keep: the memory that copies holds in each local a value of its type, or of parts of it.
use Rattle.std.proofs.Common.{◌≡◌, ℕ, zero, suc, ◌<◌, ◌≤◌, List, [], ◌∷◌, ◌++◌, length, Option, Some, None, slice_get, refl, sym, ap, ◌∙◌, subst, arith}
use Rattle.hy_types.specs.declared.kinds.TyId.{TyId}
use Rattle.hy_types.specs.declared.kinds.Ty.{Ty}
use Rattle.hy_types.specs.declared.kinds.Ty.TheVariants as ty
use Rattle.hy_types.specs.Types.{Table, row_at, declared}
use Rattle.hy_core.specs.Values.{Val, Unset, Number, Truth, Tuple, Product, Array, Vals, No, And, Selector, PartAt, ElementAt, Path, many, nth, with_nth}
use Rattle.hy_core.specs.Values.{part, with_part, get, put}
use Rattle.hy_core.specs.Memory.{Key, Spot, Way, Reads, Writes, Origin, Copies, set_at, put_back, close_copy, lend_copy}
use Rattle.hy_core.specs.Operators.{InRange, at_end, popped, blanks}
use Rattle.hy_core.specs.Control.{Form, Numbers, Flags, Tuples, Products, Arrays, Unknown, product_form, form_of, form}
use Rattle.hy_core.specs.Statements.{swapped}
use Rattle.hy_core.proofs.Keys.{at_key}

-- FORMS

module _ (types : Table) where
  abbrev pub form_at : Option TyId → Form
  form_at None = Unknown
  form_at (Some t) = form types t

  -- of a part or element
  abbrev pub sub : Form → Selector → Form
  sub (Numbers k) s = Unknown
  sub Flags s = Unknown
  sub (Tuples parts) (PartAt i) = form_at (slice_get parts i)
  sub (Tuples parts) (ElementAt i) = Unknown
  sub (Products d parts) (PartAt i) = form_at (slice_get parts i)
  sub (Products d parts) (ElementAt i) = Unknown
  sub (Arrays t) (PartAt i) = Unknown
  sub (Arrays t) (ElementAt i) = form types t
  sub Unknown s = Unknown

  abbrev pub form_on : Form → Path → Form
  form_on f [] = f
  form_on f (i ∷ q) = form_on (sub f i) q

  pub form_append : (f : Form) (p q : Path) → form_on f (p ++ q) ≡ form_on (form_on f p) q
  form_append f [] q = refl
  form_append f (i ∷ p) q = form_append (sub f i) p q

  -- the parts of a product are those that it was declared with
  pub declared_with : (t : TyId) (d : ℕ) (parts : List TyId) → form types t ≡ Products d parts → declared types d ≡ Some parts
  declared_with t d parts e = row (row_at types t) e
    where
      found : (k : ℕ) (o : Option (List TyId)) → declared types k ≡ o → product_form k o ≡ Products d parts → declared types d ≡ Some parts
      found k None q e = absurd (cc)
      found k (Some ps) q e = let f : k ≡ d = cc in let g : ps ≡ parts = cc in subst (λ k. declared types k ≡ Some parts) f (q ∙ ap Some g)

      row : (o : Option Ty) → form_of types o ≡ Products d parts → declared types d ≡ Some parts
      row None e = absurd (cc)
      row (Some ty.Int) e = absurd (cc)
      row (Some (ty.Sized num)) e = absurd (cc)
      row (Some ty.Bool) e = absurd (cc)
      row (Some (ty.Tuple ps)) e = absurd (cc)
      row (Some (ty.Product k)) e = found k (declared types k) refl e
      row (Some (ty.Array t)) e = absurd (cc)
      row (Some (ty.Param k)) e = absurd (cc)

  -- VALUES OF A FORM: any part may be unset

  abbrev mutual
    pub Fits : Form → Val → Type 0
    Fits f Unset = Unit {0}
    Fits f (Number t n) = (f ≡ Numbers t) × InRange t n
    Fits f (Truth b) = f ≡ Flags
    Fits f (Tuple vs) = (parts : List TyId) × (f ≡ Tuples parts) × FitsAll parts vs
    Fits f (Product d vs) = (parts : List TyId) × (f ≡ Products d parts) × (declared types d ≡ Some parts) × FitsAll parts vs
    Fits f (Array vs) = (t : TyId) × (f ≡ Arrays t) × FitsEach t vs

    pub FitsAll : List TyId → Vals → Type 0
    FitsAll [] No = Unit {0}
    FitsAll (t ∷ ts) No = ⊥
    FitsAll [] (And v vs) = ⊥
    FitsAll (t ∷ ts) (And v vs) = Fits (form types t) v × FitsAll ts vs

    pub FitsEach : TyId → Vals → Type 0
    FitsEach t No = Unit {0}
    FitsEach t (And v vs) = Fits (form types t) v × FitsEach t vs

  pub fits_many : (ts : List TyId) (vs : Vals) → FitsAll ts vs → many vs ≡ length ts
  fits_many [] No h = refl
  fits_many (t ∷ ts) No h = absurd h
  fits_many [] (And v vs) h = absurd h
  fits_many (t ∷ ts) (And v vs) h = ap suc (fits_many ts vs h.1)

  fits_nth : (ts : List TyId) (i : ℕ) (vs : Vals) → FitsAll ts vs → Fits (form_at (slice_get ts i)) (nth i vs)
  fits_nth [] i No h = tt
  fits_nth (t ∷ ts) i No h = absurd h
  fits_nth [] i (And v vs) h = absurd h
  fits_nth (t ∷ ts) zero (And v vs) h = h.0
  fits_nth (t ∷ ts) (suc i) (And v vs) h = fits_nth ts i vs h.1

  fits_with_nth : (ts : List TyId) (i : ℕ) (w : Val) (vs : Vals) → FitsAll ts vs → Fits (form_at (slice_get ts i)) w → FitsAll ts (with_nth i w vs)
  fits_with_nth [] i w No h g = tt
  fits_with_nth (t ∷ ts) i w No h g = absurd h
  fits_with_nth [] i w (And v vs) h g = absurd h
  fits_with_nth (t ∷ ts) zero w (And v vs) h g = (g, h.1)
  fits_with_nth (t ∷ ts) (suc i) w (And v vs) h g = (h.0, fits_with_nth ts i w vs h.1 g)

  pub each_nth : (t : TyId) (i : ℕ) (vs : Vals) → FitsEach t vs → Fits (form types t) (nth i vs)
  each_nth t i No h = tt
  each_nth t zero (And v vs) h = h.0
  each_nth t (suc i) (And v vs) h = each_nth t i vs h.1

  each_with_nth : (t : TyId) (i : ℕ) (w : Val) (vs : Vals) → FitsEach t vs → Fits (form types t) w → FitsEach t (with_nth i w vs)
  each_with_nth t i w No h g = tt
  each_with_nth t zero w (And v vs) h g = (g, h.1)
  each_with_nth t (suc i) w (And v vs) h g = (h.0, each_with_nth t i w vs h.1 g)

  pub fits_part : (f : Form) (s : Selector) (v : Val) → Fits f v → Fits (sub f s) (part s v)
  fits_part f s Unset h = tt
  fits_part f s (Number t n) h = tt
  fits_part f s (Truth b) h = tt
  fits_part f (PartAt i) (Tuple vs) h = subst (λ f. Fits (sub f (PartAt i)) (nth i vs)) (sym h.1) (fits_nth h.0 i vs h.2)
  fits_part f (ElementAt i) (Tuple vs) h = tt
  fits_part f (PartAt i) (Product d vs) h = subst (λ f. Fits (sub f (PartAt i)) (nth i vs)) (sym h.1) (fits_nth h.0 i vs h.3)
  fits_part f (ElementAt i) (Product d vs) h = tt
  fits_part f (PartAt i) (Array vs) h = tt
  fits_part f (ElementAt i) (Array vs) h = subst (λ f. Fits (sub f (ElementAt i)) (nth i vs)) (sym h.1) (each_nth h.0 i vs h.2)

  fits_with : (f : Form) (s : Selector) (w v : Val) → Fits f v → Fits (sub f s) w → Fits f (with_part s w v)
  fits_with f s w Unset h g = tt
  fits_with f s w (Number t n) h g = h
  fits_with f s w (Truth b) h g = h
  fits_with f (PartAt i) w (Tuple vs) h g = (h.0, h.1, fits_with_nth h.0 i w vs h.2 (subst (λ f. Fits (sub f (PartAt i)) w) h.1 g))
  fits_with f (ElementAt i) w (Tuple vs) h g = h
  fits_with f (PartAt i) w (Product d vs) h g = (h.0, h.1, h.2, fits_with_nth h.0 i w vs h.3 (subst (λ f. Fits (sub f (PartAt i)) w) h.1 g))
  fits_with f (ElementAt i) w (Product d vs) h g = h
  fits_with f (PartAt i) w (Array vs) h g = h
  fits_with f (ElementAt i) w (Array vs) h g = (h.0, h.1, each_with_nth h.0 i w vs h.2 (subst (λ f. Fits (sub f (ElementAt i)) w) h.1 g))

  pub fits_get : (f : Form) (q : Path) (v : Val) → Fits f v → Fits (form_on f q) (get q v)
  fits_get f [] v h = h
  fits_get f (i ∷ q) v h = fits_get (sub f i) q (part i v) (fits_part f i v h)

  pub fits_put : (f : Form) (q : Path) (w v : Val) → Fits f v → Fits (form_on f q) w → Fits f (put q w v)
  fits_put f [] w v h g = g
  fits_put f (i ∷ q) w v h g = fits_with f i _ v h (fits_put (sub f i) q w (part i v) (fits_part f i v h) g)

  -- what operations make

  pub fits_blanks : (ts : List TyId) → FitsAll ts (blanks ts)
  fits_blanks [] = tt
  fits_blanks (t ∷ ts) = (tt, fits_blanks ts)

  pub each_end : (t : TyId) (vs : Vals) (v : Val) → FitsEach t vs → Fits (form types t) v → FitsEach t (at_end vs v)
  each_end t No v h g = (g, tt)
  each_end t (And w ws) v h g = (h.0, each_end t ws v h.1 g)

  pub each_popped : (t : TyId) (v : Val) (vs : Vals) → Fits (form types t) v → FitsEach t vs → FitsEach t (popped v vs).rest
      × Fits (form types t) (popped v vs).last
  each_popped t v No g h = (tt, g)
  each_popped t v (And w ws) g h = let r = each_popped t w ws h.0 h.1 in ((g, r.0), r.1)

  pub each_swapped : (t : TyId) (i j : ℕ) (vs : Vals) → FitsEach t vs → FitsEach t (swapped i j vs)
  each_swapped t i j vs h = each_with_nth t i _ _ (each_with_nth t j _ vs h (each_nth t i vs h)) (each_nth t j vs h)

  -- MEMORIES: the form of each local of the activations below a number; the others hold nothing

  pub record IsTyped (forms : Key → Form) (n : ℕ) (m : Copies) : Type 0 where
    pub value : (k : Key) → Fits (forms k) (m.value k)
    pub origin : (k : Key) (o : Origin) → m.opened k ≡ Some o → (k.act < n) × (o.base.act < n) × (forms k ≡ form_on (forms o.base) o.path)
    pub fresh : (k : Key) → n ≤ k.act → m.value k ≡ Unset

  module _ (forms : Key → Form) (n : ℕ) (m : Copies) (h : IsTyped forms n m) where
    pub typed_read : (s : Spot) → Fits (form_on (forms s.key) s.path) (get s.path (m.value s.key))
    typed_read s = fits_get (forms s.key) s.path (m.value s.key) (h.value s.key)

    pub typed_store : (s : Spot) (v : Val) → s.key.act < n → Fits (form_on (forms s.key) s.path) v
        → IsTyped forms n (record { opened = m.opened; value = set_at m.value s.key (put s.path v (m.value s.key)) })
    typed_store s v lt g = record {
      value = λ k. at_key m.value s.key _ k (Fits (forms k))
          (λ e. subst (λ k. Fits (forms k) (put s.path v (m.value s.key))) (sym e) (fits_put (forms s.key) s.path v (m.value s.key) (h.value s.key) g))
          (λ n. h.value k);
      origin = h.origin;
      fresh = λ k le. at_key m.value s.key _ k (λ v. v ≡ Unset) (λ e. absurd (let f : k.act ≡ s.key.act = ap (λ k. k.act) e in omega arith))
          (λ _. h.fresh k le);
    }

    pub typed_lend : (k : Key) (s : Spot) (w : Way) → k.act < n → s.key.act < n → forms k ≡ form_on (forms s.key) s.path → IsTyped forms n (lend_copy m k s w)
    typed_lend k s w lt ls e = record {
      value = λ j. at_key m.value k _ j (Fits (forms j)) (λ q. subst (λ f. Fits f (get s.path (m.value s.key))) (sym (ap forms q ∙ e)) (typed_read s))
          (λ _. h.value j);
      origin = λ j o. at_key m.opened k _ j (λ y. y ≡ Some o → (j.act < n) × (o.base.act < n) × (forms j ≡ form_on (forms o.base) o.path))
          (λ q y. let z : record { base = s.key; path = s.path; way = w } ≡ o = some_is _ _ y in
          subst (λ (o : Origin). (j.act < n) × (o.base.act < n) × (forms j ≡ form_on (forms o.base) o.path)) z (
            subst (λ (j : Key). j.act < n) (sym q) lt,
            ls,
            ap forms q ∙ e,
          )) (λ _ y. h.origin j o y);
      fresh = λ j le. at_key m.value k _ j (λ v. v ≡ Unset) (λ q. absurd (let f : j.act ≡ k.act = ap (λ k. k.act) q in omega arith)) (λ _. h.fresh j le);
    }
      where
        some_is : (a b : Origin) → Some a ≡ Some b → a ≡ b
        some_is a b e = cc

    typed_unset : (value : Key → Val) (k : Key) → ((j : Key) → Fits (forms j) (value j)) → ((j : Key) → n ≤ j.act → value j ≡ Unset)
        → IsTyped forms n (record { opened = set_at m.opened k None; value = set_at value k Unset })
    typed_unset value k all_fit fresh = record {
      value = λ j. at_key value k Unset j (Fits (forms j)) (λ _. tt) (λ _. all_fit j);
      origin = λ j o. at_key m.opened k None j (λ y. y ≡ Some o → (j.act < n) × (o.base.act < n)
          × (forms j ≡ form_on (forms o.base) o.path)) (λ q y. absurd (cc)) (λ _ y. h.origin j o y);
      fresh = λ j le. at_key value k Unset j (λ v. v ≡ Unset) (λ _. refl) (λ _. fresh j le);
    }

    pub typed_close : (k : Key) → IsTyped forms n (close_copy m k (m.opened k))
    typed_close k = go (m.opened k) refl
      where
        back : (o : Origin) (w : Way) → m.opened k ≡ Some o
            → IsTyped forms n (record { opened = set_at m.opened k None; value = set_at (put_back m.value k o w) k Unset })
        back o Reads e = typed_unset m.value k h.value h.fresh
        back o Writes e =
            let at = h.origin k o e in
            let s : Spot = record { key = o.base; path = o.path } in
            let t = typed_store s (m.value k) at.1 (subst (λ f. Fits f (m.value k)) at.2 (h.value k)) in
            typed_unset _ k t.value t.fresh

        go : (x : Option Origin) → m.opened k ≡ x → IsTyped forms n (close_copy m k x)
        go None e = h
        go (Some o) e = back o o.way e
