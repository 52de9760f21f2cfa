-- Paths, and what a path of a value holds after a change.
use Rattle.std.proofs.Common.{◌≡◌, ◌≢◌, ◌⊎◌, inl, inr, ⊎_elim, true, false, ℕ, zero, suc, ◌<◌, [], ◌∷◌, ◌++◌, refl, sym, ap, ◌∙◌, subst, arith}
use Rattle.std.proofs.lemmas.Bool.Decides.{eqb_tells}
use Rattle.hy_core.specs.Values.{Val, Unset, Number, Truth, Tuple, Product, Array, Vals, No, And, Selector, PartAt, ElementAt, selector_eq, Path, many, nth}
use Rattle.hy_core.specs.Values.{with_nth, part, with_part, get, put, Apart, Diverge, Within, Parts, Fields, Elements, shape, Has, IsThere}

-- the path q ends above the end of p
abbrev pub Above : Path → Path → Type 0
Above q [] = ⊥
Above [] (s ∷ p) = Unit {0}
Above (t ∷ q) (s ∷ p) = (t ≡ s) × Above q p

-- SELECTORS

pub selector_tells : (s t : Selector) → ((selector_eq s t ≡ true) × (s ≡ t)) ⊎ ((selector_eq s t ≡ false) × (s ≢ t))
selector_tells (PartAt i) (PartAt j) = ⊎_elim (λ e. inl (e.0, ap PartAt e.1)) (λ e. inr (e.0, λ q. e.1 (cc))) (eqb_tells i j)
selector_tells (PartAt i) (ElementAt j) = inr (refl, λ q. absurd (cc))
selector_tells (ElementAt i) (PartAt j) = inr (refl, λ q. absurd (cc))
selector_tells (ElementAt i) (ElementAt j) = ⊎_elim (λ e. inl (e.0, ap ElementAt e.1)) (λ e. inr (e.0, λ q. e.1 (cc))) (eqb_tells i j)

pub selector_dec : (s t : Selector) → (s ≡ t) ⊎ (s ≢ t)
selector_dec s t = ⊎_elim (λ e. inl e.1) (λ e. inr e.1) (selector_tells s t)

-- PLACES THAT NEVER OVERLAP

pub apart_diverge : (p q : Path) → Apart p q → Diverge p q
apart_diverge [] q h = absurd h
apart_diverge (s ∷ p) [] h = absurd h
apart_diverge (PartAt i ∷ p) (PartAt j ∷ q) (inl n) = inl (λ e. n (cc))
apart_diverge (PartAt i ∷ p) (PartAt j ∷ q) (inr h) = inr (apart_diverge p q h)
apart_diverge (PartAt i ∷ p) (ElementAt j ∷ q) h = absurd h
apart_diverge (ElementAt i ∷ p) (PartAt j ∷ q) h = absurd h
apart_diverge (ElementAt i ∷ p) (ElementAt j ∷ q) h = absurd h

pub apart_sym : (p q : Path) → Apart p q → Apart q p
apart_sym [] q h = absurd h
apart_sym (s ∷ p) [] h = absurd h
apart_sym (PartAt i ∷ p) (PartAt j ∷ q) (inl n) = inl (λ e. n (sym e))
apart_sym (PartAt i ∷ p) (PartAt j ∷ q) (inr h) = inr (apart_sym p q h)
apart_sym (PartAt i ∷ p) (ElementAt j ∷ q) h = absurd h
apart_sym (ElementAt i ∷ p) (PartAt j ∷ q) h = absurd h
apart_sym (ElementAt i ∷ p) (ElementAt j ∷ q) h = absurd h

pub apart_back : (p q r t : Path) → Apart p q → Apart (p ++ r) (q ++ t)
apart_back [] q r t h = absurd h
apart_back (s ∷ p) [] r t h = absurd h
apart_back (PartAt i ∷ p) (PartAt j ∷ q) r t (inl n) = inl n
apart_back (PartAt i ∷ p) (PartAt j ∷ q) r t (inr h) = inr (apart_back p q r t h)
apart_back (PartAt i ∷ p) (ElementAt j ∷ q) r t h = absurd h
apart_back (ElementAt i ∷ p) (PartAt j ∷ q) r t h = absurd h
apart_back (ElementAt i ∷ p) (ElementAt j ∷ q) r t h = absurd h

-- one step: what a part is after a change of one

many_with : (k : ℕ) (w : Val) (vs : Vals) → many (with_nth k w vs) ≡ many vs
many_with k w No = refl
many_with zero w (And v vs) = refl
many_with (suc k) w (And v vs) = ap suc (many_with k w vs)

shape_with : (s : Selector) (x u : Val) → shape (with_part s x u) ≡ shape u
shape_with s x Unset = refl
shape_with s x (Number t n) = refl
shape_with s x (Truth b) = refl
shape_with (PartAt k) x (Tuple vs) = ap Parts (many_with k x vs)
shape_with (ElementAt k) x (Tuple vs) = refl
shape_with (PartAt k) x (Product d vs) = ap (Fields d) (many_with k x vs)
shape_with (ElementAt k) x (Product d vs) = refl
shape_with (PartAt k) x (Array vs) = refl
shape_with (ElementAt k) x (Array vs) = ap Elements (many_with k x vs)

nth_with : (s t : ℕ) (x : Val) (vs : Vals) (P : Val → Type 0) → s < many vs → (s ≡ t → P x) → (s ≢ t → P (nth t vs)) → P (nth t (with_nth s x vs))
nth_with s t x No P i a b = absurd (omega arith)
nth_with zero zero x (And v vs) P i a b = a refl
nth_with zero (suc t) x (And v vs) P i a b = b (λ e. omega arith)
nth_with (suc s) zero x (And v vs) P i a b = b (λ e. omega arith)
nth_with (suc s) (suc t) x (And v vs) P i a b = nth_with s t x vs P (omega arith) (λ e. a (ap suc e)) (λ n. b (λ e. n (omega arith)))

part_with : (s t : Selector) (x u : Val) (P : Val → Type 0) → Has s (shape u) → (s ≡ t → P x) → (s ≢ t → P (part t u)) → P (part t (with_part s x u))
part_with s t x Unset P i a b = absurd i
part_with s t x (Number u n) P i a b = absurd i
part_with s t x (Truth c) P i a b = absurd i
part_with (PartAt k) (PartAt l) x (Tuple vs) P i a b = nth_with k l x vs P i (λ e. a (ap PartAt e)) (λ n. b (λ e. n (cc)))
part_with (PartAt k) (ElementAt l) x (Tuple vs) P i a b = b (λ e. absurd (cc))
part_with (ElementAt k) t x (Tuple vs) P i a b = absurd i
part_with (PartAt k) (PartAt l) x (Product d vs) P i a b = nth_with k l x vs P i (λ e. a (ap PartAt e)) (λ n. b (λ e. n (cc)))
part_with (PartAt k) (ElementAt l) x (Product d vs) P i a b = b (λ e. absurd (cc))
part_with (ElementAt k) t x (Product d vs) P i a b = absurd i
part_with (PartAt k) t x (Array vs) P i a b = absurd i
part_with (ElementAt k) (PartAt l) x (Array vs) P i a b = b (λ e. absurd (cc))
part_with (ElementAt k) (ElementAt l) x (Array vs) P i a b = nth_with k l x vs P i (λ e. a (ap ElementAt e)) (λ n. b (λ e. n (cc)))

-- paths

pub diverge_sym : (p q : Path) → Diverge p q → Diverge q p
diverge_sym [] q h = absurd h
diverge_sym (s ∷ p) [] h = absurd h
diverge_sym (s ∷ p) (t ∷ q) (inl n) = inl (λ e. n (sym e))
diverge_sym (s ∷ p) (t ∷ q) (inr h) = inr (diverge_sym p q h)

pub diverge_front : (u p q : Path) → Diverge p q → Diverge (u ++ p) (u ++ q)
diverge_front [] p q h = h
diverge_front (s ∷ u) p q h = inr (diverge_front u p q h)

pub diverge_back : (p q r t : Path) → Diverge p q → Diverge (p ++ r) (q ++ t)
diverge_back [] q r t h = absurd h
diverge_back (s ∷ p) [] r t h = absurd h
diverge_back (s ∷ p) (w ∷ q) r t (inl n) = inl n
diverge_back (s ∷ p) (w ∷ q) r t (inr h) = inr (diverge_back p q r t h)

pub diverge_within : (h p q : Path) → Diverge h p → Within h (p ++ q) → ⊥
diverge_within [] p q a w = a
diverge_within (s ∷ h) [] q a w = a
diverge_within (s ∷ h) (t ∷ p) q (inl n) w = n w.0
diverge_within (s ∷ h) (t ∷ p) q (inr a) w = diverge_within h p q a w.1

pub diverge_over : (h q p : Path) → Diverge h p → Above q p → Within h q → ⊥
diverge_over [] q p a v w = a
diverge_over (s ∷ h) [] p a v w = w
diverge_over (s ∷ h) (t ∷ q) [] a v w = v
diverge_over (s ∷ h) (t ∷ q) (r ∷ p) (inl n) v w = n (w.0 ∙ v.0)
diverge_over (s ∷ h) (t ∷ q) (r ∷ p) (inr a) v w = diverge_over h q p a v.1 w.1

pub not_over : (q p : Path) → Above q p → Within p q → ⊥
not_over q [] v w = v
not_over [] (s ∷ p) v w = w
not_over (t ∷ q) (s ∷ p) v w = not_over q p v.1 w.1

-- get and put

pub get_get : (p q : Path) (u : Val) → get (p ++ q) u ≡ get q (get p u)
get_get [] q u = refl
get_get (s ∷ p) q u = get_get p q (part s u)

pub get_put_below : (p q : Path) (w u : Val) → IsThere p u → get p (put (p ++ q) w u) ≡ put q w (get p u)
get_put_below [] q w u i = refl
get_put_below (s ∷ p) q w u i =
    part_with s s (put (p ++ q) w (part s u)) u (λ x. get p x ≡ put q w (get p (part s u))) i.0
    (λ e. get_put_below p q w (part s u) i.1) (λ n. absurd (n refl))

pub get_put_apart : (p q : Path) (w u : Val) → IsThere p u → Diverge p q → get q (put p w u) ≡ get q u
get_put_apart [] q w u i h = absurd h
get_put_apart (s ∷ p) [] w u i h = absurd h
get_put_apart (s ∷ p) (t ∷ q) w u i (inl n) = part_with s t (put p w (part s u)) u (λ x. get q x ≡ get q (part t u)) i.0 (λ e. absurd (n e)) (λ n. refl)
get_put_apart (s ∷ p) (t ∷ q) w u i (inr h) =
    part_with s t (put p w (part s u)) u (λ x. get q x ≡ get q (part t u)) i.0 (λ e. get_put_apart p q w (part s u) i.1 h
    ∙ ap (λ t. get q (part t u)) e) (λ n. refl)

-- whether a path is there

pub there_append : (p q : Path) (u : Val) → IsThere p u → IsThere q (get p u) → IsThere (p ++ q) u
there_append [] q u a b = b
there_append (s ∷ p) q u a b = (a.0, there_append p q (part s u) a.1 b)

pub there_back : (p q : Path) (u : Val) → IsThere (p ++ q) u → IsThere q (get p u)
there_back [] q u h = h
there_back (s ∷ p) q u h = there_back p q (part s u) h.1

has_with : (k s : Selector) (x u : Val) → Has k (shape u) → Has k (shape (with_part s x u))
has_with k s x u h = subst (Has k) (sym (shape_with s x u)) h

pub there_put_below : (p q : Path) (w u : Val) → IsThere p u → IsThere p (put (p ++ q) w u)
there_put_below [] q w u i = tt
there_put_below (s ∷ p) q w u i =
    (has_with s s _ u i.0, part_with s s (put (p ++ q) w (part s u)) u (IsThere p) i.0 (λ e. there_put_below p q w (part s u) i.1) (λ n. absurd (n refl)))

pub there_put_apart : (q p : Path) (w u : Val) → IsThere q u → Diverge q p → IsThere p u → IsThere p (put q w u)
there_put_apart [] p w u j h i = absurd h
there_put_apart (s ∷ q) [] w u j h i = tt
there_put_apart (s ∷ q) (t ∷ p) w u j (inl n) i = (has_with t s _ u i.0, part_with s t (put q w (part s u)) u (IsThere p) j.0 (λ e. absurd (n e)) (λ n. i.1))
there_put_apart (s ∷ q) (t ∷ p) w u j (inr h) i = (
  has_with t s _ u i.0,
  part_with s t (put q w (part s u)) u (IsThere p) j.0 (λ e. there_put_apart q p w (part s u) j.1 h (subst (λ t. IsThere p (part t u)) (sym e) i.1))
      (λ n. i.1),
)

-- Two values that agree but at some paths: what a change leaves of that, at one path.

-- both get the same at the same path
pub agree_put : (p q : Path) (w v u : Val) → IsThere p v → IsThere p u → shape (get q v) ≡ shape (get q u)
    → shape (get q (put p w v)) ≡ shape (get q (put p w u))
agree_put [] q w v u i j h = refl
agree_put (s ∷ p) [] w v u i j h = shape_with s _ v ∙ h ∙ sym (shape_with s _ u)
agree_put (s ∷ p) (t ∷ q) w v u i j h =
    part_with s t x v (λ a. shape (get q a) ≡ shape (get q (part t (with_part s y u)))) i.0
    (λ e. part_with s t y u (λ b. shape (get q x) ≡ shape (get q b)) j.0
    (λ _. agree_put p q w (part s v) (part s u) i.1 j.1 (subst (λ t. shape (get q (part t v)) ≡ shape (get q (part t u))) (sym e) h)) (λ n. absurd (n e)))
    (λ n. part_with s t y u (λ b. shape (get q (part t v)) ≡ shape (get q b)) j.0 (λ e. absurd (n e)) (λ _. h))
  where
    x : Val
    x = put p w (part s v)

    y : Val
    y = put p w (part s u)

-- one gets something below a path that hides it
pub agree_hidden : (h r q : Path) (w u : Val) → (Within h q → ⊥) → IsThere h u → shape (get q (put (h ++ r) w u)) ≡ shape (get q u)
agree_hidden [] r q w u c i = absurd (c tt)
agree_hidden (s ∷ h) r [] w u c i = shape_with s _ u
agree_hidden (s ∷ h) r (t ∷ q) w u c i =
    part_with s t (put (h ++ r) w (part s u)) u (λ x. shape (get q x) ≡ shape (get q (part t u))) i.0
    (λ e. agree_hidden h r q w (part s u) (λ n. c (e, n)) i.1 ∙ ap (λ t. shape (get q (part t u))) e) (λ n. refl)

-- one gets what the other has there
pub agree_back : (p q : Path) (v u : Val) → IsThere p v → ((Within p q → ⊥) → shape (get q v) ≡ shape (get q u))
    → shape (get q (put p (get p u) v)) ≡ shape (get q u)
agree_back [] q v u i h = refl
agree_back (s ∷ p) [] v u i h = shape_with s _ v ∙ h (λ w. w)
agree_back (s ∷ p) (t ∷ q) v u i h =
    part_with s t (put p (get p (part s u)) (part s v)) v (λ x. shape (get q x) ≡ shape (get q (part t u))) i.0
    (λ e. agree_back p q (part s v) (part s u) i.1 (λ c. subst (λ t. shape (get q (part t v)) ≡ shape (get q (part t u))) (sym e) (h (λ w. c w.1)))
    ∙ ap (λ t. shape (get q (part t u))) e)
    (λ n. h (λ w. n w.0))

-- a path is there in both where they agree above its end
pub agree_there : (p : Path) (v u : Val) → ((q : Path) → Above q p → shape (get q v) ≡ shape (get q u)) → IsThere p v → IsThere p u
agree_there [] v u h i = tt
agree_there (s ∷ p) v u h i = (subst (Has s) (h [] tt) i.0, agree_there p (part s v) (part s u) (λ q w. h (s ∷ q) (refl, w)) i.1)

-- Values are equal where all shapes are.
mutual
  pub same_values : (u v : Val) → ((q : Path) → shape (get q u) ≡ shape (get q v)) → u ≡ v
  same_values Unset Unset h = refl
  same_values Unset (Number u n) h = absurd (let e = h [] in cc)
  same_values Unset (Truth n) h = absurd (let e = h [] in cc)
  same_values Unset (Tuple c) h = absurd (let e = h [] in cc)
  same_values Unset (Product e c) h = absurd (let g = h [] in cc)
  same_values Unset (Array c) h = absurd (let e = h [] in cc)
  same_values (Number t m) Unset h = absurd (let e = h [] in cc)
  same_values (Number t m) (Number u n) h = let e = h [] in let a : t ≡ u = cc in let b : m ≡ n = cc in λ i. Number (a i) (b i)
  same_values (Number t m) (Truth n) h = absurd (let e = h [] in cc)
  same_values (Number t m) (Tuple c) h = absurd (let e = h [] in cc)
  same_values (Number t m) (Product e c) h = absurd (let g = h [] in cc)
  same_values (Number t m) (Array c) h = absurd (let e = h [] in cc)
  same_values (Truth m) Unset h = absurd (let e = h [] in cc)
  same_values (Truth m) (Number u n) h = absurd (let e = h [] in cc)
  same_values (Truth m) (Truth n) h = ap Truth (let e = h [] in cc)
  same_values (Truth m) (Tuple c) h = absurd (let e = h [] in cc)
  same_values (Truth m) (Product e c) h = absurd (let g = h [] in cc)
  same_values (Truth m) (Array c) h = absurd (let e = h [] in cc)
  same_values (Tuple a) Unset h = absurd (let e = h [] in cc)
  same_values (Tuple a) (Number u n) h = absurd (let e = h [] in cc)
  same_values (Tuple a) (Truth n) h = absurd (let e = h [] in cc)
  same_values (Tuple a) (Tuple c) h = ap Tuple (same_all a c (let e = h [] in cc) (λ k q. h (PartAt k ∷ q)))
  same_values (Tuple a) (Product e c) h = absurd (let g = h [] in cc)
  same_values (Tuple a) (Array c) h = absurd (let e = h [] in cc)
  same_values (Product d a) Unset h = absurd (let e = h [] in cc)
  same_values (Product d a) (Number u n) h = absurd (let e = h [] in cc)
  same_values (Product d a) (Truth n) h = absurd (let e = h [] in cc)
  same_values (Product d a) (Tuple c) h = absurd (let e = h [] in cc)
  same_values (Product d a) (Product e c) h = let g = h [] in let f : a ≡ c = same_all a c (cc) (λ k q. h (PartAt k ∷ q)) in let i : d ≡ e = cc in cc
  same_values (Product d a) (Array c) h = absurd (let e = h [] in cc)
  same_values (Array a) Unset h = absurd (let e = h [] in cc)
  same_values (Array a) (Number u n) h = absurd (let e = h [] in cc)
  same_values (Array a) (Truth n) h = absurd (let e = h [] in cc)
  same_values (Array a) (Tuple c) h = absurd (let e = h [] in cc)
  same_values (Array a) (Product e c) h = absurd (let g = h [] in cc)
  same_values (Array a) (Array c) h = ap Array (same_all a c (let e = h [] in cc) (λ k q. h (ElementAt k ∷ q)))

  pub same_all : (a c : Vals) → many a ≡ many c → ((k : ℕ) (q : Path) → shape (get q (nth k a)) ≡ shape (get q (nth k c))) → a ≡ c
  same_all No No n h = refl
  same_all No (And v vs) n h = absurd (omega arith)
  same_all (And u us) No n h = absurd (omega arith)
  same_all (And u us) (And v vs) n h = let e = same_values u v (h zero) in let f = same_all us vs (omega arith) (λ k. h (suc k)) in cc

pub get_unset : (p : Path) → get p Unset ≡ Unset
get_unset [] = refl
get_unset (s ∷ p) = get_unset p
