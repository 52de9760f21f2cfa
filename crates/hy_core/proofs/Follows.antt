-- The relation of the two memories, and what keeps it.
use Rattle.std.proofs.Common.{◌≡◌, ◌≢◌, ◌⊎◌, inl, inr, ⊎_elim, ℕ, zero, suc, ◌<◌, [], ◌++◌, Option, Some, None, refl, sym, ap, ◌∙◌, subst, append_assoc}
use Rattle.std.proofs.Common.{append-nil, arith}
use Rattle.hy_core.specs.Values.{Val, Unset, Path, get, put, Within, shape, IsThere, Diverge}
use Rattle.hy_core.specs.Memory.{Key, set_at, Spot, whole, below, Way, Reads, Writes, Origin, Copies, put_back, close_copy, way_of, copying, Cells}
use Rattle.hy_core.specs.Memory.{target_of, target, resolve, lending, no_copies, no_cells}
use Rattle.hy_core.specs.Calm.{IsShut, IsWritable, MayInspect, MayRead, MayWrite, MayOpen, MayLend, MayHand, MayClose}
use Rattle.hy_core.specs.States.{held, IsClear, IsFrom, Descends, Agree}
use Rattle.hy_core.proofs.OpenPlaces.{Sound}
use Rattle.hy_core.proofs.Values.{Above, apart_diverge, diverge_sym, diverge_front, diverge_back, diverge_within, diverge_over, get_get, get_put_below}
use Rattle.hy_core.proofs.Values.{get_put_apart, there_append, there_back, there_put_below, there_put_apart, agree_put, agree_hidden, agree_back}
use Rattle.hy_core.proofs.Values.{agree_there, not_over, same_values}
use Rattle.hy_core.proofs.Keys.{key_dec, set_same, set_other, at_key}

-- an opened local refers to the place that it was opened at, was opened later than that one's local, and is for change only if that one is
pub record IsLent (rank : Key → ℕ) (m : Copies) (s : Cells) (k : Key) (o : Origin) : Type 0 where
  pub refers : s.refers k ≡ Some (below (target s o.base) o.path)
  pub later : rank o.base < rank k
  pub way : o.way ≡ Writes → IsWritable m o.base

-- The copy of a place that is lent for change may be stale while it is lent, and no other copy is.
pub record Follows (rank : Key → ℕ) (m : Copies) (s : Cells) : Type 0 where
  pub own : (k : Key) → m.opened k ≡ None → s.refers k ≡ None
  pub lent : (k : Key) (o : Origin) → m.opened k ≡ Some o → IsLent rank m s k o
  pub apart : (a b : Key) (o p : Origin) → m.opened a ≡ Some o → m.opened b ≡ Some p → a ≢ b → o.base ≡ p.base → o.way ≡ Writes → Diverge o.path p.path
  pub there : (k : Key) → IsThere (target s k).path (s.cell (target s k).key)
  pub same : (k : Key) (q : Path) → IsClear m k q → shape (get q (m.value k)) ≡ shape (get q (held s k))

-- a local was opened at one place
same_origin : (m : Copies) (a b : Key) (o p : Origin) → a ≡ b → m.opened a ≡ Some o → m.opened b ≡ Some p → o ≡ p
same_origin m a b o p e h i = let f = ap m.opened e in cc

-- the way down from a local to one that was opened from it

record Down (m : Copies) (X : Key → Path → Type 0) (u : Key) (p : Path) : Type 0 where
  child : Key
  origin : Origin
  rest : Path
  opened : m.opened child ≡ Some origin
  base : origin.base ≡ u
  path : p ≡ origin.path ++ rest
  more : X child rest

abbrev Reach : Copies → ℕ → Key → Key → Path → Type 0
Reach m zero u k p = (u ≡ k) × (p ≡ [])
Reach m (suc n) u k p = Down m (λ c r. Reach m n c k r) u p

reach_on : (m : Copies) (n : ℕ) (u y k : Key) (p : Path) (o : Origin) → Reach m n u y p → m.opened k ≡ Some o → o.base ≡ y → Reach m (suc n) u k (p ++ o.path)
reach_on m zero u y k p o r h b = record {
  child = k;
  origin = o;
  rest = [];
  opened = h;
  base = b ∙ sym r.0;
  path = ap (λ p. p ++ o.path) r.1
      ∙ sym (append-nil o.path);
  more = (refl, refl);
}
reach_on m (suc n) u y k p o r h b = record {
  child = r.child;
  origin = r.origin;
  rest = r.rest ++ o.path;
  opened = r.opened;
  base = r.base;
  path = ap (λ p. p ++ o.path) r.path ∙ append_assoc r.origin.path r.rest o.path;
  more = reach_on m n r.child y k r.rest o r.more h b;
}

-- a local that is no opened one, and the way down from it
abbrev Root : Copies → Key → Spot → Type 0
Root m k t = (n : ℕ) × Reach m n t.key k t.path × (m.opened t.key ≡ None)

module _ (rank : Key → ℕ) (m : Copies) (s : Cells) (F : Follows rank m s) where
  target_lent : (k : Key) (o : Origin) → m.opened k ≡ Some o → target s k ≡ below (target s o.base) o.path
  target_lent k o h = ap (target_of k) (F.lent k o h).refers

  root_below : (b : ℕ) (k : Key) → rank k < b → Root m k (target s k)
  root_below zero k h = absurd (omega arith)
  root_below (suc b) k h = go (m.opened k) refl (λ o e. root_below b o.base (let l : rank o.base < rank k = (F.lent k o e).later in omega arith))
    where
      go : (o : Option Origin) → m.opened k ≡ o → ((o : Origin) → m.opened k ≡ Some o → Root m o.base (target s o.base)) → Root m k (target s k)
      go None e up = subst (Root m k) (sym (ap (target_of k) (F.own k e))) (zero, (refl, refl), e)
      go (Some o) e up = let r = up o e in subst (Root m k) (sym (target_lent k o e)) (suc r.0, reach_on m r.0 _ o.base k _ o r.1 e refl, r.2)

  root : (k : Key) → Root m k (target s k)
  root k = root_below (suc (rank k)) k (omega arith)

  -- what leads to a local that may be changed was opened for change
  writable_up : (n : ℕ) (c x : Key) (r : Path) → Reach m n c x r → IsWritable m x → IsWritable m c
  writable_up zero c x r h w = subst (IsWritable m) (sym h.0) w
  writable_up (suc n) c x r h w = let v = writable_up n h.child x h.rest h.more w in
      subst (IsWritable m) h.base ((F.lent h.child h.origin h.opened).way (v h.origin h.opened))

-- how a place p of the local x lies to what the local k stands for, seen from a local above both: q and t are the paths
data Meets (m : Copies) (x : Key) (p : Path) (k : Key) (q t : Path) : Type 0 where
  beside : Diverge q t → Meets m x p k q t
  itself : k ≡ x → q ≡ t ++ p → Meets m x p k q t
  hidden : (c : Key) (o : Origin) (r : Path) → m.opened c ≡ Some o → o.base ≡ k → o.way ≡ Writes → q ≡ t ++ (o.path ++ r) → Meets m x p k q t

meets_below : (m : Copies) (x : Key) (p : Path) (k : Key) (u q t : Path) → Meets m x p k q t → Meets m x p k (u ++ q) (u ++ t)
meets_below m x p k u q t (beside a) = beside (diverge_front u q t a)
meets_below m x p k u q t (itself e f) = itself e (ap (λ q. u ++ q) f ∙ sym (append_assoc u t p))
meets_below m x p k u q t (hidden c o r h b w f) = hidden c o r h b w (ap (λ q. u ++ q) f ∙ sym (append_assoc u t (o.path ++ r)))

module _ (rank : Key → ℕ) (m : Copies) (s : Cells) (F : Follows rank m s) (x : Key) (p : Path) (W : IsWritable m x) (free : (c : Key) (o : Origin)
    → m.opened c ≡ Some o → o.base ≡ x → Diverge o.path p) where
  meet : (n i : ℕ) (u k : Key) (q t : Path) → Reach m n u x q → Reach m i u k t → Meets m x p k (q ++ p) t
  meet zero zero u k q t a b = itself (sym b.0 ∙ a.0) (rw (a.1, b.1) refl)
  meet zero (suc i) u k q t a b =
      beside (rw (a.1, b.path) (let h = diverge_sym _ _ (free b.child b.origin b.opened (b.base ∙ a.0)) in
      subst (λ p'. Diverge p' (b.origin.path ++ b.rest)) (append-nil p) (diverge_back p b.origin.path [] b.rest h)))
  meet (suc n) zero u k q t a b =
      let w = writable_up rank m s F n a.child x a.rest a.more W in
      hidden a.child a.origin (a.rest ++ p) a.opened (a.base ∙ b.0) (w a.origin a.opened) (rw (a.path, b.1) (append_assoc a.origin.path a.rest p))
  meet (suc n) (suc i) u k q t a b = go (key_dec a.child b.child) (λ c. meet n i a.child k a.rest b.rest a.more c)
    where
      go : (a.child ≡ b.child) ⊎ (a.child ≢ b.child) → (Reach m i a.child k b.rest → Meets m x p k (a.rest ++ p) b.rest) → Meets m x p k (q ++ p) t
      go (inl e) up =
          let o : a.origin ≡ b.origin = same_origin m a.child b.child a.origin b.origin e a.opened b.opened in
          let h = meets_below m x p k a.origin.path (a.rest ++ p) b.rest (up (subst (λ c. Reach m i c k b.rest) (sym e) b.more)) in
          rw (a.path, b.path, append_assoc a.origin.path a.rest p, ← o) h
      go (inr n') up =
          let w = writable_up rank m s F n a.child x a.rest a.more W in
          let h = F.apart a.child b.child a.origin b.origin a.opened b.opened n' (a.base ∙ sym b.base) (w a.origin a.opened) in
          beside (rw (a.path, b.path, append_assoc a.origin.path a.rest p) (diverge_back a.origin.path b.origin.path (a.rest ++ p) b.rest h))

open_reads : (m : Copies) (t : Spot) (way : Way) → MayOpen m t way → MayRead m t
open_reads m t Reads h = h
open_reads m t Writes h = record { kept = h.kept; apart = λ c o e b w. h.apart c o e b }

open_writes : (m : Copies) (t : Spot) (way : Way) → MayOpen m t way → way ≡ Writes → MayWrite m t
open_writes m t Reads h e = absurd (cc)
open_writes m t Writes h e = h

-- READING

module _ (rank : Key → ℕ) (m : Copies) (s : Cells) (F : Follows rank m s) where
  read_same : (t : Spot) → MayRead m t → copying.read m t ≡ lending.read s t
  read_same t may =
      let P = (target s t.key).path in
      let cell = s.cell (target s t.key).key in
      same_values _ _ (λ q. ap shape (sym (get_get t.path q (m.value t.key)))
      ∙ F.same t.key (t.path ++ q) (λ c o h b w i. diverge_within o.path t.path q (apart_diverge o.path t.path (may.apart c o h b w)) i)
      ∙ ap shape (get_get t.path q (held s t.key)))
      ∙ sym (get_get P t.path cell)

  look_same : (t : Spot) → MayInspect m t → shape (copying.read m t) ≡ shape (lending.read s t)
  look_same t may = F.same t.key t.path (λ c o h b w i. may.clear c o h b w i)
      ∙ ap shape (sym (get_get (target s t.key).path t.path (s.cell (target s t.key).key)))

-- STORING

module _ (rank : Key → ℕ) (m : Copies) (s : Cells) (F : Follows rank m s) (t : Spot) (v : Val) (may : MayWrite m t) where
  store_meets : (k : Key) → (target s k).key ≡ (target s t.key).key → Meets m t.key t.path k ((target s t.key).path ++ t.path) (target s k).path
  store_meets k e =
      let a = root rank m s F t.key in
      let b = root rank m s F k in
      meet rank m s F t.key t.path may.writable (λ c o e b. apart_diverge o.path t.path (may.apart c o e b)) a.0 b.0 (target s t.key).key k
      (target s t.key).path (target s k).path a.1 (subst (λ u. Reach m b.0 u k (target s k).path) e b.1)

  -- the place is there in the store
  place_held : IsThere t.path (held s t.key)
  place_held = agree_there t.path (m.value t.key) (held s t.key)
      (λ q w. F.same t.key q (λ c o h b v. diverge_over o.path q t.path (apart_diverge o.path t.path (may.apart c o h b)) w)) may.there

  place_there : IsThere ((target s t.key).path ++ t.path) (s.cell (target s t.key).key)
  place_there = there_append (target s t.key).path t.path _ (F.there t.key) place_held

  m1 : Copies
  m1 = copying.store m t v

  s1 : Cells
  s1 = lending.store s t v

  store_there : (k : Key) → IsThere (target s1 k).path (s1.cell (target s1 k).key)
  unfolding s1
  store_there k = at_key s.cell (target s t.key).key _ (target s k).key (IsThere (target s k).path)
      (λ e. go (store_meets k e) (subst (λ u. IsThere (target s k).path (s.cell u)) e (F.there k)))
      (λ n. F.there k)
    where
      go : Meets m t.key t.path k ((target s t.key).path ++ t.path) (target s k).path → IsThere (target s k).path (s.cell (target s t.key).key)
          → IsThere (target s k).path (put ((target s t.key).path ++ t.path) v (s.cell (target s t.key).key))
      go (beside a) i = there_put_apart _ _ _ _ place_there a i
      go (itself e f) i = rw f (there_put_below (target s k).path t.path v _ i)
      go (hidden c o r h b w f) i = rw f (there_put_below (target s k).path (o.path ++ r) v _ i)

  store_same_itself : (q : Path) → IsClear m1 t.key q → shape (get q (put t.path v (m.value t.key))) ≡ shape (get q (held s1 t.key))
  unfolding m1 s1
  store_same_itself q c =
      at_key s.cell (target s t.key).key _ (target s t.key).key
      (λ u. shape (get q (put t.path v (m.value t.key))) ≡ shape (get q (get (target s t.key).path u)))
      (λ e. agree_put t.path q v (m.value t.key) (held s t.key) may.there place_held (F.same t.key q c)
      ∙ ap (λ u. shape (get q u)) (sym (get_put_below (target s t.key).path t.path v _ (F.there t.key))))
      (λ n. absurd (n refl))

  store_same_other : (k : Key) → k ≢ t.key → (q : Path) → IsClear m1 k q → shape (get q (m.value k)) ≡ shape (get q (held s1 k))
  unfolding m1 s1
  store_same_other k n q c = at_key s.cell (target s t.key).key _ (target s k).key (λ u. shape (get q (m.value k)) ≡ shape (get q (get (target s k).path u)))
      (λ e. go (store_meets k e) (subst (λ u. shape (get q (m.value k)) ≡ shape (get q (get (target s k).path (s.cell u)))) e (F.same k q c))
      (λ c' o h b. subst (λ u. IsThere o.path (get (target s k).path (s.cell u))) e (there_at c' o h b))
      (subst (λ u. IsThere (target s k).path (s.cell u)) e (F.there k)))
      (λ n. F.same k q c)
    where
      -- the place of what was opened from k is there
      there_at : (c' : Key) (o : Origin) → m.opened c' ≡ Some o → o.base ≡ k → IsThere o.path (held s k)
      there_at c' o h b =
          there_back (target s k).path o.path _ (subst (λ k. IsThere ((target s k).path ++ o.path) (s.cell (target s k).key)) b
          (subst (λ u. IsThere u.path (s.cell u.key)) (target_lent rank m s F c' o h) (F.there c')))

      go : Meets m t.key t.path k ((target s t.key).path ++ t.path) (target s k).path
          → shape (get q (m.value k)) ≡ shape (get q (get (target s k).path (s.cell (target s t.key).key)))
          → ((c' : Key) (o : Origin) → m.opened c' ≡ Some o → o.base ≡ k → IsThere o.path (get (target s k).path (s.cell (target s t.key).key)))
          → IsThere (target s k).path (s.cell (target s t.key).key)
          → shape (get q (m.value k)) ≡ shape (get q (get (target s k).path (put ((target s t.key).path ++ t.path) v (s.cell (target s t.key).key))))
      go (beside a) h i k_there = h ∙ ap (λ u. shape (get q u)) (sym (get_put_apart _ _ v _ place_there a))
      go (itself e f) h i k_there = absurd (n e)
      go (hidden c' o r h' b w f) h i k_there = h ∙ sym (agree_hidden o.path r q v _ (c c' o h' b w) (i c' o h' b))
          ∙ ap (λ u. shape (get q u)) (sym (get_put_below (target s k).path (o.path ++ r) v _ k_there)) ∙ rw f refl

  store_follows : Follows rank (copying.store m t v) (lending.store s t v)
  unfolding m1 s1
  store_follows = record {
    own = F.own;
    lent = λ k o h. let l = F.lent k o h in record { refers = l.refers; later = l.later; way = l.way };
    apart = F.apart;
    there = store_there;
    same = λ k q c. at_key m.value t.key _ k (λ u. shape (get q u) ≡ shape (get q (held s1 k)))
        (λ e. subst (λ k. IsClear m1 k q → shape (get q (put t.path v (m.value t.key))) ≡ shape (get q (held s1 k))) (sym e) (store_same_itself q) c)
        (λ n. store_same_other k n q c);
  }

-- LENDING

module _ (rank : Key → ℕ) (m : Copies) (s : Cells) (F : Follows rank m s) (k : Key) (t : Spot) (way : Way) (may : MayLend m k t way) where
  abbrev new : Origin
  new = record { base = t.key; path = t.path; way = way }

  abbrev m2 : Copies
  m2 = copying.lend m k t way

  abbrev s2 : Cells
  s2 = lending.lend s k t way

  abbrev rank2 : Key → ℕ
  rank2 = set_at rank k (suc (rank t.key))

  lend_target : (j : Key) → j ≢ k → target s2 j ≡ target s j
  lend_target j n = ap (target_of j) (set_other s.refers k (Some (resolve s t)) j n)

  lend_writable : (j : Key) → j ≢ k → IsWritable m j → IsWritable m2 j
  lend_writable j n w o h = w o (sym (set_other m.opened k (Some new) j n) ∙ h)

  lend_lent : (j : Key) (o : Origin) → m2.opened j ≡ Some o → IsLent rank2 m2 s2 j o
  lend_lent j o h = ⊎_elim here there' (key_dec j k)
    where
      old : (o : Origin) → o.base ≢ k → j ≢ k → IsLent rank m s j o → IsLent rank2 m2 s2 j o
      old o b n l = record {
        refers = set_other s.refers k (Some (resolve s t)) j n ∙ l.refers ∙ ap (λ u. Some (below u o.path)) (sym (lend_target o.base b));
        later = rw (set_other rank k (suc (rank t.key)) o.base b, set_other rank k (suc (rank t.key)) j n) l.later;
        way = λ w. lend_writable o.base b (l.way w);
      }

      first : IsLent rank2 m2 s2 k new
      first = let n : t.key ≢ k = (λ e. may.other (sym e)) in record {
        refers = set_same s.refers k (Some (resolve s t)) ∙ ap (λ u. Some (below u t.path)) (sym (lend_target t.key n));
        later = rw (set_other rank k (suc (rank t.key)) t.key n, set_same rank k (suc (rank t.key))) (omega arith);
        way = λ w. lend_writable t.key n (open_writes m t way may.free w).writable;
      }

      here : j ≡ k → IsLent rank2 m2 s2 j o
      here e =
          let f : Some new ≡ Some o = sym (set_same m.opened k (Some new)) ∙ sym (ap m2.opened e) ∙ h in
          let g : new ≡ o = cc in
          subst (λ j. IsLent rank2 m2 s2 j o) (sym e) (subst (IsLent rank2 m2 s2 k) g first)

      there' : j ≢ k → IsLent rank2 m2 s2 j o
      there' n = let i = sym (set_other m.opened k (Some new) j n) ∙ h in old o (may.shut j o i) n (F.lent j o i)

  lend_apart : (a b : Key) (o p : Origin) → m2.opened a ≡ Some o → m2.opened b ≡ Some p → a ≢ b → o.base ≡ p.base → o.way ≡ Writes → Diverge o.path p.path
  lend_apart a b o p =
      at_key m.opened k (Some new) a (λ u. u ≡ Some o → m2.opened b ≡ Some p → a ≢ b → o.base ≡ p.base → o.way ≡ Writes → Diverge o.path p.path)
      (λ e. λ h. at_key m.opened k (Some new) b (λ u. u ≡ Some p → a ≢ b → o.base ≡ p.base → o.way ≡ Writes → Diverge o.path p.path)
      (λ f i n. absurd (n (e ∙ sym f)))
      (λ f i n c w.
      let g : new ≡ o = cc in
      subst (λ q. Diverge q p.path) (ap (λ o. o.path) g)
      (diverge_sym p.path t.path
      (apart_diverge p.path t.path ((open_writes m t way may.free (ap (λ o. o.way) g ∙ w)).apart b p i (sym c ∙ sym (ap (λ o. o.base) g)))))))
      (λ e. λ h. at_key m.opened k (Some new) b (λ u. u ≡ Some p → a ≢ b → o.base ≡ p.base → o.way ≡ Writes → Diverge o.path p.path)
      (λ f i n c w.
      let g : new ≡ p = cc in
      subst (Diverge o.path) (ap (λ o. o.path) g) (apart_diverge o.path t.path ((open_reads m t way may.free).apart a o h (c ∙ sym (ap (λ o. o.base) g)) w)))
      (λ f i n c w. F.apart a b o p h i n c w))

  lend_there : (j : Key) → IsThere (target s2 j).path (s.cell (target s2 j).key)
  lend_there j = at_key s.refers k (Some (resolve s t)) j (λ r. IsThere (target_of j r).path (s.cell (target_of j r).key))
      (λ e. there_append (target s t.key).path t.path _ (F.there t.key)
      (agree_there t.path (m.value t.key) (held s t.key)
      (λ q w. F.same t.key q (λ c o h b v. diverge_over o.path q t.path (apart_diverge o.path t.path ((open_reads m t way may.free).apart c o h b v)) w))
      may.there))
      (λ n. F.there j)

  -- what was clear is more than what is
  lend_clear : (j : Key) (q : Path) → IsClear m2 j q → IsClear m j q
  lend_clear j q c a o h = c a o (set_other m.opened k (Some new) a (λ e. none (ap m.opened e)) ∙ h)
    where
      none : m.opened a ≡ m.opened k → ⊥
      none f = let g = may.closed in cc

  lend_same : (j : Key) (q : Path) → IsClear m2 j q → shape (get q (m2.value j)) ≡ shape (get q (held s2 j))
  lend_same j q c = ⊎_elim here there' (key_dec j k)
    where
      here : j ≡ k → shape (get q (m2.value j)) ≡ shape (get q (held s2 j))
      here e = subst (λ j. shape (get q (m2.value j)) ≡ shape (get q (held s2 j))) (sym e)
          (ap (λ u. shape (get q u)) (set_same m.value k (get t.path (m.value t.key)) ∙ read_same rank m s F t (open_reads m t way may.free))
          ∙ ap (λ r. shape (get q (get (target_of k r).path (s.cell (target_of k r).key)))) (sym (set_same s.refers k (Some (resolve s t)))))

      there' : j ≢ k → shape (get q (m2.value j)) ≡ shape (get q (held s2 j))
      there' n = ap (λ u. shape (get q u)) (set_other m.value k (get t.path (m.value t.key)) j n) ∙ F.same j q (lend_clear j q c)
          ∙ ap (λ u. shape (get q (get u.path (s.cell u.key)))) (sym (lend_target j n))

  lend_own : (j : Key) → m2.opened j ≡ None → s2.refers j ≡ None
  lend_own j = ⊎_elim
      (λ e h. let f : Some new ≡ None = sym (set_same m.opened k (Some new)) ∙ sym (ap m2.opened e) ∙ h in absurd (cc))
      (λ n h. set_other s.refers k (Some (resolve s t)) j n ∙ F.own j (sym (set_other m.opened k (Some new) j n) ∙ h)) (key_dec j k)

  lend_follows : Follows rank2 m2 s2
  lend_follows = record { own = lend_own; lent = lend_lent; apart = lend_apart; there = lend_there; same = lend_same }

-- CLOSING

module _ (rank : Key → ℕ) (m : Copies) (s : Cells) (F : Follows rank m s) (k : Key) (o : Origin) (is_open : m.opened k ≡ Some o) (shut : IsShut m k) where
  abbrev m3 : Copies
  m3 = close_copy m k (Some o)

  abbrev s3 : Cells
  s3 = lending.close s k

  close_target : (j : Key) → j ≢ k → target s3 j ≡ target s j
  close_target j n = ap (target_of j) (set_other s.refers k None j n)

  -- what is open now was open before, and is another local
  was_open : (j : Key) (p : Origin) → m3.opened j ≡ Some p → (j ≢ k) × (m.opened j ≡ Some p)
  was_open j p = at_key m.opened k None j (λ u. u ≡ Some p → (j ≢ k) × (m.opened j ≡ Some p)) (λ e h. absurd (cc)) (λ n h. (n, h))

  close_lent : (j : Key) (p : Origin) → m3.opened j ≡ Some p → IsLent rank m3 s3 j p
  close_lent j p h =
      let w = was_open j p h in
      let l = F.lent j p w.1 in
      record {
        refers = set_other s.refers k None j w.0 ∙ l.refers ∙ ap (λ u. Some (below u p.path)) (sym (close_target p.base (shut j p w.1)));
        later = l.later;
        way = λ x q i. l.way x q (was_open p.base q i).1;
      }

  -- no cell of a local that is open is in use
  other_cell : (j : Key) → (target s j).key ≢ k
  other_cell j e = let r = root rank m s F j in let f = ap m.opened e in let g = r.2 in absurd (cc)

  close_cell : (j : Key) → s3.cell (target s j).key ≡ s.cell (target s j).key
  close_cell j = set_other s.cell k Unset (target s j).key (other_cell j)

  close_there : (j : Key) → IsThere (target s3 j).path (s3.cell (target s3 j).key)
  close_there j = ⊎_elim
      (λ e. subst (λ j. IsThere (target s3 j).path (s3.cell (target s3 j).key)) (sym e)
      (subst (λ r. IsThere (target_of k r).path (s3.cell (target_of k r).key)) (sym (set_same s.refers k None)) tt))
      (λ n. subst (λ u. IsThere u.path (s3.cell u.key)) (sym (close_target j n)) (subst (IsThere (target s j).path) (sym (close_cell j)) (F.there j)))
      (key_dec j k)

  -- what closes is not stale, and is the part that its origin holds
  part_held : m.value k ≡ get o.path (held s o.base)
  part_held = same_values _ _ (λ q. F.same k q (λ c p h b w. absurd (shut c p h b)))
      ∙ ap (λ u. get u.path (s.cell u.key)) (target_lent rank m s F k o is_open)
      ∙ get_get (target s o.base).path o.path _

  part_there : IsThere o.path (held s o.base)
  part_there = there_back (target s o.base).path o.path _ (subst (λ u. IsThere u.path (s.cell u.key)) (target_lent rank m s F k o is_open) (F.there k))

  -- its place is there, also in the copy
  copy_there : o.way ≡ Writes → IsThere o.path (m.value o.base)
  copy_there w = agree_there o.path (held s o.base) (m.value o.base) (λ q v. sym (F.same o.base q (λ c p h b x. clear q v c p h b x (key_dec c k)))) part_there
    where
      clear : (q : Path) → Above q o.path → (c : Key) (p : Origin) → m.opened c ≡ Some p → p.base ≡ o.base → p.way ≡ Writes → (c ≡ k) ⊎ (c ≢ k)
          → Within p.path q → ⊥
      clear q v c p h b x (inl e) i = not_over q o.path v (subst (λ o. Within o.path q) (same_origin m c k p o e h is_open) i)
      clear q v c p h b x (inr n) i = diverge_over p.path q o.path (F.apart c k p o h is_open n b x) v i

  -- what is clear now, but for what closed
  close_clear : (j : Key) (q : Path) → IsClear m3 j q → (j ≡ o.base → o.way ≡ Writes → Within o.path q → ⊥) → IsClear m j q
  close_clear j q c d a p h b w = ⊎_elim
      (λ e. let g : o ≡ p = same_origin m k a o p (sym e) is_open h in
      λ v. d (sym b ∙ sym (ap (λ o. o.base) g)) (ap (λ o. o.way) g ∙ w) (subst (λ o. Within o.path q) (sym g) v))
      (λ n. c a p (set_other m.opened k None a n ∙ h) b w)
      (key_dec a k)

  back_same : (way : Way) → o.way ≡ way → (j : Key) (q : Path) → j ≢ k → IsClear m3 j q → shape (get q (put_back m.value k o way j)) ≡ shape (get q (held s j))
  back_same Reads e j q n c = F.same j q (close_clear j q c (λ a b. absurd (cc)))
  back_same Writes e j q n c = at_key m.value o.base (put o.path (m.value k) (m.value o.base)) j (λ u. shape (get q u) ≡ shape (get q (held s j)))
      (λ f. subst (λ j. IsClear m3 j q → shape (get q (put o.path (m.value k) (m.value o.base))) ≡ shape (get q (held s j))) (sym f)
      (λ c. rw part_held (agree_back o.path q (m.value o.base) (held s o.base) (copy_there e) (λ d. F.same o.base q (close_clear o.base q c (λ _ _. d))))) c)
      (λ f. F.same j q (close_clear j q c (λ g. absurd (f g))))

  close_same : (j : Key) (q : Path) → IsClear m3 j q → shape (get q (m3.value j)) ≡ shape (get q (held s3 j))
  close_same j q c = ⊎_elim here there' (key_dec j k)
    where
      here : j ≡ k → shape (get q (m3.value j)) ≡ shape (get q (held s3 j))
      here e = subst (λ j. shape (get q (m3.value j)) ≡ shape (get q (held s3 j))) (sym e)
          (ap (λ u. shape (get q u)) (set_same (put_back m.value k o o.way) k Unset ∙ sym (set_same s.cell k Unset))
          ∙ ap (λ r. shape (get q (get (target_of k r).path (s3.cell (target_of k r).key)))) (sym (set_same s.refers k None)))

      there' : j ≢ k → shape (get q (m3.value j)) ≡ shape (get q (held s3 j))
      there' n = ap (λ u. shape (get q u)) (set_other (put_back m.value k o o.way) k Unset j n) ∙ back_same o.way refl j q n c
          ∙ ap (λ u. shape (get q (get (target s j).path u))) (sym (close_cell j))
          ∙ ap (λ u. shape (get q (get u.path (s3.cell u.key)))) (sym (close_target j n))

  close_own : (j : Key) → m3.opened j ≡ None → s3.refers j ≡ None
  close_own j = ⊎_elim (λ e h. ap s3.refers e ∙ set_same s.refers k None) (λ n h. set_other s.refers k None j n
      ∙ F.own j (sym (set_other m.opened k None j n) ∙ h)) (key_dec j k)

  close_follows : Follows rank m3 s3
  close_follows = record {
    own = close_own;
    lent = close_lent;
    apart = λ a b p q h i n. F.apart a b p q (was_open a p h).1 (was_open b q i).1 n;
    there = close_there;
    same = close_same;
  }

begins : Follows (λ _. zero) no_copies no_cells
begins = record {
  own = λ k h. refl;
  lent = λ k o h. absurd (cc);
  apart = λ a b o p h i n. absurd (cc);
  there = λ k. tt;
  same = λ k q c. refl;
}

-- the relation, from some order of opening
pub record Agrees (m : Copies) (s : Cells) : Type 0 where
  pub rank : Key → ℕ
  pub follows : Follows rank m s

pub agrees_read : (m : Copies) (s : Cells) → Agrees m s → (t : Spot) → MayRead m t → copying.read m t ≡ lending.read s t
agrees_read m s a t may = read_same a.rank m s a.follows t may

pub agrees_look : (m : Copies) (s : Cells) → Agrees m s → (t : Spot) → MayInspect m t → shape (copying.read m t) ≡ shape (lending.read s t)
agrees_look m s a t may = look_same a.rank m s a.follows t may

pub agrees_store : (m : Copies) (s : Cells) → Agrees m s → (t : Spot) (v : Val) → MayWrite m t → Agrees (copying.store m t v) (lending.store s t v)
agrees_store m s a t v may = record { rank = a.rank; follows = store_follows a.rank m s a.follows t v may }

pub agrees_lend : (m : Copies) (s : Cells) → Agrees m s → (k : Key) (t : Spot) (way : Way) → MayLend m k t way
    → Agrees (copying.lend m k t way) (lending.lend s k t way)
agrees_lend m s a k t way may = record { rank = _; follows = lend_follows a.rank m s a.follows k t way may }

-- what may be handed may be lent as a whole, in the way in which it is open
hand_lends : (m : Copies) (k l : Key) → MayHand m k l → MayLend m k (whole l) (way_of (m.opened l))
hand_lends m k l may = record {
  closed = may.closed;
  shut = may.shut;
  other = may.other;
  there = tt;
  free =
      free (way_of (m.opened l)) (λ w o e. sym (ap way_of e) ∙ w);
}
  where
    free : (way : Way) → (way ≡ Writes → IsWritable m l) → MayOpen m (whole l) way
    free Reads w = record { kept = λ c o e b. absurd (may.free c o e b); apart = λ c o e b. absurd (may.free c o e b) }
    free Writes w = record { kept = λ c o e b. absurd (may.free c o e b); writable = w refl; there = tt; apart = λ c o e b. absurd (may.free c o e b) }

pub agrees_hand : (m : Copies) (s : Cells) → Agrees m s → (k l : Key) → MayHand m k l → Agrees (copying.hand m k l) (lending.hand s k l)
agrees_hand m s a k l may = agrees_lend m s a k (whole l) (way_of (m.opened l)) (hand_lends m k l may)

pub agrees_close : (m : Copies) (s : Cells) → Agrees m s → (k : Key) → MayClose m k → Agrees (copying.close m k) (lending.close s k)
agrees_close m s a k may = record {
  rank = a.rank;
  follows = subst (λ m'. Follows a.rank m' (lending.close s k)) (sym (ap (close_copy m k) may.opened))
      (close_follows a.rank m s a.follows k may.origin may.opened may.shut);
}

pub agrees_first : Agrees no_copies no_cells
agrees_first = record { rank = λ _. zero; follows = begins }

-- what was opened from what was opened from a local was opened from that
from_on : (m : Copies) (n : ℕ) (k c u : Key) (o : Origin) → IsFrom m n k c → m.opened c ≡ Some o → o.base ≡ u → IsFrom m (suc n) k u
from_on m zero k c u o e h b = (o, ap m.opened e ∙ h, b)
from_on m (suc n) k c u o (q, f, r) h b = (q, f, from_on m n q.base c u o r h b)

reach_from : (m : Copies) (n : ℕ) (u k : Key) (p : Path) → Reach m n u k p → IsFrom m n k u
reach_from m zero u k p r = sym r.0
reach_from m (suc n) u k p r = from_on m n k r.child u r.origin (reach_from m n r.child k r.rest r.more) r.opened r.base

module _ (rank : Key → ℕ) (m : Copies) (s : Cells) (F : Follows rank m s) where
  -- two ways down from one local part, or one ends on the other
  parts : (n i : ℕ) (u k l : Key) (q t : Path) → IsWritable m k → Reach m n u k q → Reach m i u l t → (Descends m k l ⊎ Descends m l k) ⊎ Diverge q t
  parts zero i u k l q t w a b = inl (inr (i, subst (λ u. IsFrom m i l u) a.0 (reach_from m i u l t b)))
  parts (suc n) zero u k l q t w a b = inl (inl (suc n, subst (λ u. IsFrom m (suc n) k u) b.0 (reach_from m (suc n) u k q a)))
  parts (suc n) (suc i) u k l q t w a b = go (key_dec a.child b.child) (λ c. parts n i a.child k l a.rest b.rest w a.more c)
    where
      go : (a.child ≡ b.child) ⊎ (a.child ≢ b.child) → (Reach m i a.child l b.rest → (Descends m k l ⊎ Descends m l k) ⊎ Diverge a.rest b.rest)
          → (Descends m k l ⊎ Descends m l k) ⊎ Diverge q t
      go (inl e) up =
          let o : a.origin ≡ b.origin = same_origin m a.child b.child a.origin b.origin e a.opened b.opened in
          ⊎_elim inl (λ d. inr (rw (a.path, b.path, ← o) (diverge_front a.origin.path a.rest b.rest d)))
          (up (subst (λ c. Reach m i c l b.rest) (sym e) b.more))
      go (inr n') up =
          let v = writable_up rank m s F n a.child k a.rest a.more w in
          inr (rw (a.path, b.path) (diverge_back a.origin.path b.origin.path a.rest b.rest
          (F.apart a.child b.child a.origin b.origin a.opened b.opened n' (a.base ∙ sym b.base) (v a.origin a.opened))))

  pub agree_of : Sound m → Agree m s
  agree_of sound = record {
    own = F.own;
    refers = λ k o h. (F.lent k o h).refers;
    there = F.there;
    same = F.same;
    way = λ k o h w. (F.lent k o h).way w;
    siblings = λ k l o q h i n b w. sound.apart k l o q h i n b w;
    apart = λ k l o h w e.
        let a = root rank m s F k in
        let b = root rank m s F l in
        parts a.0 b.0 (target s k).key k l (target s k).path (target s l).path (λ q i. let z : o ≡ q = same_origin m k k o q refl h i in
        ap (λ o. o.way) (sym z) ∙ w) a.1
        (subst (λ u. Reach m b.0 u l (target s l).path) (sym e) b.1);
  }
