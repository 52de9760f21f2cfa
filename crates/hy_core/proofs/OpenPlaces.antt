-- In a calm run of the memory that copies, each open place is there, and a place that is open for change lies apart from the others.
use Rattle.std.proofs.Common.{◌≡◌, ◌≢◌, ◌⊎◌, inl, inr, ⊎_elim, ℕ, [], ◌∷◌, ◌++◌, Some, None, refl, sym, ap, ◌∙◌, subst, append-nil}
use Rattle.std.proofs.lemmas.Bool.Decides.{eqb_tells}
use Rattle.hy_core.specs.Values.{Val, Unset, Selector, PartAt, ElementAt, Path, get, put, Apart, IsThere, shape, Has, part}
use Rattle.hy_core.specs.Memory.{Key, Spot, whole, Way, Reads, Writes, way_of, Origin, Copies, set_at, put_back, close_copy, lend_copy, copying, no_copies}
use Rattle.hy_core.specs.Runs.{Effect, Store, Change, Clear, Lend, Hand, Close, Quit, apply}
use Rattle.hy_core.specs.Calm.{IsShut, MayWrite, MayOpen, MayClose, May}
use Rattle.hy_core.proofs.Keys.{at_key}
use Rattle.hy_core.proofs.Values.{apart_sym, apart_diverge, get_put_below, there_put_below, there_put_apart}

-- PATHS

-- a change at the end of a path leaves the path there, with what was put there
pub there_put : (p : Path) (w u : Val) → IsThere p u → IsThere p (put p w u)
there_put p w u i = subst (λ q. IsThere p (put q w u)) (append-nil p) (there_put_below p [] w u i)

pub get_put : (p : Path) (w u : Val) → IsThere p u → get p (put p w u) ≡ w
get_put p w u i = subst (λ q. get p (put q w u) ≡ w) (append-nil p) (get_put_below p [] w u i)

nat_dec : (a b : ℕ) → (a ≡ b) ⊎ (a ≢ b)
nat_dec a b = ⊎_elim (λ e. inl e.1) (λ e. inr e.1) (eqb_tells a b)

-- nothing that is there goes through what has no parts, so what lies apart from a path below it lies apart from it
pub apart_unset : (h q r : Path) (i : Selector) (u : Val) → Apart h (q ++ i ∷ r) → IsThere h u → get q u ≡ Unset → Apart h q
apart_unset [] q r i u a t e = absurd a
apart_unset (s ∷ h) [] r i u a t e = let x : Has s (shape Unset) = subst (λ u. Has s (shape u)) e t.0 in absurd x
apart_unset (PartAt k ∷ h) (PartAt j ∷ q) r i u (inl n) t e = inl n
apart_unset (PartAt k ∷ h) (PartAt j ∷ q) r i u (inr a) t e =
    ⊎_elim (λ z. inr (apart_unset h q r i (part (PartAt k) u) a t.1 (ap (λ k. get q (part (PartAt k) u)) z ∙ e))) (λ n. inl n) (nat_dec k j)
apart_unset (PartAt k ∷ h) (ElementAt j ∷ q) r i u a t e = absurd a
apart_unset (ElementAt k ∷ h) (PartAt j ∷ q) r i u a t e = absurd a
apart_unset (ElementAt k ∷ h) (ElementAt j ∷ q) r i u a t e = absurd a

-- WHAT HOLDS OF OPEN PLACES

some_is : (a b : Origin) → Some a ≡ Some b → a ≡ b
some_is a b e = cc

pub record Sound (m : Copies) : Type 0 where
  pub apart : (k l : Key) (o q : Origin) → m.opened k ≡ Some o → m.opened l ≡ Some q → k ≢ l → o.base ≡ q.base → o.way ≡ Writes → Apart o.path q.path
  pub there : (k : Key) (o : Origin) → m.opened k ≡ Some o → IsThere o.path (m.value o.base)

pub nothing_open : Sound no_copies
nothing_open = record { apart = λ k l o q e f n b w. absurd (cc); there = λ k o e. absurd (cc) }

-- all that is open from a local is still there after a change apart from it
there_at : (value : Key → Val) (k : Key) (p : Path) (w : Val) (o : Origin) → IsThere p (value k)
    → (o.base ≡ k → Apart p o.path) → IsThere o.path (value o.base)
    → IsThere o.path (set_at value k (put p w (value k)) o.base)
there_at value k p w o i a t = at_key value k (put p w (value k)) o.base (IsThere o.path)
    (λ e. there_put_apart p o.path w (value k) i (apart_diverge p o.path (a e)) (subst (λ k. IsThere o.path (value k)) e t)) (λ n. t)

pub store_sound : (m : Copies) (s : Spot) (v : Val) → MayWrite m s → Sound m → Sound (copying.store m s v)
store_sound m s v may h = record {
  apart = h.apart;
  there = λ k o e. there_at m.value s.key s.path v o may.there (λ b. apart_sym o.path s.path (may.apart k o e b)) (h.there k o e);
}

lend_sound : (m : Copies) (k : Key) (s : Spot) (w : Way) → m.opened k ≡ None → IsShut m k → k ≢ s.key → IsThere s.path (m.value s.key)
    → ((c : Key) (o : Origin) → m.opened c ≡ Some o → o.base ≡ s.key → (w ≡ Writes) ⊎ (o.way ≡ Writes) → Apart o.path s.path) → Sound m
    → Sound (lend_copy m k s w)
lend_sound m k s w closed shut other there free h = record {
  apart = λ j l o q e f n b x. at_key m.opened k _ j (λ y. y ≡ Some o → Apart o.path q.path)
      (λ ej y. let z = some_is _ o y in at_key m.opened k _ l (λ y. y ≡ Some q → Apart o.path q.path)
      (λ el _. absurd (n (ej ∙ sym el)))
      (λ nl y'. subst (λ p. Apart p q.path) (ap (λ o. o.path) z)
      (apart_sym q.path s.path (free l q y' (sym b ∙ ap (λ o. o.base) (sym z)) (inl (ap (λ o. o.way) z ∙ x))))) f)
      (λ nj y. at_key m.opened k _ l (λ y. y ≡ Some q → Apart o.path q.path)
      (λ el y'. let z = some_is _ q y' in subst (Apart o.path) (ap (λ o. o.path) z) (free j o y (b ∙ ap (λ o. o.base) (sym z)) (inr x)))
      (λ nl y'. h.apart j l o q y y' n b x) f) e;
  there = λ j o e. at_key m.opened k _ j (λ y. y ≡ Some o → IsThere o.path (set_at m.value k (get s.path (m.value s.key)) o.base))
      (λ ej y. subst (λ (o : Origin). IsThere o.path (set_at m.value k (get s.path (m.value s.key)) o.base)) (some_is _ o y)
      (at_key m.value k (get s.path (m.value s.key)) s.key (IsThere s.path) (λ e. absurd (other (sym e))) (λ _. there)))
      (λ nj y. at_key m.value k (get s.path (m.value s.key)) o.base (IsThere o.path) (λ b. absurd (shut j o y b)) (λ _. h.there j o y)) e;
}

close_sound : (m : Copies) (k : Key) → MayClose m k → Sound m → Sound (close_copy m k (m.opened k))
close_sound m k may h = subst (λ x. Sound (close_copy m k x)) (sym may.opened) (record {
  apart = λ j l o q e f n b w. h.apart j l o q (before j o e).1 (before l q f).1 n b w;
  there = λ j o e. at_key (put_back m.value k may.origin may.origin.way) k Unset o.base (IsThere o.path)
      (λ b. absurd (may.shut j o (before j o e).1 b)) (λ _. back may.origin.way refl j o (before j o e).0 (before j o e).1);
})
  where
    before : (j : Key) (o : Origin) → set_at m.opened k None j ≡ Some o → (j ≢ k) × (m.opened j ≡ Some o)
    before j o = at_key m.opened k None j (λ y. y ≡ Some o → (j ≢ k) × (m.opened j ≡ Some o)) (λ e y. absurd (cc)) (λ n y. (n, y))

    back : (w : Way) → may.origin.way ≡ w → (j : Key) (o : Origin) → j ≢ k → m.opened j ≡ Some o → IsThere o.path (put_back m.value k may.origin w o.base)
    back Reads z j o n e = h.there j o e
    back Writes z j o n e =
        there_at m.value may.origin.base may.origin.path (m.value k) o (h.there k may.origin may.opened)
        (λ b. h.apart k j may.origin o may.opened e (λ q. n (sym q)) (sym b) z) (h.there j o e)

pub sound_apply : (o : Effect) (m : Copies) → May o m → Sound m → Sound (apply copying o m)
sound_apply (Store s v) m may h = store_sound m s v may h
sound_apply (Change s v) m may h = store_sound m s v may h
sound_apply (Clear s fate) m may h = store_sound m s Unset may h
sound_apply (Lend k s way) m may h = lend_sound m k s way may.closed may.shut may.other may.there (free way may.free) h
  where
    free : (way : Way) → MayOpen m s way → (c : Key) (o : Origin) → m.opened c ≡ Some o → o.base ≡ s.key → (way ≡ Writes) ⊎ (o.way ≡ Writes)
        → Apart o.path s.path
    free Reads f c o e b (inl x) = absurd (cc)
    free Reads f c o e b (inr x) = f.apart c o e b x
    free Writes f c o e b x = f.apart c o e b
sound_apply (Hand k l) m may h = lend_sound m k (whole l) (way_of (m.opened l)) may.closed may.shut may.other tt (λ c o e b x. absurd (may.free c o e b)) h
sound_apply (Close k) m may h = close_sound m k may h
sound_apply (Quit a n) m may h = h
