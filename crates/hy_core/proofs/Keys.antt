-- Functions of keys that are changed at one key.
use Rattle.std.proofs.Common.{◌≡◌, ◌≢◌, ◌⊎◌, inl, inr, ⊎_elim, true, false, cond, refl, sym, ap, subst, arith}
use Rattle.std.proofs.lemmas.Bool.Decides.{eqb_tells}
use Rattle.hy_core.specs.Memory.{Key, key_eq, set_at}

-- what the test of two keys says
data Tells (j k : Key) : Type 0 where
  same : key_eq j k ≡ true → j ≡ k → Tells j k
  other : key_eq j k ≡ false → j ≢ k → Tells j k

key_tells : (j k : Key) → Tells j k
key_tells j k =
    ⊎_elim (λ a. ⊎_elim (λ b. same (grind arith) (two a.1 b.1)) (λ b. other (grind arith) (λ e. b.1 (ap (λ k. k.local) e))) (eqb_tells j.local k.local))
    (λ a. other (grind arith) (λ e. a.1 (ap (λ k. k.act) e))) (eqb_tells j.act k.act)
  where
    two : j.act ≡ k.act → j.local ≡ k.local → j ≡ k
    two a b = λ i. record { act = a i; local = b i }

pub key_dec : (j k : Key) → (j ≡ k) ⊎ (j ≢ k)
key_dec j k = go (key_tells j k)
  where
    go : Tells j k → (j ≡ k) ⊎ (j ≢ k)
    go (same e h) = inl h
    go (other e h) = inr h

pub set_same : {A : Type 0} (f : Key → A) (k : Key) (a : A) → set_at f k a k ≡ a
set_same f k a = go (key_tells k k)
  where
    go : Tells k k → set_at f k a k ≡ a
    go (same e h) = ap (λ b. cond b a (f k)) e
    go (other e h) = absurd (h refl)

pub set_other : {A : Type 0} (f : Key → A) (k : Key) (a : A) (j : Key) → j ≢ k → set_at f k a j ≡ f j
set_other f k a j n = go (key_tells j k)
  where
    go : Tells j k → set_at f k a j ≡ f j
    go (same e h) = absurd (n h)
    go (other e h) = ap (λ b. cond b a (f j)) e

-- by cases on the key
pub at_key : {A : Type 0} (f : Key → A) (k : Key) (a : A) (j : Key) (P : A → Type 0) → (j ≡ k → P a) → (j ≢ k → P (f j)) → P (set_at f k a j)
at_key f k a j P here there = go (key_tells j k)
  where
    go : Tells j k → P (set_at f k a j)
    go (same e h) = subst (λ b. P (cond b a (f j))) (sym e) (here h)
    go (other e h) = subst (λ b. P (cond b a (f j))) (sym e) (there h)
