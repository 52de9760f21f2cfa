-- Rows of cells, by place.
use Rattle.std.proofs.Common.{◌≡◌, ◌<◌, ◌≤◌, ◌+◌, ◌-◌, ℕ, zero, suc, true, false, ◌⊎◌, inl, inr, List, [], ◌∷◌, ◌++◌, length, take, drop, replicate, Some}
use Rattle.std.proofs.Common.{None, slice_get, refl, sym, ap, ◌∙◌, arith, rules}
use Rattle.std.proofs.lemmas.List.{places}
use Rattle.std.proofs.lemmas.Bool.Decides.{nat_tests}
use Rattle.hy_object.specs.States.{nth, within}

module _ {A : Type 0} where
  pub nth_in : (xs : List A) (i : ℕ) (x : A) → nth xs i ≡ Some x → i < length xs
  nth_in [] i x h = absurd (cc)
  nth_in (y ∷ xs) zero x h = omega arith
  nth_in (y ∷ xs) (suc i) x h = let so = nth_in xs i x h in omega arith

  pub nth_there : (xs : List A) (i : ℕ) → i < length xs → (x : A) × (nth xs i ≡ Some x)
  nth_there [] i h = absurd (omega arith)
  nth_there (y ∷ xs) zero h = (y, refl)
  nth_there (y ∷ xs) (suc i) h = nth_there xs i (omega arith)

  pub nth_get : (xs : List A) (i : ℕ) → slice_get xs i ≡ nth xs i
  nth_get [] i = refl
  nth_get (y ∷ xs) zero = refl
  nth_get (y ∷ xs) (suc i) = nth_get xs i

  pub nth_none : (xs : List A) (i : ℕ) → length xs ≤ i → nth xs i ≡ None
  nth_none [] i h = refl
  nth_none (y ∷ xs) zero h = absurd (omega arith)
  nth_none (y ∷ xs) (suc i) h = nth_none xs i (omega arith)

  pub nth_front : (xs ys : List A) (i : ℕ) → i < length xs → nth (xs ++ ys) i ≡ nth xs i
  nth_front [] ys i h = absurd (omega arith)
  nth_front (x ∷ xs) ys zero h = refl
  nth_front (x ∷ xs) ys (suc i) h = nth_front xs ys i (omega arith)

  pub nth_behind : (xs ys : List A) (i j : ℕ) → i ≡ length xs + j → nth (xs ++ ys) i ≡ nth ys j
  nth_behind [] ys i j h = let e : i ≡ j = omega arith in ap (nth ys) e
  nth_behind (x ∷ xs) ys zero j h = absurd (omega arith)
  nth_behind (x ∷ xs) ys (suc i) j h = nth_behind xs ys i j (omega arith)

  pub nth_drop : (n : ℕ) (xs : List A) (i j : ℕ) → j ≡ n + i → nth (drop n xs) i ≡ nth xs j
  nth_drop zero xs i j h = let e : i ≡ j = omega arith in ap (nth xs) e
  nth_drop (suc n) [] i j h = refl
  nth_drop (suc n) (x ∷ xs) i zero h = absurd (omega arith)
  nth_drop (suc n) (x ∷ xs) i (suc j) h = nth_drop n xs i j (omega arith)

  pub nth_take : (n : ℕ) (xs : List A) (i : ℕ) (x : A) → nth (take n xs) i ≡ Some x → (i < n) × (nth xs i ≡ Some x)
  nth_take zero xs i x h = absurd (cc)
  nth_take (suc n) [] i x h = absurd (cc)
  nth_take (suc n) (y ∷ xs) zero x h = (omega arith, h)
  nth_take (suc n) (y ∷ xs) (suc i) x h = let so = nth_take n xs i x h in (omega (arith, so.0), so.1)

  pub nth_replicate : (n : ℕ) (a : A) (i : ℕ) (x : A) → nth (replicate n a) i ≡ Some x → (i < n) × (a ≡ x)
  nth_replicate zero a i x h = absurd (cc)
  nth_replicate (suc n) a zero x h = (omega arith, cc)
  nth_replicate (suc n) a (suc i) x h = let so = nth_replicate n a i x h in (omega (arith, so.0), so.1)

  nth_parts : (xs ys : List A) (i : ℕ) (x : A) → nth (xs ++ ys) i ≡ Some x → ((i < length xs) × (nth xs i ≡ Some x))
      ⊎ ((length xs ≤ i) × (nth ys (i - length xs) ≡ Some x))
  nth_parts xs ys i x h =
      elim (below_or i (length xs)) [
        | inl less ↦ inl (less, sym (nth_front xs ys i less) ∙ h)
        | inr le ↦ inr (le, sym (nth_behind xs ys i (i - length xs) (omega arith)) ∙ h)
      ]
    where
      below_or : (a b : ℕ) → (a < b) ⊎ (b ≤ a)
      below_or a b = grind arith

  -- a place of a row, of which a part is stored over
  pub nth_stored : (xs new : List A) (from i : ℕ) (x : A) → from + length new ≤ length xs
      → nth (take from xs ++ (new ++ drop (from + length new) xs)) i ≡ Some x →
      ((within from (length new) i ≡ true) × (nth new (i - from) ≡ Some x)) ⊎ ((within from (length new) i ≡ false) × (nth xs i ≡ Some x))
  nth_stored xs new from i x fits h =
      let front : length (take from xs) ≡ from = search (rules, places) in
      elim (nth_parts (take from xs) (new ++ drop (from + length new) xs) i x h) [
        | inl p ↦ let q = nth_take from xs i x p.1 in inr (outside from (length new) i (inl q.0), q.1)
        | inr p ↦
            let e : i - length (take from xs) ≡ i - from = ap (λ n. i - n) front in
            let le : from ≤ i = omega (arith, p.0, front) in
            elim (nth_parts new (drop (from + length new) xs) (i - from) x (sym (ap (nth (new ++ drop (from + length new) xs)) e) ∙ p.1)) [
              | inl q ↦ inl (inside from (length new) i le (omega (arith, q.0)), q.1)
              | inr q ↦ inr (
                outside from (length new) i (inr (omega (arith, q.0, le))),
                sym (nth_drop (from + length new) xs (i - from - length new) i (omega (arith, q.0, le))) ∙ q.1,
              )
            ]
      ]
    where
      outside : (from n i : ℕ) → (i < from) ⊎ (from + n ≤ i) → within from n i ≡ false
      outside from n i (inl h) = grind (arith, nat_tests)
      outside from n i (inr h) = grind (arith, nat_tests)

      inside : (from n i : ℕ) → from ≤ i → i < from + n → within from n i ≡ true
      inside from n i a b = grind (arith, nat_tests)

  pub nth_window : (xs : List A) (from n i : ℕ) (x : A) → nth (take n (drop from xs)) i ≡ Some x → (i < n) × (nth xs (from + i) ≡ Some x)
  nth_window xs from n i x h = let p = nth_take n (drop from xs) i x h in (p.0, sym (nth_drop from xs i (from + i) refl) ∙ p.1)

  pub length_window : (xs : List A) (from n : ℕ) → from + n ≤ length xs → length (take n (drop from xs)) ≡ n
  length_window xs from n h = search (rules, places)

  pub length_stored : (xs new : List A) (from : ℕ) → from + length new ≤ length xs → length (take from xs ++ (new ++ drop (from + length new) xs)) ≡ length xs
  length_stored xs new from h = search (rules, places)

  -- one more at the end of a row of which each is known
  pub pushed_get : (xs ys : List A) (x : A) (each : ℕ → A) (n : ℕ) → ys ≡ xs ++ x ∷ [] → length xs ≡ n → ((i : ℕ) → i < n → slice_get xs i ≡ Some (each i))
      → x ≡ each n → (i : ℕ) → i < n + 1 → slice_get ys i ≡ Some (each i)
  pushed_get xs ys x each n is size known e i below =
      ap (λ zs. slice_get zs i) is ∙ nth_get (xs ++ x ∷ []) i ∙ elim (last_or i n below) [
        | inl less ↦ nth_front xs (x ∷ []) i (omega (arith, less, size)) ∙ sym (nth_get xs i) ∙ known i less
        | inr same ↦ nth_behind xs (x ∷ []) i 0 (omega (arith, same, size)) ∙ ap (λ v. Some v) (e ∙ ap each (sym same))
      ]
    where
      last_or : (i n : ℕ) → i < n + 1 → (i < n) ⊎ (i ≡ n)
      last_or i n h = grind arith
