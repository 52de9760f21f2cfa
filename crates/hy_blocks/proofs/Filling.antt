-- The front of a list becomes another list, element by element.
use Rattle.std.proofs.Common.{◌≡◌, ◌<◌, ◌≤◌, ◌+◌, ◌++◌, ℕ, zero, suc, List, [], ◌∷◌, length, take, drop, get_or, slice_set, refl, ap, ◌∙◌, arith}
use Rattle.std.proofs.Common.{length-append, length-take, length-drop}

module _ {A : Type 0} where
  -- the list with the first k elements of the other
  abbrev pub front : List A → List A → ℕ → List A
  front first all k = take k first ++ drop k all

  pub as_long : (first all : List A) (k : ℕ) → k ≤ length first → length first ≤ length all → length (front first all k) ≡ length all
  as_long first all k le within = omega (arith, length-append (take k first) (drop k all), length-take k first, length-drop k all, le, within)

  step : (first all : List A) (k : ℕ) (d : A) → k < length first → length first ≤ length all →
      slice_set (front first all k) k (get_or first k d) ≡ front first all (suc k)
  step [] all k d lt within = absurd (omega (arith, lt))
  step (x ∷ xs) [] k d lt within = absurd (omega (arith, within))
  step (x ∷ xs) (y ∷ ys) zero d lt within = refl
  step (x ∷ xs) (y ∷ ys) (suc k) d lt within = ap (λ l. x ∷ l) (step xs ys k d (omega (arith, lt)) (omega (arith, within)))

  pub one_more : (first all now : List A) (k : ℕ) (c d : A) → now ≡ front first all k → c ≡ get_or first k d → k < length first → length first ≤ length all
      → slice_set now k c ≡ front first all (k + 1)
  one_more first all now k c d is found lt within =
      let next : suc k ≡ k + 1 = omega arith in
      (λ i. slice_set (is i) k (found i)) ∙ step first all k d lt within ∙ ap (front first all) next

  whole : (first all : List A) → front first all (length first) ≡ first ++ drop (length first) all
  whole first all = ap (λ l. l ++ drop (length first) all) (take_whole first)
    where
      take_whole : (xs : List A) → take (length xs) xs ≡ xs
      take_whole [] = refl
      take_whole (x ∷ xs) = ap (λ l. x ∷ l) (take_whole xs)

  pub all_filled : (first all : List A) (k : ℕ) → k ≡ length first → front first all k ≡ first ++ drop (length first) all
  all_filled first all k e = ap (front first all) e ∙ whole first all
