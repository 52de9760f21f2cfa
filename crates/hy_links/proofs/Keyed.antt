-- Records found at places, where the number of a record is its place.
use Rattle.std.proofs.Common.{◌≡◌, ◌≢◌, ◌<◌, ◌==◌, ℕ, if◌then◌else◌, List, [], ◌∷◌, ◌++◌, Option, Some, None, refl, sym, ap, ◌∙◌, arith, inl, inr}
use Rattle.std.proofs.lemmas.Bool.{cases_eq}
use Rattle.hy_links.specs.Chains.{onto, times, dropped}
use Rattle.hy_links.specs.Keyed.{numbered, without, changed, in_front, gathered}
use Rattle.hy_links.proofs.Chains.{times-same, times-other, times-le, dropped-same, dropped-other, onto-append}

module _ {X : Type 0} where
  pub gathered-append : (found : ℕ → Option X) (xs ys : List ℕ) → gathered found (xs ++ ys) ≡ gathered found xs ++ gathered found ys
  gathered-append found [] ys = refl
  gathered-append found (i ∷ xs) ys = rw (gathered-append found xs ys) (push (found i))
    where
      push : (one : Option X) → in_front one (gathered found xs ++ gathered found ys) ≡ in_front one (gathered found xs) ++ gathered found ys
      push None = refl
      push (Some x) = refl

  pub gathered-same : (found now : ℕ → Option X) (xs : List ℕ) → ((i : ℕ) → 0 < times i xs → now i ≡ found i) → gathered now xs ≡ gathered found xs
  gathered-same found now [] same = refl
  gathered-same found now (i ∷ xs) same =
      rw (same i (omega (arith, times-same i xs)), gathered-same found now xs (λ j there. same j (omega (arith, times-le j i xs, there)))) refl

  -- one more at the end
  pub gathered-front : (found : ℕ → Option X) (x : ℕ) (xs : List ℕ) → gathered found (onto (x ∷ xs) []) ≡ gathered found (onto xs []) ++ in_front (found x) []
  gathered-front found x xs = rw (onto-append xs (x ∷ [])) (gathered-append found (onto xs []) (x ∷ []))

module _ {X : Type 0} (number : X → ℕ) where
  -- each record that is found has its place as its number
  pub record AreInPlace (found : ℕ → Option X) : Type 0 where
    pub in_place : (i : ℕ) (x : X) → found i ≡ Some x → number x ≡ i

  if_number_same : {Y : Type 0} (x : X) (n : ℕ) (a b : Y) → number x ≡ n → (if number x == n then a else b) ≡ a
  if_number_same x n a b same = grind arith

  if_number_other : {Y : Type 0} (x : X) (n : ℕ) (a b : Y) → number x ≢ n → (if number x == n then a else b) ≡ b
  if_number_other x n a b differs = grind arith

  numbered-passed : (one : Option X) (i n : ℕ) (rest : List X) → ((x : X) → one ≡ Some x → number x ≡ i) → i ≢ n
      → numbered number n (in_front one rest) ≡ numbered number n rest
  numbered-passed None i n rest is differs = refl
  numbered-passed (Some x) i n rest is differs = if_number_other x n (Some x) (numbered number n rest) (λ same. differs (sym (is x refl) ∙ same))

  changed-passed : (one : Option X) (i n : ℕ) (change : X → X) (rest : List X) → ((x : X) → one ≡ Some x → number x ≡ i) → i ≢ n
      → changed number n change (in_front one rest) ≡ in_front one (changed number n change rest)
  changed-passed None i n change rest is differs = refl
  changed-passed (Some x) i n change rest is differs =
      ap (λ y. y ∷ changed number n change rest) (if_number_other x n (change x) x (λ same. differs (sym (is x refl) ∙ same)))

  changed-here : (one now : Option X) (n : ℕ) (change : X → X) (rest : List X) → ((x : X) → one ≡ Some x → number x ≡ n)
      → ((x : X) → one ≡ Some x → now ≡ Some (change x)) → (one ≡ None → now ≡ None)
      → in_front now (changed number n change rest) ≡ changed number n change (in_front one rest)
  changed-here None now n change rest is here none = rw (none refl) refl
  changed-here (Some x) now n change rest is here none =
      rw (here x refl) (ap (λ y. y ∷ changed number n change rest) (sym (if_number_same x n (change x) x (is x refl))))

  without-passed : (one : Option X) (i n : ℕ) (rest : List X) → ((x : X) → one ≡ Some x → number x ≡ i) → i ≢ n
      → without number n (in_front one rest) ≡ in_front one (without number n rest)
  without-passed None i n rest is differs = refl
  without-passed (Some x) i n rest is differs =
      if_number_other x n (without number n rest) (x ∷ without number n rest) (λ same. differs (sym (is x refl) ∙ same))

  without-here : (one : Option X) (n : ℕ) (rest : List X) → ((x : X) → one ≡ Some x → number x ≡ n)
      → without number n (in_front one rest) ≡ without number n rest
  without-here None n rest is = refl
  without-here (Some x) n rest is = if_number_same x n (without number n rest) (x ∷ without number n rest) (is x refl)

  -- a number at which nothing is found, or that is not among the places, is not in the list
  pub numbered-nothing : (found : ℕ → Option X) → AreInPlace found → (n : ℕ) → found n ≡ None → (xs : List ℕ) → numbered number n (gathered found xs) ≡ None
  numbered-nothing found places n nothing [] = refl
  numbered-nothing found places n nothing (i ∷ xs) = elim (cases_eq i n) [
    | inl same ↦ rw same (rw nothing (numbered-nothing found places n nothing xs))
    | inr differs ↦ numbered-passed (found i) i n (gathered found xs) (places.in_place i) differs ∙ numbered-nothing found places n nothing xs
  ]

  pub numbered-absent : (found : ℕ → Option X) → AreInPlace found → (n : ℕ) (xs : List ℕ) → times n xs ≡ 0 → numbered number n (gathered found xs) ≡ None
  numbered-absent found places n [] none = refl
  numbered-absent found places n (i ∷ xs) none = elim (cases_eq i n) [
    | inl same ↦ absurd (omega (arith, ap (λ k. times k (i ∷ xs)) same, times-same i xs, none))
    | inr differs ↦
        numbered-passed (found i) i n (gathered found xs) (places.in_place i) differs
        ∙ numbered-absent found places n xs (sym (times-other n i xs differs) ∙ none)
  ]

  -- what is found at a place is what has its number in the list
  pub numbered-gathered : (found : ℕ → Option X) → AreInPlace found → (n : ℕ) (xs : List ℕ) → 0 < times n xs → numbered number n (gathered found xs) ≡ found n
  numbered-gathered found places n [] there = absurd (omega arith)
  numbered-gathered found places n (i ∷ xs) there = elim (cases_eq i n) [
    | inl same ↦ rw same (here (found n) refl)
    | inr differs ↦
        numbered-passed (found i) i n (gathered found xs) (places.in_place i) differs
        ∙ numbered-gathered found places n xs (omega (arith, times-other n i xs differs, there))
  ]
    where
      here : (one : Option X) → found n ≡ one → numbered number n (in_front one (gathered found xs)) ≡ one
      here None is = numbered-nothing found places n is xs
      here (Some x) is = if_number_same x n (Some x) (numbered number n (gathered found xs)) (places.in_place n x is)

  pub gathered-changed : (found now : ℕ → Option X) → AreInPlace found → (n : ℕ) (change : X → X) → ((i : ℕ) → i ≢ n → now i ≡ found i)
      → ((x : X) → found n ≡ Some x → now n ≡ Some (change x)) → (found n ≡ None → now n ≡ None) → (xs : List ℕ)
      → gathered now xs ≡ changed number n change (gathered found xs)
  gathered-changed found now places n change same here none [] = refl
  gathered-changed found now places n change same here none (i ∷ xs) =
      rw (gathered-changed found now places n change same here none xs) (elim (cases_eq i n) [
        | inl is ↦ rw is (changed-here (found n) (now n) n change (gathered found xs) (places.in_place n) here none)
        | inr differs ↦ rw (same i differs) (sym (changed-passed (found i) i n change (gathered found xs) (places.in_place i) differs))
      ])

  pub gathered-dropped : (found now : ℕ → Option X) → AreInPlace found → (n : ℕ) → ((i : ℕ) → i ≢ n → now i ≡ found i) → (xs : List ℕ)
      → gathered now (dropped n xs) ≡ without number n (gathered found xs)
  gathered-dropped found now places n same [] = refl
  gathered-dropped found now places n same (i ∷ xs) = elim (cases_eq i n) [
    | inl is ↦ rw is (rw (dropped-same n xs) (gathered-dropped found now places n same xs
        ∙ sym (without-here (found n) n (gathered found xs) (places.in_place n))))
    | inr differs ↦
        rw (dropped-other n i xs differs) (rw (same i differs, gathered-dropped found now places n same xs)
        (sym (without-passed (found i) i n (gathered found xs) (places.in_place i) differs)))
  ]
