-- The children of an access among the slots.
use Rattle.std.proofs.Common.{◌≡◌, ◌≢◌, ◌<◌, ◌≤◌, ℕ, List, [], ◌∷◌, Option, Some, None, if◌then◌else◌, refl, sym, ap, ◌∙◌, inl, inr, arith}
use Rattle.std.proofs.lemmas.Bool.{cases_eq}
use Rattle.hy_links.specs.Chains.{times, dropped, AreApart}
use Rattle.hy_links.proofs.Chains.{times-same, times-other, times-le, dropped-same, dropped-other, times-dropped_other}
use Rattle.hy_links.proofs.Linked.{cases_some}
use Rattle.hy_access.specs.Forest.{is_some_of, children, Behind}

module _ (parent : ℕ → Option ℕ) (n : ℕ) where
  child_if : (o : Option ℕ) (xs ys : List ℕ) → o ≡ Some n → (if is_some_of o n then xs else ys) ≡ xs
  child_if None xs ys is = absurd (cc)
  child_if (Some m) xs ys is = let same : m ≡ n = cc in rw same (grind arith)

  child_else : (o : Option ℕ) (xs ys : List ℕ) → o ≢ Some n → (if is_some_of o n then xs else ys) ≡ ys
  child_else None xs ys away = refl
  child_else (Some m) xs ys away = elim (cases_eq m n) [
    | inl same ↦ absurd (away (ap (λ k. Some k) same))
    | inr differs ↦ grind arith
  ]

  pub children-child : (i : ℕ) (rest : List ℕ) → parent i ≡ Some n → children parent n (i ∷ rest) ≡ i ∷ children parent n rest
  children-child i rest is = child_if (parent i) (i ∷ children parent n rest) (children parent n rest) is

  pub children-other : (i : ℕ) (rest : List ℕ) → parent i ≢ Some n → children parent n (i ∷ rest) ≡ children parent n rest
  children-other i rest away = child_else (parent i) (i ∷ children parent n rest) (children parent n rest) away

  -- a child is one of the slots, and has this parent
  pub times-children : (i : ℕ) (xs : List ℕ) → times i (children parent n xs) ≤ times i xs
  times-children i [] = omega arith
  times-children i (j ∷ xs) = elim (cases_some (parent j) n) [
    | inl is ↦ rw (children-child j xs is) (elim (cases_eq j i) [
      | inl same ↦ rw same (omega (arith, times-children i xs, times-same i xs, times-same i (children parent n xs)))
      | inr differs ↦ omega (arith, times-children i xs, times-other i j xs differs, times-other i j (children parent n xs) differs)
    ])
    | inr away ↦ rw (children-other j xs away) (omega (arith, times-children i xs, times-le i j xs))
  ]

  pub has_parent : (i : ℕ) (xs : List ℕ) → 0 < times i (children parent n xs) → parent i ≡ Some n
  has_parent i [] there = absurd (omega arith)
  has_parent i (j ∷ xs) there = elim (cases_some (parent j) n) [
    | inl is ↦ elim (cases_eq j i) [
      | inl same ↦ rw same at is
      | inr differs ↦ has_parent i xs (omega (arith, there, ap (times i) (children-child j xs is), times-other i j (children parent n xs) differs))
    ]
    | inr away ↦ has_parent i xs (omega (arith, there, ap (times i) (children-other j xs away)))
  ]

  pub is_child : (i : ℕ) (xs : List ℕ) → 0 < times i xs → parent i ≡ Some n → 0 < times i (children parent n xs)
  is_child i [] there is = absurd (omega arith)
  is_child i (j ∷ xs) there is = elim (cases_eq j i) [
    | inl same ↦ omega (
      arith,
      ap (times i) (children-child j xs (ap parent same ∙ is)),
      ap (λ k. times i (k ∷ children parent n xs)) same,
      times-same i (children parent n xs),
    )
    | inr differs ↦
        let further = is_child i xs (omega (arith, there, times-other i j xs differs)) is in
        elim (cases_some (parent j) n) [
          | inl child ↦ omega (arith, further, ap (times i) (children-child j xs child), times-other i j (children parent n xs) differs)
          | inr away ↦ omega (arith, further, ap (times i) (children-other j xs away))
        ]
  ]

  pub apart-children : (xs : List ℕ) → AreApart xs → AreApart (children parent n xs)
  apart-children xs apart i = omega (arith, apart i, times-children i xs)

  pub no_children : (xs : List ℕ) → ((i : ℕ) → 0 < times i xs → parent i ≢ Some n) → children parent n xs ≡ []
  no_children [] away = refl
  no_children (i ∷ xs) away = children-other i xs (away i (omega (arith, times-same i xs)))
      ∙ no_children xs (λ j there. away j (omega (arith, there, times-le j i xs)))

  pub children-dropped : (x : ℕ) (xs : List ℕ) → children parent n (dropped x xs) ≡ dropped x (children parent n xs)
  children-dropped x [] = refl
  children-dropped x (i ∷ xs) = elim (cases_some (parent i) n) [
    | inl is ↦ elim (cases_eq i x) [
      | inl same ↦ rw (children-child i xs is) (rw same (rw (dropped-same x xs, dropped-same x (children parent n xs)) (children-dropped x xs)))
      | inr differs ↦
          rw (children-child i xs is, dropped-other x i xs differs, dropped-other x i (children parent n xs) differs) (children-child i (dropped x xs) is
          ∙ ap (λ ys. i ∷ ys) (children-dropped x xs))
    ]
    | inr away ↦ elim (cases_eq i x) [
      | inl same ↦ rw (children-other i xs away) (rw same (rw (dropped-same x xs) (children-dropped x xs)))
      | inr differs ↦ rw (children-other i xs away, dropped-other x i xs differs) (children-other i (dropped x xs) away ∙ children-dropped x xs)
    ]
  ]

module _ (parent now : ℕ → Option ℕ) where
  pub children-same : (n : ℕ) (xs : List ℕ) → ((i : ℕ) → 0 < times i xs → now i ≡ parent i) → children now n xs ≡ children parent n xs
  children-same n [] same = refl
  children-same n (i ∷ xs) same =
      rw (same i (omega (arith, times-same i xs)), children-same n xs (λ j there. same j (omega (arith, there, times-le j i xs)))) refl

  pub behind-same : (xs : List ℕ) → ((i : ℕ) → 0 < times i xs → now i ≡ parent i) → Behind parent xs → Behind now xs
  behind-same [] same behind = tt
  behind-same (i ∷ xs) same behind = (
    λ p is. behind.0 p (sym (same i (omega (arith, times-same i xs))) ∙ is),
    behind-same xs (λ j there. same j (omega (arith, there, times-le j i xs))) behind.1,
  )

module _ (parent : ℕ → Option ℕ) where
  -- a parent is among the slots of its child
  pub parent_there : (xs : List ℕ) → Behind parent xs → (i p : ℕ) → 0 < times i xs → parent i ≡ Some p → 0 < times p xs
  parent_there [] behind i p there is = absurd (omega arith)
  parent_there (j ∷ xs) behind i p there is = elim (cases_eq j i) [
    | inl same ↦ omega (arith, behind.0 p (ap parent same ∙ is), times-le p j xs)
    | inr differs ↦ omega (arith, parent_there xs behind.1 i p (omega (arith, there, times-other i j xs differs)) is, times-le p j xs)
  ]

  -- one without children is taken out
  pub behind-dropped : (x : ℕ) (xs : List ℕ) → Behind parent xs → ((i : ℕ) → 0 < times i xs → parent i ≢ Some x) → Behind parent (dropped x xs)
  behind-dropped x [] behind childless = tt
  behind-dropped x (i ∷ xs) behind childless =
      let rest = behind-dropped x xs behind.1 (λ j there. childless j (omega (arith, there, times-le j i xs))) in
      elim (cases_eq i x) [
        | inl same ↦ rw same (rw (dropped-same x xs) rest)
        | inr differs ↦ rw (dropped-other x i xs differs) (
          λ p is.
              let other : p ≢ x = λ same. childless i (omega (arith, times-same i xs)) (is ∙ ap (λ k. Some k) same) in
              omega (arith, behind.0 p is, times-dropped_other x p xs other),
          rest,
        )
      ]
