-- What becomes of a chain where its links change.
use Rattle.std.proofs.Common.{◌≡◌, ◌≢◌, ◌≤◌, ◌<◌, ◌+◌, ℕ, zero, suc, List, [], ◌∷◌, ◌++◌, length, Option, Some, None, refl, sym, ap, ◌∙◌, arith, inl, inr}
use Rattle.std.proofs.Common.{append_assoc}
use Rattle.std.proofs.lemmas.Bool.{cases_eq}
use Rattle.hy_links.specs.Chains.{head, Chain, chain_from, onto, times, dropped, AreApart, Unlinks, PutsInFront}

pub times-same : (x : ℕ) (rest : List ℕ) → times x (x ∷ rest) ≡ suc (times x rest)
times-same x rest = grind arith

pub times-other : (x i : ℕ) (rest : List ℕ) → i ≢ x → times x (i ∷ rest) ≡ times x rest
times-other x i rest differs = grind arith

pub times-le : (x i : ℕ) (rest : List ℕ) → times x rest ≤ times x (i ∷ rest)
times-le x i rest = grind arith

pub dropped-same : (x : ℕ) (rest : List ℕ) → dropped x (x ∷ rest) ≡ dropped x rest
dropped-same x rest = grind arith

pub dropped-other : (x i : ℕ) (rest : List ℕ) → i ≢ x → dropped x (i ∷ rest) ≡ i ∷ dropped x rest
dropped-other x i rest differs = grind arith

pub times-onto : (x : ℕ) (xs ys : List ℕ) → times x (onto xs ys) ≡ times x xs + times x ys
times-onto x [] ys = omega arith
times-onto x (i ∷ xs) ys = elim (cases_eq i x) [
  | inl same ↦ rw same (omega (arith, times-onto x xs (x ∷ ys), times-same x ys, times-same x xs))
  | inr differs ↦ omega (arith, times-onto x xs (i ∷ ys), times-other x i ys differs, times-other x i xs differs)
]

pub length-onto : (xs ys : List ℕ) → length (onto xs ys) ≡ length xs + length ys
length-onto [] ys = omega arith
length-onto (x ∷ xs) ys = omega (arith, length-onto xs (x ∷ ys))

pub onto-append : (xs ys : List ℕ) → onto xs ys ≡ onto xs [] ++ ys
onto-append [] ys = refl
onto-append (x ∷ xs) ys =
    rw (onto-append xs (x ∷ ys), onto-append xs (x ∷ []), append_assoc) refl

pub dropped-absent : (x : ℕ) (xs : List ℕ) → times x xs ≡ 0 → dropped x xs ≡ xs
dropped-absent x [] none = refl
dropped-absent x (i ∷ xs) none = elim (cases_eq i x) [
  | inl same ↦ absurd (omega (arith, ap (λ y. times y (i ∷ xs)) same, times-same i xs))
  | inr differs ↦ dropped-other x i xs differs ∙ ap (λ ys. i ∷ ys) (dropped-absent x xs (sym (times-other x i xs differs) ∙ none))
]

pub dropped-onto : (x : ℕ) (xs ys : List ℕ) → dropped x (onto xs ys) ≡ onto (dropped x xs) (dropped x ys)
dropped-onto x [] ys = refl
dropped-onto x (i ∷ xs) ys = elim (cases_eq i x) [
  | inl same ↦ rw same (dropped-onto x xs (x ∷ ys) ∙ rw (dropped-same x ys, dropped-same x xs))
  | inr differs ↦ dropped-onto x xs (i ∷ ys) ∙ rw (dropped-other x i ys differs, dropped-other x i xs differs)
]

-- a chain begins at its first member
pub begins : (next back : ℕ → Option ℕ) (from at : Option ℕ) (xs : List ℕ) → Chain next back from at xs → at ≡ head xs
begins next back from at [] chain = chain
begins next back from at (i ∷ xs) chain = chain.0

-- a walk along the links meets the members
pub chain_from-all : (next back : ℕ → Option ℕ) (from at : Option ℕ) (xs : List ℕ) (most : ℕ) → length xs ≤ most → Chain next back from at xs
    → chain_from next most at ≡ xs
chain_from-all next back from at [] zero room chain = refl
chain_from-all next back from at [] (suc most) room chain = rw chain refl
chain_from-all next back from at (i ∷ xs) zero room chain = absurd (omega arith)
chain_from-all next back from at (i ∷ xs) (suc most) room chain =
    rw (chain.0) (ap (λ ys. i ∷ ys) (chain_from-all next back (Some i) (next i) xs most (omega arith) (chain.2)))

-- a chain whose members keep their links stands
pub kept : (next back new_next new_back : ℕ → Option ℕ) (from at : Option ℕ) (xs : List ℕ) → Chain next back from at xs
    → ((i : ℕ) → 0 < times i xs → new_next i ≡ next i) → ((i : ℕ) → 0 < times i xs → new_back i ≡ back i) → Chain new_next new_back from at xs
kept next back new_next new_back from at [] chain same_next same_back = chain
kept next back new_next new_back from at (i ∷ xs) chain same_next same_back =
    let here : 0 < times i (i ∷ xs) = omega (arith, times-same i xs) in
    let further : (j : ℕ) → 0 < times j xs → 0 < times j (i ∷ xs) = λ j there. omega (arith, times-le j i xs, there) in (
      chain.0,
      same_back i here ∙ chain.1,
      rw (same_next i here) (kept next back new_next new_back (Some i) (next i) xs chain.2 (λ j there. same_next j (further j there))
          (λ j there. same_back j (further j there))),
    )

-- the first of a list is on it
pub head-times : (i : ℕ) (xs : List ℕ) → head xs ≡ Some i → 0 < times i xs
head-times i [] is = absurd (cc)
head-times i (j ∷ xs) is =
    let same : j ≡ i = cc in
    rw same (omega (arith, times-same i xs))

-- where only the first member's way back changes, the chain stands with it
pub relinked : (next back new_next new_back : ℕ → Option ℕ) (from new_from at : Option ℕ) (xs : List ℕ) → Chain next back from at xs → AreApart xs
    → ((i : ℕ) → 0 < times i xs → new_next i ≡ next i) → ((i : ℕ) → 0 < times i xs → head xs ≢ Some i → new_back i ≡ back i)
    → ((i : ℕ) → head xs ≡ Some i → new_back i ≡ new_from) → Chain new_next new_back new_from at xs
relinked next back new_next new_back from new_from at [] chain apart same_next same_back first = chain
relinked next back new_next new_back from new_from at (i ∷ xs) chain apart same_next same_back first =
    let here : 0 < times i (i ∷ xs) = omega (arith, times-same i xs) in
    let further : (j : ℕ) → 0 < times j xs → 0 < times j (i ∷ xs) = λ j there. omega (arith, times-le j i xs, there) in
    let other : (j : ℕ) → 0 < times j xs → Some i ≢ Some j =
    λ j there same. let e : i ≡ j = cc in omega (arith, apart j, ap (λ k. times j (k ∷ xs)) e, times-same j xs, there) in (
      chain.0,
      first i refl,
      rw (same_next i here) (kept next back new_next new_back (Some i) (next i) xs chain.2 (λ j there. same_next j (further j there))
          (λ j there. same_back j (further j there) (other j there))),
    )

-- a list in two parts at a place: from there back to the front, and from there on to the end
pub record Parted (next back : ℕ → Option ℕ) (near far : List ℕ) : Type 0 where
  pub nearer : Chain back next (head far) (head near) near
  pub further : Chain next back (head near) (head far) far

module _ (next back : ℕ → Option ℕ) where
  pub forward : (near far : List ℕ) (x : ℕ) → Parted next back near (x ∷ far) → Parted next back (x ∷ near) far
  forward near far x parts =
      let behind = begins next back (Some x) (next x) far parts.further.2 in
      record {
        nearer = (refl, behind, rw parts.further.1 parts.nearer);
        further = rw (behind) at parts.further.2;
      }

  pub backward : (near far : List ℕ) (x : ℕ) → Parted next back (x ∷ near) far → Parted next back near (x ∷ far)
  backward near far x parts =
      let ahead = begins back next (Some x) (back x) near parts.nearer.2 in
      record {
        nearer = rw ahead at parts.nearer.2;
        further = (refl, ahead, rw parts.nearer.1 parts.further);
      }

  pub whole : (near far : List ℕ) → Parted next back near far → Parted next back [] (onto near far)
  whole [] far parts = parts
  whole (x ∷ near) far parts = whole near (x ∷ far) (backward near far x parts)

  pub part : (near far : List ℕ) → Parted next back [] (onto near far) → Parted next back near far
  part [] far parts = parts
  part (x ∷ near) far parts = forward near far x (part near (x ∷ far) parts)

-- where a member stands on a list
pub record Stands (x : ℕ) (xs : List ℕ) : Type 0 where
  pub near : List ℕ
  pub far : List ℕ
  pub is : onto near (x ∷ far) ≡ xs

pub stands : (x : ℕ) (xs passed : List ℕ) → 0 < times x xs → Stands x (onto passed xs)
stands x [] passed there = absurd (omega arith)
stands x (i ∷ xs) passed there = elim (cases_eq i x) [
  | inl same ↦ record { near = passed; far = xs; is = ap (λ j. onto passed (j ∷ xs)) (sym same) }
  | inr differs ↦ stands x xs (i ∷ passed) (omega (arith, times-other x i xs differs))
]

pub times-dropped_same : (x : ℕ) (xs : List ℕ) → times x (dropped x xs) ≡ 0
times-dropped_same x [] = refl
times-dropped_same x (i ∷ xs) = elim (cases_eq i x) [
  | inl same ↦ rw same (rw (dropped-same x xs) (times-dropped_same x xs))
  | inr differs ↦ rw (dropped-other x i xs differs) (times-other x i (dropped x xs) differs ∙ times-dropped_same x xs)
]

pub times-dropped_other : (x y : ℕ) (xs : List ℕ) → y ≢ x → times y (dropped x xs) ≡ times y xs
times-dropped_other x y [] differs = refl
times-dropped_other x y (i ∷ xs) differs = elim (cases_eq i x) [
  | inl same ↦ rw same (rw (dropped-same x xs) (times-dropped_other x y xs differs ∙ sym (times-other y x xs (λ e. differs (sym e)))))
  | inr other ↦ rw (dropped-other x i xs other) (elim (cases_eq i y) [
    | inl here ↦ rw here (times-same y (dropped x xs) ∙ ap suc (times-dropped_other x y xs differs) ∙ sym (times-same y xs))
    | inr there ↦ times-other y i (dropped x xs) there ∙ times-dropped_other x y xs differs ∙ sym (times-other y i xs there)
  ])
]

pub apart-dropped : (x : ℕ) (xs : List ℕ) → AreApart xs → AreApart (dropped x xs)
apart-dropped x xs apart y = elim (cases_eq y x) [
  | inl same ↦ omega (arith, times-dropped_same x xs, ap (λ k. times k (dropped x xs)) same)
  | inr differs ↦ omega (arith, times-dropped_other x y xs differs, apart y)
]

pub apart-front : (x : ℕ) (xs : List ℕ) → AreApart xs → times x xs ≡ 0 → AreApart (x ∷ xs)
apart-front x xs apart none y = elim (cases_eq x y) [
  | inl same ↦ omega (arith, ap (λ k. times k xs) same, ap (λ k. times k (x ∷ xs)) same, times-same x xs, none)
  | inr differs ↦ omega (arith, times-other y x xs differs, apart y)
]

-- the list in place at its front, where x is put there
pub put_in_front : (next back new_next new_back : ℕ → Option ℕ) (at : Option ℕ) (x : ℕ) (xs : List ℕ) → Chain next back None at xs → AreApart xs
    → times x xs ≡ 0 → PutsInFront next back new_next new_back at x → Chain new_next new_back None (Some x) (x ∷ xs)
put_in_front next back new_next new_back at x xs chain apart none puts =
    let begin = begins next back None at xs chain in
    let other : (i : ℕ) → 0 < times i xs → i ≢ x = λ i there same. omega (arith, there, none, ap (λ k. times k xs) same) in (
      refl,
      puts.back_new,
      rw puts.next_new (relinked next back new_next new_back None (Some x) at xs chain apart
          (λ i there. puts.next_kept i (other i there))
          (λ i there behind. puts.back_kept i (other i there) (λ is. behind (sym begin ∙ is)))
          (λ i is. puts.back_joined i (other i (head-times i xs is)) (begin ∙ is))),
    )

-- the part of a list on one side of a member that is taken out
pub beside : (next back new_next new_back : ℕ → Option ℕ) (other : Option ℕ) (x : ℕ) (xs : List ℕ) → Chain next back (Some x) (head xs) xs → AreApart xs
    → ((i : ℕ) → 0 < times i xs → i ≢ x) → ((i : ℕ) → 0 < times i xs → other ≢ Some i) → next x ≡ head xs → back x ≡ other
    → Unlinks next back new_next new_back x → Chain new_next new_back other (head xs) xs
beside next back new_next new_back other x xs chain apart differs elsewhere is_next is_back unlinks =
    relinked next back new_next new_back (Some x) other (head xs) xs chain apart
    (λ i there. unlinks.next_kept i (differs i there) (λ is. elsewhere i there (sym is_back ∙ is)))
    (λ i there behind. unlinks.back_kept i (differs i there) (λ is. behind (sym is_next ∙ is)))
    (λ i is. unlinks.back_joined i (is_next ∙ is) ∙ is_back)

pub turned : (next back new_next new_back : ℕ → Option ℕ) (x : ℕ) → Unlinks next back new_next new_back x → Unlinks back next new_back new_next x
turned next back new_next new_back x unlinks = record {
  next_joined = unlinks.back_joined;
  next_kept = unlinks.back_kept;
  back_joined = unlinks.next_joined;
  back_kept = unlinks.next_kept;
}

pub head-onto : (i : ℕ) (near far other : List ℕ) → head (onto near (i ∷ far)) ≡ head (onto near (i ∷ other))
head-onto i [] far other = refl
head-onto i (j ∷ near) far other = head-onto j near (i ∷ far) (i ∷ other)

head-onto_none : (near far : List ℕ) → head near ≡ None → head (onto near far) ≡ head far
head-onto_none [] far none = refl
head-onto_none (i ∷ near) far none = absurd (cc)

head-onto_some : (x : ℕ) (near far : List ℕ) → head near ≢ None → head (onto near far) ≡ head (onto near (x ∷ far))
head-onto_some x [] far some = absurd (some refl)
head-onto_some x (i ∷ near) far some = head-onto i near far (x ∷ far)

-- what is left of a chain where x is taken out
pub record Left (next back new_next new_back : ℕ → Option ℕ) (at : Option ℕ) (x : ℕ) (xs : List ℕ) : Type 0 where
  pub chain : Chain new_next new_back None (head (dropped x xs)) (dropped x xs)
  pub first_left : back x ≡ None → head (dropped x xs) ≡ next x
  pub first_stays : back x ≢ None → head (dropped x xs) ≡ at
  pub one_less : length xs ≡ length (dropped x xs) + 1

left_parts : (next back new_next new_back : ℕ → Option ℕ) (at : Option ℕ) (x : ℕ) (near far : List ℕ) → at ≡ head (onto near (x ∷ far))
    → Parted next back near (x ∷ far) → AreApart (onto near (x ∷ far)) → Unlinks next back new_next new_back x
    → Left next back new_next new_back at x (onto near (x ∷ far))
left_parts next back new_next new_back at x near far begin parts apart unlinks =
    let is_next = begins next back (Some x) (next x) far parts.further.2 in
    let is_back = parts.further.1 in
    let count = λ (i : ℕ). times-onto i near (x ∷ far) in
    let no_near : times x near ≡ 0 = omega (arith, apart x, count x, times-same x far) in
    let no_far : times x far ≡ 0 = omega (arith, apart x, count x, times-same x far) in
    let left : dropped x (onto near (x ∷ far)) ≡ onto near far =
    dropped-onto x near (x ∷ far) ∙ rw (dropped-same x far, dropped-absent x near no_near, dropped-absent x far no_far) in
    let apart_near : AreApart near = λ i. omega (arith, apart i, count i) in
    let apart_far : AreApart far = λ i. omega (arith, apart i, count i, times-le i x far) in
    let near_side = beside back next new_back new_next (head far) x near parts.nearer apart_near
    (λ i there same. omega (arith, there, no_near, ap (λ k. times k near) same))
    (λ i there is. omega (arith, there, apart i, count i, times-le i x far, head-times i far is))
    is_back is_next (turned next back new_next new_back x unlinks) in
    let far_side = beside next back new_next new_back (head near) x far (rw is_next at parts.further.2) apart_far
    (λ i there same. omega (arith, there, no_far, ap (λ k. times k far) same))
    (λ i there is. omega (arith, there, apart i, count i, times-le i x far, head-times i near is))
    is_next is_back unlinks in
    let together = whole new_next new_back near far (record { nearer = near_side; further = far_side }) in
    record {
      chain = rw left together.further;
      first_left = λ none. ap head left ∙ head-onto_none near far (sym is_back ∙ none) ∙ sym is_next;
      first_stays = λ some. ap head left ∙ head-onto_some x near far (λ none. some (is_back ∙ none)) ∙ sym begin;
      one_less = rw left (omega (arith, length-onto near (x ∷ far), length-onto near far));
    }

pub taken_out : (next back new_next new_back : ℕ → Option ℕ) (at : Option ℕ) (x : ℕ) (xs : List ℕ) → Chain next back None at xs → AreApart xs
    → 0 < times x xs → Unlinks next back new_next new_back x → Left next back new_next new_back at x xs
taken_out next back new_next new_back at x xs chain apart there unlinks =
    let place = stands x xs [] there in
    let begin = begins next back None at xs chain in
    let all : Parted next back [] xs = record { nearer = refl; further = rw begin at chain } in
    let parts = part next back place.near (x ∷ place.far) (rw (← place.is) at all) in
    rw place.is at (left_parts next back new_next new_back at x place.near place.far (begin ∙ ap head (sym place.is)) parts (rw (← place.is) at apart) unlinks)

-- the neighbours of a member are members, and none is the member itself
pub record Neighbours (next back : ℕ → Option ℕ) (x : ℕ) (xs : List ℕ) : Type 0 where
  pub next_there : (i : ℕ) → next x ≡ Some i → 0 < times i xs
  pub back_there : (i : ℕ) → back x ≡ Some i → 0 < times i xs
  pub next_other : (i : ℕ) → next x ≡ Some i → i ≢ x
  pub back_other : (i : ℕ) → back x ≡ Some i → i ≢ x

neighbours_parts : (next back : ℕ → Option ℕ) (x : ℕ) (near far : List ℕ) → Parted next back near (x ∷ far) → AreApart (onto near (x ∷ far))
    → Neighbours next back x (onto near (x ∷ far))
neighbours_parts next back x near far parts apart =
    let is_next = begins next back (Some x) (next x) far parts.further.2 in
    let is_back = parts.further.1 in
    let count = λ (i : ℕ). times-onto i near (x ∷ far) in
    record {
      next_there = λ i is. omega (arith, count i, times-le i x far, head-times i far (sym is_next ∙ is));
      back_there = λ i is. omega (arith, count i, head-times i near (sym is_back ∙ is));
      next_other = λ i is same. omega (arith, apart x, count x, times-same x far, head-times x far (sym is_next ∙ is ∙ ap (λ k. Some k) same));
      back_other = λ i is same. omega (arith, apart x, count x, times-same x far, head-times x near (sym is_back ∙ is ∙ ap (λ k. Some k) same));
    }

pub neighbours : (next back : ℕ → Option ℕ) (at : Option ℕ) (x : ℕ) (xs : List ℕ) → Chain next back None at xs → AreApart xs → 0 < times x xs
    → Neighbours next back x xs
neighbours next back at x xs chain apart there =
    let place = stands x xs [] there in
    let begin = begins next back None at xs chain in
    let all : Parted next back [] xs = record { nearer = refl; further = rw begin at chain } in
    let parts = part next back place.near (x ∷ place.far) (rw (← place.is) at all) in
    rw place.is at (neighbours_parts next back x place.near place.far parts (rw (← place.is) at apart))
