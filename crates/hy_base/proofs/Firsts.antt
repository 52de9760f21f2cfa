-- The first of the broken rules that a walk has met is the first of all that are there.
use Rattle.std.proofs.Common.{◌≡◌, ◌<◌, ◌⊎◌, inl, inr, ⊎_elim, ℕ, zero, suc, ◌≤◌, length, get_or, List, [], ◌∷◌, Option, Some, None, Bool, true, false}
use Rattle.std.proofs.Common.{◌||◌, ◌&&◌, cond, nat_lt, nat_eq, refl, sym, subst, ◌∙◌, arith, Contains}
use Rattle.hy_base.specs.First.{Refusal, Precedes, IsFirst, precedes, sooner}
use Rattle.hy_base.specs.Rules.{place_of}
use Rattle.hy_base.specs.Walked.{after}

-- THE ORDER, on three numbers each

abbrev Lex : ℕ → ℕ → ℕ → ℕ → ℕ → ℕ → Type 0
Lex a b c x y z = (a < x) ⊎ ((a ≡ x) × ((y < b) ⊎ ((b ≡ y) × (c < z))))

abbrev lex : ℕ → ℕ → ℕ → ℕ → ℕ → ℕ → Bool
lex a b c x y z = nat_lt a x || (nat_eq a x && (nat_lt y b || (nat_eq b y && nat_lt c z)))

lex_misses : (a b c x y z : ℕ) → lex a b c x y z ≡ false → Lex a b c x y z → ⊥
lex_misses a b c x y z h p = grind arith

lex_meets : (a b c x y z : ℕ) → lex a b c x y z ≡ true → Lex a b c x y z
lex_meets a b c x y z h = grind arith

lex_same : (a b c : ℕ) → lex a b c a b c ≡ false
lex_same a b c = grind arith

lex_back : (a b c x y z : ℕ) → lex a b c x y z ≡ true → lex x y z a b c ≡ false
lex_back a b c x y z h = grind arith

-- the three numbers x y z come before or are the same
abbrev Up : ℕ → ℕ → ℕ → ℕ → ℕ → ℕ → Type 0
Up a b c x y z = (x < a) ⊎ ((x ≡ a) × ((b < y) ⊎ ((y ≡ b) × (z ≤ c))))

up : (a b c x y z : ℕ) → lex a b c x y z ≡ false → Up a b c x y z
up a b c x y z h = grind arith

not_up : (a b c x y z : ℕ) → Up a b c x y z → lex a b c x y z ≡ false
not_up a b c x y z h = grind arith

up_along : (a b c x y z u v w : ℕ) → Up a b c x y z → Up x y z u v w → Up a b c u v w
up_along a b c x y z u v w p q = ⊎_elim
    (λ lt. ⊎_elim (λ gt. inl (omega (arith, lt, gt))) (λ eq. inl (omega (arith, lt, eq.0))) q)
    (λ e. ⊎_elim (λ gt. inl (omega (arith, e.0, gt)))
    (λ eq. inr (
      eq.0 ∙ e.0,
      ⊎_elim (λ lt. ⊎_elim (λ gt. inl (omega (arith, lt, gt))) (λ s. inl (omega (arith, lt, s.0))) eq.1)
          (λ s. ⊎_elim (λ gt. inl (omega (arith, gt, s.0))) (λ r. inr (r.0 ∙ s.0, omega (arith, s.1, r.1))) eq.1) e.1,
    )) q) p

lex_along : (a b c x y z u v w : ℕ) → lex a b c x y z ≡ false → lex x y z u v w ≡ false → lex a b c u v w ≡ false
lex_along a b c x y z u v w h k = not_up a b c u v w (up_along a b c x y z u v w (up a b c x y z h) (up x y z u v w k))

precedes_back : (f g : Refusal) → precedes f g ≡ true → precedes g f ≡ false
precedes_back f g h = lex_back f.span.to f.span.from (place_of f.rule) g.span.to g.span.from (place_of g.rule) h

precedes_along : (f g h : Refusal) → precedes f g ≡ false → precedes g h ≡ false → precedes f h ≡ false
precedes_along f g h p q = lex_along f.span.to f.span.from (place_of f.rule) g.span.to g.span.from
    (place_of g.rule) h.span.to h.span.from (place_of h.rule) p q

precedes_not : (f g : Refusal) → precedes f g ≡ false → Precedes f g → ⊥
precedes_not f g h p = lex_misses f.span.to f.span.from (place_of f.rule) g.span.to g.span.from (place_of g.rule) h p

not_precedes : (f g : Refusal) → (Precedes f g → ⊥) → precedes f g ≡ false
not_precedes f g misses = by (precedes f g) refl
  where
    by : (b : Bool) → precedes f g ≡ b → precedes f g ≡ false
    by true e = absurd (misses (lex_meets f.span.to f.span.from (place_of f.rule) g.span.to g.span.from (place_of g.rule) e))
    by false e = e

-- none comes before itself
pub itself : (f : Refusal) → Precedes f f → ⊥
itself f p = precedes_not f f (lex_same f.span.to f.span.from (place_of f.rule)) p

-- THE FIRST

-- of the same rules
pub first_as : (one other : Refusal → Type 0) (o : Option Refusal) → ((f : Refusal) → one f → other f) → ((f : Refusal) → other f → one f) → IsFirst one o
    → IsFirst other o
first_as one other None to back first = λ f h. first f (back f h)
first_as one other (Some g) to back first = (to g first.0, λ f h p. first.1 f (back f h) p)

-- of some, and of one more
pub first_with : (Breaks : Refusal → Type 0) (o : Option Refusal) (f : Refusal) → IsFirst Breaks o → IsFirst (λ g. Breaks g ⊎ (g ≡ f)) (sooner o f)
first_with Breaks None f first = (inr refl, λ g b p. ⊎_elim (λ was. first g was) (λ same. itself f (subst (λ (x : Refusal). Precedes x f) same p)) b)
first_with Breaks (Some x) f first = by (precedes f x) refl
  where
    by : (b : Bool) → precedes f x ≡ b → IsFirst (λ g. Breaks g ⊎ (g ≡ f)) (Some (cond b f x))
    by true e = (
      inr refl,
      λ g b p. ⊎_elim (λ was. precedes_not g f (precedes_along g x f (not_precedes g x (first.1 g was)) (precedes_back f x e)) p)
          (λ same. itself f (subst (λ (y : Refusal). Precedes y f) same p)) b,
    )
    by false e = (inl first.0, λ g b p. ⊎_elim (λ was. first.1 g was p) (λ same. precedes_not f x e (subst (λ (y : Refusal). Precedes y x) same p)) b)

-- LISTS OF WHAT A WALK MEETS

-- one of these breaks it
abbrev Among : {X : Type 0} → (X → Refusal → Type 0) → List X → Refusal → Type 0
Among Breaks [] f = ⊥
Among Breaks (x ∷ xs) f = Breaks x f ⊎ Among Breaks xs f

contained : {X : Type 0} (Breaks : X → Refusal → Type 0) (xs : List X) (f : Refusal) → Among Breaks xs f → (x : X) × Contains xs x × Breaks x f
contained Breaks [] f h = absurd h
contained Breaks (x ∷ xs) f h =
    ⊎_elim (λ here. (x, (0, omega arith, refl), here)) (λ there. let (y, c, is) = contained Breaks xs f there in let l = c.1 in
    (y, (suc c.0, omega (arith, l), c.2), is)) h

among : {X : Type 0} (Breaks : X → Refusal → Type 0) (xs : List X) (f : Refusal) (x : X) → Contains xs x → Breaks x f → Among Breaks xs f
among {X} Breaks xs f x h is = at xs h.0 h.1 h.2
  where
    at : (xs : List X) (k : ℕ) → k < length xs → get_or xs k x ≡ x → Among Breaks xs f
    at [] k l e = absurd (omega (arith, l))
    at (y ∷ xs) zero l e = inl (subst (λ z. Breaks z f) (sym e) is)
    at (y ∷ xs) (suc k) l e = inr (at xs k (omega arith) e)

-- A walk notes each thing that it meets, and what it notes has a first so far.
module _ {X N : Type 0} (note : X → N → N) (first : N → Option Refusal) (Breaks : X → Refusal → Type 0)
    (one : (x : X) (n : N) (Before : Refusal → Type 0) → IsFirst Before (first n) → IsFirst (λ f. Before f ⊎ Breaks x f) (first (note x n))) where
  among_first : (xs : List X) (n : N) (Before : Refusal → Type 0) → IsFirst Before (first n)
      → IsFirst (λ f. Before f ⊎ Among Breaks xs f) (first (after note xs n))
  among_first [] n Before h = first_as Before (λ f. Before f ⊎ ⊥) (first n) (λ f b. inl b) (λ f b. ⊎_elim (λ was. was) (λ none. absurd none) b) h
  among_first (x ∷ xs) n Before h =
      first_as (λ f. (Before f ⊎ Breaks x f) ⊎ Among Breaks xs f) (λ f. Before f ⊎ (Breaks x f ⊎ Among Breaks xs f)) (first (after note xs (note x n)))
      (λ f b. ⊎_elim (λ b. ⊎_elim inl (λ here. inr (inl here)) b) (λ there. inr (inr there)) b)
      (λ f b. ⊎_elim (λ was. inl (inl was)) (λ b. ⊎_elim (λ here. inl (inr here)) inr b) b)
      (among_first xs (note x n) (λ f. Before f ⊎ Breaks x f) (one x n Before h))

  -- what it noted from nothing on is the first of all
  pub first_of_all : (xs : List X) (n : N) → first n ≡ None → IsFirst (λ f. (x : X) × Contains xs x × Breaks x f) (first (after note xs n))
  first_of_all xs n none =
      first_as (λ f. ⊥ ⊎ Among Breaks xs f) (λ f. (x : X) × Contains xs x × Breaks x f) (first (after note xs n))
      (λ f b. ⊎_elim (λ none. absurd none) (contained Breaks xs f) b)
      (λ f h. inr (among Breaks xs f h.0 h.1 h.2))
      (among_first xs n (λ f. ⊥) (subst (IsFirst (λ f. ⊥)) (sym none) (λ f none. none)))

-- THE LIST ITSELF

-- the first of a list of broken rules
pub first_in : (fs : List Refusal) → IsFirst (Contains fs) (after (λ f o. sooner o f) fs None)
first_in fs =
    let first = first_of_all (λ f o. sooner o f) (λ o. o) (λ x f. f ≡ x) (λ x o Before h. first_with Before o x h) fs None refl in
    first_as (λ f. (x : Refusal) × Contains fs x × (f ≡ x)) (Contains fs) (after (λ f o. sooner o f) fs None)
    (λ f h. subst (Contains fs) (sym h.2) h.1) (λ f h. (f, h, refl)) first
