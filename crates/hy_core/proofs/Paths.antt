-- What is left of a body goes its paths to the end.
use Rattle.std.proofs.Common.{◌≡◌, ℕ, Bool, true, Some, refl, sym, subst}
use Rattle.hy_core.specs.Plain.{Stmts, Done, Then, Stmt, Built, Set, Lend, Close, Move, Copy, Drop, Call, Project, Slide, Yield, If, While, Break, Continue}
use Rattle.hy_core.specs.Plain.{Leave}
use Rattle.hy_core.specs.Control.{Work, Idle, Rest, Loop, Test, Drops}
use Rattle.hy_core.specs.Statements.{broken, continued}
use Rattle.hy_core.specs.Shaped.{GoesAll, Goes}

abbrev Implies : (Bool → Type 0) → (Bool → Type 0) → Type 0
Implies A B = (y : Bool) → A y → B y

mutual
  pub goes_all_map : (ramp : Bool) (ss : Stmts) (y : Bool) (A B C D E F : Bool → Type 0) → Implies A D → Implies B E → Implies C F → GoesAll ramp ss y A B C
      → GoesAll ramp ss y D E F
  goes_all_map ramp Done y A B C D E F f g h x = f y x
  goes_all_map ramp (Then s ss) y A B C D E F f g h x =
      goes_map ramp s y (λ z. GoesAll ramp ss z A B C) B C (λ z. GoesAll ramp ss z D E F) E F (λ z x. goes_all_map ramp ss z A B C D E F f g h x) g h x

  goes_map : (ramp : Bool) (s : Stmt) (y : Bool) (A B C D E F : Bool → Type 0) → Implies A D → Implies B E → Implies C F → Goes ramp s y A B C
      → Goes ramp s y D E F
  goes_map ramp (Built operator to from spans) y A B C D E F f g h x = f y x
  goes_map ramp (Set to n) y A B C D E F f g h x = f y x
  goes_map ramp (Lend to place w) y A B C D E F f g h x = f y x
  goes_map ramp (Close l) y A B C D E F f g h x = f y x
  goes_map ramp (Move to from) y A B C D E F f g h x = f y x
  goes_map ramp (Copy to from) y A B C D E F f g h x = f y x
  goes_map ramp (Drop place) y A B C D E F f g h x = f y x
  goes_map ramp (Call n lent owned to) y A B C D E F f g h x = f y x
  goes_map ramp (Project n lent owned to) y A B C D E F f g h x = f y x
  goes_map ramp (Slide l) y A B C D E F f g h x = f y x
  goes_map ramp (Yield l) y A B C D E F f g h x = (x.0, x.1, f true x.2)
  goes_map ramp (If on a b) y A B C D E F f g h x = (goes_all_map ramp a y A B C D E F f g h x.0, goes_all_map ramp b y A B C D E F f g h x.1)
  goes_map ramp (While head on body) y A B C D E F f g h x =
      goes_all_map ramp head y (λ z. (z ≡ y) × A z × GoesAll ramp body z (λ u. u ≡ y) A (λ u. u ≡ y)) (λ z. ⊥) (λ z. ⊥)
      (λ z. (z ≡ y) × D z × GoesAll ramp body z (λ u. u ≡ y) D (λ u. u ≡ y)) (λ z. ⊥) (λ z. ⊥)
      (λ z k. (k.0, f z k.1, goes_all_map ramp body z (λ u. u ≡ y) A (λ u. u ≡ y) (λ u. u ≡ y) D (λ u. u ≡ y) (λ u e. e) f (λ u e. e) k.2)) (λ z e. e)
      (λ z e. e) x
  goes_map ramp Break y A B C D E F f g h x = g y x
  goes_map ramp Continue y A B C D E F f g h x = h y x
  goes_map ramp (Leave from) y A B C D E F f g h x = x

-- from the head of a loop, with what follows the loop
abbrev pub LoopGoes : (ramp : Bool) → (head body : Stmts) → (Bool → Type 0) → Bool → Type 0
LoopGoes ramp head body next y = GoesAll ramp head y (λ z. (z ≡ y) × next z × GoesAll ramp body z (λ u. u ≡ y) next (λ u. u ≡ y)) (λ z. ⊥) (λ z. ⊥)

abbrev mutual
  -- what is left, where y says whether the `Yield` has come
  pub WorkGoes : (ramp : Bool) → Work → Bool → Type 0
  WorkGoes ramp Idle y = ⊥
  WorkGoes ramp (Rest ss w) y = GoesAll ramp ss y (WorkGoes ramp w) (BreakGoes ramp w) (AgainGoes ramp w)
  WorkGoes ramp (Loop head on body w) y = LoopGoes ramp head body (WorkGoes ramp w) y
  WorkGoes ramp (Test head on body w) y =
      LoopGoes ramp head body (WorkGoes ramp w) y × WorkGoes ramp w y × GoesAll ramp body y (λ u. u ≡ y) (WorkGoes ramp w) (λ u. u ≡ y)
  WorkGoes ramp (Drops ts w) y = WorkGoes ramp w y

  pub BreakGoes : (ramp : Bool) → Work → Bool → Type 0
  BreakGoes ramp Idle y = ⊥
  BreakGoes ramp (Rest ss w) y = BreakGoes ramp w y
  BreakGoes ramp (Loop head on body w) y = WorkGoes ramp w y
  BreakGoes ramp (Test head on body w) y = ⊥
  BreakGoes ramp (Drops ts w) y = ⊥

  pub AgainGoes : (ramp : Bool) → Work → Bool → Type 0
  AgainGoes ramp Idle y = ⊥
  AgainGoes ramp (Rest ss w) y = AgainGoes ramp w y
  AgainGoes ramp (Loop head on body w) y = LoopGoes ramp head body (WorkGoes ramp w) y
  AgainGoes ramp (Test head on body w) y = ⊥
  AgainGoes ramp (Drops ts w) y = ⊥

module _ (ramp : Bool) where
  -- the head of a loop is followed by its test, and a pass by the head
  pub head_goes : (head : Stmts) (on : ℕ) (body : Stmts) (w : Work) (y : Bool) → LoopGoes ramp head body (WorkGoes ramp w) y
      → WorkGoes ramp (Rest head (Test head on body w)) y
  head_goes head on body w y h = goes_all_map ramp head y _ (λ z. ⊥) (λ z. ⊥) (WorkGoes ramp (Test head on body w)) (λ z. ⊥) (λ z. ⊥)
      (λ z k. (
        subst (LoopGoes ramp head body (WorkGoes ramp w)) (sym k.0) h,
        k.1,
        subst (λ y. GoesAll ramp body z (λ u. u ≡ y) (WorkGoes ramp w) (λ u. u ≡ y)) (sym k.0) k.2,
      ))
      (λ z e. e) (λ z e. e) h

  pub pass_goes : (head : Stmts) (on : ℕ) (body : Stmts) (w : Work) (y : Bool) → WorkGoes ramp (Test head on body w) y
      → WorkGoes ramp (Rest body (Loop head on body w)) y
  pass_goes head on body w y h =
      let again : Implies (λ u. u ≡ y) (LoopGoes ramp head body (WorkGoes ramp w)) = λ u e. subst (LoopGoes ramp head body (WorkGoes ramp w)) (sym e) h.0 in
      goes_all_map ramp body y (λ u. u ≡ y) (WorkGoes ramp w) (λ u. u ≡ y) (LoopGoes ramp head body (WorkGoes ramp w)) (WorkGoes ramp w)
      (LoopGoes ramp head body (WorkGoes ramp w)) again (λ z e. e) again h.2

  pub break_goes : (w : Work) (y : Bool) → BreakGoes ramp w y → (v : Work) × (broken w ≡ Some v) × WorkGoes ramp v y
  break_goes Idle y h = absurd h
  break_goes (Rest ss w) y h = break_goes w y h
  break_goes (Loop head on body w) y h = (w, refl, h)
  break_goes (Test head on body w) y h = absurd h
  break_goes (Drops ts w) y h = absurd h

  pub again_goes : (w : Work) (y : Bool) → AgainGoes ramp w y → (v : Work) × (continued w ≡ Some v) × WorkGoes ramp v y
  again_goes Idle y h = absurd h
  again_goes (Rest ss w) y h = again_goes w y h
  again_goes (Loop head on body w) y h = (Loop head on body w, refl, h)
  again_goes (Test head on body w) y h = absurd h
  again_goes (Drops ts w) y h = absurd h
