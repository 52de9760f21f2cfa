-- Every run ends: a step stops it, takes a turn, or leaves less to do.
use Rattle.std.proofs.Common.{◌≡◌, ◌⊎◌, ⊎_elim, ℕ, zero, suc, ◌+◌, ◌<◌, ◌≤◌, Bool, true, false, cond, nat_lt, List, [], ◌∷◌, ◌++◌, length, Option, Some}
use Rattle.std.proofs.Common.{None, slice_get, refl, sym, ap, ◌∙◌, subst, arith}
use Rattle.hy_base.specs.declared.numbers.IntegerType.TheVariants.{Int, Sized}
use Rattle.std.specs.Prelude.{Result, Ok, Err, ℤ, pos}
use Rattle.hy_base.specs.declared.run.End.TheVariants as end
use Rattle.hy_base.specs.declared.run.TrapKind.{TrapKind}
use Rattle.hy_base.specs.declared.run.TrapKind.TheVariants as trap
use Rattle.hy_types.specs.declared.kinds.TyId.{TyId}
use Rattle.hy_core.specs.Plain.{Step, Part, Index, Place, Operator, Add, Sub, Mul, Div, Rem, Neg, Convert, Eq, Lt, Le, Not, NewArray, Push, Pop, Swap}
use Rattle.hy_core.specs.Plain.{Count, FreeArray, Print, Read, Check, Stmts, Done, Then, Stmt, Built, Set, Lend, Close, Move, Copy, Drop, Call, Project}
use Rattle.hy_core.specs.Plain.{Slide, Yield, If, While, Break, Continue, Leave, Fun, is_ramp, lent_types}
use Rattle.hy_core.specs.Values.{Val, Unset, Number, Truth, Tuple, Product, Array, Vals, No, And, Path, many, Shape, Nothing, Scalar, Flag, Parts, Fields}
use Rattle.hy_core.specs.Values.{Elements, shape, is_whole, is_blank, PartAt, ElementAt}
use Rattle.hy_core.specs.Memory.{Key, Spot, Writes, Memory, copying, lending, no_copies, no_cells}
use Rattle.hy_core.specs.Runs as effect
use Rattle.hy_core.specs.Runs.{Interaction, Fetch, Inspect, Perform, Return, apply, State, interpret, steps}
use Rattle.hy_base.specs.Lines.{Got, read_line}
use Rattle.hy_base.specs.Lines as lines
use Rattle.hy_core.specs.Operators.{same_flags, line_of, index_in, popped}
use Rattle.hy_core.specs.Control.{Form, form, part_type, element_type, blank_of, local_type, Deed, Body, EachOf, Element, Task, Do, Value, PartsOf, Unsets}
use Rattle.hy_core.specs.Control.{Work, Idle, Rest, Loop, Test, Drops, Dest, Opens, Nowhere, Activation, Nap, Halt, Ends, Stuck, NotSet, NotOpened, Control}
use Rattle.hy_core.specs.Control.{Stage, Deinitialises, GivesUp, Setting, stop, with_work, key, count_one, with_some, trapped, turn, with_number, with_flag}
use Rattle.hy_core.specs.Control.{with_array, with_set, with_index, Aim, ToRead, ToWrite, ToDrop, at_unset, at_part, at_element, walk, spot, read, take}
use Rattle.hy_core.specs.Control.{write, read_number, read_flag, read_array, sleeper_of, wake, take_as}
use Rattle.hy_core.specs.Control as control
use Rattle.hy_core.specs.Statements.{changes_one, with_none, with_one, with_two, with_three, store_to, give, arithmetic, compares, pop, swap, reads, built}
use Rattle.hy_core.specs.Statements.{constant, Charge, Paid, Unpaid, and_pay, pay_turn, charge, charge_parts, charge_elements, charged, hand_all, move_all}
use Rattle.hy_core.specs.Statements.{enter, close_all, back, yield_to, slide_of, close_of, is_counted, count_if, aim, deinit_of, deeds, part_deeds, doing}
use Rattle.hy_core.specs.Statements.{begun, clears, deinit_body, is_whole_product, does_deed, first_deed, does_tasks}
use Rattle.hy_core.specs.Statements.{drop, broken, continued, does, tested, goes_on, interaction_of}
use Rattle.hy_core.specs.Statements.{interaction, start}
use Rattle.hy_core.specs.Meaning.{Report, report, Run, setting, seen, Means, EveryRunEnds, OneMeaning}
use Rattle.hy_core.proofs.Keys.{at_key}

-- how much is left to do until a turn is taken
abbrev mutual
  size_all : Stmts → ℕ
  size_all Done = 1
  size_all (Then s ss) = size s + size_all ss

  size : Stmt → ℕ
  size (Built operator to from spans) = 1
  size (Set to k) = 1
  size (Lend to place w) = 1
  size (Close of) = 1
  size (Move to from) = 1
  size (Copy to from) = 1
  size (Drop place) = 2
  size (Call f lent owned to) = 1
  size (Project f lent owned to) = 1
  size (Slide of) = 1
  size (Yield of) = 1
  size (If on a b) = 3 + (size_all a + size_all b)
  size (While head on body) = 4 + size_all head
  size Break = 1
  size Continue = 1
  size (Leave from) = 1

abbrev work_size : Work → ℕ
work_size Idle = 1
work_size (Rest ss w) = 1 + (size_all ss + work_size w)
work_size (Loop head on body w) = 3 + (size_all head + work_size w)
work_size (Test head on body w) = 1 + work_size w
work_size (Drops ts w) = 1 + work_size w

work_pos : (w : Work) → 0 < work_size w
work_pos Idle = omega arith
work_pos (Rest ss w) = omega arith
work_pos (Loop head on body w) = omega arith
work_pos (Test head on body w) = omega arith
work_pos (Drops ts w) = omega arith

broken_le : (w v : Work) → broken w ≡ Some v → work_size v ≤ work_size w
broken_le Idle v e = absurd (cc)
broken_le (Rest ss w) v e = let h = broken_le w v e in omega arith
broken_le (Loop head on body w) v e = let f : w ≡ v = cc in subst (λ v. work_size v ≤ 3 + (size_all head + work_size w)) f (omega arith)
broken_le (Test head on body w) v e = absurd (cc)
broken_le (Drops ts w) v e = absurd (cc)

continued_le : (w v : Work) → continued w ≡ Some v → work_size v ≤ work_size w
continued_le Idle v e = absurd (cc)
continued_le (Rest ss w) v e = let h = continued_le w v e in omega arith
continued_le (Loop head on body w) v e = let f : Loop head on body w ≡ v = cc in subst (λ v. work_size v ≤ 3 + (size_all head + work_size w)) f (omega arith)
continued_le (Test head on body w) v e = absurd (cc)
continued_le (Drops ts w) v e = absurd (cc)

abbrev callers_size : List Activation → ℕ
callers_size [] = 0
callers_size (a ∷ rest) = work_size a.work + callers_size rest

abbrev naps_size : List Nap → ℕ
naps_size [] = 0
naps_size (x ∷ xs) = work_size x.act.work + naps_size xs

-- what is left to do, but for the work of the activation that runs
abbrev rest_size : Control → ℕ
rest_size c = callers_size c.callers + naps_size c.asleep

wake_le : (xs : List Nap) (k : Key) → naps_size (wake xs k) ≤ naps_size xs
wake_le [] k = omega arith
wake_le (x ∷ xs) k = let h = wake_le xs k in
    at_key {A = List Nap} (λ _. x ∷ wake xs k) k (wake xs k) x.key (λ l. naps_size l ≤ work_size x.act.work + naps_size xs) (λ e. omega arith)
    (λ n. omega arith)

wake_size : (xs : List Nap) (k : Key) (b : Activation) → sleeper_of xs k ≡ Some b → work_size b.work + naps_size (wake xs k) ≤ naps_size xs
wake_size [] k b e = absurd (cc)
wake_size (x ∷ xs) k b e = let up = wake_size xs k b in let le = wake_le xs k in
    at_key {A = List Nap} (λ _. x ∷ wake xs k) k (wake xs k) x.key (λ l. work_size b.work + naps_size l ≤ work_size x.act.work + naps_size xs)
    (λ q. at_key (sleeper_of xs) x.key (Some x.act) k (λ y. y ≡ Some b → work_size b.work + naps_size (wake xs k) ≤ work_size x.act.work + naps_size xs)
    (λ _ y. let z : x.act ≡ b = cc in subst (λ b. work_size b.work + naps_size (wake xs k) ≤ work_size x.act.work + naps_size xs) z (omega arith))
    (λ n. absurd (n (sym q))) e)
    (λ n. at_key (sleeper_of xs) x.key (Some x.act) k (λ y. y ≡ Some b
    → work_size b.work + (work_size x.act.work + naps_size (wake xs k)) ≤ work_size x.act.work + naps_size xs)
    (λ q. absurd (n (sym q))) (λ _ y. let h = up y in omega arith) e)

-- A step from a state with so many turns and so much to do stops the run, takes a turn, or leaves less to do.
data Falls (n u : ℕ) (c : Control) : Type 0 where
  halts : (h : Halt) → c.halt ≡ Some h → Falls n u c
  takes : c.turns < n → Falls n u c
  less : c.turns ≡ n → work_size c.now.work + rest_size c < u → Falls n u c

abbrev FallsBy : ℕ → ℕ → Interaction Control → Type 0
FallsBy n u (Fetch s go) = (v : Val) → FallsBy n u (go v)
FallsBy n u (Inspect s go) = (v : Shape) → FallsBy n u (go v)
FallsBy n u (Perform o t) = FallsBy n u t
FallsBy n u (Return c) = Falls n u c

falls_next : {M : Type 0} (r : Memory M) (n u : ℕ) (t : Interaction Control) (m : M) → FallsBy n u t → Falls n u (interpret r t m).control
falls_next r n u (Fetch s go) m h = falls_next r n u (go (r.read m s)) m (h (r.read m s))
falls_next r n u (Inspect s go) m h = falls_next r n u (go (shape (r.read m s))) m (h (shape (r.read m s)))
falls_next r n u (Perform o t) m h = falls_next r n u t (apply r o m) h
falls_next r n u (Return c) m h = h

-- copying takes turns
abbrev Pays : ℕ → Charge → Type 0
Pays n (Paid m o) = m ≤ n
Pays n (Unpaid o) = Unit {0}

pays_up : (m n : ℕ) (x : Charge) → m ≤ n → Pays m x → Pays n x
pays_up m n (Paid k o) le h = omega arith
pays_up m n (Unpaid o) le h = tt

pays_then : (n : ℕ) (x : Charge) (go : ℕ → ℕ → Charge) → Pays n x → ((m o : ℕ) → m ≤ n → Pays n (go m o)) → Pays n (and_pay x go)
pays_then n (Paid m o) go h next = next m o h
pays_then n (Unpaid o) go h next = tt

pays_turn : (n o : ℕ) (go : ℕ → Charge) → ((m : ℕ) → Pays m (go m)) → Pays n (pay_turn n o go)
pays_turn zero o go h = tt
pays_turn (suc n) o go h = pays_up n (suc n) (go n) (omega arith) (h n)

mutual
  pays : (v : Val) (n o : ℕ) → Pays n (charge v n o)
  pays Unset n o = omega arith
  pays (Number t k) n o = omega arith
  pays (Truth b) n o = omega arith
  pays (Tuple vs) n o = pays_parts vs n o
  pays (Product d vs) n o = pays_parts vs n o
  pays (Array vs) n o = pays_turn n (suc o) (λ n. charge_elements vs n (suc o)) (λ m. pays_elements vs m (suc o))

  pays_parts : (vs : Vals) (n o : ℕ) → Pays n (charge_parts vs n o)
  pays_parts No n o = omega arith
  pays_parts (And v vs) n o = pays_then n (charge v n o) (charge_parts vs) (pays v n o) (λ m k le. pays_up m n (charge_parts vs m k) le (pays_parts vs m k))

  pays_elements : (vs : Vals) (n o : ℕ) → Pays n (charge_elements vs n o)
  pays_elements No n o = omega arith
  pays_elements (And v vs) n o = pays_turn n o (λ n. and_pay (charge v n (suc o)) (charge_elements vs))
      (λ m. pays_then m (charge v m (suc o)) (charge_elements vs) (pays v m (suc o))
      (λ k j le. pays_up k m (charge_elements vs k j) le (pays_elements vs k j)))

module _ (n u : ℕ) (p : Setting) where
  -- with that much to do besides what is left
  abbrev Has : ℕ → Control → Type 0
  Has s c = (c.turns ≡ n) × (s + (work_size c.now.work + rest_size c) ≤ u)

  f_done : (c : Control) → Has 1 c → Falls n u c
  f_done c h = less h.0 (let le : 1 + (work_size c.now.work + rest_size c) ≤ u = h.1 in omega arith)

  f_some : {A : Type 0} (c : Control) (o : Option A) (go : A → Interaction Control) → ((a : A) → o ≡ Some a → FallsBy n u (go a))
      → FallsBy n u (with_some c o go)
  f_some c None go h = halts Stuck refl
  f_some c (Some a) go h = h a refl

  f_if : (b : Bool) (c : Control) (h : Halt) (t : Interaction Control) → FallsBy n u t → FallsBy n u (cond b t (stop c h))
  f_if true c h t f = f
  f_if false c h t f = halts h refl

  f_trapped : (c : Control) (kind : TrapKind) (s : ℕ) → FallsBy n u (trapped p c kind s)
  f_trapped c kind s = f_some c (slice_get p.core.spans s) _ (λ a e. halts _ refl)

  f_number : (c : Control) (v : Val) (go : ℤ → Interaction Control) → ((k : ℤ) → FallsBy n u (go k)) → FallsBy n u (with_number c v go)
  f_number c Unset go h = halts NotSet refl
  f_number c (Number Int k) go h = h k
  f_number c (Number (Sized num) k) go h = halts Stuck refl
  f_number c (Truth b) go h = halts Stuck refl
  f_number c (Tuple vs) go h = halts Stuck refl
  f_number c (Product d vs) go h = halts Stuck refl
  f_number c (Array vs) go h = halts Stuck refl

  f_flag : (c : Control) (v : Val) (go : Bool → Interaction Control) → ((k : Bool) → FallsBy n u (go k)) → FallsBy n u (with_flag c v go)
  f_flag c Unset go h = halts NotSet refl
  f_flag c (Number t k) go h = halts Stuck refl
  f_flag c (Truth b) go h = h b
  f_flag c (Tuple vs) go h = halts Stuck refl
  f_flag c (Product d vs) go h = halts Stuck refl
  f_flag c (Array vs) go h = halts Stuck refl

  f_array : (c : Control) (v : Val) (go : Vals → Interaction Control) → ((vs : Vals) → FallsBy n u (go vs)) → FallsBy n u (with_array c v go)
  f_array c Unset go h = halts NotSet refl
  f_array c (Number t k) go h = halts Stuck refl
  f_array c (Truth b) go h = halts Stuck refl
  f_array c (Tuple vs) go h = halts Stuck refl
  f_array c (Product d vs) go h = halts Stuck refl
  f_array c (Array vs) go h = h vs

  f_index : (c : Control) (s : ℕ) (o : Option ℕ) (go : ℕ → Interaction Control) → ((i : ℕ) → FallsBy n u (go i)) → FallsBy n u (with_index p c s o go)
  f_index c s None go h = f_trapped c trap.Index s
  f_index c s (Some i) go h = h i

  f_unset : (a : Aim) (c : Control) (s : Spot) (f : Form) (t : Interaction Control) → Falls n u c → FallsBy n u t → FallsBy n u (at_unset a c s f t)
  f_unset ToRead c s f t d h = halts NotSet refl
  f_unset ToWrite c s f t d h = f_some c (blank_of f) _ (λ v e. h)
  f_unset ToDrop c s f t d h = d

  f_part : (a : Aim) (c : Control) (s : Spot) (f : Form) (i : ℕ) (sh : Shape) (t : Interaction Control) → Falls n u c → FallsBy n u t
      → FallsBy n u (at_part a c s f i sh t)
  f_part a c s f i Nothing t d h = f_unset a c s f t d h
  f_part a c s f i (Scalar l k) t d h = halts Stuck refl
  f_part a c s f i (Flag b) t d h = halts Stuck refl
  f_part a c s f i (Parts k) t d h = f_if (nat_lt i k) c Stuck t h
  f_part a c s f i (Fields e k) t d h = f_if (nat_lt i k) c Stuck t h
  f_part a c s f i (Elements k) t d h = halts Stuck refl

  f_element : (a : Aim) (c : Control) (s : ℕ) (i : ℤ) (sh : Shape) (go : ℕ → Interaction Control) → Falls n u c → ((j : ℕ) → FallsBy n u (go j))
      → FallsBy n u (at_element p a c s i sh go)
  f_element ToRead c s i Nothing go d h = halts NotSet refl
  f_element ToWrite c s i Nothing go d h = halts NotSet refl
  f_element ToDrop c s i Nothing go d h = d
  f_element a c s i (Scalar l k) go d h = halts Stuck refl
  f_element a c s i (Flag b) go d h = halts Stuck refl
  f_element a c s i (Parts k) go d h = halts Stuck refl
  f_element a c s i (Fields e k) go d h = halts Stuck refl
  f_element a c s i (Elements k) go d h = f_index c s (index_in k i) go h

  -- A walk changes nothing but the number of opened places, and nothing of what is wanted here rests on that.
  module _ (P : Control → Type 0) (up : (c : Control) → P c → P (count_one c)) (falls : (c : Control) → P c → Falls n u c) where
    g_walk : (a : Aim) (c : Control) (y : Key) (q : Path) (t : TyId) (ss : List Step) (go : Control → Spot → TyId → Interaction Control)
        → P c → ((c : Control) → P c → (s : Spot) (t : TyId) → FallsBy n u (go c s t)) → FallsBy n u (walk p a c y q t ss go)
    g_walk a c y q t [] go h next = next c h (record { key = y; path = q }) t
    g_walk a c y q t (Part i ∷ ss) go h next =
        f_some c (part_type (form p.core.types t) i) _ (λ v e. λ sh.
        f_part a c (record { key = y; path = q }) (form p.core.types t) i sh (walk p a c y (q ++ PartAt i ∷ []) v ss go) (falls c h)
        (g_walk a c y (q ++ PartAt i ∷ []) v ss go h next))
    g_walk a c y q t (Index l s ∷ ss) go h next =
        f_some c (element_type (form p.core.types t)) _ (λ v e. λ w. f_number c w _ (λ i. λ sh.
        f_element a c s i sh (λ j. walk p a (count_one c) y (q ++ ElementAt j ∷ []) v ss go) (falls c h)
        (λ j. g_walk a (count_one c) y (q ++ ElementAt j ∷ []) v ss go (up c h) next)))

    g_spot : (a : Aim) (c : Control) (x : Place) (go : Control → Spot → TyId → Interaction Control)
        → P c → ((c : Control) → P c → (s : Spot) (t : TyId) → FallsBy n u (go c s t)) → FallsBy n u (spot p a c x go)
    g_spot a c x go h next = f_some c (local_type c.now.fun x.local) _ (λ t e. g_walk a c (key c x.local) [] t x.steps go h next)

    g_write : (c : Control) (x : Place) (v : Val) (go : Control → Interaction Control)
        → P c → ((c : Control) → P c → FallsBy n u (go c)) → FallsBy n u (write p c x v go)
    g_write c x v go h next = g_spot ToWrite c x _ h (λ c h s t. next c h)

  f_spot : (a : Aim) (c : Control) (x : Place) (go : Control → Spot → TyId → Interaction Control)
      → Has 1 c → ((c : Control) → Has 1 c → (s : Spot) (t : TyId) → FallsBy n u (go c s t)) → FallsBy n u (spot p a c x go)
  f_spot = g_spot (Has 1) (λ c h. h) f_done

  f_read : (c : Control) (x : Place) (go : Control → Val → Interaction Control)
      → Has 1 c → ((c : Control) → Has 1 c → (v : Val) → FallsBy n u (go c v)) → FallsBy n u (read p c x go)
  f_read c x go h next = f_spot ToRead c x _ h (λ c h s t. λ v. f_if (is_whole v) c NotSet (go c v) (next c h v))

  f_take : (fate : effect.Fate) (c : Control) (x : Place) (go : Control → Val → Interaction Control)
      → Has 1 c → ((c : Control) → Has 1 c → (v : Val) → FallsBy n u (go c v)) → FallsBy n u (take_as fate p c x go)
  f_take fate c x go h next = f_spot ToRead c x _ h (λ c h s t. λ v. f_if (is_whole v) c NotSet (Perform (effect.Clear s fate) (go c v)) (next c h v))

  f_write : (c : Control) (x : Place) (v : Val) (go : Control → Interaction Control)
      → Has 1 c → ((c : Control) → Has 1 c → FallsBy n u (go c)) → FallsBy n u (write p c x v go)
  f_write = g_write (Has 1) (λ c h. h) f_done

  f_read_array : (c : Control) (x : Place) (go : Control → Spot → Vals → Interaction Control)
      → Has 1 c → ((c : Control) → Has 1 c → (s : Spot) (vs : Vals) → FallsBy n u (go c s vs)) → FallsBy n u (read_array p c x go)
  f_read_array c x go h next = f_spot ToRead c x _ h (λ c h s t. λ v. f_if (is_whole v) c NotSet (with_array c v (go c s)) (f_array c v (go c s) (next c h s)))

  f_read_number : (c : Control) (x : Place) (go : Control → ℤ → Interaction Control)
      → Has 1 c → ((c : Control) → Has 1 c → (i : ℤ) → FallsBy n u (go c i)) → FallsBy n u (read_number p c x go)
  f_read_number c x go h next = f_read c x _ h (λ c h v. f_number c v (go c) (next c h))

  f_read_flag : (c : Control) (x : Place) (go : Control → Bool → Interaction Control)
      → Has 1 c → ((c : Control) → Has 1 c → (i : Bool) → FallsBy n u (go c i)) → FallsBy n u (read_flag p c x go)
  f_read_flag c x go h next = f_read c x _ h (λ c h v. f_flag c v (go c) (next c h))

  f_turn : (c : Control) (k : ℕ) (go : Control → Interaction Control) → k ≡ n → ((m : ℕ) → m < n → FallsBy n u (go (record c { turns = m })))
      → FallsBy n u (turn c k go)
  f_turn c zero go e h = halts (Ends end.Spent) refl
  f_turn c (suc m) go e h = h m (omega arith)

  -- BUILT-IN OPERATIONS

  f_none : {A : Type 0} (c : Control) (xs : List A) (t : Interaction Control) → FallsBy n u t → FallsBy n u (with_none c xs t)
  f_none c [] t h = h
  f_none c (x ∷ xs) t h = halts Stuck refl

  f_one : {A : Type 0} (c : Control) (xs : List A) (go : A → Interaction Control) → ((a : A) → FallsBy n u (go a)) → FallsBy n u (with_one c xs go)
  f_one c [] go h = halts Stuck refl
  f_one c (x ∷ xs) go h = f_none c xs (go x) (h x)

  f_two : {A : Type 0} (c : Control) (xs : List A) (go : A → A → Interaction Control) → ((a b : A) → FallsBy n u (go a b)) → FallsBy n u (with_two c xs go)
  f_two c [] go h = halts Stuck refl
  f_two c (x ∷ xs) go h = f_one c xs (go x) (h x)

  f_three : {A : Type 0} (c : Control) (xs : List A) (go : A → A → A → Interaction Control) → ((a b d : A) → FallsBy n u (go a b d))
      → FallsBy n u (with_three c xs go)
  f_three c [] go h = halts Stuck refl
  f_three c (x ∷ xs) go h = f_two c xs (go x) (h x)

  f_store : (c : Control) (to : Option Place) (v : Val) → Has 1 c → FallsBy n u (store_to p c to v)
  f_store c to v h = f_some c to _ (λ x e. f_write c x v Return h f_done)

  f_give : (c : Control) (to : Option Place) (s : ℕ) (r : Result Val TrapKind) → Has 1 c → FallsBy n u (give p c to s r)
  f_give c to s (Ok v) h = f_store c to v h
  f_give c to s (Err kind) h = f_trapped c kind s

  f_arithmetic : (c : Control) (to : Option Place) (from : List Place) (spans : List ℕ) (f : Val → Val → Option (Result Val TrapKind))
      → Has 1 c → FallsBy n u (arithmetic p c to from spans f)
  f_arithmetic c to from spans f h =
      f_two c from _ (λ a b. f_one c spans _ (λ s. f_read c a _ h (λ c h v. f_read c b _ h (λ c h w. f_some c (f v w) _ (λ r e. f_give c to s r h)))))

  f_change : (c : Control) (to : Option Place) (from : List Place) (spans : List ℕ) (f : Val → Option (Result Val TrapKind))
      → Has 1 c → FallsBy n u (changes_one p c to from spans f)
  f_change c to from spans f h = f_one c from _ (λ a. f_one c spans _ (λ s. f_read c a _ h (λ c h v. f_some c (f v) _ (λ r e. f_give c to s r h))))

  f_compares : (c : Control) (to : Option Place) (from : List Place) (f : Val → Val → Option Bool) → Has 1 c → FallsBy n u (compares p c to from f)
  f_compares c to from f h = f_two c from _ (λ a b. f_read c a _ h (λ c h v. f_read c b _ h (λ c h w. f_some c (f v w) _ (λ e q. f_store c to (Truth e) h))))

  f_pop : (c : Control) (to : Option Place) (s : ℕ) (y : Spot) (vs : Vals) → Has 1 c → FallsBy n u (pop p c to s y vs)
  f_pop c to s y No h = f_trapped c trap.Empty s
  f_pop c to s y (And v vs) h = f_store c to (popped v vs).last h

  f_swap : (c : Control) (x a b : Place) (s t : ℕ) → Has 1 c → FallsBy n u (swap p c x a b s t)
  f_swap c x a b s t h = f_read_number c a _ h (λ c h i. f_read_number c b _ h (λ c h j. f_read_array c x _ h (λ c h y vs.
      f_index c s (index_in (many vs) i) _ (λ i. f_index c t (index_in (many vs) j) _ (λ j. f_done c h)))))

  f_reads : (c : Control) (to : Option Place) (s : ℕ) (g : Got) → Has 1 c → FallsBy n u (reads p c to s g)
  f_reads c to s (lines.Gives k rest) h = f_store (record c { input = rest }) to (Number Int k) h
  f_reads c to s (lines.Fails rest) h = f_trapped (record c { input = rest }) trap.Input s
  f_reads c to s lines.Wants h = halts (Ends end.Asks) refl

  f_built : (c : Control) (o : Operator) (to : Option Place) (from : List Place) (spans : List ℕ) → Has 1 c → FallsBy n u (built p c o to from spans)
  f_built c Add to from spans h = f_arithmetic c to from spans _ h
  f_built c Sub to from spans h = f_arithmetic c to from spans _ h
  f_built c Mul to from spans h = f_arithmetic c to from spans _ h
  f_built c Div to from spans h = f_arithmetic c to from spans _ h
  f_built c Rem to from spans h = f_arithmetic c to from spans _ h
  f_built c Neg to from spans h = f_change c to from spans _ h
  f_built c (Convert t) to from spans h = f_change c to from spans _ h
  f_built c Eq to from spans h = f_compares c to from _ h
  f_built c Lt to from spans h = f_compares c to from _ h
  f_built c Le to from spans h = f_compares c to from _ h
  f_built c Not to from spans h = f_one c from _ (λ a. f_read_flag c a _ h (λ c h b. f_store c to _ h))
  f_built c NewArray to from spans h = f_store c to (Array No) h
  f_built c Push to from spans h = f_two c from _ (λ x a. f_take effect.Moved c a _ h (λ c h v. f_read_array c x _ h (λ c h y vs. f_done c h)))
  f_built c Pop to from spans h = f_one c from _ (λ x. f_one c spans _ (λ s. f_read_array c x _ h (λ c h y vs. f_pop c to s y vs h)))
  f_built c Swap to from spans h = f_three c from _ (λ x a b. f_two c spans _ (λ s t. f_swap c x a b s t h))
  f_built c Count to from spans h = f_one c from _ (λ x. f_read_array c x _ h (λ c h y vs. f_store c to (Number Int (pos (many vs))) h))
  f_built c FreeArray to from spans h = f_one c from _ (λ x. f_read_array c x _ h (λ c h y vs. f_done c h))
  f_built c Print to from spans h =
      f_one c from _ (λ a. f_read c a _ h (λ c h v. f_some c (line_of v) _ (λ bytes e. f_done (record c { output = c.output ++ bytes }) h)))
  f_built c Read to from spans h = f_one c spans _ (λ s. f_reads c to s (read_line p.cut c.input) h)
  f_built c Check to from spans h = f_one c from _ (λ a. f_one c spans _ (λ s. f_read_flag c a _ h (λ c h b. checked c s b h)))
    where
      checked : (c : Control) (s : ℕ) (b : Bool) → Has 1 c → FallsBy n u (cond b (Return c) (trapped p c trap.Precondition s))
      checked c s true h = f_done c h
      checked c s false h = f_trapped c trap.Precondition s

  -- ACTIVATIONS

  f_hand_all : (c : Control) (a i : ℕ) (ls : List ℕ) (ts : List TyId) (t : Interaction Control) → FallsBy n u t → FallsBy n u (hand_all c a i ls ts t)
  f_hand_all c a i [] [] t h = h
  f_hand_all c a i [] (y ∷ ys) t h = halts Stuck refl
  f_hand_all c a i (l ∷ ls) [] t h = halts Stuck refl
  f_hand_all c a i (l ∷ ls) (y ∷ ys) t h = f_hand_all c a (suc i) ls ys t h

  f_move_all : (c : Control) (a i : ℕ) (xs : List Place) (ts : List TyId) (go : Control → Interaction Control)
      → Has 1 c → ((c : Control) → Has 1 c → FallsBy n u (go c)) → FallsBy n u (move_all p c a i xs ts go)
  f_move_all c a i [] [] go h next = next c h
  f_move_all c a i [] (y ∷ ys) go h next = halts Stuck refl
  f_move_all c a i (x ∷ xs) [] go h next = halts Stuck refl
  f_move_all c a i (x ∷ xs) (y ∷ ys) go h next = f_take effect.Moved c x _ h (λ c h v. f_move_all c a (suc i) xs ys go h next)

  f_enter : (c : Control) (ramp : Bool) (o : Option Fun) (lent : List ℕ) (owned : List Place) (dest : Dest) → Has 1 c
      → FallsBy n u (enter p c ramp o lent owned dest)
  f_enter c ramp o lent owned dest h = f_some c o _ (λ f e. f_if (same_flags (is_ramp f) ramp) c Stuck _
      (f_move_all c c.started (length (lent_types f)) owned f.owned _ h
      (λ c h. f_hand_all c c.started zero lent (lent_types f) _ (f_turn c c.turns _ h.0 (λ m lt. takes lt)))))

  f_close_all : (c : Control) (i : ℕ) (t : Interaction Control) → FallsBy n u t → FallsBy n u (close_all c i t)
  f_close_all c zero t h = h
  f_close_all c (suc i) t h = f_close_all c i t h

  f_back : (c : Control) (callers : List Activation) (v : Val) (dest : Dest) → c.turns ≡ n → callers_size callers + naps_size c.asleep < u
      → FallsBy n u (back p c callers v dest)
  f_back c [] v dest e lt = halts (Ends end.Done) refl
  f_back c (a ∷ rest) v (control.Result x) e lt = f_write (record c { now = a; callers = rest }) x v Return (e, omega arith) f_done
  f_back c (a ∷ rest) v (Opens l) e lt = halts Stuck refl
  f_back c (a ∷ rest) v Nowhere e lt = less e (omega arith)

  f_yield : (c : Control) (l : ℕ) (callers : List Activation) (dest : Dest) → c.turns ≡ n
      → work_size c.now.work + (callers_size callers + naps_size c.asleep) < u → FallsBy n u (yield_to c l callers dest)
  f_yield c l [] dest e lt = halts Stuck refl
  f_yield c l (a ∷ rest) (control.Result x) e lt = halts Stuck refl
  f_yield c l (a ∷ rest) Nowhere e lt = halts Stuck refl
  f_yield c l (a ∷ rest) (Opens j) e lt = less e (omega arith)

  f_slide : (c : Control) (k : Key) (o : Option Activation) → Has 1 c
      → ((b : Activation) → o ≡ Some b → work_size b.work + naps_size (wake c.asleep k) ≤ naps_size c.asleep) → FallsBy n u (slide_of c k o)
  f_slide c k None h w = halts NotOpened refl
  f_slide c k (Some b) h w = less h.0 (let le : 1 + (work_size c.now.work + rest_size c) ≤ u = h.1 in let x = w b refl in omega arith)

  f_close : (c : Control) (l : ℕ) (o : Option Activation) → Has 1 c → FallsBy n u (close_of c l o)
  f_close c l (Some b) h = halts NotOpened refl
  f_close c l None h = go (nat_lt l (length (lent_types c.now.fun)))
    where
      go : (b : Bool) → FallsBy n u (cond b (stop c NotOpened) (Perform (effect.Close (key c l)) (Return c)))
      go true = halts NotOpened refl
      go false = f_done c h

  f_charged : (c : Control) (x : Charge) (go : Control → Interaction Control) → Pays n x
      → ((m o : ℕ) → m ≤ n → FallsBy n u (go (record c { turns = m; opened = o }))) → FallsBy n u (charged c x go)
  f_charged c (Paid m o) go le h = h m o le
  f_charged c (Unpaid o) go le h = halts (Ends end.Spent) refl

  -- DEINITIALISING

  f_begun : (c : Control) (d : ℕ) (s : Spot) (o : Option Fun) → c.turns ≡ n → FallsBy n u (deinit_body c d s o)
  f_begun c d s o e = f_some c o _ (λ f q. f_turn (count_one c) c.turns _ e (λ m lt. λ v. by f m lt (is_whole_product d v)))
    where
      by : (f : Fun) (m : ℕ) → m < n → (b : Bool) → FallsBy n u (cond b
          (Perform (effect.Lend (record { act = c.started; local = zero }) s Writes)
          (Return (begun (record (count_one c) { turns = m }) f Nowhere))) (Return (record (count_one c) { turns = m })))
      by f m lt true = takes lt
      by f m lt false = takes lt

  f_clears : (s : Spot) (b : Bool) (t : Interaction Control) → FallsBy n u t → FallsBy n u (clears s b t)
  f_clears s true t h = h
  f_clears s false t h = h

  f_deed : (c : Control) (w : Work) (d : Deed) (ts : List Task) → c.turns ≡ n → FallsBy n u (does_deed p c w d ts)
  f_deed c w (Body d s) ts e = f_some c (deinit_of p.core.deinits d) _
      (λ k q. f_begun (with_work c (Drops (PartsOf s ∷ ts) w)) d s (slice_get p.core.funs k) e)
  f_deed c w (EachOf k s) ts e = f_turn (count_one c) c.turns _ e (λ m lt. takes lt)
  f_deed c w (Element s) ts e = f_turn c c.turns _ e (λ m lt. takes lt)

  f_first : (c : Control) (w : Work) (ds : List Deed) (ts : List Task) (t : Interaction Control) → c.turns ≡ n → FallsBy n u t
      → FallsBy n u (first_deed p c w ds ts t)
  f_first c w [] ts t e h = h
  f_first c w (d ∷ ds) ts t e h = f_deed c w d (doing ds ts) e

  f_tasks : (c : Control) (w : Work) (ts : List Task) → c.turns ≡ n → work_size w + rest_size c < u → FallsBy n u (does_tasks p c w ts)
  f_tasks c w [] e lt = less e lt
  f_tasks c w (Do d ∷ ts) e lt = f_deed c w d ts e
  f_tasks c w (Value s ∷ ts) e lt = λ v. f_first c w (deeds p.core.deinits s v) ts (does_tasks p c w ts) e (f_tasks c w ts e lt)
  f_tasks c w (PartsOf s ∷ ts) e lt = λ v. f_first c w (part_deeds p.core.deinits s v) ts (does_tasks p c w ts) e (f_tasks c w ts e lt)
  f_tasks c w (Unsets s ∷ ts) e lt = λ v. f_clears s (is_blank v) (does_tasks p c w ts) (f_tasks c w ts e lt)

  f_drop : (stage : Stage) (c : Control) (x : Place) → Has 2 c → FallsBy n u (drop p stage c x)
  f_drop Deinitialises c x h =
      g_spot (Has 2) (λ c h. h) (λ c h. less h.0 (let le : 2 + (work_size c.now.work + rest_size c) ≤ u = h.1 in omega arith)) ToDrop c x _ h
      (λ c h s t. less h.0 (let le : 2 + (work_size c.now.work + rest_size c) ≤ u = h.1 in omega arith))
  f_drop GivesUp c x h = f_take effect.Discarded c x _ (h.0, let le : 2 + (work_size c.now.work + rest_size c) ≤ u = h.1 in omega arith) (λ c h v. f_done c h)

  -- STATEMENTS

  f_count_if : (b : Bool) (c : Control) → Has 1 c → Falls n u (count_if b c)
  f_count_if true c h = f_done (count_one c) h
  f_count_if false c h = f_done c h

  -- c has what is left after the statement
  f_does : (c : Control) (s : Stmt) → Has (size s) c → FallsBy n u (does p c s)
  f_does c (Built o to from spans) h = f_built c o to from spans h
  f_does c (Set to k) h = f_spot ToWrite c to _ h (λ c h s t. f_some c (constant (form p.core.types t) k) _ (λ v e. f_done c h))
  f_does c (Lend to place w) h = f_spot (aim w) c place _ h (λ c h s t. f_count_if (is_counted place.steps) c h)
  f_does c (Close l) h = f_close c l (sleeper_of c.asleep (key c l)) h
  f_does c (Move to from) h = f_take effect.Moved c from _ h (λ c h v. f_write c to v Return h f_done)
  f_does c (Copy to from) h =
      f_read c from _ h (λ c h v. f_charged c (charge v c.turns c.opened) _ (subst (λ k. Pays k (charge v c.turns c.opened)) h.0 (pays v c.turns c.opened))
      (λ m o le. paid (record c { turns = m; opened = o }) v (le_cases m le) h.1))
    where
      le_cases : (m : ℕ) → m ≤ n → (m < n) ⊎ (m ≡ n)
      le_cases m le = grind arith

      paid : (c : Control) (v : Val) → (c.turns < n) ⊎ (c.turns ≡ n) → 1 + (work_size c.now.work + rest_size c) ≤ u → FallsBy n u (write p c to v Return)
      paid c v h le =
          ⊎_elim (λ lt. g_write (λ c. c.turns < n) (λ c h. h) (λ c h. takes h) c to v Return lt (λ c h. takes h))
          (λ e. f_write c to v Return (e, le) f_done) h
  f_does c (Drop place) h = f_drop p.stage c place h
  f_does c (Call k lent owned to) h = f_enter c false (slice_get p.core.funs k) lent owned (control.Result to) h
  f_does c (Project k lent owned to) h = f_enter c true (slice_get p.core.funs k) lent owned (Opens to) h
  f_does c (Slide l) h = f_slide c (key c l) (sleeper_of c.asleep (key c l)) h (λ b e. wake_size c.asleep (key c l) b e)
  f_does c (Yield l) h = f_yield c l c.callers c.now.dest h.0 (let le : 1 + (work_size c.now.work + rest_size c) ≤ u = h.1 in omega arith)
  f_does c (If on a b) h = λ v. f_flag c v _ branch
    where
      le : 3 + (size_all a + size_all b) + (work_size c.now.work + rest_size c) ≤ u
      le = h.1

      branch : (d : Bool) → FallsBy n u (Return (with_work c (Rest (cond d a b) c.now.work)))
      branch true = less h.0 (omega (arith, le))
      branch false = less h.0 (omega (arith, le))
  f_does c (While head on body) h = less h.0 (let le : 4 + size_all head + (work_size c.now.work + rest_size c) ≤ u = h.1 in omega arith)
  f_does c Break h =
      f_some c (broken c.now.work) _ (λ w e. less h.0 (let le : 1 + (work_size c.now.work + rest_size c) ≤ u = h.1 in let l = broken_le c.now.work w e in
      omega arith))
  f_does c Continue h =
      f_some c (continued c.now.work) _ (λ w e. less h.0 (let le : 1 + (work_size c.now.work + rest_size c) ≤ u = h.1 in let l =
      continued_le c.now.work w e in omega arith))
  f_does c (Leave from) h = f_take effect.Moved c from _ h (λ d g v. last d v (length (lent_types c.now.fun)) g)
    where
      last : (c : Control) (v : Val) (k : ℕ) → Has 1 c → FallsBy n u (close_all c k (back p c c.callers v c.now.dest))
      last c v k h =
          f_close_all c k _ (f_back c c.callers v c.now.dest h.0 (let le : 1 + (work_size c.now.work + rest_size c) ≤ u = h.1 in let w =
          work_pos c.now.work in omega arith))

  f_goes : (c : Control) (w : Work) → c.turns ≡ n → work_size w + rest_size c ≤ u → FallsBy n u (goes_on p c w)
  f_goes c Idle e le = halts Stuck refl
  f_goes c (Rest Done w) e le = less e (omega arith)
  f_goes c (Rest (Then s ss) w) e le = f_does (with_work c (Rest ss w)) s (e, omega arith)
  f_goes c (Loop head on body w) e le = less e (omega arith)
  f_goes c (Test head on body w) e le = λ v. f_flag c v _ go
    where
      go : (d : Bool) → FallsBy n u (tested c head on body w d)
      go false = less e (omega arith)
      go true = f_turn c c.turns _ e (λ m lt. takes lt)
  f_goes c (Drops ts w) e le = f_tasks c w ts e (omega arith)

-- RUNS

abbrev HaltsFrom : {M : Type 0} → Memory M → Setting → Control → M → Type 0
HaltsFrom r p c m = (k : ℕ) × (h : Halt) × ((steps r (interaction p) k c m).control.halt ≡ Some h)

module _ {M : Type 0} (r : Memory M) (p : Setting) where
  one_more : (c : Control) (m : M) → HaltsFrom r p (interpret r (interaction p c) m).control (interpret r (interaction p c) m).memory → HaltsFrom r p c m
  one_more c m h = (suc h.0, h.1, h.2)

  within_turn : (n : ℕ) → ((c : Control) (m : M) → c.turns < n → HaltsFrom r p c m) → (u : ℕ) (c : Control) (m : M) → c.turns ≡ n
      → work_size c.now.work + rest_size c < u → HaltsFrom r p c m
  within_turn n up zero c m e lt = absurd (omega arith)
  within_turn n up (suc u) c m e lt = go c.halt refl (λ c' m' e' lt'. within_turn n up u c' m' e' lt')
    where
      go : (x : Option Halt) → c.halt ≡ x → ((c' : Control) (m' : M) → c'.turns ≡ n → work_size c'.now.work + rest_size c' < u → HaltsFrom r p c' m')
          → HaltsFrom r p c m
      go (Some x) q on = (0, x, q)
      go None q on =
          one_more c m (next s.control s.memory (subst (λ x. Falls n u (interpret r (interaction_of p c x) m).control) (sym q)
          (falls_next r n u (goes_on p c c.now.work) m (f_goes n u p c c.now.work e (omega arith)))))
        where
          s : State Control M
          s = interpret r (interaction p c) m

          next : (c' : Control) (m' : M) → Falls n u c' → HaltsFrom r p c' m'
          next c' m' (halts x h) = (0, x, h)
          next c' m' (takes lt) = up c' m' lt
          next c' m' (less e lt) = on c' m' e lt

  within_turns : (n : ℕ) (c : Control) (m : M) → c.turns < n → HaltsFrom r p c m
  within_turns zero c m lt = absurd (omega arith)
  within_turns (suc n) c m lt =
      ⊎_elim (λ h. within_turns n c m h) (λ e. within_turn n (λ c' m' lt'. within_turns n c' m' lt') (suc (work_size c.now.work + rest_size c)) c m e
      (omega arith)) side
    where
      side : (c.turns < n) ⊎ (c.turns ≡ n)
      side = grind arith

  -- a run that has halted stays as it is
  halted_stays : (k : ℕ) (c : Control) (m : M) (h : Halt) → c.halt ≡ Some h → (steps r (interaction p) k c m).control ≡ c
  halted_stays zero c m h e = refl
  halted_stays (suc k) c m h e =
      ap (λ (s : State Control M). (steps r (interaction p) k s.control s.memory).control) (ap (λ x. interpret r (interaction_of p c x) m) e)
      ∙ halted_stays k c m h e

  -- two numbers of steps at which a run has halted show the same
  one_end : (j k : ℕ) (c : Control) (m : M) (g h : Halt) → (steps r (interaction p) j c m).control.halt ≡ Some g
      → (steps r (interaction p) k c m).control.halt ≡ Some h
      → (steps r (interaction p) j c m).control ≡ (steps r (interaction p) k c m).control
  one_end zero k c m g h e f = sym (halted_stays k c m g e)
  one_end (suc j) zero c m g h e f = halted_stays (suc j) c m h f
  one_end (suc j) (suc k) c m g h e f = let s = interpret r (interaction p c) m in one_end j k s.control s.memory g h e f

module _ {M : Type 0} (memory : Memory M) (m : M) (r : Run) where
  has_meaning : (x : Report) × Means (seen memory m r) x
  has_meaning =
      let c = start r.core r.input r.turns in
      let h = within_turns memory (setting r) (suc c.turns) c m (omega arith) in
      (seen memory m r h.0, record { count = h.0; seen = refl; halt = h.1; halted = h.2 })

  one_meaning : (a b : Report) → Means (seen memory m r) a → Means (seen memory m r) b → a ≡ b
  one_meaning a b x y =
      sym x.seen ∙ ap (λ c. report r.input r.turns c) (one_end memory (setting r) x.count y.count (start r.core r.input r.turns) m x.halt y.halt
      (ap (λ z. z.halt) x.seen ∙ x.halted) (ap (λ z. z.halt) y.seen ∙ y.halted)) ∙ y.seen

pub every_run_ends : EveryRunEnds
every_run_ends = record { copying = λ r. has_meaning copying no_copies r; lending = λ r. has_meaning lending no_cells r }

pub one_meaning_each : OneMeaning
one_meaning_each = record { copying = λ r. one_meaning copying no_copies r; lending = λ r. one_meaning lending no_cells r }
