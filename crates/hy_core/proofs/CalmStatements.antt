-- Statements of a core that has a flow: each step is calm.
use Rattle.std.proofs.Common.{◌≡◌, ◌≢◌, inl, inr, ℕ, suc, Bool, true, false, cond, if◌then◌else◌, List}
use Rattle.std.proofs.Common.{[], ◌∷◌, ◌++◌, length, Option, Some, None, refl, sym, ap, ◌∙◌}
use Rattle.std.proofs.Common.{subst}
use Rattle.hy_base.specs.declared.numbers.IntegerType.TheVariants.{Int}
use Rattle.hy_base.specs.declared.run.TrapKind.{TrapKind}
use Rattle.std.specs.Prelude.{Result, Ok, Err, ℤ, pos, not}
use Rattle.hy_base.specs.declared.run.End.TheVariants as end
use Rattle.hy_base.specs.declared.run.TrapKind.TheVariants as trap
use Rattle.hy_core.specs.Plain.{Place, Operator, Add, Sub, Mul, Div, Rem, Neg, Convert, Eq, Lt, Le, Not, NewArray, Push, Pop, Swap, Count, FreeArray, Print}
use Rattle.hy_core.specs.Plain.{Read, Check, lent_types}
use Rattle.hy_core.specs.Values.{Val, Number, Truth, Array, Vals, No, And, many}
use Rattle.hy_core.specs.Memory.{Key, Spot, Way, Reads, Writes}
use Rattle.hy_core.specs.Runs as effect
use Rattle.hy_core.specs.Runs.{Interaction, Fetch, Inspect, Perform, Return, apply, interpret, steps}
use Rattle.hy_base.specs.Lines.{Got, read_line}
use Rattle.hy_base.specs.Lines as lines
use Rattle.hy_core.specs.Operators.{line_of, index_in, at_end, popped}
use Rattle.hy_core.specs.Calm.{MayWrite}
use Rattle.hy_core.specs.Control.{Work, Ends, Stuck, Control, Setting, with_work, with_some, trapped, read, take, write, read_number, read_flag, read_array}
use Rattle.hy_core.specs.Control.{sleeper_of}
use Rattle.hy_core.specs.Statements.{changes_one, with_one, with_two, with_three, store_to, give, arithmetic, compares, pop, swapped, swap, prints, reads}
use Rattle.hy_core.specs.Statements.{built}
use Rattle.hy_core.specs.Typing.{Among, all, still, place_type}
use Rattle.hy_core.specs.Flow.{Holder, InLocal, InSubscript, OpenPlace, Loan, Status, Own, Param, Opened, Bound, FlowState, Signature, Context, set_local}
use Rattle.hy_core.specs.Flow.{with_init, with_status, with_open_place, IsOpen, none_set, all_set, is_exact, IsShutAt, MayReadAt, MayWriteAt, MayOpenAt}
use Rattle.hy_core.specs.Flow.{IndexesOk, ReadOk, ChangeOk, StoreOk, GiveOk, TakeOk, given, stored_as, constant_state, form_or_unknown}
use Rattle.hy_core.specs.Flow.{set_to, stored_if, stored, FlowsInto, Stores, Computes, opened, LendOk}
use Rattle.hy_core.specs.Flow.{come_back, Without, Closes, Slides, HandOk, HandsOk, come_from, held_by, TakesOk, all_given, Calls, Projects, IsLast}
use Rattle.hy_core.specs.Flow.{TransfersBuilt, Around, NoLoop, InLoop, TransfersAll, Transfers, first_status, first, BodyFlows, HasFlow}
use Rattle.hy_core.specs.Flow.{InitMap, IsEmpty, changed, counted, CountOk, compared, CompareOk, HasNoElements, retied}
use Rattle.hy_core.specs.Flow as transfer
use Rattle.hy_core.proofs.OpenPlaces.{Sound}
use Rattle.hy_core.proofs.CalmWalks.{Slots, at, mem, over, stands, Good, GoodAt, View, exact_indexes, good_tell, good_some, good_trap, good_index}
use Rattle.hy_core.proofs.CalmWalks.{may_write, good_read, good_take, good_write, good_read_number, good_read_flag, good_read_array}
use Rattle.hy_core.proofs.CalmFrames.{Sleeping, Passes, passes_self, passes_on, flows_pass, WorkFlows, Runs, Half, half_pass, context, waits, Others}
use Rattle.hy_core.proofs.CalmFrames.{Stands, view}
use Rattle.hy_core.proofs.CalmSteps.{Like, like_with, like_count, like_id, like_stands}

-- FLOW STATES that tell the same of what is open

pub given_pass : (x : Context) (g : FlowState) (q : Place) → Passes g (given x g q)
given_pass x g q = record { status = λ j. refl; open_places = λ e i. i }

pub stored_pass : (x : Context) (g : FlowState) (q : Place) → Passes g (stored x g q)
stored_pass x g q = go (is_exact q.steps)
  where
    go : (b : Bool) → Passes g (stored_if x g q b)
    go true = record { status = λ j. refl; open_places = λ e i. i }
    go false = passes_self g

pub stored_as_pass : (x : Context) (c : InitMap) (g : FlowState) (q : Place) → Passes g (stored_as x c g q (is_exact q.steps))
stored_as_pass x c g q = go (is_exact q.steps)
  where
    go : (b : Bool) → Passes g (stored_as x c g q b)
    go true = record { status = λ j. refl; open_places = λ e i. i }
    go false = passes_self g

pub counted_pass : (x : Context) (g : FlowState) (to array : Place) → Passes g (counted x g to array)
counted_pass x g to array = record { status = λ j. refl; open_places = λ e i. i }

pub compared_pass : (x : Context) (g : FlowState) (to n : Place) → Passes g (compared x g to n)
compared_pass x g to n = record { status = λ j. refl; open_places = λ e i. i }

pub set_pass : (x : Context) (g : FlowState) (q : Place) (n : ℤ) → Passes g (set_to x g q n)
set_pass x g q n = go (is_exact q.steps)
  where
    go : (b : Bool) → Passes g (stored_as x (λ r. constant_state (form_or_unknown x (place_type x.core.types x.fun q)) n) g q b)
    go true = record { status = λ j. refl; open_places = λ e i. i }
    go false = passes_self g

pub all_given_pass : (x : Context) (g : FlowState) (qs : List Place) → Passes g (all_given x g qs)
all_given_pass x g [] = passes_self g
all_given_pass x g (q ∷ qs) = passes_on g (given x g q) (all_given x (given x g q) qs) (given_pass x g q) (all_given_pass x (given x g q) qs)

pub come_from_pass : (x : Context) (g : FlowState) (s : Signature) (i : ℕ) (ls : List ℕ) → Passes g (come_from x g s i ls)
come_from_pass x g s i [] = passes_self g
come_from_pass x g s i (l ∷ ls) =
    passes_on g (with_init g l [] (s.lent i).after) _ (record { status = λ j. refl; open_places = λ e i. i })
    (come_from_pass x (with_init g l [] (s.lent i).after) s (suc i) ls)

pub come_from_back : (x : Context) (g : FlowState) (s : Signature) (i : ℕ) (ls : List ℕ) → Passes (come_from x g s i ls) g
come_from_back x g s i [] = passes_self g
come_from_back x g s i (l ∷ ls) =
    passes_on (come_from x (with_init g l [] (s.lent i).after) s (suc i) ls) (with_init g l [] (s.lent i).after) g
    (come_from_back x (with_init g l [] (s.lent i).after) s (suc i) ls) (record { status = λ j. refl; open_places = λ e i. i })

-- a local ends: it is the body's own again, and what stood for it is no more open
pub record Ended (holder : Holder) (l : ℕ) (g d : FlowState) : Type 0 where
  pub status : (j : ℕ) → set_local g.status l Own j ≡ d.status j
  pub open_places : (e : OpenPlace) → Among e g.open_places → e.holder ≢ holder → Among e d.open_places

pub closes_end : (x : Context) (g : FlowState) (l : ℕ) (o : Loan) (d : FlowState)
    → ((h : FlowState) × Without x (InLocal l) (with_status (come_back x g l o o.way o.exact) l Own none_set) h × FlowsInto x h d) → Ended (InLocal l) l g d
closes_end x g l o d t = record {
  status = λ j. ap (λ s. set_local s l Own j) (sym (same o.way o.exact)) ∙ sym (ap (λ s. s j) t.1.status) ∙ t.2.status j;
  open_places = λ e i n. t.2.open_places e (t.1.open_places e (subst (Among e) (sym (same_open_places o.way o.exact)) i) n);
}
  where
    same : (w : Way) (b : Bool) → (come_back x g l o w b).status ≡ g.status
    same Reads b = refl
    same Writes true = refl
    same Writes false = refl

    same_open_places : (w : Way) (b : Bool) → (come_back x g l o w b).open_places ≡ g.open_places
    same_open_places Reads b = refl
    same_open_places Writes true = refl
    same_open_places Writes false = refl

pub slides_end : (x : Context) (g : FlowState) (l : ℕ) (d : FlowState)
    → ((h : FlowState) × Without x (InSubscript l) (with_status g l Own none_set) h × FlowsInto x h d) → Ended (InSubscript l) l g d
slides_end x g l d t = record { status = λ j. sym (ap (λ s. s j) t.1.status) ∙ t.2.status j; open_places = λ e i n. t.2.open_places e (t.1.open_places e i n) }

module _ (p : Setting) (signatures : ℕ → Signature) (c : Control) (slots : Slots) (number : ℕ) (g : FlowState) where
  abbrev pub asl : Sleeping
  asl = sleeper_of c.asleep

  abbrev pub x : Context
  x = context p signatures number c.now.fun

  abbrev pub HalfOf : Slots → FlowState → Type 0
  HalfOf slots d = Half slots (sleeper_of c.asleep) Runs c.now.id (length (lent_types c.now.fun)) d

  abbrev pub OthersOf : Slots → Type 0
  OthersOf slots = Others p signatures slots (sleeper_of c.asleep) c.now.id c.started (waits p signatures c.now number) c.callers

  abbrev pub TS : Control → Slots → Type 0
  TS = Stands p signatures c.halt

  module _ (half : HalfOf slots g) (others : OthersOf slots) where
    -- with a flow for what is left
    abbrev pub Left : FlowState → Type 0
    Left d = WorkFlows (context p signatures number c.now.fun) c.now.id c.now.work d

    pub fine : (d : FlowState) → Passes g d → Left d → (e : Control) → Like c e → GoodAt TS (Return e) slots
    fine d l w e k vals s =
        stands (like_stands p signatures c.halt c e slots k (record {
          same = refl;
          number = number;
          flow = d;
          half =
              half_pass slots (sleeper_of c.asleep) Runs c.now.id (length (lent_types c.now.fun)) g d l half;
          goes = w;
          others = others;
        }))

    -- with other work
    pub fine_work : (d : FlowState) (w : Work) → Passes g d → WorkFlows (context p signatures number c.now.fun) c.now.id w d
        → GoodAt TS (Return (with_work c w)) slots
    fine_work d w l t vals s =
        stands (record {
          same = refl;
          number = number;
          flow = d;
          half =
              half_pass slots (sleeper_of c.asleep) Runs c.now.id (length (lent_types c.now.fun)) g d l half;
          goes = t;
          others = others;
        })

    pub V : (d : FlowState) → Passes g d → View slots c.now.id d
    V d l = view slots (sleeper_of c.asleep) c.now.id (length (lent_types c.now.fun)) d
        (half_pass slots (sleeper_of c.asleep) Runs c.now.id (length (lent_types c.now.fun)) g d l half)

    -- whatever is counted
    abbrev pub Always : (Control → Interaction Control) → Type 0
    Always go = (e : Control) → Like c e → GoodAt TS (go e) slots

    module _ (d : FlowState) (l : Passes g d) where
      pub takes : (q : Place) (go : Control → Val → Interaction Control) → TakeOk x d q → ((v : Val) → Always (λ e. go e v)) → Always (λ e. take p e q go)
      takes q go ok next e k =
          good_take p TS slots d c.now.id (V d l) (Like c) (like_count c) (like_id c) effect.Moved q go ok.give.exact ok.give.free (λ e v k. next v e k) e k

      pub values : (q : Place) (go : Control → Val → Interaction Control) → ReadOk x d q → ((v : Val) → Always (λ e. go e v)) → Always (λ e. read p e q go)
      values q go ok next e k = good_read p TS slots d c.now.id (V d l) (Like c) (like_count c) (like_id c) q go ok.indexes ok.free (λ e v k. next v e k) e k

      pub numbers : (q : Place) (go : Control → ℤ → Interaction Control) → ReadOk x d q → ((i : ℤ) → Always (λ e. go e i)) → Always (λ e. read_number p e q go)
      numbers q go ok next e k =
          good_read_number p TS slots d c.now.id (V d l) (Like c) (like_count c) (like_id c) q go ok.indexes ok.free (λ e v k. next v e k) e k

      pub flags : (q : Place) (go : Control → Bool → Interaction Control) → ReadOk x d q → ((i : Bool) → Always (λ e. go e i))
          → Always (λ e. read_flag p e q go)
      flags q go ok next e k =
          good_read_flag p TS slots d c.now.id (V d l) (Like c) (like_count c) (like_id c) q go ok.indexes ok.free (λ e v k. next v e k) e k

      pub writes : (q : Place) (v : Val) (go : Control → Interaction Control) → StoreOk x d q → Always go → Always (λ e. write p e q v go)
      writes q v go ok next e k = good_write p TS slots d c.now.id (V d l) (Like c) (like_count c) (like_id c) q v go ok.indexes ok.free next e k

      pub counts : (q : Place) (go : Control → Spot → Vals → Interaction Control) → ReadOk x d q → ((s : Spot) (vs : Vals) → Always (λ e. go e s vs))
          → Always (λ e. read_array p e q go)
      counts q go ok next e k =
          good_read_array p TS slots d c.now.id (V d l) (Like c) (like_count c) (like_id c) Reads q go ok.indexes ok.free
          (λ e u vs vals k s b there. next _ vs e k vals s) e k

      -- an array that may be changed
      pub arrays : (q : Place) (go : Control → Spot → Vals → Interaction Control) → IndexesOk d q.steps → MayWriteAt d q.local (still q.steps)
          → ((s : Spot) (vs : Vals) (e : Control) (vals : Key → Val) → Like c e → Sound (mem slots vals) → MayWrite (mem slots vals) s
          → Good TS (go e s vs) (mem slots vals)) → Always (λ e. read_array p e q go)
      arrays q go idx free next e k = good_read_array p TS slots d c.now.id (V d l) (Like c) (like_count c) (like_id c) Writes q go idx free
          (λ e u vs vals k s b there. next (record { key = at c.now.id q.local; path = u }) vs e vals k s
          (may_write p TS slots d c.now.id (V d l) (Like c) (like_count c) (like_id c) vals q.local (still q.steps) u free b there)) e k

    -- OPERATIONS

    pub stores : (h : FlowState) → Passes g h → (to : Option Place) (d : FlowState) → Stores x h to d → Left d → (v : Val) → Always (λ e. store_to p e to v)
    stores h l None d t w v = absurd t
    stores h l (Some to) d t w v =
        writes h l to v Return t.0 (fine d (passes_on g h d l (passes_on h (stored x h to) d (stored_pass x h to) (flows_pass x _ d t.1))) w)

    reads_of : (to : Option Place) (from : List Place) (d : FlowState) → Computes x g to from d → all (ReadOk x g) from
    reads_of None from d t = t.0
    reads_of (Some to) from d t = t.0

    passes_of : (to : Option Place) (from : List Place) (d : FlowState) → Computes x g to from d → Passes g d
    passes_of None from d t = flows_pass x g d t.1
    passes_of (Some to) from d t = let s : Stores x g (Some to) d = t.1 in passes_on g (stored x g to) d (stored_pass x g to) (flows_pass x _ d s.1)

    store_of : (to : Option Place) (from : List Place) (d : FlowState) → Computes x g to from d → Left d → (v : Val) → Always (λ e. store_to p e to v)
    store_of None from d t w v = λ e k vals s. over Stuck refl (λ e. absurd (cc))
    store_of (Some to) from d t w v = stores g (passes_self g) (Some to) d t.1 w v

    one_of : {A : Type 0} (P : A → Type 0) (e : Control) (xs : List A) (go : A → Interaction Control) → all P xs → ((a : A) → P a → GoodAt TS (go a) slots)
        → GoodAt TS (with_one e xs go) slots
    one_of P e [] go ok h = λ vals s. over Stuck refl (λ e. absurd (cc))
    one_of P e (a ∷ []) go ok h = h a ok.0
    one_of P e (a ∷ (b ∷ as')) go ok h = λ vals s. over Stuck refl (λ e. absurd (cc))

    two_of : {A : Type 0} (P : A → Type 0) (e : Control) (xs : List A) (go : A → A → Interaction Control) → all P xs
        → ((a b : A) → P a → P b → GoodAt TS (go a b) slots) → GoodAt TS (with_two e xs go) slots
    two_of P e [] go ok h = λ vals s. over Stuck refl (λ e. absurd (cc))
    two_of P e (a ∷ as') go ok h = one_of P e as' (go a) ok.1 (λ b okb. h a b ok.0 okb)

    one_span : {A : Type 0} (e : Control) (xs : List A) (go : A → Interaction Control)
        → ((a : A) → GoodAt TS (go a) slots) → GoodAt TS (with_one e xs go) slots
    one_span e [] go h = λ vals s. over Stuck refl (λ e. absurd (cc))
    one_span e (a ∷ []) go h = h a
    one_span e (a ∷ (b ∷ as')) go h = λ vals s. over Stuck refl (λ e. absurd (cc))

    two_spans : {A : Type 0} (e : Control) (xs : List A) (go : A → A → Interaction Control) → ((a b : A) → GoodAt TS (go a b) slots)
        → GoodAt TS (with_two e xs go) slots
    two_spans e [] go h = λ vals s. over Stuck refl (λ e. absurd (cc))
    two_spans e (a ∷ as') go h = one_span e as' (go a) (h a)

    pub some_at : {A : Type 0} (e : Control) (o : Option A) (go : A → Interaction Control) → ((a : A) → GoodAt TS (go a) slots)
        → GoodAt TS (with_some e o go) slots
    some_at e o go h vals s = good_some p TS e o go (mem slots vals) (λ a _. h a vals s)

    module _ (to : Option Place) (from : List Place) (d : FlowState) (t : Computes x g to from d) (w : Left d) where
      gives : (s : ℕ) (r : Result Val TrapKind) → Always (λ e. give p e to s r)
      gives s (Ok v) = λ e k. store_of to from d t w v e k
      gives s (Err kind) = λ e k vals y. good_trap p TS e kind s (mem slots vals)

      calculates : (spans : List ℕ) (f : Val → Val → Option (Result Val TrapKind)) → Always (λ e. arithmetic p e to from spans f)
      calculates spans f e k = two_of (ReadOk x g) e from _ (reads_of to from d t) (λ a b oka okb. one_span e spans _ (λ s.
          values g (passes_self g) a _ oka (λ v. values g (passes_self g) b _ okb (λ u e k.
          some_at e (f v u) _ (λ r. gives s r e k))) e k))

      changes : (spans : List ℕ) (f : Val → Option (Result Val TrapKind)) → Always (λ e. changes_one p e to from spans f)
      changes spans f e k = one_of (ReadOk x g) e from _ (reads_of to from d t) (λ a ok. one_span e spans _ (λ s.
          values g (passes_self g) a _ ok (λ v e k. some_at e (f v) _ (λ r. gives s r e k)) e k))

      comparing : (f : Val → Val → Option Bool) → Always (λ e. compares p e to from f)
      comparing f e k = two_of (ReadOk x g) e from _ (reads_of to from d t) (λ a b oka okb.
          values g (passes_self g) a _ oka (λ v. values g (passes_self g) b _ okb (λ u e k.
          some_at e (f v u) _ (λ y. store_of to from d t w (Truth y) e k))) e k)

      inverts : Always (λ e. with_one e from (λ a. read_flag p e a (λ e b. store_to p e to (Truth (not b)))))
      inverts e k =
          one_of (ReadOk x g) e from _ (reads_of to from d t) (λ a ok. flags g (passes_self g) a _ ok (λ b. store_of to from d t w (Truth (not b))) e k)

      counting : Always (λ e. with_one e from (λ array. read_array p e array (λ e s vs. store_to p e to (Number Int (pos (many vs))))))
      counting e k =
          one_of (ReadOk x g) e from _ (reads_of to from d t)
          (λ a ok. counts g (passes_self g) a _ ok (λ s vs. store_of to from d t w (Number Int (pos (many vs)))) e k)

      printing : Always (λ e. with_one e from (λ a. read p e a (λ e v. prints e (line_of v))))
      printing e k = one_of (ReadOk x g) e from _ (reads_of to from d t) (λ a ok. values g (passes_self g) a _ ok (λ v e k. some_at e (line_of v) _ (λ bytes.
          fine d (passes_of to from d t) w (record e { output = e.output ++ bytes }) (like_with c e e.turns e.opened e.input (e.output ++ bytes) k))) e k)

      reading : (s : ℕ) (got : Got) → Always (λ e. reads p e to s got)
      reading s (lines.Gives n rest) e k = store_of to from d t w (Number Int n) (record e { input = rest }) (like_with c e e.turns e.opened rest e.output k)
      reading s (lines.Fails rest) e k = λ vals y. good_trap p TS (record e { input = rest }) trap.Input s (mem slots vals)
      reading s lines.Wants e k = λ vals y. over (Ends end.Asks) refl (λ e. absurd (cc))

      checking : (spans : List ℕ)
          → Always (λ e. with_one e from (λ a. with_one e spans (λ s. read_flag p e a (λ e b. if b then Return e else trapped p e trap.Precondition s))))
      checking spans e k =
          one_of (ReadOk x g) e from _ (reads_of to from d t) (λ a ok. one_span e spans _ (λ s. flags g (passes_self g) a _ ok (λ b. tests s b) e k))
        where
          tests : (s : ℕ) (b : Bool) → Always (λ e. cond b (Return e) (trapped p e trap.Precondition s))
          tests s true = fine d (passes_of to from d t) w
          tests s false = λ e k vals y. good_trap p TS e trap.Precondition s (mem slots vals)

    pushing : (from : List Place) (d : FlowState) → transfer.Two x from (λ array a. TakeOk x g a × ChangeOk x (given x g a) array
        × FlowsInto x (changed x (given x g a) array) d) → Left d
        → Always (λ e. with_two e from
        (λ array a. take p e a (λ e v. read_array p e array (λ e s vs. Perform (effect.Change s (Array (at_end vs v))) (Return e)))))
    pushing [] d t w e k = absurd t
    pushing (array ∷ []) d t w e k = absurd t
    pushing (array ∷ (a ∷ (b ∷ more))) d t w e k = λ vals s. over Stuck refl (λ e. absurd (cc))
    pushing (array ∷ (a ∷ [])) d t w e k =
        takes g (passes_self g) a _ t.0 (λ v. arrays (given x g a) (given_pass x g a) array _ t.1.indexes t.1.free (λ s vs e vals k y may.
        good_tell p TS (effect.Change s (Array (at_end vs v))) (Return e) (mem slots vals) y may
        (λ y. fine d (passes_on g (given x g a) d (given_pass x g a)
        (passes_on (given x g a) (stored x (given x g a) array) d (stored_pass x (given x g a) array) (flows_pass x _ d t.2))) w e k _ y))) e k

    popping : (to : Option Place) (from : List Place) (spans : List ℕ) (d : FlowState)
        → transfer.One x from (λ array. ChangeOk x g array × Stores x (changed x g array) to d)
        → Left d
        → Always (λ e. with_one e from (λ array. with_one e spans (λ s. read_array p e array (λ e at vs. pop p e to s at vs))))
    popping to [] spans d t w e k = absurd t
    popping to (array ∷ (b ∷ more)) spans d t w e k = λ vals s. over Stuck refl (λ e. absurd (cc))
    popping to (array ∷ []) spans d t w e k =
        one_span e spans _ (λ s. arrays g (passes_self g) array _ t.0.indexes t.0.free (λ at vs e vals k y may. pops s at vs e vals k y may) e k)
      where
        pops : (s : ℕ) (at : Spot) (vs : Vals) (e : Control) (vals : Key → Val) → Like c e → Sound (mem slots vals) → MayWrite (mem slots vals) at
            → Good TS (pop p e to s at vs) (mem slots vals)
        pops s at No e vals k y may = good_trap p TS e trap.Empty s (mem slots vals)
        pops s at (And v vs) e vals k y may =
            good_tell p TS (effect.Change at (Array (popped v vs).rest)) (store_to p e to (popped v vs).last) (mem slots vals) y may
            (λ y. stores (stored x g array) (stored_pass x g array) to d t.1 w (popped v vs).last e k _ y)

    swapping : (from : List Place) (spans : List ℕ) (d : FlowState)
        → transfer.Three x from (λ array a b. ReadOk x g a × ReadOk x g b × ChangeOk x g array × FlowsInto x (changed x g array) d) → Left d
        → Always (λ e. with_three e from (λ array a b. with_two e spans (λ s t. swap p e array a b s t)))
    swapping [] spans d t w e k = absurd t
    swapping (array ∷ []) spans d t w e k = absurd t
    swapping (array ∷ (a ∷ [])) spans d t w e k = absurd t
    swapping (array ∷ (a ∷ (b ∷ (z ∷ more)))) spans d t w e k = λ vals s. over Stuck refl (λ e. absurd (cc))
    swapping (array ∷ (a ∷ (b ∷ []))) spans d t w e k =
        two_spans e spans _
        (λ s s'. numbers g (passes_self g) a _ t.0 (λ i. numbers g (passes_self g) b _ t.1
        (λ j. arrays g (passes_self g) array _ t.2.indexes t.2.free (λ at vs e vals k y may.
        good_index p TS e s 0 (index_in (many vs) i) _ (mem slots vals) (λ i _. good_index p TS e s' 0 (index_in (many vs) j) _ (mem slots vals) (λ j _.
        good_tell p TS (effect.Change at (Array (swapped i j vs))) (Return e) (mem slots vals) y may
        (λ y. fine d (passes_on g (stored x g array) d (stored_pass x g array) (flows_pass x _ d t.3)) w e k _ y)))))) e k)

    freeing : (from : List Place) (d : FlowState) → transfer.One x from (λ array. TakeOk x g array
        × FlowsInto x (given x g array) d × HasNoElements x g array) → Left d
        → Always (λ e. with_one e from (λ array. read_array p e array (λ e at vs. Perform (effect.Clear at effect.Discarded) (Return e))))
    freeing [] d t w e k = absurd t
    freeing (array ∷ (b ∷ more)) d t w e k = λ vals s. over Stuck refl (λ e. absurd (cc))
    freeing (array ∷ []) d t w e k = arrays g (passes_self g) array _ (exact_indexes g array.steps t.0.give.exact) t.0.give.free (λ at vs e vals k y may.
        good_tell p TS (effect.Clear at effect.Discarded) (Return e) (mem slots vals) y may
        (λ y. fine d (passes_on g (given x g array) d (given_pass x g array) (flows_pass x _ d t.1)) w e k _ y)) e k

    making : (to : Option Place) (d : FlowState) → transfer.StoresAs x (λ q. IsEmpty) g to d → Left d → (v : Val) → Always (λ e. store_to p e to v)
    making None d t w v = absurd t
    making (Some to) d t w v = writes g (passes_self g) to v Return t.0
        (fine d (passes_on g _ d (stored_as_pass x (λ q. IsEmpty) g to) (flows_pass x _ d t.1)) w)

    -- what is told of an array changes nothing of what is open
    counting_to : (to : Place) (from : List Place) (d : FlowState) → transfer.One x from (λ a. CountOk x g to a × FlowsInto x (counted x g to a) d) → Left d
        → Always (λ e. with_one e from (λ array. read_array p e array (λ e s vs. store_to p e (Some to) (Number Int (pos (many vs))))))
    counting_to to [] d t w e k = absurd t
    counting_to to (a ∷ (b ∷ more)) d t w e k = λ vals s. over Stuck refl (λ e. absurd (cc))
    counting_to to (a ∷ []) d t w e k = counts g (passes_self g) a _ t.0.read (λ s vs. writes g (passes_self g) to _ Return t.0.store
        (fine d (passes_on g (counted x g to a) d (counted_pass x g to a) (flows_pass x _ d t.1)) w)) e k

    comparing_to : (to : Place) (from : List Place) (d : FlowState) (f : Val → Val → Option Bool)
        → transfer.Two x from (λ a b. CompareOk x g to a b × FlowsInto x (compared x g to b) d) → Left d → Always (λ e. compares p e (Some to) from f)
    comparing_to to [] d f t w e k = absurd t
    comparing_to to (a ∷ []) d f t w e k = absurd t
    comparing_to to (a ∷ (b ∷ (z ∷ more))) d f t w e k = λ vals s. over Stuck refl (λ e. absurd (cc))
    comparing_to to (a ∷ (b ∷ [])) d f t w e k = values g (passes_self g) a _ t.0.read_zero (λ v. values g (passes_self g) b _ t.0.read (λ u e k.
        some_at e (f v u) _ (λ y. writes g (passes_self g) to (Truth y) Return t.0.store
        (fine d (passes_on g (compared x g to b) d (compared_pass x g to b) (flows_pass x _ d t.1)) w) e k))) e k

    pub built_good : (o : Operator) (to : Option Place) (from : List Place) (spans : List ℕ) (d : FlowState) → TransfersBuilt x o to from g d → Left d
        → Always (λ e. built p e o to from spans)
    built_good Add to from spans d t w = calculates to from d t w spans _
    built_good Sub to from spans d t w = calculates to from d t w spans _
    built_good Mul to from spans d t w = calculates to from d t w spans _
    built_good Div to from spans d t w = calculates to from d t w spans _
    built_good Rem to from spans d t w = calculates to from d t w spans _
    built_good Neg to from spans d t w = changes to from d t w spans _
    built_good (Convert u) to from spans d t w = changes to from d t w spans _
    built_good Eq to from spans d t w = comparing to from d t w _
    built_good Lt to from spans d (inl t) w = comparing to from d t w _
    built_good Lt None from spans d (inr t) w = absurd t
    built_good Lt (Some to) from spans d (inr t) w = comparing_to to from d _ t w
    built_good Le to from spans d t w = comparing to from d t w _
    built_good Not to from spans d t w = inverts to from d t w
    built_good NewArray to from spans d t w = making to d t w (Array No)
    built_good Push to from spans d t w = pushing from d t w
    built_good Pop to from spans d t w = popping to from spans d t w
    built_good Swap to from spans d t w = swapping from spans d t w
    built_good Count to from spans d (inl t) w = counting to from d t w
    built_good Count None from spans d (inr t) w = absurd t
    built_good Count (Some to) from spans d (inr t) w = counting_to to from d t w
    built_good FreeArray to from spans d t w = freeing from d t.1 w
    built_good Print to from spans d t w = printing to from d t w
    built_good Read to from spans d t w = λ e k. one_span e spans _ (λ s. reading to from d t w s (read_line p.cut e.input) e k)
    built_good Check to from spans d t w = checking to from d t w spans
