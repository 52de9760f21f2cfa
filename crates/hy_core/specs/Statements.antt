-- What one step of a core does: the interaction of its control with a memory.
use Rattle.std.specs.Prelude.{cond, ℕ, zero, suc, ◌==◌, nat_lt, Bool, true, false, not, ◌&&◌, if◌then◌else◌, List, [], ◌∷◌, ◌++◌, length, Option, Some}
use Rattle.std.specs.Prelude.{None, slice_get, Result, Ok, Err, ℤ, pos, negsuc, int_lt, int_le}
use Rattle.hy_base.specs.declared.numbers.IntegerType.TheVariants.{Int}
use Rattle.hy_base.specs.declared.numbers.Operation.TheVariants as operation
use Rattle.hy_base.specs.declared.run.TrapKind.{TrapKind}
use Rattle.hy_base.specs.declared.run.End.TheVariants as end
use Rattle.hy_base.specs.declared.run.TrapKind.TheVariants as trap
use Rattle.hy_types.specs.declared.kinds.TyId.{TyId}
use Rattle.hy_core.specs.Plain.{Step, Part, Index, Place, Operator, Add, Sub, Mul, Div, Rem, Neg, Convert, Eq, Lt, Le, Not, NewArray, Push, Pop, Swap}
use Rattle.hy_core.specs.Plain.{Count, FreeArray, Print, Read, Check, Stmts, Done, Then, Stmt, Built, Set, Lend, Close, Move, Copy, Drop, Call, Project}
use Rattle.hy_core.specs.Plain.{Slide, Yield, If, While, Break, Continue, Leave, Fun, lent_types, is_ramp, Deinit, Core}
use Rattle.hy_core.specs.Values.{Val, Unset, Number, Truth, Tuple, Product, Array, Vals, No, And, PartAt, ElementAt, many, nth, with_nth, all_whole, is_blank}
use Rattle.hy_core.specs.Memory.{Key, Spot, whole, below, Way, Reads, Writes}
use Rattle.hy_core.specs.Operators.{operated, negated, converted, ordered, same_flags, equal, line_of, index_in, at_end, popped}
use Rattle.hy_base.specs.Lines.{Got, read_line}
use Rattle.hy_base.specs.Lines as lines
use Rattle.hy_core.specs.Runs as effect
use Rattle.hy_core.specs.Runs.{Interaction, Fetch, Inspect, Perform, Return}
use Rattle.hy_core.specs.Control.{Form, Numbers, Flags, Tuples, Products, Arrays, Unknown, form, Deed, Body, EachOf, Element, Task, Do, Value, PartsOf}
use Rattle.hy_core.specs.Control.{Unsets, Work, Idle, Rest, Loop, Test, Drops, Dest, Opens, Nowhere, Activation, Nap, Halt, Ends, Stuck, NotSet, NotOpened}
use Rattle.hy_core.specs.Control.{Control, Stage, Deinitialises, GivesUp, Setting, stop, with_work, key, count_one, with_some, trapped, turn, with_number}
use Rattle.hy_core.specs.Control.{with_flag, with_array, with_set, with_index, Aim, ToRead, ToWrite, ToDrop, spot, read, take, take_as, write, read_number}
use Rattle.hy_core.specs.Control.{read_flag, read_array, sleeper_of, wake}
use Rattle.hy_core.specs.Control as control

-- BUILT-IN OPERATIONS

abbrev pub with_none : {A : Type 0} → Control → List A → Interaction Control → Interaction Control
with_none c [] t = t
with_none c (x ∷ xs) t = stop c Stuck

abbrev pub with_one : {A : Type 0} → Control → List A → (A → Interaction Control) → Interaction Control
with_one c [] go = stop c Stuck
with_one c (x ∷ xs) go = with_none c xs (go x)

abbrev pub with_two : {A : Type 0} → Control → List A → (A → A → Interaction Control) → Interaction Control
with_two c [] go = stop c Stuck
with_two c (x ∷ xs) go = with_one c xs (go x)

abbrev pub with_three : {A : Type 0} → Control → List A → (A → A → A → Interaction Control) → Interaction Control
with_three c [] go = stop c Stuck
with_three c (x ∷ xs) go = with_two c xs (go x)

-- stores a value, and goes on
abbrev pub store_to : Setting → Control → Option Place → Val → Interaction Control
store_to p c to v = with_some c to (λ place. write p c place v Return)

-- stores the result of an operation, or traps
abbrev pub give : Setting → Control → Option Place → (span : ℕ) → Result Val TrapKind → Interaction Control
give p c to s (Ok v) = store_to p c to v
give p c to s (Err kind) = trapped p c kind s

-- the result of an operation on one value, and on two
abbrev pub changes_one : Setting → Control → Option Place → List Place → List ℕ → (Val → Option (Result Val TrapKind)) → Interaction Control
changes_one p c to from spans f =
    with_one c from (λ a. with_one c spans (λ s. read p c a (λ c v. with_some c (f v) (λ r. give p c to s r))))

abbrev pub arithmetic : Setting → Control → Option Place → List Place → List ℕ → (Val → Val → Option (Result Val TrapKind)) → Interaction Control
arithmetic p c to from spans f =
    with_two c from (λ a b. with_one c spans (λ s. read p c a (λ c v. read p c b (λ c w. with_some c (f v w) (λ r. give p c to s r)))))

abbrev pub compares : Setting → Control → Option Place → List Place → (Val → Val → Option Bool) → Interaction Control
compares p c to from f =
    with_two c from (λ a b. read p c a (λ c v. read p c b (λ c w. with_some c (f v w) (λ e. store_to p c to (Truth e)))))

abbrev pub pop : Setting → Control → Option Place → (span : ℕ) → Spot → Vals → Interaction Control
pop p c to s at No = trapped p c trap.Empty s
pop p c to s at (And v vs) = let x = popped v vs in Perform (effect.Change at (Array x.rest)) (store_to p c to x.last)

abbrev pub swapped : ℕ → ℕ → Vals → Vals
swapped i j vs = with_nth i (nth j vs) (with_nth j (nth i vs) vs)

abbrev pub swap : Setting → Control → (array a b : Place) → (span_a span_b : ℕ) → Interaction Control
swap p c array a b s t = read_number p c a (λ c x. read_number p c b (λ c y. read_array p c array (λ c at vs.
    with_index p c s (index_in (many vs) x) (λ i. with_index p c t (index_in (many vs) y) (λ j.
    Perform (effect.Change at (Array (swapped i j vs))) (Return c))))))

abbrev pub prints : Control → Option (List ℕ) → Interaction Control
prints c line = with_some c line (λ bytes. Return (record c { output = c.output ++ bytes }))

abbrev pub reads : Setting → Control → Option Place → (span : ℕ) → Got → Interaction Control
reads p c to s (lines.Gives n rest) = store_to p (record c { input = rest }) to (Number Int n)
reads p c to s (lines.Fails rest) = trapped p (record c { input = rest }) trap.Input s
reads p c to s lines.Wants = stop (record c { input = [] }) (Ends end.Asks)

abbrev pub built : Setting → Control → Operator → Option Place → List Place → List ℕ → Interaction Control
built p c Add to from spans = arithmetic p c to from spans (operated operation.Add)
built p c Sub to from spans = arithmetic p c to from spans (operated operation.Sub)
built p c Mul to from spans = arithmetic p c to from spans (operated operation.Mul)
built p c Div to from spans = arithmetic p c to from spans (operated operation.Div)
built p c Rem to from spans = arithmetic p c to from spans (operated operation.Rem)
built p c Neg to from spans = changes_one p c to from spans negated
built p c (Convert t) to from spans = changes_one p c to from spans (converted t)
built p c Eq to from spans = compares p c to from equal
built p c Lt to from spans = compares p c to from (ordered int_lt)
built p c Le to from spans = compares p c to from (ordered int_le)
built p c Not to from spans = with_one c from (λ a. read_flag p c a (λ c b. store_to p c to (Truth (not b))))
built p c NewArray to from spans = store_to p c to (Array No)
built p c Push to from spans =
    with_two c from (λ array a. take p c a (λ c v. read_array p c array (λ c at vs. Perform (effect.Change at (Array (at_end vs v))) (Return c))))
built p c Pop to from spans = with_one c from (λ array. with_one c spans (λ s. read_array p c array (λ c at vs. pop p c to s at vs)))
built p c Swap to from spans = with_three c from (λ array a b. with_two c spans (λ s t. swap p c array a b s t))
built p c Count to from spans = with_one c from (λ array. read_array p c array (λ c at vs. store_to p c to (Number Int (pos (many vs)))))
built p c FreeArray to from spans = with_one c from (λ array. read_array p c array (λ c at vs. Perform (effect.Clear at effect.Discarded) (Return c)))
built p c Print to from spans = with_one c from (λ a. read p c a (λ c v. prints c (line_of v)))
built p c Read to from spans = with_one c spans (λ s. reads p c to s (read_line p.cut c.input))
built p c Check to from spans =
    with_one c from (λ a. with_one c spans (λ s. read_flag p c a (λ c b. if b then Return c else trapped p c trap.Precondition s)))

-- the value that a `Set` stores at a place of that form
abbrev pub constant : Form → ℤ → Option Val
constant (Numbers t) n = Some (Number t n)
constant Flags (pos zero) = Some (Truth false)
constant Flags (pos (suc n)) = Some (Truth true)
constant Flags (negsuc n) = None
constant (Tuples []) n = Some (Tuple No)
constant (Tuples (t ∷ ts)) n = None
constant (Products d []) n = Some (Product d No)
constant (Products d (t ∷ ts)) n = None
constant (Arrays t) n = None
constant Unknown n = None

-- COPIES

-- what is left of the turns, and how many places are opened, once the arrays of a value are copied; or how many are when a
-- turn is wanted and none is left
pub data Charge : Type 0 where
  Paid : (turns opened : ℕ) → Charge
  Unpaid : (opened : ℕ) → Charge

abbrev pub and_pay : Charge → (ℕ → ℕ → Charge) → Charge
and_pay (Paid n o) go = go n o
and_pay (Unpaid o) go = Unpaid o

abbrev pub pay_turn : ℕ → ℕ → (ℕ → Charge) → Charge
pay_turn zero o go = Unpaid o
pay_turn (suc n) o go = go n

-- an array counts one opened and takes a turn; then each element takes a turn and counts one opened
abbrev mutual
  pub charge : Val → (turns opened : ℕ) → Charge
  charge Unset n o = Paid n o
  charge (Number t k) n o = Paid n o
  charge (Truth b) n o = Paid n o
  charge (Tuple vs) n o = charge_parts vs n o
  charge (Product d vs) n o = charge_parts vs n o
  charge (Array vs) n o = pay_turn n (suc o) (λ n. charge_elements vs n (suc o))

  pub charge_parts : Vals → (turns opened : ℕ) → Charge
  charge_parts No n o = Paid n o
  charge_parts (And v vs) n o = and_pay (charge v n o) (charge_parts vs)

  pub charge_elements : Vals → (turns opened : ℕ) → Charge
  charge_elements No n o = Paid n o
  charge_elements (And v vs) n o = pay_turn n o (λ n. and_pay (charge v n (suc o)) (charge_elements vs))

abbrev pub charged : Control → Charge → (Control → Interaction Control) → Interaction Control
charged c (Paid n o) go = go (record c { turns = n; opened = o })
charged c (Unpaid o) go = stop (record c { turns = zero; opened = o }) (Ends end.Spent)

-- ACTIVATIONS

abbrev pub begun : Control → Fun → Dest → Control
begun c f dest = record c {
  now = record { id = c.started; fun = f; work = Rest f.body Idle; dest = dest };
  callers = c.now ∷ c.callers;
  started = suc c.started;
}

-- hands locals of the running activation to the first locals of another, one for each type
abbrev pub hand_all : Control → (act local : ℕ) → (lent : List ℕ) → (types : List TyId) → Interaction Control → Interaction Control
hand_all c a i [] [] t = t
hand_all c a i [] (u ∷ us) t = stop c Stuck
hand_all c a i (l ∷ ls) [] t = stop c Stuck
hand_all c a i (l ∷ ls) (u ∷ us) t = Perform (effect.Hand (record { act = a; local = i }) (key c l)) (hand_all c a (suc i) ls us t)

-- moves places of the running activation to locals of another
abbrev pub move_all : Setting → Control → (act local : ℕ) → List Place → (types : List TyId) → (Control → Interaction Control) → Interaction Control
move_all p c a i [] [] go = go c
move_all p c a i [] (u ∷ us) go = stop c Stuck
move_all p c a i (x ∷ xs) [] go = stop c Stuck
move_all p c a i (x ∷ xs) (u ∷ us) go = take p c x (λ c v. Perform (effect.Store (whole (record { act = a; local = i })) v) (move_all p c a (suc i) xs us go))

-- starts a function, which is a ramp or is none
abbrev pub enter : Setting → Control → (ramp : Bool) → Option Fun → (lent : List ℕ) → (owned : List Place) → Dest → Interaction Control
enter p c ramp f lent owned dest = with_some c f (λ f. if same_flags (is_ramp f) ramp
    then move_all p c c.started (length (lent_types f)) owned f.owned
    (λ c. hand_all c c.started zero lent (lent_types f) (turn c c.turns (λ c. Return (begun c f dest))))
    else stop c Stuck)

-- closes the first locals of the running activation, the last first
abbrev pub close_all : Control → ℕ → Interaction Control → Interaction Control
close_all c zero t = t
close_all c (suc i) t = Perform (effect.Close (key c i)) (close_all c i t)

-- back to the caller; the first activation has none
abbrev pub back : Setting → Control → List Activation → Val → Dest → Interaction Control
back p c [] v dest = stop c (Ends end.Done)
back p c (a ∷ rest) v (control.Result place) = write p (record c { now = a; callers = rest }) place v Return
back p c (a ∷ rest) v (Opens l) = stop c Stuck
back p c (a ∷ rest) v Nowhere = Return (record c { now = a; callers = rest })

-- A subscript yields and sleeps. Its caller gets a local that stands for the subscript's, and goes on.
abbrev pub yield_to : Control → (of : ℕ) → List Activation → Dest → Interaction Control
yield_to c of [] dest = stop c Stuck
yield_to c of (a ∷ rest) (control.Result place) = stop c Stuck
yield_to c of (a ∷ rest) Nowhere = stop c Stuck
yield_to c of (a ∷ rest) (Opens l) =
    let k : Key = record { act = a.id; local = l } in
    Perform (effect.Hand k (key c of))
    (Return (record c { now = a; callers = rest; asleep = record { key = k; act = record (c.now) { dest = Nowhere } } ∷ c.asleep }))

-- Ends a yielded local: what follows the yield runs, and comes back here.
abbrev pub slide_of : Control → Key → Option Activation → Interaction Control
slide_of c k None = stop c NotOpened
slide_of c k (Some b) = Perform (effect.Close k) (Return (record c { now = b; callers = c.now ∷ c.callers; asleep = wake c.asleep k }))

-- A `Close` is of a local that no caller lent, and that no subscript yielded.
abbrev pub close_of : Control → (of : ℕ) → Option Activation → Interaction Control
close_of c of (Some b) = stop c NotOpened
close_of c of None = if nat_lt of (length (lent_types c.now.fun)) then stop c NotOpened else Perform (effect.Close (key c of)) (Return c)

-- A `Lend` itself is counted where its place does not end in an index step, which is.
abbrev pub is_counted : List Step → Bool
is_counted [] = true
is_counted (Part i ∷ steps) = is_counted steps
is_counted (Index l s ∷ []) = false
is_counted (Index l s ∷ (x ∷ steps)) = is_counted (x ∷ steps)

abbrev pub count_if : Bool → Control → Control
count_if true c = count_one c
count_if false c = c

abbrev pub way : Bool → Way
way true = Writes
way false = Reads

abbrev pub aim : Bool → Aim
aim true = ToWrite
aim false = ToRead

-- DEINITIALISING

abbrev pub deinit_of : List Deinit → ℕ → Option ℕ
deinit_of [] d = None
deinit_of (x ∷ xs) d = cond (x.product == d) (Some x.fun) (deinit_of xs d)

abbrev pub is_there : {A : Type 0} → Option A → Bool
is_there None = false
is_there (Some a) = true

-- What deinitialising a value does first to its parts, in order: the body of each product that has one and is set as a
-- whole, and each array. What is unset, a number or a truth value has nothing.
abbrev mutual
  pub deeds : List Deinit → Spot → Val → List Deed
  deeds ds s Unset = []
  deeds ds s (Number t n) = []
  deeds ds s (Truth b) = []
  deeds ds s (Tuple vs) = deeds_from ds s zero vs
  deeds ds s (Product d vs) = if is_there (deinit_of ds d) && all_whole vs then Body d s ∷ [] else deeds_from ds s zero vs
  deeds ds s (Array vs) = EachOf (many vs) s ∷ []

  pub deeds_from : List Deinit → Spot → ℕ → Vals → List Deed
  deeds_from ds s i No = []
  deeds_from ds s i (And v vs) = deeds ds (below s (PartAt i ∷ [])) v ++ deeds_from ds s (suc i) vs

abbrev pub part_deeds : List Deinit → Spot → Val → List Deed
part_deeds ds s Unset = []
part_deeds ds s (Number t n) = []
part_deeds ds s (Truth b) = []
part_deeds ds s (Tuple vs) = deeds_from ds s zero vs
part_deeds ds s (Product d vs) = deeds_from ds s zero vs
part_deeds ds s (Array vs) = []

-- the elements from the last of them back
abbrev pub elements : Spot → (count : ℕ) → List Task → List Task
elements s zero ts = ts
elements s (suc i) ts = elements s i (Do (Element (below s (ElementAt i ∷ []))) ∷ ts)

abbrev pub doing : List Deed → List Task → List Task
doing [] ts = ts
doing (d ∷ ds) ts = Do d ∷ doing ds ts

-- a product of that declaration that is set at every depth
abbrev pub is_whole_product : (declaration : ℕ) → Val → Bool
is_whole_product d Unset = false
is_whole_product d (Number t n) = false
is_whole_product d (Truth b) = false
is_whole_product d (Tuple vs) = false
is_whole_product d (Product e vs) = (e == d) && all_whole vs
is_whole_product d (Array vs) = false

-- The first activation of a body of a deinitialiser, which is lent the place. Where no whole product stands there, no body runs.
abbrev pub deinit_body : Control → (declaration : ℕ) → Spot → Option Fun → Interaction Control
deinit_body c d s f =
    with_some c f
    (λ f. turn (count_one c) c.turns (λ c. Fetch s (λ v. if is_whole_product d v
    then Perform (effect.Lend (record { act = c.started; local = zero }) s Writes) (Return (begun c f Nowhere))
    else Return c)))

-- Each of these takes a turn. A body counts one opened before its turn and an array too, an element after it.
abbrev pub does_deed : Setting → Control → Work → Deed → List Task → Interaction Control
does_deed p c w (Body d s) ts =
    with_some c (deinit_of p.core.deinits d) (λ n. deinit_body (with_work c (Drops (PartsOf s ∷ ts) w)) d s (slice_get p.core.funs n))
does_deed p c w (EachOf n s) ts = turn (count_one c) c.turns (λ c. Return (with_work c (Drops (elements s n ts) w)))
does_deed p c w (Element s) ts = turn c c.turns (λ c. Return (with_work (count_one c) (Drops (Value s ∷ ts) w)))

-- the first deed, or what there is to do without one
abbrev pub first_deed : Setting → Control → Work → List Deed → List Task → Interaction Control → Interaction Control
first_deed p c w [] ts t = t
first_deed p c w (d ∷ ds) ts t = does_deed p c w d (doing ds ts)

-- leaves a place unset, where something is set in it
abbrev pub clears : Spot → (blank : Bool) → Interaction Control → Interaction Control
clears s true t = t
clears s false t = Perform (effect.Clear s effect.Deinitialised) t

-- goes on with a deinitialisation up to its next turn
abbrev pub does_tasks : Setting → Control → Work → List Task → Interaction Control
does_tasks p c w [] = Return (with_work c w)
does_tasks p c w (Do d ∷ ts) = does_deed p c w d ts
does_tasks p c w (Value s ∷ ts) = Fetch s (λ v. first_deed p c w (deeds p.core.deinits s v) ts (does_tasks p c w ts))
does_tasks p c w (PartsOf s ∷ ts) = Fetch s (λ v. first_deed p c w (part_deeds p.core.deinits s v) ts (does_tasks p c w ts))
does_tasks p c w (Unsets s ∷ ts) = Fetch s (λ v. clears s (is_blank v) (does_tasks p c w ts))

abbrev pub drop : Setting → Stage → Control → Place → Interaction Control
drop p Deinitialises c place = spot p ToDrop c place (λ c s t. Return (with_work c (Drops (Value s ∷ Unsets s ∷ []) c.now.work)))
drop p GivesUp c place = take_as effect.Discarded p c place (λ c v. Return c)

-- STATEMENTS

-- what is left after the innermost loop, and where its next pass begins; none of them stands in the head of one
abbrev pub broken : Work → Option Work
broken Idle = None
broken (Rest ss w) = broken w
broken (Loop head on body w) = Some w
broken (Test head on body w) = None
broken (Drops ts w) = None

abbrev pub continued : Work → Option Work
continued Idle = None
continued (Rest ss w) = continued w
continued (Loop head on body w) = Some (Loop head on body w)
continued (Test head on body w) = None
continued (Drops ts w) = None

abbrev pub does : Setting → Control → Stmt → Interaction Control
does p c (Built operator to from spans) = built p c operator to from spans
does p c (Set to n) = spot p ToWrite c to (λ c s t. with_some c (constant (form p.core.types t) n) (λ v. Perform (effect.Store s v) (Return c)))
does p c (Lend to place w) = spot p (aim w) c place (λ c s t. Perform (effect.Lend (key c to) s (way w)) (Return (count_if (is_counted place.steps) c)))
does p c (Close of) = close_of c of (sleeper_of c.asleep (key c of))
does p c (Move to from) = take p c from (λ c v. write p c to v Return)
does p c (Copy to from) = read p c from (λ c v. charged c (charge v c.turns c.opened) (λ c. write p c to v Return))
does p c (Drop place) = drop p p.stage c place
does p c (Call f lent owned to) = enter p c false (slice_get p.core.funs f) lent owned (control.Result to)
does p c (Project f lent owned to) = enter p c true (slice_get p.core.funs f) lent owned (Opens to)
does p c (Slide of) = slide_of c (key c of) (sleeper_of c.asleep (key c of))
does p c (Yield of) = yield_to c of c.callers c.now.dest
does p c (If on a b) = Fetch (whole (key c on)) (λ v. with_flag c v (λ x. Return (with_work c (Rest (if x then a else b) c.now.work))))
does p c (While head on body) = Return (with_work c (Loop head on body c.now.work))
does p c Break = with_some c (broken c.now.work) (λ w. Return (with_work c w))
does p c Continue = with_some c (continued c.now.work) (λ w. Return (with_work c w))
does p c (Leave from) =
    let n = length (lent_types c.now.fun) in
    take p c from (λ c v. Perform (effect.Quit c.now.id n) (close_all c n (back p c c.callers v c.now.dest)))

-- a pass takes its turn after the test
abbrev pub tested : Control → Stmts → ℕ → Stmts → Work → Bool → Interaction Control
tested c head on body w false = Return (with_work c w)
tested c head on body w true = turn c c.turns (λ c. Return (with_work c (Rest body (Loop head on body w))))

abbrev pub goes_on : Setting → Control → Work → Interaction Control
goes_on p c Idle = stop c Stuck
goes_on p c (Rest Done w) = Return (with_work c w)
goes_on p c (Rest (Then s ss) w) = does p (with_work c (Rest ss w)) s
goes_on p c (Loop head on body w) = Return (with_work c (Rest head (Test head on body w)))
goes_on p c (Test head on body w) = Fetch (whole (key c on)) (λ v. with_flag c v (tested c head on body w))
goes_on p c (Drops ts w) = does_tasks p c w ts

abbrev pub interaction_of : Setting → Control → Option Halt → Interaction Control
interaction_of p c None = goes_on p c c.now.work
interaction_of p c (Some h) = Return c

-- one step: nothing happens once the run has stopped
abbrev pub interaction : Setting → Control → Interaction Control
interaction p c = interaction_of p c c.halt

-- THE FIRST STATE

abbrev pub no_fun : Fun
no_fun = record { lent = []; owned = []; result = record { at = 0 }; locals = []; yields = None; body = Done }

abbrev pub begins_with_fun : Fun → List ℕ → (turns : ℕ) → (halt : Option Halt) → Control
begins_with_fun f input n halt = record {
  now = record { id = zero; fun = f; work = Rest f.body Idle; dest = Nowhere };
  callers = [];
  asleep = [];
  started = suc zero;
  turns = n;
  opened = zero;
  input = input;
  output = [];
  halt = halt;
}

abbrev pub begins_with : Option Fun → List ℕ → (turns : ℕ) → (halt : Option Halt) → Control
begins_with None input n halt = begins_with_fun no_fun input n (Some Stuck)
begins_with (Some f) input n halt = begins_with_fun f input n halt

-- `main` takes the first turn
abbrev pub start : Core → (input : List ℕ) → (turns : ℕ) → Control
start core input zero = begins_with (slice_get core.funs 0) input zero (Some (Ends end.Spent))
start core input (suc n) = begins_with (slice_get core.funs 0) input n None
