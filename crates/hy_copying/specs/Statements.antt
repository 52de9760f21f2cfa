-- What statements and bodies do.
use Rattle.std.specs.Prelude.{ℕ, zero, suc, ◌-◌, ◌==◌, ◌||◌, Bool, false, List, [], ◌∷◌, ◌++◌, length, map, reverse, Option, Some, None}
use Rattle.hy_base.specs.declared.position.Span.{Span}
use Rattle.hy_base.specs.declared.run.End.TheVariants as end
use Rattle.hy_tree.specs.Tree as T
use Rattle.hy_tree.specs.declared.operator.Arithmetic.{Arithmetic}
use Rattle.hy_tree.specs.declared.operator.Introducer.{Introducer}
use Rattle.hy_tree.specs.declared.operator.Introducer.TheVariants as introducer
use Rattle.hy_tree.specs.declared.operator.Mode.{Mode}
use Rattle.hy_tree.specs.declared.operator.Mode.TheVariants as mode
use Rattle.hy_types.specs.Types.{PlainType}
use Rattle.hy_signatures.specs.Declarations.{callable_at}
use Rattle.hy_check.specs.Uses as U
use Rattle.hy_check.specs.Uses.{Use, use_in, argument_use_by}
use Rattle.hy_core.specs.Values.{Val, Unset}
use Rattle.hy_copying.specs.Kinds.{is_true, unit_value}
use Rattle.hy_copying.specs.Known.{Known, type_at, mentioned, owner_of, variant_for}
use Rattle.hy_copying.specs.Runs.{Ends, State, Slid, Back, Late, Came, Returned, Yielded, Halted}
use Rattle.hy_copying.specs.Places.{Root, Local, Itself, Temporary, Located, NoArgument, Lent, Opened, lends, temporaries_of, and_last}
use Rattle.hy_copying.specs.Places.{Entry, Standing, Owned, OnlyLent, Bound, Held, Env}
use Rattle.hy_copying.specs.Does.{Outcome, Gives, Yields, Stops, Does, Acts, ◌>>=◌, ◌>>◌, give, nothing, impossible, when, changes, declares}
use Rattle.hy_copying.specs.Does.{take_newest, count, turn}
use Rattle.hy_copying.specs.Lives.{Later, first, deinitialises, temporaries_die, as_statement, let_all_go}
use Rattle.hy_copying.specs.Opening.{Worked, Place, opens, closes, put_back, holds_all, with_open, calls}
use Rattle.hy_copying.specs.Operations.{computes}
use Rattle.hy_copying.specs.Expressions.{Ready, Is, Has, Awaits, ready, placed, looked_at, takes, node_of}

-- where a statement goes
pub data Course : Type 0 where
  GoesOn : Course
  Returns : Val → Course
  Breaks : Course
  Continues : Course

abbrev pub goes_on : Acts → Does Course
goes_on acts = do
  acts
  give GoesOn

-- VALUES OF STATEMENTS

abbrev pub read_of : Later → T.Expr → Does Val
read_of later e = do
  of ← ready later e
  looked_at later (node_of e) of

abbrev pub taken_of : Later → T.Expr → Does Val
taken_of later e = do
  of ← ready later e
  takes later of

-- a condition is a statement of its own
abbrev pub condition_of : Later → T.Expr → Does Val
condition_of later e = as_statement later (read_of later e)

-- BINDINGS

abbrev pub local : Known → ℕ → Val → Standing → Entry
local known node v standing = record { root = Local node; type = type_at known node; value = v; standing = standing }

-- a projection has the value of the place, until it closes
abbrev pub projects : Later → Use → ℕ → Located → Place → Acts
projects later used node located place = do
  count
  holds_all (temporaries_of located)
  declares (local later.known node place.value (Bound used place.opened (lends located) (temporaries_of located)))

abbrev pub binds : Later → Use → ℕ → Ready → Acts
binds later used node (Is located) = do
  place ← opens later located
  projects later used node located place
binds later used node (Has v) = declares (local later.known node v Owned)
binds later used node (Awaits sig arguments) = impossible

abbrev pub owns : Later → ℕ → T.Expr → Acts
owns later node e = do
  v ← taken_of later e
  declares (local later.known node v Owned)

abbrev pub introduces : Later → Introducer → ℕ → T.Expr → Acts
introduces later introducer.Var node e = owns later node e
introduces later introducer.Let node e = do
  of ← ready later e
  binds later U.Let node of
introduces later introducer.Inout node e = do
  of ← ready later e
  binds later U.Inout node of

-- ASSIGNMENTS

abbrev pub stored_value : Val → List Val → Does Worked
stored_value v values = give (record { given = unit_value; left = v ∷ [] })

-- The target is opened, its old value is deinitialised, the new one stored. A `set` variant is called with the new value.
abbrev pub stores : Later → Val → Ready → Does Val
stores later v (Is place) = with_open later false (Lent U.Assigned place NoArgument) (stored_value v)
stores later v (Has w) = impossible
stores later v (Awaits sig arguments) = calls later sig (and_last arguments v)

abbrev pub assigns : Later → (target value : T.Expr) → Does Course
assigns later target value = do
  v ← taken_of later value
  of ← ready later target
  stores later v of
  give GoesOn

abbrev pub computed_value : Arithmetic → Span → Val → List Val → Does Worked
computed_value a span w values = do
  v ← computes a span (first values) w
  stored_value v values

-- the right side is opened, read and closed first
abbrev pub compounds : Later → (target : T.Expr) → Arithmetic → (value : T.Expr) → Span → Does Course
compounds later target a value span = do
  w ← read_of later value
  of ← ready later target
  place ← placed later (node_of target) of
  with_open later false (Lent U.Compound place NoArgument) (computed_value a span w)
  give GoesOn

-- RETURN AND YIELD

abbrev pub returns : Later → Option T.Expr → Does Course
returns later None = give (Returns unit_value)
returns later (Some e) = do
  v ← as_statement later (taken_of later e)
  give (Returns v)

-- `&` stands before what is yielded for change
abbrev pub yield_use : T.Expr → Use
yield_use (T.Marked operand at) = U.Inout
yield_use e = U.Let

-- hands a value out, and gives the one that comes back
abbrev pub hands_out : Val → Does Val
hands_out v env s = Yields v s (λ w t. Gives w env t)

-- the place is open until the subscript is resumed
abbrev pub yields : Later → T.Expr → Does Course
yields later e = do
  of ← ready later e
  located ← placed later (node_of e) of
  place ← opens later located
  count
  v ← hands_out place.value
  closes later place.opened (put_back (yield_use e) v)
  give GoesOn

-- ENDS OF STATEMENTS

abbrev pub has : ℕ → List ℕ → Bool
has node [] = false
has node (other ∷ more) = (node == other) || has node more

abbrev pub closes_projection : Later → Use → Val → Opened → (temporaries : List ℕ) → Acts
closes_projection later used v place temporaries = do
  closes later place (put_back used v)
  let_all_go later temporaries

abbrev pub node_in : Root → ℕ
node_in (Local node) = node
node_in Itself = 0
node_in (Temporary node) = node

abbrev pub stays_open : Entry → Acts → Acts
stays_open e older = do
  older
  declares e

-- A projection stays open while a later statement of its block mentions it, or while one that was made from it stays open.
abbrev pub ends_entry : Later → (is_mentioned : ℕ → Bool) → (wanted : List ℕ) → Entry → Standing → (older : List ℕ → Acts) → Acts
ends_entry later is_mentioned wanted e (Bound used place from temporaries) older =
    when (is_mentioned (node_in e.root) || has (node_in e.root) wanted) (stays_open e (older (from ++ wanted)))
    (do
      closes_projection later used e.value place temporaries
      older wanted)
ends_entry later is_mentioned wanted e Owned older = stays_open e (older wanted)
ends_entry later is_mentioned wanted e OnlyLent older = stays_open e (older wanted)
ends_entry later is_mentioned wanted e Held older = stays_open e (older wanted)

abbrev pub ends_newest : Later → (is_mentioned : ℕ → Bool) → (wanted : List ℕ) → Option Entry → (older : List ℕ → Acts) → Acts
ends_newest later is_mentioned wanted None older = nothing
ends_newest later is_mentioned wanted (Some e) older = ends_entry later is_mentioned wanted e e.standing older

-- of the newest entries, so many, those projections close that end here, the last declared first
abbrev pub projections_end : Later → (is_mentioned : ℕ → Bool) → ℕ → (wanted : List ℕ) → Acts
projections_end later is_mentioned zero wanted = nothing
projections_end later is_mentioned (suc n) wanted = do
  e ← take_newest
  ends_newest later is_mentioned wanted e (λ wanted. projections_end later is_mentioned n wanted)

abbrev pub projections_above : Later → (block : ℕ) → (is_mentioned : ℕ → Bool) → Acts
projections_above later block is_mentioned env s = projections_end later is_mentioned (length env.locals - block) [] env s

-- Where a statement goes on, its temporaries die, and then the projections close that end there.
abbrev pub statement_ends : Later → (block temporaries : ℕ) → (is_mentioned : ℕ → Bool) → Course → Acts
statement_ends later block temporaries is_mentioned GoesOn = do
  temporaries_die later temporaries
  projections_above later block is_mentioned
statement_ends later block temporaries is_mentioned (Returns v) = nothing
statement_ends later block temporaries is_mentioned Breaks = nothing
statement_ends later block temporaries is_mentioned Continues = nothing

abbrev pub statement : Later → (block : ℕ) → (is_mentioned : ℕ → Bool) → Does Course → Does Course
statement later block is_mentioned does env s =
    (do
      course ← does
      statement_ends later block (length env.temporaries) is_mentioned course
      give course)
    env s

-- ENDS OF BLOCKS

abbrev pub leaves_entry : Later → Entry → Standing → Acts
leaves_entry later e Owned = deinitialises later e.value
leaves_entry later e OnlyLent = nothing
leaves_entry later e (Bound used place from temporaries) = closes_projection later used e.value place temporaries
leaves_entry later e Held = nothing

abbrev pub leaves_newest : Later → Option Entry → Acts
leaves_newest later None = nothing
leaves_newest later (Some e) = leaves_entry later e e.standing

-- the newest entries, so many, end in reverse order of declaration: projections close, and what is owned is deinitialised
abbrev pub leaves : Later → ℕ → Acts
leaves later zero = nothing
leaves later (suc n) = do
  e ← take_newest
  leaves_newest later e
  leaves later n

abbrev pub leaves_above : Later → (block : ℕ) → Acts
leaves_above later block env s = leaves later (length env.locals - block) env s

-- what is done in a block, and then its end, wherever it goes
abbrev pub in_block : Later → (ℕ → Does Course) → Does Course
in_block later does env s =
    (do
      course ← does (length env.locals)
      leaves_above later (length env.locals)
      give course)
    env s

-- STATEMENTS

abbrev pub further : Course → Does Course → Does Course
further GoesOn next = next
further (Returns v) next = give (Returns v)
further Breaks next = give Breaks
further Continues next = give Continues

abbrev pub again : Course → Does Course → Does Course
again GoesOn next = next
again (Returns v) next = give (Returns v)
again Breaks next = give GoesOn
again Continues next = next

-- A loop of so many passes at most. As many turns are left at most, so that none is left behind the last one.
abbrev pub loops : ℕ → (condition : Does Val) → (body : Does Course) → Does Course
loops zero condition body = do
  v ← condition
  when (is_true v) (goes_on turn) (give GoesOn)
loops (suc n) condition body = do
  v ← condition
  when (is_true v)
      (do
        turn
        course ← body
        again course (loops n condition body))
      (give GoesOn)

abbrev mutual
  pub executes : Later → T.Stmt → Does Course
  executes later (T.Binding introducer name written value at) = goes_on (introduces later introducer at.node value)
  executes later (T.Declare name written at) = goes_on (declares (local later.known at.node Unset Owned))
  executes later (T.Assign target value at) = assigns later target value
  executes later (T.Compound target a value at) = compounds later target a value at.span
  executes later (T.Evaluate e at) = do
    read_of later e
    give GoesOn
  executes later (T.If branches otherwise at) = branches_of later branches (otherwise_of later otherwise)
  executes later (T.While token condition body at) = loops later.passes (condition_of later condition) (block_of later body)
  executes later (T.Return token value at) = returns later value
  executes later (T.Break at) = give Breaks
  executes later (T.Continue at) = give Continues
  executes later (T.Yield token value at) = yields later value

  -- statements of a block, which begins above so many entries
  pub statements : Later → T.Stmts → (block : ℕ) → Does Course
  statements later T.NoStmt block = give GoesOn
  statements later (T.ThenStmt stmt more) block = do
    course ← statement later block (λ node. mentioned later.known.source node more) (executes later stmt)
    further course (statements later more block)

  pub block_of : Later → T.Block → Does Course
  block_of later (T.Braces stmts at) = in_block later (statements later stmts)

  pub branches_of : Later → T.Branches → (otherwise : Does Course) → Does Course
  branches_of later T.NoBranch otherwise = otherwise
  branches_of later (T.ThenBranch token condition body more) otherwise = do
    v ← condition_of later condition
    when (is_true v) (block_of later body) (branches_of later more otherwise)

  pub otherwise_of : Later → T.Otherwise → Does Course
  otherwise_of later T.NoElse = give GoesOn
  otherwise_of later (T.Else block) = block_of later block

-- BODIES

-- what is moved to a body is owned, and all else is lent
abbrev pub standing_by : Use → Standing
standing_by U.Sink = Owned
standing_by U.Read = OnlyLent
standing_by U.Let = OnlyLent
standing_by U.Inout = OnlyLent
standing_by U.Set = OnlyLent
standing_by U.Assigned = OnlyLent
standing_by U.Compound = OnlyLent

abbrev pub unfilled : Root → PlainType → Standing → Entry
unfilled root type standing = record { root = root; type = type; value = Unset; standing = standing }

abbrev pub self_entry : Mode → Option PlainType → List Entry
self_entry variant None = []
self_entry variant (Some type) = unfilled Itself type (standing_by (use_in variant)) ∷ []

abbrev pub param_entry : Known → Mode → T.Param → Entry
param_entry known variant p = unfilled (Local p.at.node) (type_at known p.at.node) (standing_by (argument_use_by variant p.mode))

abbrev pub value_entry : Known → Mode → ℕ → List Entry
value_entry known mode.Set node = unfilled (Local node) (type_at known node) Owned ∷ []
value_entry known mode.Let node = []
value_entry known mode.Inout node = []
value_entry known mode.Sink node = []
value_entry known mode.Yielded node = []

-- `self`, the parameters and the new value, in that order
abbrev pub parameters : Known → T.Callable → T.Variant → List Entry
parameters known c v =
    self_entry v.mode (owner_of known.source c.at.node) ++ (map (param_entry known v.mode) c.params ++ value_entry known v.mode v.at.node)

-- these entries have these values, and are newer than those before them
abbrev pub filled : List Entry → List Val → (before : List Entry) → List Entry
filled [] vs before = before
filled (e ∷ more) [] before = filled more [] (e ∷ before)
filled (e ∷ more) (v ∷ vs) before = filled more vs (record e { value = v } ∷ before)

abbrev pub at_start : List Entry → List Val → Env
at_start entries vs = record { locals = filled entries vs []; temporaries = [] }

abbrev pub parameter_ends : Later → Entry → Standing → Does Entry
parameter_ends later e Owned = do
  deinitialises later e.value
  give (record e { value = Unset })
parameter_ends later e OnlyLent = give e
parameter_ends later e (Bound used place from temporaries) = give e
parameter_ends later e Held = give e

-- what was moved to a body is deinitialised, the last parameter first
abbrev pub parameters_end : Later → List Entry → Does (List Entry)
parameters_end later [] = give []
parameters_end later (e ∷ older) = do
  ended ← parameter_ends later e e.standing
  others ← parameters_end later older
  give (ended ∷ others)

abbrev pub body_ends : Later → Acts
body_ends later env s =
    (do
      ended ← parameters_end later env.locals
      changes (λ env. record env { locals = ended }))
    env s

abbrev pub whole_body : Later → T.Block → Does Course
whole_body later block = do
  course ← block_of later block
  body_ends later
  give course

abbrev pub result : Course → Val
result GoesOn = unit_value
result (Returns v) = v
result Breaks = unit_value
result Continues = unit_value

abbrev pub values_of : Env → List Val
values_of env = reverse (map (λ (e : Entry). e.value) env.locals)

abbrev pub slid : Outcome Course → Slid
slid (Gives course env s) = Back (values_of env) s
slid (Yields v s resumed) = Late (Ends end.Asks) s
slid (Stops h s) = Late h s

abbrev pub came : Outcome Course → Came
came (Gives course env s) = Returned (result course) (values_of env) s
came (Yields v s resumed) = Yielded v s (λ w t. slid (resumed w t))
came (Stops h s) = Halted h s

abbrev pub body_in : Later → T.Callable → Option T.Variant → List Val → State → Came
body_in later c None vs s = Returned unit_value vs s
body_in later c (Some v) vs s = came (whole_body later v.block (at_start (parameters later.known c v) vs) s)

abbrev pub body_at : Later → Option T.Callable → Mode → List Val → State → Came
body_at later None variant vs s = Returned unit_value vs s
body_at later (Some c) variant vs s = body_in later c (variant_for variant c.variants) vs s

-- the body that is declared at a node for a convention
abbrev pub body_of : Later → (node : ℕ) → Mode → List Val → State → Came
body_of later node variant vs s = body_at later (callable_at node later.known.source.decls) variant vs s
