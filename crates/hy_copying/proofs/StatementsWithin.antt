-- The facts of `Within` for statements and bodies, and what follows of runs.
use Rattle.std.proofs.Common.{◌≡◌, refl, sym, subst, ap, arith}
use Rattle.std.specs.Prelude.{ℕ, zero, suc, ◌≤◌, ◌-◌, ◌||◌, Bool, false, List, [], ◌∷◌, ◌++◌, map, length, Option, Some, None}
use Rattle.hy_base.specs.declared.position.Span.{Span}
use Rattle.hy_base.specs.declared.run.End.{End}
use Rattle.hy_base.specs.declared.run.End.TheVariants as end
use Rattle.hy_tree.specs.Tree as T
use Rattle.hy_tree.specs.declared.operator.Arithmetic.{Arithmetic}
use Rattle.hy_tree.specs.declared.operator.Introducer.{Introducer}
use Rattle.hy_tree.specs.declared.operator.Introducer.TheVariants as introducer
use Rattle.hy_tree.specs.declared.operator.Mode.{Mode}
use Rattle.hy_tree.specs.declared.operator.Mode.TheVariants as mode
use Rattle.hy_types.specs.Types.{PlainType}
use Rattle.hy_signatures.specs.Declarations.{callable_at}
use Rattle.hy_check.specs.Uses as U
use Rattle.hy_check.specs.Uses.{Use, use_in, argument_use_by}
use Rattle.hy_core.specs.Values.{Val}
use Rattle.hy_copying.specs.Kinds.{is_true, parts_in}
use Rattle.hy_copying.specs.Known.{Known, known_of, main_of, mentioned, variant_for}
use Rattle.hy_copying.specs.Runs.{State, Halt, Ends, Before, Late, Came, Returned, Yielded, Halted}
use Rattle.hy_copying.specs.Places.{Located, Lent, NoArgument, Opened, Entry, Standing, Owned, OnlyLent, Bound, Held, Env, temporaries_of, and_last}
use Rattle.hy_copying.specs.Does
use Rattle.hy_copying.specs.Does.{Outcome, Gives, Yields, Stops, Does, Acts, take_newest, turn}
use Rattle.hy_copying.specs.Lives.{Later}
use Rattle.hy_copying.specs.Opening.{Place}
use Rattle.hy_copying.specs.Expressions.{Ready, Is, Has, Awaits}
use Rattle.hy_copying.specs.Statements
use Rattle.hy_copying.specs.Statements.{Course, GoesOn, Returns, Breaks, Continues}
use Rattle.hy_copying.specs.Laws.{SpentRunsTookAllTurns, StatesAreBeginnings, RunsThatEndAreWhole, IsBeginning}
use Rattle.hy_copying.specs.Meaning
use Rattle.hy_copying.specs.Meaning.{at_most}
use Rattle.hy_copying.proofs.Within.{thus, itself, free, Comes, stays, stays_but, then_comes}
use Rattle.hy_copying.proofs.Within.{Stopped, slid_state, came_state, out_state, Halts, SlidWithin, CameWithin}
use Rattle.hy_copying.proofs.Within.{StandingWithin, EntriesWithin, EnvWithin, standing_less, entries_less, env_less}
use Rattle.hy_copying.proofs.Within.{opened_less, OutWithin, Within, Any, seq, less, gives, LaterWithin, later_less}
use Rattle.hy_copying.proofs.LivesWithin.{never, nothing_within, chosen, changed_within}
use Rattle.hy_copying.proofs.LivesWithin.{declared_within, count_within, turn_within, Fewer, deinitialised_within}
use Rattle.hy_copying.proofs.LivesWithin.{temporaries_within, statement_within, all_go_within, parts_within}
use Rattle.hy_copying.proofs.OpeningWithin.{holds_within, closes_within, opens_within, with_within, calls_within, PlaceWithin}
use Rattle.hy_copying.proofs.ExpressionsWithin.{given, computes_within, placed_within, looked_within, takes_within, ready_within}

goes_on_within : {d : ℕ} {acts : Acts} → Within Any d acts → Within Any d (Statements.goes_on acts)
goes_on_within is = seq is (λ c a le q. given GoesOn)

read_within : {d : ℕ} {later : Later} (e : T.Expr) → LaterWithin d later → Within Any d (Statements.read_of later e)
read_within e l = seq (ready_within e l) (λ c of le q. looked_within _ of (later_less le l))

taken_within : {d : ℕ} {later : Later} (e : T.Expr) → LaterWithin d later → Within Any d (Statements.taken_of later e)
taken_within e l = seq (ready_within e l) (λ c of le q. takes_within of (later_less le l))

condition_within : {d : ℕ} {later : Later} (e : T.Expr) → LaterWithin d later → Within Any d (Statements.condition_of later e)
condition_within e l = statement_within l (read_within e l)

-- BINDINGS

projects_within : {d : ℕ} {later : Later} (used : Use) (node : ℕ) (located : Located) (place : Place) → LaterWithin d later → PlaceWithin d place
    → Within Any d (Statements.projects later used node located place)
projects_within used node located place l is = seq count_within (λ c a le q. seq (holds_within (temporaries_of located))
    (λ b u lt r. declared_within _ (λ e ll. opened_less place.opened (thus ll (thus lt le)) is)))

binds_within : {d : ℕ} {later : Later} (used : Use) (node : ℕ) (of : Ready) → LaterWithin d later → Within Any d (Statements.binds later used node of)
binds_within used node (Is located) l = seq (opens_within located l) (λ c place le q. projects_within used node located place (later_less le l) q)
binds_within used node (Has v) l = declared_within _ (λ b le. tt)
binds_within used node (Awaits sig arguments) l = never

introduces_within : {d : ℕ} {later : Later} (word : Introducer) (node : ℕ) (e : T.Expr) → LaterWithin d later
    → Within Any d (Statements.introduces later word node e)
introduces_within introducer.Var node e l = seq (taken_within e l) (λ c v le q. declared_within _ (λ b lt. tt))
introduces_within introducer.Let node e l = seq (ready_within e l) (λ c of le q. binds_within U.Let node of (later_less le l))
introduces_within introducer.Inout node e l = seq (ready_within e l) (λ c of le q. binds_within U.Inout node of (later_less le l))

-- ASSIGNMENTS, RETURN AND YIELD

stores_within : {d : ℕ} {later : Later} (v : Val) (of : Ready) → LaterWithin d later → Within Any d (Statements.stores later v of)
stores_within v (Is place) l = with_within false (Lent U.Assigned place NoArgument) (Statements.stored_value v) l (λ values. given _)
stores_within v (Has w) l = never
stores_within v (Awaits sig arguments) l = calls_within sig (and_last arguments v) l

assigns_within : {d : ℕ} {later : Later} (target value : T.Expr) → LaterWithin d later → Within Any d (Statements.assigns later target value)
assigns_within target value l = seq (taken_within value l) (λ c v le q. seq (ready_within target (later_less le l))
    (λ b of lt r. seq (stores_within v of (later_less (thus lt le) l)) (λ e u ll z. given GoesOn)))

compounds_within : {d : ℕ} {later : Later} (target : T.Expr) (a : Arithmetic) (value : T.Expr) (span : Span) → LaterWithin d later
    → Within Any d (Statements.compounds later target a value span)
compounds_within target a value span l = seq (read_within value l) (λ c w le q. seq (ready_within target (later_less le l))
    (λ b of lt r. seq (placed_within _ of (later_less (thus lt le) l)) (λ e place ll z. seq (with_within false (Lent U.Compound place NoArgument)
    (Statements.computed_value a span w) (later_less (thus ll (thus lt le)) l) (λ values. seq (computes_within a span _ w) (λ f v lf y. given _)))
    (λ f u lf y. given GoesOn))))

returns_within : {d : ℕ} {later : Later} (value : Option T.Expr) → LaterWithin d later → Within Any d (Statements.returns later value)
returns_within None l = given _
returns_within (Some e) l = seq (statement_within l (taken_within e l)) (λ c v le q. given _)

handed_within : {d : ℕ} (v : Val) → Within Any d (Statements.hands_out v)
handed_within v = record { holds = λ env s le good. (stays s, λ w u lu. (stays u, env_less lu good, tt, refl), refl) }

yields_within : {d : ℕ} {later : Later} (e : T.Expr) → LaterWithin d later → Within Any d (Statements.yields later e)
yields_within e l = seq (ready_within e l) (λ c of le q. seq (placed_within _ of (later_less le l))
    (λ b located lt r. seq (opens_within located (later_less (thus lt le) l)) (λ f place ll z. seq count_within
    (λ g u lg y. seq (handed_within place.value) (λ h v lh x. seq (closes_within place.opened _ (later_less (thus lh (thus lg (thus ll (thus lt le)))) l)
    (opened_less place.opened (thus lh lg) z)) (λ i w li p. given GoesOn))))))

-- ENDS

closed_within : {d : ℕ} {later : Later} (used : Use) (v : Val) (place : Opened) (temporaries : List ℕ) → LaterWithin d later
    → StandingWithin d (Bound used place [] temporaries) → Within Any d (Statements.closes_projection later used v place temporaries)
closed_within used v place temporaries l is = seq (closes_within place _ l is) (λ c a le q. all_go_within temporaries (later_less le l))

stays_within : {d : ℕ} (e : Entry) {older : Acts} → StandingWithin d e.standing → Within Any d older → Within Any d (Statements.stays_open e older)
stays_within e is older = seq older (λ c a le q. declared_within e (λ b lt. standing_less e.standing (thus lt le) is))

abbrev Newest : ℕ → Option Entry → Type 0
Newest b None = Unit {0}
Newest b (Some e) = StandingWithin b e.standing

taken_away : (b : ℕ) (es : List Entry) (env : Env) (s : State) → s.turns ≤ b → EntriesWithin s.turns es → EnvWithin s.turns env
    → OutWithin Newest s (Does.taken es env s) (Does.taken es env (free s))
taken_away b [] env s le es good = (stays s, good, tt, refl)
taken_away b (e ∷ more) env s le es good = (stays s, record { locals = es.1; temporaries = good.temporaries }, es.0, refl)

newest_within : {d : ℕ} → Within Newest d take_newest
newest_within {d} = record { holds = λ env s le good. taken_away d env.locals env s le good.locals good }

entry_ends : {d : ℕ} {later : Later} (is_mentioned : ℕ → Bool) (wanted : List ℕ) (e : Entry) (standing : Standing) (older : List ℕ → Acts)
    → LaterWithin d later
    → StandingWithin d e.standing → StandingWithin d standing → ((ns : List ℕ) → Within Any d (older ns))
    → Within Any d (Statements.ends_entry later is_mentioned wanted e standing older)
entry_ends is_mentioned wanted e (Bound used place from temporaries) older l one is more =
    chosen (is_mentioned (Statements.node_in e.root) || Statements.has (Statements.node_in e.root) wanted) (stays_within e one (more (from ++ wanted)))
    (seq (closed_within used e.value place temporaries l is) (λ c a le q. less le (more wanted)))
entry_ends is_mentioned wanted e Owned older l one is more = stays_within e one (more wanted)
entry_ends is_mentioned wanted e OnlyLent older l one is more = stays_within e one (more wanted)
entry_ends is_mentioned wanted e Held older l one is more = stays_within e one (more wanted)

newest_ends : {d : ℕ} {later : Later} (is_mentioned : ℕ → Bool) (wanted : List ℕ) (e : Option Entry) (older : List ℕ → Acts) → LaterWithin d later
    → Newest d e → ((ns : List ℕ) → Within Any d (older ns)) → Within Any d (Statements.ends_newest later is_mentioned wanted e older)
newest_ends is_mentioned wanted None older l is more = nothing_within
newest_ends is_mentioned wanted (Some e) older l is more = entry_ends is_mentioned wanted e e.standing older l is is more

projections_within : {d : ℕ} {later : Later} (is_mentioned : ℕ → Bool) (n : ℕ) (wanted : List ℕ) → LaterWithin d later
    → Within Any d (Statements.projections_end later is_mentioned n wanted)
projections_within is_mentioned zero wanted l = nothing_within
projections_within {later = later} is_mentioned (suc n) wanted l = seq newest_within (λ c e le q. newest_ends is_mentioned wanted e
    (λ ns. Statements.projections_end later is_mentioned n ns) (later_less le l) q (λ ns. projections_within is_mentioned n ns (later_less le l)))

above_within : {d : ℕ} {later : Later} (block : ℕ) (is_mentioned : ℕ → Bool) → LaterWithin d later
    → Within Any d (Statements.projections_above later block is_mentioned)
above_within block is_mentioned l = record {
  holds = λ env s le good. (projections_within is_mentioned (length env.locals - block) [] (later_less le l)).holds env s (itself s.turns) good;
}

ends_within : {d : ℕ} {later : Later} (block temporaries : ℕ) (is_mentioned : ℕ → Bool) (course : Course) → LaterWithin d later
    → Within Any d (Statements.statement_ends later block temporaries is_mentioned course)
ends_within block temporaries is_mentioned GoesOn l = seq (temporaries_within temporaries l) (λ c a le q. above_within block is_mentioned (later_less le l))
ends_within block temporaries is_mentioned (Returns v) l = nothing_within
ends_within block temporaries is_mentioned Breaks l = nothing_within
ends_within block temporaries is_mentioned Continues l = nothing_within

whole_within : {d : ℕ} {later : Later} (block : ℕ) (is_mentioned : ℕ → Bool) {does : Does Course} → LaterWithin d later → Within Any d does
    → Within Any d (Statements.statement later block is_mentioned does)
whole_within block is_mentioned l is = record {
  holds = λ env s le good.
      (seq (less le is) (λ c course lc q. seq (ends_within block (length env.temporaries) is_mentioned course (later_less (thus lc le) l))
      (λ b u lb r. given course))).holds env s (itself s.turns) good;
}

leaves_entry : {d : ℕ} {later : Later} (e : Entry) (standing : Standing) → LaterWithin d later → StandingWithin d standing
    → Within Any d (Statements.leaves_entry later e standing)
leaves_entry e Owned l is = deinitialised_within e.value l
leaves_entry e OnlyLent l is = nothing_within
leaves_entry e (Bound used place from temporaries) l is = closed_within used e.value place temporaries l is
leaves_entry e Held l is = nothing_within

leaves_newest : {d : ℕ} {later : Later} (e : Option Entry) → LaterWithin d later → Newest d e → Within Any d (Statements.leaves_newest later e)
leaves_newest None l is = nothing_within
leaves_newest (Some e) l is = leaves_entry e e.standing l is

leaves_within : {d : ℕ} {later : Later} (n : ℕ) → LaterWithin d later → Within Any d (Statements.leaves later n)
leaves_within zero l = nothing_within
leaves_within (suc n) l = seq newest_within (λ c e le q. seq (leaves_newest e (later_less le l) q) (λ b u lt r. leaves_within n (later_less (thus lt le) l)))

block_within : {d : ℕ} {later : Later} (does : ℕ → Does Course) → LaterWithin d later → ((n : ℕ) → Within Any d (does n))
    → Within Any d (Statements.in_block later does)
block_within does l is = record {
  holds = λ env s le good.
      (seq (less le (is (length env.locals))) (λ c course lc q. seq (left_within (length env.locals) (later_less (thus lc le) l))
      (λ b u lb r. given course))).holds env s (itself s.turns) good;
}
  where
    left_within : {d : ℕ} {later : Later} (block : ℕ) → LaterWithin d later → Within Any d (Statements.leaves_above later block)
    left_within block l = record {
      holds = λ env s le good. (leaves_within (length env.locals - block) (later_less le l)).holds env s (itself s.turns) good;
    }

-- STATEMENTS

further_within : {d : ℕ} (course : Course) {next : Does Course} → Within Any d next → Within Any d (Statements.further course next)
further_within GoesOn is = is
further_within (Returns v) is = given _
further_within Breaks is = given _
further_within Continues is = given _

again_within : {d : ℕ} (course : Course) {next : Does Course} → Within Any d next → Within Any d (Statements.again course next)
again_within GoesOn is = is
again_within (Returns v) is = given _
again_within Breaks is = given _
again_within Continues is = is

turned : {d : ℕ} → Within Any d (Statements.goes_on turn)
turned = seq turn_within (λ c a le q. given GoesOn)

loops_within : {d : ℕ} (n : ℕ) (condition : Does Val) (body : Does Course) → d ≤ n → Within Any d condition → Within Any d body
    → Within Any d (Statements.loops n condition body)
loops_within zero condition body le test inner = seq test (λ c v lc q. chosen (is_true v) turned (given GoesOn))
loops_within (suc n) condition body le test inner = seq test (λ c v lc q. chosen (is_true v)
    (seq turn_within (λ b u lb fewer. seq (less (thus lb lc) inner) (λ e course ll z. again_within course
    (loops_within n condition body (omega (arith, le, lc, lb, ll, fewer)) (less (thus ll (thus lb lc)) test) (less (thus ll (thus lb lc)) inner)))))
    (given GoesOn))

mutual
  executes_within : {d : ℕ} {later : Later} (stmt : T.Stmt) → LaterWithin d later → Within Any d (Statements.executes later stmt)
  executes_within (T.Binding word name written value at) l = goes_on_within (introduces_within word at.node value l)
  executes_within (T.Declare name written at) l = goes_on_within (declared_within _ (λ b le. tt))
  executes_within (T.Assign target value at) l = assigns_within target value l
  executes_within (T.Compound target a value at) l = compounds_within target a value at.span l
  executes_within (T.Evaluate e at) l = seq (read_within e l) (λ c v le q. given GoesOn)
  executes_within (T.If branches otherwise at) l = branches_within branches l (otherwise_within otherwise l)
  executes_within (T.While token condition body at) l = loops_within _ _ _ l.passes (condition_within condition l) (body_within body l)
  executes_within (T.Return token value at) l = returns_within value l
  executes_within (T.Break at) l = given _
  executes_within (T.Continue at) l = given _
  executes_within (T.Yield token value at) l = yields_within value l

  all_within : {d : ℕ} {later : Later} (stmts : T.Stmts) (block : ℕ) → LaterWithin d later → Within Any d (Statements.statements later stmts block)
  all_within T.NoStmt block l = given GoesOn
  all_within {later = later} (T.ThenStmt stmt more) block l =
      seq (whole_within block (λ node. mentioned later.known.source node more) l (executes_within stmt l))
      (λ c course le q. further_within course (all_within more block (later_less le l)))

  pub body_within : {d : ℕ} {later : Later} (block : T.Block) → LaterWithin d later → Within Any d (Statements.block_of later block)
  body_within (T.Braces stmts at) l = block_within _ l (λ n. all_within stmts n l)

  branches_within : {d : ℕ} {later : Later} (branches : T.Branches) {otherwise : Does Course} → LaterWithin d later → Within Any d otherwise
      → Within Any d (Statements.branches_of later branches otherwise)
  branches_within T.NoBranch l is = is
  branches_within (T.ThenBranch token condition body more) l is = seq (condition_within condition l)
      (λ c v le q. chosen (is_true v) (body_within body (later_less le l)) (branches_within more (later_less le l) (less le is)))

  otherwise_within : {d : ℕ} {later : Later} (otherwise : T.Otherwise) → LaterWithin d later → Within Any d (Statements.otherwise_of later otherwise)
  otherwise_within T.NoElse l = given GoesOn
  otherwise_within (T.Else block) l = body_within block l

-- BODIES

unbound : (b : ℕ) (used : Use) → StandingWithin b (Statements.standing_by used)
unbound b U.Sink = tt
unbound b U.Read = tt
unbound b U.Let = tt
unbound b U.Inout = tt
unbound b U.Set = tt
unbound b U.Assigned = tt
unbound b U.Compound = tt

joined : (b : ℕ) (es fs : List Entry) → EntriesWithin b es → EntriesWithin b fs → EntriesWithin b (es ++ fs)
joined b [] fs one two = two
joined b (e ∷ more) fs one two = (one.0, joined b more fs one.1 two)

self_within : (b : ℕ) (variant : Mode) (type : Option PlainType) → EntriesWithin b (Statements.self_entry variant type)
self_within b variant None = tt
self_within b variant (Some type) = (unbound b (use_in variant), tt)

params_within : (b : ℕ) (known : Known) (variant : Mode) (params : List T.Param) → EntriesWithin b (map (Statements.param_entry known variant) params)
params_within b known variant [] = tt
params_within b known variant (p ∷ more) = (unbound b (argument_use_by variant p.mode), params_within b known variant more)

value_within : (b : ℕ) (known : Known) (variant : Mode) (node : ℕ) → EntriesWithin b (Statements.value_entry known variant node)
value_within b known mode.Set node = (tt, tt)
value_within b known mode.Let node = tt
value_within b known mode.Inout node = tt
value_within b known mode.Sink node = tt
value_within b known mode.Yielded node = tt

filled_within : (b : ℕ) (es : List Entry) (vs : List Val) (before : List Entry) → EntriesWithin b es → EntriesWithin b before
    → EntriesWithin b (Statements.filled es vs before)
filled_within b [] vs before is old = old
filled_within b (e ∷ more) [] before is old = filled_within b more [] (e ∷ before) is.1 (is.0, old)
filled_within b (e ∷ more) (v ∷ vs) before is old = filled_within b more vs (record e { value = v } ∷ before) is.1 (is.0, old)

start_within : (b : ℕ) (known : Known) (c : T.Callable) (v : T.Variant) (vs : List Val)
    → EnvWithin b (Statements.at_start (Statements.parameters known c v) vs)
start_within b known c v vs = record {
  locals = filled_within b (Statements.parameters known c v) vs [] (joined b _ _ (self_within b v.mode _)
      (joined b _ _ (params_within b known v.mode c.params) (value_within b known v.mode v.at.node))) tt;
  temporaries = tt;
}

abbrev Ended : ℕ → Entry → Type 0
Ended b e = StandingWithin b e.standing

parameter_within : {d : ℕ} {later : Later} (e : Entry) (standing : Standing) → LaterWithin d later → StandingWithin d e.standing
    → Within Ended d (Statements.parameter_ends later e standing)
parameter_within e Owned l is = seq (deinitialised_within e.value l) (λ c a le q. gives _ (λ b lt. standing_less e.standing (thus lt le) is))
parameter_within e OnlyLent l is = gives e (λ b le. standing_less e.standing le is)
parameter_within e (Bound used place from temporaries) l is = gives e (λ b le. standing_less e.standing le is)
parameter_within e Held l is = gives e (λ b le. standing_less e.standing le is)

abbrev AllEnded : ℕ → List Entry → Type 0
AllEnded b es = EntriesWithin b es

parameters_within : {d : ℕ} {later : Later} (es : List Entry) → LaterWithin d later → EntriesWithin d es
    → Within AllEnded d (Statements.parameters_end later es)
parameters_within [] l is = gives [] (λ b le. tt)
parameters_within (e ∷ older) l is = seq (parameter_within e e.standing l is.0)
    (λ c ended le q. seq (parameters_within older (later_less le l) (entries_less older le is.1))
    (λ b others lt r. gives (ended ∷ others) (λ f lf. (standing_less ended.standing (thus lf lt) q, entries_less others lf r))))

body_ends_within : {d : ℕ} {later : Later} → LaterWithin d later → Within Any d (Statements.body_ends later)
body_ends_within l = record {
  holds = λ env s le good.
      (seq (parameters_within env.locals (later_less le l) good.locals) (λ c ended lc q. changed_within (λ env. record env { locals = ended })
      (λ b env lb good. record { locals = entries_less ended lb q; temporaries = good.temporaries }))).holds env s (itself s.turns) good;
}

whole_body_within : {d : ℕ} {later : Later} (block : T.Block) → LaterWithin d later → Within Any d (Statements.whole_body later block)
whole_body_within block l =
    seq (body_within block l) (λ c course le q. seq (body_ends_within (later_less le l)) (λ b u lt r. given course))

slid_as : (h : Halt) (t : State) (o : Outcome Course) → Stopped h t (out_state o) (o ≡ Stops h (free t))
    → Stopped h t (slid_state (Statements.slid o)) (Statements.slid o ≡ Late h (free t))
slid_as (Before e) t (Gives course env u) is = is
slid_as (Before e) t (Yields v u resumed) is = is
slid_as (Before e) t (Stops h u) is = is
slid_as (Ends x) t o is = ap Statements.slid is

slid_from : (s : State) (o whole : Outcome Course) → OutWithin Any s o whole → SlidWithin s (Statements.slid o) (Statements.slid whole)
slid_from s (Gives course env t) whole is = (is.0, ap Statements.slid is.3)
slid_from s (Yields v t resumed) whole is = (tt, is.0, ap Statements.slid is.2)
slid_from s (Stops h t) whole is = (is.0, is.1, slid_as h t whole is.2)

came_as : (h : Halt) (t : State) (o : Outcome Course) → Stopped h t (out_state o) (o ≡ Stops h (free t))
    → Stopped h t (came_state (Statements.came o)) (Statements.came o ≡ Halted h (free t))
came_as (Before e) t (Gives course env u) is = is
came_as (Before e) t (Yields v u resumed) is = is
came_as (Before e) t (Stops h u) is = is
came_as (Ends x) t o is = ap Statements.came is

came_from : (s : State) (o whole : Outcome Course) → OutWithin Any s o whole → CameWithin s (Statements.came o) (Statements.came whole)
came_from s (Gives course env t) whole is = (is.0, ap Statements.came is.3)
came_from s (Yields v t resumed) whole is =
    (is.0, λ w u lu. slid_from u (resumed w u) (resumed w (free u)) (is.1 w u lu), ap Statements.came is.2)
came_from s (Stops h t) whole is = (is.0, is.1, came_as h t whole is.2)

variant_within : {later : Later} (c : T.Callable) (v : Option T.Variant) (vs : List Val) (s : State) → LaterWithin s.turns later
    → CameWithin s (Statements.body_in later c v vs s) (Statements.body_in later c v vs (free s))
variant_within c None vs s l = (stays s, refl)
variant_within {later = later} c (Some v) vs s l =
    let env = Statements.at_start (Statements.parameters later.known c v) vs in
    came_from s (Statements.whole_body later v.block env s) (Statements.whole_body later v.block env (free s))
    ((whole_body_within v.block l).holds env s (itself s.turns) (start_within s.turns later.known c v vs))

callable_within : {later : Later} (c : Option T.Callable) (variant : Mode) (vs : List Val) (s : State) → LaterWithin s.turns later
    → CameWithin s (Statements.body_at later c variant vs s) (Statements.body_at later c variant vs (free s))
callable_within None variant vs s l = (stays s, refl)
callable_within (Some c) variant vs s l = variant_within c (variant_for variant c.variants) vs s l

-- RUNS

no_turn_less : {A : Type 0} (n : ℕ) → suc n ≤ 0 → A
no_turn_less n le = absurd (omega (arith, le))

before : (n m : ℕ) → suc n ≤ suc m → n ≤ m
before n m le = omega (arith, le)

at_most_within : (known : Known) (n : ℕ) → LaterWithin n (at_most known n)
at_most_within known zero = record {
  passes = itself 0;
  body = λ node variant vs s le. no_turn_less s.turns le;
  parts = λ v b le. no_turn_less b le;
}
at_most_within known (suc n) = record {
  passes = itself (suc n);
  body = λ node variant vs s le. callable_within (callable_at node (at_most known n).known.source.decls) variant vs s (later_less (before s.turns n
      le) (at_most_within known n));
  parts = λ v b le. record {
    holds = λ env s lt good. (parts_within _ (parts_in v) (later_less (before b n le) (at_most_within known n))).holds env s lt good;
  };
}

-- where the end is that a run is spent, no turn is left
none_left : (h : Halt) (s : State) → Halts h s → h ≡ Ends end.Spent → s.turns ≡ 0
none_left h s is same = subst (λ h. Halts h s) same is

all_taken : (n left : ℕ) → left ≡ 0 → n - left ≡ n
all_taken n left is = omega (arith, is)

spent : (input : List ℕ) (n : ℕ) (s : State) (came whole : Came) → CameWithin s came whole
    → (Meaning.ended input n came).halt ≡ Ends end.Spent → (Meaning.ended input n came).turns ≡ n
spent input n s (Returned v vs t) whole is same = all_taken n t.turns (none_left (Ends end.Done) t tt same)
spent input n s (Yielded v t slide) whole is same = all_taken n t.turns (none_left (Ends end.Done) t tt same)
spent input n s (Halted h t) whole is same = all_taken n t.turns (none_left h t is.0 same)

came_comes : (s : State) (came whole : Came) → CameWithin s came whole → Comes s (came_state came)
came_comes s (Returned v vs t) whole is = is.0
came_comes s (Yielded v t slide) whole is = is.0
came_comes s (Halted h t) whole is = is.1

came_more : (s t : State) (came whole : Came) → Comes s t → CameWithin t came whole → CameWithin s came whole
came_more s t (Returned v vs u) whole comes is = (then_comes comes is.0, is.1)
came_more s t (Yielded v u slide) whole comes is = (then_comes comes is.0, is.1, is.2)
came_more s t (Halted h u) whole comes is = (is.0, then_comes comes is.1, is.2)

main_within : (known : Known) (n : ℕ) (s : State) → suc s.turns ≤ n
    → CameWithin s ((at_most known n).body (main_of (at_most known n).known.source) mode.Let [] s)
    ((at_most known n).body (main_of (at_most known n).known.source) mode.Let [] (free s))
main_within known n s le = (at_most_within known n).body (main_of (at_most known n).known.source) mode.Let [] s le

begun_on : (known : Known) (n : ℕ) (s : State) (o whole : Outcome (Unit {0})) → OutWithin (Fewer n) s o whole
    → Comes (out_state o) (came_state (Meaning.begun (at_most known n) o))
begun_on known n s (Gives given env t) whole is = came_comes t _ _ (main_within known n t is.2)
begun_on known n s (Yields v t resumed) whole is = stays t
begun_on known n s (Stops h t) whole is = stays t

begun_stops : (known : Known) (n : ℕ) (h : Halt) (t : State) (o : Outcome (Unit {0})) → Comes (out_state o) (came_state (Meaning.begun (at_most known n) o))
    → Stopped h t (out_state o) (o ≡ Stops h (free t))
    → Stopped h t (came_state (Meaning.begun (at_most known n) o)) (Meaning.begun (at_most known n) o ≡ Halted h (free t))
begun_stops known n (Before e) t o after is = then_comes is after
begun_stops known n (Ends x) t o after is = ap (Meaning.begun (at_most known n)) is

begun : (known : Known) (n : ℕ) (s : State) (o whole : Outcome (Unit {0})) → OutWithin (Fewer n) s o whole → OutWithin (Fewer n) (free s) whole whole
    → CameWithin s (Meaning.begun (at_most known n) o) (Meaning.begun (at_most known n) whole)
begun known n s (Gives given env t) whole is own =
    subst (λ o. CameWithin s ((at_most known n).body (main_of (at_most known n).known.source) mode.Let [] t) (Meaning.begun (at_most known n) o)) (sym is.3)
    (came_more s t _ _ is.0 (main_within known n t is.2))
begun known n s (Yields v t resumed) whole is own = (tt, is.0, ap (Meaning.begun (at_most known n)) is.2)
begun known n s (Stops h t) whole is own =
    (is.0, is.1, begun_stops known n h t whole (begun_on known n (free s) whole whole own) is.2)

abbrev no_env : Env
no_env = record { locals = []; temporaries = [] }

pub main_runs : (tree : T.Program) (input : List ℕ) (cut : Bool) (n : ℕ) (events : Option ℕ)
    → CameWithin (Meaning.start input cut n events) (Meaning.runs_main (at_most (known_of tree) n) (Meaning.start input cut n events))
    (Meaning.runs_main (at_most (known_of tree) n) (Meaning.start input cut n None))
main_runs tree input cut n events =
    begun (known_of tree) n (Meaning.start input cut n events) (turn no_env (Meaning.start input cut n events)) (turn no_env (Meaning.start input cut n None))
    (turn_within.holds no_env (Meaning.start input cut n events) (itself n) (record { locals = tt; temporaries = tt }))
    (turn_within.holds no_env (Meaning.start input cut n None) (itself n) (record { locals = tt; temporaries = tt }))

pub spent_runs : SpentRunsTookAllTurns
spent_runs tree input cut n events same = spent input n _ _ _ (main_runs tree input cut n events) same

fewer_left : (n a b : ℕ) → b ≤ a → n - a ≤ n - b
fewer_left n a b le = omega (arith, le)

later_report : (input : List ℕ) (n : ℕ) (h i : Halt) (s t : State) → Comes s t → IsBeginning (Meaning.report input n h s) (Meaning.report input n i t)
later_report input n h i s t comes =
    record { more = comes.more; output = comes.output; turns = fewer_left n s.turns t.turns comes.turns; opened = comes.opened }

ended_after : (input : List ℕ) (n : ℕ) (h : Halt) (s : State) (came : Came) → Comes s (came_state came)
    → IsBeginning (Meaning.report input n h s) (Meaning.ended input n came)
ended_after input n h s (Returned v vs t) comes = later_report input n h _ s t comes
ended_after input n h s (Yielded v t slide) comes = later_report input n h _ s t comes
ended_after input n h s (Halted i t) comes = later_report input n h i s t comes

same_report : (input : List ℕ) (n : ℕ) (h : Halt) (s : State) (whole : Came) → Meaning.ended input n whole ≡ Meaning.report input n h (free s)
    → IsBeginning (Meaning.report input n h s) (Meaning.ended input n whole)
same_report input n h s whole is =
    subst (λ r. IsBeginning (Meaning.report input n h s) r) (sym is) (later_report input n h h s (free s) (stays_but s None))

stopped_report : (input : List ℕ) (n : ℕ) (h : Halt) (s : State) (whole : Came) → Stopped h s (came_state whole) (whole ≡ Halted h (free s))
    → IsBeginning (Meaning.report input n h s) (Meaning.ended input n whole)
stopped_report input n (Before e) s whole is = ended_after input n (Before e) s whole is
stopped_report input n (Ends x) s whole is = same_report input n (Ends x) s whole (ap (Meaning.ended input n) is)

begins : (input : List ℕ) (n : ℕ) (s : State) (came whole : Came) → CameWithin s came whole
    → IsBeginning (Meaning.ended input n came) (Meaning.ended input n whole)
begins input n s (Returned v vs t) whole is = same_report input n _ t whole (ap (Meaning.ended input n) is.1)
begins input n s (Yielded v t slide) whole is = same_report input n _ t whole (ap (Meaning.ended input n) is.2)
begins input n s (Halted h t) whole is = stopped_report input n h t whole is.2

pub beginnings : StatesAreBeginnings
beginnings tree input cut n events = begins input n _ _ _ (main_runs tree input cut n (Some events))

-- a run that ends within its limit on events is the whole run
abbrev IsBefore : Halt → Type 0
IsBefore (Before e) = Unit {0}
IsBefore (Ends x) = ⊥

is_whole : (input : List ℕ) (n : ℕ) (x : End) (h : Halt) (s : State) (whole : Came) → h ≡ Ends x → Stopped h s (came_state whole) (whole ≡ Halted h (free s))
    → Meaning.report input n h s ≡ Meaning.ended input n whole
is_whole input n x (Before e) s whole same is = absurd (differ same)
  where
    differ : Before e ≡ Ends x → ⊥
    differ same = subst (λ h. IsBefore h) same tt
is_whole input n x (Ends y) s whole same is = sym (ap (Meaning.ended input n) is)

whole_runs_of : (input : List ℕ) (n : ℕ) (x : End) (s : State) (came whole : Came) → CameWithin s came whole
    → (Meaning.ended input n came).halt ≡ Ends x → Meaning.ended input n came ≡ Meaning.ended input n whole
whole_runs_of input n x s (Returned v vs t) whole is same = sym (ap (Meaning.ended input n) is.1)
whole_runs_of input n x s (Yielded v t slide) whole is same = sym (ap (Meaning.ended input n) is.2)
whole_runs_of input n x s (Halted h t) whole is same = is_whole input n x h t whole same is.2

pub whole_runs : RunsThatEndAreWhole
whole_runs tree input cut n events x same = whole_runs_of input n x _ _ _ (main_runs tree input cut n (Some events)) same
