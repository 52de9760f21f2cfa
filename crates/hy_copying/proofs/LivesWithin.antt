-- The facts of `Within` for what is done in an environment, for copies, deinitialisation and temporaries.
use Rattle.std.proofs.Common.{◌≡◌, refl, sym, subst, ap, ◌∙◌, arith, append-nil}
use Rattle.std.specs.Prelude.{ℕ, zero, suc, ◌≤◌, ◌-◌, Bool, true, false, List, [], ◌∷◌, length, Option, Some, None, cond}
use Rattle.hy_base.specs.declared.position.Span.{Span}
use Rattle.hy_base.specs.declared.run.TrapKind.{TrapKind}
use Rattle.hy_tree.specs.declared.operator.Mode.TheVariants as mode
use Rattle.hy_core.specs.Values.{Val, Unset, Number, Truth, Tuple, Product, Array, Vals, No, And, all_whole}
use Rattle.hy_copying.specs.Known.{deinit_of}
use Rattle.hy_copying.specs.Runs.{State, Halt, Ends, Before, Event, TakesTurn, Slid, Back, Late, Came, Returned, Yielded, Halted}
use Rattle.hy_copying.specs.Places
use Rattle.hy_copying.specs.Places.{Root, Local, Itself, Temporary, Standing, Owned, OnlyLent, Bound, Held, Entry, Env, value_of, without, hold}
use Rattle.hy_copying.specs.Does
use Rattle.hy_copying.specs.Does.{Outcome, Gives, Yields, Stops, Does, Acts, and_then, nothing, traps, impossible, when, changes, declares, take_newest}
use Rattle.hy_copying.specs.Does.{happens, count, turn, slides}
use Rattle.hy_copying.specs.Lives
use Rattle.hy_copying.specs.Lives.{Later, Visit, Copying, Deinitialising, visits, visits_parts, visits_elements, deinitialises, copies, as_statement}
use Rattle.hy_copying.specs.Lives.{temporaries_die, let_all_go, deinitialises_parts}
use Rattle.hy_copying.proofs.Within.{thus, itself, free, Comes, stays, stays_but, then_comes}
use Rattle.hy_copying.proofs.Within.{Stopped, slid_state, came_state, out_state, SlidWithin, SlideWithin, CameWithin}
use Rattle.hy_copying.proofs.Within.{StandingWithin, EntriesWithin, EnvWithin, standing_less, entries_less, env_less}
use Rattle.hy_copying.proofs.Within.{OutWithin, Within, Any, out_more, out_comes, seq, less, gives, LaterWithin, later_less}

-- THE END OF A RUN

pub trapped : {A : Type 0} {Q : ℕ → A → Type 0} {d : ℕ} (kind : TrapKind) (span : Span) → Within Q d (traps kind span)
trapped kind span = record { holds = λ env s le good. (tt, stays s, refl) }

pub never : {A : Type 0} {Q : ℕ → A → Type 0} {d : ℕ} → Within Q d impossible
never = record { holds = λ env s le good. (tt, stays s, refl) }

pub nothing_within : {d : ℕ} → Within Any d nothing
nothing_within = gives tt (λ b le. tt)

pub chosen : {A : Type 0} {Q : ℕ → A → Type 0} {d : ℕ} {f g : Does A} (b : Bool) → Within Q d f → Within Q d g → Within Q d (when b f g)
chosen true f g = f
chosen false f g = g

-- THE ENVIRONMENT

pub changed_within : {d : ℕ} (f : Env → Env) → ((b : ℕ) (env : Env) → b ≤ d → EnvWithin b env → EnvWithin b (f env)) → Within Any d (changes f)
changed_within f is = record { holds = λ env s le good. (stays s, is s.turns env le good, tt, refl) }

pub declared_within : {d : ℕ} (e : Entry) → ((b : ℕ) → b ≤ d → StandingWithin b e.standing) → Within Any d (declares e)
declared_within e is = changed_within (λ env. record env { locals = e ∷ env.locals })
    (λ b env le good. record { locals = (is b le, good.locals); temporaries = good.temporaries })

-- EVENTS

allowed_within : (events : Option ℕ) (e : Event) (env : Env) (s : State) → EnvWithin s.turns env
    → OutWithin Any s (Does.allowed events e env s) (Gives tt env (free s))
allowed_within None e env s good = (stays s, good, tt, refl)
allowed_within (Some zero) e env s good = (tt, stays s, stays_but s None)
allowed_within (Some (suc n)) e env s good = (stays_but s (Some n), good, tt, refl)

pub happens_within : {d : ℕ} (e : Event) → Within Any d (happens e)
happens_within e = record { holds = λ env s le good. allowed_within s.events e env s good }

more_opened : (s : State) → Comes s (record s { opened = suc s.opened })
more_opened s = record { more = []; output = sym (append-nil s.output); turns = itself s.turns; opened = omega arith }

pub opened_within : {d : ℕ} → Within Any d Does.one_opened
opened_within = record { holds = λ env s le good. (more_opened s, good, tt, refl) }

pub count_within : {d : ℕ} → Within Any d count
count_within = seq (happens_within _) (λ c a le q. opened_within)

-- after a turn fewer are left
abbrev pub Fewer : ℕ → ℕ → Unit {0} → Type 0
Fewer d b a = suc b ≤ d

fewer_turns : (n : ℕ) (s : State) → suc n ≡ s.turns → Comes s (record s { turns = n })
fewer_turns n s is = record { more = []; output = sym (append-nil s.output); turns = omega (arith, is); opened = itself s.opened }

fewer_turns_but : (n : ℕ) (s : State) (events : Option ℕ) → suc n ≡ s.turns → Comes s (record s { turns = n; events = events })
fewer_turns_but n s events is = record { more = []; output = sym (append-nil s.output); turns = omega (arith, is); opened = itself s.opened }

fewer : (n : ℕ) (events : Option ℕ) (env : Env) (s : State) (d : ℕ) → suc n ≡ s.turns → s.turns ≤ d → EnvWithin s.turns env
    → OutWithin (Fewer d) s (and_then (Does.allowed events TakesTurn env s) (λ given. Does.with_turns n)) (Gives tt env (record (free s) { turns = n }))
fewer n None env s d is le good = (fewer_turns n s is, env_less (omega (arith, is)) good, omega (arith, is, le), refl)
fewer n (Some zero) env s d is le good = (tt, stays s, fewer_turns_but n s None is)
fewer n (Some (suc k)) env s d is le good = (fewer_turns_but n s (Some k) is, env_less (omega (arith, is)) good, omega (arith, is, le), refl)

turned : (n : ℕ) (env : Env) (s : State) (d : ℕ) → n ≡ s.turns → s.turns ≤ d → EnvWithin s.turns env
    → OutWithin (Fewer d) s (Does.turn_of n env s) (Does.turn_of n env (free s))
turned zero env s d is le good = (sym is, stays s, refl)
turned (suc n) env s d is le good = fewer n s.events env s d is le good

pub turn_within : {d : ℕ} → Within (Fewer d) d turn
turn_within {d} = record { holds = λ env s le good. turned s.turns env s d refl le good }

-- SLIDES AND BODIES

slid_goes_on : (r : Slid) (env : Env) (s : State) → out_state (Does.of_slid r env s) ≡ slid_state r
slid_goes_on (Back vs t) env s = refl
slid_goes_on (Late h t) env s = refl

slid_stops : (h : Halt) (t : State) (r : Slid) (env : Env) (s : State) → Stopped h t (slid_state r) (r ≡ Late h (free t))
    → Stopped h t (out_state (Does.of_slid r env s)) (Does.of_slid r env s ≡ Stops h (free t))
slid_stops (Before e) t r env s is = subst (λ u. Comes t u) (sym (slid_goes_on r env s)) is
slid_stops (Ends x) t r env s is = ap (λ r. Does.of_slid r env s) is

slid_within : (r whole : Slid) (env : Env) (s : State) → SlidWithin s r whole → EnvWithin s.turns env
    → OutWithin Any s (Does.of_slid r env s) (Does.of_slid whole env (free s))
slid_within (Back vs t) whole env s is good = (is.0, env_less is.0.turns good, tt, ap (λ r. Does.of_slid r env (free s)) is.1)
slid_within (Late h t) whole env s is good = (is.0, is.1, slid_stops h t whole env (free s) is.2)

pub slides_within : {d : ℕ} (slide : Val → State → Slid) (v : Val) → SlideWithin d slide → Within Any d (slides slide v)
slides_within slide v is = record { holds = λ env s le good. slid_within (slide v s) (slide v (free s)) env s (is v s le) good }

-- what is done with what a body comes to, and that comes to the state of the body or to one after it
pub came_stops : {A : Type 0} (h : Halt) (t : State) (came : Came) (does : Came → Outcome A) → Comes (came_state came) (out_state (does came))
    → does (Halted h (free t)) ≡ Stops h (free t) → Stopped h t (came_state came) (came ≡ Halted h (free t))
    → Stopped h t (out_state (does came)) (does came ≡ Stops h (free t))
came_stops (Before e) t came does on same is = then_comes is on
came_stops (Ends x) t came does on same is = ap does is ∙ same

-- COPIES AND DEINITIALISATION

parts_on : {d : ℕ} {later : Later} (came whole : Came) (env : Env) (s : State) → LaterWithin d later → suc s.turns ≤ d → CameWithin s came whole
    → EnvWithin s.turns env → Comes (came_state came) (out_state (Lives.after_deinit later came env s))
parts_on {later = later} (Returned v vs t) whole env s l le is good =
    out_comes Any t (later.parts (Lives.first vs) env t) (later.parts (Lives.first vs) env (free t))
    ((l.parts (Lives.first vs) t.turns (omega (arith, is.0.turns, le))).holds env t (itself t.turns) (env_less is.0.turns good))
parts_on (Yielded v t slide) whole env s l le is good = stays t
parts_on (Halted h t) whole env s l le is good = stays t

parts_follow : {d : ℕ} {later : Later} (came whole : Came) (env : Env) (s : State) → LaterWithin d later → suc s.turns ≤ d → CameWithin s came whole
    → CameWithin (free s) whole whole → EnvWithin s.turns env
    → OutWithin Any s (Lives.after_deinit later came env s) (Lives.after_deinit later whole env (free s))
parts_follow {later = later} (Returned v vs t) whole env s l le is own good =
    subst (λ o. OutWithin Any s (later.parts (Lives.first vs) env t) (Lives.after_deinit later o env (free s))) (sym is.1)
    (out_more Any s t (later.parts (Lives.first vs) env t) (later.parts (Lives.first vs) env (free t)) is.0
    ((l.parts (Lives.first vs) t.turns (omega (arith, is.0.turns, le))).holds env t (itself t.turns) (env_less is.0.turns good)))
parts_follow {later = later} (Yielded v t slide) whole env s l le is own good =
    (tt, is.0, ap (λ o. Lives.after_deinit later o env (free s)) is.2)
parts_follow {later = later} (Halted h t) whole env s l le is own good =
    (is.0, is.1, came_stops h t whole (λ o. Lives.after_deinit later o env (free s)) (parts_on whole whole env (free s) l le own good) refl is.2)

deinit_within : {b d : ℕ} {later : Later} (node : ℕ) (v : Val) → LaterWithin d later → suc b ≤ d → Within Any b (Lives.runs_deinit later node v)
deinit_within {later = later} node v l le = record {
  holds = λ env s lt good.
      parts_follow (later.body node mode.Inout (v ∷ []) s) (later.body node mode.Inout (v ∷ []) (free s)) env s l (omega (arith, lt, le))
      (l.body node mode.Inout (v ∷ []) s (omega (arith, lt, le))) (l.body node mode.Inout (v ∷ []) (free s) (omega (arith, lt, le))) good;
}

ends_within : {d : ℕ} {later : Later} (deinit : Option ℕ) (whole : Bool) (v : Val) (parts : Acts) → LaterWithin d later → Within Any d parts
    → Within Any d (Lives.product_ends later deinit whole v parts)
ends_within None whole v parts l is = is
ends_within (Some node) false v parts l is = is
ends_within (Some node) true v parts l is =
    seq count_within (λ c a le q. seq turn_within (λ b u lt fewer. deinit_within node v (later_less le l) fewer))

product_within : {d : ℕ} {later : Later} (visit : Visit) (product : ℕ) (vs : Vals) (parts : Acts) → LaterWithin d later → Within Any d parts
    → Within Any d (Lives.product_visited later visit product vs parts)
product_within Copying product vs parts l is = is
product_within {later = later} Deinitialising product vs parts l is =
    ends_within (deinit_of later.known.source product) (all_whole vs) (Product product vs) parts l is

mutual
  pub visits_within : {d : ℕ} {later : Later} (visit : Visit) (v : Val) → LaterWithin d later → Within Any d (visits later visit v)
  visits_within visit Unset l = nothing_within
  visits_within visit (Number t n) l = nothing_within
  visits_within visit (Truth b) l = nothing_within
  visits_within visit (Tuple vs) l = parts_within visit vs l
  visits_within visit (Product product vs) l = product_within visit product vs _ l (parts_within visit vs l)
  visits_within visit (Array vs) l =
      seq count_within (λ c a le q. seq turn_within (λ b u lt fewer. less (thus lt le) (elements_within visit vs l)))

  pub parts_within : {d : ℕ} {later : Later} (visit : Visit) (vs : Vals) → LaterWithin d later → Within Any d (visits_parts later visit vs)
  parts_within visit No l = nothing_within
  parts_within visit (And v vs) l = seq (visits_within visit v l) (λ c a le q. less le (parts_within visit vs l))

  pub elements_within : {d : ℕ} {later : Later} (visit : Visit) (vs : Vals) → LaterWithin d later → Within Any d (visits_elements later visit vs)
  elements_within visit No l = nothing_within
  elements_within visit (And v vs) l =
      seq turn_within (λ c a le q. seq count_within (λ b u lt r. seq (less (thus lt le) (visits_within visit v l))
      (λ e w lw z. less (thus lw (thus lt le)) (elements_within visit vs l))))

pub deinitialised_within : {d : ℕ} {later : Later} (v : Val) → LaterWithin d later → Within Any d (deinitialises later v)
deinitialised_within v l = visits_within Deinitialising v l

-- TEMPORARIES

abbrev pub Left : ℕ → List Entry → Type 0
Left b es = EntriesWithin b es

dies_within : {d : ℕ} {later : Later} (standing : Standing) (e : Entry) (others : Does (List Entry)) → LaterWithin d later
    → StandingWithin d e.standing → Within Left d others → Within Left d (Lives.dies later standing e others)
dies_within Owned e others l good is = seq (deinitialised_within e.value l) (λ c a le q. less le is)
dies_within OnlyLent e others l good is = is
dies_within (Bound used place from temporaries) e others l good is = is
dies_within Held e others l good is = seq is (λ c left le q. gives (e ∷ left) (λ b lt. (standing_less e.standing (thus lt le) good, entries_less left lt q)))

die_within : {d : ℕ} {later : Later} (n : ℕ) (es : List Entry) → LaterWithin d later → EntriesWithin d es → Within Left d (Lives.die later n es)
die_within zero es l good = gives es (λ b le. entries_less es le good)
die_within (suc n) [] l good = gives [] (λ b le. tt)
die_within (suc n) (e ∷ more) l good = dies_within e.standing e _ l good.0 (die_within n more l good.1)

pub temporaries_within : {d : ℕ} {later : Later} (before : ℕ) → LaterWithin d later → Within Any d (temporaries_die later before)
temporaries_within before l = record {
  holds = λ env s le good.
      (seq (die_within (length env.temporaries - before) env.temporaries (later_less le l) good.temporaries)
      (λ c left lt q. changed_within (λ env. record env { temporaries = left })
      (λ b env lb good. record { locals = good.locals; temporaries = entries_less left lb q }))).holds env s (itself s.turns) good;
}

pub statement_within : {A : Type 0} {d : ℕ} {later : Later} {does : Does A} → LaterWithin d later → Within Any d does → Within Any d (as_statement later does)
statement_within {later = later} {does = does} l is = record {
  holds = λ env s le good.
      (seq (less le is) (λ c a lc q. seq (temporaries_within (length env.temporaries) (later_less (thus lc le) l)) (λ b u lb r. gives a (λ e le. tt)))).holds
      env s (itself s.turns) good;
}

one_of : (b : ℕ) (same : Bool) (es others : List Entry) → EntriesWithin b es → EntriesWithin b others → EntriesWithin b (cond same es others)
one_of b true es others good left = good
one_of b false es others good left = left

without_within : (b : ℕ) (root : Root) (es : List Entry) → EntriesWithin b es → EntriesWithin b (Places.without_among root es)
without_within b root [] good = tt
without_within b root (e ∷ more) good =
    one_of b (Places.same_root e.root root) more (e ∷ Places.without_among root more) good.1 (good.0, without_within b root more good.1)

go_within : {d : ℕ} {later : Later} (node : ℕ) → LaterWithin d later → Within Any d (Lives.let_go later node)
go_within {later = later} node l = record {
  holds = λ env s le good.
      (seq (changed_within (λ env. without node env)
      (λ b env lb good. record { locals = good.locals; temporaries = without_within b (Temporary node) env.temporaries good.temporaries }))
      (λ c a lc q. deinitialised_within (value_of (Temporary node) env) (later_less (thus lc le) l))).holds env s (itself s.turns) good;
}

pub all_go_within : {d : ℕ} {later : Later} (nodes : List ℕ) → LaterWithin d later → Within Any d (let_all_go later nodes)
all_go_within [] l = nothing_within
all_go_within (node ∷ older) l = seq (go_within node l) (λ c a le q. less le (all_go_within older l))
