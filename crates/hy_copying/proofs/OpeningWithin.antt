-- The facts of `Within` for places that are opened and closed, and for calls.
use Rattle.std.proofs.Common.{refl, ap, arith}
use Rattle.std.specs.Prelude.{ℕ, Bool, true, false, List, [], ◌∷◌, Option, Some, None}
use Rattle.hy_base.specs.declared.position.Span.{Span}
use Rattle.hy_types.specs.Types.{PlainType}
use Rattle.hy_check.specs.Uses as U
use Rattle.hy_check.specs.Uses.{Use, Sig}
use Rattle.hy_core.specs.Values.{Val, Path, Selector, PartAt}
use Rattle.hy_copying.specs.Known.{Known}
use Rattle.hy_copying.specs.Runs.{State, Came, Returned, Yielded, Halted}
use Rattle.hy_copying.specs.Places
use Rattle.hy_copying.specs.Places.{Root, Local, Itself, Temporary, Located, Rooted, PartIn, ElementIn, YieldedIn, Arguments, NoArgument, Moved, Lent, Opened}
use Rattle.hy_copying.specs.Places.{InEntry, InYielded, Openeds, NoneOpen, NotOpen, AlsoOpen, Entry, Held, Env, put_in, put_at, hold, inner, temporaries_in}
use Rattle.hy_copying.specs.Does.{Does}
use Rattle.hy_copying.specs.Lives.{Later, first, rest}
use Rattle.hy_copying.specs.Opening
use Rattle.hy_copying.specs.Opening.{Place, Places, Worked, starts, closes, all_close, opens, all_open, with_open, calls, reads, moves, holds_all, put_back}
use Rattle.hy_copying.proofs.Within.{thus, free, Comes, stays, came_state}
use Rattle.hy_copying.proofs.Within.{out_state, CameWithin, OpenedWithin, OpenedsWithin, StandingWithin, EntriesWithin, EnvWithin}
use Rattle.hy_copying.proofs.Within.{opened_less, openeds_less, env_less, OutWithin, Within, Any, seq, less, gives, LaterWithin, later_less}
use Rattle.hy_copying.proofs.LivesWithin.{trapped, nothing_within, chosen, changed_within, count_within, turn_within, slides_within, came_stops}
use Rattle.hy_copying.proofs.LivesWithin.{deinitialised_within, all_go_within}

-- ENTRIES THAT ARE CHANGED

abbrev Keeps : (Entry → Entry) → Type 0
Keeps f = (b : ℕ) (e : Entry) → StandingWithin b e.standing → StandingWithin b (f e).standing

changed_if : (b : ℕ) (same : Bool) (f : Entry → Entry) (e : Entry) (more changed : List Entry) → Keeps f → EntriesWithin b (e ∷ more)
    → EntriesWithin b changed → EntriesWithin b (Places.changed_if same f e more changed)
changed_if b true f e more changed keeps good after = (keeps b e good.0, good.1)
changed_if b false f e more changed keeps good after = (good.0, after)

changed_among : (b : ℕ) (f : Entry → Entry) (root : Root) (es : List Entry) → Keeps f → EntriesWithin b es → EntriesWithin b (Places.changed f root es)
changed_among b f root [] keeps good = tt
changed_among b f root (e ∷ more) keeps good =
    changed_if b (Places.same_root e.root root) f e more (Places.changed f root more) keeps good (changed_among b f root more keeps good.1)

changed_env : (b : ℕ) (f : Entry → Entry) (root : Root) (env : Env) → Keeps f → EnvWithin b env → EnvWithin b (Places.with_changed f root env)
changed_env b f (Local node) env keeps good = record { locals = changed_among b f _ env.locals keeps good.locals; temporaries = good.temporaries }
changed_env b f Itself env keeps good = record { locals = changed_among b f _ env.locals keeps good.locals; temporaries = good.temporaries }
changed_env b f (Temporary node) env keeps good = record { locals = good.locals; temporaries = changed_among b f _ env.temporaries keeps good.temporaries }

pub holds_within : {d : ℕ} (nodes : List ℕ) → Within Any d (holds_all nodes)
holds_within [] = nothing_within
holds_within (node ∷ more) =
    seq (changed_within (λ env. hold node env) (λ b env le good. changed_env b _ (Temporary node) env (λ c e one. tt) good)) (λ c a le q. holds_within more)

-- CLOSING

pub starts_within : {d : ℕ} {later : Later} (filled : Bool) (v : Val) → LaterWithin d later → Within Any d (starts later filled v)
starts_within false v l = gives v (λ b le. tt)
starts_within true v l = seq (deinitialised_within v l) (λ c a le q. gives _ (λ b lt. tt))

put_within : {d : ℕ} (known : Known) (root : Root) (path : Path) (v : Option Val) → Within Any d (Opening.put_or_not known (InEntry root path) v)
put_within known root path None = nothing_within
put_within known root path (Some v) =
    changed_within (λ env. put_in known.source root path v env) (λ b env le good. changed_env b _ root env (λ c e one. one) good)

mutual
  pub closes_within : {d : ℕ} {later : Later} (o : Opened) (v : Option Val) → LaterWithin d later → OpenedWithin d o → Within Any d (closes later o v)
  closes_within {later = later} (InEntry root path) v l is = put_within later.known root path v
  closes_within (InYielded type yielded slide places temporaries path) v l is =
      seq (slides_within slide _ is.0) (λ c ps le q. seq (all_close_within places ps (later_less le l) (openeds_less places le is.1))
      (λ b u lt r. all_go_within _ (later_less (thus lt le) l)))

  pub all_close_within : {d : ℕ} {later : Later} (os : Openeds) (values : List Val) → LaterWithin d later → OpenedsWithin d os
      → Within Any d (all_close later os values)
  all_close_within NoneOpen values l is = nothing_within
  all_close_within (NotOpen more) values l is = all_close_within more (rest values) l is
  all_close_within (AlsoOpen used place more) values l is =
      seq (all_close_within more (rest values) l is.1) (λ c a le q. closes_within place _ (later_less le l) (opened_less place le is.0))

-- BODIES

back_on : (came whole : Came) (env : Env) (s : State) → CameWithin s came whole → Comes (came_state came) (out_state (Opening.came_back came env s))
back_on (Returned v ps t) whole env s is = stays t
back_on (Yielded v t slide) whole env s is = stays t
back_on (Halted h t) whole env s is = stays t

back : (came whole : Came) (env : Env) (s : State) → CameWithin s came whole → CameWithin (free s) whole whole → EnvWithin s.turns env
    → OutWithin Any s (Opening.came_back came env s) (Opening.came_back whole env (free s))
back (Returned v ps t) whole env s is own good = (is.0, env_less is.0.turns good, tt, ap (λ o. Opening.came_back o env (free s)) is.1)
back (Yielded v t slide) whole env s is own good = (tt, is.0, ap (λ o. Opening.came_back o env (free s)) is.2)
back (Halted h t) whole env s is own good =
    (is.0, is.1, came_stops h t whole (λ o. Opening.came_back o env (free s)) (back_on whole whole env (free s) own) refl is.2)

pub body_within : {d : ℕ} {later : Later} (sig : Sig) (values : List Val) → LaterWithin d later → Within Any d (Opening.body_runs later sig values)
body_within {later = later} sig values l = seq turn_within (λ c a le fewer. record {
  holds = λ env s lt good.
      let node = Opening.called later.known.source sig.callee (first values) in
      back (later.body node sig.variant values s) (later.body node sig.variant values (free s)) env s
      (l.body node sig.variant values s (omega (arith, lt, fewer))) (l.body node sig.variant values (free s) (omega (arith, lt, fewer))) good;
})

abbrev pub PlaceWithin : ℕ → Place → Type 0
PlaceWithin b p = OpenedWithin b p.opened

abbrev pub PlacesWithin : ℕ → Places → Type 0
PlacesWithin b ps = OpenedsWithin b ps.opened

projected_on : (came whole : Came) (type : PlainType) (places : Openeds) (temporaries : List ℕ) (env : Env) (s : State) → CameWithin s came whole
    → Comes (came_state came) (out_state (Opening.yielded type places temporaries came env s))
projected_on (Returned v ps t) whole type places temporaries env s is = stays t
projected_on (Yielded v t slide) whole type places temporaries env s is = stays t
projected_on (Halted h t) whole type places temporaries env s is = stays t

projected : (came whole : Came) (type : PlainType) (places : Openeds) (temporaries : List ℕ) (env : Env) (s : State) → CameWithin s came whole
    → CameWithin (free s) whole whole → OpenedsWithin s.turns places → EnvWithin s.turns env
    → OutWithin PlaceWithin s (Opening.yielded type places temporaries came env s) (Opening.yielded type places temporaries whole env (free s))
projected (Returned v ps t) whole type places temporaries env s is own os good =
    (tt, is.0, ap (λ o. Opening.yielded type places temporaries o env (free s)) is.1)
projected (Yielded v t slide) whole type places temporaries env s is own os good =
    (is.0, env_less is.0.turns good, (is.1, openeds_less places is.0.turns os), ap (λ o. Opening.yielded type places temporaries o env (free s)) is.2)
projected (Halted h t) whole type places temporaries env s is own os good = (
  is.0,
  is.1,
  came_stops h t whole (λ o. Opening.yielded type places temporaries o env (free s))
      (projected_on whole whole type places temporaries env (free s) own) refl is.2,
)

ramps_within : {d : ℕ} {later : Later} (sig : Sig) (type : PlainType) (temporaries : List ℕ) (places : Places) → LaterWithin d later
    → PlacesWithin d places → Within PlaceWithin d (Opening.ramps later sig type temporaries places)
ramps_within {later = later} sig type temporaries places l os = seq (holds_within temporaries) (λ e w lw z. seq turn_within (λ c a le fewer. record {
  holds = λ env s lt good.
      let node = Opening.called later.known.source sig.callee (first places.values) in
      projected (later.body node sig.variant places.values s) (later.body node sig.variant places.values (free s)) type places.opened temporaries env s
      (l.body node sig.variant places.values s (omega (arith, lt, fewer, lw)))
      (l.body node sig.variant places.values (free s) (omega (arith, lt, fewer, lw)))
      (openeds_less places.opened (thus lt (thus le lw)) os) good;
}))

-- OPENING

inner_within : (b : ℕ) (s : Selector) (o : Opened) → OpenedWithin b o → OpenedWithin b (inner s o)
inner_within b s (InEntry root path) is = tt
inner_within b s (InYielded type yielded slide places temporaries path) is = is

index_within : {d : ℕ} (p : Place) (k : Option ℕ) (span : Span) → PlaceWithin d p → Within PlaceWithin d (Opening.at_index p k span)
index_within p None span is = trapped _ span
index_within p (Some k) span is = seq count_within (λ c a le q. gives _ (λ b lt. inner_within b _ p.opened (opened_less p.opened (thus lt le) is)))

mutual
  pub opens_within : {d : ℕ} {later : Later} (located : Located) → LaterWithin d later → Within PlaceWithin d (opens later located)
  opens_within (Rooted root) l = record { holds = λ env s le good. (stays s, good, tt, refl) }
  opens_within (PartIn whole k) l = seq (opens_within whole l) (λ c p le q. gives _ (λ b lt. inner_within b (PartAt k) p.opened (opened_less p.opened lt q)))
  opens_within (ElementIn whole index span) l = seq (opens_within whole l) (λ c p le q. index_within p _ span q)
  opens_within (YieldedIn sig type arguments) l =
      seq (all_open_within true arguments l) (λ c ps le q. ramps_within sig type (temporaries_in arguments) ps (later_less le l) q)

  pub all_open_within : {d : ℕ} {later : Later} (counted : Bool) (arguments : Arguments) → LaterWithin d later
      → Within PlacesWithin d (all_open later counted arguments)
  all_open_within counted NoArgument l = gives _ (λ b le. tt)
  all_open_within counted (Moved v more) l = seq (all_open_within counted more l) (λ c ps le q. gives _ (λ b lt. openeds_less ps.opened lt q))
  all_open_within counted (Lent used located more) l =
      seq (opens_within located l) (λ c p le q. seq (chosen counted count_within nothing_within)
      (λ b u lt r. seq (starts_within _ p.value (later_less (thus lt le) l))
      (λ e v ll z. seq (less (thus ll (thus lt le)) (all_open_within counted more l))
      (λ f ps lf w. gives (Opening.also_open used p v ps) (λ g lg. (opened_less p.opened (thus lg (thus lf (thus ll lt))) q, openeds_less ps.opened lg w))))))

-- CALLS

pub with_within : {d : ℕ} {later : Later} (counted : Bool) (arguments : Arguments) (body : List Val → Does Worked) → LaterWithin d later
    → ((values : List Val) → Within Any d (body values)) → Within Any d (with_open later counted arguments body)
with_within counted arguments body l is =
    seq (all_open_within counted arguments l) (λ c ps le q. seq (less le (is ps.values))
    (λ b worked lt r. seq (all_close_within ps.opened worked.left (later_less (thus lt le) l) (openeds_less ps.opened lt q)) (λ e u ll z. gives _
    (λ g lg. tt))))

pub calls_within : {d : ℕ} {later : Later} (sig : Sig) (arguments : Arguments) → LaterWithin d later → Within Any d (calls later sig arguments)
calls_within {later = later} sig arguments l = with_within true arguments (Opening.body_runs later sig) l (λ values. body_within sig values l)

pub reads_within : {d : ℕ} {later : Later} (place : Located) → LaterWithin d later → Within Any d (reads later place)
reads_within place l = with_within false (Lent U.Read place NoArgument) Opening.read_value l (λ values. gives _ (λ b le. tt))

pub moves_within : {d : ℕ} {later : Later} (place : Located) → LaterWithin d later → Within Any d (moves later place)
moves_within place l = with_within false (Lent U.Sink place NoArgument) Opening.moved_value l (λ values. gives _ (λ b le. tt))
