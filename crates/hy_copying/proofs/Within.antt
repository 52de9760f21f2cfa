-- What holds of every run: no state has more turns left than one before it, or has written less; a run is spent only where no turn is
-- left; and a limit on events cuts it off, and changes nothing else.
use Rattle.std.proofs.Common.{◌≡◌, refl, sym, subst, ap, ◌∙◌, arith, append_assoc, append-nil}
use Rattle.std.specs.Prelude.{ℕ, suc, ◌≤◌, List, [], ◌∷◌, ◌++◌, Option, None}
use Rattle.hy_base.specs.declared.run.End.TheVariants as end
use Rattle.hy_tree.specs.declared.operator.Mode.{Mode}
use Rattle.hy_core.specs.Values.{Val}
use Rattle.hy_copying.specs.Runs.{State, Halt, Ends, Before, Slid, Back, Late, Came, Returned, Yielded, Halted}
use Rattle.hy_copying.specs.Places.{Opened, InEntry, InYielded, Openeds, NoneOpen, NotOpen, AlsoOpen, Standing, Owned, OnlyLent, Bound, Held, Entry, Env}
use Rattle.hy_copying.specs.Does.{Outcome, Gives, Yields, Stops, Does, and_then}
use Rattle.hy_copying.specs.Lives.{Later}

pub thus : {a b c : ℕ} → a ≤ b → b ≤ c → a ≤ c
thus p q = omega (arith, p, q)

pub itself : (a : ℕ) → a ≤ a
itself a = omega arith

-- without a limit on events
abbrev pub free : State → State
free s = record s { events = None }

-- a state that comes after another one
pub record Comes (s t : State) : Type 0 where
  pub more : List ℕ
  pub output : t.output ≡ s.output ++ more
  pub turns : t.turns ≤ s.turns
  pub opened : s.opened ≤ t.opened

pub stays : (s : State) → Comes s s
stays s = record { more = []; output = sym (append-nil s.output); turns = itself s.turns; opened = itself s.opened }

-- the same state with another limit on events
pub stays_but : (s : State) (events : Option ℕ) → Comes s (record s { events = events })
stays_but s events = record { more = []; output = sym (append-nil s.output); turns = itself s.turns; opened = itself s.opened }

pub then_comes : {s t u : State} → Comes s t → Comes t u → Comes s u
then_comes {s} {t} {u} a b = record {
  more = a.more ++ b.more;
  output = b.output ∙ ap (λ o. o ++ b.more) a.output ∙ append_assoc s.output a.more b.more;
  turns = thus b.turns a.turns;
  opened = thus a.opened b.opened;
}

abbrev pub Halts : Halt → State → Type 0
Halts (Ends end.Spent) t = t.turns ≡ 0
Halts h t = Unit {0}

-- A run that was cut off before an event goes on from there without the limit. Else both end in the same way.
abbrev pub Stopped : Halt → (cut_off whole : State) → (same : Type 0) → Type 0
Stopped (Before e) t u same = Comes t u
Stopped (Ends x) t u same = same

abbrev pub slid_state : Slid → State
slid_state (Back vs t) = t
slid_state (Late h t) = t

abbrev pub came_state : Came → State
came_state (Returned v vs t) = t
came_state (Yielded v t slide) = t
came_state (Halted h t) = t

abbrev pub out_state : {A : Type 0} → Outcome A → State
out_state (Gives a env t) = t
out_state (Yields v t resumed) = t
out_state (Stops h t) = t

abbrev pub SlidWithin : State → (limited whole : Slid) → Type 0
SlidWithin s (Back vs t) r = Comes s t × (r ≡ Back vs (free t))
SlidWithin s (Late h t) r = Halts h t × Comes s t × Stopped h t (slid_state r) (r ≡ Late h (free t))

abbrev pub SlideWithin : ℕ → (Val → State → Slid) → Type 0
SlideWithin b slide = (v : Val) (t : State) → t.turns ≤ b → SlidWithin t (slide v t) (slide v (free t))

abbrev pub CameWithin : State → (limited whole : Came) → Type 0
CameWithin s (Returned v vs t) r = Comes s t × (r ≡ Returned v vs (free t))
CameWithin s (Yielded v t slide) r = Comes s t × SlideWithin t.turns slide × (r ≡ Yielded v (free t) slide)
CameWithin s (Halted h t) r = Halts h t × Comes s t × Stopped h t (came_state r) (r ≡ Halted h (free t))

-- the slides that wait in a place can be trusted from so many turns on
abbrev mutual
  pub OpenedWithin : ℕ → Opened → Type 0
  OpenedWithin b (InEntry root path) = Unit {0}
  OpenedWithin b (InYielded type yielded slide places temporaries path) = SlideWithin b slide × OpenedsWithin b places

  pub OpenedsWithin : ℕ → Openeds → Type 0
  OpenedsWithin b NoneOpen = Unit {0}
  OpenedsWithin b (NotOpen more) = OpenedsWithin b more
  OpenedsWithin b (AlsoOpen used place more) = OpenedWithin b place × OpenedsWithin b more

abbrev pub StandingWithin : ℕ → Standing → Type 0
StandingWithin b (Bound used place from temporaries) = OpenedWithin b place
StandingWithin b other = Unit {0}

abbrev pub EntriesWithin : ℕ → List Entry → Type 0
EntriesWithin b [] = Unit {0}
EntriesWithin b (e ∷ more) = StandingWithin b e.standing × EntriesWithin b more

pub record EnvWithin (b : ℕ) (env : Env) : Type 0 where
  pub locals : EntriesWithin b env.locals
  pub temporaries : EntriesWithin b env.temporaries

-- FEWER TURNS

mutual
  pub opened_less : {b c : ℕ} (o : Opened) → c ≤ b → OpenedWithin b o → OpenedWithin c o
  opened_less (InEntry root path) le is = tt
  opened_less (InYielded type yielded slide places temporaries path) le is = (λ v t lt. is.0 v t (thus lt le), openeds_less places le is.1)

  pub openeds_less : {b c : ℕ} (os : Openeds) → c ≤ b → OpenedsWithin b os → OpenedsWithin c os
  openeds_less NoneOpen le is = tt
  openeds_less (NotOpen more) le is = openeds_less more le is
  openeds_less (AlsoOpen used place more) le is = (opened_less place le is.0, openeds_less more le is.1)

pub standing_less : {b c : ℕ} (s : Standing) → c ≤ b → StandingWithin b s → StandingWithin c s
standing_less Owned le is = tt
standing_less OnlyLent le is = tt
standing_less (Bound used place from temporaries) le is = opened_less place le is
standing_less Held le is = tt

pub entries_less : {b c : ℕ} (es : List Entry) → c ≤ b → EntriesWithin b es → EntriesWithin c es
entries_less [] le is = tt
entries_less (e ∷ more) le is = (standing_less e.standing le is.0, entries_less more le is.1)

pub env_less : {b c : ℕ} {env : Env} → c ≤ b → EnvWithin b env → EnvWithin c env
env_less {env = env} le is = record { locals = entries_less env.locals le is.locals; temporaries = entries_less env.temporaries le is.temporaries }

-- WHAT PHRASES DO

-- what comes of a state, with its limit on events and without one
abbrev pub OutWithin : {A : Type 0} → (ℕ → A → Type 0) → State → (limited whole : Outcome A) → Type 0
OutWithin Q s (Gives a env t) o = Comes s t × EnvWithin t.turns env × Q t.turns a × (o ≡ Gives a env (free t))
OutWithin Q s (Yields v t resumed) o =
    Comes s t × ((w : Val) (u : State) → u.turns ≤ t.turns → OutWithin Q u (resumed w u) (resumed w (free u))) × (o ≡ Yields v (free t) resumed)
OutWithin Q s (Stops h t) o = Halts h t × Comes s t × Stopped h t (out_state o) (o ≡ Stops h (free t))

-- from d turns at most
pub record Within {A : Type 0} (Q : ℕ → A → Type 0) (d : ℕ) (does : Does A) : Type 0 where
  pub holds : (env : Env) (s : State) → s.turns ≤ d → EnvWithin s.turns env → OutWithin Q s (does env s) (does env (free s))

abbrev pub Any : {A : Type 0} → ℕ → A → Type 0
Any b a = Unit {0}

pub out_more : {A : Type 0} (Q : ℕ → A → Type 0) (s t : State) (o whole : Outcome A) → Comes s t → OutWithin Q t o whole → OutWithin Q s o whole
out_more Q s t (Gives a env u) whole comes is = (then_comes comes is.0, is.1, is.2, is.3)
out_more Q s t (Yields v u resumed) whole comes is = (then_comes comes is.0, is.1, is.2)
out_more Q s t (Stops h u) whole comes is = (is.0, then_comes comes is.1, is.2)

pub out_comes : {A : Type 0} (Q : ℕ → A → Type 0) (s : State) (o whole : Outcome A) → OutWithin Q s o whole → Comes s (out_state o)
out_comes Q s (Gives a env u) whole is = is.0
out_comes Q s (Yields v u resumed) whole is = is.0
out_comes Q s (Stops h u) whole is = is.1

on : {A B : Type 0} (Q : ℕ → A → Type 0) (P : ℕ → B → Type 0) {d : ℕ} (s : State) (o whole : Outcome A) (next : A → Does B) → s.turns ≤ d
    → OutWithin Q s o whole → ((c : ℕ) (a : A) → c ≤ d → Q c a → Within P c (next a)) → Comes (out_state o) (out_state (and_then o next))
on Q P s (Gives a env u) whole next le is go =
    out_comes P u (next a env u) (next a env (free u)) ((go u.turns a (thus is.0.turns le) is.2).holds env u (itself u.turns) is.1)
on Q P s (Yields v u resumed) whole next le is go = stays u
on Q P s (Stops h u) whole next le is go = stays u

stopped : {A B : Type 0} (h : Halt) (t : State) (whole : Outcome A) (next : A → Does B) → Comes (out_state whole) (out_state (and_then whole next))
    → Stopped h t (out_state whole) (whole ≡ Stops h (free t)) → Stopped h t (out_state (and_then whole next)) (and_then whole next ≡ Stops h (free t))
stopped (Before e) t whole next after is = then_comes is after
stopped (Ends x) t whole next after is = ap (λ o. and_then o next) is

bound : {A B : Type 0} (Q : ℕ → A → Type 0) (P : ℕ → B → Type 0) {d : ℕ} (s : State) (o whole : Outcome A) (next : A → Does B) → s.turns ≤ d
    → OutWithin Q s o whole → OutWithin Q (free s) whole whole → ((c : ℕ) (a : A) → c ≤ d → Q c a → Within P c (next a))
    → OutWithin P s (and_then o next) (and_then whole next)
bound Q P s (Gives a env t) whole next le is own go =
    subst (λ o. OutWithin P s (next a env t) (and_then o next)) (sym is.3)
    (out_more P s t (next a env t) (next a env (free t)) is.0 ((go t.turns a (thus is.0.turns le) is.2).holds env t (itself t.turns) is.1))
bound Q P s (Yields v t resumed) whole next le is own go =
    subst (λ o. OutWithin P s (Yields v t (λ w u. and_then (resumed w u) next)) (and_then o next)) (sym is.2)
    (is.0, λ w u lu. bound Q P u (resumed w u) (resumed w (free u)) next (thus lu (thus is.0.turns le)) (is.1 w u lu) (is.1 w (free u) lu) go, refl)
bound Q P s (Stops h t) whole next le is own go = (is.0, is.1, stopped h t whole next (on Q P (free s) whole whole next le own go) is.2)

pub seq : {A B : Type 0} {Q : ℕ → A → Type 0} {P : ℕ → B → Type 0} {d : ℕ} {f : Does A} {next : A → Does B} → Within Q d f
    → ((c : ℕ) (a : A) → c ≤ d → Q c a → Within P c (next a)) → Within P d (λ env s. and_then (f env s) next)
seq {Q = Q} {P = P} {f = f} {next = next} is go = record {
  holds = λ env s le good. bound Q P s (f env s) (f env (free s)) next le (is.holds env s le good) (is.holds env (free s) le good) go;
}

pub less : {A : Type 0} {Q : ℕ → A → Type 0} {b d : ℕ} {f : Does A} → b ≤ d → Within Q d f → Within Q b f
less le is = record { holds = λ env s lt good. is.holds env s (thus lt le) good }

pub gives : {A : Type 0} {Q : ℕ → A → Type 0} {d : ℕ} (a : A) → ((b : ℕ) → b ≤ d → Q b a) → Within Q d (λ env s. Gives a env s)
gives a q = record { holds = λ env s le good. (stays s, good, q s.turns le, refl) }

-- LATER

pub record LaterWithin (d : ℕ) (later : Later) : Type 0 where
  pub passes : d ≤ later.passes
  pub body : (node : ℕ) (variant : Mode) (vs : List Val) (s : State) → suc s.turns ≤ d
      → CameWithin s (later.body node variant vs s) (later.body node variant vs (free s))
  pub parts : (v : Val) (b : ℕ) → suc b ≤ d → Within Any b (later.parts v)

pub later_less : {b d : ℕ} {later : Later} → b ≤ d → LaterWithin d later → LaterWithin b later
later_less le l = record {
  passes = thus le l.passes;
  body = λ node variant vs s lt. l.body node variant vs s (thus lt le);
  parts = λ v c lt. l.parts v c (thus lt le);
}
