-- What phrases of a source do: each gives something, with a new environment and state, or ends the run.
use Rattle.std.specs.Prelude.{ℕ, zero, suc, Bool, true, false, List, [], ◌∷◌, Option, Some, None}
use Rattle.hy_base.specs.declared.position.Span.{Span}
use Rattle.hy_base.specs.declared.run.End.TheVariants as end
use Rattle.hy_base.specs.declared.run.TrapKind.{TrapKind}
use Rattle.hy_core.specs.Values.{Val}
use Rattle.hy_copying.specs.Runs.{State, Halt, Ends, Before, Event, TakesTurn, Opens, Slid, Back, Late}
use Rattle.hy_copying.specs.Places.{Env, Entry}

-- A `yield` hands a value out, with what is still done once one comes back.
pub data Outcome (A : Type 0) : Type 0 where
  Gives : A → Env → State → Outcome A
  Yields : Val → State → (resumed : Val → State → Outcome A) → Outcome A
  Stops : Halt → State → Outcome A

-- what a phrase does that gives an A
abbrev pub Does : Type 0 → Type 0
Does A = Env → State → Outcome A

-- what gives nothing
abbrev pub Acts : Type 0
Acts = Does (Unit {0})

-- what comes of it where more is done then
abbrev pub and_then : {A B : Type 0} → Outcome A → (A → Does B) → Outcome B
and_then (Gives a env s) next = next a env s
and_then (Yields v s resumed) next = Yields v s (λ w t. and_then (resumed w t) next)
and_then (Stops h s) next = Stops h s

-- One after another, as the lines of a `do` are: `x ← e` names what e gives.
abbrev pub ◌>>=◌ : {A B : Type 0} → Does A → (A → Does B) → Does B
◌>>=◌ first next env s = and_then (first env s) next

abbrev pub ◌>>◌ : {A B : Type 0} → Does A → Does B → Does B
◌>>◌ first next env s = and_then (first env s) (λ given. next)

-- Gives this, and does nothing.
abbrev pub give : {A : Type 0} → A → Does A
give a env s = Gives a env s

-- Does nothing.
abbrev pub nothing : Acts
nothing = give tt

-- The run ends.
abbrev pub halt : {A : Type 0} → Halt → Does A
halt h env s = Stops h s

-- The run ends in a trap.
abbrev pub traps : {A : Type 0} → TrapKind → Span → Does A
traps kind span = halt (Ends (end.Trap kind span))

-- No phrase of a source that breaks no rule comes to this.
abbrev pub impossible : {A : Type 0} → Does A
impossible = halt (Ends end.Asks)

-- the one or the other
abbrev pub when : {A : Type 0} → Bool → (this that : Does A) → Does A
when true this that = this
when false this that = that

-- THE ENVIRONMENT

-- The environment is changed.
abbrev pub changes : (Env → Env) → Acts
changes f env s = Gives tt (f env) s

-- One entry more is the newest.
abbrev pub declares : Entry → Acts
declares e = changes (λ env. record env { locals = e ∷ env.locals })

abbrev pub taken : List Entry → Env → State → Outcome (Option Entry)
taken [] env s = Gives None env s
taken (e ∷ more) env s = Gives (Some e) (record env { locals = more }) s

-- The newest entry is taken away.
abbrev pub take_newest : Does (Option Entry)
take_newest env s = taken env.locals env s

-- EVENTS

abbrev pub with_events : ℕ → State → State
with_events n s = record s { events = Some n }

abbrev pub allowed : Option ℕ → Event → Acts
allowed None e env s = Gives tt env s
allowed (Some zero) e env s = Stops (Before e) s
allowed (Some (suc n)) e env s = Gives tt env (with_events n s)

-- An event comes, where one more may come.
abbrev pub happens : Event → Acts
happens e env s = allowed s.events e env s

abbrev pub one_opened : Acts
one_opened env s = Gives tt env (record s { opened = suc s.opened })

-- One more place was opened.
abbrev pub count : Acts
count = do
  happens Opens
  one_opened

abbrev pub with_turns : ℕ → Acts
with_turns n env s = Gives tt env (record s { turns = n })

abbrev pub turn_of : ℕ → Acts
turn_of zero = halt (Ends end.Spent)
turn_of (suc n) = do
  happens TakesTurn
  with_turns n

-- Takes a turn.
abbrev pub turn : Acts
turn env s = turn_of s.turns env s

abbrev pub of_slid : Slid → Does (List Val)
of_slid (Back parameters t) env s = Gives parameters env t
of_slid (Late h t) env s = Stops h t

-- the rest of a subscript, from the value that comes back
abbrev pub slides : (Val → State → Slid) → Val → Does (List Val)
slides slide v env s = of_slid (slide v s) env s
