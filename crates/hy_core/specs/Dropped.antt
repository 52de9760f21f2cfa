-- What a core has done by the end of each body: in a checked core everything set was given up, and in a core each array.
use Rattle.std.specs.Prelude.{◌≡◌, ◌≤◌, ℕ, zero, suc, true, false, None}
use Rattle.hy_core.specs.Values.{Val, shape, is_blank, holds_array, nests_array}
use Rattle.hy_core.specs.Control.{Stage, Deinitialises, GivesUp}
use Rattle.hy_core.specs.Memory.{Key, Copies, copying, no_copies}
use Rattle.hy_core.specs.Runs.{Effect, Store, Change, Clear, Lend, Hand, Close, Quit, Interaction, Fetch, Inspect, Perform, Return, apply, interpret}
use Rattle.hy_core.specs.Statements.{interaction, start}
use Rattle.hy_core.specs.Meaning.{Run, setting}
use Rattle.hy_core.specs.Runs.{Fate, Moved, Deinitialised, Discarded}

-- what may be left in an owned local: in a core no array, and in a checked core nothing
abbrev pub IsGivenUp : Stage → Val → Type 0
IsGivenUp Deinitialises v = holds_array v ≡ false
IsGivenUp GivesUp v = is_blank v ≡ true

-- the local is no open one, and nothing is left in it
pub record IsGone (stage : Stage) (m : Copies) (k : Key) : Type 0 where
  pub closed : m.opened k ≡ None
  pub given_up : IsGivenUp stage (m.value k)

-- What is given up has no array with an element that holds an array: giving up an array gives up none inside it.
abbrev pub LosesNone : Fate → Val → Type 0
LosesNone Moved v = Unit {0}
LosesNone Deinitialised v = Unit {0}
LosesNone Discarded v = nests_array v ≡ false

-- No statement stores over a set array, or gives up an array while one is in it. Once a `Leave` has taken what it hands out,
-- nothing is left in an owned local, and nothing that the body opened is open.
abbrev pub Keeps : Stage → Effect → Copies → Type 0
Keeps stage (Store s v) m = holds_array (copying.read m s) ≡ false
Keeps stage (Change s v) m = Unit {0}
Keeps stage (Clear s fate) m = LosesNone fate (copying.read m s)
Keeps stage (Lend k s way) m = Unit {0}
Keeps stage (Hand k l) m = Unit {0}
Keeps stage (Close k) m = Unit {0}
Keeps stage (Quit a n) m = (j : ℕ) → n ≤ j → IsGone stage m (record { act = a; local = j })

abbrev pub KeepsAll : Stage → {C : Type 0} → Interaction C → Copies → Type 0
KeepsAll stage (Fetch s go) m = KeepsAll stage (go (copying.read m s)) m
KeepsAll stage (Inspect s go) m = KeepsAll stage (go (shape (copying.read m s))) m
KeepsAll stage (Perform op t) m = Keeps stage op m × KeepsAll stage t (apply copying op m)
KeepsAll stage (Return c) m = Unit {0}

-- for n steps of the copying run
abbrev pub StaysDropped : Stage → {C : Type 0} → (C → Interaction C) → ℕ → C → Copies → Type 0
StaysDropped stage interaction zero c m = Unit {0}
StaysDropped stage interaction (suc n) c m = let s = interpret copying (interaction c) m
    in KeepsAll stage (interaction c) m × StaysDropped stage interaction n s.control s.memory

-- That no `Copy` of a checked core is of a type that holds an array is a rule of its flow.
abbrev pub IsDroppedRun : Run → Type 0
IsDroppedRun r = (k : ℕ) → StaysDropped r.stage (interaction (setting r)) k (start r.core r.input r.turns) no_copies
