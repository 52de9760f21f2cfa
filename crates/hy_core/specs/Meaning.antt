-- The two meanings of a core, and what is proved of them.
use Rattle.std.specs.Prelude.{◌≡◌, ◌≢◌, ℕ, ◌-◌, Bool, List, length, Option, Some}
use Rattle.hy_core.specs.Plain.{Core}
use Rattle.hy_core.specs.Memory.{Memory, copying, lending, no_copies, no_cells}
use Rattle.hy_core.specs.Runs.{State, steps}
use Rattle.hy_core.specs.Calm.{StaysCalm}
use Rattle.hy_core.specs.Control.{Control, Halt, NotSet, NotOpened, Stage, Setting}
use Rattle.hy_core.specs.Statements.{interaction, start}

-- What is seen of a run: its output and how it stopped, how many bytes of the input it took, the turns that it took, the
-- places that it opened.
pub record Report : Type 0 where
  pub output : List ℕ
  pub halt : Option Halt
  pub taken : ℕ
  pub turns : ℕ
  pub opened : ℕ

abbrev pub report : (input : List ℕ) → (turns : ℕ) → Control → Report
report input turns c = record { output = c.output; halt = c.halt; taken = length input - length c.input; turns = turns - c.turns; opened = c.opened }

-- What a run is given: the core and what its `Drop` does; the input, which is a beginning only where `cut` holds; and the
-- number of turns.
pub record Run : Type 0 where
  pub core : Core
  pub stage : Stage
  pub cut : Bool
  pub input : List ℕ
  pub turns : ℕ

abbrev pub setting : Run → Setting
setting r = record { core = r.core; stage = r.stage; cut = r.cut }

-- the state after k steps
abbrev pub state : {M : Type 0} → Memory M → M → Run → (k : ℕ) → State Control M
state memory m r k = steps memory (interaction (setting r)) k (start r.core r.input r.turns) m

-- what is seen after k steps
abbrev pub seen : {M : Type 0} → Memory M → M → Run → (k : ℕ) → Report
seen memory m r k = report r.input r.turns (state memory m r k).control

-- what is seen after k steps of the run that copies in and out, and of the run that lends references
abbrev pub copied : Run → (k : ℕ) → Report
copied = seen copying no_copies

abbrev pub lent : Run → (k : ℕ) → Report
lent = seen lending no_cells

-- The run ends with what is seen so: this is its meaning.
pub record Means (run : ℕ → Report) (r : Report) : Type 0 where
  pub count : ℕ
  pub seen : run count ≡ r
  pub halt : Halt
  pub halted : r.halt ≡ Some halt

-- the meaning that copies, and the meaning that lends
abbrev pub CopiesTo : Run → Report → Type 0
CopiesTo r = Means (copied r)

abbrev pub LendsTo : Run → Report → Type 0
LendsTo r = Means (lent r)

-- The run touches nothing that overlaps what is open.
abbrev pub TouchesCalmly : Run → Type 0
TouchesCalmly r = (k : ℕ) → StaysCalm (interaction (setting r)) k (start r.core r.input r.turns) no_copies

abbrev pub NeverHalts : Run → Halt → Type 0
NeverHalts r h = (k : ℕ) → (copied r k).halt ≢ Some h

-- A run is calm.
pub record IsCalmRun (r : Run) : Type 0 where
  -- it opens, uses and closes nothing that overlaps what is open, changes nothing through a local that was opened for reading,
  -- and hands over only what is open
  pub touches : TouchesCalmly r
  -- it reads, moves and gives up no unset place
  pub reads : NeverHalts r NotSet
  -- a `Close` ends only what a `Lend` opened, and a `Slide` only what a `Project` opened
  pub closes : NeverHalts r NotOpened

-- STATEMENTS

-- Where the copying run is calm, the two runs are the same: step by step, and so in their meanings.
abbrev pub CopyingAndLendingAgree : Type 0
CopyingAndLendingAgree = (r : Run) (k : ℕ) → StaysCalm (interaction (setting r)) k (start r.core r.input r.turns) no_copies → copied r k ≡ lent r k

abbrev pub MeaningsAgree : Type 0
MeaningsAgree = (r : Run) → TouchesCalmly r → (report : Report) → (CopiesTo r report → LendsTo r report) × (LendsTo r report → CopiesTo r report)

-- every run has a meaning
pub record EveryRunEnds : Type 0 where
  pub copying : (r : Run) → (report : Report) × CopiesTo r report
  pub lending : (r : Run) → (report : Report) × LendsTo r report

-- and only one
pub record OneMeaning : Type 0 where
  pub copying : (r : Run) (a b : Report) → CopiesTo r a → CopiesTo r b → a ≡ b
  pub lending : (r : Run) (a b : Report) → LendsTo r a → LendsTo r b → a ≡ b
