-- The machine follows the core: its state is built from the core's and from what it has besides.
use Rattle.std.specs.Prelude.{◌≡◌, ℕ, ◌+◌, ◌<◌, ◌≤◌, false, [], Some, None, slice_get}
use Rattle.hy_base.specs.declared.numbers.IntegerType.TheVariants.{Int, Sized}
use Rattle.hy_base.specs.declared.run.End.{End}
use Rattle.hy_types.specs.declared.kinds.TyId.{TyId}
use Rattle.hy_core.specs.Plain.{Fun}
use Rattle.hy_core.specs.Values.{Val, Number, Truth, Tuple, Product, Array}
use Rattle.hy_core.specs.Values as val
use Rattle.hy_core.specs.Memory as memory
use Rattle.hy_core.specs.Runs as runs
use Rattle.hy_core.specs.Control.{Control, Halt, Ends, NotSet, NotOpened, Form, Numbers, Flags, form}
use Rattle.hy_core.specs.Control as core
use Rattle.hy_object.specs.declared.object.Fun as object
use Rattle.hy_object.specs.declared.object.Object.{Object}
use Rattle.hy_object.specs.Checks.{is_name}
use Rattle.hy_object.specs.States.{Cell, Word, State, Ended, Called, Empty}
use Rattle.hy_object.specs.Words.{truth}
use Rattle.hy_object.specs.Steps.{steps}
use Rattle.hy_lower.specs.declared.body.Home.TheVariants.{Words}
use Rattle.hy_lower.specs.Frames.{Frame, home_of, size_of}
use Rattle.hy_lower_laws.specs.Standing.{At}

-- RUNS

-- the machine comes from one state to another
pub record Leads (o : Object) (m n : State) : Type 0 where
  pub count : ℕ
  pub runs : steps o count m ≡ n

-- BUILDING THE MACHINE'S STATE

-- from the core's control, the place of the running activation, and the rest of a state
abbrev pub mach : Control → ℕ → State → State
mach c pc x = record x {
  now = record (x.now) { place = pc };
  input = c.input;
  output = c.output;
  left = c.turns;
  counts =
      record (x.counts) { opened = c.opened };
}

-- what a word holds for a value of that form, which takes one word
abbrev pub CellIs : Form → Val → Cell → Type 0
CellIs f val.Unset d = is_name d ≡ false
CellIs f (Number Int n) d = (d ≡ Word n) × (f ≡ Numbers Int)
CellIs f (Number (Sized num) n) d = ⊥
CellIs f (Truth b) d = (d ≡ Word (truth b)) × (f ≡ Flags)
CellIs f (Tuple vs) d = ⊥
CellIs f (Product e vs) d = ⊥
CellIs f (Array vs) d = ⊥

-- a local that takes one word, and where it is
pub record IsWord (b : Frame) (l w : ℕ) : Type 0 where
  pub type : TyId
  pub typed : slice_get b.locals l ≡ Some type
  pub size : size_of b.sizes type ≡ 1
  pub home : home_of b l ≡ Words w

-- a local that takes no words, and where its words would be
pub record IsNothing (b : Frame) (l w : ℕ) : Type 0 where
  pub type : TyId
  pub typed : slice_get b.locals l ≡ Some type
  pub size : size_of b.sizes type ≡ 0
  pub home : home_of b l ≡ Words w

-- of the body whose code is followed: its frame, its functions, and how many turns the run has
pub record Body : Type 0 where
  pub frame : Frame
  pub core : Fun
  pub object : object.Fun
  pub turns : ℕ

-- what is known of it
pub record IsBody (y : Body) : Type 0 where
  pub locals : (l : ℕ) → slice_get y.frame.locals l ≡ core.local_type y.core l
  pub below : (l w : ℕ) → IsWord y.frame l w → w < y.frame.scratch
  pub nothing : (l w : ℕ) → IsNothing y.frame l w → w ≤ y.frame.scratch
  pub apart : (l k w : ℕ) → IsWord y.frame l w → IsWord y.frame k w → l ≡ k
  pub scratch : y.frame.scratch + 2 ≤ y.object.words
  pub lent : y.core.lent ≡ []
  pub result : y.object.result ≡ 0

abbrev pub Cells : Type 0
Cells = ℕ → ℕ → Cell

-- The words of the locals are their values, and no word is the name of a block.
pub record Holds (y : Body) (act frame : ℕ) (s : memory.Cells) (cells : Cells) : Type 0 where
  pub words : (l w : ℕ) (word : IsWord y.frame l w) → CellIs (form y.frame.types word.type) (s.cell (record { act = act; local = l })) (cells frame w)
  pub nameless : (block at : ℕ) → is_name (cells block at) ≡ false

pub record Linked (y : Body) (c : Control) (s : memory.Cells) (x : State) : Type 0 where
  pub going : c.halt ≡ None
  pub stop : x.stop ≡ None
  pub core : c.now.fun ≡ y.core
  pub object : x.now.fun ≡ y.object
  pub closed : (name : ℕ) → x.access name ≡ None
  pub own : (k : memory.Key) → s.refers k ≡ None
  pub holds : Holds y c.now.id x.now.frame s x.cells
  pub turns : x.counts.turns + c.turns ≡ y.turns
  -- it is `main`, and no other body waits for it
  pub core_alone : c.callers ≡ []
  pub alone : x.callers ≡ []
  pub role : x.now.role ≡ Called 0
  pub slots : (slot : ℕ) → x.slots x.now.frame slot ≡ Empty

-- both runs are over, in one way
pub record Over (y : Body) (c : Control) (m : State) : Type 0 where
  pub how : End
  pub core : c.halt ≡ Some (Ends how)
  pub machine : m.stop ≡ Some (Ended how)
  pub output : m.output ≡ c.output
  pub input : m.input ≡ c.input
  pub turns : m.counts.turns + c.turns ≡ y.turns
  pub opened : m.counts.opened ≡ c.opened

-- what a core of the right shape that has a flow never comes to
pub data IsWrong : Halt → Type 0 where
  stuck : IsWrong core.Stuck
  not_set : IsWrong NotSet
  not_opened : IsWrong NotOpened

-- the machine in the state m comes to where the core is
pub data Follows (o : Object) (y : Body) (r : runs.State Control memory.Cells) (m : State) : Type 0 where
  goes_on : (pc : ℕ) (x : State) → Linked y r.control r.memory x → At y.frame y.object.code pc r.control.now.work → Leads o m (mach r.control pc x)
      → Follows o y r m
  over : (n : State) → Leads o m n → Over y r.control n → Follows o y r m
  wrong : (h : Halt) → r.control.halt ≡ Some h → IsWrong h → Follows o y r m
