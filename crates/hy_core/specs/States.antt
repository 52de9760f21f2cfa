-- What holds in each state of the two runs of a core that has a flow.
use Rattle.std.specs.Prelude.{◌≡◌, ◌≢◌, ◌⊎◌, ℕ, zero, suc, Some, None}
use Rattle.hy_core.specs.Plain.{Writes}
use Rattle.hy_core.specs.Values.{Val, Path, get, Apart, Diverge, Within, IsThere, shape}
use Rattle.hy_core.specs.Memory.{Key, below, Origin, Copies, copying, Cells, target, lending, no_copies, no_cells}
use Rattle.hy_core.specs.Runs.{State}
use Rattle.hy_core.specs.Calm.{IsWritable, IsCalm}
use Rattle.hy_core.specs.Control.{Control, Setting}
use Rattle.hy_core.specs.Statements.{interaction}
use Rattle.hy_core.specs.Meaning.{Run, setting, state}
use Rattle.hy_core.specs.Dropped.{KeepsAll}
use Rattle.hy_core.specs.Shaped.{Shaped}
use Rattle.hy_core.specs.Flow.{HasFlow}

-- what the store holds for a local
abbrev pub held : Cells → Key → Val
held s k = get (target s k).path (s.cell (target s k).key)

-- the path goes through no place of the local that is open for change
abbrev pub IsClear : Copies → Key → Path → Type 0
IsClear m k q = (c : Key) (o : Origin) → m.opened c ≡ Some o → o.base ≡ k → o.way ≡ Writes → Within o.path q → ⊥

-- a local was opened from another, in so many steps
abbrev pub IsFrom : Copies → ℕ → Key → Key → Type 0
IsFrom m zero k a = k ≡ a
IsFrom m (suc n) k a = (o : Origin) × (m.opened k ≡ Some o) × IsFrom m n o.base a

-- one is the other, or was opened from it, or from what was
abbrev pub Descends : Copies → Key → Key → Type 0
Descends m k a = (n : ℕ) × IsFrom m n k a

-- The two memories say the same.
pub record Agree (m : Copies) (s : Cells) : Type 0 where
  -- a local that is open in the one is a reference in the other: to the place that its origin names, in what its base stands for
  pub own : (k : Key) → m.opened k ≡ None → s.refers k ≡ None
  pub refers : (k : Key) (o : Origin) → m.opened k ≡ Some o → s.refers k ≡ Some (below (target s o.base) o.path)
  -- what a local stands for is there
  pub there : (k : Key) → IsThere (target s k).path (s.cell (target s k).key)
  -- the copy of a place that is lent for change may be stale, and no other copy is
  pub same : (k : Key) (q : Path) → IsClear m k q → shape (get q (m.value k)) ≡ shape (get q (held s k))
  -- what is open for change was opened from what may be changed
  pub way : (k : Key) (o : Origin) → m.opened k ≡ Some o → o.way ≡ Writes → IsWritable m o.base
  -- a place that is open for change overlaps none that is open from the same local
  pub siblings : (k l : Key) (o q : Origin) → m.opened k ≡ Some o → m.opened l ≡ Some q → k ≢ l → o.base ≡ q.base → o.way ≡ Writes → Apart o.path q.path
  -- what a local stands for that is open for change is apart from what any other local stands for, but its ancestors and descendants
  pub apart : (k l : Key) (o : Origin) → m.opened k ≡ Some o → o.way ≡ Writes → (target s k).key ≡ (target s l).key
      → (Descends m k l ⊎ Descends m l k) ⊎ Diverge (target s k).path (target s l).path

-- in a state of the two runs, which have one control
pub record ReadyState (p : Setting) (c : Control) (m : Copies) (s : Cells) : Type 0 where
  pub agree : Agree m s
  -- all that the next step asks of the memory, and does to it, is allowed
  pub calm : IsCalm (interaction p c) m
  -- it stores over no set array, and gives up no array with an element that holds an array; and at a `Leave` that has taken what
  -- it hands out, nothing that the body owns is set, and nothing that it opened is open
  pub keeps : KeepsAll p.stage (interaction p c) m

pub record AtStep (p : Setting) (x : State Control Copies) (y : State Control Cells) : Type 0 where
  pub control : x.control ≡ y.control
  pub ready : ReadyState p x.control x.memory y.memory

-- In each state of the runs of a core that has a flow, both runs have one control, the memories agree, and the next step is allowed.
-- It is checked, and so ready, or its `Drop` deinitialises.
abbrev pub ReadyStates : Type 0
ReadyStates = (r : Run) → Shaped r.core → HasFlow r.stage r.core → (k : ℕ) → AtStep (setting r) (state copying no_copies r k) (state lending no_cells r k)
