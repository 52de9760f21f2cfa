-- Runs of any control over any memory.
use Rattle.std.specs.Prelude.{ℕ, zero, suc}
use Rattle.hy_core.specs.Values.{Val, Unset, Shape, shape}
use Rattle.hy_core.specs.Memory.{Key, Spot, Way, Memory}

-- What becomes of the value of a place that is left unset: it goes elsewhere, was deinitialised where it stands, or is given up.
pub data Fate : Type 0 where
  Moved : Fate
  Deinitialised : Fate
  Discarded : Fate

-- What a control does to a memory. Three stores are distinguished: of what a statement gives (`Store`), of an array that is
-- changed where it stands (`Change`), and of what leaves a place unset (`Clear`). `Quit` does nothing: an activation that
-- has that many lent locals is about to end.
pub data Effect : Type 0 where
  Store : Spot → Val → Effect
  Change : Spot → Val → Effect
  Clear : Spot → Fate → Effect
  Lend : Key → Spot → Way → Effect
  Hand : (to from : Key) → Effect
  Close : Key → Effect
  Quit : (act lent : ℕ) → Effect

-- One step of a control: it fetches values, inspects what stands somewhere, has the memory perform effects, and comes to its
-- next state.
pub data Interaction (C : Type 0) : Type 0 where
  Fetch : Spot → (Val → Interaction C) → Interaction C
  Inspect : Spot → (Shape → Interaction C) → Interaction C
  Perform : Effect → Interaction C → Interaction C
  Return : C → Interaction C

abbrev pub apply : {M : Type 0} → Memory M → Effect → M → M
apply r (Store s v) m = r.store m s v
apply r (Change s v) m = r.store m s v
apply r (Clear s fate) m = r.store m s Unset
apply r (Lend k s way) m = r.lend m k s way
apply r (Hand k l) m = r.hand m k l
apply r (Close k) m = r.close m k
apply r (Quit a n) m = m

-- a state of the control with its memory
pub record State (C M : Type 0) : Type 0 where
  pub control : C
  pub memory : M

abbrev pub interpret : {C M : Type 0} → Memory M → Interaction C → M → State C M
interpret r (Fetch s go) m = interpret r (go (r.read m s)) m
interpret r (Inspect s go) m = interpret r (go (shape (r.read m s))) m
interpret r (Perform op t) m = interpret r t (apply r op m)
interpret r (Return c) m = record { control = c; memory = m }

-- the state after n steps
abbrev pub steps : {C M : Type 0} → Memory M → (C → Interaction C) → ℕ → C → M → State C M
steps r interaction zero c m = record { control = c; memory = m }
steps r interaction (suc n) c m = let s = interpret r (interaction c) m in steps r interaction n s.control s.memory
