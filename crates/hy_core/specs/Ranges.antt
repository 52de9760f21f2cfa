-- The integers that the runs of a core of the right shape hold.
use Rattle.std.specs.Prelude.{◌≡◌, ℕ, ℤ, None}
use Rattle.hy_base.specs.declared.numbers.IntegerType.{IntegerType}
use Rattle.hy_core.specs.Values.{Number, Path, get}
use Rattle.hy_core.specs.Memory.{Key, copying, no_copies}
use Rattle.hy_core.specs.Operators.{InRange}
use Rattle.hy_core.specs.Meaning.{Run, state}
use Rattle.hy_core.specs.Shaped.{Shaped}

-- As long as a run of such a core goes on, each integer of a sized type in a local, at any depth, is one of the type.
abbrev pub IntegersStayInRange : Type 0
IntegersStayInRange = (r : Run) → Shaped r.core → (k : ℕ) → (state copying no_copies r k).control.halt ≡ None
    → (l : Key) (q : Path) (t : IntegerType) (n : ℤ) → get q ((state copying no_copies r k).memory.value l) ≡ Number t n → InRange t n
