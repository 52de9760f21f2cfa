use Rattle.std.proofs.Common.{take}
use Rattle.hy_types.specs.Types.{Table}
use Rattle.hy_types.specs.Sizes.{AreRight, IsRightTogether}
use Rattle.hy_types.proofs.sizes.total.Given as goal

abbrev pub invariant-loop-part : goal.invariant-loop-part
invariant-loop-part l = (table : Table) → AreRight table l.sizes → IsRightTogether table l.sizes (take l.part-index l.parts) l.sum
