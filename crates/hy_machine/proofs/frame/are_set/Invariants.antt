use Rattle.std.proofs.Common.{◌≡◌, drop}
use Rattle.hy_machine.specs.Machine.{all_set}
use Rattle.hy_machine.proofs.frame.are_set.Given as goal

abbrev pub invariant-loop-cell : goal.invariant-loop-cell
invariant-loop-cell l = all_set l.cells ≡ all_set (drop l.cell-index l.cells)
