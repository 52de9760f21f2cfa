use Rattle.std.proofs.Common.{◌≡◌, drop}
use Rattle.hy_store.specs.Cells.{all_set}
use Rattle.hy_store.proofs.cell.are_set.Given as goal

abbrev pub invariant-loop-cell : goal.invariant-loop-cell
invariant-loop-cell l = all_set (drop l.cell-index l.cells) ≡ all_set l.cells
