use Rattle.std.proofs.Common.{◌≡◌, drop}
use Rattle.hy_store.specs.Cells.{no_name}
use Rattle.hy_store.proofs.cell.are_nameless.Given as goal

abbrev pub invariant-loop-cell : goal.invariant-loop-cell
invariant-loop-cell l = no_name (drop l.cell-index l.cells) ≡ no_name l.cells
