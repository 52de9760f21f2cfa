use Rattle.std.proofs.Common.{◌≡◌, ◌++◌, replicate}
use Rattle.hy_store.specs.Cells.{Unset}
use Rattle.hy_store.proofs.blocks.padded.Given as goal

abbrev pub invariant-loop : goal.invariant-loop
invariant-loop l = l.cells.items ≡ l.first ++ replicate l.counter Unset
