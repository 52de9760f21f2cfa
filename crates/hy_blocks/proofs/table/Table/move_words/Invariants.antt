use Rattle.hy_blocks.specs.Blocks.{Moves}
use Rattle.hy_blocks.specs.Tables.{look}
use Rattle.hy_blocks.proofs.table.Table.move_words.Given as goal

abbrev pub invariant-loop-i : goal.invariant-loop-i
invariant-loop-i l = Moves (look l.initial.self) (look l.self) l.to l.to_at l.from l.from_at l.i
