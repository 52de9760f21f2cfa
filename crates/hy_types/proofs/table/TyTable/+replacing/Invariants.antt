use Rattle.std.proofs.Common.{◌*◌, ◌+◌}
use Rattle.hy_types.proofs.Solving.{highest}
use Rattle.hy_types.proofs.Replaced.{Replacing}
use Rattle.hy_types.proofs.table.TyTable.+replacing.Given as goal

abbrev pub decreases-replace : goal.decreases-replace
decreases-replace l = 2 * l.ty.at + 1

abbrev pub decreases-replace_all : goal.decreases-replace_all
decreases-replace_all l = 2 * highest l.types.now

abbrev pub invariant-replace_all-loop-part : goal.invariant-replace_all-loop-part
invariant-replace_all-loop-part l = Replacing l.initial.self l.args l.types l.self l.replaced.items l.part-index
