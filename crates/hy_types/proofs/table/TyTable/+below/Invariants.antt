use Rattle.std.proofs.Common.{◌*◌, ◌+◌, take}
use Rattle.hy_types.specs.Types.{type_of, plain_types}
use Rattle.hy_types.specs.Matching.{AllParametersBelow}
use Rattle.hy_types.proofs.Solving.{highest}
use Rattle.hy_types.proofs.table.TyTable.+below.Given as goal

abbrev pub decreases-is_below : goal.decreases-is_below
decreases-is_below l = 2 * l.id.at + 1

abbrev pub decreases-all_below : goal.decreases-all_below
decreases-all_below l = 2 * highest l.ids.now

abbrev pub invariant-all_below-loop-id : goal.invariant-all_below-loop-id
invariant-all_below-loop-id l = AllParametersBelow l.count (plain_types (type_of l.self) (take l.id-index l.ids))
