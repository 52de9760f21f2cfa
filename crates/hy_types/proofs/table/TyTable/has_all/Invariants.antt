use Rattle.std.proofs.Common.{length, take}
use Rattle.hy_types.specs.Types.{AllBelow}
use Rattle.hy_types.proofs.table.TyTable.has_all.Given as goal

abbrev pub invariant-loop-id : goal.invariant-loop-id
invariant-loop-id l = AllBelow (length l.self.types) (take l.id-index l.ids)
