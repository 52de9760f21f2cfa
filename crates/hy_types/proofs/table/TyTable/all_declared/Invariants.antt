use Rattle.hy_types.proofs.Asked.{DeclaredBelow}
use Rattle.hy_types.proofs.table.TyTable.all_declared.Given as goal

abbrev pub invariant-loop-row : goal.invariant-loop-row
invariant-loop-row l = DeclaredBelow l.self l.row-index
