use Rattle.std.proofs.Common.{◌-◌, length}
use Rattle.hy_checked.proofs.Lent.{NoneBelow}
use Rattle.hy_checked.proofs.machine.Machine.is_lent.Given as goal

abbrev pub invariant-loop-at : goal.invariant-loop-at
invariant-loop-at l = NoneBelow l.object l.self l.name l.at

abbrev pub decreases-loop-at : goal.decreases-loop-at
decreases-loop-at l = length l.self.suspended_ids.items - l.at
