use Rattle.std.proofs.Common.{◌≡◌, ◌++◌}
use Rattle.hy_lower.specs.Frames.{so_many}
use Rattle.hy_lower.proofs.gather.repeat.Given as goal

abbrev pub invariant-loop-left : goal.invariant-loop-left
invariant-loop-left l = l.out ++ so_many l.left l.local ≡ l.fn.out ++ so_many l.count l.local

abbrev pub decreases-loop-left : goal.decreases-loop-left
decreases-loop-left l = l.left
