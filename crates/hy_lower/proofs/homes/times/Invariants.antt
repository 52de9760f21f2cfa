use Rattle.std.proofs.Common.{◌≡◌, ◌+◌, length}
use Rattle.hy_lower.specs.Frames.{times}
use Rattle.hy_lower.proofs.homes.times.Given as goal

abbrev pub invariant-loop-other : goal.invariant-loop-other
invariant-loop-other l = l.sum + times l.local l.left ≡ times l.local l.locals

abbrev pub decreases-loop-other : goal.decreases-loop-other
decreases-loop-other l = length l.left
