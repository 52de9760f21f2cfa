use Rattle.std.proofs.Common.{◌≡◌, ◌++◌, length}
use Rattle.hy_lower.specs.Frames.{missing, order_of}
use Rattle.hy_lower.proofs.homes.order_of.Given as goal

abbrev pub invariant-loop-local : goal.invariant-loop-local
invariant-loop-local l = l.order ++ missing l.handed l.left ≡ order_of l.handed l.filled

abbrev pub decreases-loop-local : goal.decreases-loop-local
decreases-loop-local l = length l.left
