use Rattle.std.proofs.Common.{◌≡◌, ◌++◌, length}
use Rattle.hy_lower.proofs.gather.append.Given as goal

abbrev pub invariant-loop-local : goal.invariant-loop-local
invariant-loop-local l = l.out ++ l.left ≡ l.fn.out ++ l.locals

abbrev pub decreases-loop-local : goal.decreases-loop-local
decreases-loop-local l = length l.left
