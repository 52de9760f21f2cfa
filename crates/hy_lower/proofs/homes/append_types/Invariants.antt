use Rattle.std.proofs.Common.{◌≡◌, ◌++◌, length}
use Rattle.hy_lower.proofs.homes.append_types.Given as goal

abbrev pub invariant-loop-t : goal.invariant-loop-t
invariant-loop-t l = l.out ++ l.left ≡ l.fn.out ++ l.types

abbrev pub decreases-loop-t : goal.decreases-loop-t
decreases-loop-t l = length l.left
