use Rattle.std.proofs.Common.{◌≡◌, ◌++◌, length, map}
use Rattle.hy_core.specs.Denotes.{parameter_of}
use Rattle.hy_core.specs.Plain.{types_of}
use Rattle.hy_lower.proofs.homes.append_lent.Given as goal

abbrev pub invariant-loop-parameter : goal.invariant-loop-parameter
invariant-loop-parameter l = l.out ++ types_of (map parameter_of l.left) ≡ l.fn.out ++ types_of (map parameter_of l.lent)

abbrev pub decreases-loop-parameter : goal.decreases-loop-parameter
decreases-loop-parameter l = length l.left
