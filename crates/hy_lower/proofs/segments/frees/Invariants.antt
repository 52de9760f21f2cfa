use Rattle.std.proofs.Common.{◌≡◌, ◌++◌, length}
use Rattle.hy_lower.specs.Segments.{frees}
use Rattle.hy_lower.proofs.segments.frees.Given as goal

abbrev pub invariant-loop-before : goal.invariant-loop-before
invariant-loop-before l = l.code ++ frees l.at l.left ≡ l.fn.code ++ frees l.at l.offsets

abbrev pub decreases-loop-before : goal.decreases-loop-before
decreases-loop-before l = length l.left
