use Rattle.std.proofs.Common.{◌≡◌, ◌++◌}
use Rattle.hy_lower.specs.Places.{closes}
use Rattle.hy_lower.proofs.places.close.Given as goal

abbrev pub invariant-loop-left : goal.invariant-loop-left
invariant-loop-left l = l.code ++ closes l.first l.left ≡ l.fn.code ++ closes l.first l.count

abbrev pub decreases-loop-left : goal.decreases-loop-left
decreases-loop-left l = l.left
