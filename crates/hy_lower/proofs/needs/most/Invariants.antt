use Rattle.std.proofs.Common.{◌≡◌, length, map}
use Rattle.hy_core.specs.Denotes.{place_of}
use Rattle.hy_lower.specs.Code.{most}
use Rattle.hy_lower.proofs.needs.most.Given as goal

abbrev pub invariant-loop-place : goal.invariant-loop-place
invariant-loop-place l = most l.greatest (map place_of l.left) ≡ most l.so_far (map place_of l.places)

abbrev pub decreases-loop-place : goal.decreases-loop-place
decreases-loop-place l = length l.left
