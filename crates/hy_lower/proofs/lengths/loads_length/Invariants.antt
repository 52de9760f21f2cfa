use Rattle.std.proofs.Common.{◌≡◌, ◌+◌, length, map}
use Rattle.hy_core.specs.Denotes.{place_of}
use Rattle.hy_lower.specs.Code.{loads_length}
use Rattle.hy_lower.proofs.lengths.loads_length.Given as goal

abbrev pub invariant-loop-place : goal.invariant-loop-place
invariant-loop-place l = l.sum + loads_length (map place_of l.left) ≡ loads_length (map place_of l.places)

abbrev pub decreases-loop-place : goal.decreases-loop-place
decreases-loop-place l = length l.left
