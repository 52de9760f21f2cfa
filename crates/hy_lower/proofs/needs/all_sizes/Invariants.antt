use Rattle.std.proofs.Common.{◌≡◌, ◌+◌, length, map}
use Rattle.hy_core.specs.Denotes.{place_of}
use Rattle.hy_lower.specs.Code.{all_sizes}
use Rattle.hy_lower.specs.Denotes.{frame}
use Rattle.hy_lower.proofs.needs.all_sizes.Given as goal

abbrev pub invariant-loop-place : goal.invariant-loop-place
invariant-loop-place l = l.sum + all_sizes (frame l.body) (map place_of l.left) ≡ all_sizes (frame l.body) (map place_of l.places)

abbrev pub decreases-loop-place : goal.decreases-loop-place
decreases-loop-place l = length l.left
