use Rattle.std.proofs.Common.{◌≡◌, ◌++◌, length, map}
use Rattle.hy_core.specs.Denotes.{place_of}
use Rattle.hy_lower.specs.Denotes.{frame}
use Rattle.hy_lower.specs.Segments.{moves}
use Rattle.hy_lower.proofs.segments.moves.Given as goal

abbrev pub invariant-loop-place : goal.invariant-loop-place
invariant-loop-place l = l.code ++ moves (frame l.body) l.next (map place_of l.left) ≡ l.fn.code ++ moves (frame l.body) l.word (map place_of l.places)

abbrev pub decreases-loop-place : goal.decreases-loop-place
decreases-loop-place l = length l.left
