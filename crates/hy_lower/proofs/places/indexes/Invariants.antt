use Rattle.std.proofs.Common.{◌≡◌, ◌+◌, length, map}
use Rattle.hy_core.specs.Denotes.{step_of}
use Rattle.hy_lower.specs.Frames.{indexes}
use Rattle.hy_lower.proofs.places.indexes.Given as goal

abbrev pub invariant-loop-step : goal.invariant-loop-step
invariant-loop-step l = l.count + indexes (map step_of l.left) ≡ indexes (map step_of l.steps)

abbrev pub decreases-loop-step : goal.decreases-loop-step
decreases-loop-step l = length l.left
