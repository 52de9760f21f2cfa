use Rattle.std.proofs.Common.{◌≡◌, length, map}
use Rattle.hy_core.specs.Denotes.{step_of}
use Rattle.hy_core.specs.Statements.{is_counted}
use Rattle.hy_lower.proofs.places.is_counted.Given as goal

abbrev pub invariant-loop-step : goal.invariant-loop-step
invariant-loop-step l = is_counted (map step_of l.left) ≡ is_counted (map step_of l.steps)

abbrev pub decreases-loop-step : goal.decreases-loop-step
decreases-loop-step l = length l.left
