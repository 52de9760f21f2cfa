use Rattle.std.proofs.Common.{◌≡◌, length, map}
use Rattle.hy_core.specs.Denotes.{place_of, step_of}
use Rattle.hy_lower.specs.Denotes.{frame}
use Rattle.hy_lower.specs.Places.{type_after, type_of}
use Rattle.hy_lower.proofs.places.type_of.Given as goal

abbrev pub invariant-loop-step : goal.invariant-loop-step
invariant-loop-step l = type_after (frame l.body) l.t (map step_of l.left) ≡ type_of (frame l.body) (place_of l.place)

abbrev pub decreases-loop-step : goal.decreases-loop-step
decreases-loop-step l = length l.left
