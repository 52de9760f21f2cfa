use Rattle.std.proofs.Common.{◌≡◌, drop, false}
use Rattle.hy_tree.specs.Denotes.{steps_of}
use Rattle.hy_front.specs.Unbuilt.{ends_in_place}
use Rattle.hy_front.proofs.forms.ends_in_place.Given as goal

abbrev pub invariant-loop-step : goal.invariant-loop-step
invariant-loop-step l = ends_in_place l.ends (steps_of (drop l.step-index l.steps)) ≡ ends_in_place false (steps_of l.steps)
