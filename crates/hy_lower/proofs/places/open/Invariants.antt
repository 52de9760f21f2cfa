use Rattle.std.proofs.Common.{◌≡◌, ◌++◌, length, map}
use Rattle.hy_core.specs.Denotes.{place_of, step_of}
use Rattle.hy_lower.specs.Denotes.{frame}
use Rattle.hy_lower.specs.Places.{opens, opens_after, place_after, reached}
use Rattle.hy_lower.proofs.places.open.Given as goal

abbrev pub invariant-loop-step : goal.invariant-loop-step
invariant-loop-step l = record {
  code : l.code ++ opens_after (frame l.body) l.way l.line l.t l.at (map step_of l.left)
      ≡ l.fn.code ++ opens (frame l.body) l.way l.fn.line (place_of l.place);
  place : place_after (frame l.body) l.line l.t l.at (map step_of l.left) ≡ reached (frame l.body) l.fn.line (place_of l.place);
}

abbrev pub decreases-loop-step : goal.decreases-loop-step
decreases-loop-step l = length l.left
