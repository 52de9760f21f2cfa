use Rattle.std.proofs.Common.{◌≡◌, ◌+◌, length}
use Rattle.hy_lower.specs.Frames.{place_in}
use Rattle.hy_lower.proofs.homes.place_in.Given as goal

abbrev pub invariant-loop-other : goal.invariant-loop-other
invariant-loop-other l = l.at + place_in l.local l.left ≡ place_in l.local l.locals

abbrev pub decreases-loop-other : goal.decreases-loop-other
decreases-loop-other l = length l.left
