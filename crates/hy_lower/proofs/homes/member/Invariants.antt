use Rattle.std.proofs.Common.{◌≡◌, length}
use Rattle.hy_lower.specs.Frames.{member}
use Rattle.hy_lower.proofs.homes.member.Given as goal

abbrev pub invariant-loop-other : goal.invariant-loop-other
invariant-loop-other l = member l.local l.left ≡ member l.local l.locals

abbrev pub decreases-loop-other : goal.decreases-loop-other
decreases-loop-other l = length l.left
