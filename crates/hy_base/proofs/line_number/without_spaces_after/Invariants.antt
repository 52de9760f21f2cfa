use Rattle.std.proofs.Common.{◌≡◌, length}
use Rattle.hy_base.proofs.Trimming.{without_last_spaces}
use Rattle.hy_base.proofs.line_number.without_spaces_after.Given as goal

abbrev pub invariant-loop-last : goal.invariant-loop-last
invariant-loop-last l = without_last_spaces l.rest ≡ without_last_spaces l.line

abbrev pub decreases-loop-last : goal.decreases-loop-last
decreases-loop-last l = length l.rest
