use Rattle.std.proofs.Common.{◌≡◌, length}
use Rattle.hy_base.specs.Lines.{drop_spaces}
use Rattle.hy_base.proofs.line_number.without_spaces_before.Given as goal

abbrev pub invariant-loop-first : goal.invariant-loop-first
invariant-loop-first l = drop_spaces l.rest ≡ drop_spaces l.line

abbrev pub decreases-loop-first : goal.decreases-loop-first
decreases-loop-first l = length l.rest
