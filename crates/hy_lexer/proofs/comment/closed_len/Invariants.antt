use Rattle.std.proofs.Common.{◌≤◌, ◌+◌, suc, length}
use Rattle.hy_lexer.proofs.Comments.{Leads}
use Rattle.hy_lexer.proofs.comment.closed_len.Given as goal

abbrev pub invariant-loop-level : goal.invariant-loop-level
invariant-loop-level l = record { leads : Leads l.fn.inner l.level l.rest; bound : l.level + length l.rest ≤ suc (length l.fn.inner) }

abbrev pub decreases-loop-level : goal.decreases-loop-level
decreases-loop-level l = length l.rest
