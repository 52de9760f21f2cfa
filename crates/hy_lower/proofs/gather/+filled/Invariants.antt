use Rattle.std.proofs.Common.{◌≡◌, drop}
use Rattle.hy_core.specs.Denotes.{stmts_of}
use Rattle.hy_lower.specs.Frames.{filled_after}
use Rattle.hy_lower.proofs.gather.+filled.Given as goal

abbrev pub invariant-filled_all-loop-stmt : goal.invariant-filled_all-loop-stmt
invariant-filled_all-loop-stmt l = filled_after l.out (stmts_of (drop l.stmt-index l.stmts)) ≡ filled_after l.fn.out (stmts_of l.stmts)
