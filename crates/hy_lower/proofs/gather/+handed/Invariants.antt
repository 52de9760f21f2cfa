use Rattle.std.proofs.Common.{◌≡◌, drop}
use Rattle.hy_core.specs.Denotes.{stmts_of}
use Rattle.hy_lower.specs.Frames.{handed_after}
use Rattle.hy_lower.proofs.gather.+handed.Given as goal

abbrev pub invariant-handed_all-loop-stmt : goal.invariant-handed_all-loop-stmt
invariant-handed_all-loop-stmt l = handed_after l.out (stmts_of (drop l.stmt-index l.stmts)) ≡ handed_after l.fn.out (stmts_of l.stmts)
