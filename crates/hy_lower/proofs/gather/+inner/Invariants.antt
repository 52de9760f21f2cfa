use Rattle.std.proofs.Common.{◌≡◌, drop}
use Rattle.hy_core.specs.Denotes.{stmts_of}
use Rattle.hy_lower.specs.Frames.{inner_after}
use Rattle.hy_lower.proofs.gather.+inner.Given as goal

abbrev pub invariant-inner_all-loop-stmt : goal.invariant-inner_all-loop-stmt
invariant-inner_all-loop-stmt l = inner_after l.out (stmts_of (drop l.stmt-index l.stmts)) ≡ inner_after l.fn.out (stmts_of l.stmts)
