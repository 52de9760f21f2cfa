use Rattle.std.proofs.Common.{◌≡◌, ◌+◌, drop}
use Rattle.hy_core.specs.Denotes.{stmts_of}
use Rattle.hy_lower.specs.Code.{length_all}
use Rattle.hy_lower.specs.Denotes.{frame}
use Rattle.hy_lower.proofs.lengths.+lengths.Given as goal

abbrev pub invariant-length_all-loop-stmt : goal.invariant-length_all-loop-stmt
invariant-length_all-loop-stmt l =
    l.sum + length_all (frame l.body) (stmts_of (drop l.stmt-index l.stmts)) ≡ length_all (frame l.body) (stmts_of l.stmts)
