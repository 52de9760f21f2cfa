use Rattle.std.proofs.Common.{◌≡◌, drop}
use Rattle.hy_core.specs.Denotes.{stmts_of}
use Rattle.hy_lower.specs.Code.{scratch_all}
use Rattle.hy_lower.specs.Denotes.{frame}
use Rattle.hy_lower.proofs.needs.+scratch.Given as goal

abbrev pub invariant-scratch_all-loop-stmt : goal.invariant-scratch_all-loop-stmt
invariant-scratch_all-loop-stmt l =
    scratch_all (frame l.body) l.greatest (stmts_of (drop l.stmt-index l.stmts)) ≡ scratch_all (frame l.body) l.so_far (stmts_of l.stmts)
