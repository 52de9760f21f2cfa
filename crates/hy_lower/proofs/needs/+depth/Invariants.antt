use Rattle.std.proofs.Common.{◌≡◌, drop}
use Rattle.hy_core.specs.Denotes.{stmts_of}
use Rattle.hy_lower.specs.Code.{depth_all}
use Rattle.hy_lower.proofs.needs.+depth.Given as goal

abbrev pub invariant-depth_all-loop-stmt : goal.invariant-depth_all-loop-stmt
invariant-depth_all-loop-stmt l = depth_all l.greatest (stmts_of (drop l.stmt-index l.stmts)) ≡ depth_all l.so_far (stmts_of l.stmts)
