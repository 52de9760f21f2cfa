use Rattle.std.proofs.Common.{◌≡◌, ◌++◌, drop}
use Rattle.hy_core.specs.Denotes.{stmts_of}
use Rattle.hy_lower.specs.Code.{code_all}
use Rattle.hy_lower.specs.Denotes.{frame}
use Rattle.hy_lower.proofs.statements.+code.Given as goal

abbrev pub invariant-code_all-loop-stmt : goal.invariant-code_all-loop-stmt
invariant-code_all-loop-stmt l = l.code ++ code_all (frame l.body) l.next l.targets.after l.targets.again (stmts_of (drop l.stmt-index l.stmts))
    ≡ l.fn.code ++ code_all (frame l.body) l.pc l.targets.after l.targets.again (stmts_of l.stmts)
