use Rattle.hy_tree.specs.Denotes.{stmt_of, branch_of}
use Rattle.hy_tree.specs.Numbers.{count_stmt}
use Rattle.hy_tree.proofs.Counts.{count_branch}
use Rattle.hy_tree.proofs.Lists.{HasCounted}
use Rattle.hy_tree.proofs.count.+statements.Given as goal

abbrev pub invariant-stmts_from-loop-stmt : goal.invariant-stmts_from-loop-stmt
invariant-stmts_from-loop-stmt l = HasCounted stmt_of count_stmt l.fn.so_far l.stmts l.stmt-index l.total

abbrev pub invariant-branches_from-loop-branch : goal.invariant-branches_from-loop-branch
invariant-branches_from-loop-branch l = HasCounted branch_of count_branch l.fn.so_far l.branches l.branch-index l.total
