use Rattle.hy_tree.specs.Denotes.{stmt_of, branch_of}
use Rattle.hy_tree.specs.Numbers.{count_stmt, number_stmt}
use Rattle.hy_tree.proofs.Counts.{count_branch, number_branch}
use Rattle.hy_tree.proofs.Lists.{HasNumbered}
use Rattle.hy_tree.proofs.number_statement.+statements.Given as goal

abbrev pub invariant-number_stmts-loop-stmt : goal.invariant-number_stmts-loop-stmt
invariant-number_stmts-loop-stmt l = HasNumbered stmt_of count_stmt number_stmt l.fn.next l.stmts l.stmt-index l.made l.next

abbrev pub invariant-number_branches-loop-branch : goal.invariant-number_branches-loop-branch
invariant-number_branches-loop-branch l = HasNumbered branch_of count_branch number_branch l.fn.next l.branches l.branch-index l.made l.next
