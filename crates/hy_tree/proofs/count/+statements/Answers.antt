use Rattle.hy_tree.specs.Denotes.{stmt_of, branch_of}
use Rattle.hy_tree.specs.Numbers.{count_stmt, count_stmts, count_branches}
use Rattle.hy_tree.specs.Tree.{stmts, branches}
use Rattle.hy_tree.proofs.Counts.{count_branch, counted_stmts_are, counted_branches_are}
use Rattle.hy_tree.proofs.Lists.{counts_closed}
use Rattle.hy_tree.proofs.count.+statements.Goals as goal

pub stmts_from-returns : goal.stmts_from-returns
stmts_from-returns t c =
    counts_closed stmt_of count_stmt c.args.so_far c.args.stmts.now stmts count_stmts counted_stmts_are c.loop-stmt.stmt-index c.loop-stmt.total
    c.loop-stmt-test.false c.loop-stmt.invariant

pub branches_from-returns : goal.branches_from-returns
branches_from-returns t c =
    counts_closed branch_of count_branch c.args.so_far c.args.branches.now branches count_branches counted_branches_are c.loop-branch.branch-index
    c.loop-branch.total c.loop-branch-test.false c.loop-branch.invariant
