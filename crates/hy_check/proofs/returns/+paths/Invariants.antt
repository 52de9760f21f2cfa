use Rattle.std.proofs.Common.{◌≡◌, drop}
use Rattle.hy_tree.specs.Denotes.{stmts_of, branches_of}
use Rattle.hy_check.specs.Returns as returns
use Rattle.hy_check.proofs.returns.+paths.Given as goal

abbrev pub invariant-all_go_on-loop-stmt : goal.invariant-all_go_on-loop-stmt
invariant-all_go_on-loop-stmt l = returns.all_go_on (stmts_of (drop l.stmt-index l.stmts)) ≡ returns.all_go_on (stmts_of l.stmts)

abbrev pub invariant-some_goes_on-loop-branch : goal.invariant-some_goes_on-loop-branch
invariant-some_goes_on-loop-branch l = returns.some_goes_on (branches_of (drop l.branch-index l.branches)) ≡ returns.some_goes_on (branches_of l.branches)
