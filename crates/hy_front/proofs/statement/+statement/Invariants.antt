use Rattle.hy_tree.specs.Denotes.{stmts_of, branches_of}
use Rattle.hy_front.specs.Unbuilt.{in_stmts, in_branches}
use Rattle.hy_base.proofs.Walks.{HasWalked}
use Rattle.hy_front.specs.Noted.{note}
use Rattle.hy_front.proofs.statement.+statement.Given as goal

abbrev pub invariant-look_at_block-loop-stmt : goal.invariant-look_at_block-loop-stmt
invariant-look_at_block-loop-stmt l = HasWalked note (λ (s : Unit {0}) xs. in_stmts l.meant (stmts_of xs)) tt l.stmt-items l.fn.first l.stmt-index tt l.first

abbrev pub invariant-look_at_branches-loop-branch : goal.invariant-look_at_branches-loop-branch
invariant-look_at_branches-loop-branch l = HasWalked note (λ (s : Unit {0}) xs. in_branches l.meant (branches_of xs)) tt l.branches l.fn.first
    l.branch-index tt l.first
