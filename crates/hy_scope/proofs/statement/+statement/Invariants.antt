use Rattle.std.proofs.Common.{◌≡◌, ◌∷◌}
use Rattle.hy_tree.specs.Denotes.{stmts_of, branches_of}
use Rattle.hy_tree.specs.Findings.{find_stmts, find_branches}
use Rattle.hy_tree.specs.Names.{no_names}
use Rattle.hy_scope.specs.Shown.{around_of, blocks_of, noted}
use Rattle.hy_scope.proofs.Inside.{IsInside}
use Rattle.hy_base.proofs.Walks.{HasWalked}
use Rattle.hy_scope.specs.Noted.{note}
use Rattle.hy_scope.proofs.statement.+statement.Given as goal

abbrev pub invariant-walk_block-loop-stmt : goal.invariant-walk_block-loop-stmt
invariant-walk_block-loop-stmt l = record {
  walked : HasWalked note (λ blocks xs. find_stmts (around_of l.around) blocks (stmts_of xs)) (no_names ∷ blocks_of l.fn.blocks) l.stmt-items
      (noted l.fn.notes) l.stmt-index (blocks_of l.blocks) (noted l.notes);
  inside : IsInside (blocks_of l.blocks) (blocks_of l.fn.blocks);
}

abbrev pub invariant-walk_branches-loop-branch : goal.invariant-walk_branches-loop-branch
invariant-walk_branches-loop-branch l = record {
  walked : HasWalked note (λ (s : Unit {0}) xs. find_branches (around_of l.around) (blocks_of l.fn.blocks) (branches_of xs)) tt l.branches
      (noted l.fn.notes) l.branch-index tt (noted l.notes);
  same : blocks_of l.blocks ≡ blocks_of l.fn.blocks;
}
