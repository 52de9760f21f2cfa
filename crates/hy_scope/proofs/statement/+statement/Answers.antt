use Rattle.std.proofs.Common.{◌≡◌, ◌∷◌, ◌++◌, List, ap, sym, subst, ◌∙◌, append_assoc}
use Rattle.std.specs.Option.{option_map}
use Rattle.hy_tree.proofs.Equations.{block_is, binding_is, declare_is, if_is, while_is}
use Rattle.hy_tree.specs.Denotes.{placed, type_of, expr_of, stmt_of, stmt_kind_of, stmts_of, block_of, branches_of, else_of}
use Rattle.hy_tree.specs.Findings.{declares, find_written, find_type, find_expr, find_stmt, find_stmts, find_block, find_branches, find_otherwise, here}
use Rattle.hy_tree.specs.Names.{Names, no_names}
use Rattle.hy_tree.specs.declared.statement.Branch.{out-Branch}
use Rattle.hy_scope.specs.Noted.{note, after}
use Rattle.hy_scope.specs.Shown.{around_of, blocks_of, noted}
use Rattle.hy_base.proofs.Walks.{then, walked_more, walked_to, walked_all}
use Rattle.hy_scope.proofs.Inside.{IsInside, behind_inside}
use Rattle.hy_scope.proofs.Lists.{stmts_walk, branches_walk}
use Rattle.hy_scope.proofs.Walks.{found_rest}
use Rattle.hy_scope.proofs.statement.+statement.Goals as goal

pub walk_block-loop-stmt-preserved : goal.walk_block-loop-stmt-preserved
walk_block-loop-stmt-preserved t c =
    let now = c.in_ok-walk_stmt.ensures.blocks in
    record {
      walked = walked_to note (stmts_walk (around_of c.args.around.now)) (no_names ∷ (blocks_of c.args.blocks.now)) c.as_slice-stmt-items.result.now
          (noted c.args.notes.now) c.loop-stmt.stmt-index (blocks_of c.loop-stmt.blocks) (blocks_of c.walk_stmt.new.blocks) (noted c.loop-stmt.notes)
          (noted c.walk_stmt.new.notes) c.stmt-item.result c.stmt-item.is c.loop-stmt-test.true c.loop-stmt.invariant.walked c.in_ok-walk_stmt.ensures.notes
          now;
      inside = subst (λ (blocks : List Names). IsInside blocks (blocks_of c.args.blocks.now)) (sym now) (behind_inside (stmt_of c.stmt-item.result)
          (blocks_of c.loop-stmt.blocks) (blocks_of c.args.blocks.now) c.loop-stmt.invariant.inside);
    }

pub walk_block-returns-clause-notes : goal.walk_block-returns-clause-notes
walk_block-returns-clause-notes t c =
    walked_all note (stmts_walk (around_of c.args.around.now)) (no_names ∷ (blocks_of c.args.blocks.now)) c.as_slice-stmt-items.result.now
    (noted c.args.notes.now) c.loop-stmt.stmt-index (blocks_of c.loop-stmt.blocks) (noted c.loop-stmt.notes) c.loop-stmt-test.false
    c.loop-stmt.invariant.walked
    ∙ ap (λ found. after found (noted c.args.notes.now)) (ap (λ stmts. find_stmts (around_of c.args.around.now) (no_names ∷ (blocks_of c.args.blocks.now))
    (stmts_of stmts)) c.as_slice-stmt-items.ensures ∙ sym (ap (find_block (around_of c.args.around.now) (blocks_of c.args.blocks.now))
    (block_is c.args.body.now)))

pub walk_branches-loop-branch-preserved : goal.walk_branches-loop-branch-preserved
walk_branches-loop-branch-preserved t c =
    let one = c.branch-item.result in
    let condition = expr_of (out-Branch one).condition in
    let body = block_of (out-Branch one).block in
    let blocks = blocks_of c.loop-branch.blocks in
    let same = c.loop-branch.invariant.same in
    let step = then note (find_expr (around_of c.args.around.now) blocks condition) (find_block (around_of c.args.around.now) blocks body)
    (noted c.loop-branch.notes) (noted c.walk_expr.new.notes) (noted c.walk_block.new.notes) c.in_ok-walk_expr.ensures c.in_ok-walk_block.ensures.notes in
    record {
      walked = walked_more note (branches_walk (around_of c.args.around.now) (blocks_of c.args.blocks.now)) tt c.args.branches.now (noted c.args.notes.now)
          c.loop-branch.branch-index tt (noted c.loop-branch.notes) (noted c.walk_block.new.notes) one c.branch-item.is c.loop-branch-test.true
          c.loop-branch.invariant.walked
          (step ∙ ap (λ blocks. after (find_expr (around_of c.args.around.now) blocks condition ++ find_block (around_of c.args.around.now) blocks body)
          (noted c.loop-branch.notes)) same);
      same = c.in_ok-walk_block.ensures.blocks ∙ same;
    }

pub walk_stmt-returns-in_ok-walk_expr-in-Binding-clause-notes : goal.walk_stmt-returns-in_ok-walk_expr-in-Binding-clause-notes
walk_stmt-returns-in_ok-walk_expr-in-Binding-clause-notes t c =
    let written = find_written (around_of c.args.around.now) (option_map type_of c.in-Binding.written) in
    let value = find_expr (around_of c.args.around.now) (blocks_of c.args.blocks.now) (expr_of c.in-Binding.value) in
    let name = declares (here (blocks_of c.args.blocks.now)) c.in-Binding.name in
    found_rest c.bind.result (find_stmt (around_of c.args.around.now) (blocks_of c.args.blocks.now) (stmt_of c.args.stmt.now)) (written ++ value) name
    (noted c.args.notes.now) (noted c.walk_expr.new.notes) (noted c.bind.new.notes)
    (ap (λ kind. find_stmt (around_of c.args.around.now) (blocks_of c.args.blocks.now)
    (stmt_kind_of kind (placed c.args.stmt.now.span c.args.stmt.now.node))) c.in-Binding.is
    ∙ ap (find_stmt (around_of c.args.around.now) (blocks_of c.args.blocks.now)) (binding_is c.in-Binding.field-0 c.in-Binding.name c.in-Binding.written
    c.in-Binding.value (placed c.args.stmt.now.span c.args.stmt.now.node)) ∙ sym (append_assoc written value name))
    (then note written value (noted c.args.notes.now) (noted c.walk_written.new.notes) (noted c.walk_expr.new.notes) c.walk_written.ensures
    c.in_ok-walk_expr-in-Binding.ensures)
    c.bind.ensures.notes

pub walk_stmt-returns-in-Declare-clause-notes : goal.walk_stmt-returns-in-Declare-clause-notes
walk_stmt-returns-in-Declare-clause-notes t c =
    found_rest c.bind-in-Declare.result (find_stmt (around_of c.args.around.now) (blocks_of c.args.blocks.now) (stmt_of c.args.stmt.now))
    (find_type (around_of c.args.around.now) (type_of c.in-Declare.written)) (declares (here (blocks_of c.args.blocks.now)) c.in-Declare.name)
    (noted c.args.notes.now) (noted c.walk_type.new.notes) (noted c.bind-in-Declare.new.notes)
    (ap (λ kind. find_stmt (around_of c.args.around.now) (blocks_of c.args.blocks.now)
    (stmt_kind_of kind (placed c.args.stmt.now.span c.args.stmt.now.node))) c.in-Declare.is
    ∙ ap (find_stmt (around_of c.args.around.now) (blocks_of c.args.blocks.now)) (declare_is c.in-Declare.name c.in-Declare.written
    (placed c.args.stmt.now.span c.args.stmt.now.node))) c.walk_type.ensures c.bind-in-Declare.ensures.notes

pub walk_stmt-returns-in_ok-walk_branches-in-If-clause-notes : goal.walk_stmt-returns-in_ok-walk_branches-in-If-clause-notes
walk_stmt-returns-in_ok-walk_branches-in-If-clause-notes t c =
    found_rest c.walk_else.result (find_stmt (around_of c.args.around.now) (blocks_of c.args.blocks.now) (stmt_of c.args.stmt.now))
    (find_branches (around_of c.args.around.now) (blocks_of c.args.blocks.now) (branches_of c.as_slice.result.now))
    (find_otherwise (around_of c.args.around.now) (blocks_of c.walk_branches.new.blocks) (else_of c.in-If.otherwise)) (noted c.args.notes.now)
    (noted c.walk_branches.new.notes) (noted c.walk_else.new.notes)
    (ap (λ kind. find_stmt (around_of c.args.around.now) (blocks_of c.args.blocks.now)
    (stmt_kind_of kind (placed c.args.stmt.now.span c.args.stmt.now.node))) c.in-If.is
    ∙ ap (find_stmt (around_of c.args.around.now) (blocks_of c.args.blocks.now)) (if_is c.in-If.branches c.in-If.otherwise
    (placed c.args.stmt.now.span c.args.stmt.now.node))
    ∙ (λ i. find_branches (around_of c.args.around.now) (blocks_of c.args.blocks.now) (branches_of (sym c.as_slice.ensures i))
    ++ find_otherwise (around_of c.args.around.now) (sym c.in_ok-walk_branches-in-If.ensures.blocks i) (else_of c.in-If.otherwise)))
    c.in_ok-walk_branches-in-If.ensures.notes c.walk_else.ensures.notes

pub walk_stmt-returns-in_ok-walk_expr-in-While-clause-notes : goal.walk_stmt-returns-in_ok-walk_expr-in-While-clause-notes
walk_stmt-returns-in_ok-walk_expr-in-While-clause-notes t c =
    found_rest c.walk_block.result (find_stmt (around_of c.args.around.now) (blocks_of c.args.blocks.now) (stmt_of c.args.stmt.now))
    (find_expr (around_of c.args.around.now) (blocks_of c.args.blocks.now) (expr_of c.in-While.condition)) (find_block (around_of c.args.around.now)
    (blocks_of c.args.blocks.now) (block_of c.in-While.body)) (noted c.args.notes.now) (noted c.walk_expr-in-While.new.notes)
    (noted c.walk_block.new.notes)
    (ap (λ kind. find_stmt (around_of c.args.around.now) (blocks_of c.args.blocks.now)
    (stmt_kind_of kind (placed c.args.stmt.now.span c.args.stmt.now.node))) c.in-While.is
    ∙ ap (find_stmt (around_of c.args.around.now) (blocks_of c.args.blocks.now)) (while_is c.in-While.field-0 c.in-While.condition c.in-While.body
    (placed c.args.stmt.now.span c.args.stmt.now.node))) c.in_ok-walk_expr-in-While.ensures c.walk_block.ensures.notes
