use Rattle.std.proofs.Common.{◌++◌, not, ap, sym, ◌∙◌}
use Rattle.std.specs.Option.{option_map}
use Rattle.hy_tree.proofs.Equations.{block_is, binding_is, assign_is, compound_is, if_is, while_is}
use Rattle.hy_tree.specs.Denotes.{placed, type_of, expr_of, stmt_of, stmt_kind_of, stmts_of, block_of, branches_of, else_of}
use Rattle.hy_tree.specs.Tree as T
use Rattle.hy_tree.specs.declared.statement.Branch.{out-Branch}
use Rattle.hy_front.specs.Noted.{note, after}
use Rattle.hy_front.specs.Unbuilt.{when, is_plain, is_name, in_written, in_expr, in_value, in_bound, in_stmt, in_stmts, in_block, in_branches, in_otherwise}
use Rattle.hy_front.proofs.Lists.{stmts_walk, branches_walk}
use Rattle.hy_front.proofs.Walks.{then_met, met_as}
use Rattle.hy_base.proofs.Walks.{walked_more, walked_all, then}
use Rattle.hy_front.proofs.statement.+statement.Goals as goal

pub look_at_block-loop-stmt-preserved : goal.look_at_block-loop-stmt-preserved
look_at_block-loop-stmt-preserved t c =
    walked_more note (stmts_walk c.args.meant.now) tt c.as_slice-stmt-items.result.now c.args.first c.loop-stmt.stmt-index tt c.loop-stmt.first
    c.look_at_stmt-first.result c.stmt-item.result c.stmt-item.is c.loop-stmt-test.true c.loop-stmt.invariant c.look_at_stmt-first.ensures

pub look_at_block-returns : goal.look_at_block-returns
look_at_block-returns t c =
    let meant = c.args.meant.now in
    walked_all note (stmts_walk meant) tt c.as_slice-stmt-items.result.now c.args.first c.loop-stmt.stmt-index tt c.loop-stmt.first c.loop-stmt-test.false
    c.loop-stmt.invariant
    ∙ ap (λ spans. after spans c.args.first) (ap (λ stmts. in_stmts meant (stmts_of stmts)) c.as_slice-stmt-items.ensures
    ∙ sym (ap (in_block meant) (block_is c.args.body.now)))

pub look_at_branches-loop-branch-preserved : goal.look_at_branches-loop-branch-preserved
look_at_branches-loop-branch-preserved t c =
    let one = c.branch-item.result in
    let meant = c.args.meant.now in
    walked_more note (branches_walk meant) tt c.args.branches.now c.args.first c.loop-branch.branch-index tt c.loop-branch.first
    c.look_at_block-first.result one c.branch-item.is c.loop-branch-test.true c.loop-branch.invariant
    (then note (in_expr meant (expr_of (out-Branch one).condition)) (in_block meant (block_of (out-Branch one).block)) c.loop-branch.first
    c.look_at_expr-first.result c.look_at_block-first.result c.look_at_expr-first.ensures c.look_at_block-first.ensures)

pub look_at_stmt-returns-in-Binding : goal.look_at_stmt-returns-in-Binding
look_at_stmt-returns-in-Binding t c =
    let meant = c.args.meant.now in
    let it = c.args.stmt.now in
    let at = placed it.span it.node in
    let introducer = c.in-Binding.introducer in
    let written = option_map type_of c.in-Binding.written in
    let value = expr_of c.in-Binding.value in
    let name = c.in-Binding._name in
    met_as (in_stmt meant) (stmt_of it) (T.Binding introducer name written value at) c.args.first c.look_at_bound.result
    (ap (λ kind. stmt_kind_of kind at) c.in-Binding.is ∙ binding_is introducer name c.in-Binding.written c.in-Binding.value at)
    (then note (when (not (is_plain introducer written)) at.span) (in_written written ++ in_bound meant introducer value) c.args.first
    c.meet_when-first.result c.look_at_bound.result
    (c.meet_when-first.ensures ∙ ap (λ plain. after (when (not plain) at.span) c.args.first) c.is_plain.ensures)
    (then note (in_written written) (in_bound meant introducer value) c.meet_when-first.result c.look_at_written-first.result c.look_at_bound.result
    c.look_at_written-first.ensures c.look_at_bound.ensures))

pub look_at_stmt-returns-in-Assign : goal.look_at_stmt-returns-in-Assign
look_at_stmt-returns-in-Assign t c =
    let meant = c.args.meant.now in
    let it = c.args.stmt.now in
    let at = placed it.span it.node in
    let target = expr_of c.in-Assign.target in
    let value = expr_of c.in-Assign.value in
    met_as (in_stmt meant) (stmt_of it) (T.Assign target value at) c.args.first c.look_at_value.result
    (ap (λ kind. stmt_kind_of kind at) c.in-Assign.is ∙ assign_is c.in-Assign.target c.in-Assign.value at)
    (then note (when (not (is_name target)) at.span) (in_expr meant target ++ in_value meant value) c.args.first c.meet_when-first-in-Assign.result
    c.look_at_value.result
    (c.meet_when-first-in-Assign.ensures ∙ ap (λ named. after (when (not named) at.span) c.args.first) c.is_name.ensures)
    (then note (in_expr meant target) (in_value meant value) c.meet_when-first-in-Assign.result c.look_at_expr-first.result c.look_at_value.result
    c.look_at_expr-first.ensures c.look_at_value.ensures))

pub look_at_stmt-returns-in-Compound : goal.look_at_stmt-returns-in-Compound
look_at_stmt-returns-in-Compound t c =
    let meant = c.args.meant.now in
    let it = c.args.stmt.now in
    let at = placed it.span it.node in
    let target = expr_of c.in-Compound.target in
    let value = expr_of c.in-Compound.value in
    met_as (in_stmt meant) (stmt_of it) (T.Compound target c.in-Compound.field-1 value at) c.args.first c.look_at_expr.result
    (ap (λ kind. stmt_kind_of kind at) c.in-Compound.is ∙ compound_is c.in-Compound.target c.in-Compound.field-1 c.in-Compound.value at)
    (then_met at.span (in_expr meant target ++ in_expr meant value) c.args.first c.meet-in-Compound.result c.look_at_expr.result c.meet-in-Compound.ensures
    (then note (in_expr meant target) (in_expr meant value) c.meet-in-Compound.result c.look_at_expr-first-in-Compound.result c.look_at_expr.result
    c.look_at_expr-first-in-Compound.ensures c.look_at_expr.ensures))

pub look_at_stmt-returns-in-If : goal.look_at_stmt-returns-in-If
look_at_stmt-returns-in-If t c =
    let meant = c.args.meant.now in
    let it = c.args.stmt.now in
    let at = placed it.span it.node in
    let branches = branches_of c.as_slice.result.now in
    let otherwise = else_of c.in-If.otherwise in
    met_as (in_stmt meant) (stmt_of it) (T.If branches otherwise at) c.args.first c.look_at_else.result
    (ap (λ kind. stmt_kind_of kind at) c.in-If.is ∙ if_is c.in-If.branches c.in-If.otherwise at ∙ ap (λ branches. T.If (branches_of branches) otherwise at)
    (sym c.as_slice.ensures))
    (then_met at.span (in_branches meant branches ++ in_otherwise meant otherwise) c.args.first c.meet-in-If.result c.look_at_else.result c.meet-in-If.ensures
    (then note (in_branches meant branches) (in_otherwise meant otherwise) c.meet-in-If.result c.look_at_branches-first.result c.look_at_else.result
    c.look_at_branches-first.ensures c.look_at_else.ensures))

pub look_at_stmt-returns-in-While : goal.look_at_stmt-returns-in-While
look_at_stmt-returns-in-While t c =
    let meant = c.args.meant.now in
    let it = c.args.stmt.now in
    let at = placed it.span it.node in
    let condition = expr_of c.in-While.condition in
    let body = block_of c.in-While.body in
    met_as (in_stmt meant) (stmt_of it) (T.While c.in-While.field-0 condition body at) c.args.first c.look_at_block.result
    (ap (λ kind. stmt_kind_of kind at) c.in-While.is ∙ while_is c.in-While.field-0 c.in-While.condition c.in-While.body at)
    (then_met at.span (in_expr meant condition ++ in_block meant body) c.args.first c.meet-in-While.result c.look_at_block.result c.meet-in-While.ensures
    (then note (in_expr meant condition) (in_block meant body) c.meet-in-While.result c.look_at_expr-first-in-While.result c.look_at_block.result
    c.look_at_expr-first-in-While.ensures c.look_at_block.ensures))
