use Rattle.std.proofs.Common.{ap, sym, ◌∙◌, ◌++◌}
use Rattle.hy_tree.proofs.Equations.{chain_is, unary_is, postfix_is, tuple_is, array_is, if_else_is, call_step_is, index_step_is}
use Rattle.hy_tree.specs.Denotes.{placed, expr_kind_of, step_kind_of, expr_of, exprs_of, links_of, step_of, steps_of, args_of, choices_of}
use Rattle.hy_tree.specs.Findings.{Alone, use_before, find_as, find_expr, find_exprs, find_links, find_step, find_steps, find_args, find_choices}
use Rattle.hy_scope.specs.Shown.{around_of, blocks_of, noted}
use Rattle.hy_base.proofs.Walks.{then, walked_more}
use Rattle.hy_scope.proofs.Lists.{exprs_walk, links_walk, steps_walk, args_walk, choices_walk}
use Rattle.hy_scope.proofs.Walks.{found_all, found_rest}
use Rattle.hy_scope.specs.Noted.{note}
use Rattle.hy_scope.proofs.expression.+expression.Goals as goal

pub walk_exprs-loop-part-preserved : goal.walk_exprs-loop-part-preserved
walk_exprs-loop-part-preserved t c =
    walked_more note (exprs_walk (around_of c.args.around.now) (blocks_of c.args.blocks.now)) tt c.args.parts.now (noted c.args.notes.now)
    c.loop-part.part-index tt (noted c.loop-part.notes) (noted c.walk_expr.new.notes) c.part-item.result c.part-item.is c.loop-part-test.true
    c.loop-part.invariant c.in_ok-walk_expr.ensures

pub walk_links-loop-link-preserved : goal.walk_links-loop-link-preserved
walk_links-loop-link-preserved t c =
    walked_more note (links_walk (around_of c.args.around.now) (blocks_of c.args.blocks.now)) tt c.args.links.now (noted c.args.notes.now)
    c.loop-link.link-index tt (noted c.loop-link.notes) (noted c.walk_expr.new.notes) c.link-item.result c.link-item.is c.loop-link-test.true
    c.loop-link.invariant c.in_ok-walk_expr.ensures

pub walk_steps-loop-step-preserved : goal.walk_steps-loop-step-preserved
walk_steps-loop-step-preserved t c =
    walked_more note (steps_walk (around_of c.args.around.now) (blocks_of c.args.blocks.now)) tt c.args.steps.now (noted c.args.notes.now)
    c.loop-step.step-index tt (noted c.loop-step.notes) (noted c.walk_step.new.notes) c.step-item.result c.step-item.is c.loop-step-test.true
    c.loop-step.invariant c.in_ok-walk_step.ensures

pub walk_args-loop-arg-preserved : goal.walk_args-loop-arg-preserved
walk_args-loop-arg-preserved t c =
    walked_more note (args_walk (around_of c.args.around.now) (blocks_of c.args.blocks.now)) tt c.args.args.now (noted c.args.notes.now)
    c.loop-arg.arg-index tt (noted c.loop-arg.notes) (noted c.walk_expr.new.notes) c.arg-item.result c.arg-item.is c.loop-arg-test.true
    c.loop-arg.invariant c.in_ok-walk_expr.ensures

pub walk_choices-loop-choice-preserved : goal.walk_choices-loop-choice-preserved
walk_choices-loop-choice-preserved t c =
    let one = c.choice-item.result in
    walked_more note (choices_walk (around_of c.args.around.now) (blocks_of c.args.blocks.now)) tt c.args.choices.now (noted c.args.notes.now)
    c.loop-choice.choice-index tt (noted c.loop-choice.notes) (noted c.walk_expr-in-loop-choice.new.notes) one c.choice-item.is c.loop-choice-test.true
    c.loop-choice.invariant
    (then note (find_expr (around_of c.args.around.now) (blocks_of c.args.blocks.now) (expr_of one.condition)) (find_expr (around_of c.args.around.now)
    (blocks_of c.args.blocks.now) (expr_of one.value)) (noted c.loop-choice.notes) (noted c.walk_expr.new.notes)
    (noted c.walk_expr-in-loop-choice.new.notes) c.in_ok-walk_expr.ensures c.in_ok-walk_expr-2.ensures)

pub walk_before-returns-in_ok-walk_expr-in-Chain : goal.walk_before-returns-in_ok-walk_expr-in-Chain
walk_before-returns-in_ok-walk_expr-in-Chain t c =
    found_rest c.walk_links.result (find_as (around_of c.args.around.now) (blocks_of c.args.blocks.now) (use_before (steps_of c.args.behind.now))
    (expr_of c.args.e.now)) (find_expr (around_of c.args.around.now) (blocks_of c.args.blocks.now) (expr_of c.get.result.now))
    (find_links (around_of c.args.around.now) (blocks_of c.args.blocks.now) (links_of c.as_slice.result.now)) (noted c.args.notes.now)
    (noted c.walk_expr.new.notes) (noted c.walk_links.new.notes)
    (ap (λ kind. (find_as (around_of c.args.around.now) (blocks_of c.args.blocks.now) (use_before (steps_of c.args.behind.now)))
    (expr_kind_of kind (placed c.args.e.now.span c.args.e.now.node))) c.in-Chain.is
    ∙ ap (find_as (around_of c.args.around.now) (blocks_of c.args.blocks.now) (use_before (steps_of c.args.behind.now)))
    (chain_is c.in-Chain.first c.in-Chain.links (placed c.args.e.now.span c.args.e.now.node))
    ∙ (λ i. find_expr (around_of c.args.around.now) (blocks_of c.args.blocks.now) (expr_of (sym c.get.ensures i))
    ++ find_links (around_of c.args.around.now) (blocks_of c.args.blocks.now) (links_of (sym c.as_slice.ensures i))))
    c.in_ok-walk_expr-in-Chain.ensures c.walk_links.ensures

pub walk_before-returns-in-Unary : goal.walk_before-returns-in-Unary
walk_before-returns-in-Unary t c =
    found_all c.walk_expr-in-Unary.result (find_as (around_of c.args.around.now) (blocks_of c.args.blocks.now) (use_before (steps_of c.args.behind.now))
    (expr_of c.args.e.now)) (find_expr (around_of c.args.around.now) (blocks_of c.args.blocks.now) (expr_of c.get-in-Unary.result.now))
    (noted c.args.notes.now) (noted c.walk_expr-in-Unary.new.notes)
    (ap (λ kind. (find_as (around_of c.args.around.now) (blocks_of c.args.blocks.now) (use_before (steps_of c.args.behind.now)))
    (expr_kind_of kind (placed c.args.e.now.span c.args.e.now.node))) c.in-Unary.is
    ∙ ap (find_as (around_of c.args.around.now) (blocks_of c.args.blocks.now) (use_before (steps_of c.args.behind.now)))
    (unary_is c.in-Unary.field-0 c.in-Unary.operand (placed c.args.e.now.span c.args.e.now.node))
    ∙ ap (λ x. find_expr (around_of c.args.around.now) (blocks_of c.args.blocks.now) (expr_of x)) (sym c.get-in-Unary.ensures))
    c.walk_expr-in-Unary.ensures

pub walk_before-returns-in_ok-walk_before-in-Postfix : goal.walk_before-returns-in_ok-walk_before-in-Postfix
walk_before-returns-in_ok-walk_before-in-Postfix t c =
    found_rest c.walk_steps.result (find_as (around_of c.args.around.now) (blocks_of c.args.blocks.now) (use_before (steps_of c.args.behind.now))
    (expr_of c.args.e.now)) (find_as (around_of c.args.around.now) (blocks_of c.args.blocks.now)
    (use_before (steps_of c.as_slice-in-Postfix.result.now)) (expr_of c.get-in-Postfix.result.now)) (find_steps (around_of c.args.around.now)
    (blocks_of c.args.blocks.now) (steps_of c.as_slice-in-Postfix-2.result.now)) (noted c.args.notes.now) (noted c.walk_before.new.notes)
    (noted c.walk_steps.new.notes)
    (ap (λ kind. (find_as (around_of c.args.around.now) (blocks_of c.args.blocks.now) (use_before (steps_of c.args.behind.now)))
    (expr_kind_of kind (placed c.args.e.now.span c.args.e.now.node))) c.in-Postfix.is
    ∙ ap (find_as (around_of c.args.around.now) (blocks_of c.args.blocks.now) (use_before (steps_of c.args.behind.now)))
    (postfix_is c.in-Postfix.primary c.in-Postfix.steps (placed c.args.e.now.span c.args.e.now.node))
    ∙ (λ i. find_as (around_of c.args.around.now) (blocks_of c.args.blocks.now) (use_before (steps_of (sym c.as_slice-in-Postfix.ensures i)))
    (expr_of (sym c.get-in-Postfix.ensures i)) ++ find_steps (around_of c.args.around.now) (blocks_of c.args.blocks.now)
    (steps_of (sym c.as_slice-in-Postfix-2.ensures i))))
    c.in_ok-walk_before-in-Postfix.ensures c.walk_steps.ensures

pub walk_before-returns-in-Tuple : goal.walk_before-returns-in-Tuple
walk_before-returns-in-Tuple t c =
    found_all c.walk_exprs.result (find_as (around_of c.args.around.now) (blocks_of c.args.blocks.now) (use_before (steps_of c.args.behind.now))
    (expr_of c.args.e.now)) (find_exprs (around_of c.args.around.now) (blocks_of c.args.blocks.now) (exprs_of c.as_slice-in-Tuple.result.now))
    (noted c.args.notes.now) (noted c.walk_exprs.new.notes)
    (ap (λ kind. (find_as (around_of c.args.around.now) (blocks_of c.args.blocks.now) (use_before (steps_of c.args.behind.now)))
    (expr_kind_of kind (placed c.args.e.now.span c.args.e.now.node))) c.in-Tuple.is
    ∙ ap (find_as (around_of c.args.around.now) (blocks_of c.args.blocks.now) (use_before (steps_of c.args.behind.now)))
    (tuple_is c.in-Tuple.parts (placed c.args.e.now.span c.args.e.now.node))
    ∙ ap (λ x. find_exprs (around_of c.args.around.now) (blocks_of c.args.blocks.now) (exprs_of x)) (sym c.as_slice-in-Tuple.ensures))
    c.walk_exprs.ensures

pub walk_before-returns-in-Array : goal.walk_before-returns-in-Array
walk_before-returns-in-Array t c =
    found_all c.walk_exprs-in-Array.result (find_as (around_of c.args.around.now) (blocks_of c.args.blocks.now) (use_before (steps_of c.args.behind.now))
    (expr_of c.args.e.now)) (find_exprs (around_of c.args.around.now) (blocks_of c.args.blocks.now) (exprs_of c.as_slice-in-Array.result.now))
    (noted c.args.notes.now) (noted c.walk_exprs-in-Array.new.notes)
    (ap (λ kind. (find_as (around_of c.args.around.now) (blocks_of c.args.blocks.now) (use_before (steps_of c.args.behind.now)))
    (expr_kind_of kind (placed c.args.e.now.span c.args.e.now.node))) c.in-Array.is
    ∙ ap (find_as (around_of c.args.around.now) (blocks_of c.args.blocks.now) (use_before (steps_of c.args.behind.now)))
    (array_is c.in-Array.elements (placed c.args.e.now.span c.args.e.now.node))
    ∙ ap (λ x. find_exprs (around_of c.args.around.now) (blocks_of c.args.blocks.now) (exprs_of x)) (sym c.as_slice-in-Array.ensures))
    c.walk_exprs-in-Array.ensures

pub walk_before-returns-in_ok-walk_choices-in-If : goal.walk_before-returns-in_ok-walk_choices-in-If
walk_before-returns-in_ok-walk_choices-in-If t c =
    found_rest c.walk_expr-in-If.result (find_as (around_of c.args.around.now) (blocks_of c.args.blocks.now) (use_before (steps_of c.args.behind.now))
    (expr_of c.args.e.now)) (find_choices (around_of c.args.around.now) (blocks_of c.args.blocks.now) (choices_of c.as_slice-in-If.result.now))
    (find_expr (around_of c.args.around.now) (blocks_of c.args.blocks.now) (expr_of c.get-in-If.result.now)) (noted c.args.notes.now)
    (noted c.walk_choices.new.notes) (noted c.walk_expr-in-If.new.notes)
    (ap (λ kind. (find_as (around_of c.args.around.now) (blocks_of c.args.blocks.now) (use_before (steps_of c.args.behind.now)))
    (expr_kind_of kind (placed c.args.e.now.span c.args.e.now.node))) c.in-If.is
    ∙ ap (find_as (around_of c.args.around.now) (blocks_of c.args.blocks.now) (use_before (steps_of c.args.behind.now)))
    (if_else_is c.in-If.choices c.in-If.otherwise (placed c.args.e.now.span c.args.e.now.node))
    ∙ (λ i. find_choices (around_of c.args.around.now) (blocks_of c.args.blocks.now) (choices_of (sym c.as_slice-in-If.ensures i))
    ++ find_expr (around_of c.args.around.now) (blocks_of c.args.blocks.now) (expr_of (sym c.get-in-If.ensures i))))
    c.in_ok-walk_choices-in-If.ensures c.walk_expr-in-If.ensures

pub walk_step-returns-in-Call : goal.walk_step-returns-in-Call
walk_step-returns-in-Call t c =
    found_all c.walk_args.result (find_step (around_of c.args.around.now) (blocks_of c.args.blocks.now) (step_of c.args.step.now))
    (find_args (around_of c.args.around.now) (blocks_of c.args.blocks.now) (args_of c.as_slice-in-Call.result.now)) (noted c.args.notes.now)
    (noted c.walk_args.new.notes)
    (ap (λ kind. (find_step (around_of c.args.around.now) (blocks_of c.args.blocks.now))
    (step_kind_of kind (placed c.args.step.now.span c.args.step.now.node))) c.in-Call.is
    ∙ ap (find_step (around_of c.args.around.now) (blocks_of c.args.blocks.now))
    (call_step_is c.in-Call.args (placed c.args.step.now.span c.args.step.now.node))
    ∙ ap (λ x. find_args (around_of c.args.around.now) (blocks_of c.args.blocks.now) (args_of x)) (sym c.as_slice-in-Call.ensures)) c.walk_args.ensures

pub walk_step-returns-in-Index : goal.walk_step-returns-in-Index
walk_step-returns-in-Index t c =
    found_all c.walk_args-in-Index.result (find_step (around_of c.args.around.now) (blocks_of c.args.blocks.now) (step_of c.args.step.now))
    (find_args (around_of c.args.around.now) (blocks_of c.args.blocks.now) (args_of c.as_slice-in-Index.result.now)) (noted c.args.notes.now)
    (noted c.walk_args-in-Index.new.notes)
    (ap (λ kind. (find_step (around_of c.args.around.now) (blocks_of c.args.blocks.now))
    (step_kind_of kind (placed c.args.step.now.span c.args.step.now.node))) c.in-Index.is
    ∙ ap (find_step (around_of c.args.around.now) (blocks_of c.args.blocks.now))
    (index_step_is c.in-Index.args (placed c.args.step.now.span c.args.step.now.node))
    ∙ ap (λ x. find_args (around_of c.args.around.now) (blocks_of c.args.blocks.now) (args_of x)) (sym c.as_slice-in-Index.ensures))
    c.walk_args-in-Index.ensures
