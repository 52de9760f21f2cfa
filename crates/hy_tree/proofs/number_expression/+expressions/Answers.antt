use Rattle.std.proofs.Common.{◌∙◌}
use Rattle.hy_tree.specs.Denotes.{placed, expr_kind_of, expr_of, link_of, step_kind_of, step_of, arg_of, choice_of}
use Rattle.hy_tree.specs.Numbers.{count_expr, count_exprs, number_expr, number_exprs, count_links, number_links, count_step, number_step, count_steps}
use Rattle.hy_tree.specs.Numbers.{number_steps, count_args, number_args, count_choices, number_choices}
use Rattle.hy_tree.specs.Tree.{exprs, links, steps, args, choices}
use Rattle.hy_tree.proofs.Counts.{count_link, number_link, count_arg, number_arg, count_choice, number_choice, numbered_exprs_are, counted_exprs_are}
use Rattle.hy_tree.proofs.Counts.{numbered_links_are, counted_links_are, numbered_steps_are, counted_steps_are, numbered_args_are, counted_args_are}
use Rattle.hy_tree.proofs.Counts.{numbered_choices_are, counted_choices_are}
use Rattle.hy_tree.proofs.Lists.{numbers_closed}
use Rattle.hy_tree.proofs.number_expression.+expressions.Goals as goal

pub number_expr-returns : goal.number_expr-returns
number_expr-returns t c =
    let old = c.args.e.now in
    let h = c.in_ok-kind.ensures c.args.next.now (placed old.span old.node) c.in_ok-node.ensures.next in
    ((λ i. expr_kind_of c.in_ok-kind.kind (placed old.span (c.in_ok-node.ensures.number i))) ∙ h.0, h.1)

pub number_step-returns : goal.number_step-returns
number_step-returns t c =
    let old = c.args.step.now in
    let h = c.in_ok-kind.ensures c.args.next.now (placed old.span old.node) c.in_ok-node.ensures.next in
    ((λ i. step_kind_of c.in_ok-kind.kind (placed old.span (c.in_ok-node.ensures.number i))) ∙ h.0, h.1)

pub number_exprs-returns : goal.number_exprs-returns
number_exprs-returns t c =
    numbers_closed expr_of count_expr number_expr c.args.next.now c.args.parts.now exprs count_exprs number_exprs numbered_exprs_are counted_exprs_are
    c.loop-part.part-index c.loop-part.next c.loop-part.made c.loop-part-test.false c.loop-part.invariant

pub number_links-returns : goal.number_links-returns
number_links-returns t c =
    numbers_closed link_of count_link number_link c.args.next.now c.args.links.now links count_links number_links numbered_links_are counted_links_are
    c.loop-link.link-index c.loop-link.next c.loop-link.made c.loop-link-test.false c.loop-link.invariant

pub number_steps-returns : goal.number_steps-returns
number_steps-returns t c =
    numbers_closed step_of count_step number_step c.args.next.now c.args.steps.now steps count_steps number_steps numbered_steps_are counted_steps_are
    c.loop-step.step-index c.loop-step.next c.loop-step.made c.loop-step-test.false c.loop-step.invariant

pub number_args-returns : goal.number_args-returns
number_args-returns t c =
    numbers_closed arg_of count_arg number_arg c.args.next.now c.args.args.now args count_args number_args numbered_args_are counted_args_are
    c.loop-arg.arg-index c.loop-arg.next c.loop-arg.made c.loop-arg-test.false c.loop-arg.invariant

pub number_choices-returns : goal.number_choices-returns
number_choices-returns t c =
    numbers_closed choice_of count_choice number_choice c.args.next.now c.args.choices.now choices count_choices number_choices numbered_choices_are
    counted_choices_are
    c.loop-choice.choice-index c.loop-choice.next c.loop-choice.made c.loop-choice-test.false c.loop-choice.invariant
