use Rattle.hy_tree.specs.Denotes.{expr_of, link_of, step_of, arg_of, choice_of}
use Rattle.hy_tree.specs.Numbers.{count_expr, count_exprs, count_links, count_step, count_steps, count_args, count_choices}
use Rattle.hy_tree.specs.Tree.{exprs, links, steps, args, choices}
use Rattle.hy_tree.proofs.Counts.{count_link, count_arg, count_choice, counted_exprs_are, counted_links_are, counted_steps_are, counted_args_are}
use Rattle.hy_tree.proofs.Counts.{counted_choices_are}
use Rattle.hy_tree.proofs.Lists.{counts_closed}
use Rattle.hy_tree.proofs.count.+expressions.Goals as goal

pub exprs_from-returns : goal.exprs_from-returns
exprs_from-returns t c =
    counts_closed expr_of count_expr c.args.so_far c.args.parts.now exprs count_exprs counted_exprs_are c.loop-part.part-index c.loop-part.total
    c.loop-part-test.false c.loop-part.invariant

pub links_from-returns : goal.links_from-returns
links_from-returns t c =
    counts_closed link_of count_link c.args.so_far c.args.links.now links count_links counted_links_are c.loop-link.link-index c.loop-link.total
    c.loop-link-test.false c.loop-link.invariant

pub steps_from-returns : goal.steps_from-returns
steps_from-returns t c =
    counts_closed step_of count_step c.args.so_far c.args.steps.now steps count_steps counted_steps_are c.loop-step.step-index c.loop-step.total
    c.loop-step-test.false c.loop-step.invariant

pub args_from-returns : goal.args_from-returns
args_from-returns t c =
    counts_closed arg_of count_arg c.args.so_far c.args.args.now args count_args counted_args_are c.loop-arg.arg-index c.loop-arg.total
    c.loop-arg-test.false c.loop-arg.invariant

pub choices_from-returns : goal.choices_from-returns
choices_from-returns t c =
    counts_closed choice_of count_choice c.args.so_far c.args.choices.now choices count_choices counted_choices_are c.loop-choice.choice-index
    c.loop-choice.total c.loop-choice-test.false c.loop-choice.invariant
