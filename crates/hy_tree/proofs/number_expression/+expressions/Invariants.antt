use Rattle.hy_tree.specs.Denotes.{expr_of, link_of, step_of, arg_of, choice_of}
use Rattle.hy_tree.specs.Numbers.{count_expr, number_expr, count_step, number_step}
use Rattle.hy_tree.proofs.Counts.{count_link, number_link, count_arg, number_arg, count_choice, number_choice}
use Rattle.hy_tree.proofs.Lists.{HasNumbered}
use Rattle.hy_tree.proofs.number_expression.+expressions.Given as goal

abbrev pub invariant-number_exprs-loop-part : goal.invariant-number_exprs-loop-part
invariant-number_exprs-loop-part l = HasNumbered expr_of count_expr number_expr l.fn.next l.parts l.part-index l.made l.next

abbrev pub invariant-number_links-loop-link : goal.invariant-number_links-loop-link
invariant-number_links-loop-link l = HasNumbered link_of count_link number_link l.fn.next l.links l.link-index l.made l.next

abbrev pub invariant-number_steps-loop-step : goal.invariant-number_steps-loop-step
invariant-number_steps-loop-step l = HasNumbered step_of count_step number_step l.fn.next l.steps l.step-index l.made l.next

abbrev pub invariant-number_args-loop-arg : goal.invariant-number_args-loop-arg
invariant-number_args-loop-arg l = HasNumbered arg_of count_arg number_arg l.fn.next l.args l.arg-index l.made l.next

abbrev pub invariant-number_choices-loop-choice : goal.invariant-number_choices-loop-choice
invariant-number_choices-loop-choice l = HasNumbered choice_of count_choice number_choice l.fn.next l.choices l.choice-index l.made l.next
