use Rattle.hy_tree.specs.Denotes.{expr_of, link_of, step_of, arg_of, choice_of}
use Rattle.hy_tree.specs.Numbers.{count_expr, count_step}
use Rattle.hy_tree.proofs.Counts.{count_link, count_arg, count_choice}
use Rattle.hy_tree.proofs.Lists.{HasCounted}
use Rattle.hy_tree.proofs.count.+expressions.Given as goal

abbrev pub invariant-exprs_from-loop-part : goal.invariant-exprs_from-loop-part
invariant-exprs_from-loop-part l = HasCounted expr_of count_expr l.fn.so_far l.parts l.part-index l.total

abbrev pub invariant-links_from-loop-link : goal.invariant-links_from-loop-link
invariant-links_from-loop-link l = HasCounted link_of count_link l.fn.so_far l.links l.link-index l.total

abbrev pub invariant-steps_from-loop-step : goal.invariant-steps_from-loop-step
invariant-steps_from-loop-step l = HasCounted step_of count_step l.fn.so_far l.steps l.step-index l.total

abbrev pub invariant-args_from-loop-arg : goal.invariant-args_from-loop-arg
invariant-args_from-loop-arg l = HasCounted arg_of count_arg l.fn.so_far l.args l.arg-index l.total

abbrev pub invariant-choices_from-loop-choice : goal.invariant-choices_from-loop-choice
invariant-choices_from-loop-choice l = HasCounted choice_of count_choice l.fn.so_far l.choices l.choice-index l.total
