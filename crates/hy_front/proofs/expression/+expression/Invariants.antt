use Rattle.hy_tree.specs.Denotes.{exprs_of, links_of, steps_of, args_of, choices_of}
use Rattle.hy_front.specs.Unbuilt.{in_exprs, in_links, in_steps, in_args, in_choices}
use Rattle.hy_base.proofs.Walks.{HasWalked}
use Rattle.hy_front.specs.Noted.{note}
use Rattle.hy_front.proofs.expression.+expression.Given as goal

abbrev pub invariant-look_at_exprs-loop-part : goal.invariant-look_at_exprs-loop-part
invariant-look_at_exprs-loop-part l = HasWalked note (λ (s : Unit {0}) xs. in_exprs l.meant (exprs_of xs)) tt l.parts l.fn.first l.part-index tt l.first

abbrev pub invariant-look_at_links-loop-link : goal.invariant-look_at_links-loop-link
invariant-look_at_links-loop-link l = HasWalked note (λ (s : Unit {0}) xs. in_links l.meant (links_of xs)) tt l.links l.fn.first l.link-index tt l.first

abbrev pub invariant-look_at_steps-loop-step : goal.invariant-look_at_steps-loop-step
invariant-look_at_steps-loop-step l = HasWalked note (λ (s : Unit {0}) xs. in_steps l.meant (steps_of xs)) tt l.steps l.fn.first l.step-index tt l.first

abbrev pub invariant-look_at_args-loop-arg : goal.invariant-look_at_args-loop-arg
invariant-look_at_args-loop-arg l = HasWalked note (λ (s : Unit {0}) xs. in_args l.meant (args_of xs)) tt l.args l.fn.first l.arg-index tt l.first

abbrev pub invariant-look_at_choices-loop-choice : goal.invariant-look_at_choices-loop-choice
invariant-look_at_choices-loop-choice l = HasWalked note (λ (s : Unit {0}) xs. in_choices l.meant (choices_of xs)) tt l.choices l.fn.first l.choice-index tt
    l.first
