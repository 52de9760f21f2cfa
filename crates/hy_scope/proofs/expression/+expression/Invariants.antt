use Rattle.hy_tree.specs.Denotes.{exprs_of, links_of, steps_of, args_of, choices_of}
use Rattle.hy_tree.specs.Findings.{find_exprs, find_links, find_steps, find_args, find_choices}
use Rattle.hy_scope.specs.Shown.{around_of, blocks_of, noted}
use Rattle.hy_base.proofs.Walks.{HasWalked}
use Rattle.hy_scope.specs.Noted.{note}
use Rattle.hy_scope.proofs.expression.+expression.Given as goal

abbrev pub invariant-walk_exprs-loop-part : goal.invariant-walk_exprs-loop-part
invariant-walk_exprs-loop-part l = HasWalked note (λ (s : Unit {0}) xs. find_exprs (around_of l.around) (blocks_of l.blocks) (exprs_of xs)) tt l.parts
    (noted l.fn.notes) l.part-index tt (noted l.notes)

abbrev pub invariant-walk_links-loop-link : goal.invariant-walk_links-loop-link
invariant-walk_links-loop-link l = HasWalked note (λ (s : Unit {0}) xs. find_links (around_of l.around) (blocks_of l.blocks) (links_of xs)) tt l.links
    (noted l.fn.notes) l.link-index tt (noted l.notes)

abbrev pub invariant-walk_steps-loop-step : goal.invariant-walk_steps-loop-step
invariant-walk_steps-loop-step l = HasWalked note (λ (s : Unit {0}) xs. find_steps (around_of l.around) (blocks_of l.blocks) (steps_of xs)) tt l.steps
    (noted l.fn.notes) l.step-index tt (noted l.notes)

abbrev pub invariant-walk_args-loop-arg : goal.invariant-walk_args-loop-arg
invariant-walk_args-loop-arg l = HasWalked note (λ (s : Unit {0}) xs. find_args (around_of l.around) (blocks_of l.blocks) (args_of xs)) tt l.args
    (noted l.fn.notes) l.arg-index tt (noted l.notes)

abbrev pub invariant-walk_choices-loop-choice : goal.invariant-walk_choices-loop-choice
invariant-walk_choices-loop-choice l = HasWalked note (λ (s : Unit {0}) xs. find_choices (around_of l.around) (blocks_of l.blocks) (choices_of xs)) tt
    l.choices (noted l.fn.notes) l.choice-index tt (noted l.notes)
