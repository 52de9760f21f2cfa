use Rattle.std.proofs.Common.{◌∙◌}
use Rattle.hy_object.specs.declared.stuck.Kind.TheVariants as kind
use Rattle.hy_object.specs.Checks.{check, may_write}
use Rattle.hy_store.proofs.Following.{handed, checked}
use Rattle.hy_store.proofs.store.Store.to_word.Goals as goal

pub returns-in_err-reach-clause-checks : goal.returns-in_err-reach-clause-checks
returns-in_err-reach-clause-checks c = λ g s represents go. c.in_err-reach.ensures.checks g s represents (λ x. check s kind.Access (may_write s x) (go x))
    ∙ handed s _ _ _ c.from_residual.ensures.1

pub returns-in_err-check-clause-checks : goal.returns-in_err-check-clause-checks
returns-in_err-check-clause-checks c = λ g s represents go.
    c.in_ok-reach.ensures.checks g s represents (λ x. check s kind.Access (may_write s x) (go x))
    ∙ checked s kind.Access _ _ _ _ (c.may_write.ensures s g.name represents.opened.told) (c.in_err-check.ensures s _)
    ∙ handed s _ _ _ c.from_residual-in_err-check.ensures.1

pub returns-clause-checks : goal.returns-clause-checks
returns-clause-checks c = λ g s represents go.
    c.in_ok-reach.ensures.checks g s represents (λ x. check s kind.Access (may_write s x) (go x))
    ∙ checked s kind.Access _ _ _ _ (c.may_write.ensures s g.name represents.opened.told) (c.in_ok-check.ensures s _)
