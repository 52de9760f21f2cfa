use Rattle.std.proofs.Common.{◌∙◌}
use Rattle.hy_object.specs.declared.stuck.Kind.TheVariants as kind
use Rattle.hy_object.specs.Checks.{Reach, check, is_whole, may_write, own_words}
use Rattle.hy_store.specs.Represents.{represented}
use Rattle.hy_store.proofs.Following.{checked, handed}
use Rattle.hy_store.proofs.store.Store.hands_over.Goals as goal

pub returns-in_err-check-clause-checks : goal.returns-in_err-check-clause-checks
returns-in_err-check-clause-checks c =
    λ g s represents go. checked s kind.Slot _ _ (own_words s c.args.word c.args.callee.now.owned
    (λ x. check s kind.Access (may_write s x) (check s kind.Unset (is_whole s x.range) (go x)))) _ (c.can_give.ensures g s represents)
    (c.in_err-check.ensures s _) ∙ handed s _ _ _ c.from_residual.ensures.1

pub returns-in_err-x-clause-checks : goal.returns-in_err-x-clause-checks
returns-in_err-x-clause-checks c =
    λ g s represents go. checked s kind.Slot _ _ (own_words s c.args.word c.args.callee.now.owned
    (λ x. check s kind.Access (may_write s x) (check s kind.Unset (is_whole s x.range) (go x)))) _ (c.can_give.ensures g s represents)
    (c.in_ok-check.ensures s _)
    ∙ c.in_err-x.ensures.checks g s represents (λ x. check s kind.Access (may_write s x) (check s kind.Unset (is_whole s x.range) (go x)))
    ∙ handed s _ _ _ c.from_residual-in_err-x.ensures.1

pub returns-in_err-check-2-clause-checks : goal.returns-in_err-check-2-clause-checks
returns-in_err-check-2-clause-checks c = λ g s represents go. let x : Reach = represented g s c.in_ok-x.x in
    checked s kind.Slot _ _
    (own_words s c.args.word c.args.callee.now.owned (λ x. check s kind.Access (may_write s x) (check s kind.Unset (is_whole s x.range) (go x)))) _
    (c.can_give.ensures g s represents) (c.in_ok-check.ensures s _)
    ∙ c.in_ok-x.ensures.checks g s represents (λ x. check s kind.Access (may_write s x) (check s kind.Unset (is_whole s x.range) (go x)))
    ∙ checked s kind.Access _ _ (check s kind.Unset (is_whole s x.range) (go x)) _ (c.may_write.ensures s g.name represents.opened.told)
    (c.in_err-check-2.ensures s _) ∙ handed s _ _ _ c.from_residual-in_err-check-2.ensures.1

pub returns-in_err-check-3-clause-checks : goal.returns-in_err-check-3-clause-checks
returns-in_err-check-3-clause-checks c = λ g s represents go. let x : Reach = represented g s c.in_ok-x.x in
    checked s kind.Slot _ _
    (own_words s c.args.word c.args.callee.now.owned (λ x. check s kind.Access (may_write s x) (check s kind.Unset (is_whole s x.range) (go x)))) _
    (c.can_give.ensures g s represents) (c.in_ok-check.ensures s _)
    ∙ c.in_ok-x.ensures.checks g s represents (λ x. check s kind.Access (may_write s x) (check s kind.Unset (is_whole s x.range) (go x)))
    ∙ checked s kind.Access _ _ (check s kind.Unset (is_whole s x.range) (go x)) _ (c.may_write.ensures s g.name represents.opened.told)
    (c.in_ok-check-2.ensures s _) ∙ checked s kind.Unset _ _ (go x) _ (c.is_whole.ensures g s represents) (c.in_err-check-3.ensures s _)
    ∙ handed s _ _ _ c.from_residual-in_err-check-3.ensures.1

pub returns-clause-checks : goal.returns-clause-checks
returns-clause-checks c = λ g s represents go. let x : Reach = represented g s c.in_ok-x.x in
    checked s kind.Slot _ _
    (own_words s c.args.word c.args.callee.now.owned (λ x. check s kind.Access (may_write s x) (check s kind.Unset (is_whole s x.range) (go x)))) _
    (c.can_give.ensures g s represents) (c.in_ok-check.ensures s _)
    ∙ c.in_ok-x.ensures.checks g s represents (λ x. check s kind.Access (may_write s x) (check s kind.Unset (is_whole s x.range) (go x)))
    ∙ checked s kind.Access _ _ (check s kind.Unset (is_whole s x.range) (go x)) _ (c.may_write.ensures s g.name represents.opened.told)
    (c.in_ok-check-2.ensures s _) ∙ checked s kind.Unset _ _ (go x) _ (c.is_whole.ensures g s represents) (c.in_ok-check-3.ensures s _)
