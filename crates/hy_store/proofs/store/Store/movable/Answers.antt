use Rattle.std.proofs.Common.{◌∙◌, rules, SFits, w64}
use Rattle.std.proofs.lemmas.Int.{to_z-of_z}
use Rattle.hy_object.specs.declared.stuck.Kind.TheVariants as kind
use Rattle.hy_object.specs.Checks.{Reach, check, is_whole}
use Rattle.hy_store.specs.Opened.{abstract_range}
use Rattle.hy_store.proofs.Following.{checked}
use Rattle.hy_store.proofs.Indexing.{handed_halt}
use Rattle.hy_store.proofs.store.Store.movable.Goals as goal

pub returns-in_err-element-clause-checks : goal.returns-in_err-element-clause-checks
returns-in_err-element-clause-checks c =
    λ g s represents go. handed_halt s _ _ _ _ c.from_residual.ensures.1 ((let fits : SFits w64 c.args.index = search rules in
    rw (to_z-of_z w64 c.args.index fits) at c.in_err-element.ensures.checks) g s represents
    (λ (e : Reach). check s kind.Unset (is_whole s e.range) (go e.range)))

pub returns-in_err-check-clause-checks : goal.returns-in_err-check-clause-checks
returns-in_err-check-clause-checks c =
    λ g s represents go. handed_halt s _ _ _ _ c.from_residual-in_err-check.ensures.1 ((let fits : SFits w64 c.args.index = search rules in
    rw (to_z-of_z w64 c.args.index fits) at c.in_ok-element.ensures.checks) g s represents
    (λ (e : Reach). check s kind.Unset (is_whole s e.range) (go e.range))
    ∙ checked s kind.Unset _ _ (go (abstract_range c.in_ok-element.element.range)) _ (c.is_whole.ensures g s represents) (c.in_err-check.ensures s _))

pub returns-clause-checks : goal.returns-clause-checks
returns-clause-checks c = λ g s represents go. (let fits : SFits w64 c.args.index = search rules in
    rw (to_z-of_z w64 c.args.index fits) at c.in_ok-element.ensures.checks) g s represents
    (λ (e : Reach). check s kind.Unset (is_whole s e.range) (go e.range))
    ∙ checked s kind.Unset _ _ (go (abstract_range c.in_ok-element.element.range)) _ (c.is_whole.ensures g s represents) (c.in_ok-check.ensures s _)
