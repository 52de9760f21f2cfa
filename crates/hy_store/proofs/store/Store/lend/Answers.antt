use Rattle.std.proofs.Common.{◌∙◌, None, ap, sym}
use Rattle.hy_object.specs.declared.stuck.Kind.TheVariants as kind
use Rattle.hy_object.specs.Checks.{Reach, check, is_empty, may_use, reach}
use Rattle.hy_object.specs.Lending.{opens}
use Rattle.hy_store.specs.Represents.{represented, abstract_slot}
use Rattle.hy_store.proofs.Following.{checked}
use Rattle.hy_store.proofs.Opening.{opened_goes}
use Rattle.hy_store.proofs.store.Store.lend.Goals as goal

pub returns : goal.returns
returns c =
    let reached = c.in_ok-x.ensures.reached in
    opened_goes c.args.self.now c.open.new.self c.args.fun.now c.args.slot c.args.words c.in_ok-x.x None c.kept_way.result c.in_ok-open.ensures reached
    c.requires.slot _
    (λ g s represents. let x : Reach = represented g s c.in_ok-x.x in
    checked s kind.Slot _ _
    (reach s c.args.place c.args.words (λ x. check s kind.Access (may_use s c.args.way x) (opens s c.args.slot x None c.args.way))) _
    (ap (λ o. is_empty o) (represents.slots c.args.slot ∙ ap abstract_slot (sym c.slot.ensures)) ∙ c.is_empty-empty.ensures) (c.in_ok-check.ensures s _)
    ∙ c.in_ok-x.ensures.checks g s represents (λ x. check s kind.Access (may_use s c.args.way x) (opens s c.args.slot x None c.args.way))
    ∙ checked s kind.Access _ _ (opens s c.args.slot x None c.args.way) _ (c.may_use.ensures s g.name represents.opened.told)
    (c.in_ok-check-2.ensures s _) ∙ ap (opens s c.args.slot (represented g s c.in_ok-x.x) None) (sym c.kept_way.ensures))
