use Rattle.std.proofs.Common.{◌≡◌, ◌∙◌, not, Some, ap, sym}
use Rattle.hy_object.specs.Lending.{is_childless, opened_in}
use Rattle.hy_store.specs.Frames.{kept, slot_in}
use Rattle.hy_store.specs.Represents.{abstract_slot}
use Rattle.hy_store.proofs.Closed.{close_is, closed_goes}
use Rattle.hy_store.proofs.Counted.{joined}
use Rattle.hy_store.proofs.store.Store.close.Goals as goal

pub returns : goal.returns
returns c =
    let holds : opened_in (abstract_slot (slot_in (kept c.args.self.now.frames c.args.self.now.frame) c.args.slot)) ≡ Some c.in-Some.name =
    ap (λ o. opened_in (abstract_slot o)) (sym c.slot.ensures) ∙ sym c.in-Some.ensures in
    closed_goes c.args.self.now c.shut.new.self c.args.fun.now c.args.slot c.in-Some.name c.in_ok-shut.ensures
    (c.is_childless-childless.ensures.closable c.if-not-childless.false) c.requires.slot _
    (λ g s represents. close_is g c.args.self.now c.args.fun.now s represents c.args.slot c.args.lent c.in-Some.name holds
    (joined (is_childless s c.in-Some.name) (not c.args.lent) (c.is_childless-childless.ensures.tells g s represents
    ∙ c.if-not-childless.false) (ap not c.if-lent.false)))
