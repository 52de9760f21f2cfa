use Rattle.std.proofs.Common.{◌≡◌, ◌∙◌, ◌-◌, suc, Some, ap, sym, arith}
use Rattle.hy_object.specs.Checks.{held}
use Rattle.hy_store.specs.Frames.{kept, slot_in}
use Rattle.hy_store.specs.Represents.{abstract_slot}
use Rattle.hy_store.proofs.Reaching.{reach_is}
use Rattle.hy_store.proofs.store.Store.reach.Goals as goal

pub returns-clause-checks : goal.returns-clause-checks
returns-clause-checks c = λ g s represents go.
    let above : c.args.place.base ≡ suc (c.args.place.base - 1) = omega arith in
    let is : held (abstract_slot (slot_in (kept c.args.self.now.frames c.args.self.now.frame) (c.args.place.base - 1))) ≡ Some c.in-Some.name =
    ap (λ o. held (abstract_slot o)) (sym c.slot.ensures) ∙ sym c.in-Some.ensures in
    reach_is g c.args.self.now c.args.fun.now s represents c.args.place.base c.args.place.offset c.args.words _ c.in-Some.name go above is
    ∙ c.reach_through.ensures.checks g s represents go
