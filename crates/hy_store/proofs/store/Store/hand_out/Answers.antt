use Rattle.std.proofs.Common.{◌≡◌, ◌∙◌, Some, ap, sym, refl}
use Rattle.hy_object.specs.Checks.{held}
use Rattle.hy_store.specs.Frames.{kept, role_at, slot_in}
use Rattle.hy_store.specs.Switches.{slot_for}
use Rattle.hy_store.specs.Represents.{abstract_slot}
use Rattle.hy_store.proofs.Yielding.{yielded_goes}
use Rattle.hy_store.proofs.store.Store.hand_out.Goals as goal

pub returns : goal.returns
returns c =
    let holds : held (abstract_slot (slot_in (kept c.args.self.now.frames c.args.self.now.frame) c.args.slot)) ≡ Some c.in-Some.name =
    ap (λ o. held (abstract_slot o)) (sym c.slot.ensures) ∙ sym c.in-Some.ensures in
    let role : slot_for (role_at (kept c.args.self.now.frames c.args.self.now.frame)) ≡ Some c.in-Some-slot_for.into = ap slot_for (sym c.role.ensures)
    ∙ sym c.in-Some-slot_for.ensures in
    let takes = rw c.in-Some-caller.is at c.requires.takes in
    rw c.in-Some-caller.is (yielded_goes c.args.self.now _ c.args.fun.now c.args.next.now c.args.slot c.in-Some-caller.frame c.in-Some-slot_for.into
    c.in-Some.name
    (record {
      mid = c.set_slot.new.self;
      filled = c.set_slot.ensures;
      sliding = c.set_role.ensures;
      blocks = refl;
      opened = refl;
      counts = refl;
      frame = refl;
    })
    (takes c.in-Some-slot_for.into role) holds role)
