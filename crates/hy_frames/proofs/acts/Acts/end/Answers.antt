use Rattle.std.proofs.Common.{refl}
use Rattle.hy_links.proofs.Linked.{live_slot, live_held, ended_so}
use Rattle.hy_frames.specs.Slots.{order}
use Rattle.hy_frames.proofs.Order.{unlinked}
use Rattle.hy_frames.proofs.acts.Acts.end.Goals as goal

pub unlink-slot-requires : goal.unlink-slot-requires
unlink-slot-requires c = live_slot order c.self.inside.slots c.self.inside.newest c.self.invariant c.args.act.slot (rw (c.self.view_is) c.requires)

pub invariant_of-self : goal.invariant_of-self
invariant_of-self c =
    (ended_so order c.self.inside.slots c.unlink-slot.new.slots c.self.inside.newest c.newest_without-self-inside.result c.args.act.slot
    c.unlink-slot.result c.self.invariant (rw (c.self.view_is) c.requires) c.unlink-slot.ensures.was
    (unlinked c.self.inside.slots c.unlink-slot.new.slots c.self.inside.newest c.unlink-slot.result c.args.act.slot c.self.invariant
    (rw (c.self.view_is) c.requires) c.unlink-slot.ensures) c.newest_without-self-inside.ensures.last c.newest_without-self-inside.ensures.not_last).linked

pub returns-clause-frame : goal.returns-clause-frame
returns-clause-frame c =
    rw (← c.self.view_is)
    (rw (live_held order c.self.inside.slots c.self.inside.newest c.self.invariant c.args.act.slot c.unlink-slot.result (rw (c.self.view_is) c.requires)
    c.unlink-slot.ensures.was) refl)

pub returns-clause-left : goal.returns-clause-left
returns-clause-left c =
    rw (← c.self.view_is) (ended_so order c.self.inside.slots c.unlink-slot.new.slots c.self.inside.newest c.newest_without-self-inside.result
    c.args.act.slot c.unlink-slot.result c.self.invariant (rw (c.self.view_is) c.requires) c.unlink-slot.ensures.was
    (unlinked c.self.inside.slots c.unlink-slot.new.slots c.self.inside.newest c.unlink-slot.result c.args.act.slot c.self.invariant
    (rw (c.self.view_is) c.requires) c.unlink-slot.ensures) c.newest_without-self-inside.ensures.last c.newest_without-self-inside.ensures.not_last).lists
