use Rattle.hy_links.proofs.Linked.{live_slot, live_held}
use Rattle.hy_frames.specs.Slots.{order}
use Rattle.hy_frames.proofs.acts.Acts.slot.Goals as goal

pub index-requires : goal.index-requires
index-requires c = live_slot order c.self.inside.slots c.self.inside.newest c.self.invariant c.args.act.slot (rw (c.self.view_is) c.requires)

pub returns : goal.returns
returns c = rw (← c.self.view_is) (live_held order c.self.inside.slots c.self.inside.newest c.self.invariant c.args.act.slot c.index.result.now
    (rw (c.self.view_is) c.requires) c.index.ensures)
