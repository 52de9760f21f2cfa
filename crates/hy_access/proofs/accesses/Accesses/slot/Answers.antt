use Rattle.hy_links.proofs.Linked.{live_slot, live_held}
use Rattle.hy_access.specs.Forest.{order}
use Rattle.hy_access.proofs.accesses.Accesses.slot.Goals as goal

pub index-requires : goal.index-requires
index-requires c = live_slot order c.self.inside.slots c.self.inside.newest c.self.invariant.linked c.args.id.slot (rw (c.self.view_is) c.requires)

pub returns : goal.returns
returns c = rw (← c.self.view_is) (live_held order c.self.inside.slots c.self.inside.newest c.self.invariant.linked c.args.id.slot c.index.result.now
    (rw (c.self.view_is) c.requires) c.index.ensures)
