use Rattle.hy_links.proofs.Linked.{own_numbers}
use Rattle.hy_frames.specs.Slots.{order}
use Rattle.hy_frames.proofs.acts.Acts.have_own_ids.Goals as goal

pub returns : goal.returns
returns c = rw (← c.self.view_is) (own_numbers order c.self.inside.slots c.self.inside.newest c.self.invariant)
