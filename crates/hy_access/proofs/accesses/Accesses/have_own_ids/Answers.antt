use Rattle.hy_links.proofs.Linked.{own_numbers}
use Rattle.hy_access.specs.Forest.{order}
use Rattle.hy_access.proofs.accesses.Accesses.have_own_ids.Goals as goal

pub returns : goal.returns
returns c = rw (← c.self.view_is) (own_numbers order c.self.inside.slots c.self.inside.newest c.self.invariant.linked)
