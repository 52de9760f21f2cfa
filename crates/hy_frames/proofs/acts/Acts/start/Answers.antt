use Rattle.hy_links.proofs.Linked.{started_so, unchanged}
use Rattle.hy_frames.specs.Slots.{order}
use Rattle.hy_frames.proofs.Order.{pushed}
use Rattle.hy_frames.proofs.acts.Acts.start.Goals as goal

pub invariant_of-self : goal.invariant_of-self
invariant_of-self c = unchanged order c.self.inside.slots c.push.new.slots c.self.inside.newest c.in_err-index.ensures.refused c.self.invariant

pub invariant_of-self-2 : goal.invariant_of-self-2
invariant_of-self-2 c =
    (started_so order c.self.inside.slots c.push.new.slots c.self.inside.newest c.in_ok-index.index _ c.self.invariant
    (pushed c.self.inside.slots c.push.new.slots c.self.inside.newest _ c.in_ok-index.index c.self.invariant c.in_ok-index.ensures.filled
    c.newest.ensures.before c.newest.ensures.after)).linked

pub returns-clause-started : goal.returns-clause-started
returns-clause-started c =
    rw (← c.self.view_is) (started_so order c.self.inside.slots c.push.new.slots c.self.inside.newest c.in_ok-index.index _ c.self.invariant
    (pushed c.self.inside.slots c.push.new.slots c.self.inside.newest _ c.in_ok-index.index c.self.invariant c.in_ok-index.ensures.filled
    c.newest.ensures.before c.newest.ensures.after)).lists

pub returns-clause-new_id : goal.returns-clause-new_id
returns-clause-new_id c =
    rw (← c.self.view_is) (started_so order c.self.inside.slots c.push.new.slots c.self.inside.newest c.in_ok-index.index _ c.self.invariant
    (pushed c.self.inside.slots c.push.new.slots c.self.inside.newest _ c.in_ok-index.index c.self.invariant c.in_ok-index.ensures.filled
    c.newest.ensures.before c.newest.ensures.after)).is_new
