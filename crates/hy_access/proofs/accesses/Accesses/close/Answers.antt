use Rattle.hy_links.proofs.Linked.{live_slot, on_chain, ended_so}
use Rattle.hy_access.specs.Forest.{order}
use Rattle.hy_access.proofs.Ancestors.{child_in_list}
use Rattle.hy_access.proofs.Trees.{unlinked, closed_so}
use Rattle.hy_access.proofs.accesses.Accesses.close.Goals as goal

pub unlink-slot-requires : goal.unlink-slot-requires
unlink-slot-requires c = live_slot order c.self.inside.slots c.self.inside.newest c.self.invariant.linked c.args.id.slot (rw (c.self.view_is) c.requires.live)

pub invariant_of-self : goal.invariant_of-self
invariant_of-self c =
    let end = ended_so order c.self.inside.slots c.unlink-slot.new.slots c.self.inside.newest c.newest_without-self-inside.result c.args.id.slot
    c.unlink-slot.result c.self.invariant.linked (rw (c.self.view_is) c.requires.live) c.unlink-slot.ensures.was
    (unlinked c.self.inside.slots c.unlink-slot.new.slots c.self.inside.newest c.newest_without-self-inside.result c.unlink-slot.result c.args.id.slot
    c.self.invariant c.unlink-slot.ensures (on_chain order c.self.inside.slots c.self.inside.newest c.self.invariant.linked c.args.id.slot
    (rw (c.self.view_is) c.requires.live))
    (λ i there mother. c.requires.childless
    (rw (← c.self.view_is) (child_in_list c.self.inside.slots c.self.inside.newest c.self.invariant i c.args.id.slot there mother))))
    c.newest_without-self-inside.ensures.last c.newest_without-self-inside.ensures.not_last in
    closed_so c.self.inside.slots c.unlink-slot.new.slots c.self.inside.newest c.newest_without-self-inside.result c.unlink-slot.result c.args.id.slot
    c.self.invariant c.unlink-slot.ensures (on_chain order c.self.inside.slots c.self.inside.newest c.self.invariant.linked c.args.id.slot
    (rw (c.self.view_is) c.requires.live))
    (λ i there mother. c.requires.childless
    (rw (← c.self.view_is) (child_in_list c.self.inside.slots c.self.inside.newest c.self.invariant i c.args.id.slot there mother))) end.linked
    end.order

pub returns : goal.returns
returns c = rw (← c.self.view_is) (ended_so order c.self.inside.slots c.unlink-slot.new.slots c.self.inside.newest c.newest_without-self-inside.result
    c.args.id.slot c.unlink-slot.result c.self.invariant.linked (rw (c.self.view_is) c.requires.live) c.unlink-slot.ensures.was
    (unlinked c.self.inside.slots c.unlink-slot.new.slots c.self.inside.newest c.newest_without-self-inside.result c.unlink-slot.result c.args.id.slot
    c.self.invariant c.unlink-slot.ensures (on_chain order c.self.inside.slots c.self.inside.newest c.self.invariant.linked c.args.id.slot
    (rw (c.self.view_is) c.requires.live))
    (λ i there mother. c.requires.childless
    (rw (← c.self.view_is) (child_in_list c.self.inside.slots c.self.inside.newest c.self.invariant i c.args.id.slot there mother))))
    c.newest_without-self-inside.ensures.last c.newest_without-self-inside.ensures.not_last).lists
