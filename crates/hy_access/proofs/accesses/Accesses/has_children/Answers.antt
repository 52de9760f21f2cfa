use Rattle.std.proofs.Common.{◌≡◌, ◌<◌, ℕ, Option, Some, None, IsTrue, is_some, ◌↔◌, refl, ap}
use Rattle.hy_links.specs.Linked.{look, listed, newest_first}
use Rattle.hy_links.specs.Chains.{times}
use Rattle.hy_links.proofs.Linked.{live_slot, on_chain}
use Rattle.slab.specs.Slab.{Slab}
use Rattle.hy_access.specs.declared.access.AccId.{AccId}
use Rattle.hy_access.specs.declared.slots.Slot.{Slot}
use Rattle.hy_access.specs.Accesses.{HasChild}
use Rattle.hy_access.specs.Forest.{order, child_at, IsForest}
use Rattle.hy_access.proofs.Ancestors.{youngest_is_child, no_youngest}
use Rattle.hy_access.proofs.accesses.Accesses.has_children.Goals as goal

told : (slots : Slab Slot) (newest : Option ℕ) → IsForest slots newest → (id : AccId) → 0 < times id.slot (newest_first order slots newest)
    → (child : Option ℕ) → child_at slots id.slot ≡ child → IsTrue (is_some child) ↔ HasChild id (listed order slots newest)
told slots newest forest id there None is = (λ never. cc, λ has. absurd (no_youngest slots newest forest id there is has))
told slots newest forest id there (Some i) is = (λ yes. youngest_is_child slots newest forest id.slot i there is, λ has. refl)

pub index-requires : goal.index-requires
index-requires c = live_slot order c.self.inside.slots c.self.inside.newest c.self.invariant.linked c.args.id.slot (rw (c.self.view_is) c.requires)

pub returns : goal.returns
returns c =
    let there = on_chain order c.self.inside.slots c.self.inside.newest c.self.invariant.linked c.args.id.slot (rw (c.self.view_is) c.requires) in
    rw (← c.self.view_is, c.is_some.ensures)
    (told c.self.inside.slots c.self.inside.newest c.self.invariant c.args.id there c.index.result.now.child
    (ap (look (λ (slot : Slot). slot.child)) c.index.ensures))
