use Rattle.std.proofs.Common.{◌≡◌, ◌<◌, ◌+◌, ℕ, false}
use Rattle.hy_object.specs.Checks.{is_empty}
use Rattle.hy_store.specs.Frames.{kept, slot_in}
use Rattle.hy_store.specs.Represents.{abstract_slot}
use Rattle.hy_store.proofs.store.Store.can_give.Given as goal

abbrev pub invariant-loop-k : goal.invariant-loop-k
invariant-loop-k l = (i : ℕ) → i < l.k → is_empty (abstract_slot (slot_in (kept l.self.frames l.self.frame) (l.slot + i))) ≡ false
