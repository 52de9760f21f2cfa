use Rattle.std.proofs.Common.{◌≡◌, ◌<◌, ℕ, false}
use Rattle.hy_object.specs.Controls.{is_open}
use Rattle.hy_store.specs.Frames.{kept, slot_in}
use Rattle.hy_store.specs.Represents.{abstract_slot}
use Rattle.hy_store.proofs.store.Store.is_closed.Given as goal

abbrev pub invariant-loop-k : goal.invariant-loop-k
invariant-loop-k l = (i : ℕ) → i < l.k → is_open (abstract_slot (slot_in (kept l.self.frames l.self.frame) i)) ≡ false
