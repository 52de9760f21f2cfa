use Rattle.std.proofs.Common.{◌≡◌, ◌<◌, ℕ, false}
use Rattle.hy_object.specs.Lending.{is_given}
use Rattle.hy_store.specs.Frames.{kept, slot_in}
use Rattle.hy_store.specs.Represents.{abstract_slot}
use Rattle.hy_store.proofs.store.Store.was_lent.Given as goal

abbrev pub invariant-loop-k : goal.invariant-loop-k
invariant-loop-k l = (i : ℕ) → i < l.k → is_given (abstract_slot (slot_in (kept l.self.frames l.frame) i)) l.name ≡ false
