use Rattle.std.proofs.Common.{◌≡◌, ◌<◌, ℕ, Some, length, slice_get}
use Rattle.hy_store.specs.Frames.{kept}
use Rattle.hy_store.specs.Represents.{first_slot}
use Rattle.hy_store.proofs.store.Store.first_slots.Given as goal

abbrev pub invariant-loop-k : goal.invariant-loop-k
invariant-loop-k l = record {
  size : length l.row.items ≡ l.k;
  each : (i : ℕ) → i < l.k → slice_get l.row.items i ≡ Some (first_slot (kept l.self.frames l.self.frame) l.slot l.callee.accesses i);
}
