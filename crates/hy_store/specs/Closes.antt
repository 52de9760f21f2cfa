-- Closing, where the caller says whether a suspended subscript was lent the access.
use Rattle.std.specs.Prelude.{◌≡◌, ℕ, suc, Bool, not, ◌&&◌}
use Rattle.hy_object.specs.declared.stuck.Kind.TheVariants as kind
use Rattle.hy_object.specs.Checks.{check, with_some, own_slot}
use Rattle.hy_object.specs.Lending.{closes, is_childless, opened_in}
use Rattle.hy_object.specs.States.{State}
use Rattle.hy_store.specs.declared.frame.Slot.TheVariants.{Empty}
use Rattle.hy_store.specs.declared.store.Store.{Store}
use Rattle.hy_store.specs.Frames.{Changes, kept, with_slot}
use Rattle.hy_store.specs.Names.{IsClosed}

abbrev pub close_unless : State → (slot : ℕ) → (lent : Bool) → State
close_unless s slot lent =
    with_some s kind.Slot (opened_in (own_slot s slot)) (λ this.
    check s kind.Slot (is_childless s this && not lent)
    (closes s slot this))

-- the access of that name is closed, if it was live, and the slot of the running activation that held it is empty
pub record Closes (old new : Store) (slot name : ℕ) : Type 0 where
  pub blocks : new.blocks ≡ old.blocks
  pub frame : new.frame ≡ old.frame
  pub counts : new.counts ≡ record (old.counts) { closed = suc old.counts.closed }
  pub closed : IsClosed old.opened new.opened name
  pub emptied : Changes (kept old.frames) (kept new.frames) old.frame (with_slot slot Empty)
