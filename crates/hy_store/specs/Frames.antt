-- Slots and roles of activations, by the names of their frames.
use Rattle.std.specs.Prelude.{◌≡◌, ℕ, nat_eq, cond, List, Option, Some, None, IsSomeAnd, slice_get, slice_set}
use Rattle.std.specs.HashMap.{get}
use Rattle.std.specs.Option.{option_map}
use Rattle.hy_store.specs.declared.frame.Frame.{Frame}
use Rattle.hy_store.specs.declared.frame.Frames.{Frames}
use Rattle.hy_store.specs.declared.frame.Role.{Role}
use Rattle.hy_store.specs.declared.frame.Slot.{Slot}
use Rattle.hy_store.specs.declared.frame.Slot.TheVariants.{Empty}

-- what is kept of an activation
pub record Kept : Type 0 where
  pub slots : List Slot
  pub role : Role

abbrev pub abstract_frame : Frame → Kept
abstract_frame frame = record { slots = frame.slots.items; role = frame.role }

abbrev pub Known : Type 0
Known = ℕ → Option Kept

abbrev pub kept : Frames → Known
kept frames name = option_map abstract_frame (get nat_eq frames.live name)

-- what a slot holds; one that does not exist is empty
abbrev pub held_at : Option Slot → Slot
held_at None = Empty
held_at (Some slot) = slot

abbrev pub slot_in : Option Kept → ℕ → Slot
slot_in None slot = Empty
slot_in (Some one) slot = held_at (slice_get one.slots slot)

abbrev pub slots_at : Option Kept → Option (List Slot)
slots_at found = option_map (λ one. one.slots) found

abbrev pub role_at : Option Kept → Option Role
role_at found = option_map (λ one. one.role) found

-- what is kept at that name is changed, all else equal
abbrev pub with_frame : Known → ℕ → Option Kept → Known
with_frame known name one other = cond (nat_eq name other) one (known other)

abbrev pub with_slot : ℕ → Slot → Kept → Kept
with_slot slot held one = record one { slots = slice_set one.slots slot held }

abbrev pub with_role : Role → Kept → Kept
with_role role one = record one { role = role }

-- this is done to what is kept at that name
abbrev pub Changes : (old new : Known) → ℕ → (Kept → Kept) → Type 0
Changes old new name f = IsSomeAnd (old name) (λ one. (other : ℕ) → new other ≡ with_frame old name (Some (f one)) other)
