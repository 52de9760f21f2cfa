-- Activations in slots, linked in order of start.
use Rattle.std.specs.Prelude.{◌≡◌, ◌+◌, ℕ, Option, Some, None, refl}
use Rattle.slab.specs.Slab.{Slab, get, slab_len, Updates}
use Rattle.hy_links.specs.Linked.{Layout, Changes}
use Rattle.hy_frames.specs.declared.slots.Slot.{Slot}
use Rattle.hy_frames.specs.Activations.{Activation}

-- the order of start
abbrev pub order : Layout Slot Activation
order =
    record {
      before = λ slot. slot.links.before;
      after = λ slot. slot.links.after;
      held = λ i slot. record {
        id = record { slot = i };
        function = slot.function;
        frame = slot.frame;
        code_place = slot.code_place;
        standing = slot.standing;
      };
      number = λ activation. activation.id.slot;
      in_place = λ i slot. refl;
    }

abbrev pub with_before : Option ℕ → Slot → Slot
with_before before slot = record slot { links = record slot.links { before = before } }

abbrev pub with_after : Option ℕ → Slot → Slot
with_after after slot = record slot { links = record slot.links { after = after } }

-- a slot is filled, and the one that was the newest is linked to it
pub record IsFilled (old new : Slab Slot) (slot : Slot) (index : ℕ) : Type 0 where
  pub filled : Slab Slot
  pub was_free : get old index ≡ None
  pub fills : Updates old filled index (Some slot)
  pub one_more : slab_len filled ≡ slab_len old + 1
  pub newest : Changes filled new slot.links.before (with_after (Some index))

-- a slot is given back, and its neighbours are linked to each other
pub record IsEmptied (old new : Slab Slot) (slot : Slot) (index : ℕ) : Type 0 where
  pub emptied : Slab Slot
  pub joined : Slab Slot
  pub was : get old index ≡ Some slot
  pub empties : Updates old emptied index None
  pub one_less : slab_len emptied + 1 ≡ slab_len old
  pub before : Changes emptied joined slot.links.before (with_after slot.links.after)
  pub after : Changes joined new slot.links.after (with_before slot.links.before)
