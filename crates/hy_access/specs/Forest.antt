-- Accesses in slots: linked in the order in which they were lent, and each parent with its children.
use Rattle.std.specs.Prelude.{◌≡◌, ◌<◌, ◌+◌, ◌==◌, ℕ, if◌then◌else◌, List, [], ◌∷◌, Option, Some, None, Bool, false, refl}
use Rattle.slab.specs.Slab.{Slab, get, slab_len, Updates}
use Rattle.hy_links.specs.Chains.{Chain, times}
use Rattle.hy_links.specs.Linked.{Layout, look, Changes, newest_first, AreLinked}
use Rattle.hy_access.specs.declared.access.AccId.{AccId}
use Rattle.hy_access.specs.declared.slots.Slot.{Slot}
use Rattle.hy_access.specs.Accesses.{Access}

-- the order of lending
abbrev pub order : Layout Slot Access
order =
    record {
      before = λ slot. slot.links.before;
      after = λ slot. slot.links.after;
      held = λ i slot. record { id = record { slot = i }; own = slot.own; header = slot.header; way = slot.way; parent = slot.parent };
      number = λ access. access.id.slot;
      in_place = λ i slot. refl;
    }

abbrev pub slot_of_id : Option AccId → Option ℕ
slot_of_id None = None
slot_of_id (Some id) = Some id.slot

abbrev pub parent_at : Slab Slot → ℕ → Option ℕ
parent_at slots i = look (λ slot. slot_of_id slot.parent) (get slots i)

abbrev pub child_at : Slab Slot → ℕ → Option ℕ
child_at slots i = look (λ slot. slot.child) (get slots i)

abbrev pub older_at : Slab Slot → ℕ → Option ℕ
older_at slots i = look (λ slot. slot.siblings.before) (get slots i)

abbrev pub younger_at : Slab Slot → ℕ → Option ℕ
younger_at slots i = look (λ slot. slot.siblings.after) (get slots i)

abbrev pub is_some_of : Option ℕ → ℕ → Bool
is_some_of None n = false
is_some_of (Some m) n = m == n

-- those of these slots whose parent is in this slot, in the same order
abbrev pub children : (ℕ → Option ℕ) → ℕ → List ℕ → List ℕ
children parent n [] = []
children parent n (i ∷ rest) = if is_some_of (parent i) n then i ∷ children parent n rest else children parent n rest

-- the parent of each is among those after it
abbrev pub Behind : (ℕ → Option ℕ) → List ℕ → Type 0
Behind parent [] = Unit {0}
Behind parent (i ∷ rest) = ((p : ℕ) → parent i ≡ Some p → 0 < times p rest) × Behind parent rest

-- the accesses are linked in order, parents are older than their children, and each has its children in a chain of
-- their own, the youngest first
pub record IsForest (slots : Slab Slot) (newest : Option ℕ) : Type 0 where
  pub linked : AreLinked order slots newest
  pub behind : Behind (parent_at slots) (newest_first order slots newest)
  pub roots : (n : ℕ) → 0 < times n (newest_first order slots newest) → parent_at slots n ≡ None → (older_at slots n ≡ None) × (younger_at slots n ≡ None)
  pub siblings : (n : ℕ) → 0 < times n (newest_first order slots newest)
      → Chain (older_at slots) (younger_at slots) None (child_at slots n) (children (parent_at slots) n (newest_first order slots newest))

abbrev pub with_before : Option ℕ → Slot → Slot
with_before before slot = record slot { links = record slot.links { before = before } }

abbrev pub with_after : Option ℕ → Slot → Slot
with_after after slot = record slot { links = record slot.links { after = after } }

abbrev pub with_older : Option ℕ → Slot → Slot
with_older older slot = record slot { siblings = record slot.siblings { before = older } }

abbrev pub with_younger : Option ℕ → Slot → Slot
with_younger younger slot = record slot { siblings = record slot.siblings { after = younger } }

abbrev pub with_child : Option ℕ → Slot → Slot
with_child child slot = record slot { child = child }

-- the youngest child of a parent that is given
abbrev pub youngest_of : Slab Slot → Option ℕ → Option ℕ
youngest_of slots None = None
youngest_of slots (Some parent) = child_at slots parent

-- a slot is filled, and those that are now beside and above it are linked to it
pub record IsLent (old new : Slab Slot) (slot : Slot) (index : ℕ) : Type 0 where
  pub filled : Slab Slot
  pub behind : Slab Slot
  pub beside : Slab Slot
  pub was_free : get old index ≡ None
  pub fills : Updates old filled index (Some slot)
  pub one_more : slab_len filled ≡ slab_len old + 1
  pub newest : Changes filled behind slot.links.before (with_after (Some index))
  pub youngest : Changes behind beside slot.siblings.before (with_younger (Some index))
  pub child : Changes beside new (slot_of_id slot.parent) (with_child (Some index))

-- the second where the first is none
abbrev pub where_none : Option ℕ → Option ℕ → Option ℕ
where_none None other = other
where_none (Some i) other = None

-- the parent whose youngest child this one is
abbrev pub first_of_parent : Slot → Option ℕ
first_of_parent slot = where_none slot.siblings.after (slot_of_id slot.parent)

-- a slot is given back, and those that were beside and above it are linked to each other
pub record IsClosed (old new : Slab Slot) (slot : Slot) (index : ℕ) : Type 0 where
  pub emptied : Slab Slot
  pub joined : Slab Slot
  pub linked : Slab Slot
  pub younger_told : Slab Slot
  pub older_told : Slab Slot
  pub was : get old index ≡ Some slot
  pub empties : Updates old emptied index None
  pub one_less : slab_len emptied + 1 ≡ slab_len old
  pub before : Changes emptied joined slot.links.before (with_after slot.links.after)
  pub after : Changes joined linked slot.links.after (with_before slot.links.before)
  pub older : Changes linked older_told slot.siblings.before (with_younger slot.siblings.after)
  pub younger : Changes older_told younger_told slot.siblings.after (with_older slot.siblings.before)
  pub child : Changes younger_told new (first_of_parent slot) (with_child slot.siblings.before)
