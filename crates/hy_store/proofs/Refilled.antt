-- What becomes of the slots and roles that are seen where one activation is changed.
use Rattle.std.proofs.Common.{◌≡◌, ◌<◌, ℕ, Bool, true, false, nat_eq, cond, length, Option, Some, IsSomeAnd, sym, ap, ◌∙◌}
use Rattle.hy_object.specs.declared.object.Fun.{Fun}
use Rattle.hy_object.specs.States as machine
use Rattle.hy_object.specs.States.{with_at}
use Rattle.hy_store.specs.declared.frame.Slot.{Slot}
use Rattle.hy_store.specs.Frames.{Changes, Kept, Known, slot_in, with_frame, with_slot}
use Rattle.hy_store.specs.Represents.{IsKept, abstract_slot}
use Rattle.hy_store.proofs.Holding.{flip}
use Rattle.hy_store.proofs.Naming.{same_test}
use Rattle.hy_store.proofs.Opening.{length_set, slot_set}

module _ (old new : Known) (name : ℕ) (f : Kept → Kept) (one : Kept) (is : old name ≡ Some one) (changes : Changes old new name f) where
  changed : (other : ℕ) → new other ≡ with_frame old name (Some (f one)) other
  changed other = parts (old name) is changes
    where
      parts : (found : Option Kept) → found ≡ Some one → IsSomeAnd found (λ was. (b : ℕ) → new b ≡ with_frame old name (Some (f was)) b)
          → new other ≡ with_frame old name (Some (f one)) other
      parts found e h = (rw e at h) other

  pub changed_here : new name ≡ Some (f one)
  changed_here = changed name ∙ ap (λ t. cond t (Some (f one)) (old name)) (same_test name)

  pub changed_other : (other : ℕ) → nat_eq name other ≡ false → new other ≡ old other
  changed_other other differs = changed other ∙ ap (λ t. cond t (Some (f one)) (old other)) differs

-- a slot is filled, or emptied
module _ (old new : Known) (name slot : ℕ) (held : Slot) (one : Kept) (is : old name ≡ Some one) (in_row : slot < length one.slots)
    (changes : Changes old new name (with_slot slot held)) (slots : ℕ → ℕ → machine.Slot) (put : machine.Slot) where
  pub filled_here : put ≡ abstract_slot held → ((k : ℕ) → slots name k ≡ abstract_slot (slot_in (old name) k)) → (k : ℕ)
      → machine.with_slot slots name slot put name k ≡ abstract_slot (slot_in (new name) k)
  filled_here same was k =
      ap (λ t. (cond t (with_at (slots name) slot put) (slots name)) k) (same_test name)
      ∙ choose (nat_eq k slot) (slots name k) (slot_in (Some one) k) (was k ∙ ap (λ o. abstract_slot (slot_in o k)) is)
      ∙ ap abstract_slot (sym (slot_set one slot k held in_row))
      ∙ ap (λ o. abstract_slot (slot_in o k)) (sym (changed_here old new name (with_slot slot held) one is changes))
    where
      choose : (b : Bool) (x : machine.Slot) (y : Slot) → x ≡ abstract_slot y → cond b put x ≡ abstract_slot (cond b held y)
      choose true x y h = same
      choose false x y h = h

  pub filled_other : (other : ℕ) → nat_eq name other ≡ false → ((k : ℕ) → slots other k ≡ abstract_slot (slot_in (old other) k)) → (k : ℕ)
      → machine.with_slot slots name slot put other k ≡ abstract_slot (slot_in (new other) k)
  filled_other other differs was k =
      ap (λ t. (cond t (with_at (slots name) slot put) (slots other)) k) (flip other name ∙ differs)
      ∙ was k
      ∙ ap (λ o. abstract_slot (slot_in o k)) (sym (changed_other old new name (with_slot slot held) one is changes other differs))

-- as many slots are kept, and the role
pub kept_filled : (old new : Known) (name slot : ℕ) (held : Slot) (fun : Fun) (role : machine.Role) (kept : IsKept (old name) fun role)
    → Changes old new name (with_slot slot held) → IsKept (new name) fun role
kept_filled old new name slot held fun role kept changes =
    (with_slot slot held kept.0, changed_here old new name (with_slot slot held) kept.0 kept.1 changes, length_set kept.0.slots slot held ∙ kept.2, kept.3)
