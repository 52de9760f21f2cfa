-- The walk over the accesses, a step at a time.
use Rattle.std.proofs.Common.{◌≡◌, ◌≢◌, ◌↔◌, ◌<◌, ◌+◌, ◌-◌, ℕ, zero, suc, List, ◌∷◌, Option, Some, None, refl, sym, ap, subst, arith}
use Rattle.slab.specs.Slab.{Slab, get}
use Rattle.hy_links.specs.Chains.{chain_from}
use Rattle.hy_links.specs.Linked.{look, before_at}
use Rattle.hy_access.specs.declared.access.Range.{Range}
use Rattle.hy_access.specs.declared.access.Way.{Way}
use Rattle.hy_access.specs.declared.slots.Slot.{Slot}
use Rattle.hy_access.specs.Forest.{order, slot_of_id, parent_at}
use Rattle.hy_access.specs.Clear.{Forbids, ForbidsIf, ForbidsAt, Clear}

module _ (slots : Slab Slot) (way : Way) (range : Range) where
  clear_none : (up : Option ℕ) (left : ℕ) → Clear (ForbidsAt slots way range) (parent_at slots) up (chain_from (before_at order slots) left None)
  clear_none up zero = tt
  clear_none up (suc left) = tt

  pub ended : (up at : Option ℕ) (left : ℕ) → at ≡ None → Clear (ForbidsAt slots way range) (parent_at slots) up (chain_from (before_at order slots) left at)
  ended up at left none = rw none (clear_none up left)

  clear_free : (i : ℕ) → get slots i ≡ None → (up : Option ℕ) (left : ℕ)
      → Clear (ForbidsAt slots way range) (parent_at slots) up (chain_from (before_at order slots) left (Some i))
  clear_free i free up zero = tt
  clear_free i free up (suc left) = (
    λ is. rest (parent_at slots i),
    λ away. (λ stands. let P : Option Slot → Type 0 = ForbidsIf way range in subst P free stands, rest up),
  )
    where
      rest : (next : Option ℕ) → Clear (ForbidsAt slots way range) (parent_at slots) next (chain_from (before_at order slots) left (before_at order slots i))
      rest next = ended next (before_at order slots i) left (ap (look (λ slot. slot.links.before)) free)

  pub free : (up at : Option ℕ) (left i : ℕ) → at ≡ Some i → get slots i ≡ None
      → Clear (ForbidsAt slots way range) (parent_at slots) up (chain_from (before_at order slots) left at)
  free up at left i is none = rw is (clear_free i none up left)

  module _ (at : Option ℕ) (i counter end : ℕ) (slot : Slot) (is : at ≡ Some i) (more : counter < end) (found : get slots i ≡ Some slot) where
    pub next_step : chain_from (before_at order slots) (end - counter) at ≡ i ∷ chain_from (before_at order slots) (end - (counter + 1)) slot.links.before
    next_step =
        let one : end - counter ≡ suc (end - (counter + 1)) = omega arith in
        let before : before_at order slots i ≡ slot.links.before = ap (look (λ s. s.links.before)) found in
        rw (one, is, before) refl

    pub stands : Forbids way range slot → ForbidsAt slots way range i
    stands forbids = let P : Option Slot → Type 0 = ForbidsIf way range in subst P (sym found) forbids

    pub stands_not : (Forbids way range slot → ⊥) → ForbidsAt slots way range i → ⊥
    stands_not allows forbids = let P : Option Slot → Type 0 = ForbidsIf way range in allows (subst P found forbids)

    -- one that forbids
    pub refused : (up : Option ℕ) → up ≢ Some i → Forbids way range slot
        → Clear (ForbidsAt slots way range) (parent_at slots) up (chain_from (before_at order slots) (end - counter) at) → ⊥
    refused up away forbids clear =
        let P : List ℕ → Type 0 = Clear (ForbidsAt slots way range) (parent_at slots) up in
        ((subst P next_step clear).1 away).0 (stands forbids)

    -- the next of those through which the range is used
    pub climbed : (up : Option ℕ) → up ≡ Some i
        → Clear (ForbidsAt slots way range) (parent_at slots) up (chain_from (before_at order slots) (end - counter) at) ↔ Clear (ForbidsAt slots way range)
        (parent_at slots) (slot_of_id slot.parent) (chain_from (before_at order slots) (end - (counter + 1)) slot.links.before)
    climbed up here =
        let P : List ℕ → Type 0 = Clear (ForbidsAt slots way range) (parent_at slots) up in
        let rest = chain_from (before_at order slots) (end - (counter + 1)) slot.links.before in
        let Q : Option ℕ → Type 0 = λ next. Clear (ForbidsAt slots way range) (parent_at slots) next rest in
        let parent : parent_at slots i ≡ slot_of_id slot.parent = ap (look (λ s. slot_of_id s.parent)) found in (
          λ clear. subst Q parent ((subst P next_step clear).0 here),
          λ clear. subst P (sym next_step) (λ again. subst Q (sym parent) clear, λ away. absurd (away here)),
        )

    -- any other that allows the use
    pub passed : (up : Option ℕ) → up ≢ Some i → (Forbids way range slot → ⊥)
        → Clear (ForbidsAt slots way range) (parent_at slots) up (chain_from (before_at order slots) (end - counter) at) ↔ Clear (ForbidsAt slots way range)
        (parent_at slots) up (chain_from (before_at order slots) (end - (counter + 1)) slot.links.before)
    passed up away allows =
        let P : List ℕ → Type 0 = Clear (ForbidsAt slots way range) (parent_at slots) up in (
          λ clear. ((subst P next_step clear).1 away).1,
          λ clear. subst P (sym next_step) (λ here. absurd (away here), λ again. (stands_not allows, clear)),
        )
