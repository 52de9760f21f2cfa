-- What a walk over the accesses, the newest first, asks of each.
use Rattle.std.specs.Prelude.{◌≡◌, ◌≢◌, ◌⊎◌, ℕ, List, [], ◌∷◌, Option, Some, None, IsSomeAnd}
use Rattle.slab.specs.Slab.{Slab, get}
use Rattle.hy_access.specs.declared.access.Range.{Range}
use Rattle.hy_access.specs.declared.access.Way.{Way}
use Rattle.hy_access.specs.declared.access.Way.TheVariants.{Read, Write}
use Rattle.hy_access.specs.declared.slots.Slot.{Slot}
use Rattle.hy_access.specs.Accesses.{Meets}

abbrev pub MeetsSlot : Range → Slot → Type 0
MeetsSlot range slot = Meets range slot.own ⊎ IsSomeAnd slot.header (Meets range)

-- an access beside which the range may not be read, or not be written, but through it
abbrev pub Forbids : Way → Range → Slot → Type 0
Forbids Read range slot = (slot.way ≡ Write) × MeetsSlot range slot
Forbids Write range slot = MeetsSlot range slot

abbrev pub ForbidsIf : Way → Range → Option Slot → Type 0
ForbidsIf way range None = ⊥
ForbidsIf way range (Some slot) = Forbids way range slot

abbrev pub ForbidsAt : Slab Slot → Way → Range → ℕ → Type 0
ForbidsAt slots way range i = ForbidsIf way range (get slots i)

-- none of these forbids, but the one through which the range is used, and its ancestors: the next of them that is to
-- come is `up`
abbrev pub Clear : (ℕ → Type 0) → (ℕ → Option ℕ) → Option ℕ → List ℕ → Type 0
Clear Stands parent up [] = Unit {0}
Clear Stands parent up (i ∷ rest) =
    (up ≡ Some i → Clear Stands parent (parent i) rest) × (up ≢ Some i → (Stands i → ⊥) × Clear Stands parent up rest)
