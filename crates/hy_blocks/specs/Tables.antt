-- Live blocks by their names.
use Rattle.std.specs.Prelude.{◌≡◌, ◌≢◌, ℕ, nat_eq, cond, List, map, Option, Some, None}
use Rattle.std.specs.List.{range_with_len}
use Rattle.std.specs.HashMap as table
use Rattle.slab.specs.Slab.{Slab}
use Rattle.slab.specs.Slab as slab
use Rattle.hy_blocks.specs.Blocks.{Block}
use Rattle.hy_blocks.specs.declared.table.Kept.{Kept}
use Rattle.hy_blocks.specs.declared.table.Table.{Table}

-- the block that is kept, if it has that name
abbrev pub named : ℕ → Option Kept → Block
named name None = None
named name (Some kept) = cond (nat_eq kept.name name) (Some kept.raw) None

abbrev pub in_slot : Slab Kept → ℕ → Option ℕ → Block
in_slot slots name None = None
in_slot slots name (Some place) = named name (slab.get slots place)

-- the cells of the live block of that name
abbrev pub look : Table → ℕ → Block
look t name = in_slot t.slots name (table.get nat_eq t.places name)

-- this is found at that name, all else as before
pub record Becomes (old new : ℕ → Block) (name : ℕ) (block : Block) : Type 0 where
  pub here : new name ≡ block
  pub others : (other : ℕ) → other ≢ name → new other ≡ old other

abbrev pub Same : (old new : ℕ → Block) → Type 0
Same old new = (name : ℕ) → new name ≡ old name

-- the blocks of the names below that number
abbrev pub all : (ℕ → Block) → ℕ → List Block
all block n = map block (range_with_len 0 n)
