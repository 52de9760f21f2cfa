-- Blocks by their names.
use Rattle.std.specs.Prelude.{◌≡◌, ◌≤◌, ◌+◌, ℕ, nat_eq, cond, Bool, false, List, length, Option, None, Some, IsSomeAnd}
use Rattle.std.specs.HashMap.{get}
use Rattle.std.specs.Option.{option_map}
use Rattle.hy_access.specs.declared.access.Range.{Range}
use Rattle.hy_store.specs.declared.blocks.Blocks.{Blocks}
use Rattle.hy_store.specs.Cells.{Cell, window}

-- the cells of the live blocks, by name
abbrev pub Live : Type 0
Live = ℕ → Option (List Cell)

-- whether the cells of the block of that name are at hand
abbrev pub is_at_hand : Option ℕ → ℕ → Bool
is_at_hand None name = false
is_at_hand (Some one) name = nat_eq one name

abbrev pub live : Blocks → Live
live blocks name = cond (is_at_hand blocks.at_hand name) (Some blocks.cells.items) (option_map (λ cells. cells.items) (get nat_eq blocks.live name))

-- what is live at that name is changed, all else equal
abbrev pub with_block : Live → ℕ → Option (List Cell) → Live
with_block blocks name cells other = cond (nat_eq name other) cells (blocks other)

-- the block is live, and has so many cells from that place on
abbrev pub HasCells : Option (List Cell) → (from words : ℕ) → Type 0
HasCells found from words = IsSomeAnd found (λ cells. from + words ≤ length cells)

-- the block of that name has these cells where it had those before
abbrev pub Becomes : (old new : Live) → ℕ → (List Cell → List Cell) → Type 0
Becomes old new name f = IsSomeAnd (old name) (λ cells. (other : ℕ) → new other ≡ with_block old name (Some (f cells)) other)

-- these are the cells of that range, which exists
pub record IsRow (blocks : Live) (range : Range) (row : List Cell) : Type 0 where
  pub found : List Cell
  pub is : blocks range.block ≡ Some found
  pub fits : range.from + range.len ≤ length found
  pub row_is : row ≡ window found range.from range.len
