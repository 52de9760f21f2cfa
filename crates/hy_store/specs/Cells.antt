-- Rows of cells.
use Rattle.std.specs.Prelude.{ℕ, ◌+◌, Bool, true, false, ◌&&◌, List, [], ◌∷◌, ◌++◌, length, take, drop, Option, Some, None}
pub use Rattle.hy_store.specs.declared.cell.Cell.{Cell}
pub use Rattle.hy_store.specs.declared.cell.Cell.TheVariants.{Unset, Word, Name}

abbrev pub is_set : Cell → Bool
is_set Unset = false
is_set (Word n) = true
is_set (Name b) = true

abbrev pub is_plain : Cell → Bool
is_plain Unset = true
is_plain (Word n) = true
is_plain (Name b) = false

abbrev pub cell_in : Option Cell → Cell
cell_in None = Unset
cell_in (Some c) = c

-- whether it holds of each cell
abbrev pub every : (Cell → Bool) → List Cell → Bool
every test [] = true
every test (c ∷ cells) = test c && every test cells

abbrev pub all_set : List Cell → Bool
all_set cells = every is_set cells

abbrev pub no_name : List Cell → Bool
no_name cells = every is_plain cells

-- so many cells from that place on
abbrev pub window : List Cell → ℕ → ℕ → List Cell
window cells from words = take words (drop from cells)

-- these cells from that place on, all else equal
abbrev pub with_window : List Cell → ℕ → List Cell → List Cell
with_window cells at new = take at cells ++ (new ++ drop (at + length new) cells)
