-- Blocks of memory, as a contract sees them.
use Rattle.std.specs.Prelude.{◌≡◌, ◌<◌, ◌≤◌, ◌⊎◌, ◌+◌, ◌-◌, ◌++◌, ℕ, ℤ, List, [], ◌∷◌, length, replicate, get_or, slice_set, Option, None, Some, IsSomeAnd}
use Rattle.std.specs.Option.{option_map}

-- what a cell holds: a number, or nothing where it is unset
abbrev pub Cell : Type 0
Cell = Option ℤ

-- A block by its name, the number of blocks that were taken before it: its cells, or nothing once it is freed.
abbrev pub Block : Type 0
Block = Option (List Cell)

abbrev pub unset_cells : ℕ → List Cell
unset_cells words = replicate words None

-- the cells of the block of that name, where it is live
abbrev pub cells_of : List Block → ℕ → Block
cells_of blocks name = get_or blocks name None

abbrev pub cell_in : Block → ℕ → Cell
cell_in None at = None
cell_in (Some cells) at = get_or cells at None

-- a cell of a live block
abbrev pub cell : List Block → (name at : ℕ) → Cell
cell blocks name at = cell_in (cells_of blocks name) at

-- the block is live, and this holds of the number of its cells
abbrev pub IsLiveAnd : List Block → ℕ → (ℕ → Type 0) → Type 0
IsLiveAnd blocks name P = IsSomeAnd (cells_of blocks name) (λ cells. P (length cells))

abbrev pub IsLive : List Block → ℕ → Type 0
IsLive blocks name = IsLiveAnd blocks name (λ words. Unit {0})

-- the block is live, and has so many cells from that one on
abbrev pub HasCells : List Block → (name from words : ℕ) → Type 0
HasCells blocks name from words = IsLiveAnd blocks name (λ all. from + words ≤ all)

-- the cells of a live block are changed, all else equal
abbrev pub with_cells : List Block → ℕ → (List Cell → List Cell) → List Block
with_cells blocks name f = slice_set blocks name (option_map f (cells_of blocks name))

-- A block is freed, and its cells are at the front of a new one of so many words.
abbrev pub IsGrown : (old new : List Block) → (name words : ℕ) → Type 0
IsGrown old new name words =
    IsSomeAnd (cells_of old name) (λ cells. new ≡ slice_set old name None ++ Some (cells ++ unset_cells (words - length cells)) ∷ [])

-- a place is none of so many from that one on
abbrev pub IsOutside : (from words at : ℕ) → Type 0
IsOutside from words at = (at < from) ⊎ (from + words ≤ at)

-- So many cells are moved as they are, and are unset where they were; all else is equal.
pub record Moves (old new : ℕ → Block) (to to_at from from_at words : ℕ) : Type 0 where
  pub sizes : (name : ℕ) → option_map length (new name) ≡ option_map length (old name)
  pub moved : (k : ℕ) → k < words → cell_in (new to) (to_at + k) ≡ cell_in (old from) (from_at + k)
  pub left : (k : ℕ) → k < words → cell_in (new from) (from_at + k) ≡ None
  pub others : (name at : ℕ) → (name ≡ to → IsOutside to_at words at) → (name ≡ from → IsOutside from_at words at) →
      cell_in (new name) at ≡ cell_in (old name) at

pub record IsMoved (old new : List Block) (to to_at from from_at words : ℕ) : Type 0 where
  pub taken : length new ≡ length old
  pub moves : Moves (cells_of old) (cells_of new) to to_at from from_at words

-- two ranges of so many cells have none in common
abbrev pub AreApart : (to to_at from from_at words : ℕ) → Type 0
AreApart to to_at from from_at words = to ≡ from → (to_at + words ≤ from_at) ⊎ (from_at + words ≤ to_at)
