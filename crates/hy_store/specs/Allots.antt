-- What becomes of the store where an array's block is taken or freed.
use Rattle.std.specs.Prelude.{◌≡◌, ◌-◌, ◌*◌, ◌++◌, ◌∷◌, [], ℕ, suc, max, nat_lt, cond, List, length, replicate, Option, Some, None, ℤ, pos, negsuc}
use Rattle.hy_access.specs.declared.access.Range.{Range}
use Rattle.hy_store.specs.declared.store.Store.{Store}
use Rattle.hy_store.specs.Cells.{Cell, Unset, Word, Name}
use Rattle.hy_store.specs.Memory.{IsRow, live, with_block}
use Rattle.hy_store.specs.Represents.{Stores}

-- a block with these cells was taken under the next name
pub record Takes (old new : Store) (row : List Cell) : Type 0 where
  pub blocks : (b : ℕ) → live new.blocks b ≡ with_block (live old.blocks) old.counts.blocks (Some row) b
  pub opened : new.opened ≡ old.opened
  pub frames : new.frames ≡ old.frames
  pub frame : new.frame ≡ old.frame
  pub counts : new.counts ≡ record (old.counts) { blocks = suc old.counts.blocks }

-- the block of that name was freed
pub record Frees (old new : Store) (block : ℕ) : Type 0 where
  pub blocks : (b : ℕ) → live new.blocks b ≡ with_block (live old.blocks) block None b
  pub opened : new.opened ≡ old.opened
  pub frames : new.frames ≡ old.frames
  pub frame : new.frame ≡ old.frame
  pub counts : new.counts ≡ record (old.counts) { freed = suc old.counts.freed }

-- a block with these cells was taken, and its name and that count are an array's two cells
pub record Allots (old new : Store) (header : Range) (row : List Cell) (count : ℤ) : Type 0 where
  pub mid : Store
  pub takes : Takes old mid row
  pub stores : Stores mid new header (Name old.counts.blocks ∷ Word count ∷ [])

-- the words of the block that an array moves to, where its own has no room for one more element
abbrev pub larger : ℤ → (room words : ℕ) → Option ℕ
larger (negsuc n) room words = None
larger (pos count) room words = cond (nat_lt words (suc count * room)) (Some (max (4 * room) (2 * count * room))) None

-- the cells of that range, which are all of a block, are the first of a new one, which is the array's; the old one was freed
pub record Regrows (old new : Store) (header all : Range) (larger : ℕ) (count : ℤ) : Type 0 where
  pub row : List Cell
  pub mid : Store
  pub is : IsRow (live old.blocks) all row
  pub allots : Allots old mid header (row ++ replicate (larger - length row) Unset) count
  pub frees : Frees mid new all.block
