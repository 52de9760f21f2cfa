-- How the parts of a block belong together.
use Rattle.std.specs.Prelude.{◌≡◌, ◌<◌, ◌^◌, ℕ, ℤ, Bool, List, length, map, is_some}
use Rattle.hy_blocks.specs.declared.memory.Base.{Base}
use Rattle.hy_blocks.specs.declared.memory.Cells.{Cells}
use Rattle.hy_blocks.specs.declared.memory.Deed.{Deed}

-- They are those of one row: it begins at the base and has so many places, of which the truth values say which hold a value,
-- and the deed is the right to give it back.
pub record IsBlock {A : Type 0} (base : Base ℤ) (words : ℕ) (cells : Cells ℤ) (deed : Deed ℤ A) (set : List Bool) (alloc : A) : Type 0 where
  pub begins : cells.at ≡ base.ptr
  pub places : length cells.slots ≡ words
  pub small : words < 2 ^ 32
  pub deed_begins : deed.at ≡ base.ptr
  pub deed_places : deed.len ≡ words
  pub deed_alloc : deed.alloc ≡ alloc
  pub set_is : set ≡ map is_some cells.slots
