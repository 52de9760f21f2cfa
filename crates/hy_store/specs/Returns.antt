-- How an activation ends.
use Rattle.std.specs.Prelude.{◌≡◌, ◌+◌, ℕ, nat_le, Bool, false, List, [], length, Option, Some, None}
use Rattle.hy_access.specs.declared.access.Range.{Range}
use Rattle.hy_object.specs.declared.instr.Way.TheVariants as way
use Rattle.hy_object.specs.Checks.{Reach}
use Rattle.hy_store.specs.declared.store.Store.{Store}
use Rattle.hy_store.specs.Cells.{Cell}
use Rattle.hy_store.specs.Frames.{kept, with_frame}
use Rattle.hy_store.specs.Memory.{live, with_block}
use Rattle.hy_store.specs.Opened.{abstract_range}
use Rattle.hy_store.specs.Switches.{with_one_freed}

-- whether a block has so many cells from that place on
abbrev pub has_cells : Option (List Cell) → (from words : ℕ) → Bool
has_cells None from words = false
has_cells (Some cells) from words = nat_le (from + words) (length cells)

-- words of a frame, which are reached without an access
abbrev pub in_frame : Range → Reach
in_frame range = record { range = abstract_range range; way = way.Write; chain = [] }

-- The frame of the running activation is freed, which is counted, and what was kept of it is forgotten.
pub record FreesFrame (old new : Store) : Type 0 where
  pub blocks : (b : ℕ) → live new.blocks b ≡ with_block (live old.blocks) old.frame None b
  pub frames : (b : ℕ) → kept new.frames b ≡ with_frame (kept old.frames) old.frame None b
  pub opened : new.opened ≡ old.opened
  pub frame : new.frame ≡ old.frame
  pub counts : new.counts ≡ with_one_freed old.counts
