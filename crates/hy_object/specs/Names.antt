-- How often a block's name stands in memory, and what a store changes in that.
use Rattle.std.specs.Prelude.{◌≡◌, ◌<◌, ◌≤◌, ℕ, zero, suc, ◌+◌, ◌==◌, cond, true, false}
use Rattle.hy_object.specs.Checks.{is_nameless, meets}
use Rattle.hy_object.specs.States.{Cell, Unset, Word, Name, Cells, Range, State, with_at, with_cells, window, moved, moved_to_new}

abbrev pub times_at : Cell → (name : ℕ) → ℕ
times_at Unset name = 0
times_at (Word n) name = 0
times_at (Name b) name = cond (b == name) 1 0

-- in the first so many cells
abbrev pub times_in : ℕ → Cells → (name : ℕ) → ℕ
times_in zero cells name = 0
times_in (suc n) cells name = times_in n cells name + times_at (cells n) name

-- in all blocks below n
abbrev pub times : (n : ℕ) → (words : ℕ → ℕ) → (cells : ℕ → Cells) → (name : ℕ) → ℕ
times zero words cells name = 0
times (suc n) words cells name = times n words cells name + times_in (words n) (cells n) name

-- a range lies in a block that was taken
pub record InBlock (blocks : ℕ) (words : ℕ → ℕ) (range : Range) : Type 0 where
  pub block : range.block < blocks
  pub cells : range.from + range.words ≤ words range.block

pub record NamesAreCounted : Type 0 where
  -- Where a range is stored over, the names that stood there are gone, and those that are stored have come.
  pub stored : (n : ℕ) (words : ℕ → ℕ) (cells : ℕ → Cells) (range : Range) (new : Cells) (name : ℕ) → InBlock n words range
      → times n words (with_cells cells range new) name + times_in range.words (window cells range) name ≡ times n words cells name + times_in range.words
      new name
  -- Where cells move to another range, the names that stood there are gone.
  pub moved_over : (n : ℕ) (words : ℕ → ℕ) (cells : ℕ → Cells) (from to : Range) (name : ℕ) → InBlock n words from → InBlock n words to
      → to.words ≡ from.words → meets to from ≡ false
      → times n words (moved cells from to) name + times_in to.words (window cells to) name ≡ times n words cells name
  -- A new block brings the names that it begins with.
  pub taken : (n : ℕ) (words : ℕ → ℕ) (cells : ℕ → Cells) (size : ℕ) (first : Cells) (name : ℕ)
      → times (suc n) (with_at words n size) (with_at cells n first) name ≡ times n words cells name + times_in size first name
  -- Where cells move to a new block that has room for them, nothing is gone and nothing has come.
  pub moved_away : (n : ℕ) (words : ℕ → ℕ) (cells : ℕ → Cells) (range : Range) (size : ℕ) (name : ℕ) → InBlock n words range → range.words ≤ size
      → times (suc n) (with_at words n size) (moved_to_new cells range n) name ≡ times n words cells name
  -- A range without names has none of them.
  pub nameless : (s : State) (range : Range) (name : ℕ) → is_nameless s range ≡ true → times_in range.words (window s.cells range) name ≡ 0
