-- How the blocks of the program represent those of the machine.
use Rattle.std.specs.Prelude.{◌≡◌, ◌<◌, ◌≤◌, ◌^◌, ◌==◌, ℕ, Bool, true, false, List, length, Some, None}
use Rattle.hy_object.specs.States as machine
use Rattle.hy_object.specs.States.{nth}
use Rattle.hy_store.specs.Cells.{Cell, Unset, Word, Name}
use Rattle.hy_store.specs.Memory.{Live}

abbrev pub abstract_cell : Cell → machine.Cell
abstract_cell Unset = machine.Unset
abstract_cell (Word n) = machine.Word n
abstract_cell (Name b) = machine.Name b

-- a name that a cell holds is that of an array's block, which was taken
abbrev pub IsGood : (is_array : ℕ → Bool) → (taken : ℕ) → Cell → Type 0
IsGood is_array taken Unset = Unit {0}
IsGood is_array taken (Word n) = Unit {0}
IsGood is_array taken (Name b) = (b < taken) × (is_array b ≡ true)

-- what the machine has at the first places is what these cells hold
abbrev pub Tells : (is_array : ℕ → Bool) → (taken : ℕ) → List Cell → machine.Cells → Type 0
Tells is_array taken cells f = (i : ℕ) (c : Cell) → nth cells i ≡ Some c → (f i ≡ abstract_cell c) × IsGood is_array taken c

-- a live block
pub record IsBlock (is_array : ℕ → Bool) (taken words freed name : ℕ) (f : machine.Cells) (cells : List Cell) : Type 0 where
  pub live : freed ≡ 0
  pub size : words ≡ length cells
  pub small : length cells < 2 ^ 32
  pub named : name < taken
  pub tells : Tells is_array taken cells f

-- So many blocks were taken, and those that are not freed are live.
pub record AreHeld (blocks : Live) (is_array : ℕ → Bool) (taken : ℕ) (cells : ℕ → machine.Cells) (words freed : ℕ → ℕ) : Type 0 where
  pub known : (b : ℕ) (found : List Cell) → blocks b ≡ Some found → IsBlock is_array taken (words b) (freed b) b (cells b) found
  pub gone : (b : ℕ) → b < taken → blocks b ≡ None → (freed b == 0) ≡ false
  pub fresh : (b : ℕ) → taken ≤ b → freed b ≡ 0
