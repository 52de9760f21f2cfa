-- How a line is taken from the input, byte by byte.
use Rattle.std.specs.Prelude.{◌≡◌, ℕ, ◌==◌, false, List, [], ◌∷◌, ◌++◌, length, Option, Result, Ok, Err}
use Rattle.std.specs.List.{AllByRecursion}
use Rattle.hy_base.specs.declared.streams.Failed.{Failed}
use Rattle.hy_base.specs.Lines.{Split, Line, Last, TooLong, split_line}
use Rattle.hy_base.specs.Outside.{StillTells}
use Rattle.hy_base.specs.Streams.{Tape}
use Rattle.hy_runs.specs.declared.line.LineEnd.{LineEnd}
use Rattle.hy_runs.specs.declared.line.LineEnd.TheVariants as line_end
use Rattle.hy_runs.specs.Runs.{AllTaken}

-- no line feed
abbrev pub IsInLine : ℕ → Type 0
IsInLine byte = (byte == 10) ≡ false

-- So many bytes of a line were taken so far.
pub record Filling (old new : Option Tape) (bytes : List ℕ) (count : ℕ) : Type 0 where
  pub size : length bytes ≡ count
  pub in_line : AllByRecursion IsInLine bytes
  pub told : StillTells old new (AllTaken bytes)

-- these bytes were taken, and are so split
pub record IsTakenAs (old new : Option Tape) (taken : List ℕ) (split : Split) : Type 0 where
  pub told : StillTells old new (AllTaken taken)
  pub is_split : split_line 4097 taken ≡ split

-- no byte is left
abbrev pub IsAtEnd : Tape → Tape → Type 0
IsAtEnd old new = new.left ≡ []

-- what was taken of the input for these bytes, by what the line ends with
abbrev pub Fills : Option Tape → Option Tape → List ℕ → Result LineEnd Failed → Type 0
Fills old new bytes (Ok line_end.Feed) = IsTakenAs old new (bytes ++ 10 ∷ []) (Line bytes [])
Fills old new bytes (Ok line_end.Input) = IsTakenAs old new bytes (Last bytes) × StillTells old new IsAtEnd
Fills old new bytes (Ok line_end.Room) = IsTakenAs old new bytes (TooLong [])
Fills old new bytes (Err failed) = IsTakenAs old new bytes (Last bytes)
