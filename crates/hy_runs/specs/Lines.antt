-- The lines that a run prints and reads.
use Rattle.std.specs.Prelude.{◌≡◌, ℕ, suc, not, Bool, true, false, List, [], ◌++◌, take, Option, Some, None, Result, Ok, Err, ℤ}
use Rattle.hy_base.specs.declared.run.RunCause.{RunCause}
use Rattle.hy_base.specs.declared.run.RunCause.TheVariants as cause
use Rattle.hy_base.specs.declared.streams.Failed.{Failed}
use Rattle.hy_base.specs.Lines.{Gives, Fails, Wants, read_line}
use Rattle.hy_base.specs.Outside.{StillTells}
use Rattle.hy_base.specs.Streams.{Tape}
use Rattle.hy_object.specs.declared.instr.Shown.{Shown}
use Rattle.hy_object.specs.Words.{line_of}
use Rattle.hy_runs.specs.Runs.{Appends, AllTaken}

-- PRINTING

-- the line went out; or some front of it, where the output failed; or nothing, where memory ran out
abbrev pub Prints : Shown → ℤ → Option (List ℕ) → Option (List ℕ) → Result (Unit {0}) RunCause → Type 0
Prints shown n old new (Ok done) = StillTells old new (Appends (line_of shown n))
Prints shown n old new (Err cause.Input) = ⊥
Prints shown n old new (Err cause.Output) = StillTells old new (λ old new. (k : ℕ) × (new ≡ old ++ take k (line_of shown n)))
Prints shown n old new (Err cause.NoMemory) = new ≡ old

-- the output's count of faults: it rises, by one, exactly where the output is the cause
abbrev pub out_faults : ℕ → RunCause → ℕ
out_faults before cause.Input = before
out_faults before cause.Output = suc before
out_faults before cause.NoMemory = before

abbrev pub out_faults_after : ℕ → Result (Unit {0}) RunCause → ℕ
out_faults_after before (Ok done) = before
out_faults_after before (Err cause) = out_faults before cause

-- READING

-- what a reader of lines knows: whether it has met the end of the input
pub record Reader : Type 0 where
  pub ended : Bool

-- What is read of these bytes, which are all that is left of the input where it has ended: a number, or none. Where the
-- input failed, a whole line wants more bytes than these.
abbrev pub Reads : (ended : Bool) → (taken : List ℕ) → Result (Option ℤ) Failed → Type 0
Reads ended taken (Ok (Some n)) = read_line (not ended) taken ≡ Gives n []
Reads ended taken (Ok None) = read_line (not ended) taken ≡ Fails []
Reads ended taken (Err failed) = (read_line true taken ≡ Wants) × (ended ≡ false)

-- A line was read, of these bytes of the input. After the end of the input there are none.
pub record IsRead (old new : Option Tape) (before after : Reader) (result : Result (Option ℤ) Failed) : Type 0 where
  pub taken : List ℕ
  pub told : StillTells old new (AllTaken taken)
  pub number : Reads after.ended taken result
  pub past_end : before.ended ≡ true → (taken ≡ []) × (after.ended ≡ true)
  pub at_end : before.ended ≡ false → after.ended ≡ true → StillTells old new (λ old new. new.left ≡ [])
