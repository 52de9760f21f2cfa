-- The clauses of the top call on every command: the outside, the message and the lines of the report.
use Rattle.std.specs.Prelude.{◌≡◌, ◌⊎◌, ◌↔◌, ◌≤◌, ◌+◌, ◌==◌, ◌&&◌, ◌||◌, if◌then◌else◌, ℕ, suc, Bool, false, List, [], Option, Some, None}
use Rattle.hy_base.specs.declared.run.Counts.{Counts}
use Rattle.hy_base.specs.Counted.{no_counts}
use Rattle.hy_words.specs.Asked.{Asked, ToRun, ToExec, file_of}
use Rattle.hy_words.specs.Commands.{command_of}
use Rattle.hy_driver.specs.Call.{Call, Streams}
use Rattle.hy_driver.specs.Texts.{report_lines}

-- a count has risen
abbrev pub RisesByOne : ℕ → ℕ → Type 0
RisesByOne before after = after ≡ suc before

-- a count rises by one at the most
abbrev pub RisesAtMostByOne : ℕ → ℕ → Type 0
RisesAtMostByOne before after = (after ≡ before) ⊎ RisesByOne before after

abbrev pub FilesRose : Call → Type 0
FilesRose c = RisesByOne c.files_before.faults c.files_after.faults

abbrev pub InputRose : Call → Type 0
InputRose c = RisesByOne c.before.input_faults c.after.input_faults

abbrev pub OutRose : Call → Type 0
OutRose c = RisesByOne c.before.out_faults c.after.out_faults

-- WHAT IS LEFT ALONE

-- input and output are as they were
pub record IsIdle (before after : Streams) : Type 0 where
  pub input_faults : after.input_faults ≡ before.input_faults
  pub out_faults : after.out_faults ≡ before.out_faults
  pub input : after.input ≡ before.input
  pub out : after.out ≡ before.out

-- nothing was run: nothing was written, no input was taken, and nothing is counted
pub record RanNothing (c : Call) : Type 0 where
  pub idle : IsIdle c.before c.after
  pub counts : c.counts ≡ no_counts

-- nothing was made or run
pub record MadeNothing (c : Call) : Type 0 where
  pub nothing : RanNothing c
  pub object : c.object ≡ []

-- The files failed, or memory ran out.
abbrev pub IsPrevented : Call → Type 0
IsPrevented c = FilesRose c ⊎ (c.status ≡ 8)

-- where the words are no command, no object but the one for messages is called
pub record IsLeftAlone (c : Call) : Type 0 where
  pub files : c.files_after.faults ≡ c.files_before.faults
  pub nothing : MadeNothing c

abbrev pub LeavesAllAlone : Call → Type 0
LeavesAllAlone c = command_of c.words ≡ None → IsLeftAlone c

-- no command stores a file
abbrev pub KeepsFiles : Call → Type 0
KeepsFiles c = (name : List ℕ) → c.files_after.holds name ≡ c.files_before.holds name

-- where the files failed
abbrev pub StopsAtTheFiles : Call → Type 0
StopsAtTheFiles c = FilesRose c → MadeNothing c

-- FAULTS

-- Each of the three counts rises by one at the most, and one of them at the most rises.
pub record HasOneFault (c : Call) : Type 0 where
  pub files : RisesAtMostByOne c.files_before.faults c.files_after.faults
  pub input : RisesAtMostByOne c.before.input_faults c.after.input_faults
  pub out : RisesAtMostByOne c.before.out_faults c.after.out_faults
  pub one : c.files_after.faults + c.after.input_faults + c.after.out_faults ≤ suc (c.files_before.faults + c.before.input_faults + c.before.out_faults)

-- THE REPORT

-- a report is asked for
abbrev pub asks_report : Option Asked → Bool
asks_report None = false
asks_report (Some (ToRun file)) = false
asks_report (Some (ToExec file options)) = options.report

-- the statuses that a report goes with
abbrev pub is_reported : ℕ → Bool
is_reported status = status == 0 || (status == 3 || (status == 4 || status == 9))

-- the lines of the report, where it is asked for and the status has one
abbrev pub lines_due : Option Asked → ℕ → Counts → List ℕ
lines_due asked status counts = if is_reported status && asks_report asked then report_lines counts else []

abbrev pub ReportsItsCounts : Call → Type 0
ReportsItsCounts c = c.lines ≡ lines_due (command_of c.words) c.status c.counts

-- CAUSES

abbrev pub Answers2 : Call → Type 0
Answers2 c = (c.status ≡ 2) ↔ (command_of c.words ≡ None)

-- the files told that a load of the file that is asked for may fail
abbrev pub LoadMayFail : Call → Type 0
LoadMayFail c = (asked : Asked) × (command_of c.words ≡ Some asked) × c.files_before.load_may_fail (file_of asked)

pub record Answers5 (c : Call) : Type 0 where
  pub exactly : (c.status ≡ 5) ↔ FilesRose c
  pub cause : c.status ≡ 5 → LoadMayFail c

abbrev pub Answers6 : Call → Type 0
Answers6 c = (c.status ≡ 6) ↔ InputRose c

abbrev pub Answers7 : Call → Type 0
Answers7 c = (c.status ≡ 7) ↔ OutRose c
