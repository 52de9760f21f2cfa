-- The clauses of the top call on `exec`.
use Rattle.std.specs.Prelude.{◌≡◌, ◌⊎◌, ◌↔◌, ◌<◌, ◌≤◌, ◌+◌, if◌then◌else◌, ℕ, Bool, false, List, [], length, take, Some}
use Rattle.hy_base.specs.declared.position.Span.{Span}
use Rattle.hy_base.specs.declared.run.Counts.{Counts}
use Rattle.hy_base.specs.declared.run.TrapKind.{TrapKind}
use Rattle.hy_base.specs.declared.run.End.TheVariants as end
use Rattle.hy_base.specs.Files.{Holding}
use Rattle.hy_base.specs.Outside.{StillTells}
use Rattle.hy_object.specs.declared.object.Object.{Object}
use Rattle.hy_object.specs.declared.stuck.Kind.{Kind}
use Rattle.hy_object.specs.declared.stuck.Pc.{Pc}
use Rattle.hy_object.specs.Places.{Spells, IsBadAt}
use Rattle.hy_object.specs.Runs.{Run, Runs}
use Rattle.hy_object.specs.States.{Stop, Ended, Stuck}
use Rattle.hy_runs.specs.Runs.{Appends, IsTaken}
use Rattle.hy_words.specs.declared.words.Options.{Options}
use Rattle.hy_words.specs.Asked.{ToExec}
use Rattle.hy_words.specs.Commands.{command_of}
use Rattle.hy_driver.specs.Call.{Call, IsInput, IsQuiet}
use Rattle.hy_driver.specs.Headline.{IsReturned}
use Rattle.hy_driver.specs.Kept.{status_of_stop, IsNotRun, Ran}
use Rattle.hy_driver.specs.Outside.{MadeNothing, IsPrevented}
use Rattle.hy_driver.specs.Texts.{object_trap_message, stuck_message, spent_message, bad_object_message, report_lines}

-- the most bytes that an object file has
abbrev pub longest_object : ℕ
longest_object = 268435456

-- The command executes this file, with these options, and these bytes are loaded: the files tell what it holds.
pub record IsObjectFile (c : Call) (file : List ℕ) (options : Options) (bytes : List ℕ) : Type 0 where
  pub command : command_of c.words ≡ Some (ToExec file options)
  pub whole : List ℕ
  pub told : c.files_before.holds file ≡ Holding whole
  pub loaded : bytes ≡ take (longest_object + 1) whole

-- WHAT THE FILE IS

-- the bytes are not too many, and spell this object
abbrev pub IsFileOf : List ℕ → Object → Type 0
IsFileOf bytes object = (length bytes ≤ longest_object) × Spells bytes object

-- The bytes are too many, which is seen at the first that is, or they are bad at that place.
abbrev pub IsBadFile : List ℕ → ℕ → Type 0
IsBadFile bytes place = ((longest_object < length bytes) × (place ≡ longest_object)) ⊎ ((length bytes ≤ longest_object) × IsBadAt bytes place)

abbrev pub stop_message : (file : List ℕ) → (turns : ℕ) → Stop → List ℕ
stop_message file turns (Ended end.Done) = []
stop_message file turns (Ended (end.Trap kind span)) = object_trap_message file kind span
stop_message file turns (Ended end.Spent) = spent_message turns
stop_message file turns (Ended end.Asks) = spent_message turns
stop_message file turns (Stuck why at) = stuck_message file why at

-- the lines of the report of a run, where it is asked for
abbrev pub lines_of : Bool → Counts → List ℕ
lines_of report counts = if report then report_lines counts else []

-- the object runs as its code runs by the definition, on what the input has left and with so many turns
pub record IsRunOfFile (c : Call) (file : List ℕ) (options : Options) (bytes left : List ℕ) (object : Object) : Type 0 where
  pub run : Run
  pub runs : Runs object left false options.turns run
  pub bytes_are : c.object ≡ bytes
  pub counts : c.counts ≡ run.counts
  pub status : c.status ≡ status_of_stop run.stop
  pub message : c.message ≡ stop_message file options.turns run.stop
  pub output : StillTells c.before.out c.after.out (Appends run.output)
  pub taken : StillTells c.before.input c.after.input (IsTaken left run.taken)

abbrev pub ExecutesTheObject : Call → Type 0
ExecutesTheObject c = (file : List ℕ) (options : Options) (bytes left : List ℕ) (object : Object) → IsObjectFile c file options bytes → IsInput c left
    → IsQuiet c → IsFileOf bytes object
    → IsRunOfFile c file options bytes left object

-- The file is refused where it is bad, unless the files failed or memory ran out. Whatever came, nothing is made, and nothing
-- is run.
pub record IsRefusedFile (c : Call) (file : List ℕ) (place : ℕ) : Type 0 where
  pub answer : ((c.status ≡ 10) × (c.message ≡ bad_object_message file place)) ⊎ IsPrevented c
  pub nothing : MadeNothing c

abbrev pub RefusesTheFile : Call → Type 0
RefusesTheFile c = (file : List ℕ) (options : Options) (bytes : List ℕ) (place : ℕ) → IsObjectFile c file options bytes → IsBadFile bytes place
    → IsRefusedFile c file place

-- AFTER A FAULT

abbrev pub KeepsToTheFile : Call → Type 0
KeepsToTheFile c = (file : List ℕ) (options : Options) (bytes : List ℕ) (object : Object) → IsObjectFile c file options bytes → IsFileOf bytes object
    → IsNotRun c ⊎ Ran c object options.turns (stop_message file options.turns)

-- the bytes of the file are returned once they are decoded
abbrev pub ReturnsTheBytes : Call → Type 0
ReturnsTheBytes c = (file : List ℕ) (options : Options) (bytes : List ℕ) (object : Object) → IsObjectFile c file options bytes → IsFileOf bytes object
    → IsReturned c (λ returned. returned ≡ bytes)

-- CAUSES

-- the bytes are those of an object whose run stops in such a way
abbrev pub Stops : (bytes left : List ℕ) → (n : ℕ) → (Stop → Type 0) → Type 0
Stops bytes left n Is = (object : Object) × IsFileOf bytes object × ((run : Run) × Runs object left false n run × Is run.stop)

abbrev pub AnswersStop : ℕ → (Stop → Type 0) → Call → Type 0
AnswersStop status Is c = (file : List ℕ) (options : Options) (bytes left : List ℕ) → IsObjectFile c file options bytes → IsInput c left → IsQuiet c
    → ((c.status ≡ status) ↔ Stops bytes left options.turns Is)

abbrev pub IsTrapped : Stop → Type 0
IsTrapped stop = (kind : TrapKind) × (span : Span) × (stop ≡ Ended (end.Trap kind span))

abbrev pub IsStuck : Stop → Type 0
IsStuck stop = (why : Kind) × (at : Pc) × (stop ≡ Stuck why at)

-- the statuses of a run that came to its end
pub record AnswersItsEnd (c : Call) : Type 0 where
  pub done : AnswersStop 0 (λ stop. stop ≡ Ended end.Done) c
  pub trapped : AnswersStop 3 IsTrapped c
  pub spent : AnswersStop 4 (λ stop. stop ≡ Ended end.Spent) c

-- the command executes a file
abbrev pub IsExecution : Call → Type 0
IsExecution c = (file : List ℕ) × (options : Options) × (command_of c.words ≡ Some (ToExec file options))

pub record Answers9 (c : Call) : Type 0 where
  pub only : c.status ≡ 9 → IsExecution c
  pub stuck : AnswersStop 9 IsStuck c

pub record Answers10 (c : Call) : Type 0 where
  pub only : c.status ≡ 10 → IsExecution c
  pub bad : (file : List ℕ) (options : Options) (bytes : List ℕ) → IsObjectFile c file options bytes → IsQuiet c
      → ((c.status ≡ 10) ↔ ((place : ℕ) × IsBadFile bytes place))
