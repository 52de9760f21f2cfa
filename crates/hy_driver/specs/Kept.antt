-- How far the run of an object went: the clauses of the top call on calls in which something failed.
use Rattle.std.specs.Prelude.{◌≡◌, ◌≢◌, ◌⊎◌, ℕ, true, List, []}
use Rattle.hy_base.specs.declared.run.End.TheVariants as end
use Rattle.hy_base.specs.declared.run.RunCause.{RunCause}
use Rattle.hy_base.specs.declared.run.RunCause.TheVariants as cause
use Rattle.hy_base.specs.Outside.{StillTells}
use Rattle.hy_tree.specs.Tree.{Program}
use Rattle.hy_front.specs.Phases.{IsTree}
use Rattle.hy_meaning.specs.Meaning.{mean}
use Rattle.hy_object.specs.declared.object.Object.{Object}
use Rattle.hy_object.specs.Bytes.{bytes_of}
use Rattle.hy_object.specs.States.{Stop, Ended, Stuck}
use Rattle.hy_runs.specs.Runs.{Told, Faults, told, faults, Appends, AllTaken, RanToItsEnd, WasCutOff, CountsNone, CountsCause}
use Rattle.hy_driver.specs.Call.{Call, Streams, IsSource}
use Rattle.hy_driver.specs.Compiled.{IsCompiled}
use Rattle.hy_driver.specs.Headline.{turns, status_of, end_message}
use Rattle.hy_driver.specs.Outside.{RanNothing, IsPrevented, InputRose}

abbrev pub told_of : Streams → Told
told_of s = told s.input s.out

abbrev pub faults_of : Streams → Faults
faults_of s = faults s.input_faults s.out_faults

abbrev pub status_of_stop : Stop → ℕ
status_of_stop (Ended e) = status_of e
status_of_stop (Stuck why at) = 9

abbrev pub cause_status : RunCause → ℕ
cause_status cause.Input = 6
cause_status cause.Output = 7
cause_status cause.NoMemory = 8

-- The run came to its end, and that is answered, unless there was no memory for its message. `says` gives the message of an
-- end.
pub record CameToItsEnd (c : Call) (object : Object) (n : ℕ) (says : Stop → List ℕ) : Type 0 where
  pub faults : CountsNone (faults_of c.before) (faults_of c.after)
  pub stop : Stop
  pub ran : RanToItsEnd object n (told_of c.before) (told_of c.after) stop c.counts
  pub no_asks : stop ≢ Ended end.Asks
  pub answer : ((c.status ≡ status_of_stop stop) × (c.message ≡ says stop)) ⊎ (c.status ≡ 8)

-- This cut the run off, in a state of it: output, bytes taken and counts are those of that state.
pub record WasCutOffBy (c : Call) (object : Object) (n : ℕ) (cause : RunCause) : Type 0 where
  pub faults : CountsCause cause (faults_of c.before) (faults_of c.after)
  pub cut : WasCutOff object n (told_of c.before) (told_of c.after) (record { cause = cause; counts = c.counts })
  pub status : c.status ≡ cause_status cause

-- Whatever came, what was taken and written, and what was counted, is that of the run as far as it went.
abbrev pub Ran : Call → Object → ℕ → (Stop → List ℕ) → Type 0
Ran c object n says = CameToItsEnd c object n says ⊎ ((cause : RunCause) × WasCutOffBy c object n cause)

-- The run was prevented: nothing was run.
pub record IsNotRun (c : Call) : Type 0 where
  pub prevented : IsPrevented c
  pub nothing : RanNothing c

-- RUN

-- the message of an end of the run of a source, which is never stuck
abbrev pub source_message : (file bytes : List ℕ) → Stop → List ℕ
source_message file bytes (Ended e) = end_message file bytes e
source_message file bytes (Stuck why at) = []

-- an object that does what the source means was made, is returned, and ran
pub record RanItsObject (c : Call) (file bytes : List ℕ) (tree : Program) : Type 0 where
  pub object : Object
  pub compiled : IsCompiled tree object
  pub bytes_are : c.object ≡ bytes_of object
  pub ran : Ran c object turns (source_message file bytes)

abbrev pub KeepsToItsObject : Call → Type 0
KeepsToItsObject c = (file bytes : List ℕ) (tree : Program) → IsSource c file bytes → IsTree bytes tree → IsNotRun c ⊎ RanItsObject c file bytes tree

-- The input failed. These bytes of it were taken, and the meaning on just these, of an input that goes on, asks for more; it
-- wrote what was written.
pub record AsksInVainFor (c : Call) (tree : Program) : Type 0 where
  pub bytes : List ℕ
  pub taken : StillTells c.before.input c.after.input (AllTaken bytes)
  pub asks : (mean tree bytes true turns).end ≡ end.Asks
  pub output : StillTells c.before.out c.after.out (Appends (mean tree bytes true turns).output)
  pub turns_are : c.counts.turns ≡ (mean tree bytes true turns).turns
  pub opened_are : c.counts.opened ≡ (mean tree bytes true turns).opened

abbrev pub KeepsToTheMeaning : Call → Type 0
KeepsToTheMeaning c = (file bytes : List ℕ) (tree : Program) → IsSource c file bytes → IsTree bytes tree → InputRose c → AsksInVainFor c tree
