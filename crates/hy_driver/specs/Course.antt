-- The ways that a call may go, up to its message.
use Rattle.std.specs.Prelude.{◌⊎◌, ◌≡◌, ◌≢◌, ℕ, suc, List, [], Some, None}
use Rattle.hy_base.specs.declared.files.FileFault.{FileFault}
use Rattle.hy_base.specs.declared.files.FileFault.TheVariants as fault
use Rattle.hy_base.specs.declared.run.Counts.{Counts}
use Rattle.hy_base.specs.declared.run.Ending.{Ending}
use Rattle.hy_base.specs.declared.run.End.TheVariants.{Asks}
use Rattle.hy_base.specs.declared.run.RunCause.{RunCause}
use Rattle.hy_base.specs.declared.run.RunCause.TheVariants as cause
use Rattle.hy_base.specs.declared.run.RunFault.{RunFault}
use Rattle.hy_base.specs.Files.{Loads}
use Rattle.hy_base.specs.First.{Refusal, IsFirst}
use Rattle.hy_tree.specs.Tree.{Program}
use Rattle.hy_front.specs.Phases.{longest, IsTree, Breaks}
use Rattle.hy_object.specs.declared.object.Object.{Object}
use Rattle.hy_object.specs.Bytes.{bytes_of}
use Rattle.hy_object.specs.States.{Stop, Ended}
use Rattle.hy_base.specs.Counted.{no_counts}
use Rattle.hy_machine.specs.Built.{IsBuilt}
use Rattle.hy_runs.specs.Runs.{RanToItsEnd, WasCutOff, CountsNone, CountsCause}
use Rattle.hy_driver.specs.Call.{Answer, Filed, Streams}
use Rattle.hy_driver.specs.Compiled.{IsCompiled}
use Rattle.hy_driver.specs.Headline.{turns, status_of, end_message}
use Rattle.hy_driver.specs.Executed.{longest_object, IsFileOf, IsBadFile, stop_message, lines_of}
use Rattle.hy_driver.specs.Kept.{status_of_stop, cause_status, told_of, faults_of}
use Rattle.hy_driver.specs.Outside.{IsIdle}
use Rattle.hy_driver.specs.Texts.{refusal_message, bad_object_message, usage, file_fault, input_fault, output_fault, out_of_memory}
use Rattle.hy_words.specs.declared.words.Options.{Options}
use Rattle.hy_words.specs.Asked.{Asked, ToRun, ToExec, file_of}
use Rattle.hy_words.specs.Commands.{command_of}

-- without a report
abbrev pub answer : ℕ → List ℕ → List ℕ → Counts → Answer
answer status message object counts = record { status = status; message = message; lines = []; object = object; counts = counts }

-- nothing was made
abbrev pub bare : ℕ → List ℕ → Answer
bare status message = answer status message [] no_counts

-- a file that was not loaded
abbrev pub unloaded_answer : FileFault → Answer
unloaded_answer fault.Failed = bare 5 file_fault
unloaded_answer fault.NoMemory = bare 8 out_of_memory

-- a run that came to its end, of a file with this source
abbrev pub ended_answer : List ℕ → List ℕ → List ℕ → Ending → Answer
ended_answer file bytes object ending = answer (status_of ending.end) (end_message file bytes ending.end) object ending.counts

abbrev pub IsEither : Answer → Answer → Answer → Type 0
IsEither it one other = (it ≡ one) ⊎ (it ≡ other)

-- the run of an object came to its end, and no count rose
pub record IsStopped (object : Object) (n : ℕ) (before after : Streams) (stop : Stop) (counts : Counts) : Type 0 where
  pub faults : CountsNone (faults_of before) (faults_of after)
  pub ran : RanToItsEnd object n (told_of before) (told_of after) stop counts
  pub no_asks : stop ≢ Ended Asks

pub record IsCutShort (object : Object) (n : ℕ) (before after : Streams) (fault : RunFault) : Type 0 where
  pub faults : CountsCause fault.cause (faults_of before) (faults_of after)
  pub cut : WasCutOff object n (told_of before) (told_of after) fault

-- the run of what was made of a source came to its end
pub record IsRun (object : Object) (before after : Streams) (ending : Ending) : Type 0 where
  pub stopped : IsStopped object turns before after (Ended ending.end) ending.counts

-- or it was cut off, but not by the input, of which it reads nothing
pub record IsCut (object : Object) (before after : Streams) (fault : RunFault) : Type 0 where
  pub cut_short : IsCutShort object turns before after fault
  pub no_input : fault.cause ≢ cause.Input

abbrev pub cause_message : RunCause → List ℕ
cause_message cause.Input = input_fault
cause_message cause.Output = output_fault
cause_message cause.NoMemory = out_of_memory

-- how the run of an object may go
pub data RunMayAnswer (file bytes : List ℕ) (object : Object) (before after : Streams) : Answer → Type 0 where
  ended : {ending : Ending} → IsRun object before after ending
      → RunMayAnswer file bytes object before after (ended_answer file bytes (bytes_of object) ending)
  ended_without_message : {ending : Ending} → IsRun object before after ending
      → RunMayAnswer file bytes object before after (answer 8 out_of_memory (bytes_of object) ending.counts)
  cut_off : {fault : RunFault} → IsCut object before after fault
      → RunMayAnswer file bytes object before after (answer (cause_status fault.cause) (cause_message fault.cause) (bytes_of object) fault.counts)

-- the source has this tree, and the object does what it means, and is one that the machine runs
pub record IsObjectOf (bytes : List ℕ) (tree : Program) (object : Object) : Type 0 where
  pub tree_of_it : IsTree bytes tree
  pub compiled : IsCompiled tree object
  pub built : IsBuilt object

-- how the way from a source on may go
pub data SourceMayAnswer (file bytes : List ℕ) (before after : Streams) : Answer → Type 0 where
  refused : {f : Refusal} → IsFirst (Breaks bytes) (Some f) → IsIdle before after
      → SourceMayAnswer file bytes before after (bare 1 (refusal_message file bytes f))
  not_compiled : IsIdle before after → SourceMayAnswer file bytes before after (bare 8 out_of_memory)
  executed : {tree : Program} {object : Object} {it : Answer} → IsObjectOf bytes tree object → RunMayAnswer file bytes object before after it
      → SourceMayAnswer file bytes before after it

-- EXEC

-- a run that stopped so, of an object file with these bytes
abbrev pub stopped_answer : List ℕ → Options → List ℕ → Stop → Counts → Answer
stopped_answer file options bytes stop counts =
    record {
      status = status_of_stop stop;
      message = stop_message file options.turns stop;
      lines = lines_of options.report counts;
      object = bytes;
      counts = counts;
    }

-- how the execution of a file with these bytes may go
pub data FileMayAnswer (file bytes : List ℕ) (options : Options) (before after : Streams) : Answer → Type 0 where
  bad : {place : ℕ} → IsBadFile bytes place → IsIdle before after → FileMayAnswer file bytes options before after (bare 10 (bad_object_message file place))
  not_decoded : IsIdle before after → FileMayAnswer file bytes options before after (bare 8 out_of_memory)
  stopped : {object : Object} {stop : Stop} {counts : Counts} → IsFileOf bytes object → IsStopped object options.turns before after stop counts
      → FileMayAnswer file bytes options before after (stopped_answer file options bytes stop counts)
  stopped_without_message : {object : Object} {stop : Stop} {counts : Counts} → IsFileOf bytes object → IsStopped object options.turns before after stop counts
      → FileMayAnswer file bytes options before after (answer 8 out_of_memory bytes counts)
  cut_short : {object : Object} {fault : RunFault} → IsFileOf bytes object → IsCutShort object options.turns before after fault
      → FileMayAnswer file bytes options before after (answer (cause_status fault.cause) (cause_message fault.cause) bytes fault.counts)

-- the whole of it; the files may fail in loading
pub data CallMayAnswer (words : List (List ℕ)) (files_before files_after : Filed) (before after : Streams) : Answer → Type 0 where
  no_command : command_of words ≡ None → files_after.faults ≡ files_before.faults → IsIdle before after
      → CallMayAnswer words files_before files_after before after (bare 2 usage)
  files_failed : {asked : Asked} → command_of words ≡ Some asked → files_before.load_may_fail (file_of asked)
      → files_after.faults ≡ suc files_before.faults → IsIdle before after
      → CallMayAnswer words files_before files_after before after (bare 5 file_fault)
  not_loaded : {asked : Asked} → command_of words ≡ Some asked → files_after.faults ≡ files_before.faults → IsIdle before after
      → CallMayAnswer words files_before files_after before after (bare 8 out_of_memory)
  loaded : {file bytes : List ℕ} {it : Answer} → command_of words ≡ Some (ToRun file) → Loads (files_before.holds file) longest bytes
      → files_after.faults ≡ files_before.faults
      → SourceMayAnswer file bytes before after it → CallMayAnswer words files_before files_after before after it
  loaded_object : {file bytes : List ℕ} {options : Options} {it : Answer} → command_of words ≡ Some (ToExec file options)
      → Loads (files_before.holds file) longest_object bytes
      → files_after.faults ≡ files_before.faults → FileMayAnswer file bytes options before after it
      → CallMayAnswer words files_before files_after before after it
