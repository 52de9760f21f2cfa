-- The statuses and their messages, each with its cause. What the files, the input or the output hold need not be known.
use Rattle.std.specs.Prelude.{◌≡◌, ◌≢◌, ◌↔◌, ℕ, List, [], Some, None}
use Rattle.hy_base.specs.declared.run.End.{End}
use Rattle.hy_base.specs.declared.run.End.TheVariants as end
use Rattle.hy_base.specs.Files.{Loads}
use Rattle.hy_base.specs.First.{Refusal, IsFirst}
use Rattle.hy_tree.specs.Tree.{Program}
use Rattle.hy_front.specs.Phases.{longest, IsTree, Breaks}
use Rattle.hy_object.specs.declared.object.Object.{Object}
use Rattle.hy_object.specs.States.{Stop, Ended}
use Rattle.hy_runs.specs.Runs.{RanToItsEnd}
use Rattle.hy_words.specs.declared.words.Options.{Options}
use Rattle.hy_words.specs.Asked.{Asked, ToRun, ToExec}
use Rattle.hy_words.specs.Commands.{command_of}
use Rattle.hy_driver.specs.Call.{Call}
use Rattle.hy_driver.specs.Compiled.{IsCompiled}
use Rattle.hy_driver.specs.Executed.{longest_object, IsFileOf, IsBadFile, stop_message}
use Rattle.hy_driver.specs.Headline.{turns, status_of, end_message}
use Rattle.hy_driver.specs.Kept.{told_of, status_of_stop}
use Rattle.hy_driver.specs.Outside.{FilesRose, InputRose, OutRose}
use Rattle.hy_driver.specs.Texts.{usage, refusal_message, file_fault, input_fault, output_fault, out_of_memory, bad_object_message}

-- The run of this object came to its end, on some input, which is what the source had left if it told.
pub record Ends (c : Call) (object : Object) (n : ℕ) (stop : Stop) : Type 0 where
  pub ran : RanToItsEnd object n (told_of c.before) (told_of c.after) stop c.counts
  pub no_asks : stop ≢ Ended end.Asks

-- An object was made of such bytes, by what the source means, and it ends so.
pub record EndsAsCompiled (c : Call) (bytes : List ℕ) (e : End) : Type 0 where
  pub tree : Program
  pub object : Object
  pub tree_of_it : IsTree bytes tree
  pub compiled : IsCompiled tree object
  pub ends : Ends c object turns (Ended e)

-- The bytes are those of an object that stops so.
pub record EndsAsDecoded (c : Call) (bytes : List ℕ) (n : ℕ) (stop : Stop) : Type 0 where
  pub object : Object
  pub decoded : IsFileOf bytes object
  pub ends : Ends c object n stop

-- Each status, with its message. `bytes` are what was loaded: what the file holds, if the files told that.
pub data Says (c : Call) : (status : ℕ) → (message : List ℕ) → Type 0 where
  -- 2
  words_say : command_of c.words ≡ None → Says c 2 usage
  -- 5, 6, 7, 8
  files_say : FilesRose c → Says c 5 file_fault
  input_says : InputRose c → Says c 6 input_fault
  out_says : OutRose c → Says c 7 output_fault
  memory_says : Says c 8 out_of_memory
  -- 1, and 0, 3, 4 of `run`
  source_says : {file bytes : List ℕ} {f : Refusal} → command_of c.words ≡ Some (ToRun file) → Loads (c.files_before.holds file) longest bytes
      → IsFirst (Breaks bytes) (Some f) → Says c 1 (refusal_message file bytes f)
  run_says : {file bytes : List ℕ} {e : End} → command_of c.words ≡ Some (ToRun file) → Loads (c.files_before.holds file) longest bytes
      → EndsAsCompiled c bytes e → Says c (status_of e) (end_message file bytes e)
  -- 10, and 0, 3, 4, 9 of `exec`
  file_says : {file bytes : List ℕ} {options : Options} {place : ℕ} → command_of c.words ≡ Some (ToExec file options)
      → Loads (c.files_before.holds file) longest_object bytes
      → IsBadFile bytes place → Says c 10 (bad_object_message file place)
  exec_says : {file bytes : List ℕ} {options : Options} {stop : Stop} → command_of c.words ≡ Some (ToExec file options)
      → Loads (c.files_before.holds file) longest_object bytes
      → EndsAsDecoded c bytes options.turns stop → Says c (status_of_stop stop) (stop_message file options.turns stop)

abbrev pub SaysItsStatus : Call → Type 0
SaysItsStatus c = Says c c.status c.message

-- there is no message exactly where a run is done
abbrev pub IsSilentAtItsEnd : Call → Type 0
IsSilentAtItsEnd c = (c.message ≡ []) ↔ (c.status ≡ 0)

-- the number of turns that a command gives to its run
abbrev pub turns_of : Asked → ℕ
turns_of (ToRun file) = turns
turns_of (ToExec file options) = options.turns

-- a run that has taken all its turns has counted them
abbrev pub CountsAllTurns : Call → Type 0
CountsAllTurns c = c.status ≡ 4 → (asked : Asked) × (command_of c.words ≡ Some asked) × (c.counts.turns ≡ turns_of asked)
