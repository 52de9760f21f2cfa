-- What is answered, with its message or without, on each way that a call may go.
use Rattle.std.proofs.Common.{◌≡◌, ℕ, List, Some, Result, Ok, Err, String, Global, string_bytes, MatchResult, IfOk, inl, inr, refl, ◌∙◌, ap, sym, subst}
use Rattle.hy_base.specs.declared.files.FileFault.{FileFault}
use Rattle.hy_base.specs.declared.files.FileFault.TheVariants as f
use Rattle.hy_base.specs.declared.run.Counts.{Counts}
use Rattle.hy_base.specs.declared.run.Ending.{Ending}
use Rattle.hy_base.specs.declared.run.RunFault.{RunFault}
use Rattle.hy_base.specs.declared.refusal.NoMemory.{NoMemory}
use Rattle.hy_base.specs.Files.{file_faults_after}
use Rattle.hy_base.specs.First.{Refusal, IsFirst}
use Rattle.hy_front.specs.Phases.{Breaks}
use Rattle.hy_object.specs.Bytes.{bytes_of}
use Rattle.hy_driver.specs.declared.top.CompiledSource.{CompiledSource}
use Rattle.hy_driver.specs.Call.{Answer, Filed, Streams}
use Rattle.hy_driver.specs.Course as w
use Rattle.hy_driver.specs.Course.{answer, bare, unloaded_answer, ended_answer, IsEither, IsRun, IsCut, IsStopped, IsCutShort, RunMayAnswer}
use Rattle.hy_driver.specs.Course.{FileMayAnswer, stopped_answer, SourceMayAnswer, CallMayAnswer, cause_message}
use Rattle.hy_driver.specs.Kept.{cause_status}
use Rattle.hy_driver.specs.Outside.{IsIdle}
use Rattle.hy_driver.specs.Reply.{IsCompiledFrom}
use Rattle.hy_driver.specs.Executed.{IsFileOf, IsBadFile}
use Rattle.hy_driver.specs.Texts.{out_of_memory, refusal_message, bad_object_message}
use Rattle.hy_object.specs.declared.object.Object.{Object}
use Rattle.hy_object.specs.States.{Stop}
use Rattle.hy_words.specs.declared.words.Options.{Options}
use Rattle.hy_words.specs.Asked.{Asked, file_of}
use Rattle.hy_words.specs.Commands.{command_of}

-- a message that is this text, or that memory ran out
pub either_way : (message : Result (String Global) NoMemory) (it : Answer) (status : ℕ) (text object : List ℕ) (counts : Counts)
    → MatchResult message (λ m. it ≡ answer status (string_bytes m) object counts) (λ _. it ≡ answer 8 out_of_memory object counts)
    → IfOk message (λ m. string_bytes m ≡ text)
    → IsEither it (answer status text object counts) (answer 8 out_of_memory object counts)
either_way (Ok m) it status text object counts is said = inl (is ∙ ap (λ t. answer status t object counts) said)
either_way (Err e) it status text object counts is said = inr is

module _ (file bytes : List ℕ) (before after : Streams) where
  ended_run : (object : _) (ending : Ending) (it : Answer) → IsRun object before after ending
      → IsEither it (ended_answer file bytes (bytes_of object) ending) (answer 8 out_of_memory (bytes_of object) ending.counts)
      → RunMayAnswer file bytes object before after it
  ended_run object ending it run (inl is) = subst (λ it. RunMayAnswer file bytes object before after it) (sym is) (w.ended run)
  ended_run object ending it run (inr is) = subst (λ it. RunMayAnswer file bytes object before after it) (sym is) (w.ended_without_message run)

  -- the object that was made has run to its end
  pub follows_end : (made : CompiledSource) (ending : Ending) (it : Answer) → IsCompiledFrom bytes made → IsRun made.object before after ending
      → IsEither it (ended_answer file bytes made.bytes.items ending) (answer 8 out_of_memory made.bytes.items ending.counts)
      → SourceMayAnswer file bytes before after it
  follows_end made ending it made_of run is =
      w.executed made_of.1 (ended_run made.object ending it run
      (subst (λ object. IsEither it (ended_answer file bytes object ending) (answer 8 out_of_memory object ending.counts)) made_of.2 is))

  -- its run was cut off
  pub follows_cut : (made : CompiledSource) (fault : RunFault) (it : Answer) → IsCompiledFrom bytes made → IsCut made.object before after fault
      → it ≡ answer (cause_status fault.cause) (cause_message fault.cause) made.bytes.items fault.counts → SourceMayAnswer file bytes before after it
  follows_cut made fault it made_of cut is =
      w.executed made_of.1 (subst (λ it. RunMayAnswer file bytes made.object before after it)
      (sym (is ∙ ap (λ object. answer (cause_status fault.cause) (cause_message fault.cause) object fault.counts) made_of.2)) (w.cut_off cut))

  -- the source was refused
  pub follows_refusal : (f : Refusal) (it : Answer) → IsFirst (Breaks bytes) (Some f) → IsIdle before after
      → IsEither it (bare 1 (refusal_message file bytes f)) (bare 8 out_of_memory) → SourceMayAnswer file bytes before after it
  follows_refusal f it first idle (inl is) = subst (λ it. SourceMayAnswer file bytes before after it) (sym is) (w.refused first idle)
  follows_refusal f it first idle (inr is) = subst (λ it. SourceMayAnswer file bytes before after it) (sym is) (w.not_compiled idle)

  pub follows_want : (it : Answer) → IsIdle before after → it ≡ bare 8 out_of_memory → SourceMayAnswer file bytes before after it
  follows_want it idle is = subst (λ it. SourceMayAnswer file bytes before after it) (sym is) (w.not_compiled idle)

module _ (file bytes : List ℕ) (options : Options) (before after : Streams) where
  -- the object of a file has run to its end
  pub file_stops : (object : Object) (stop : Stop) (counts : Counts) (it : Answer) → IsFileOf bytes object
      → IsStopped object options.turns before after stop counts
      → IsEither it (stopped_answer file options bytes stop counts) (answer 8 out_of_memory bytes counts) → FileMayAnswer file bytes options before after it
  file_stops object stop counts it of_file run (inl is) = subst (λ it. FileMayAnswer file bytes options before after it) (sym is) (w.stopped of_file run)
  file_stops object stop counts it of_file run (inr is) =
      subst (λ it. FileMayAnswer file bytes options before after it) (sym is) (w.stopped_without_message of_file run)

  -- its run was cut off
  pub file_cut : (object : Object) (fault : RunFault) (it : Answer) → IsFileOf bytes object → IsCutShort object options.turns before after fault
      → it ≡ answer (cause_status fault.cause) (cause_message fault.cause) bytes fault.counts → FileMayAnswer file bytes options before after it
  file_cut object fault it of_file cut is = subst (λ it. FileMayAnswer file bytes options before after it) (sym is) (w.cut_short of_file cut)

  -- the file was refused
  pub file_bad : (place : ℕ) (it : Answer) → IsBadFile bytes place → IsIdle before after
      → IsEither it (bare 10 (bad_object_message file place)) (bare 8 out_of_memory)
      → FileMayAnswer file bytes options before after it
  file_bad place it bad idle (inl is) = subst (λ it. FileMayAnswer file bytes options before after it) (sym is) (w.bad bad idle)
  file_bad place it bad idle (inr is) = subst (λ it. FileMayAnswer file bytes options before after it) (sym is) (w.not_decoded idle)

  pub file_want : (it : Answer) → IsIdle before after → it ≡ bare 8 out_of_memory → FileMayAnswer file bytes options before after it
  file_want it idle is = subst (λ it. FileMayAnswer file bytes options before after it) (sym is) (w.not_decoded idle)

-- another name for what is answered
pub may_answer_as : {words : List (List ℕ)} {files_before files_after : Filed} {before after : Streams} {it one : Answer}
    → it ≡ one → CallMayAnswer words files_before files_after before after one → CallMayAnswer words files_before files_after before after it
may_answer_as {words} {files_before} {files_after} {before} {after} is way =
    subst (λ it. CallMayAnswer words files_before files_after before after it) (sym is) way

-- a file was not loaded
pub not_loaded_so : (words : List (List ℕ)) (files_before files_after : Filed) (before after : Streams) (asked : Asked) (fault : FileFault) (it : Answer)
    → command_of words ≡ Some asked → (fault ≡ f.Failed → files_before.load_may_fail (file_of asked))
    → files_after.faults ≡ file_faults_after {T = Unit {0}} files_before.faults (Err fault) → IsIdle before after → it ≡ unloaded_answer fault
    → CallMayAnswer words files_before files_after before after it
not_loaded_so words files_before files_after before after asked f.Failed it command may faults idle is =
    may_answer_as is (w.files_failed command (may refl) faults idle)
not_loaded_so words files_before files_after before after asked f.NoMemory it command may faults idle is =
    may_answer_as is (w.not_loaded command faults idle)
