-- The messages of the statuses follow from the way that a call goes.
use Rattle.std.proofs.Common.{◌≡◌, ◌↔◌, ◌++◌, ℕ, List, [], ◌∷◌, Some, refl, sym, ◌∙◌, ap, arith}
use Rattle.hy_base.specs.declared.run.End.{End}
use Rattle.hy_base.specs.declared.run.End.TheVariants as end
use Rattle.hy_base.specs.declared.run.RunCause.{RunCause}
use Rattle.hy_base.specs.declared.run.RunCause.TheVariants as cause
use Rattle.hy_base.specs.Files.{Loads}
use Rattle.hy_front.specs.Phases.{longest}
use Rattle.hy_object.specs.declared.object.Object.{Object}
use Rattle.hy_object.specs.Runs.{EveryRunAddsUp}
use Rattle.hy_object.specs.States.{Stop, Ended, Stuck}
use Rattle.hy_runs.specs.Runs.{CountsCause}
use Rattle.hy_words.specs.declared.words.Options.{Options}
use Rattle.hy_words.specs.Asked.{Asked, ToRun, ToExec}
use Rattle.hy_words.specs.Commands.{command_of}
use Rattle.hy_driver.specs.Call.{Answer, Call, Filed, Streams}
use Rattle.hy_driver.specs.Course as w
use Rattle.hy_driver.specs.Course.{cause_message, IsObjectOf, RunMayAnswer, FileMayAnswer, SourceMayAnswer, CallMayAnswer}
use Rattle.hy_driver.specs.Executed.{longest_object, stop_message}
use Rattle.hy_driver.specs.Headline.{turns, status_of, end_message}
use Rattle.hy_driver.specs.Kept.{status_of_stop, cause_status, faults_of}
use Rattle.hy_driver.specs.Said.{Ends, Says, words_say, files_say, input_says, out_says, memory_says, source_says, run_says, file_says, exec_says}
use Rattle.hy_driver.specs.Said.{SaysItsStatus, turns_of}
use Rattle.hy_driver.proofs.Clauses as clauses
use Rattle.hy_driver.proofs.Ends as ends
use Rattle.hy_driver.proofs.Executing as executing

module _ (words : List (List ℕ)) (files_before files_after : Filed) (before after : Streams) where
  abbrev c : Answer → Call
  c it = clauses.c words files_before files_after before after it

  says_cut : (it : Answer) (by : RunCause) → CountsCause by (faults_of before) (faults_of after) → Says (c it) (cause_status by) (cause_message by)
  says_cut it cause.Input faults = input_says faults.0
  says_cut it cause.Output faults = out_says faults.1
  says_cut it cause.NoMemory faults = memory_says

  says_executed : (file bytes : List ℕ) (tree : _) (object : Object) (it : Answer) → command_of words ≡ Some (ToRun file)
      → Loads (files_before.holds file) longest bytes
      → IsObjectOf bytes tree object → RunMayAnswer file bytes object before after it → Says (c it) it.status it.message
  says_executed file bytes tree object it command loads made (w.ended run) =
      run_says command loads (record {
        tree = tree;
        object = object;
        tree_of_it = made.tree_of_it;
        compiled = made.compiled;
        ends = record { ran = run.stopped.ran; no_asks = run.stopped.no_asks };
      })
  says_executed file bytes tree object it command loads made (w.ended_without_message run) = memory_says
  says_executed file bytes tree object it command loads made (w.cut_off {fault = fault} cut) = says_cut it fault.cause cut.cut_short.faults

  says_followed : (file bytes : List ℕ) (it : Answer) → command_of words ≡ Some (ToRun file) → Loads (files_before.holds file) longest bytes
      → SourceMayAnswer file bytes before after it → Says (c it) it.status it.message
  says_followed file bytes it command loads (w.refused first idle) = source_says command loads first
  says_followed file bytes it command loads (w.not_compiled idle) = memory_says
  says_followed file bytes it command loads (w.executed {tree = tree} {object = object} made executes) =
      says_executed file bytes tree object it command loads made executes

  says_file : (file bytes : List ℕ) (options : Options) (it : Answer) → command_of words ≡ Some (ToExec file options)
      → Loads (files_before.holds file) longest_object bytes
      → FileMayAnswer file bytes options before after it → Says (c it) it.status it.message
  says_file file bytes options it command loads (w.bad bad idle) = file_says command loads bad
  says_file file bytes options it command loads (w.not_decoded idle) = memory_says
  says_file file bytes options it command loads (w.stopped {object = object} is run) =
      exec_says command loads (record { object = object; decoded = is; ends = record { ran = run.ran; no_asks = run.no_asks } })
  says_file file bytes options it command loads (w.stopped_without_message is run) = memory_says
  says_file file bytes options it command loads (w.cut_short {fault = fault} is cut) = says_cut it fault.cause cut.faults

  pub says_its_status : (it : Answer) → CallMayAnswer words files_before files_after before after it → SaysItsStatus (c it)
  says_its_status it (w.no_command none same idle) = words_say none
  says_its_status it (w.files_failed command may rose idle) = files_say rose
  says_its_status it (w.not_loaded command same idle) = memory_says
  says_its_status it (w.loaded {file = file} {bytes = bytes} command loads same follows) = says_followed file bytes it command loads follows
  says_its_status it (w.loaded_object {file = file} {bytes = bytes} {options = options} command loads same executes) =
      says_file file bytes options it command loads executes

-- A MESSAGE HAS BYTES, BUT FOR THAT OF A RUN THAT IS DONE

not_nil : (x : ℕ) (xs : List ℕ) → x ∷ xs ≡ [] → ⊥
not_nil x xs e = cc

not_nil_after : (xs : List ℕ) (y : ℕ) (ys : List ℕ) → xs ++ (y ∷ ys) ≡ [] → ⊥
not_nil_after [] y ys e = cc
not_nil_after (x ∷ xs) y ys e = cc

-- a status other than 0 has a message
said : {status : ℕ} {message : List ℕ} → (status ≡ 0 → ⊥) → (message ≡ [] → ⊥) → ((message ≡ []) ↔ (status ≡ 0))
said not_0 some = ((λ none. absurd (some none)), (λ zero. absurd (not_0 zero)))

silent_end : (file bytes : List ℕ) (e : End) → ((end_message file bytes e ≡ []) ↔ (status_of e ≡ 0))
silent_end file bytes end.Done = ((λ none. refl), (λ zero. refl))
silent_end file bytes (end.Trap kind span) = said (λ h. omega arith) (λ h. not_nil_after file _ _ h)
silent_end file bytes end.Spent = said (λ h. omega arith) (λ h. not_nil _ _ h)
silent_end file bytes end.Asks = said (λ h. omega arith) (λ h. not_nil _ _ h)

silent_stop : (file : List ℕ) (n : ℕ) (stop : Stop) → ((stop_message file n stop ≡ []) ↔ (status_of_stop stop ≡ 0))
silent_stop file n (Ended end.Done) = ((λ none. refl), (λ zero. refl))
silent_stop file n (Ended (end.Trap kind span)) = said (λ h. omega arith) (λ h. not_nil_after file _ _ h)
silent_stop file n (Ended end.Spent) = said (λ h. omega arith) (λ h. not_nil _ _ h)
silent_stop file n (Ended end.Asks) = said (λ h. omega arith) (λ h. not_nil _ _ h)
silent_stop file n (Stuck why at) = said (λ h. omega arith) (λ h. not_nil_after file _ _ h)

pub silent : (c : Call) (status : ℕ) (message : List ℕ) → Says c status message → ((message ≡ []) ↔ (status ≡ 0))
silent c status message (words_say none) = said (λ h. omega arith) (λ h. not_nil _ _ h)
silent c status message (files_say rose) = said (λ h. omega arith) (λ h. not_nil _ _ h)
silent c status message (input_says rose) = said (λ h. omega arith) (λ h. not_nil _ _ h)
silent c status message (out_says rose) = said (λ h. omega arith) (λ h. not_nil _ _ h)
silent c status message memory_says = said (λ h. omega arith) (λ h. not_nil _ _ h)
silent c status message (source_says {file = file} command loads first) = said (λ h. omega arith) (λ h. not_nil_after file _ _ h)
silent c status message (run_says {file = file} {bytes = bytes} {e = e} command loads so) = silent_end file bytes e
silent c status message (file_says {file = file} command loads bad) = said (λ h. omega arith) (λ h. not_nil_after file _ _ h)
silent c status message (exec_says {file = file} {options = options} {stop = stop} command loads so) = silent_stop file options.turns stop

-- ALL TURNS ARE COUNTED

all_counted : (c : Call) (object : Object) (n : ℕ) (stop : Stop) → EveryRunAddsUp → Ends c object n stop → stop ≡ Ended end.Spent → c.counts.turns ≡ n
all_counted c object n stop adds_up so spent =
    ap (λ k. k.turns) (sym so.ran.same_counts) ∙ (adds_up object so.ran.input _ n so.ran.run so.ran.runs).spent (so.ran.stopped ∙ spent)

pub all_turns : (c : Call) (status : ℕ) (message : List ℕ) → EveryRunAddsUp → Says c status message → status ≡ 4
    → (asked : Asked) × (command_of c.words ≡ Some asked) × (c.counts.turns ≡ turns_of asked)
all_turns c status message adds_up (words_say none) is = absurd (omega arith)
all_turns c status message adds_up (files_say rose) is = absurd (omega arith)
all_turns c status message adds_up (input_says rose) is = absurd (omega arith)
all_turns c status message adds_up (out_says rose) is = absurd (omega arith)
all_turns c status message adds_up memory_says is = absurd (omega arith)
all_turns c status message adds_up (source_says command loads first) is = absurd (omega arith)
all_turns c status message adds_up (run_says {file = file} {e = e} command loads so) is = (
  ToRun file,
  command,
  all_counted c so.object turns (Ended e) adds_up so.ends (ap Ended (ends.spent_4 e (λ h. so.ends.no_asks (ap Ended h)) is)),
)
all_turns c status message adds_up (file_says command loads bad) is = absurd (omega arith)
all_turns c status message adds_up (exec_says {file = file} {options = options} {stop = stop} command loads so) is = (
  ToExec file options,
  command,
  all_counted c so.object options.turns stop adds_up so.ends (executing.spent_4 stop so.ends.no_asks is),
)
