-- The lines of the report.
use Rattle.std.proofs.Common.{◌≡◌, ◌&&◌, ℕ, Bool, true, false, List, [], Option, Some, refl, sym, ◌∙◌, subst}
use Rattle.std.specs.Prelude.{if◌then◌else◌}
use Rattle.hy_base.specs.declared.run.Counts.{Counts}
use Rattle.hy_base.specs.declared.run.End.TheVariants as end
use Rattle.hy_base.specs.declared.run.RunCause.{RunCause}
use Rattle.hy_base.specs.declared.run.RunCause.TheVariants as cause
use Rattle.hy_object.specs.States.{Stop, Ended, Stuck}
use Rattle.hy_words.specs.declared.words.Options.{Options}
use Rattle.hy_words.specs.Asked.{Asked, ToExec}
use Rattle.hy_words.specs.Commands.{command_of}
use Rattle.hy_driver.specs.Call.{Answer, Filed, Streams}
use Rattle.hy_driver.specs.Course as w
use Rattle.hy_driver.specs.Course.{RunMayAnswer, FileMayAnswer, SourceMayAnswer, CallMayAnswer}
use Rattle.hy_driver.specs.Executed.{lines_of}
use Rattle.hy_driver.specs.Kept.{status_of_stop, cause_status}
use Rattle.hy_driver.specs.Outside.{is_reported, lines_due}
use Rattle.hy_driver.specs.Texts.{report_lines}

-- there are none where none are asked for
not_asked : (b : Bool) (lines : List ℕ) → [] ≡ (if b && false then lines else [])
not_asked true lines = refl
not_asked false lines = refl

stop_lines : (report : Bool) (stop : Stop) (counts : Counts)
    → lines_of report counts ≡ (if is_reported (status_of_stop stop) && report then report_lines counts else [])
stop_lines report (Ended end.Done) counts = refl
stop_lines report (Ended (end.Trap kind span)) counts = refl
stop_lines report (Ended end.Spent) counts = refl
stop_lines report (Ended end.Asks) counts = refl
stop_lines report (Stuck why at) counts = refl

cause_lines : (asked : Option Asked) (by : RunCause) (counts : Counts) → [] ≡ lines_due asked (cause_status by) counts
cause_lines asked cause.Input counts = refl
cause_lines asked cause.Output counts = refl
cause_lines asked cause.NoMemory counts = refl

module _ (before after : Streams) where
  run_lines : (file bytes : List ℕ) (it : Answer) → SourceMayAnswer file bytes before after it → it.lines ≡ []
  run_lines file bytes it (w.refused first idle) = refl
  run_lines file bytes it (w.not_compiled idle) = refl
  run_lines file bytes it (w.executed {object = object} made executes) = executed_lines file bytes object it executes
    where
      executed_lines : (file bytes : List ℕ) (object : _) (it : Answer) → RunMayAnswer file bytes object before after it → it.lines ≡ []
      executed_lines file bytes object it (w.ended run) = refl
      executed_lines file bytes object it (w.ended_without_message run) = refl
      executed_lines file bytes object it (w.cut_off cut) = refl

  file_lines : (file bytes : List ℕ) (options : Options) (it : Answer) → FileMayAnswer file bytes options before after it
      → it.lines ≡ lines_due (Some (ToExec file options)) it.status it.counts
  file_lines file bytes options it (w.bad bad idle) = refl
  file_lines file bytes options it (w.not_decoded idle) = refl
  file_lines file bytes options it (w.stopped {stop = stop} {counts = counts} is run) = stop_lines options.report stop counts
  file_lines file bytes options it (w.stopped_without_message is run) = refl
  file_lines file bytes options it (w.cut_short {fault = fault} is cut) = cause_lines (Some (ToExec file options)) fault.cause fault.counts

module _ (words : List (List ℕ)) (files_before files_after : Filed) (before after : Streams) where
  pub lines_are : (it : Answer) → CallMayAnswer words files_before files_after before after it → it.lines ≡ lines_due (command_of words) it.status it.counts
  lines_are it (w.no_command none same idle) = refl
  lines_are it (w.files_failed command may rose idle) = refl
  lines_are it (w.not_loaded command same idle) = refl
  lines_are it (w.loaded {file = file} {bytes = bytes} command loads same follows) =
      subst (λ o. it.lines ≡ lines_due o it.status it.counts) (sym command) (run_lines before after file bytes it follows
      ∙ not_asked (is_reported it.status) (report_lines it.counts))
  lines_are it (w.loaded_object {file = file} {bytes = bytes} {options = options} command loads same executes) =
      subst (λ o. it.lines ≡ lines_due o it.status it.counts) (sym command) (file_lines before after file bytes options it executes)
