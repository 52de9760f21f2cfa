-- Statuses that `exec` alone has.
use Rattle.std.proofs.Common.{◌≡◌, ◌≤◌, ℕ, List, Some, arith}
use Rattle.hy_base.specs.declared.run.End.{End}
use Rattle.hy_base.specs.declared.run.End.TheVariants as end
use Rattle.hy_base.specs.declared.run.RunCause.{RunCause}
use Rattle.hy_base.specs.declared.run.RunCause.TheVariants as cause
use Rattle.hy_object.specs.declared.object.Object.{Object}
use Rattle.hy_words.specs.declared.words.Options.{Options}
use Rattle.hy_words.specs.Asked.{ToExec}
use Rattle.hy_words.specs.Commands.{command_of}
use Rattle.hy_driver.specs.Call.{Answer, Filed, Streams}
use Rattle.hy_driver.specs.Course as w
use Rattle.hy_driver.specs.Course.{RunMayAnswer, SourceMayAnswer, CallMayAnswer}
use Rattle.hy_driver.specs.Headline.{status_of}
use Rattle.hy_driver.specs.Kept.{cause_status}

low_end : (e : End) → status_of e ≤ 8
low_end end.Done = omega arith
low_end (end.Trap kind span) = omega arith
low_end end.Spent = omega arith
low_end end.Asks = omega arith

low_cause : (by : RunCause) → cause_status by ≤ 8
low_cause cause.Input = omega arith
low_cause cause.Output = omega arith
low_cause cause.NoMemory = omega arith

module _ (before after : Streams) where
  low_executed : (file bytes : List ℕ) (object : Object) (it : Answer) → RunMayAnswer file bytes object before after it → it.status ≤ 8
  low_executed file bytes object it (w.ended {ending = ending} run) = low_end ending.end
  low_executed file bytes object it (w.ended_without_message run) = omega arith
  low_executed file bytes object it (w.cut_off {fault = fault} cut) = low_cause fault.cause

  low_followed : (file bytes : List ℕ) (it : Answer) → SourceMayAnswer file bytes before after it → it.status ≤ 8
  low_followed file bytes it (w.refused first idle) = omega arith
  low_followed file bytes it (w.not_compiled idle) = omega arith
  low_followed file bytes it (w.executed {object = object} made executes) = low_executed file bytes object it executes

module _ (words : List (List ℕ)) (files_before files_after : Filed) (before after : Streams) where
  -- a way with such a status executes a file
  pub is_execution : (it : Answer) → 9 ≤ it.status → CallMayAnswer words files_before files_after before after it → (file : List ℕ)
      × (options : Options) × (command_of words ≡ Some (ToExec file options))
  is_execution it high (w.no_command none same idle) = absurd (omega arith)
  is_execution it high (w.files_failed command may rose idle) = absurd (omega arith)
  is_execution it high (w.not_loaded command same idle) = absurd (omega arith)
  is_execution it high (w.loaded {file = file} {bytes = bytes} command loads same follows) = let low =
      low_followed before after file bytes it follows in absurd (omega (arith, low, high))
  is_execution it high (w.loaded_object {file = file} {options = options} command loads same executes) = (file, options, command)
