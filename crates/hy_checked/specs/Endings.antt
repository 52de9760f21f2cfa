-- How a run of the machine comes to its end, and which counts of faults rise.
use Rattle.std.specs.Prelude.{Result, Ok, Err}
use Rattle.hy_base.specs.declared.run.Counts.{Counts}
use Rattle.hy_base.specs.declared.run.RunFault.{RunFault}
use Rattle.hy_object.specs.States.{Stop}
use Rattle.hy_object.specs.States as machine
use Rattle.hy_runs.specs.Runs.{CountsCause, CountsNone, Faults}
use Rattle.hy_store.specs.declared.halt.Halt.{Halt}
use Rattle.hy_store.specs.declared.halt.Halt.TheVariants as halt
use Rattle.hy_checked.specs.declared.machine.Machine.{Machine}
use Rattle.hy_checked.specs.declared.runs.CheckedEnding.{CheckedEnding}
use Rattle.hy_checked.specs.declared.runs.CheckedEnding.TheVariants.{Ended, Stuck}

abbrev pub stop_of : CheckedEnding → Stop
stop_of (Ended ending) = machine.Ended ending.end
stop_of (Stuck why at counts) = machine.Stuck why at

abbrev pub counts_of : CheckedEnding → Counts
counts_of (Ended ending) = ending.counts
counts_of (Stuck why at counts) = counts

abbrev pub CountsFaults : Result CheckedEnding RunFault → (old new : Faults) → Type 0
CountsFaults (Ok ending) old new = CountsNone old new
CountsFaults (Err fault) old new = CountsCause fault.cause old new

-- how a run of the machine ends that halts
abbrev pub ending_of : Machine → Halt → Result CheckedEnding RunFault
ending_of m (halt.Ended e) = Ok (Ended (record { end = e; counts = m.store.counts }))
ending_of m (halt.Stuck why) = Ok (Stuck why (record { fun = m.number; at = m.place }) m.store.counts)
ending_of m (halt.Cut c) = Err (record { cause = c; counts = m.store.counts })
