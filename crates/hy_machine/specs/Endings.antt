-- Which counts of faults rise in a run.
use Rattle.std.specs.Prelude.{Result, Ok, Err}
use Rattle.hy_base.specs.declared.run.Ending.{Ending}
use Rattle.hy_base.specs.declared.run.RunFault.{RunFault}
use Rattle.hy_runs.specs.Runs.{CountsCause, CountsNone, Faults}

abbrev pub CountsFaults : Result Ending RunFault → (old new : Faults) → Type 0
CountsFaults (Ok ending) old new = CountsNone old new
CountsFaults (Err fault) old new = CountsCause fault.cause old new
