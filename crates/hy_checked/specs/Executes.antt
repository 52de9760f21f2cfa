-- What an instruction does to the machine, by its answer.
use Rattle.std.specs.Prelude.{◌≡◌, ◌≢◌, Result, Ok, Err}
use Rattle.hy_base.specs.declared.run.Counts.{Counts}
use Rattle.hy_base.specs.declared.run.End.{End}
use Rattle.hy_base.specs.declared.run.End.TheVariants as end
use Rattle.hy_base.specs.declared.run.RunCause.TheVariants as cause
use Rattle.hy_object.specs.declared.object.Object.{Object}
use Rattle.hy_object.specs.Checks.{ends, stuck}
use Rattle.hy_object.specs.States.{State}
use Rattle.hy_store.specs.declared.halt.Halt.{Halt}
use Rattle.hy_store.specs.declared.halt.Halt.TheVariants as halt
use Rattle.hy_store.specs.Executes.{IsCutBy, MemoryUse}
use Rattle.hy_runs.specs.Progress.{KeepsOutside}
use Rattle.hy_checked.specs.declared.machine.Machine.{Machine}
use Rattle.hy_checked.specs.Simulates.{Simulates}

-- the machine goes on as the step does
pub record GoesOn (object : Object) (old new : Machine) (step : State → State) : Type 0 where
  pub does : (s : State) → Simulates object old s → Simulates object new (step s) × KeepsOutside s (step s)

-- it has the place and the counts from before the instruction
pub record IsUnmoved (old new : Machine) : Type 0 where
  pub number : new.number ≡ old.number
  pub place : new.place ≡ old.place
  pub counts : new.store.counts ≡ old.store.counts

-- the step ends the run so
pub record EndsRun (s : State) (e : End) (counts : Counts) (t : State) : Type 0 where
  pub last : State
  pub is : t ≡ ends last e
  pub counts_are : last.counts ≡ counts
  pub outside : KeepsOutside s last

-- The step goes on, is stuck, or ends the run; or memory ran out, if it takes memory. The machine has the counts of the end.
abbrev pub MachineExecutes : MemoryUse → Object → (old new : Machine) → Result (Unit {0}) Halt → (State → State) → Type 0
MachineExecutes memory object old new (Ok done) step = GoesOn object old new step
MachineExecutes memory object old new (Err (halt.Stuck why)) step = IsUnmoved old new × ((s : State) → Simulates object old s → step s ≡ stuck s why)
MachineExecutes memory object old new (Err (halt.Ended e)) step = ((s : State) → Simulates object old s → EndsRun s e new.store.counts (step s))
    × (e ≢ end.Asks)
MachineExecutes memory object old new (Err (halt.Cut c)) step = IsCutBy memory c × (new.store.counts ≡ old.store.counts)

-- out of memory is the answer only if the instruction takes memory
abbrev pub RunsOutOnlyBy : MemoryUse → Result (Unit {0}) Halt → Type 0
RunsOutOnlyBy memory (Ok done) = Unit {0}
RunsOutOnlyBy memory (Err (halt.Stuck why)) = Unit {0}
RunsOutOnlyBy memory (Err (halt.Ended e)) = Unit {0}
RunsOutOnlyBy memory (Err (halt.Cut cause.Input)) = Unit {0}
RunsOutOnlyBy memory (Err (halt.Cut cause.Output)) = Unit {0}
RunsOutOnlyBy memory (Err (halt.Cut cause.NoMemory)) = IsCutBy memory cause.NoMemory
