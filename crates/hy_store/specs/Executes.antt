-- What an instruction does to what is represented, by its answer.
use Rattle.std.specs.Prelude.{◌≡◌, ◌≢◌, ℕ, ℤ, Result, Ok, Err, ◌+ℤ◌, ◌-ℤ◌, ◌*ℤ◌, int_div, int_rem, int_lt, int_le, Bool}
use Rattle.std.specs.Ordering.{int_eq}
use Rattle.hy_base.specs.declared.run.End.TheVariants as end
use Rattle.hy_base.specs.declared.run.RunCause.{RunCause}
use Rattle.hy_base.specs.declared.run.RunCause.TheVariants as cause
use Rattle.hy_base.specs.declared.run.TrapKind.{TrapKind}
use Rattle.hy_object.specs.declared.object.Fun.{Fun}
use Rattle.hy_object.specs.Checks.{ends, next, stuck}
use Rattle.hy_object.specs.Controls.{at_next}
use Rattle.hy_object.specs.States as machine
use Rattle.hy_object.specs.States.{State}
use Rattle.hy_object.specs.Words.{Computed, Is, Traps, fitting, divided}
use Rattle.hy_store.specs.declared.halt.Halt.{Halt}
use Rattle.hy_store.specs.declared.halt.Halt.TheVariants as halt
use Rattle.hy_store.specs.declared.numbers.Operation.{Operation}
use Rattle.hy_store.specs.declared.numbers.Operation.TheVariants as operation
use Rattle.hy_store.specs.declared.numbers.Comparison.{Comparison}
use Rattle.hy_store.specs.declared.numbers.Comparison.TheVariants as comparison
use Rattle.hy_store.specs.declared.store.Store.{Store}
use Rattle.hy_store.specs.Memory.{live}
use Rattle.hy_store.specs.Represents.{Ghosts, Represents, KeepsOthers, SameShape}

-- cells change, and the next instruction follows
pub record Writes (fun : Fun) (old new : Store) (step : State → State) : Type 0 where
  pub others : KeepsOthers old new
  pub same : SameShape (live old.blocks) (live new.blocks)
  pub does : (g : Ghosts) (s : State) → Represents g old fun s → (cells : ℕ → machine.Cells) × (step s ≡ record (next s) { cells = cells })
      × Represents g new fun (record (next s) { cells = cells })

-- The running activation goes on with its next instruction, and all others stay.
pub record Forward (s t : State) : Type 0 where
  pub now : t.now ≡ at_next s.now
  pub callers : t.callers ≡ s.callers
  pub suspended : t.suspended ≡ s.suspended
  pub left : t.left ≡ s.left
  pub turns : t.counts.turns ≡ s.counts.turns
  pub input : t.input ≡ s.input
  pub cut : t.cut ≡ s.cut
  pub output : t.output ≡ s.output
  pub stop : t.stop ≡ s.stop

-- What is represented after the step is the machine's.
pub record Goes (fun : Fun) (old new : Store) (step : State → State) : Type 0 where
  pub does : (g : Ghosts) (s : State) → Represents g old fun s → (after : Ghosts) × Represents after new fun (step s) × Forward s (step s)

-- What an instruction takes of memory.
pub data MemoryUse : Type 0 where
  -- nothing: out of memory is never its answer
  InPlace : MemoryUse
  -- cells, a block, an access or an activation, for which there may be no room
  MayRunOut : MemoryUse

-- an instruction that uses memory so may be cut off for that cause
abbrev pub IsCutBy : MemoryUse → RunCause → Type 0
IsCutBy InPlace c = ⊥
IsCutBy MayRunOut c = c ≡ cause.NoMemory

-- The step goes on, is stuck, or ends the run; or memory ran out, if it takes memory.
abbrev pub StoreExecutes : MemoryUse → Fun → (old new : Store) → Result (Unit {0}) Halt → (State → State) → Type 0
StoreExecutes memory fun old new (Ok done) step = Goes fun old new step
StoreExecutes memory fun old new (Err (halt.Stuck why)) step = (g : Ghosts) (s : State) → Represents g old fun s → step s ≡ stuck s why
StoreExecutes memory fun old new (Err (halt.Ended e)) step = ((g : Ghosts) (s : State) → Represents g old fun s → step s ≡ ends s e) × (e ≢ end.Asks)
StoreExecutes memory fun old new (Err (halt.Cut c)) step = IsCutBy memory c

abbrev pub abstract_computed : Result ℤ TrapKind → Computed
abstract_computed (Ok n) = Is n
abstract_computed (Err why) = Traps why

abbrev pub calculated : Operation → ℤ → ℤ → Computed
calculated operation.Add m n = fitting (m +ℤ n)
calculated operation.Sub m n = fitting (m -ℤ n)
calculated operation.Mul m n = fitting (m *ℤ n)
calculated operation.Div m n = divided int_div m n
calculated operation.Rem m n = divided int_rem m n

abbrev pub compared : Comparison → ℤ → ℤ → Bool
compared comparison.Eq m n = int_eq m n
compared comparison.Lt m n = int_lt m n
compared comparison.Le m n = int_le m n
