-- How answers are handed on.
use Rattle.std.proofs.Common.{◌≡◌, Bool, Result, Ok, Err, IsErrAnd, refl, sym, ap, ◌∙◌}
use Rattle.hy_object.specs.declared.stuck.Kind.{Kind}
use Rattle.hy_object.specs.Checks.{check, stuck}
use Rattle.hy_object.specs.States.{State}
use Rattle.hy_base.specs.declared.run.RunCause.TheVariants as cause
use Rattle.hy_object.specs.declared.object.Fun.{Fun}
use Rattle.hy_store.specs.declared.halt.Halt.{Halt}
use Rattle.hy_store.specs.declared.halt.Halt.TheVariants as halt
use Rattle.hy_store.specs.declared.store.Store.{Store}
use Rattle.hy_store.specs.Executes.{MayRunOut, MemoryUse, StoreExecutes}
use Rattle.hy_store.specs.Represents.{Ghosts, Represents, follow}

-- an error that is handed on as it is
pub handed : {A : Type 0} (s : State) (r : Result A Kind) (e : Kind) (go : A → State) → IsErrAnd r (λ x. x ≡ e) → stuck s e ≡ follow s r go
handed s (Ok a) e go h = absurd h
handed s (Err x) e go h = ap (stuck s) (sym h)

pub checked : (s : State) (why : Kind) (a b : Bool) (go end : State) → a ≡ b → check s why b go ≡ end → check s why a go ≡ end
checked s why a b go end h e = ap (λ t. check s why t go) h ∙ e

-- one that becomes a halt
pub told_halt : (memory : MemoryUse) (r : Result (Unit {0}) Halt) (why : Kind) (fun : Fun) (old new : Store) (step : State → State)
    → IsErrAnd r (λ h. h ≡ halt.Stuck why)
    → ((g : Ghosts) (s : State) → Represents g old fun s → step s ≡ stuck s why) → StoreExecutes memory fun old new r step
told_halt memory (Ok done) why fun old new step h stops = absurd h
told_halt memory (Err x) why fun old new step h stops = rw h stops

-- out of memory
pub out_of_memory : (r : Result (Unit {0}) Halt) (fun : Fun) (old new : Store) (step : State → State) → IsErrAnd r (λ h. h ≡ halt.Cut cause.NoMemory)
    → StoreExecutes MayRunOut fun old new r step
out_of_memory (Ok done) fun old new step h = absurd h
out_of_memory (Err x) fun old new step h = rw h refl
