-- What an instruction that lets another activation run does to what is represented, by its answer.
use Rattle.std.specs.Prelude.{◌≡◌, ◌<◌, ◌∷◌, [], ℕ, suc, List, length, Option, None, Some, IsSomeAnd, Result, Ok, Err}
use Rattle.hy_base.specs.declared.run.Counts.{Counts}
use Rattle.hy_base.specs.declared.run.End.TheVariants as end
use Rattle.hy_base.specs.declared.run.RunCause.TheVariants as cause
use Rattle.hy_object.specs.declared.object.Fun.{Fun}
use Rattle.hy_object.specs.Checks.{ends, stuck}
use Rattle.hy_object.specs.Controls.{at_next, frees_frame}
use Rattle.hy_object.specs.States as machine
use Rattle.hy_object.specs.States.{State, Activation}
use Rattle.hy_store.specs.declared.frame.Role.{Role}
use Rattle.hy_store.specs.declared.frame.Role.TheVariants.{Called, Projected, Sliding}
use Rattle.hy_store.specs.declared.halt.Halt.{Halt}
use Rattle.hy_store.specs.declared.halt.Halt.TheVariants as halt
use Rattle.hy_store.specs.declared.store.Store.{Store}
use Rattle.hy_store.specs.Frames.{Known, role_at}
use Rattle.hy_store.specs.Represents.{Ghosts, Represents}

-- the activation of this function in that frame waits for the running one, or none does
abbrev pub Waits : Option ℕ → Fun → State → Type 0
Waits None next s = s.callers ≡ []
Waits (Some frame) next s = (a : Activation) × (rest : List Activation) × (s.callers ≡ a ∷ rest) × (a.frame ≡ frame) × (a.fun ≡ next)

-- the slot of the caller into which a subscript before its yield hands an access out
abbrev pub slot_for : Option Role → Option ℕ
slot_for None = None
slot_for (Some (Called word)) = None
slot_for (Some (Projected slot)) = Some slot
slot_for (Some Sliding) = None

-- the caller, if one waits, has the slot into which the activation in the own frame hands an access out
abbrev pub CanTake : Known → (own : ℕ) → Option ℕ → Type 0
CanTake known own None = Unit {0}
CanTake known own (Some frame) = (into : ℕ) → slot_for (role_at (known own)) ≡ Some into → IsSomeAnd (known frame) (λ one. into < length one.slots)

-- neither turns nor the outside is touched
pub record IsBeside (s t : State) : Type 0 where
  pub left : t.left ≡ s.left
  pub turns : t.counts.turns ≡ s.counts.turns
  pub input : t.input ≡ s.input
  pub cut : t.cut ≡ s.cut
  pub output : t.output ≡ s.output
  pub stop : t.stop ≡ s.stop

-- the innermost of those that wait goes on
pub record GoesBack (s t : State) : Type 0 where
  pub caller : Activation
  pub rest : List Activation
  pub waits : s.callers ≡ caller ∷ rest
  pub now : t.now ≡ caller
  pub callers : t.callers ≡ rest
  pub beside : IsBeside s t

-- it returns
pub record Returned (s t : State) : Type 0 where
  pub back : GoesBack s t
  pub suspended : t.suspended ≡ s.suspended

-- it yields, and is suspended
pub record HandedOut (s t : State) : Type 0 where
  pub back : GoesBack s t
  pub suspended : t.suspended ≡ record (at_next s.now) { role = machine.Sliding } ∷ s.suspended

-- what is seen after the step is the machine's, and the next function runs
pub record LeadsTo (fun next : Fun) (old new : Store) (When : State → Type 0) (Shape : State → State → Type 0) (step : State → State) : Type 0 where
  pub does : (g : Ghosts) (s : State) → Represents g old fun s → When s → (after : Ghosts) × Represents after new next (step s) × Shape s (step s)

abbrev pub with_one_freed : Counts → Counts
with_one_freed counts = record counts { freed = suc counts.freed }

-- Another activation goes on, or the step is stuck, or the run is done, its frame freed; or memory ran out.
abbrev pub StoreSwitches : (fun next : Fun) → (old new : Store) → Result (Unit {0}) Halt → (When : State → Type 0) → (Shape : State → State → Type 0)
    → (step : State → State) → Type 0
StoreSwitches fun next old new (Ok done) When Shape step = LeadsTo fun next old new When Shape step
StoreSwitches fun next old new (Err (halt.Stuck why)) When Shape step = (g : Ghosts) (s : State) → Represents g old fun s → When s → step s ≡ stuck s why
StoreSwitches fun next old new (Err (halt.Ended e)) When Shape step =
    ((g : Ghosts) (s : State) → Represents g old fun s → When s → step s ≡ ends (frees_frame s) e) × (e ≡ end.Done) × (new.counts ≡ with_one_freed old.counts)
StoreSwitches fun next old new (Err (halt.Cut c)) When Shape step = c ≡ cause.NoMemory
