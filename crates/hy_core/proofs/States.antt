-- Each state of the two runs of a core that has a flow.
use Rattle.std.proofs.Common.{◌≡◌, ℕ, zero, suc, refl, subst}
use Rattle.hy_core.specs.Values.{shape}
use Rattle.hy_core.specs.Memory.{Copies, Cells, copying, lending, no_copies, no_cells}
use Rattle.hy_core.specs.Runs.{Interaction, Fetch, Inspect, Perform, Return, apply, State, interpret, steps}
use Rattle.hy_core.specs.Calm.{IsCalm, StaysCalm}
use Rattle.hy_core.specs.Control.{Stage}
use Rattle.hy_core.specs.Statements.{interaction, start}
use Rattle.hy_core.specs.Meaning.{setting}
use Rattle.hy_core.specs.Dropped.{KeepsAll, StaysDropped}
use Rattle.hy_core.specs.States.{ReadyStates}
use Rattle.hy_core.proofs.OpenPlaces.{Sound, nothing_open, sound_apply}
use Rattle.hy_core.proofs.Follows.{Agrees, agrees_first, agree_of}
use Rattle.hy_core.proofs.LockStep.{step_same}
use Rattle.hy_core.proofs.FlowIsCalm.{flow_touches_calmly}
use Rattle.hy_core.proofs.SetRuns.{flow_is_dropped}

calm_sound : {C : Type 0} (t : Interaction C) (m : Copies) → IsCalm t m → Sound m → Sound (interpret copying t m).memory
calm_sound (Fetch s go) m h x = calm_sound (go (copying.read m s)) m h.1 x
calm_sound (Inspect s go) m h x = calm_sound (go (shape (copying.read m s))) m h.1 x
calm_sound (Perform o t) m h x = calm_sound t (apply copying o m) h.1 (sound_apply o m h.0 x)
calm_sound (Return c) m h x = x

record At {C : Type 0} (go : C → Interaction C) (x : State C Copies) (y : State C Cells) : Type 0 where
  control : x.control ≡ y.control
  agrees : Agrees x.memory y.memory
  sound : Sound x.memory
  calm : IsCalm (go x.control) x.memory

at_step : {C : Type 0} (go : C → Interaction C) (n : ℕ) (c d : C) (m : Copies) (s : Cells) → c ≡ d → Agrees m s → Sound m → ((k : ℕ) → StaysCalm go k c m)
    → At go (steps copying go n c m) (steps lending go n d s)
at_step go zero c d m s e a x calm = record { control = e; agrees = a; sound = x; calm = (calm 1).0 }
at_step go (suc n) c d m s e a x calm =
    let h = step_same (go c) m s a (calm 1).0 in
    let z = interpret copying (go c) m in
    subst (λ d. At go (steps copying go (suc n) c m) (steps lending go (suc n) d s)) e
    (at_step go n z.control (interpret lending (go c) s).control z.memory (interpret lending (go c) s).memory h.control h.memory
    (calm_sound (go c) m (calm 1).0 x) (λ k. (calm (suc k)).1))

keeps_at : (stage : Stage) {C : Type 0} (go : C → Interaction C) (n : ℕ) (c : C) (m : Copies) → ((k : ℕ) → StaysDropped stage go k c m)
    → let x = steps copying go n c m in KeepsAll stage (go x.control) x.memory
keeps_at stage go zero c m h = (h 1).0
keeps_at stage go (suc n) c m h = let z = interpret copying (go c) m in keeps_at stage go n z.control z.memory (λ k. (h (suc k)).1)

pub ready_states : ReadyStates
ready_states r sh flow k =
    let a = at_step (interaction (setting r)) k (start r.core r.input r.turns) (start r.core r.input r.turns) no_copies no_cells refl agrees_first
    nothing_open (λ k. flow_touches_calmly r sh flow k) in
    record {
      control = a.control;
      ready = record {
        agree = agree_of a.agrees.rank _ _ a.agrees.follows a.sound;
        calm = a.calm;
        keeps = keeps_at r.stage (interaction (setting r)) k (start r.core r.input r.turns) no_copies (λ k. flow_is_dropped r sh flow k);
      };
    }
