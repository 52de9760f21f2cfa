-- One control over the two memories: both runs are in one state, whatever the control is.
use Rattle.std.proofs.Common.{◌≡◌, ℕ, zero, suc, refl, sym, ap, ◌∙◌, subst}
use Rattle.hy_core.specs.Values.{Unset, shape}
use Rattle.hy_core.specs.Memory.{Copies, Cells, copying, lending, no_copies, no_cells}
use Rattle.hy_core.specs.Runs.{Effect, Store, Change, Clear, Lend, Hand, Close, Quit, Interaction, Fetch, Inspect, Perform, Return, apply, State, interpret}
use Rattle.hy_core.specs.Runs.{steps}
use Rattle.hy_core.specs.Calm.{May, IsCalm, StaysCalm}
use Rattle.hy_core.specs.Statements.{interaction, start}
use Rattle.hy_core.specs.Meaning.{report, setting, CopyingAndLendingAgree, MeaningsAgree}
use Rattle.hy_core.proofs.Follows.{Agrees, agrees_read, agrees_look, agrees_store, agrees_lend, agrees_hand, agrees_close, agrees_first}

agrees_op : (op : Effect) (m : Copies) (s : Cells) → Agrees m s → May op m → Agrees (apply copying op m) (apply lending op s)
agrees_op (Store t v) m s a may = agrees_store m s a t v may
agrees_op (Change t v) m s a may = agrees_store m s a t v may
agrees_op (Clear t fate) m s a may = agrees_store m s a t Unset may
agrees_op (Lend k t way) m s a may = agrees_lend m s a k t way may
agrees_op (Hand k l) m s a may = agrees_hand m s a k l may
agrees_op (Quit i n) m s a may = a
agrees_op (Close k) m s a may = agrees_close m s a k may

pub record Same {C : Type 0} (x : State C Copies) (y : State C Cells) : Type 0 where
  pub control : x.control ≡ y.control
  pub memory : Agrees x.memory y.memory

pub step_same : {C : Type 0} (t : Interaction C) (m : Copies) (s : Cells) → Agrees m s → IsCalm t m → Same (interpret copying t m) (interpret lending t s)
step_same (Fetch p go) m s a calm =
    subst (λ v. Same (interpret copying (go (copying.read m p)) m) (interpret lending (go v) s)) (agrees_read m s a p calm.0)
    (step_same (go (copying.read m p)) m s a calm.1)
step_same (Inspect p go) m s a calm =
    subst (λ v. Same (interpret copying (go (shape (copying.read m p))) m) (interpret lending (go v) s)) (agrees_look m s a p calm.0)
    (step_same (go (shape (copying.read m p))) m s a calm.1)
step_same (Perform op t) m s a calm = step_same t (apply copying op m) (apply lending op s) (agrees_op op m s a calm.0) calm.1
step_same (Return c) m s a calm = record { control = refl; memory = a }

runs_same : {C : Type 0} (go : C → Interaction C) (n : ℕ) (c : C) (m : Copies) (s : Cells) → Agrees m s → StaysCalm go n c m
    → (steps copying go n c m).control ≡ (steps lending go n c s).control
runs_same go zero c m s a calm = refl
runs_same go (suc n) c m s a calm =
    let h = step_same (go c) m s a calm.0 in
    let x = interpret copying (go c) m in
    let y = interpret lending (go c) s in
    runs_same go n x.control x.memory y.memory h.memory calm.1 ∙ ap (λ d. (steps lending go n d y.memory).control) h.control

pub agreement : CopyingAndLendingAgree
agreement r k calm = ap (report r.input r.turns) (runs_same (interaction (setting r)) k (start r.core r.input r.turns) no_copies no_cells agrees_first calm)

pub meanings_agree : MeaningsAgree
meanings_agree r calm x = (
  λ h. record { count = h.count; seen = sym (agreement r h.count (calm h.count)) ∙ h.seen; halt = h.halt; halted = h.halted },
  λ h. record { count = h.count; seen = agreement r h.count (calm h.count) ∙ h.seen; halt = h.halt; halted = h.halted },
)
