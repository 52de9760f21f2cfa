use Rattle.std.proofs.Common.{◌∙◌, None}
use Rattle.hy_object.specs.declared.stuck.Kind.TheVariants as kind
use Rattle.hy_object.specs.Checks.{check}
use Rattle.hy_object.specs.Controls.{frees_frame, goes_back, leaves_none}
use Rattle.hy_store.specs.Opened.{abstract_range}
use Rattle.hy_store.specs.Switches.{Returned, Waits}
use Rattle.hy_store.proofs.Following.{checked}
use Rattle.hy_store.proofs.Returning.{finishes, passes_as, passes_stuck}
use Rattle.hy_store.proofs.store.Store.finish.Goals as goal

pub returns-in_err-check : goal.returns-in_err-check
returns-in_err-check c = λ to next. passes_stuck _ _ _ _ _ _ _ _ _ c.from_residual.ensures.1 (λ g s represents waits.
    finishes s c.args.x.range to waits
    ∙ checked s kind.Slot _ _ (check s kind.Lost (leaves_none s (abstract_range c.args.x.range)) (goes_back (frees_frame s) s.callers)) _
    (c.is_closed.ensures g s represents) (c.in_err-check.ensures s _))

pub returns-in_err-check-2 : goal.returns-in_err-check-2
returns-in_err-check-2 c = λ to next. passes_stuck _ _ _ _ _ _ _ _ _ c.from_residual-in_err-check-2.ensures.1 (λ g s represents waits.
    finishes s c.args.x.range to waits
    ∙ checked s kind.Slot _ _ (check s kind.Lost (leaves_none s (abstract_range c.args.x.range)) (goes_back (frees_frame s) s.callers)) _
    (c.is_closed.ensures g s represents) (c.in_ok-check.ensures s _)
    ∙ checked s kind.Lost _ _ (goes_back (frees_frame s) s.callers) _ (c.leaves_none.ensures g s represents) (c.in_err-check-2.ensures s _))

pub returns : goal.returns
returns c = λ to next. passes_as c.args.fun.now next c.args.self.now c.end_activation.new.self (Waits None next) Returned
    (λ s. goes_back (frees_frame s) s.callers) _ (λ g s represents waits.
    finishes s c.args.x.range to waits
    ∙ checked s kind.Slot _ _ (check s kind.Lost (leaves_none s (abstract_range c.args.x.range)) (goes_back (frees_frame s) s.callers)) _
    (c.is_closed.ensures g s represents) (c.in_ok-check.ensures s _)
    ∙ checked s kind.Lost _ _ (goes_back (frees_frame s) s.callers) _ (c.leaves_none.ensures g s represents) (c.in_ok-check-2.ensures s _))
    c.end_activation.result (c.end_activation.ensures c.args.fun.now next)
