use Rattle.std.proofs.Common.{Option, ℕ, sym, subst}
use Rattle.hy_object.specs.Controls.{returns}
use Rattle.hy_object.specs.States.{Called}
use Rattle.hy_store.specs.declared.frame.Role.{Role}
use Rattle.hy_store.specs.Switches.{StoreSwitches, Returned, Waits}
use Rattle.hy_store.specs.Returns.{in_frame}
use Rattle.hy_store.specs.Represents.{abstract_role}
use Rattle.hy_store.proofs.store.Store.hand_back.Goals as goal

pub returns-in-Some : goal.returns-in-Some
returns-in-Some c = λ next.
    subst (λ (role : Role). StoreSwitches c.args.fun.now next c.args.self.now c.fill.new.self c.fill.result (Waits c.args.caller next) Returned
    (λ s. returns s (in_frame c.args.x.range) (abstract_role role) s.callers)) (sym c.in-Called.is)
    (subst (λ (caller : Option ℕ). StoreSwitches c.args.fun.now next c.args.self.now c.fill.new.self c.fill.result (Waits caller next) Returned
    (λ s. returns s (in_frame c.args.x.range) (Called c.in-Called.to) s.callers)) (sym c.in-Some.is)
    (c.fill.ensures next))

pub returns-in-None : goal.returns-in-None
returns-in-None c = λ next.
    subst (λ (role : Role). StoreSwitches c.args.fun.now next c.args.self.now c.finish.new.self c.finish.result (Waits c.args.caller next) Returned
    (λ s. returns s (in_frame c.args.x.range) (abstract_role role) s.callers)) (sym c.in-Called.is)
    (subst (λ (caller : Option ℕ). StoreSwitches c.args.fun.now next c.args.self.now c.finish.new.self c.finish.result (Waits caller next) Returned
    (λ s. returns s (in_frame c.args.x.range) (Called c.in-Called.to) s.callers)) (sym c.in-None.is)
    (c.finish.ensures c.in-Called.to next))
