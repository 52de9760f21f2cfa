use Rattle.std.proofs.Common.{◌∙◌, sym}
use Rattle.hy_object.specs.Controls.{returns as goes}
use Rattle.hy_store.specs.Switches.{Returned, Waits}
use Rattle.hy_store.specs.Returns.{in_frame}
use Rattle.hy_store.specs.Represents.{represented, abstract_role}
use Rattle.hy_store.proofs.Returning.{leaves_words, passes_as, passes_stuck, role_known}
use Rattle.hy_store.proofs.store.Store.leave.Goals as goal

pub returns-in_err-x : goal.returns-in_err-x
returns-in_err-x c = passes_stuck _ _ _ _ _ _ _ _ _ c.from_residual.ensures.1 (λ g s represents waits.
    leaves_words g c.args.self.now c.args.fun.now s represents c.args.word ∙ c.in_err-x.ensures.checks g s represents (λ x. goes s x s.now.role s.callers))

pub returns : goal.returns
returns c = passes_as c.args.fun.now c.args.next.now c.args.self.now c.hand_back.new.self (Waits c.args.caller c.args.next.now) Returned
    (λ s. goes s (in_frame c.in_ok-x.x.range) (abstract_role c.in-Some.role) s.callers) _ (λ g s represents waits.
    leaves_words g c.args.self.now c.args.fun.now s represents c.args.word
    ∙ c.in_ok-x.ensures.checks g s represents (λ x. goes s x s.now.role s.callers)
    ∙ role_known g c.args.self.now c.args.fun.now s represents c.in-Some.role c.in_ok-x.x.range (represented g s c.in_ok-x.x).way
    (represented g s c.in_ok-x.x).chain (sym c.in-Some.ensures))
    c.hand_back.result (c.hand_back.ensures c.args.next.now)
