use Rattle.std.proofs.Common.{◌∙◌, not, ap, sym, arith}
use Rattle.hy_object.specs.Lending.{is_given}
use Rattle.hy_store.specs.Frames.{kept, slot_in}
use Rattle.hy_store.specs.Represents.{abstract_slot}
use Rattle.hy_store.proofs.Counted.{all_below_if, some_fails}
use Rattle.hy_store.proofs.store.Store.was_lent.Goals as goal

pub returns-then-is_given : goal.returns-then-is_given
returns-then-is_given c = λ g s represents i a h frame accesses.
    let slots = (represents.waiting i a h).slots_are c.loop-k.k ∙ ap (λ f. abstract_slot (slot_in (kept c.args.self.now.frames f) c.loop-k.k)) frame in
    ap not (some_fails a.fun.accesses (λ k. not (is_given (s.slots a.frame k) c.args.name)) c.loop-k.k (omega arith)
    (ap not (ap (λ o. is_given o c.args.name) (slots ∙ ap abstract_slot (sym c.slot.ensures)) ∙ c.is_given.ensures ∙ c.if-is_given.true)))

pub returns : goal.returns
returns c = λ g s represents i a h frame accesses.
    ap not (all_below_if a.fun.accesses (λ k. not (is_given (s.slots a.frame k) c.args.name)) (λ k below.
    ap not (ap (λ o. is_given o c.args.name) ((represents.waiting i a h).slots_are k
    ∙ ap (λ f. abstract_slot (slot_in (kept c.args.self.now.frames f) k)) frame) ∙ c.loop-k.invariant k (omega arith))))
