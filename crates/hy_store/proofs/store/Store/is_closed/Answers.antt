use Rattle.std.proofs.Common.{◌∙◌, ap, not, sym, arith}
use Rattle.hy_object.specs.declared.object.Fun.{Fun}
use Rattle.hy_object.specs.Checks.{own_slot}
use Rattle.hy_object.specs.Controls.{is_open}
use Rattle.hy_object.specs.States.{all_below}
use Rattle.hy_store.specs.Represents.{abstract_slot}
use Rattle.hy_store.proofs.Counted.{all_below_if, some_fails}
use Rattle.hy_store.proofs.store.Store.is_closed.Goals as goal

pub returns-then-is_open : goal.returns-then-is_open
returns-then-is_open c = λ g s represents.
    let open_there = ap not (ap is_open (represents.slots c.loop-k.k ∙ ap abstract_slot (sym c.slot.ensures)) ∙ c.is_open.ensures ∙ c.if-is_open.true) in
    ap (λ (f : Fun). all_below f.slots (λ k. not (is_open (own_slot s k)))) (sym represents.fun_is)
    ∙ some_fails c.args.fun.now.slots (λ k. not (is_open (own_slot s k))) c.loop-k.k (omega arith) open_there

pub returns : goal.returns
returns c = λ g s represents.
    ap (λ (f : Fun). all_below f.slots (λ k. not (is_open (own_slot s k)))) (sym represents.fun_is)
    ∙ all_below_if c.args.fun.now.slots (λ k. not (is_open (own_slot s k))) (λ k below. ap not (ap is_open (represents.slots k)
    ∙ c.loop-k.invariant k (omega arith)))
