use Rattle.std.proofs.Common.{◌≡◌, ◌+◌, ◌∙◌, nat_le, true, ap, not, sym, arith, rules}
use Rattle.hy_object.specs.declared.object.Fun.{Fun}
use Rattle.hy_object.specs.Checks.{is_empty, own_slot}
use Rattle.hy_store.specs.Represents.{abstract_slot}
use Rattle.hy_store.proofs.Counted.{all_below_if, joined, neither, some_fails}
use Rattle.hy_store.proofs.store.Store.can_give.Goals as goal

pub returns-then-is_empty : goal.returns-then-is_empty
returns-then-is_empty c = λ g s represents.
    let is = ap not (ap is_empty (represents.slots (c.args.slot + c.loop-k.k) ∙ ap abstract_slot (sym c.slot.ensures)) ∙ c.is_empty.ensures
    ∙ c.if-is_empty.true) in
    neither (nat_le (c.args.slot + c.args.callee.now.accesses) s.now.fun.slots) _
    (some_fails c.args.callee.now.accesses (λ k. not (is_empty (own_slot s (c.args.slot + k)))) c.loop-k.k (omega arith) is)

pub returns : goal.returns
returns c = λ g s represents.
    let fits : nat_le (c.args.slot + c.args.callee.now.accesses) c.args.fun.now.slots ≡ true = search rules in
    joined (nat_le (c.args.slot + c.args.callee.now.accesses) s.now.fun.slots) _
    (ap (λ (f : Fun). nat_le (c.args.slot + c.args.callee.now.accesses) f.slots) (sym represents.fun_is) ∙ fits)
    (all_below_if c.args.callee.now.accesses (λ k. not (is_empty (own_slot s (c.args.slot + k))))
    (λ k below. ap not (ap is_empty (represents.slots (c.args.slot + k)) ∙ c.loop-k.invariant k (omega arith))))
