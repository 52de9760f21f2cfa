use Rattle.std.proofs.Common.{◌-◌, sym, ◌∙◌, arith}
use Rattle.hy_object.proofs.Steps.{no_count, row_goes_on, row_ends}
use Rattle.hy_object.proofs.number.row.Goals as goal

pub returns-in_default : goal.returns-in_default
returns-in_default g c = sym c.loop-i.invariant.1 ∙ no_count (g.row.N - c.loop-i.i) _ _ (omega arith) c.in_default.ensures

pub loop-i-preserved : goal.loop-i-preserved
loop-i-preserved g c =
    row_goes_on g.row.N c.loop-i.i c.in-Some.n c.loop-i.row c.loop-i.rest.now c.in-Some.behind.now _ c.loop-i-test.true c.loop-i.invariant.0
    c.in-Some.ensures c.loop-i.invariant.1

pub returns : goal.returns
returns g c = row_ends g.row.N c.loop-i.i c.loop-i.row c.loop-i.rest.now _ c.loop-i-test.false c.loop-i.invariant.0 c.loop-i.invariant.1
