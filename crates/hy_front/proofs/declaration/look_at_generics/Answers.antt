use Rattle.std.proofs.Common.{ap, ◌∙◌}
use Rattle.hy_front.specs.Noted.{note, after}
use Rattle.hy_front.specs.Unbuilt.{in_uses}
use Rattle.hy_front.proofs.Lists.{generics_walk}
use Rattle.hy_base.proofs.Walks.{walked_more}
use Rattle.hy_front.proofs.declaration.look_at_generics.Goals as goal

pub loop-p-preserved : goal.loop-p-preserved
loop-p-preserved c =
    walked_more note generics_walk tt c.args.generics.now c.args.first c.loop-p.p-index tt c.loop-p.first c.look_at_uses-first.result c.p-item.result
    c.p-item.is c.loop-p-test.true c.loop-p.invariant
    (c.look_at_uses-first.ensures ∙ ap (λ bounds. after (in_uses bounds) c.loop-p.first) c.as_slice.ensures)
