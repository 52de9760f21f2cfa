use Rattle.hy_tree.specs.Denotes.{type_of}
use Rattle.hy_front.specs.Unbuilt.{in_type}
use Rattle.hy_front.proofs.Lists.{params_walk}
use Rattle.hy_front.proofs.Walks.{then_met}
use Rattle.hy_base.proofs.Walks.{walked_more}
use Rattle.hy_front.specs.Noted.{note}
use Rattle.hy_front.proofs.declaration.look_at_params.Goals as goal

pub loop-p-preserved : goal.loop-p-preserved
loop-p-preserved c =
    walked_more note params_walk tt c.args.params.now c.args.first c.loop-p.p-index tt c.loop-p.first c.look_at_type-first.result c.p-item.result
    c.p-item.is c.loop-p-test.true c.loop-p.invariant
    (then_met c.p-item.result.span (in_type (type_of c.p-item.result.written)) c.loop-p.first c.meet.result c.look_at_type-first.result c.meet.ensures
    c.look_at_type-first.ensures)
