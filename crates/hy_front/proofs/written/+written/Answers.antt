use Rattle.hy_front.proofs.Lists.{types_walk}
use Rattle.hy_base.proofs.Walks.{walked_more}
use Rattle.hy_front.specs.Noted.{note}
use Rattle.hy_front.proofs.written.+written.Goals as goal

pub look_at_types-loop-part-preserved : goal.look_at_types-loop-part-preserved
look_at_types-loop-part-preserved t c =
    walked_more note types_walk tt c.args.parts.now c.args.first c.loop-part.part-index tt c.loop-part.first c.look_at_type-first.result c.part-item.result
    c.part-item.is c.loop-part-test.true c.loop-part.invariant c.look_at_type-first.ensures
