use Rattle.std.proofs.Common.{arith}
use Rattle.hy_types.specs.Words.{none}
use Rattle.hy_types.proofs.Knowing.{known_step}
use Rattle.hy_types.proofs.Reading.{below_at}
use Rattle.hy_types.proofs.sizes.total.Goals as goal

pub bounds-sizes-part : goal.bounds-sizes-part
bounds-sizes-part c = below_at _ c.args.parts.now c.loop-part.part-index _ c.requires c.loop-part-test.true

pub loop-part-init : goal.loop-part-init
loop-part-init c = λ table right. (none, omega arith)

pub loop-part-preserved : goal.loop-part-preserved
loop-part-preserved c =
    known_step c.args.sizes.now c.args.parts.now c.loop-part.part-index _ _ c.loop-part.sum c.plus-sum.result c.loop-part-test.true c.requires
    c.plus-sum.ensures c.loop-part.invariant
