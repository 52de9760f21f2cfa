use Rattle.hy_tree.specs.Denotes.{variant_of, callable_of}
use Rattle.hy_check.specs.Refusals as refusals
use Rattle.hy_check.proofs.Lists.{met_more}
use Rattle.hy_check.proofs.returns.check_callable.Goals as goal

pub loop-v-preserved : goal.loop-v-preserved
loop-v-preserved c source =
    met_more variant_of (refusals.without_return source (callable_of c.args.c.now)) c.as_slice-v-items.result.now c.loop-v.v-index
    c.args.first c.loop-v.first c.check_variant-first.result c.v-item.result
    c.v-item.is c.loop-v-test.true (c.loop-v.invariant source) (c.check_variant-first.ensures source)
