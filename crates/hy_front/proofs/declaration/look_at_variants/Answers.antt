use Rattle.std.proofs.Common.{ap, ◌∙◌}
use Rattle.hy_tree.specs.Denotes.{block_of, variant_of}
use Rattle.hy_front.specs.Noted.{note, after}
use Rattle.hy_front.specs.Unbuilt.{when, is_special, in_block}
use Rattle.hy_front.proofs.Lists.{variants_walk}
use Rattle.hy_base.proofs.Walks.{walked_more, then}
use Rattle.hy_front.proofs.declaration.look_at_variants.Goals as goal

pub loop-v-preserved : goal.loop-v-preserved
loop-v-preserved c =
    let one = c.v-item.result in
    let meant = c.args.meant.now in
    walked_more note (variants_walk meant) tt c.args.variants.now c.args.first c.loop-v.v-index tt c.loop-v.first c.look_at_block-first.result one
    c.v-item.is c.loop-v-test.true c.loop-v.invariant
    (then note (when (is_special (variant_of one)) one.span) (in_block meant (block_of one.block)) c.loop-v.first c.meet_when-first.result
    c.look_at_block-first.result
    (c.meet_when-first.ensures ∙ ap (λ special. after (when special one.span) c.loop-v.first) c.is_special.ensures) c.look_at_block-first.ensures)
