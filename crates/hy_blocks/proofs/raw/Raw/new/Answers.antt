use Rattle.hy_blocks.proofs.Flags.{begun}
use Rattle.hy_blocks.proofs.raw.Raw.new.Goals as goal

pub invariant_of-result : goal.invariant_of-result
invariant_of-result c = begun _ _ _ _ _ _ c.ranges.words.fits c.in_ok-base.ensures (c.in_ok-set.ensures.items_if_clones_equal (λ y e. e))
