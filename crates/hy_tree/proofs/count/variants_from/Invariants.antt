use Rattle.hy_tree.specs.Denotes.{variant_of}
use Rattle.hy_tree.specs.Numbers.{count_variant}
use Rattle.hy_tree.proofs.Lists.{HasCounted}
use Rattle.hy_tree.proofs.count.variants_from.Given as goal

abbrev pub invariant-loop-variant : goal.invariant-loop-variant
invariant-loop-variant l = HasCounted variant_of count_variant l.fn.so_far l.variants l.variant-index l.total
