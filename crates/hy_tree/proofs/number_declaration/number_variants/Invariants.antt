use Rattle.hy_tree.specs.Denotes.{variant_of}
use Rattle.hy_tree.specs.Numbers.{count_variant, number_variant}
use Rattle.hy_tree.proofs.Lists.{HasNumbered}
use Rattle.hy_tree.proofs.number_declaration.number_variants.Given as goal

abbrev pub invariant-loop-variant : goal.invariant-loop-variant
invariant-loop-variant l = HasNumbered variant_of count_variant number_variant l.fn.next l.variants l.variant-index l.made l.next
