use Rattle.std.proofs.Common.{map}
use Rattle.hy_tree.specs.Denotes.{variant_of}
use Rattle.hy_front.specs.Unbuilt.{in_variants}
use Rattle.hy_base.proofs.Walks.{HasWalked}
use Rattle.hy_front.specs.Noted.{note}
use Rattle.hy_front.proofs.declaration.look_at_variants.Given as goal

abbrev pub invariant-loop-v : goal.invariant-loop-v
invariant-loop-v l = HasWalked note (λ (s : Unit {0}) xs. in_variants l.meant (map variant_of xs)) tt l.variants l.fn.first l.v-index tt l.first
