use Rattle.std.proofs.Common.{◌≡◌, drop, map}
use Rattle.hy_tree.specs.Denotes.{variant_of}
use Rattle.hy_tree.specs.Parts.{any_keyword}
use Rattle.hy_tree.proofs.declaration.Callable.is_bundle.Given as goal

abbrev pub invariant-loop-variant : goal.invariant-loop-variant
invariant-loop-variant l = any_keyword (map variant_of (drop l.variant-index l.self.variants)) ≡ any_keyword (map variant_of l.self.variants)
