use Rattle.std.proofs.Common.{◌≡◌, map, take}
use Rattle.hy_tree.specs.Denotes.{variant_of}
use Rattle.hy_signatures.specs.Signatures.{modes_of}
use Rattle.hy_signatures.proofs.signatures.modes.Given as goal

abbrev pub invariant-loop-v : goal.invariant-loop-v
invariant-loop-v l = l.modes.items ≡ modes_of (map variant_of (take l.v-index l.variants))
