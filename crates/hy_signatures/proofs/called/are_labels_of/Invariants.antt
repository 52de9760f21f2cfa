use Rattle.std.proofs.Common.{◌≡◌, drop}
use Rattle.hy_signatures.specs.Signatures as signatures
use Rattle.hy_signatures.proofs.CalledNames.{labels, names}
use Rattle.hy_signatures.proofs.called.are_labels_of.Given as goal

abbrev pub invariant-loop-k : goal.invariant-loop-k
invariant-loop-k l =
    signatures.same_labels (labels (drop l.k l.args)) (names (drop l.k l.fields)) ≡ signatures.same_labels (labels l.args) (names l.fields)
