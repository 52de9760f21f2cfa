use Rattle.std.proofs.Common.{◌≡◌, drop, map}
use Rattle.hy_signatures.specs.Signatures as signatures
use Rattle.hy_signatures.specs.SignaturesShown.{parameter_shown}
use Rattle.hy_signatures.proofs.types.Types.is_wanted.Given as goal

abbrev pub invariant-loop-p : goal.invariant-loop-p
invariant-loop-p l =
    signatures.is_wanted l.place (map (parameter_shown l.self) (drop l.p-index l.params)) ≡ signatures.is_wanted l.place (map
    (parameter_shown l.self) l.params)
