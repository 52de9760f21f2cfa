use Rattle.std.proofs.Common.{◌≡◌, true, map}
use Rattle.hy_signatures.specs.Signatures as signatures
use Rattle.hy_signatures.specs.SignaturesShown.{parameter_shown}
use Rattle.hy_signatures.proofs.types.Types.are_determined.Given as goal

abbrev pub invariant-loop-place : goal.invariant-loop-place
invariant-loop-place l = signatures.are_determined l.place (map (parameter_shown l.self) l.params) ≡ true
