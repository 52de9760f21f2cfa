use Rattle.std.proofs.Common.{◌≡◌, drop, map}
use Rattle.hy_types.specs.Types.{type_of}
use Rattle.hy_signatures.specs.Signatures.{solved}
use Rattle.hy_signatures.specs.SignaturesShown.{parameter_shown}
use Rattle.hy_signatures.specs.SolutionShown.{AreFound, found_shown}
use Rattle.hy_signatures.proofs.types.Types.solve.Given as goal

abbrev pub invariant-loop-k : goal.invariant-loop-k
invariant-loop-k l = record {
  found : solved (map (parameter_shown l.self) (drop l.k l.params)) (map (type_of l.self) (drop l.k l.given)) (found_shown l.self l.found)
      ≡ solved (map (parameter_shown l.self) l.params) (map (type_of l.self) l.given) (found_shown l.self l.fn.found);
  known : AreFound l.self l.found;
}
