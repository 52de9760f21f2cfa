use Rattle.std.proofs.Common.{◌≡◌, ◌*◌, ◌+◌, drop}
use Rattle.hy_types.specs.Types.{plain_types, type_of}
use Rattle.hy_types.proofs.Solving.{highest}
use Rattle.hy_signatures.specs.PlainTypes.{matched_all}
use Rattle.hy_signatures.specs.SolutionShown.{AreFound, found_shown}
use Rattle.hy_signatures.proofs.types.Types.+matching.Given as goal

abbrev pub decreases-matches : goal.decreases-matches
decreases-matches l = 2 * l.wanted.at + 1

abbrev pub decreases-all_match : goal.decreases-all_match
decreases-all_match l = 2 * highest l.wanted.now

abbrev pub invariant-all_match-loop-k : goal.invariant-all_match-loop-k
invariant-all_match-loop-k l = record {
  found : matched_all (plain_types (type_of l.self) (drop l.k l.wanted)) (plain_types (type_of l.self) (drop l.k l.given)) (found_shown l.self l.found)
      ≡ matched_all (plain_types (type_of l.self) l.wanted) (plain_types (type_of l.self) l.given) (found_shown l.self l.fn.found);
  known : AreFound l.self l.found;
}
