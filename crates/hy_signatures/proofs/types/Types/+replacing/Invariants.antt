use Rattle.std.proofs.Common.{◌*◌, ◌+◌}
use Rattle.hy_types.specs.Types.{type_of}
use Rattle.hy_types.proofs.Solving.{highest}
use Rattle.hy_signatures.specs.PlainTypes.{replaced}
use Rattle.hy_signatures.specs.SolutionShown.{found_shown}
use Rattle.hy_signatures.proofs.Numbering.{Numbering}
use Rattle.hy_signatures.proofs.types.Types.+replacing.Given as goal

abbrev pub decreases-replace : goal.decreases-replace
decreases-replace l = 2 * l.id.at + 1

abbrev pub decreases-replace_all : goal.decreases-replace_all
decreases-replace_all l = 2 * highest l.ids.now

abbrev pub invariant-replace_all-loop-id : goal.invariant-replace_all-loop-id
invariant-replace_all-loop-id l =
    Numbering (λ id. replaced (found_shown l.fn.self l.found) (type_of l.fn.self id)) l.ids l.fn.self l.self l.made.items l.id-index
