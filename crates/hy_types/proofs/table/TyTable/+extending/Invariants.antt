use Rattle.std.proofs.Common.{◌*◌, ◌+◌}
use Rattle.hy_types.proofs.Solving.{highest, Extending}
use Rattle.hy_types.proofs.table.TyTable.+extending.Given as goal

abbrev pub decreases-extend : goal.decreases-extend
decreases-extend l = 2 * l.wanted.at + 1

abbrev pub decreases-extend_all : goal.decreases-extend_all
decreases-extend_all l = 2 * highest l.wanted.now

abbrev pub invariant-extend_all-loop-place : goal.invariant-extend_all-loop-place
invariant-extend_all-loop-place l = Extending l.self l.wanted l.given l.initial.found l.found l.place
