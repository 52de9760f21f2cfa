use Rattle.std.proofs.Common.{◌≡◌}
use Rattle.hy_runs.specs.Taking.{Filling}
use Rattle.hy_runs.proofs.line.Line.fill.Given as goal

abbrev pub invariant-loop : goal.invariant-loop
invariant-loop g l = Filling (g.I.Source.tells l.initial.input) (g.I.Source.tells l.input) l.self l.counter
    × (g.I.Source.faults l.input ≡ g.I.Source.faults l.initial.input)
