use Rattle.std.proofs.Common.{◌≡◌, ◌-◌, length}
use Rattle.hy_machine.specs.Walks.{Walked}
use Rattle.hy_machine.proofs.machine.Machine.run_to_halt.Given as goal

abbrev pub invariant-loop-self : goal.invariant-loop-self
invariant-loop-self g l =
    Walked l.object l.initial.self l.self (g.K.Sink.tells l.initial.out) (g.K.Sink.tells l.out) × (l.self.counts ≡ l.initial.self.counts)
    × (g.K.Sink.faults l.out ≡ g.K.Sink.faults l.initial.out)

abbrev pub decreases-loop-self : goal.decreases-loop-self
decreases-loop-self g l = length l.instrs - l.self.place
