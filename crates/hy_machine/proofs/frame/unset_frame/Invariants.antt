use Rattle.std.proofs.Common.{◌≡◌, replicate}
use Rattle.hy_machine.specs.Machine.{Unset}
use Rattle.hy_machine.proofs.frame.unset_frame.Given as goal

abbrev pub invariant-loop : goal.invariant-loop
invariant-loop l = l.frame.items ≡ replicate l.counter Unset
