use Rattle.std.proofs.Common.{◌≡◌, replicate}
use Rattle.hy_store.specs.declared.frame.Slot.TheVariants.{Empty}
use Rattle.hy_store.proofs.starting.empty_slots.Given as goal

abbrev pub invariant-loop : goal.invariant-loop
invariant-loop l = l.row.items ≡ replicate l.counter Empty
