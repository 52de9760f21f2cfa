use Rattle.std.proofs.Common.{◌≡◌, ◌++◌, drop, take}
use Rattle.hy_blocks.proofs.raw.Raw.fill.Given as goal

abbrev pub invariant-loop-at : goal.invariant-loop-at
invariant-loop-at l = l.self ≡ take l.at l.first ++ drop l.at l.initial.self
