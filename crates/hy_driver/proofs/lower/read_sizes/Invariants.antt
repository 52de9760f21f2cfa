use Rattle.std.proofs.Common.{All, take}
use Rattle.hy_driver.specs.Lower.{IsSized}
use Rattle.hy_driver.proofs.lower.read_sizes.Given as goal

abbrev pub invariant-loop-instr : goal.invariant-loop-instr
invariant-loop-instr l = All IsSized (take l.instr-index l.code)
