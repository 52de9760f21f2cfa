use Rattle.std.proofs.Common.{All, subst, take_all}
use Rattle.std.proofs.lemmas.List.Elements.{All-more}
use Rattle.hy_driver.specs.Lower.{IsSized}
use Rattle.hy_driver.proofs.lower.read_sizes.Goals as goal

pub loop-instr-preserved : goal.loop-instr-preserved
loop-instr-preserved c = All-more IsSized c.args.code.now c.loop-instr.instr-index _ c.loop-instr-test.true c.loop-instr.invariant c.read_size.ensures

pub returns : goal.returns
returns c = subst (All IsSized) (take_all c.loop-instr.instr-index c.args.code.now c.loop-instr-test.false) c.loop-instr.invariant
