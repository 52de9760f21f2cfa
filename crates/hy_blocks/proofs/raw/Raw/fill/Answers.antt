use Rattle.std.proofs.Common.{None, refl, ap, ◌∙◌, arith, length}
use Rattle.hy_blocks.proofs.Filling.{as_long, one_more, all_filled}
use Rattle.hy_blocks.proofs.raw.Raw.fill.Goals as goal

pub loop-at-init : goal.loop-at-init
loop-at-init c = refl

pub put-requires : goal.put-requires
put-requires c =
    let count = c.words-at-end.ensures.words in
    let long = as_long c.args.first.now c.args.self.now c.loop-at.at (omega (arith, c.loop-at-test.true, count)) c.requires in
    omega (arith, ap length c.loop-at.invariant, long, c.loop-at-test.true, count, c.requires)

pub loop-at-preserved : goal.loop-at-preserved
loop-at-preserved c =
    let count = c.words-at-end.ensures.words in
    c.put.ensures ∙ one_more c.args.first.now c.args.self.now c.loop-at.self c.loop-at.at c.cell.result None c.loop-at.invariant c.cell.ensures
    (omega (arith, c.loop-at-test.true, count)) c.requires

pub returns : goal.returns
returns c =
    let count = c.words-at-end.ensures.words in
    c.loop-at.invariant ∙ all_filled c.args.first.now c.args.self.now c.loop-at.at (omega (arith, c.loop-at-test.false, c.loop-at.auto.at-end, count))
