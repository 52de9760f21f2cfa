use Rattle.std.proofs.Common.{◌+◌, ◌∙◌, None, arith}
use Rattle.hy_blocks.specs.Tables.{look}
use Rattle.hy_blocks.proofs.Moving.{cell_changed, cell_is, fits_as, none_moved, one_more}
use Rattle.hy_blocks.proofs.table.Table.move_words.Goals as goal

pub loop-i-init : goal.loop-i-init
loop-i-init c = none_moved (look c.args.self.now) c.args.to c.args.to_at c.args.from c.args.from_at

pub take-moved-requires : goal.take-moved-requires
take-moved-requires c = fits_as (look c.args.self.now c.args.from) (look c.loop-i.self c.args.from) (c.args.from_at + c.args.words) (c.args.from_at +
    c.loop-i.i)
    (c.loop-i.invariant.sizes c.args.from) (omega (arith, c.loop-i-test.true)) c.requires.from

pub put-requires : goal.put-requires
put-requires c =
    let there = fits_as (look c.args.self.now c.args.from) (look c.loop-i.self c.args.from) (c.args.from_at + c.args.words) (c.args.from_at + c.loop-i.i)
    (c.loop-i.invariant.sizes c.args.from) (omega (arith, c.loop-i-test.true)) c.requires.from in
    let takes = cell_changed (look c.loop-i.self) (look c.take-moved.new.self) c.args.from (c.args.from_at + c.loop-i.i) None there
    c.take-moved.ensures.left in
    fits_as (look c.args.self.now c.args.to) (look c.take-moved.new.self c.args.to) (c.args.to_at + c.args.words) (c.args.to_at + c.loop-i.i)
    (takes.sizes c.args.to ∙ c.loop-i.invariant.sizes c.args.to) (omega (arith, c.loop-i-test.true)) c.requires.to

pub loop-i-preserved : goal.loop-i-preserved
loop-i-preserved c =
    let there = fits_as (look c.args.self.now c.args.from) (look c.loop-i.self c.args.from) (c.args.from_at + c.args.words) (c.args.from_at + c.loop-i.i)
    (c.loop-i.invariant.sizes c.args.from) (omega (arith, c.loop-i-test.true)) c.requires.from in
    let takes = cell_changed (look c.loop-i.self) (look c.take-moved.new.self) c.args.from (c.args.from_at + c.loop-i.i) None there
    c.take-moved.ensures.left in
    let here = fits_as (look c.args.self.now c.args.to) (look c.take-moved.new.self c.args.to) (c.args.to_at + c.args.words) (c.args.to_at + c.loop-i.i)
    (takes.sizes c.args.to ∙ c.loop-i.invariant.sizes c.args.to) (omega (arith, c.loop-i-test.true)) c.requires.to in
    let puts = cell_changed (look c.take-moved.new.self) (look c.put.new.self) c.args.to (c.args.to_at + c.loop-i.i) c.take-moved.result here c.put.ensures in
    one_more (look c.args.self.now) c.args.to c.args.to_at c.args.from c.args.from_at c.args.words c.loop-i.i _ _ _ c.requires.apart
    c.loop-i-test.true c.loop-i.invariant
    c.take-moved.result takes (cell_is _ _ _ c.take-moved.ensures.cell) puts
