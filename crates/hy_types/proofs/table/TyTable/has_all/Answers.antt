use Rattle.std.proofs.Common.{length, sym, ◌∙◌, true≢false}
use Rattle.hy_types.proofs.Reading.{below_at}
use Rattle.hy_types.proofs.Asked.{below_more}
use Rattle.hy_types.proofs.table.TyTable.has_all.Goals as goal

pub returns-then-not-has : goal.returns-then-not-has
returns-then-not-has c = (
  λ e. absurd (true≢false (sym e)),
  λ h. sym c.if-not-has.true
      ∙ c.has.ensures.1 (below_at (length c.args.self.now.types) c.args.ids.now c.loop-id.id-index (record { at = 0 }) h c.loop-id-test.true),
)

pub loop-id-preserved : goal.loop-id-preserved
loop-id-preserved c =
    below_more (length c.args.self.now.types) c.args.ids.now c.loop-id.id-index (record { at = 0 }) c.loop-id-test.true c.loop-id.invariant
    (c.has.ensures.0 c.if-not-has.false)
