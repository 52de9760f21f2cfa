use Rattle.std.proofs.Common.{get_or, length, sym, ap, subst, ◌∙◌, arith, true≢false}
use Rattle.std.proofs.lemmas.Option.{slice_get-get_or}
use Rattle.hy_types.specs.declared.kinds.TyId.{TyId}
use Rattle.hy_types.specs.declared.kinds.Ty.TheVariants as ty
use Rattle.hy_types.specs.Types.{AllBelow, mentioned}
use Rattle.hy_types.proofs.Reading.{AllBelow-le, below_at}
use Rattle.hy_types.proofs.Solving.{highest-below, highest-above, parameters_at}
use Rattle.hy_types.proofs.Asked.{parameters_more}
use Rattle.hy_types.proofs.table.TyTable.+below.Goals as goal

pub all_below-is_below-requires : goal.all_below-is_below-requires
all_below-is_below-requires t c =
    let d : TyId = record { at = 0 } in
    let i = c.loop-id.id-index in
    let high = highest-above c.args.ids.now i (get_or c.args.ids.now i d) (slice_get-get_or c.args.ids.now i d c.loop-id-test.true) in
    (omega (arith, high, c.decreases), below_at (length c.args.self.now.types) c.args.ids.now i d c.requires c.loop-id-test.true)

pub all_below-returns-then-not-is_below : goal.all_below-returns-then-not-is_below
all_below-returns-then-not-is_below t c =
    let d : TyId = record { at = 0 } in
    let i = c.loop-id.id-index in (
      λ e. absurd (true≢false (sym e)),
      λ h. sym c.if-not-is_below.true
          ∙ c.is_below.ensures.1 (parameters_at c.args.self.now c.args.count c.args.ids.now i (get_or c.args.ids.now i d) h
          (slice_get-get_or c.args.ids.now i d c.loop-id-test.true)),
    )

pub all_below-loop-id-preserved : goal.all_below-loop-id-preserved
all_below-loop-id-preserved t c =
    parameters_more c.args.count c.args.self.now c.args.ids.now c.loop-id.id-index (record { at = 0 }) c.loop-id-test.true c.loop-id.invariant
    (c.is_below.ensures.0 c.if-not-is_below.false)

pub is_below-all_below-requires : goal.is_below-all_below-requires
is_below-all_below-requires t c =
    let parts = c.in-Tuple.is ∙ ap ty.Tuple (sym c.as_slice.ensures) in
    let below : AllBelow c.args.id.at c.as_slice.result.now = subst (λ row. AllBelow c.args.id.at (mentioned row)) parts c.get.ensures.before in
    let high = highest-below c.args.id.at c.as_slice.result.now below in
    (omega (arith, high, c.decreases), AllBelow-le c.args.id.at (length c.args.self.now.types) c.as_slice.result.now (omega (arith, c.requires)) below)
