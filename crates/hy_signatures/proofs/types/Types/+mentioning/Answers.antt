use Rattle.std.proofs.Common.{get_or, length, sym, ap, subst, ◌∙◌, arith}
use Rattle.std.proofs.lemmas.Option.{slice_get-get_or}
use Rattle.hy_types.specs.declared.kinds.Ty.TheVariants as ty
use Rattle.hy_types.specs.declared.kinds.TyId.{TyId}
use Rattle.hy_types.specs.Types.{AllBelow, mentioned}
use Rattle.hy_types.proofs.Reading.{AllBelow-le, below_at}
use Rattle.hy_types.proofs.Solving.{highest-below, highest-above}
use Rattle.hy_signatures.proofs.types.Types.+mentioning.Goals as goal

pub mentioned_in-mentions-requires : goal.mentioned_in-mentions-requires
mentioned_in-mentions-requires t c =
    let d : TyId = record { at = 0 } in
    let i = c.loop-id.id-index in
    let high = highest-above c.args.ids.now i (get_or c.args.ids.now i d) (slice_get-get_or c.args.ids.now i d c.loop-id-test.true) in
    (omega (arith, high, c.decreases), below_at (length c.args.self.now.types) c.args.ids.now i d c.requires c.loop-id-test.true)

pub mentions-mentioned_in-requires : goal.mentions-mentioned_in-requires
mentions-mentioned_in-requires t c =
    let parts = c.in-Tuple.is ∙ ap ty.Tuple (sym c.as_slice.ensures) in
    let below : AllBelow c.args.id.at c.as_slice.result.now = subst (λ row. AllBelow c.args.id.at (mentioned row)) parts c.get.ensures.before in
    let high = highest-below c.args.id.at c.as_slice.result.now below in
    (omega (arith, high, c.decreases), AllBelow-le c.args.id.at (length c.args.self.now.types) c.as_slice.result.now (omega (arith, c.requires)) below)
