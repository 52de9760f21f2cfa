use Rattle.std.proofs.Common.{Some, ap, sym, subst, ◌∙◌, length}
use Rattle.std.specs.Option.{option_copied}
use Rattle.hy_types.specs.Types.{Table, HasIds, AllBelow, mentioned}
use Rattle.hy_types.specs.Kept.{IsKept}
use Rattle.hy_types.proofs.Reading.{has_ids}
use Rattle.hy_types.proofs.table.TyTable.parts_of.Goals as goal

pub returns-in-Tuple-clause-known : goal.returns-in-Tuple-clause-known
returns-in-Tuple-clause-known c =
    let kept = subst (λ (t : Table). IsKept t c.self.inside.sizes.items) c.self.view_is c.self.invariant in
    let below = has_ids c.args.self.now kept.rows c.args.id c.get.result.now c.get.ensures.row in
    subst (HasIds c.args.self.now) (sym c.as_slice.ensures) (subst (λ row. AllBelow (length c.args.self.now.types) (mentioned row)) c.in-Tuple.is below)

pub returns-in-Some-clause-known : goal.returns-in-Some-clause-known
returns-in-Some-clause-known c =
    subst (λ (t : Table). HasIds t c.as_slice-in-Some.result.now) c.self.view_is
    (c.self.invariant.parts c.in-Product.declaration c.as_slice-in-Some.result.now (sym c.get-in-Product.ensures.value ∙ ap option_copied c.in-Some.is
    ∙ ap Some (sym c.as_slice-in-Some.ensures)))
