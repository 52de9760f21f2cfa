use Rattle.std.proofs.Common.{sym, ap, ◌∙◌}
use Rattle.hy_types.specs.Types.{Table, declared}
use Rattle.std.specs.Option.{is_some}
use Rattle.hy_types.proofs.table.TyTable.is_declared.Goals as goal

pub returns : goal.returns
returns c =
    let same = c.contains_key.ensures ∙ ap (λ (t : Table). is_some (declared t c.args.product)) c.self.view_is in
    (λ e. sym same ∙ e, λ h. same ∙ h)
