use Rattle.std.proofs.Common.{sym, subst, ◌∙◌}
use Rattle.hy_signatures.specs.OwnersShown.{OwnerIs}
use Rattle.hy_signatures.proofs.OwnerTables.{looked_alike}
use Rattle.hy_signatures.proofs.owners.Owners.declares_copyable.Goals as goal

pub returns-in-Some : goal.returns-in-Some
returns-in-Some c table source members copyable is =
    let kept = subst (OwnerIs table source members copyable) (looked_alike c.args.named c.args.self.now.rows.entries ∙ sym c.in-Some.ensures.value) is in
    kept.copyable

pub returns-in-None : goal.returns-in-None
returns-in-None c table source members copyable is =
    let none = subst (OwnerIs table source members copyable) (looked_alike c.args.named c.args.self.now.rows.entries ∙ sym c.in-None.ensures.value) is in
    sym none.1
