use Rattle.std.proofs.Common.{sym, subst, ◌∙◌}
use Rattle.hy_signatures.specs.Declarations.{members_in, declares_copyable}
use Rattle.hy_signatures.specs.NamedShown.{named_shown}
use Rattle.hy_signatures.specs.OwnersShown.{OwnerIs}
use Rattle.hy_signatures.proofs.OwnerTables.{looked_alike}
use Rattle.hy_signatures.proofs.owners.Owners.members_named.Goals as goal

pub returns-in-Some : goal.returns-in-Some
returns-in-Some c table source owners =
    let type = named_shown c.args.named in
    let kept = subst (OwnerIs table source (members_in source type source.decls) (declares_copyable source type source.decls))
    (looked_alike c.args.named c.args.self.now.rows.entries ∙ sym c.in-Some.ensures.value) (owners c.args.named) in
    kept.members

pub returns-in-None : goal.returns-in-None
returns-in-None c table source owners =
    let type = named_shown c.args.named in
    let none = subst (OwnerIs table source (members_in source type source.decls) (declares_copyable source type source.decls))
    (looked_alike c.args.named c.args.self.now.rows.entries ∙ sym c.in-None.ensures.value) (owners c.args.named) in
    none.0
