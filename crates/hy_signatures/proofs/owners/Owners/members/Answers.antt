use Rattle.std.proofs.Common.{sym, subst}
use Rattle.std.specs.Option.{option_copied}
use Rattle.hy_types.specs.Types.{PlainType, type_of}
use Rattle.hy_signatures.specs.Declarations.{members_of}
use Rattle.hy_signatures.specs.MembersShown.{MembersAre}
use Rattle.hy_signatures.proofs.OwnerTables.{no_members}
use Rattle.hy_signatures.proofs.owners.Owners.members.Goals as goal

pub returns-in-Some : goal.returns-in-Some
returns-in-Some c source owners =
    subst (λ (t : PlainType). MembersAre c.args.types.now source (members_of source t) (option_copied c.members_named.result))
    (sym c.in-Some.ensures) (c.members_named.ensures c.args.types.now source owners)

pub returns-in-None : goal.returns-in-None
returns-in-None c source owners = no_members source (type_of c.args.types.now c.args.id) c.in-None.ensures source.decls
