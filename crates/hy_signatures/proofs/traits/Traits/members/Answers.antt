use Rattle.std.proofs.Common.{sym, subst}
use Rattle.hy_signatures.specs.Declarations.{members_of_trait}
use Rattle.hy_signatures.specs.MembersShown.{MembersAre}
use Rattle.hy_signatures.proofs.traits.Traits.members.Goals as goal

pub returns : goal.returns
returns c table source traits =
    subst (MembersAre table source (members_of_trait c.args.node source.decls)) (sym c.get.ensures.value) (traits c.args.node)
