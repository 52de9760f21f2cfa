use Rattle.std.proofs.Common.{subst}
use Rattle.std.specs.Option.{option_copied}
use Rattle.hy_tree.specs.declared.declaration.CallableKind.TheVariants as kind
use Rattle.hy_signatures.specs.MembersShown.{MembersAre}
use Rattle.hy_signatures.proofs.MemberTables.{found_in}
use Rattle.hy_signatures.proofs.lookups.requirement.Goals as goal

pub returns-in-Some : goal.returns-in-Some
returns-in-Some c table source list are =
    let kept = subst (λ found. MembersAre table source list (option_copied found)) c.in-Some.is are in
    found_in table source kind.Requirement list c.in-Some.members.now.requirements c.args.name.now (option_copied c.at.result) c.at.ensures kept.requirements
