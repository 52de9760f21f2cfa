use Rattle.std.proofs.Common.{sym, subst, ◌∙◌}
use Rattle.std.specs.Option.{option_copied}
use Rattle.hy_signatures.specs.Declarations.{members_of_trait}
use Rattle.hy_signatures.specs.MembersShown.{IsFound}
use Rattle.hy_signatures.specs.Shown.{source_shown}
use Rattle.hy_signatures.proofs.MemberTables.{trait_bound}
use Rattle.hy_signatures.proofs.lookups.required_by.Goals as goal

pub returns-in-Trait : goal.returns-in-Trait
returns-in-Trait c table traits =
    let source = source_shown c.args.source.now in
    subst (λ wanted. IsFound table source wanted (option_copied c.requirement.result))
    (trait_bound source c.args.name.now c.args.bound.now c.in-Trait.node (sym c.meaning.ensures ∙ c.in-Trait.is))
    (c.requirement.ensures table source (members_of_trait c.in-Trait.node source.decls) (c.members.ensures table source traits))
