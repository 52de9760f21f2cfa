use Rattle.hy_tree.specs.Denotes.{callable_of}
use Rattle.hy_tree.specs.declared.declaration.CallableKind.TheVariants as kind
use Rattle.hy_types.proofs.Replaced.{extends_itself}
use Rattle.hy_signatures.specs.Shown.{source_shown}
use Rattle.hy_signatures.proofs.MemberTables.{with_function, with_subscript, with_requirement, with_deinit}
use Rattle.hy_signatures.proofs.members.Members.add_callable.Goals as goal

pub returns-in_ok-add-in-Function-clause-members : goal.returns-in_ok-add-in-Function-clause-members
returns-in_ok-add-in-Function-clause-members c before member is has =
    with_function c.args.types.now c.add.new.types (source_shown c.args.source.now) before c.args.self.now member c.in_ok-add-in-Function.ensures.stays has
    (callable_of c.args.c.now) is c.add.new.self c.in-Function.is
    (c.in_ok-add-in-Function.ensures.members kind.Function before member c.in-Function.is is has.functions)

pub returns-in_ok-add-in-Subscript-clause-members : goal.returns-in_ok-add-in-Subscript-clause-members
returns-in_ok-add-in-Subscript-clause-members c before member is has =
    with_subscript c.args.types.now c.add-in-Subscript.new.types (source_shown c.args.source.now) before
    c.args.self.now member c.in_ok-add-in-Subscript.ensures.stays has
    (callable_of c.args.c.now) is c.add-in-Subscript.new.self c.in-Subscript.is
    (c.in_ok-add-in-Subscript.ensures.members kind.Subscript before member c.in-Subscript.is is has.subscripts)

pub returns-in_ok-add-in-Requirement-clause-members : goal.returns-in_ok-add-in-Requirement-clause-members
returns-in_ok-add-in-Requirement-clause-members c before member is has =
    with_requirement c.args.types.now c.add-in-Requirement.new.types (source_shown c.args.source.now) before
    c.args.self.now member c.in_ok-add-in-Requirement.ensures.stays has
    (callable_of c.args.c.now) is c.add-in-Requirement.new.self c.in-Requirement.is
    (c.in_ok-add-in-Requirement.ensures.members kind.Requirement before member c.in-Requirement.is is has.requirements)

pub returns-in-Deinit-clause-members : goal.returns-in-Deinit-clause-members
returns-in-Deinit-clause-members c before member is has =
    with_deinit c.args.types.now c.args.types.now (source_shown c.args.source.now) before c.args.self.now member (extends_itself c.args.types.now) has
    (callable_of c.args.c.now) is c.in-Deinit.is
