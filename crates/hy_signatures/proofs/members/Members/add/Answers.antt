use Rattle.std.proofs.Common.{ap}
use Rattle.hy_tree.specs.Denotes.{member_of, member_kind_of}
use Rattle.hy_tree.specs.declared.declaration.CallableKind.TheVariants as kind
use Rattle.hy_types.proofs.Replaced.{extends_itself}
use Rattle.hy_signatures.specs.Declarations.{field_of, fields_among, callable_named_here}
use Rattle.hy_signatures.specs.Shown.{source_shown}
use Rattle.hy_signatures.proofs.MemberTables.{with_field, with_init, names_kept}
use Rattle.hy_signatures.proofs.members.Members.add.Goals as goal

pub returns-in_ok-add_field-in-Field-clause-members : goal.returns-in_ok-add_field-in-Field-clause-members
returns-in_ok-add_field-in-Field-clause-members c before has =
    let source = source_shown c.args.source.now in
    let old = c.args.types.now in
    let new = c.add_field.new.types in
    let kept = c.args.self.now in
    let member = member_of c.args.member.now in
    let stays = c.in_ok-add_field-in-Field.ensures.stays in
    let is = ap member_kind_of c.in-Field.is in
    record {
      fields = with_field old new source before kept member stays has c.add_field.new.fields.items _
          (ap (field_of source member.at.node) is) (c.in_ok-add_field-in-Field.ensures.fields (fields_among source before) has.fields);
      functions = names_kept old new source before kept member stays has kind.Function kept.functions
          (λ name. ap (callable_named_here kind.Function name) is) has.functions;
      subscripts = names_kept old new source before kept member stays has kind.Subscript kept.subscripts
          (λ name. ap (callable_named_here kind.Subscript name) is) has.subscripts;
      requirements = names_kept old new source before kept member stays has kind.Requirement kept.requirements
          (λ name. ap (callable_named_here kind.Requirement name) is) has.requirements;
    }

pub returns-in-MemberwiseInit-clause-members : goal.returns-in-MemberwiseInit-clause-members
returns-in-MemberwiseInit-clause-members c before has =
    with_init c.args.types.now c.args.types.now (source_shown c.args.source.now) before c.args.self.now (member_of c.args.member.now)
    (extends_itself c.args.types.now) has (ap member_kind_of c.in-MemberwiseInit.is)
