use Rattle.std.proofs.Common.{◌++◌, ◌∷◌, [], sym, subst}
use Rattle.hy_tree.specs.Denotes.{type_of}
use Rattle.hy_signatures.specs.Declarations.{Field, written_type}
use Rattle.hy_signatures.specs.MembersShown.{HasFields}
use Rattle.hy_signatures.specs.Shown.{source_shown}
use Rattle.hy_signatures.specs.declared.members.FieldType.{FieldType}
use Rattle.hy_signatures.proofs.MemberTables.{fields_more}
use Rattle.hy_signatures.proofs.members.add_field.Goals as goal

pub returns-clause-fields : goal.returns-clause-fields
returns-clause-fields c before has =
    let field : FieldType = record { name = c.args.name; node = c.args.node; written = c.args.written; number = c.in_ok-number.number } in
    let one : Field = record {
      name = c.args.name.now.text;
      node = c.args.node;
      written = type_of c.args.written.now;
      type = written_type (source_shown c.args.source.now) (type_of c.args.written.now);
    } in
    subst (HasFields c.number_written.new.types (before ++ one ∷ [])) (sym c.in_ok-push.ensures.items)
    (fields_more c.args.types.now c.number_written.new.types before c.args.fields.now.items field one c.in_ok-number.ensures.stays has
    c.in_ok-number.ensures.number.known (λ i. record one { type = c.in_ok-number.ensures.number.is i }))
