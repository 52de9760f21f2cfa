use Rattle.hy_tree.specs.declared.declaration.CallableKind.TheVariants as kind
use Rattle.hy_types.specs.Types.{type_of}
use Rattle.hy_signatures.specs.Declarations.{callable_named, members_of}
use Rattle.hy_signatures.proofs.called.declared_member.Goals as goal

pub found_signature-requires : goal.found_signature-requires
found_signature-requires c =
    let (source, are) = c.requires.tables in
    let table = c.args.types.now in
    let list = members_of source (type_of table c.args.id) in
    (table, source, callable_named kind.Function c.args.name.now list, c.function.ensures table source list (c.members.ensures source are.owners))

pub returns : goal.returns
returns c source are =
    let table = c.args.types.now in
    let list = members_of source (type_of table c.args.id) in
    c.in_ok-s.ensures table source (callable_named kind.Function c.args.name.now list)
    (c.function.ensures table source list (c.members.ensures source are.owners))
