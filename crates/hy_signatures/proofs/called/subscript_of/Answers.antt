use Rattle.std.proofs.Common.{List, ℕ, ◌∙◌, subst}
use Rattle.std.specs.Option.{option_map}
use Rattle.hy_tree.specs.declared.declaration.CallableKind.TheVariants as kind
use Rattle.hy_types.specs.Types.{type_of}
use Rattle.hy_signatures.specs.Declarations.{callable_named, members_of}
use Rattle.hy_signatures.specs.Signatures.{member_of}
use Rattle.hy_signatures.specs.SignaturesShown.{IsPerhaps}
use Rattle.hy_signatures.proofs.called.subscript_of.Goals as goal

pub found_signature-requires : goal.found_signature-requires
found_signature-requires c =
    let (source, are) = c.requires.tables in
    let table = c.args.types.now in
    let list = members_of source (type_of table c.args.id) in (
      table,
      source,
      callable_named kind.Subscript c.as_slice.result.now list,
      c.subscript-found.ensures table source list
          (c.members.ensures source are.owners),
    )

pub returns : goal.returns
returns c source are =
    let table = c.args.types.now in
    let list = members_of source (type_of table c.args.id) in
    subst (λ (name : List ℕ). IsPerhaps table (option_map (member_of source) (callable_named kind.Subscript name list)) c.in_ok-s.s)
    (c.as_slice.ensures.value ∙ c.in_ok-name.ensures)
    (c.in_ok-s.ensures table source (callable_named kind.Subscript c.as_slice.result.now list)
    (c.subscript-found.ensures table source list (c.members.ensures source are.owners)))
