use Rattle.std.proofs.Common.{◌==◌, List, length, sym, ap, ◌∙◌}
use Rattle.hy_types.specs.Types.{type_of, type_of_row}
use Rattle.hy_types.specs.declared.kinds.TyId.{TyId}
use Rattle.hy_signatures.specs.NamedShown.{named_shown}
use Rattle.hy_signatures.specs.PlainTypes.{same_type}
use Rattle.hy_signatures.proofs.Equality.{not_named}
use Rattle.hy_signatures.proofs.types.Types.as_named.Goals as goal

pub returns-else-is_empty : goal.returns-else-is_empty
returns-else-is_empty c = λ named.
    ap (λ type. same_type type (named_shown named)) (c.get.ensures.equal ∙ ap (type_of_row c.args.self.now) c.in-Tuple.is)
    ∙ not_named (type_of c.args.self.now) c.in-Tuple.parts
    (ap (λ (ids : List TyId). length ids == 0) (sym c.as_slice.ensures) ∙ sym c.is_empty.ensures ∙ c.if-is_empty.false) named
