use Rattle.std.proofs.Common.{map, sym, subst}
use Rattle.hy_tree.specs.declared.operator.Mode.TheVariants as mode
use Rattle.hy_types.specs.Types.{Product}
use Rattle.hy_signatures.specs.Declarations.{Field}
use Rattle.hy_signatures.specs.Signatures as S
use Rattle.hy_signatures.specs.SignaturesShown.{ParametersAre}
use Rattle.hy_signatures.proofs.ParameterTables.{field_parameters_are}
use Rattle.hy_signatures.proofs.predeclared.initialiser_signature.Goals as goal

pub returns : goal.returns
returns c table list has is =
    let wanted = map (λ (f : Field). S.parameter (S.Exactly f.type) (S.By mode.Sink)) list in
    c.in_ok-s.ensures table wanted (Product c.args.node)
    (subst (ParametersAre table wanted) (sym c.in_ok-params.ensures) (field_parameters_are table list c.args.fields.now has)) is
