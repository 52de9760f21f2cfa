use Rattle.std.proofs.Common.{[], ◌∷◌, refl, sym, subst}
use Rattle.hy_tree.specs.declared.operator.Mode.TheVariants as mode
use Rattle.hy_types.specs.Types.{type_of}
use Rattle.hy_signatures.specs.PlainTypes.{unit}
use Rattle.hy_signatures.specs.Signatures as S
use Rattle.hy_signatures.specs.SignaturesShown.{ParametersAre}
use Rattle.hy_signatures.proofs.array_members.append_signature.Goals as goal

pub returns : goal.returns
returns c =
    c.in_ok-s.ensures c.args.types.now (S.parameter (S.Exactly (type_of c.args.types.now c.args.element)) (S.By mode.Sink) ∷ []) unit
    (subst (ParametersAre c.args.types.now (S.parameter (S.Exactly (type_of c.args.types.now c.args.element)) (S.By mode.Sink) ∷ []))
    (sym c.in_ok-params.ensures) (record { known = (c.requires, tt); are = refl }))
    c.unit.ensures
