use Rattle.std.proofs.Common.{[], ◌∷◌, refl, sym, subst}
use Rattle.hy_signatures.specs.PlainTypes.{unit}
use Rattle.hy_signatures.specs.Signatures as S
use Rattle.hy_signatures.specs.SignaturesShown.{ParametersAre}
use Rattle.hy_signatures.proofs.predeclared.print_signature.Goals as goal

pub returns : goal.returns
returns c =
    c.in_ok-s.ensures c.args.types.now (S.parameter S.AnIntegerOrBool S.Reads ∷ []) unit
    (subst (ParametersAre c.args.types.now (S.parameter S.AnIntegerOrBool S.Reads ∷ [])) (sym c.in_ok-params.ensures) (record {
      known =
          (tt, tt);
      are = refl;
    }))
    c.unit.ensures
