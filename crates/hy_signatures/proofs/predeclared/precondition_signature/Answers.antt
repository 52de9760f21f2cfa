use Rattle.std.proofs.Common.{[], ◌∷◌, sym, subst}
use Rattle.hy_types.specs.Types.{Bool}
use Rattle.hy_signatures.specs.PlainTypes.{unit}
use Rattle.hy_signatures.specs.Signatures as S
use Rattle.hy_signatures.specs.SignaturesShown.{ParametersAre}
use Rattle.hy_signatures.proofs.predeclared.precondition_signature.Goals as goal

pub returns : goal.returns
returns c =
    c.in_ok-s.ensures c.args.types.now (S.parameter (S.Exactly Bool) S.Reads ∷ []) unit
    (subst (ParametersAre c.args.types.now (S.parameter (S.Exactly Bool) S.Reads ∷ [])) (sym c.in_ok-params.ensures) (record {
      known =
          (c.truth.ensures.known, tt);
      are = λ i. S.parameter (S.Exactly (c.truth.ensures.is i)) S.Reads ∷ [];
    }))
    c.unit.ensures
