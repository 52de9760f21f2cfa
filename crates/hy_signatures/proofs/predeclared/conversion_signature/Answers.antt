use Rattle.std.proofs.Common.{[], ◌∷◌, refl, sym, subst}
use Rattle.hy_types.specs.Types.{type_of}
use Rattle.hy_signatures.specs.Signatures as S
use Rattle.hy_signatures.specs.SignaturesShown.{ParametersAre}
use Rattle.hy_signatures.proofs.predeclared.conversion_signature.Goals as goal

pub returns : goal.returns
returns c =
    c.in_ok-s.ensures c.args.types.now (S.parameter S.AnInteger S.Reads ∷ []) (type_of c.args.types.now c.args.to)
    (subst (ParametersAre c.args.types.now (S.parameter S.AnInteger S.Reads ∷ [])) (sym c.in_ok-params.ensures) (record { known = (tt, tt); are = refl }))
    (record { known = c.requires; is = refl })
