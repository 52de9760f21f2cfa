use Rattle.std.proofs.Common.{[], ◌∷◌, sym, subst}
use Rattle.hy_tree.specs.declared.operator.Mode.TheVariants as mode
use Rattle.hy_signatures.specs.PlainTypes.{unit}
use Rattle.hy_signatures.specs.Signatures as S
use Rattle.hy_signatures.specs.SignaturesShown.{ParametersAre}
use Rattle.hy_signatures.proofs.array_members.swap_at_signature.Goals as goal

pub returns : goal.returns
returns c =
    c.in_ok-s.ensures c.args.types.now (S.an_index ∷ S.an_index ∷ []) unit
    (subst (ParametersAre c.args.types.now (S.an_index ∷ S.an_index ∷ [])) (sym c.in_ok-params.ensures) (record {
      known = (
        c.int.ensures.known,
        (c.int.ensures.known, tt),
      );
      are = λ i. S.parameter (S.Exactly (c.int.ensures.is i)) (S.By mode.Let) ∷ S.parameter (S.Exactly
          (c.int.ensures.is i)) (S.By mode.Let) ∷ [];
    }))
    c.unit.ensures
