use Rattle.std.proofs.Common.{[], ◌∷◌, true, refl, sym, subst}
use Rattle.hy_types.specs.Types.{Int, type_of}
use Rattle.hy_signatures.specs.Signatures as S
use Rattle.hy_signatures.specs.SignaturesShown.{ParametersAre}
use Rattle.hy_signatures.proofs.array_members.element_signature.Goals as goal

pub returns : goal.returns
returns c =
    let s = c.in_ok-s.ensures c.args.types.now (S.parameter (S.Exactly Int) S.Reads ∷ []) (type_of c.args.types.now c.args.element)
    (subst (ParametersAre c.args.types.now (S.parameter (S.Exactly Int) S.Reads ∷ [])) (sym c.in_ok-params.ensures)
    (record { known = (c.int.ensures.known, tt); are = λ i. S.parameter (S.Exactly (c.int.ensures.is i)) S.Reads ∷ [] }))
    (record { known = c.requires; is = refl }) in
    record {
      params = s.params;
      result = s.result;
      known = s.known;
      is = λ i. record (s.is i) { is_subscript = true };
    }
