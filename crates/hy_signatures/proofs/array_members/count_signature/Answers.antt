use Rattle.std.proofs.Common.{[], refl, sym, subst}
use Rattle.hy_types.specs.Types.{Int}
use Rattle.hy_signatures.specs.SignaturesShown.{ParametersAre}
use Rattle.hy_signatures.proofs.array_members.count_signature.Goals as goal

pub returns : goal.returns
returns c =
    c.in_ok-s.ensures c.args.types.now ([]) Int
    (subst (ParametersAre c.args.types.now ([])) (sym (c.new-params.ensures.items)) (record { known = tt; are = refl }))
    c.int.ensures
