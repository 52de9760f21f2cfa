use Rattle.std.proofs.Common.{[], List, refl, sym, subst}
use Rattle.hy_types.specs.Types.{Product}
use Rattle.hy_signatures.specs.Declarations.{Field, members_of, names_of}
use Rattle.hy_signatures.specs.Signatures as S
use Rattle.hy_signatures.specs.SignaturesShown.{IsPerhaps}
use Rattle.hy_signatures.proofs.CalledNames.{labels}
use Rattle.hy_signatures.proofs.called.initialiser_named.Goals as goal

pub returns-in_ok-s-in-None-clause-signature : goal.returns-in_ok-s-in-None-clause-signature
returns-in_ok-s-in-None-clause-signature c source are =
    let table = c.args.types.now in
    subst (λ (list : List Field). IsPerhaps c.initialiser_of-in-None.new.types
    (S.when (S.same_labels (labels c.args.args.now) (names_of list)) (S.initialiser c.args.node list)) c.in_ok-s-in-None.s)
    (sym (c.in-None.ensures table source (members_of source (Product c.args.node)) (c.members_named.ensures table source are)))
    (c.in_ok-s-in-None.ensures.signature ([]) (record { known = tt; are = refl }))
