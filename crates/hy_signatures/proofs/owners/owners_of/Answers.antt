use Rattle.std.proofs.Common.{[], false, refl, sym, subst}
use Rattle.hy_signatures.specs.OwnersShown.{OwnerIs}
use Rattle.hy_signatures.specs.Shown.{source_shown}
use Rattle.hy_signatures.proofs.owners.owners_of.Goals as goal

pub returns-clause-owners : goal.returns-clause-owners
returns-clause-owners c =
    c.in_ok-add_decls.ensures.owners (λ named. []) (λ named. false)
    (λ named. subst (OwnerIs c.args.types.now (source_shown c.args.source.now) [] false) (sym (c.new-owners.ensures named)) (refl, refl))
