use Rattle.std.proofs.Common.{[], refl, sym, subst}
use Rattle.hy_signatures.specs.Shown.{source_shown}
use Rattle.hy_signatures.specs.MembersShown.{MembersAre}
use Rattle.hy_signatures.proofs.traits.traits_of.Goals as goal

pub returns-clause-traits : goal.returns-clause-traits
returns-clause-traits c =
    c.in_ok-add_decls.ensures.traits (λ node. [])
    (λ node. subst (MembersAre c.args.types.now (source_shown c.args.source.now) []) (sym (c.new-traits.ensures node)) refl)
