use Rattle.std.proofs.Common.{List, sym, subst}
use Rattle.hy_tree.specs.Tree as T
use Rattle.hy_signatures.specs.MembersShown.{HasMembers}
use Rattle.hy_signatures.specs.MembersShown.{MembersAre}
use Rattle.hy_signatures.proofs.traits.Traits.take.Goals as goal

pub returns-in-None-clause-members : goal.returns-in-None-clause-members
returns-in-None-clause-members c table source members is =
    let none = subst (MembersAre table source members) (sym c.in-None.ensures.value) is in
    subst (λ (list : List T.Member). HasMembers table source list c.new.result) (sym none) (c.new.ensures table source)
