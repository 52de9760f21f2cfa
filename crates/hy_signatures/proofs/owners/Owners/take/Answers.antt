use Rattle.std.proofs.Common.{Bool, List, [], sym, subst, ◌∙◌}
use Rattle.hy_tree.specs.Tree as T
use Rattle.hy_signatures.specs.OwnersShown.{IsOwner, OwnerIs}
use Rattle.hy_signatures.proofs.OwnerTables.{named_alike, named_turned, looked_alike}
use Rattle.hy_signatures.proofs.owners.Owners.take.Goals as goal

pub returns-in-Some-clause-owner : goal.returns-in-Some-clause-owner
returns-in-Some-clause-owner c table source members copyable is =
    subst (OwnerIs table source members copyable) (looked_alike c.args.named c.args.self.now.rows.entries ∙ sym c.in-Some.ensures.value) is

pub returns-in-Some-clause-rest : goal.returns-in-Some-clause-rest
returns-in-Some-clause-rest c other differs =
    looked_alike other c.swap_remove.new.self.entries
    ∙ c.in-Some.ensures.updates.2 other (named_alike c.args.named other ∙ named_turned c.args.named other ∙ differs)
    ∙ sym (looked_alike other c.args.self.now.rows.entries)

pub returns-in-None-clause-owner : goal.returns-in-None-clause-owner
returns-in-None-clause-owner c table source members copyable is =
    let none = subst (OwnerIs table source members copyable) (looked_alike c.args.named c.args.self.now.rows.entries ∙ sym c.in-None.ensures.value) is in
    subst (λ (list : List T.Member). IsOwner table source list copyable c.new.result) (sym none.0)
    (subst (λ (b : Bool). IsOwner table source [] b c.new.result) (sym none.1) (c.new.ensures table source))
