use Rattle.std.proofs.Common.{refl, ap, ◌∙◌}
use Rattle.hy_links.proofs.Linked.{started_so}
use Rattle.hy_access.specs.Forest.{order, youngest_of}
use Rattle.hy_access.proofs.Ancestors.{given_there}
use Rattle.hy_access.proofs.Trees.{pushed, lent_so, unchanged}
use Rattle.hy_access.proofs.accesses.Accesses.lend.Goals as goal

pub invariant_of-self : goal.invariant_of-self
invariant_of-self c = unchanged c.self.inside.slots c.push.new.slots c.self.inside.newest c.in_err-index.ensures.refused c.self.invariant

pub invariant_of-self-2 : goal.invariant_of-self-2
invariant_of-self-2 c =
    lent_so c.self.inside.slots c.push.new.slots c.self.inside.newest _ c.in_ok-index.index c.self.invariant c.in_ok-index.ensures.pushed
    c.newest.ensures.before c.newest.ensures.after (c.newest-2.ensures.before ∙ c.youngest_child.ensures
    ∙ ap (youngest_of c.self.inside.slots) c.place.ensures) c.newest-2.ensures.after refl
    (given_there c.self.inside.slots c.self.inside.newest c.self.invariant c.args.parent (rw (c.self.view_is) c.requires))

pub returns-clause-lent : goal.returns-clause-lent
returns-clause-lent c =
    rw (← c.self.view_is) (started_so order c.self.inside.slots c.push.new.slots c.self.inside.newest c.in_ok-index.index _ c.self.invariant.linked
    (pushed c.self.inside.slots c.push.new.slots c.self.inside.newest _ c.in_ok-index.index c.self.invariant c.in_ok-index.ensures.pushed
    c.newest.ensures.before c.newest.ensures.after (c.newest-2.ensures.before ∙ c.youngest_child.ensures
    ∙ ap (youngest_of c.self.inside.slots) c.place.ensures) c.newest-2.ensures.after refl
    (given_there c.self.inside.slots c.self.inside.newest c.self.invariant c.args.parent (rw (c.self.view_is) c.requires)))).lists

pub returns-clause-new_id : goal.returns-clause-new_id
returns-clause-new_id c =
    rw (← c.self.view_is) (started_so order c.self.inside.slots c.push.new.slots c.self.inside.newest c.in_ok-index.index _ c.self.invariant.linked
    (pushed c.self.inside.slots c.push.new.slots c.self.inside.newest _ c.in_ok-index.index c.self.invariant c.in_ok-index.ensures.pushed
    c.newest.ensures.before c.newest.ensures.after (c.newest-2.ensures.before ∙ c.youngest_child.ensures
    ∙ ap (youngest_of c.self.inside.slots) c.place.ensures) c.newest-2.ensures.after refl
    (given_there c.self.inside.slots c.self.inside.newest c.self.invariant c.args.parent (rw (c.self.view_is) c.requires)))).is_new
