use Rattle.hy_object.proofs.number.+groups.Given as goal

abbrev pub decreases-groups : goal.decreases-groups
decreases-groups l = l.most
