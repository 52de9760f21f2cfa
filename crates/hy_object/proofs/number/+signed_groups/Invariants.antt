use Rattle.hy_object.proofs.number.+signed_groups.Given as goal

abbrev pub decreases-signed_groups : goal.decreases-signed_groups
decreases-signed_groups l = l.most
