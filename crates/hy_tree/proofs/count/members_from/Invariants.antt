use Rattle.hy_tree.specs.Denotes.{member_of}
use Rattle.hy_tree.specs.Numbers.{count_member}
use Rattle.hy_tree.proofs.Lists.{HasCounted}
use Rattle.hy_tree.proofs.count.members_from.Given as goal

abbrev pub invariant-loop-member : goal.invariant-loop-member
invariant-loop-member l = HasCounted member_of count_member l.fn.so_far l.members l.member-index l.total
