use Rattle.hy_tree.specs.Denotes.{member_of}
use Rattle.hy_tree.specs.Numbers.{count_member, number_member}
use Rattle.hy_tree.proofs.Lists.{HasNumbered}
use Rattle.hy_tree.proofs.number_declaration.number_members.Given as goal

abbrev pub invariant-loop-member : goal.invariant-loop-member
invariant-loop-member l = HasNumbered member_of count_member number_member l.fn.next l.members l.member-index l.made l.next
