use Rattle.std.proofs.Common.{map}
use Rattle.hy_tree.specs.Denotes.{member_of}
use Rattle.hy_front.specs.Unbuilt.{in_members}
use Rattle.hy_base.proofs.Walks.{HasWalked}
use Rattle.hy_front.specs.Noted.{note}
use Rattle.hy_front.proofs.declaration.look_at_members.Given as goal

abbrev pub invariant-loop-member : goal.invariant-loop-member
invariant-loop-member l = HasWalked note (λ (s : Unit {0}) xs. in_members l.meant (map member_of xs)) tt l.members l.fn.first l.member-index tt l.first
