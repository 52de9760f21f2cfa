use Rattle.hy_tree.specs.Denotes.{member_kind_of}
use Rattle.hy_front.specs.Unbuilt.{in_member_kind}
use Rattle.hy_front.proofs.Lists.{members_walk}
use Rattle.hy_front.proofs.Walks.{then_met}
use Rattle.hy_base.proofs.Walks.{walked_more}
use Rattle.hy_front.specs.Noted.{note}
use Rattle.hy_front.proofs.declaration.look_at_members.Goals as goal

pub loop-member-preserved : goal.loop-member-preserved
loop-member-preserved c =
    let one = c.member-item.result in
    let meant = c.args.meant.now in
    walked_more note (members_walk meant) tt c.args.members.now c.args.first c.loop-member.member-index tt c.loop-member.first
    c.look_at_member_kind-first.result one c.member-item.is c.loop-member-test.true c.loop-member.invariant
    (then_met one.span (in_member_kind meant (member_kind_of one.kind)) c.loop-member.first c.meet.result c.look_at_member_kind-first.result c.meet.ensures
    c.look_at_member_kind-first.ensures)
