use Rattle.hy_scope.specs.Shown.{around_of, noted}
use Rattle.hy_scope.proofs.Lists.{members_walk}
use Rattle.hy_base.proofs.Walks.{walked_more}
use Rattle.hy_scope.specs.Noted.{note}
use Rattle.hy_scope.proofs.declaration.walk_members.Goals as goal

pub loop-member-preserved : goal.loop-member-preserved
loop-member-preserved c =
    walked_more note (members_walk (around_of c.args.around.now)) tt c.args.members.now (noted c.args.notes.now) c.loop-member.member-index tt
    (noted c.loop-member.notes) (noted c.walk_member.new.notes) c.member-item.result c.member-item.is c.loop-member-test.true c.loop-member.invariant
    c.in_ok-walk_member.ensures
