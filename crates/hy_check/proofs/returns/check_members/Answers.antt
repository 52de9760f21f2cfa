use Rattle.hy_tree.specs.Denotes.{member_of}
use Rattle.hy_check.specs.Refusals as refusals
use Rattle.hy_check.proofs.Lists.{met_more}
use Rattle.hy_check.proofs.returns.check_members.Goals as goal

pub loop-member-preserved : goal.loop-member-preserved
loop-member-preserved c source =
    met_more member_of (refusals.member_t5 source) c.args.members.now c.loop-member.member-index c.args.first
    c.loop-member.first c.check_member-first.result c.member-item.result
    c.member-item.is c.loop-member-test.true (c.loop-member.invariant source) (c.check_member-first.ensures source)
