use Rattle.hy_scope.specs.Shown.{family_of, names_of, noted}
use Rattle.hy_scope.proofs.Folds.{folded_more, members_fold, asked_fold}
use Rattle.hy_scope.proofs.Lists.{twice_members_walk}
use Rattle.hy_base.proofs.Walks.{walked_to}
use Rattle.hy_scope.specs.Noted.{note}
use Rattle.hy_scope.proofs.families.declare_members.Goals as goal

pub loop-member-preserved : goal.loop-member-preserved
loop-member-preserved c = record {
  walked = walked_to note twice_members_walk (family_of c.args.family.now) c.args.members.now (noted c.args.notes.now) c.loop-member.member-index
      (family_of c.loop-member.family) (family_of c.declare.new.self) (noted c.loop-member.notes) (noted c.declare.new.notes) c.member-item.result
      c.member-item.is c.loop-member-test.true c.loop-member.invariant.walked c.in_ok-declare.ensures.notes c.in_ok-declare.ensures.family;
  made = folded_more members_fold (family_of c.args.family.now) c.args.members.now c.loop-member.member-index (family_of c.loop-member.family)
      (family_of c.declare.new.self) c.member-item.result c.member-item.is c.loop-member-test.true c.loop-member.invariant.made
      c.in_ok-declare.ensures.family;
  asked = folded_more asked_fold (names_of c.args.asked.now) c.args.members.now c.loop-member.member-index (names_of c.loop-member.asked)
      (names_of c.ask.new.asked) c.member-item.result c.member-item.is c.loop-member-test.true c.loop-member.invariant.asked c.in_ok-ask.ensures;
}
