use Rattle.hy_tree.specs.Denotes.{member_of}
use Rattle.hy_tree.specs.Tree as T
use Rattle.hy_check.specs.Facts.{kind_facts}
use Rattle.hy_check.proofs.NotedTypes.{each_start, each_more, each_end}
use Rattle.hy_check.proofs.checker.Checker.note_members.Goals as goal

pub loop-member-init : goal.loop-member-init
loop-member-init c = each_start member_of (λ source (member : T.Member). kind_facts source member.kind) c.args.members.now c.args.self.now c.requires

pub loop-member-preserved : goal.loop-member-preserved
loop-member-preserved c =
    each_more member_of (λ source (member : T.Member). kind_facts source member.kind)
    c.args.members.now c.args.self.now c.loop-member.self c.note_member.new.self c.loop-member.member-index c.member-item.result c.member-item.is
    c.loop-member-test.true
    c.loop-member.invariant c.in_ok-note_member.ensures.right c.in_ok-note_member.ensures.learns

pub returns-clause-learns : goal.returns-clause-learns
returns-clause-learns c =
    each_end member_of (λ source (member : T.Member). kind_facts source member.kind)
    c.args.members.now c.args.self.now c.loop-member.self c.loop-member.member-index c.loop-member-test.false c.loop-member.invariant
