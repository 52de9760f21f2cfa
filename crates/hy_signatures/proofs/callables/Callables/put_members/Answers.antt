use Rattle.std.proofs.Common.{◌+◌, take, map, refl}
use Rattle.hy_tree.specs.Denotes.{member_of}
use Rattle.hy_signatures.specs.Declarations.{callable_among, member_if}
use Rattle.hy_signatures.specs.Shown.{source_shown}
use Rattle.hy_signatures.proofs.CallableTables.{keeps_more, among_more}
use Rattle.hy_signatures.proofs.callables.Callables.put_members.Goals as goal

pub loop-member-preserved : goal.loop-member-preserved
loop-member-preserved c =
    keeps_more c.args.types.now c.loop-member.types c.put_member.new.types (source_shown c.args.source.now) c.args.self.now c.loop-member.self
    c.put_member.new.self (λ node. callable_among node (map member_of (take c.loop-member.member-index c.args.members.now)))
    (λ node. member_if node (member_of c.member-item.result).kind)
    (λ node. callable_among node (map member_of (take (c.loop-member.member-index + 1) c.args.members.now)))
    c.loop-member.invariant c.in_ok-put_member.ensures
    (λ node. among_more (λ member. member_if node member.kind) (callable_among node) refl
    (λ y more. refl) member_of c.args.members.now c.loop-member.member-index
    c.member-item.result c.member-item.is c.loop-member-test.true)
