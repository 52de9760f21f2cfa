use Rattle.hy_tree.specs.Denotes.{member_of}
use Rattle.hy_tree.specs.Tree as T
use Rattle.hy_check.specs.Facts.{kind_facts}
use Rattle.hy_check.proofs.NotedTypes.{IsNotingEach}
use Rattle.hy_check.proofs.checker.Checker.note_members.Given as goal

abbrev pub invariant-loop-member : goal.invariant-loop-member
invariant-loop-member l = IsNotingEach member_of (λ source (member : T.Member). kind_facts source member.kind) l.members l.fn.self l.self l.member-index
