use Rattle.std.proofs.Common.{map}
use Rattle.hy_tree.specs.Denotes.{member_of}
use Rattle.hy_tree.specs.Findings.{find_members}
use Rattle.hy_scope.specs.Shown.{around_of, noted}
use Rattle.hy_base.proofs.Walks.{HasWalked}
use Rattle.hy_scope.specs.Noted.{note}
use Rattle.hy_scope.proofs.declaration.walk_members.Given as goal

abbrev pub invariant-loop-member : goal.invariant-loop-member
invariant-loop-member l = HasWalked note (λ (s : Unit {0}) xs. find_members (around_of l.around) (map member_of xs)) tt l.members (noted l.fn.notes)
    l.member-index tt (noted l.notes)
