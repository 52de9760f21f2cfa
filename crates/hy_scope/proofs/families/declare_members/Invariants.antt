use Rattle.std.proofs.Common.{map}
use Rattle.hy_tree.specs.Denotes.{member_of}
use Rattle.hy_tree.specs.FileNames.{with_members, with_all_asked}
use Rattle.hy_tree.specs.Findings.{twice_members}
use Rattle.hy_scope.specs.Shown.{family_of, names_of, noted}
use Rattle.hy_scope.proofs.Folds.{HasFolded}
use Rattle.hy_base.proofs.Walks.{HasWalked}
use Rattle.hy_scope.specs.Noted.{note}
use Rattle.hy_scope.proofs.families.declare_members.Given as goal

abbrev pub invariant-loop-member : goal.invariant-loop-member
invariant-loop-member l = record {
  walked : HasWalked note (λ s xs. twice_members s (map member_of xs)) (family_of l.fn.family) l.members (noted l.fn.notes) l.member-index
      (family_of l.family) (noted l.notes);
  made : HasFolded (λ s xs. with_members s (map member_of xs)) (family_of l.fn.family) l.members l.member-index (family_of l.family);
  asked : HasFolded (λ s xs. with_all_asked s (map member_of xs)) (names_of l.fn.asked) l.members l.member-index (names_of l.asked);
}
