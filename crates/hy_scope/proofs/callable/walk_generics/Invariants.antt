use Rattle.std.proofs.Common.{ℕ}
use Rattle.hy_tree.specs.Findings.{find_generics, with_generics}
use Rattle.hy_tree.specs.Names.{Names, no_names}
use Rattle.hy_scope.specs.Shown.{file_of, names_of, noted}
use Rattle.hy_scope.proofs.Folds.{HasFolded}
use Rattle.hy_base.proofs.Walks.{HasWalked}
use Rattle.hy_scope.specs.Noted.{note}
use Rattle.hy_scope.proofs.callable.walk_generics.Given as goal

abbrev pub invariant-loop-k : goal.invariant-loop-k
invariant-loop-k l = record {
  walked : HasWalked note (λ (s : Names × ℕ) xs. find_generics (file_of l.file) s.0 s.1 xs) (no_names, 0) l.generics (noted l.fn.notes) l.k
      (names_of l.before, l.k) (noted l.notes);
  made : HasFolded (λ (s : Names × ℕ) xs. with_generics s.0 s.1 xs) (no_names, 0) l.generics l.k (names_of l.before, l.k);
}
