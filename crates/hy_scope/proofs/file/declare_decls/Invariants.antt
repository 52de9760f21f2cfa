use Rattle.std.proofs.Common.{map}
use Rattle.hy_tree.specs.Denotes.{decl_of}
use Rattle.hy_tree.specs.FileNames.{with_decls}
use Rattle.hy_tree.specs.Findings.{twice_decls}
use Rattle.hy_scope.specs.Shown.{file_of, noted}
use Rattle.hy_scope.proofs.Folds.{HasFolded}
use Rattle.hy_base.proofs.Walks.{HasWalked}
use Rattle.hy_scope.specs.Noted.{note}
use Rattle.hy_scope.proofs.file.declare_decls.Given as goal

abbrev pub invariant-loop-decl : goal.invariant-loop-decl
invariant-loop-decl l = record {
  walked : HasWalked note (λ s xs. twice_decls s (map decl_of xs)) (file_of l.fn.file) l.decls (noted l.fn.notes) l.decl-index (file_of l.file)
      (noted l.notes);
  made : HasFolded (λ s xs. with_decls s (map decl_of xs)) (file_of l.fn.file) l.decls l.decl-index (file_of l.file);
}
