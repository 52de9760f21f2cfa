use Rattle.std.proofs.Common.{map}
use Rattle.hy_tree.specs.Denotes.{decl_of}
use Rattle.hy_tree.specs.Findings.{find_decls}
use Rattle.hy_scope.specs.Shown.{file_of, noted}
use Rattle.hy_base.proofs.Walks.{HasWalked}
use Rattle.hy_scope.specs.Noted.{note}
use Rattle.hy_scope.proofs.declaration.walk_decls.Given as goal

abbrev pub invariant-loop-decl : goal.invariant-loop-decl
invariant-loop-decl l = HasWalked note (λ (s : Unit {0}) xs. find_decls (file_of l.file) (map decl_of xs)) tt l.decls (noted l.fn.notes) l.decl-index tt
    (noted l.notes)
