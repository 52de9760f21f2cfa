use Rattle.hy_scope.specs.Shown.{file_of, noted}
use Rattle.hy_scope.proofs.Lists.{decls_walk}
use Rattle.hy_base.proofs.Walks.{walked_more}
use Rattle.hy_scope.specs.Noted.{note}
use Rattle.hy_scope.proofs.declaration.walk_decls.Goals as goal

pub loop-decl-preserved : goal.loop-decl-preserved
loop-decl-preserved c =
    walked_more note (decls_walk (file_of c.args.file.now)) tt c.args.decls.now (noted c.args.notes.now) c.loop-decl.decl-index tt (noted c.loop-decl.notes)
    (noted c.walk_decl.new.notes) c.decl-item.result c.decl-item.is c.loop-decl-test.true c.loop-decl.invariant c.in_ok-walk_decl.ensures
