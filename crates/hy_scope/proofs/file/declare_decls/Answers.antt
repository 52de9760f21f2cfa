use Rattle.hy_scope.specs.Shown.{file_of, noted}
use Rattle.hy_scope.proofs.Folds.{folded_more, decls_fold}
use Rattle.hy_scope.proofs.Lists.{twice_decls_walk}
use Rattle.hy_base.proofs.Walks.{walked_to}
use Rattle.hy_scope.specs.Noted.{note}
use Rattle.hy_scope.proofs.file.declare_decls.Goals as goal

pub loop-decl-preserved : goal.loop-decl-preserved
loop-decl-preserved c = record {
  walked = walked_to note twice_decls_walk (file_of c.args.file.now) c.args.decls.now (noted c.args.notes.now) c.loop-decl.decl-index
      (file_of c.loop-decl.file) (file_of c.declare.new.self) (noted c.loop-decl.notes) (noted c.declare.new.notes) c.decl-item.result c.decl-item.is
      c.loop-decl-test.true c.loop-decl.invariant.walked c.in_ok-declare.ensures.notes c.in_ok-declare.ensures.file;
  made = folded_more decls_fold (file_of c.args.file.now) c.args.decls.now c.loop-decl.decl-index (file_of c.loop-decl.file) (file_of c.declare.new.self)
      c.decl-item.result c.decl-item.is c.loop-decl-test.true c.loop-decl.invariant.made c.in_ok-declare.ensures.file;
}
