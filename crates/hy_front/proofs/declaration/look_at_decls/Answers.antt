use Rattle.hy_front.proofs.Lists.{decls_walk}
use Rattle.hy_base.proofs.Walks.{walked_more}
use Rattle.hy_front.specs.Noted.{note}
use Rattle.hy_front.proofs.declaration.look_at_decls.Goals as goal

pub loop-decl-preserved : goal.loop-decl-preserved
loop-decl-preserved c =
    walked_more note (decls_walk c.args.meant.now) tt c.args.decls.now c.args.first c.loop-decl.decl-index tt c.loop-decl.first c.look_at_decl-first.result
    c.decl-item.result c.decl-item.is c.loop-decl-test.true c.loop-decl.invariant c.look_at_decl-first.ensures
