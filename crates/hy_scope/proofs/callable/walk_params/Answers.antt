use Rattle.hy_tree.specs.Names.{no_names}
use Rattle.hy_scope.specs.Shown.{around_of, names_of, noted}
use Rattle.hy_scope.proofs.Folds.{params_fold, folded_more}
use Rattle.hy_scope.proofs.Lists.{params_walk}
use Rattle.hy_base.proofs.Walks.{walked_to}
use Rattle.hy_scope.specs.Noted.{note}
use Rattle.hy_scope.proofs.callable.walk_params.Goals as goal

pub loop-p-preserved : goal.loop-p-preserved
loop-p-preserved c = record {
  walked = walked_to note (params_walk (around_of c.args.around.now)) no_names c.args.params.now (noted c.args.notes.now) c.loop-p.p-index
      (names_of c.loop-p.before) (names_of c.walk_param.new.before) (noted c.loop-p.notes) (noted c.walk_param.new.notes) c.p-item.result c.p-item.is
      c.loop-p-test.true c.loop-p.invariant.walked c.in_ok-walk_param.ensures.notes c.in_ok-walk_param.ensures.names;
  made = folded_more params_fold no_names c.args.params.now c.loop-p.p-index (names_of c.loop-p.before) (names_of c.walk_param.new.before) c.p-item.result
      c.p-item.is c.loop-p-test.true c.loop-p.invariant.made c.in_ok-walk_param.ensures.names;
}
