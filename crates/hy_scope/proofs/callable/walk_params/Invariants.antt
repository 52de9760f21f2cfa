use Rattle.std.proofs.Common.{map}
use Rattle.hy_tree.specs.Denotes.{param_of}
use Rattle.hy_tree.specs.Findings.{find_params, with_params}
use Rattle.hy_tree.specs.Names.{no_names}
use Rattle.hy_scope.specs.Shown.{around_of, names_of, noted}
use Rattle.hy_scope.proofs.Folds.{HasFolded}
use Rattle.hy_base.proofs.Walks.{HasWalked}
use Rattle.hy_scope.specs.Noted.{note}
use Rattle.hy_scope.proofs.callable.walk_params.Given as goal

abbrev pub invariant-loop-p : goal.invariant-loop-p
invariant-loop-p l = record {
  walked : HasWalked note (λ s xs. find_params (around_of l.around) s (map param_of xs)) no_names l.params (noted l.fn.notes) l.p-index (names_of l.before)
      (noted l.notes);
  made : HasFolded (λ s xs. with_params s (map param_of xs)) no_names l.params l.p-index (names_of l.before);
}
