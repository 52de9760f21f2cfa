use Rattle.std.proofs.Common.{◌+◌, ap}
use Rattle.hy_tree.specs.Findings.{find_generics, with_generics}
use Rattle.hy_tree.specs.Names.{no_names}
use Rattle.hy_scope.specs.Noted.{note, after}
use Rattle.hy_scope.specs.Shown.{file_of, names_of, noted}
use Rattle.hy_scope.proofs.Folds.{generics_fold, folded_more, folded_all}
use Rattle.hy_scope.proofs.Lists.{generics_walk}
use Rattle.hy_base.proofs.Walks.{walked_to, walked_all}
use Rattle.hy_scope.proofs.callable.walk_generics.Goals as goal

pub loop-k-init : goal.loop-k-init
loop-k-init c = record {
  walked = ap (λ names. after (find_generics (file_of c.args.file.now) names 0 c.args.generics.now) (noted c.args.notes.now)) c.new-before.ensures;
  made = ap (λ names. with_generics names 0 c.args.generics.now) c.new-before.ensures;
}

pub loop-k-preserved : goal.loop-k-preserved
loop-k-preserved c = record {
  walked = walked_to note (generics_walk (file_of c.args.file.now)) (no_names, 0) c.args.generics.now (noted c.args.notes.now) c.loop-k.k
      (names_of c.loop-k.before, c.loop-k.k) (names_of c.walk_generic.new.before, c.loop-k.k + 1) (noted c.loop-k.notes) (noted c.walk_generic.new.notes)
      c.index-generics-k.result c.index-generics-k.is c.loop-k-test.true c.loop-k.invariant.walked c.in_ok-walk_generic.ensures.notes
      (λ i. (c.in_ok-walk_generic.ensures.names i, c.loop-k.k + 1));
  made = folded_more generics_fold (no_names, 0) c.args.generics.now c.loop-k.k (names_of c.loop-k.before, c.loop-k.k)
      (names_of c.walk_generic.new.before, c.loop-k.k + 1) c.index-generics-k.result c.index-generics-k.is c.loop-k-test.true c.loop-k.invariant.made
      (λ i. (c.in_ok-walk_generic.ensures.names i, c.loop-k.k + 1));
}

pub returns-clause-notes : goal.returns-clause-notes
returns-clause-notes c =
    walked_all note (generics_walk (file_of c.args.file.now)) (no_names, 0) c.args.generics.now (noted c.args.notes.now) c.loop-k.k
    (names_of c.loop-k.before, c.loop-k.k) (noted c.loop-k.notes) c.loop-k-test.false c.loop-k.invariant.walked

pub returns-clause-names : goal.returns-clause-names
returns-clause-names c = folded_all generics_fold (no_names, 0) c.args.generics.now c.loop-k.k (names_of c.loop-k.before, c.loop-k.k) c.loop-k-test.false
    c.loop-k.invariant.made
