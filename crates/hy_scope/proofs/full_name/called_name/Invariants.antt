use Rattle.hy_tree.specs.Denotes.{args_of}
use Rattle.hy_tree.specs.Names.{labels_text, labels_of_args}
use Rattle.hy_scope.proofs.FullNames.{HasNamed}
use Rattle.hy_scope.proofs.full_name.called_name.Given as goal

abbrev pub invariant-loop-arg : goal.invariant-loop-arg
invariant-loop-arg l = HasNamed (λ xs. labels_text (labels_of_args (args_of xs))) l.base l.args l.arg-index l.text.items
