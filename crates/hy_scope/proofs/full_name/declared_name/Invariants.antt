use Rattle.std.proofs.Common.{map}
use Rattle.hy_tree.specs.Denotes.{param_of}
use Rattle.hy_tree.specs.Names.{labels_text, labels_of_params}
use Rattle.hy_scope.proofs.FullNames.{HasNamed}
use Rattle.hy_scope.proofs.full_name.declared_name.Given as goal

abbrev pub invariant-loop-param : goal.invariant-loop-param
invariant-loop-param l = HasNamed (λ xs. labels_text (labels_of_params (map param_of xs))) l.base l.params l.param-index l.text.items
