use Rattle.hy_tree.specs.Denotes.{param_of}
use Rattle.hy_tree.specs.Numbers.{count_param, number_param}
use Rattle.hy_tree.proofs.Lists.{HasNumbered}
use Rattle.hy_tree.proofs.number_declaration.number_params.Given as goal

abbrev pub invariant-loop-param : goal.invariant-loop-param
invariant-loop-param l = HasNumbered param_of count_param number_param l.fn.next l.params l.param-index l.made l.next
