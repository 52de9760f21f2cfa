use Rattle.hy_tree.specs.Denotes.{param_of}
use Rattle.hy_tree.specs.Numbers.{count_param}
use Rattle.hy_tree.proofs.Lists.{HasCounted}
use Rattle.hy_tree.proofs.count.params_from.Given as goal

abbrev pub invariant-loop-param : goal.invariant-loop-param
invariant-loop-param l = HasCounted param_of count_param l.fn.so_far l.params l.param-index l.total
