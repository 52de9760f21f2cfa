use Rattle.hy_tree.specs.Numbers.{count_generic}
use Rattle.hy_tree.proofs.Lists.{HasCounted}
use Rattle.hy_tree.proofs.count.generics_from.Given as goal

abbrev pub invariant-loop-generic : goal.invariant-loop-generic
invariant-loop-generic l = HasCounted (λ x. x) count_generic l.fn.so_far l.generics l.generic-index l.total
