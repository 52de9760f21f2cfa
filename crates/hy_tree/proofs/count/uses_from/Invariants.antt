use Rattle.hy_tree.specs.Numbers.{count_use}
use Rattle.hy_tree.proofs.Lists.{HasCounted}
use Rattle.hy_tree.proofs.count.uses_from.Given as goal

abbrev pub invariant-loop-name : goal.invariant-loop-name
invariant-loop-name l = HasCounted (λ x. x) count_use l.fn.so_far l.uses l._name-index l.total
