use Rattle.hy_tree.specs.Numbers.{count_use, number_use}
use Rattle.hy_tree.proofs.Lists.{HasNumbered}
use Rattle.hy_tree.proofs.number_declaration.number_uses.Given as goal

abbrev pub invariant-loop-name : goal.invariant-loop-name
invariant-loop-name l = HasNumbered (λ x. x) count_use number_use l.fn.next l.uses l.name-index l.made l.next
