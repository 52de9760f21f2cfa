use Rattle.hy_tree.specs.Numbers.{count_generic, number_generic}
use Rattle.hy_tree.proofs.Lists.{HasNumbered}
use Rattle.hy_tree.proofs.number_declaration.number_generics.Given as goal

abbrev pub invariant-loop-generic : goal.invariant-loop-generic
invariant-loop-generic l = HasNumbered (λ x. x) count_generic number_generic l.fn.next l.generics l.generic-index l.made l.next
