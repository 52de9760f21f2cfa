use Rattle.hy_tree.specs.Denotes.{type_of}
use Rattle.hy_tree.specs.Numbers.{count_type, number_type}
use Rattle.hy_tree.proofs.Lists.{HasNumbered}
use Rattle.hy_tree.proofs.number_written.+types.Given as goal

abbrev pub invariant-number_types-loop-part : goal.invariant-number_types-loop-part
invariant-number_types-loop-part l = HasNumbered type_of count_type number_type l.fn.next l.parts l.part-index l.made l.next
