use Rattle.hy_tree.specs.Denotes.{type_of}
use Rattle.hy_tree.specs.Numbers.{count_type}
use Rattle.hy_tree.proofs.Lists.{HasCounted}
use Rattle.hy_tree.proofs.count.+types.Given as goal

abbrev pub invariant-types_from-loop-part : goal.invariant-types_from-loop-part
invariant-types_from-loop-part l = HasCounted type_of count_type l.fn.so_far l.parts l.part-index l.total
