use Rattle.hy_tree.specs.Denotes.{type_of}
use Rattle.hy_tree.specs.Numbers.{count_type, count_types}
use Rattle.hy_tree.specs.Tree.{types}
use Rattle.hy_tree.proofs.Counts.{counted_types_are}
use Rattle.hy_tree.proofs.Lists.{counts_closed}
use Rattle.hy_tree.proofs.count.+types.Goals as goal

pub types_from-returns : goal.types_from-returns
types_from-returns t c =
    counts_closed type_of count_type c.args.so_far c.args.parts.now types count_types counted_types_are c.loop-part.part-index c.loop-part.total
    c.loop-part-test.false c.loop-part.invariant
