use Rattle.std.proofs.Common.{◌∙◌}
use Rattle.hy_tree.specs.Denotes.{placed, type_kind_of, type_of}
use Rattle.hy_tree.specs.Numbers.{count_type, count_types, number_type, number_types}
use Rattle.hy_tree.specs.Tree.{types}
use Rattle.hy_tree.proofs.Counts.{numbered_types_are, counted_types_are}
use Rattle.hy_tree.proofs.Lists.{numbers_closed}
use Rattle.hy_tree.proofs.number_written.+types.Goals as goal

pub number_type-returns : goal.number_type-returns
number_type-returns t c =
    let old = c.args.written.now in
    let h = c.in_ok-kind.ensures c.args.next.now (placed old.span old.node) c.in_ok-node.ensures.next in
    ((λ i. type_kind_of c.in_ok-kind.kind (placed old.span (c.in_ok-node.ensures.number i))) ∙ h.0, h.1)

pub number_types-returns : goal.number_types-returns
number_types-returns t c =
    numbers_closed type_of count_type number_type c.args.next.now c.args.parts.now types count_types number_types numbered_types_are counted_types_are
    c.loop-part.part-index c.loop-part.next c.loop-part.made c.loop-part-test.false c.loop-part.invariant
