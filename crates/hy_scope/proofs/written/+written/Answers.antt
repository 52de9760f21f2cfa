use Rattle.std.proofs.Common.{sym, ap, ◌∙◌}
use Rattle.hy_tree.proofs.Equations.{tuple_type_is}
use Rattle.hy_tree.specs.Denotes.{type_of, types_of, placed, type_kind_of}
use Rattle.hy_tree.specs.Findings.{find_type, find_types}
use Rattle.hy_tree.specs.Tree as T
use Rattle.hy_scope.specs.Shown.{around_of, noted}
use Rattle.hy_scope.proofs.Lists.{types_walk}
use Rattle.hy_scope.proofs.Walks.{found_as}
use Rattle.hy_base.proofs.Walks.{walked_more}
use Rattle.hy_scope.specs.Noted.{note}
use Rattle.hy_scope.proofs.written.+written.Goals as goal

pub walk_type-returns-in-Tuple : goal.walk_type-returns-in-Tuple
walk_type-returns-in-Tuple t c =
    let at = placed c.args.written.now.span c.args.written.now.node in
    found_as (find_type (around_of c.args.around.now)) (type_of c.args.written.now) (T.TupleType (types_of c.as_slice-in-Tuple.result.now) at)
    (noted c.args.notes.now) (noted c.walk_types.new.notes)
    (ap (λ kind. type_kind_of kind at) c.in-Tuple.is ∙ tuple_type_is c.in-Tuple.parts at ∙ ap (λ parts. T.TupleType (types_of parts) at)
    (sym c.as_slice-in-Tuple.ensures)) c.walk_types.ensures

pub walk_types-loop-part-preserved : goal.walk_types-loop-part-preserved
walk_types-loop-part-preserved t c =
    walked_more note (types_walk (around_of c.args.around.now)) tt c.args.parts.now (noted c.args.notes.now) c.loop-part.part-index tt
    (noted c.loop-part.notes) (noted c.walk_type.new.notes) c.part-item.result c.part-item.is c.loop-part-test.true c.loop-part.invariant
    c.walk_type.ensures
