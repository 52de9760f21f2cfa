use Rattle.std.proofs.Common.{◌∙◌}
use Rattle.hy_tree.specs.Denotes.{expr_of}
use Rattle.hy_tree.specs.Tree as T
use Rattle.hy_front.specs.Noted.{note, after}
use Rattle.hy_front.specs.Unbuilt.{when, is_place, in_expr}
use Rattle.hy_front.proofs.Lists.{span_is}
use Rattle.hy_base.proofs.Walks.{then}
use Rattle.hy_front.proofs.statement.look_at_value.Goals as goal

pub returns : goal.returns
returns c =
    let value = expr_of c.args.value.now in
    then note (when (is_place value) (T.at_expr value).span) (in_expr c.args.meant.now value) c.args.first c.meet_when-first.result c.look_at_expr.result
    (c.meet_when-first.ensures ∙ (λ i. after (when (c.is_place.ensures i) (span_is c.args.value.now i)) c.args.first)) c.look_at_expr.ensures
