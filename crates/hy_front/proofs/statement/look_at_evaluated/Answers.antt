use Rattle.std.proofs.Common.{◌==◌, not, ap, ◌∙◌}
use Rattle.hy_tree.specs.Denotes.{expr_of}
use Rattle.hy_front.specs.Noted.{note, after}
use Rattle.hy_front.specs.Unbuilt.{when, is_discarded, in_expr, in_printed}
use Rattle.hy_front.proofs.Lists.{span_is}
use Rattle.hy_base.proofs.Walks.{then}
use Rattle.hy_front.proofs.statement.look_at_evaluated.Goals as goal

pub returns-in-Some : goal.returns-in-Some
returns-in-Some c =
    let meant = c.args.meant.now in
    let e = expr_of c.args.e.now in
    let value = expr_of c.in-Some.value.now in
    then note (when (is_discarded e c.args.span) c.args.span) (in_expr meant value) c.args.first c.meet_when-first.result c.look_at_expr.result
    (c.meet_when-first.ensures ∙ (λ i. after (when (not ((span_is c.args.e.now i).from == c.args.span.from)) c.args.span) c.args.first)) c.look_at_expr.ensures
    ∙ ap (λ printed. after (in_printed meant e c.args.span printed) c.args.first) c.in-Some.ensures
