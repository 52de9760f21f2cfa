use Rattle.std.proofs.Common.{◌≡◌, true, cond, sym, ap, ◌∙◌}
use Rattle.hy_tree.proofs.Equations.{marked_is}
use Rattle.hy_tree.specs.Denotes.{expr_of, expr_kind_of, placed}
use Rattle.hy_tree.specs.Tree as T
use Rattle.hy_check.specs.Typing as typing
use Rattle.hy_check.proofs.Spans.{expr_at}
use Rattle.hy_check.proofs.value.span_shown.Goals as goal

pub returns-then-is_place : goal.returns-then-is_place
returns-then-is_place c table around same =
    let at = placed c.args.e.now.span c.args.e.now.node in
    let marked : expr_of c.args.e.now ≡ T.Marked (expr_of c.in-Marked.operand) at = ap (λ kind. expr_kind_of kind at) c.in-Marked.is
    ∙ marked_is c.in-Marked.operand at in
    let placed : typing.is_place around (T.Marked (expr_of c.in-Marked.operand) at) ≡ true = ap (typing.is_place around) (sym marked)
    ∙ ap typing.is_place_value (sym same) ∙ sym (c.is_place.ensures table) ∙ c.if-is_place.true in
    ap (λ e. e.span) c.get.ensures ∙ ap (λ (at : T.At). at.span) (sym (expr_at c.in-Marked.operand))
    ∙ ap (λ b. cond b (T.at_expr (expr_of c.in-Marked.operand)).span at.span) (sym placed) ∙ ap (typing.shown around) (sym marked)
