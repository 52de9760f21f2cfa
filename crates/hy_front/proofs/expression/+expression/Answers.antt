use Rattle.std.proofs.Common.{◌≡◌, ap, sym, ◌∙◌, ◌++◌, not}
use Rattle.hy_tree.specs.Denotes.{placed, expr_kind_of, expr_of, links_of, steps_of, choices_of}
use Rattle.hy_front.specs.Noted.{note, after}
use Rattle.hy_front.specs.Unbuilt.{is_plus, when, is_callee, unless, in_operand, in_expr, in_links, in_steps, in_choices}
use Rattle.hy_tree.proofs.Equations.{chain_is, postfix_is, if_else_is}
use Rattle.hy_tree.specs.Tree as T
use Rattle.hy_front.proofs.Lists.{exprs_walk, links_walk, steps_walk, args_walk, choices_walk}
use Rattle.hy_front.proofs.Walks.{then_met, met_as}
use Rattle.hy_base.proofs.Walks.{walked_more, then}
use Rattle.hy_front.proofs.expression.+expression.Goals.{look_at_expr-then-called, look_at_expr-else-called}
use Rattle.hy_front.proofs.expression.+expression.Goals as goal

pub look_at_exprs-loop-part-preserved : goal.look_at_exprs-loop-part-preserved
look_at_exprs-loop-part-preserved t c =
    walked_more note (exprs_walk c.args.meant.now) tt c.args.parts.now c.args.first c.loop-part.part-index tt c.loop-part.first c.look_at_expr-first.result
    c.part-item.result c.part-item.is c.loop-part-test.true c.loop-part.invariant c.look_at_expr-first.ensures

pub look_at_link-returns : goal.look_at_link-returns
look_at_link-returns t c =
    let meant = c.args.meant.now in
    let link = c.args.link.now in
    let operand = expr_of link.operand in
    let met = c.meet_when-first.result in
    then note (when (not (is_plus link.operator)) link.span) (in_operand operand ++ in_expr meant operand) c.args.first met c.look_at_expr.result
    (c.meet_when-first.ensures ∙ ap (λ b. after (when (not b) link.span) c.args.first) c.is_plus.ensures)
    (then note (in_operand operand) (in_expr meant operand) met c.look_at_operand-first.result c.look_at_expr.result
    c.look_at_operand-first.ensures c.look_at_expr.ensures)

pub look_at_links-loop-link-preserved : goal.look_at_links-loop-link-preserved
look_at_links-loop-link-preserved t c =
    walked_more note (links_walk c.args.meant.now) tt c.args.links.now c.args.first c.loop-link.link-index tt c.loop-link.first c.look_at_link-first.result
    c.link-item.result c.link-item.is c.loop-link-test.true c.loop-link.invariant c.look_at_link-first.ensures

pub look_at_steps-loop-step-preserved : goal.look_at_steps-loop-step-preserved
look_at_steps-loop-step-preserved t c =
    walked_more note (steps_walk c.args.meant.now) tt c.args.steps.now c.args.first c.loop-step.step-index tt c.loop-step.first c.look_at_step-first.result
    c.step-item.result c.step-item.is c.loop-step-test.true c.loop-step.invariant c.look_at_step-first.ensures

pub look_at_args-loop-arg-preserved : goal.look_at_args-loop-arg-preserved
look_at_args-loop-arg-preserved t c =
    walked_more note (args_walk c.args.meant.now) tt c.args.args.now c.args.first c.loop-arg.arg-index tt c.loop-arg.first c.look_at_expr-first.result
    c.arg-item.result c.arg-item.is c.loop-arg-test.true c.loop-arg.invariant c.look_at_expr-first.ensures

pub look_at_choices-loop-choice-preserved : goal.look_at_choices-loop-choice-preserved
look_at_choices-loop-choice-preserved t c =
    let meant = c.args.meant.now in
    let one = c.choice-item.result in
    walked_more note (choices_walk meant) tt c.args.choices.now c.args.first c.loop-choice.choice-index tt c.loop-choice.first
    c.look_at_expr-first-in-loop-choice.result one c.choice-item.is c.loop-choice-test.true c.loop-choice.invariant
    (then note (in_expr meant (expr_of one.condition)) (in_expr meant (expr_of one.value)) c.loop-choice.first c.look_at_expr-first.result
    c.look_at_expr-first-in-loop-choice.result c.look_at_expr-first.ensures c.look_at_expr-first-in-loop-choice.ensures)

pub look_at_expr-returns-in-Chain : goal.look_at_expr-returns-in-Chain
look_at_expr-returns-in-Chain t c =
    let meant = c.args.meant.now in
    let at = placed c.args.e.now.span c.args.e.now.node in
    let left = c.get-operand.result.now in
    let right = c.as_slice.result.now in
    let same : expr_of c.args.e.now ≡ T.Chain (expr_of left) (links_of right) at = ap (λ kind. expr_kind_of kind at) c.in-Chain.is
    ∙ chain_is c.in-Chain.operand c.in-Chain.links at ∙ (λ i. T.Chain (expr_of (sym c.get-operand.ensures i)) (links_of (sym c.as_slice.ensures i)) at) in
    met_as (in_expr meant) (expr_of c.args.e.now) (T.Chain (expr_of left) (links_of right) at) c.args.first c.look_at_links.result same
    (then note (in_operand (expr_of left)) (in_expr meant (expr_of left) ++ in_links meant (links_of right)) c.args.first c.look_at_operand-first.result
    c.look_at_links.result c.look_at_operand-first.ensures
    (then note (in_expr meant (expr_of left)) (in_links meant (links_of right)) c.look_at_operand-first.result c.look_at_expr-first.result
    c.look_at_links.result c.look_at_expr-first.ensures c.look_at_links.ensures))

pub look_at_expr-returns-after-called : goal.look_at_expr-returns-after-called
look_at_expr-returns-after-called t c =
    let meant = c.args.meant.now in
    let at = placed c.args.e.now.span c.args.e.now.node in
    let primary = expr_of c.in-Postfix.primary in
    let steps = steps_of c.in-Postfix.steps in
    let met = c.meet-first.result in
    let same : expr_of c.args.e.now ≡ T.Postfix primary steps at = ap (λ kind. expr_kind_of kind at) c.in-Postfix.is
    ∙ postfix_is c.in-Postfix.primary c.in-Postfix.steps at in
    let called : c.is_callee-called.result ≡ is_callee primary steps = c.is_callee-called.ensures
    ∙ (λ i. is_callee (expr_of (c.get-in-Postfix.ensures i)) (steps_of (c.as_slice-in-Postfix.ensures i))) in
    let inside : c.if-called.first ≡ after (unless (is_callee primary steps) (in_expr meant primary)) met = elim c.if-called.branch [
      | look_at_expr-then-called w ↦ w.first-is ∙ ap (λ b. after (unless b (in_expr meant primary)) met) (sym w.if-called.true ∙ called)
      | look_at_expr-else-called w ↦ w.first-is ∙ w.look_at_expr-first-else-called.ensures ∙ ap (λ e. after (in_expr meant (expr_of e)) met)
          w.get-else-called.ensures ∙ ap (λ b. after (unless b (in_expr meant primary)) met) (sym w.if-called.false ∙ called)
    ] in
    met_as (in_expr meant) (expr_of c.args.e.now) (T.Postfix primary steps at) c.args.first c.look_at_steps.result same
    (then_met at.span (unless (is_callee primary steps) (in_expr meant primary) ++ in_steps meant steps) c.args.first met c.look_at_steps.result
    c.meet-first.ensures
    (then note (unless (is_callee primary steps) (in_expr meant primary)) (in_steps meant steps) met c.if-called.first c.look_at_steps.result inside
    (c.look_at_steps.ensures ∙ ap (λ steps. after (in_steps meant (steps_of steps)) c.if-called.first) c.as_slice-in-Postfix-2.ensures)))

pub look_at_expr-returns-in-If : goal.look_at_expr-returns-in-If
look_at_expr-returns-in-If t c =
    let meant = c.args.meant.now in
    let at = placed c.args.e.now.span c.args.e.now.node in
    let choices = choices_of c.as_slice-in-If.result.now in
    let otherwise = expr_of c.get-in-If.result.now in
    let same : expr_of c.args.e.now ≡ T.IfElse choices otherwise at = ap (λ kind. expr_kind_of kind at) c.in-If.is
    ∙ if_else_is c.in-If.choices c.in-If.otherwise at
    ∙ (λ i. T.IfElse (choices_of (sym c.as_slice-in-If.ensures i)) (expr_of (sym c.get-in-If.ensures i)) at) in
    met_as (in_expr meant) (expr_of c.args.e.now) (T.IfElse choices otherwise at) c.args.first c.look_at_expr-in-If.result same
    (then_met at.span (in_choices meant choices ++ in_expr meant otherwise) c.args.first c.meet-in-If.result c.look_at_expr-in-If.result c.meet-in-If.ensures
    (then note (in_choices meant choices) (in_expr meant otherwise) c.meet-in-If.result c.look_at_choices-first.result c.look_at_expr-in-If.result
    c.look_at_choices-first.ensures c.look_at_expr-in-If.ensures))
