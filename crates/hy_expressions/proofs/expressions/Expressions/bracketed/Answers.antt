use Rattle.std.proofs.Common.{◌≡◌, ◌+◌, ◌∙◌, arith}
use Rattle.std.specs.Option.{option_map}
use Rattle.hy_tree.specs.Denotes.{expr_of, step_of}
use Rattle.hy_tree.specs.Tree as T
use Rattle.hy_expressions.specs.ReadsExpressions.{StepSpot, after_step}
use Rattle.hy_grammar.specs.Stack.{State, Postfixed}
use Rattle.hy_phrases.proofs.Walks.{stopped_deep, from_there, passes, took}
use Rattle.hy_expressions.proofs.StepWalks.{over_opening, opening_too_deep, postfix_ends_line}
use Rattle.hy_expressions.proofs.expressions.Expressions.bracketed.Goals as goal

abbrev need : StepSpot → T.Expr → State
need x primary = Postfixed primary x.steps x.to x.spot

pub returns-then-bracket-clause-reads : goal.returns-then-bracket-clause-reads
returns-then-bracket-clause-reads g c = λ total x h.
    postfix_ends_line total (expr_of c.args.primary.now) x.steps x.to x.spot c.args.brackets c.args.bracket.now _ _ c.requires.front c.requires.opens
    c.if-bracket.true

pub returns-in_err-inner-clause-reads : goal.returns-in_err-inner-clause-reads
returns-in_err-inner-clause-reads g c =
    passes c.args.levels (option_map step_of) (λ x. need x (expr_of c.args.primary.now)) (after_step (expr_of c.args.primary.now)) _ _
    c.from_residual.result _ c.from_residual.ensures.1
    (λ total x h.
    let d = c.in_err-inner.ensures in
    stopped_deep _ _ _ d.1 (opening_too_deep total (expr_of c.args.primary.now) x.steps x.to x.spot c.args.brackets c.args.bracket.now _ _ c.requires.front
    c.requires.opens c.if-bracket.false (omega (arith, h, d.0))))

pub returns-in_err-arguments-clause-reads : goal.returns-in_err-arguments-clause-reads
returns-in_err-arguments-clause-reads g c =
    passes c.args.levels (option_map step_of) (λ x. need x (expr_of c.args.primary.now)) (after_step (expr_of c.args.primary.now)) _ _
    c.from_residual-in_err-arguments.result _ c.from_residual-in_err-arguments.ensures.1
    (λ total x h.
    let d : c.in_ok-inner.inner + 1 ≡ c.args.levels = c.in_ok-inner.ensures in
    from_there _ _ _ (over_opening total (expr_of c.args.primary.now) x.steps x.to x.spot c.args.brackets c.args.bracket.now _ _
    (took _ _ _ c.requires.front c.skip.ensures.rest) c.requires.opens c.if-bracket.false c.in_ok-inner.inner (omega (arith, h, d)))
    (c.in_err-arguments.ensures.reads total x (omega (arith, h, d))))

pub returns-clause-reads : goal.returns-clause-reads
returns-clause-reads g c = λ total x h.
    let d : c.in_ok-inner.inner + 1 ≡ c.args.levels = c.in_ok-inner.ensures in
    over_opening total (expr_of c.args.primary.now) x.steps x.to x.spot c.args.brackets c.args.bracket.now _ _
    (took _ _ _ c.requires.front c.skip.ensures.rest) c.requires.opens c.if-bracket.false c.in_ok-inner.inner (omega (arith, h, d))
    ∙ c.in_ok-arguments.ensures.reads total x (omega (arith, h, d))
