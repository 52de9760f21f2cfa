use Rattle.std.proofs.Common.{rules, ◌∙◌}
use Rattle.std.specs.Option.{option_map}
use Rattle.hy_tree.specs.Denotes.{expr_of, step_of}
use Rattle.hy_tree.specs.Tree as T
use Rattle.hy_expressions.specs.ReadsExpressions.{StepSpot, after_step}
use Rattle.hy_grammar.specs.Stack.{State, Postfixed}
use Rattle.hy_phrases.proofs.Walks.{from_there, passes, took}
use Rattle.hy_expressions.proofs.StepWalks.{over_dot, postfix_left, postfix_ends}
use Rattle.hy_expressions.proofs.expressions.Expressions.step.Goals as goal

abbrev need : StepSpot → T.Expr → State
need x primary = Postfixed primary x.steps x.to x.spot

pub returns-in_default-clause-reads : goal.returns-in_default-clause-reads
returns-in_default-clause-reads g c = λ total x h. postfix_left total (expr_of c.args.primary.now) x.steps x.to x.spot _ c.in_default.ensures.token

pub returns-in_default-kind : goal.returns-in_default-kind
returns-in_default-kind g c = record {
  reads = λ total x h. postfix_ends total (expr_of c.args.primary.now) x.steps x.to x.spot c.in-Some.token.now _ _ c.in-Some.ensures.token
      c.in_default-kind.not-Dot c.in_default-kind.not-LeftParen c.in_default-kind.not-LeftBracket;
  within = search rules;
  progress = tt;
}

pub returns-in_err-dotted-in-Dot-clause-reads : goal.returns-in_err-dotted-in-Dot-clause-reads
returns-in_err-dotted-in-Dot-clause-reads g c =
    passes c.args.levels (option_map step_of) (λ x. need x (expr_of c.args.primary.now)) (after_step (expr_of c.args.primary.now)) _ _
    c.from_residual.result _ c.from_residual.ensures.1
    (λ total x h.
    from_there _ _ _ (over_dot total (expr_of c.args.primary.now) x.steps x.spot c.in-Some.token.now _ _
    (took _ _ _ c.in-Some.ensures.token c.skip.ensures.rest) c.args.levels h x.to c.in-Dot.is)
    (c.in_err-dotted-in-Dot.ensures.reads c.args.levels total x h))

pub returns-in_ok-dotted-in-Dot-clause-reads : goal.returns-in_ok-dotted-in-Dot-clause-reads
returns-in_ok-dotted-in-Dot-clause-reads g c = λ total x h.
    over_dot total (expr_of c.args.primary.now) x.steps x.spot c.in-Some.token.now _ _ (took _ _ _ c.in-Some.ensures.token c.skip.ensures.rest)
    c.args.levels h x.to c.in-Dot.is
    ∙ c.in_ok-dotted-in-Dot.ensures.reads c.args.levels total x h
