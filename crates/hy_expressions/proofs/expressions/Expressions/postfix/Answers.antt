use Rattle.std.specs.Option.{option_map}
use Rattle.std.proofs.Common.{ℕ, List, map, rules, sym, ap, ◌∙◌}
use Rattle.hy_lexer.specs.declared.token.Token.{Token}
use Rattle.hy_tree.specs.Denotes.{expr_of, step_of}
use Rattle.hy_tree.specs.Tree as T
use Rattle.hy_grammar.specs.Machine.{walk}
use Rattle.hy_expressions.specs.ReadsExpressions.{StepSpot, PostfixSpot, after_step, operated}
use Rattle.hy_grammar.specs.Stack.{Spot, State, Operand, Postfixed}
use Rattle.hy_phrases.proofs.Walks.{from_there, passes}
use Rattle.hy_expressions.proofs.Stepped.{step_pushed}
use Rattle.hy_expressions.proofs.expressions.Expressions.postfix.Goals as goal

abbrev need : (old : List Token) → PostfixSpot old → State
need old x = Operand x.spot

abbrev have : (old : List Token) → T.Expr → PostfixSpot old → State
have old e x = operated e x.spot

abbrev there : List T.Step → ℕ → Spot → StepSpot
there steps to spot = record { steps = steps; to = to; spot = spot }

pub returns-in_err-primary-clause-reads : goal.returns-in_err-primary-clause-reads
returns-in_err-primary-clause-reads g c =
    passes c.args.levels expr_of (need c.args.tokens.now.rest.now) (have c.args.tokens.now.rest.now) _ _ c.from_residual.result _ c.from_residual.ensures.1
    (λ total x h. c.in_err-primary.ensures.reads total x h)

pub steps-init : goal.steps-init
steps-init g c = record {
  within = search rules;
  reads = λ total x h. c.in_ok-primary.ensures.reads total x h
      ∙ ap (λ l. walk total (Postfixed (expr_of c.in_ok-primary.primary) l 0 x.spot) c.primary.new.tokens.rest.now)
      (sym (ap (map step_of) c.new-steps.ensures));
}

pub returns-in_err-step-clause-reads : goal.returns-in_err-step-clause-reads
returns-in_err-step-clause-reads g c =
    passes c.args.levels expr_of (need c.args.tokens.now.rest.now) (have c.args.tokens.now.rest.now) _ _ c.from_residual-in_err-step.result _
    c.from_residual-in_err-step.ensures.1
    (λ total x h. from_there _ _ _ (c.steps.invariant.reads total x h)
    (c.in_err-step.ensures.reads total (there (map step_of c.steps.steps) c.steps.to x.spot) h))

pub steps-preserved : goal.steps-preserved
steps-preserved g c = record {
  within = search rules;
  reads = λ total x h.
      c.steps.invariant.reads total x h
      ∙ c.in_ok-step.ensures.reads total (there (map step_of c.steps.steps) c.steps.to x.spot) h
      ∙ ap (λ o. walk total (after_step (expr_of c.in_ok-primary.primary) (option_map step_of o) (there (map step_of c.steps.steps) c.steps.to x.spot))
      c.step.new.tokens.rest.now) c.in-Some.is
      ∙ step_pushed total (expr_of c.in_ok-primary.primary) c.steps.steps c.push.new.self c.steps.to c.in-Some.step x.spot c.step.new.tokens.rest.now
      c.in_ok-push.ensures.ok;
}

pub returns-clause-reads : goal.returns-clause-reads
returns-clause-reads g c = λ total x h.
    c.steps.invariant.reads total x h
    ∙ c.in_ok-step.ensures.reads total (there (map step_of c.steps.steps) c.steps.to x.spot) h
    ∙ ap (λ o. walk total (after_step (expr_of c.in_ok-primary.primary) (option_map step_of o) (there (map step_of c.steps.steps) c.steps.to x.spot))
    c.step.new.tokens.rest.now) c.in_default.is
    ∙ ap (λ e. walk total (operated e x.spot) c.step.new.tokens.rest.now) (sym c.in_ok-postfix.ensures)
