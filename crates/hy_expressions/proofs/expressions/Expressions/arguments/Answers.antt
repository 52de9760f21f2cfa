use Rattle.std.proofs.Common.{List, [], ◌∷◌, ◌++◌, map, Some, rules, sym, ap, subst, ◌∙◌, arith}
use Rattle.std.proofs.lemmas.List.{map-append}
use Rattle.hy_lexer.specs.declared.token.TokenKind.TheVariants as k
use Rattle.hy_tree.specs.Denotes.{expr_of, step_of, arg_of}
use Rattle.hy_tree.specs.Tree as T
use Rattle.hy_expressions.specs.declared.expressions.Brackets.{Brackets}
use Rattle.hy_grammar.specs.ExprSteps.{callee}
use Rattle.hy_grammar.specs.ExprSteps as steps
use Rattle.hy_grammar.specs.Machine.{walk}
use Rattle.hy_phrases.specs.Marks.{kind_of}
use Rattle.hy_expressions.specs.ReadsExpressions.{StepSpot, ArgumentSpot, after_step, brackets_of}
use Rattle.hy_grammar.specs.Stack.{State, ArgumentsOpened, ArgumentsRead}
use Rattle.hy_phrases.specs.Wanted.{Sees, Takes, Misses}
use Rattle.hy_phrases.proofs.Walks.{taken, stopped, from_there, passes}
use Rattle.hy_expressions.proofs.StepWalks.{arguments_at_once, first_argument, argument_next, arguments_end, arguments_unclosed}
use Rattle.hy_expressions.proofs.Stepped.{step_made}
use Rattle.hy_expressions.proofs.expressions.Expressions.arguments.Goals as goal

abbrev need : T.Expr → Brackets → StepSpot → State
need primary brackets x = ArgumentsOpened (callee primary x.steps (brackets_of brackets)) x.spot

abbrev have : T.Expr → T.Step → StepSpot → State
have primary s x = after_step primary (Some s) x

abbrev there : T.Expr → Brackets → List T.Arg → StepSpot → ArgumentSpot
there primary brackets args x = record { callee = callee primary x.steps (brackets_of brackets); args = args; spot = x.spot }

pub returns-in-Some-clause-reads : goal.returns-in-Some-clause-reads
returns-in-Some-clause-reads g c = λ total x h.
    let w = subst (λ m. Takes (kind_of m) c.args.tokens.now.rest.now c.in-Some.close c.take.new.self.rest.now) c.close.ensures c.in-Some.ensures.token in
    taken total (arguments_at_once (expr_of c.args.primary.now) x.steps c.args.brackets x.spot) w (omega (arith, h))
    ∙ step_made total (expr_of c.args.primary.now) c.args.brackets [] c.in-Some.close (step_of c.arguments_step.result) x c.take.new.self.rest.now
    (c.arguments_step.ensures
    ∙ ap (λ l. steps.arguments_step (brackets_of c.args.brackets) (expr_of c.args.primary.now) (map arg_of l) c.in-Some.close) c.new-args.ensures)

pub returns-in_err-argument-clause-reads : goal.returns-in_err-argument-clause-reads
returns-in_err-argument-clause-reads g c =
    passes c.args.levels step_of (need (expr_of c.args.primary.now) c.args.brackets) (have (expr_of c.args.primary.now)) _ _ c.from_residual.result _
    c.from_residual.ensures.1
    (λ total x h.
    let w = c.in_default.ensures.token in
    let no_end = subst (λ m. Sees (kind_of m) c.args.tokens.now.rest.now → ⊥) c.close.ensures w.0 in
    from_there _ _ _ (first_argument (expr_of c.args.primary.now) x.steps c.args.brackets x.spot total _ no_end
    ∙ ap (walk total _) (sym w.1)) (c.in_err-argument.ensures.reads total (there (expr_of c.args.primary.now) c.args.brackets [] x) h))

pub arguments-init : goal.arguments-init
arguments-init g c = record {
  within = search rules;
  reads = λ total x h.
      let w = c.in_default.ensures.token in
      let no_end = subst (λ m. Sees (kind_of m) c.args.tokens.now.rest.now → ⊥) c.close.ensures w.0 in
      first_argument (expr_of c.args.primary.now) x.steps c.args.brackets x.spot total _ no_end ∙ ap (walk total _) (sym w.1)
      ∙ c.in_ok-argument.ensures.reads total (there (expr_of c.args.primary.now) c.args.brackets [] x) h
      ∙ ap (λ l. walk total (ArgumentsRead (callee (expr_of c.args.primary.now) x.steps (brackets_of c.args.brackets)) l x.spot)
      c.argument.new.tokens.rest.now)
      (sym (ap (map arg_of) (c.in_ok-push.ensures.ok ∙ ap (λ l. l ++ c.in_ok-argument.field-0 ∷ []) c.new-args.ensures)));
}

pub returns-in_err-argument-2-clause-reads : goal.returns-in_err-argument-2-clause-reads
returns-in_err-argument-2-clause-reads g c =
    passes c.args.levels step_of (need (expr_of c.args.primary.now) c.args.brackets) (have (expr_of c.args.primary.now)) _ _
    c.from_residual-in_err-argument-2.result _ c.from_residual-in_err-argument-2.ensures.1
    (λ total x h. from_there _ _ _ (c.arguments.invariant.reads total x h
    ∙ taken total (argument_next (expr_of c.args.primary.now) x.steps c.args.brackets x.spot (map arg_of c.arguments.args)) c.in-Some-take.ensures.token
    (omega (arith, h)))
    (c.in_err-argument-2.ensures.reads total (there (expr_of c.args.primary.now) c.args.brackets (map arg_of c.arguments.args) x) h))

pub arguments-preserved : goal.arguments-preserved
arguments-preserved g c = record {
  within = search rules;
  reads = λ total x h.
      c.arguments.invariant.reads total x h
      ∙ taken total (argument_next (expr_of c.args.primary.now) x.steps c.args.brackets x.spot (map arg_of c.arguments.args))
      c.in-Some-take.ensures.token (omega (arith, h))
      ∙ c.in_ok-argument-2.ensures.reads total (there (expr_of c.args.primary.now) c.args.brackets (map arg_of c.arguments.args) x) h
      ∙ ap (λ l. walk total (ArgumentsRead (callee (expr_of c.args.primary.now) x.steps (brackets_of c.args.brackets)) l x.spot)
      c.argument-in-Some-take.new.tokens.rest.now) (sym (ap (map arg_of) c.in_ok-push-2.ensures.ok
      ∙ map-append arg_of c.arguments.args (c.in_ok-argument-2.field-0 ∷ [])));
}

pub returns-in_err-close-clause-reads : goal.returns-in_err-close-clause-reads
returns-in_err-close-clause-reads g c =
    passes c.args.levels step_of (need (expr_of c.args.primary.now) c.args.brackets) (have (expr_of c.args.primary.now)) _ _
    c.from_residual-in_err-close.result _ c.from_residual-in_err-close.ensures.1
    (λ total x h.
    let w = c.in_default-take.ensures.token in
    let m = subst (λ m. Misses (kind_of m) c.take-in-arguments.new.self.rest.now c.in_err-close.field-0.0) c.close-2.ensures c.in_err-close.ensures.token in
    from_there _ _ _ (c.arguments.invariant.reads total x h ∙ ap (walk total _) (sym w.1))
    (stopped _ _ _ m.stops (arguments_unclosed (expr_of c.args.primary.now) x.steps c.args.brackets x.spot (map arg_of c.arguments.args) total _
    (subst (λ l. Sees k.Comma l → ⊥) (sym w.1) w.0) m.lacks)))

pub returns-clause-reads : goal.returns-clause-reads
returns-clause-reads g c = λ total x h.
    let w = c.in_default-take.ensures.token in
    let t = subst (λ m. Takes (kind_of m) c.take-in-arguments.new.self.rest.now c.in_ok-close.close c.want.new.self.rest.now) c.close-2.ensures
    c.in_ok-close.ensures.token in
    c.arguments.invariant.reads total x h ∙ ap (walk total _) (sym w.1)
    ∙ taken total (arguments_end (expr_of c.args.primary.now) x.steps c.args.brackets x.spot (map arg_of c.arguments.args)) t (omega (arith, h))
    ∙ step_made total (expr_of c.args.primary.now) c.args.brackets (map arg_of c.arguments.args) c.in_ok-close.close (step_of c.arguments_step-2.result) x
    c.want.new.self.rest.now c.arguments_step-2.ensures
