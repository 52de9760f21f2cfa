use Rattle.std.proofs.Common.{◌∷◌, [], map, refl, sym, ap, ◌∙◌, arith}
use Rattle.std.proofs.lemmas.List.{map-append}
use Rattle.hy_lexer.specs.declared.token.TokenKind.TheVariants as k
use Rattle.hy_tree.specs.Denotes.{param_of}
use Rattle.hy_parser.specs.Headings.{sort_of, headed}
use Rattle.hy_grammar.specs.Machine.{walk}
use Rattle.hy_grammar.specs.Stack.{ParamWanted, ParamRead, ParamsRead}
use Rattle.hy_grammar.specs.TypeSteps.{with_param}
use Rattle.hy_parser.proofs.Follows.{passed, still}
use Rattle.hy_parser.proofs.ParameterSteps.{no_params, some_params, params_separate}
use Rattle.hy_parser.proofs.Separators.{on_comma, on_close, on_neither}
use Rattle.hy_phrases.proofs.Walks.{fits, taken, from_there}
use Rattle.hy_parser.proofs.parameters.read_params.Goals as goal

pub returns-in-Some-clause-reads : goal.returns-in-Some-clause-reads
returns-in-Some-clause-reads c =
    λ total x le. taken total (no_params (headed (sort_of c.args.sort) c.args.heading x)) c.in-Some.ensures.token (omega (arith, le))

pub params-init : goal.params-init
params-init c = record {
  within = omega arith;
  reads = λ total x le.
      let lacking = c.in_default.ensures.token in
      some_params total (headed (sort_of c.args.sort) c.args.heading x) c.args.tokens.now.rest.now lacking.0
      ∙ ap (walk total (ParamWanted (headed (sort_of c.args.sort) c.args.heading x))) (sym lacking.1);
}

pub returns-in_err-read_param-clause-reads : goal.returns-in_err-read_param-clause-reads
returns-in_err-read_param-clause-reads c = passed c.args.levels _ _ _ _ _ _ c.from_residual.ensures.1 (λ total x le.
    from_there _ _ _ (c.params.invariant.reads total x le) (c.in_err-read_param.ensures.reads total
    (record { head = headed (sort_of c.args.sort) c.params.heading x; is = refl }) le))

pub params-preserved : goal.params-preserved
params-preserved c = record {
  within = omega arith;
  reads = λ total x le.
      let head = headed (sort_of c.args.sort) c.params.heading x in
      let p = c.in_ok-read_param.field-0 in
      c.params.invariant.reads total x le ∙ c.in_ok-read_param.ensures.reads total (record { head = head; is = refl }) le
      ∙ on_comma total (params_separate (with_param head (param_of p))) c.in-Some-take.ensures.token (fits c.args.levels _ le)
      ∙ ap (λ params. walk total (ParamWanted (record head { params = params })) c.take-in-params.new.self.rest.now)
      (sym (ap (map param_of) c.in_ok-push.ensures.ok ∙ map-append param_of c.params.heading.params (p ∷ [])));
}

pub returns-in_err-close-clause-reads : goal.returns-in_err-close-clause-reads
returns-in_err-close-clause-reads c = passed c.args.levels _ _ _ _ _ _ c.from_residual-in_err-close.ensures.1 (λ total x le.
    let head = headed (sort_of c.args.sort) c.params.heading x in
    let p = c.in_ok-read_param.field-0 in
    let lacking = c.in_default-take.ensures.token in
    let none_such = still k.Comma _ _ lacking.0 lacking.1 in
    from_there _ _ _ (c.params.invariant.reads total x le ∙ c.in_ok-read_param.ensures.reads total (record { head = head; is = refl }) le
    ∙ ap (walk total (ParamRead (with_param head (param_of p)))) (sym lacking.1))
    (on_neither total (params_separate (with_param head (param_of p))) none_such none_such c.in_err-close.ensures.token))

pub returns-clause-reads : goal.returns-clause-reads
returns-clause-reads c = λ total x le.
    let head = headed (sort_of c.args.sort) c.params.heading x in
    let p = c.in_ok-read_param.field-0 in
    let lacking = c.in_default-take.ensures.token in
    c.params.invariant.reads total x le ∙ c.in_ok-read_param.ensures.reads total (record { head = head; is = refl }) le
    ∙ ap (walk total (ParamRead (with_param head (param_of p)))) (sym lacking.1)
    ∙ on_close total (params_separate (with_param head (param_of p))) c.in_ok-close.ensures.token (omega (arith, le))
    ∙ ap (λ params. walk total (ParamsRead (record head { params = params }) c.in_ok-close.close.to) c.want.new.self.rest.now)
    (sym (ap (map param_of) c.in_ok-push.ensures.ok ∙ map-append param_of c.params.heading.params (p ∷ [])))
