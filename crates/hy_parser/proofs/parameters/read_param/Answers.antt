use Rattle.std.proofs.Common.{sym, ap, ◌∙◌}
use Rattle.hy_grammar.specs.Machine.{walk}
use Rattle.hy_grammar.specs.Stack.{ParamRead, ForParam}
use Rattle.hy_grammar.specs.TypeSteps.{with_param}
use Rattle.hy_parser.proofs.Follows.{passed}
use Rattle.hy_phrases.proofs.Walks.{fits, from_there}
use Rattle.hy_parser.proofs.parameters.read_param.Goals as goal

pub returns-in_err-from-clause-reads : goal.returns-in_err-from-clause-reads
returns-in_err-from-clause-reads c =
    passed c.args.levels _ _ _ _ _ _ c.from_residual.ensures.1 (λ total x le. c.in_err-from.ensures.reads c.args.levels total x.head le)

pub returns-in_err-written-clause-reads : goal.returns-in_err-written-clause-reads
returns-in_err-written-clause-reads c = passed c.args.levels _ _ _ _ _ _ c.from_residual-in_err-written.ensures.1 (λ total x le.
    let r = c.in_ok-from in
    from_there _ _ _ (r.ensures.reads c.args.levels total x.head le
    ∙ c.read_mode-mode.ensures.reads total x.head r.from r.label r.name x.is (fits c.args.levels _ le))
    (c.in_err-written.ensures.reads total (ForParam x.head r.from r.label r.name c.read_mode-mode.result) le))

pub returns-clause-reads : goal.returns-clause-reads
returns-clause-reads c = λ total x le.
    let r = c.in_ok-from in
    r.ensures.reads c.args.levels total x.head le ∙ c.read_mode-mode.ensures.reads total x.head r.from r.label r.name x.is (fits c.args.levels _ le)
    ∙ c.in_ok-written.ensures.reads total (ForParam x.head r.from r.label r.name c.read_mode-mode.result) le
    ∙ ap (λ p. walk total (ParamRead (with_param x.head p)) c.read_type.new.tokens.rest.now) (sym c.param.ensures)
