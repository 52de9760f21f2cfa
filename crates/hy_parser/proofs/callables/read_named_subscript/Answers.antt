use Rattle.std.proofs.Common.{sym, ap, ◌∙◌}
use Rattle.hy_tree.specs.Denotes as D
use Rattle.hy_parser.specs.Headings.{Below, BelowName, headed, callable_done}
use Rattle.hy_grammar.specs.Machine.{walk}
use Rattle.hy_parser.specs.declared.heading.Heading.{Heading}
use Rattle.hy_grammar.specs.Stack.{Subscript, SubscriptWord, ParamsWanted}
use Rattle.hy_parser.proofs.CallableSteps.{subscript_named, subscript_unnamed}
use Rattle.hy_parser.proofs.Follows.{passed, follows}
use Rattle.hy_phrases.proofs.Walks.{fits}
use Rattle.hy_parser.proofs.callables.read_named_subscript.Goals as goal

pub returns-in_err-name-clause-reads : goal.returns-in_err-name-clause-reads
returns-in_err-name-clause-reads c =
    passed c.args.levels _ _ _ _ _ _ c.from_residual.ensures.1
    (λ total x le. subscript_unnamed total x.home x.start c.args.keyword _ _ x.names c.in_err-name.ensures.token)

pub returns-clause-reads : goal.returns-clause-reads
returns-clause-reads c =
    let f : BelowName c.args.tokens.now.rest.now → Below Subscript = λ x. record { home = x.home; start = x.start; fits = tt } in
    follows c.args.levels c.args.levels D.callable_of (λ (x : BelowName c.args.tokens.now.rest.now). SubscriptWord x.home x.start c.args.keyword) f
    (λ y. ParamsWanted (headed Subscript c.new-heading.result y)) (λ z y. callable_done z y.home y.start) _ _ _ _
    (λ total x le. subscript_named total x.home x.start c.args.keyword _ c.in_ok-name.name _ c.in_ok-name.ensures.token (fits c.args.levels _ le)
    ∙ ap (λ (h : Heading). walk total (ParamsWanted (headed Subscript h (f x))) c.name.new.self.rest.now) (sym c.new-heading.ensures))
    (λ x le. le) c.read_opened.ensures.reads
