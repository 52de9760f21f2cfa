use Rattle.std.proofs.Common.{Some, sym, ap, ◌∙◌}
use Rattle.hy_tree.specs.Denotes as D
use Rattle.hy_parser.specs.Headings.{sort_of, Below, BelowFunction, headed, callable_done}
use Rattle.hy_grammar.specs.Machine.{walk}
use Rattle.hy_parser.specs.declared.heading.Heading.{Heading}
use Rattle.hy_grammar.specs.DeclSteps.{head_of}
use Rattle.hy_grammar.specs.Stack.{FunctionWord, FunctionName, ParamsWanted}
use Rattle.hy_parser.proofs.CallableSteps.{function_names, fits_function}
use Rattle.hy_parser.proofs.Follows.{passed, follows}
use Rattle.hy_phrases.proofs.Walks.{fits, named, unnamed, from_there}
use Rattle.hy_parser.proofs.callables.read_function.Goals as goal

pub returns-in_err-name-clause-reads : goal.returns-in_err-name-clause-reads
returns-in_err-name-clause-reads c =
    passed c.args.levels _ _ _ _ _ _ c.from_residual.ensures.1
    (λ total x le. unnamed total (function_names x.home x.start c.args.keyword) _ _ c.in_err-name.ensures.token)

pub returns-in_err-opened-clause-reads : goal.returns-in_err-opened-clause-reads
returns-in_err-opened-clause-reads c =
    let f : BelowFunction (sort_of c.args.sort) → Below (sort_of c.args.sort) =
    λ x. record { home = x.home; start = x.start; fits = fits_function c.args.sort x.home x.is } in
    passed c.args.levels _ _ _ _ _ _ c.from_residual-in_err-opened.ensures.1 (λ total x le.
    from_there _ _ _
    (named total (function_names x.home x.start c.args.keyword) c.in_ok-name.ensures.token (fits c.args.levels _ le)
    ∙ ap (λ s. walk total (FunctionName (head_of x.home x.start s c.args.keyword (Some c.in_ok-name.name))) c.name.new.self.rest.now) x.is
    ∙ ap (λ (h : Heading). walk total (FunctionName (headed (sort_of c.args.sort) h (f x))) c.name.new.self.rest.now) (sym c.new-heading.ensures))
    (c.in_err-opened.ensures.reads c.args.levels total (f x) le))

pub returns-clause-reads : goal.returns-clause-reads
returns-clause-reads c =
    let f : BelowFunction (sort_of c.args.sort) → Below (sort_of c.args.sort) =
    λ x. record { home = x.home; start = x.start; fits = fits_function c.args.sort x.home x.is } in
    follows c.args.levels c.args.levels D.callable_of (λ (x : BelowFunction (sort_of c.args.sort)). FunctionWord x.home x.start c.args.keyword) f
    (λ y. ParamsWanted (headed (sort_of c.args.sort) c.in_ok-opened.opened y)) (λ z y. callable_done z y.home y.start) _ _ _ _
    (λ total x le. named total (function_names x.home x.start c.args.keyword) c.in_ok-name.ensures.token (fits c.args.levels _ le)
    ∙ ap (λ s. walk total (FunctionName (head_of x.home x.start s c.args.keyword (Some c.in_ok-name.name))) c.name.new.self.rest.now) x.is
    ∙ ap (λ (h : Heading). walk total (FunctionName (headed (sort_of c.args.sort) h (f x))) c.name.new.self.rest.now) (sym c.new-heading.ensures)
    ∙ c.in_ok-opened.ensures.reads c.args.levels total (f x) le)
    (λ x le. le) c.read_opened.ensures.reads
