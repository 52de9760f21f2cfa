use Rattle.std.proofs.Common.{◌∙◌, arith}
use Rattle.hy_tree.specs.Denotes as D
use Rattle.hy_parser.specs.Headings.{sort_of, Below, headed, callable_done}
use Rattle.hy_grammar.specs.Stack.{ParamsWanted, ResultRead}
use Rattle.hy_parser.proofs.CallableSteps.{params_want}
use Rattle.hy_parser.proofs.Follows.{passed, follows}
use Rattle.hy_phrases.proofs.Walks.{wanted, unopened, from_there}
use Rattle.hy_parser.proofs.callables.read_opened.Goals as goal

pub returns-in_err-inner-clause-reads : goal.returns-in_err-inner-clause-reads
returns-in_err-inner-clause-reads c = passed c.args.levels _ _ _ _ _ _ c.from_residual.ensures.1 (λ total x le.
    unopened total (params_want (headed (sort_of c.args.sort) c.args.heading x)) _ _ _ c.in_err-inner.ensures.token (λ span none. omega (arith, le, none)))

pub returns-in_err-signed-clause-reads : goal.returns-in_err-signed-clause-reads
returns-in_err-signed-clause-reads c = passed c.args.levels _ _ _ _ _ _ c.from_residual-in_err-signed.ensures.1 (λ total x le.
    let opened = c.in_ok-inner.ensures.token in
    let inner = opened.1 in
    from_there _ _ _ (wanted total (params_want (headed (sort_of c.args.sort) c.args.heading x)) opened.0 (omega (arith, le, inner)))
    (c.in_err-signed.ensures.reads total x (omega (arith, le, inner))))

pub returns-in_err-whole-clause-reads : goal.returns-in_err-whole-clause-reads
returns-in_err-whole-clause-reads c = passed c.args.levels _ _ _ _ _ _ c.from_residual-in_err-whole.ensures.1 (λ total x le.
    let opened = c.in_ok-inner.ensures.token in
    let inner = opened.1 in
    from_there _ _ _ (wanted total (params_want (headed (sort_of c.args.sort) c.args.heading x)) opened.0 (omega (arith, le, inner))
    ∙ c.in_ok-signed.ensures.reads total x (omega (arith, le, inner)))
    (c.in_err-whole.ensures.reads total x le))

pub returns-clause-reads : goal.returns-clause-reads
returns-clause-reads c =
    let s = sort_of c.args.sort in
    let opened = c.in_ok-inner.ensures.token in
    let inner = opened.1 in
    let whole = c.in_ok-whole.whole in
    follows c.args.levels c.args.levels D.callable_of (λ (x : Below (sort_of c.args.sort)). ParamsWanted (headed s c.args.heading x)) (λ x. x)
    (λ x. ResultRead (headed s whole x) whole.end) (λ z x. callable_done z x.home x.start) _ _ _ _
    (λ total x le. wanted total (params_want (headed s c.args.heading x)) opened.0 (omega (arith, le, inner))
    ∙ c.in_ok-signed.ensures.reads total x (omega (arith, le, inner)) ∙ c.in_ok-whole.ensures.reads total x le)
    (λ x le. le) c.read_body.ensures.reads
