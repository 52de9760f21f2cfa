use Rattle.std.proofs.Common.{sym, ap, ◌∙◌, arith}
use Rattle.hy_parser.specs.Headings.{sort_of, Below, headed, callable_done}
use Rattle.hy_grammar.specs.Machine.{walk}
use Rattle.hy_tree.specs.Denotes as D
use Rattle.hy_grammar.specs.Stack.{PlainBody, InBody, ResultRead, BodyOpened, BlockOpened}
use Rattle.hy_parser.proofs.BodySteps.{body_wants, opened_depth, varying, not_varying}
use Rattle.hy_parser.proofs.Follows.{passed, follows}
use Rattle.hy_phrases.proofs.Walks.{wanted, unopened}
use Rattle.hy_parser.proofs.bodies.read_braced.Goals as goal

pub returns-in_err-brace-clause-reads : goal.returns-in_err-brace-clause-reads
returns-in_err-brace-clause-reads c = passed c.args.levels _ _ _ _ _ _ c.from_residual.ensures.1 (λ total x le.
    let head = headed (sort_of c.args.sort) c.args.heading x in
    unopened total (body_wants head c.args.heading.end c.requires) _ _ _ c.in_err-brace.ensures.token (λ span none. let d =
    opened_depth (sort_of c.args.sort) head span in omega (arith, le, none, d)))

pub returns-then-may_vary-clause-reads : goal.returns-then-may_vary-clause-reads
returns-then-may_vary-clause-reads c =
    let s = sort_of c.args.sort in
    let head = λ (x : Below (sort_of c.args.sort)). headed s c.args.heading x in
    let opened = c.in_ok-brace.ensures.token in
    let brace = c.in_ok-brace.brace in
    let inner = opened.1 in
    follows c.args.levels c.in_ok-brace.inner D.callable_of (λ x. ResultRead (head x) c.args.heading.end) (λ x. x) (λ x. BodyOpened (head x) brace)
    (λ z x. callable_done z x.home x.start) _ _ _ _
    (λ total x le. let d = opened_depth s (head x) brace in
    wanted total (body_wants (head x) c.args.heading.end c.requires) opened.0 (omega (arith, le, inner, d))
    ∙ ap (λ state. walk total state c.open.new.self.rest.now) (varying s (head x) brace (sym c.if-may_vary.ensures)))
    (λ x le. omega (arith, le, inner)) c.read_varying_body.ensures.reads

pub returns-clause-reads : goal.returns-clause-reads
returns-clause-reads c =
    let s = sort_of c.args.sort in
    let head = λ (x : Below (sort_of c.args.sort)). headed s c.args.heading x in
    let opened = c.in_ok-brace.ensures.token in
    let brace = c.in_ok-brace.brace in
    let inner = opened.1 in
    follows c.args.levels c.in_ok-brace.inner D.callable_of (λ x. ResultRead (head x) c.args.heading.end) (λ x. x)
    (λ x. BlockOpened (InBody (PlainBody (head x)) brace)) (λ z x. callable_done z x.home x.start) _ _ _ _
    (λ total x le. let d = opened_depth s (head x) brace in
    wanted total (body_wants (head x) c.args.heading.end c.requires) opened.0 (omega (arith, le, inner, d))
    ∙ ap (λ state. walk total state c.open.new.self.rest.now) (not_varying s (head x) brace (sym c.if-may_vary.ensures)))
    (λ x le. omega (arith, le, inner)) c.read_plain_body.ensures.reads
