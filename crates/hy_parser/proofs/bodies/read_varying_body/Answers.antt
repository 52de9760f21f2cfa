use Rattle.std.proofs.Common.{[], sym}
use Rattle.hy_parser.specs.Headings.{sort_of, Below, headed, callable_done}
use Rattle.hy_tree.specs.Denotes as D
use Rattle.hy_grammar.specs.Stack.{PlainBody, InBody, BodyOpened, BlockOpened, VariantsRead}
use Rattle.hy_parser.proofs.Follows.{follows}
use Rattle.hy_parser.proofs.VariantSteps.{in_variants, in_statements}
use Rattle.hy_phrases.proofs.Walks.{fits}
use Rattle.hy_parser.proofs.bodies.read_varying_body.Goals as goal

pub returns-then-begins_variants-clause-reads : goal.returns-then-begins_variants-clause-reads
returns-then-begins_variants-clause-reads c =
    let head = λ (x : Below (sort_of c.args.sort)). headed (sort_of c.args.sort) c.args.heading x in
    follows c.args.levels c.args.levels D.callable_of (λ x. BodyOpened (head x) c.args.brace) (λ x. x) (λ x. VariantsRead (head x) c.args.brace [])
    (λ z x. callable_done z x.home x.start) _ _ _ _
    (λ total x le. in_variants total (head x) c.args.brace c.args.tokens.now.rest.now (fits c.args.levels _ le) (sym c.if-begins_variants.ensures))
    (λ x le. le) (c.read_variants.ensures.reads c.args.brace)

pub returns-clause-reads : goal.returns-clause-reads
returns-clause-reads c =
    let head = λ (x : Below (sort_of c.args.sort)). headed (sort_of c.args.sort) c.args.heading x in
    follows c.args.levels c.args.levels D.callable_of (λ x. BodyOpened (head x) c.args.brace) (λ x. x)
    (λ x. BlockOpened (InBody (PlainBody (head x)) c.args.brace)) (λ z x. callable_done z x.home x.start) _ _ _ _
    (λ total x le. in_statements total (head x) c.args.brace c.args.tokens.now.rest.now (fits c.args.levels _ le) (sym c.if-begins_variants.ensures))
    (λ x le. le) c.read_plain_body.ensures.reads
