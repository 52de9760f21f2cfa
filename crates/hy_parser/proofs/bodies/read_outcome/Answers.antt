use Rattle.std.proofs.Common.{ap}
use Rattle.hy_parser.specs.Headings.{sort_of, Below, headed}
use Rattle.hy_grammar.specs.Stack.{ParamsRead, EffectRead, ResultRead, TypeWanted, ForResult}
use Rattle.hy_parser.proofs.BodySteps.{subscript_wants}
use Rattle.hy_parser.proofs.Follows.{passed, follows}
use Rattle.hy_parser.proofs.HeadingSteps.{not_subscript}
use Rattle.hy_phrases.proofs.Walks.{fits, wanted, missed}
use Rattle.hy_parser.proofs.bodies.read_outcome.Goals as goal

pub returns-in_err-want-in-Subscript-clause-reads : goal.returns-in_err-want-in-Subscript-clause-reads
returns-in_err-want-in-Subscript-clause-reads c = passed c.args.levels _ _ _ _ _ _ c.from_residual.ensures.1 (λ total x le.
    missed total (subscript_wants (headed (sort_of c.args.sort) c.args.heading x) c.args.heading.end (ap sort_of c.in-Subscript.is))
    c.in_err-want-in-Subscript.ensures.token)

pub returns-in_ok-want-in-Subscript-clause-reads : goal.returns-in_ok-want-in-Subscript-clause-reads
returns-in_ok-want-in-Subscript-clause-reads c =
    let head = λ (x : Below (sort_of c.args.sort)). headed (sort_of c.args.sort) c.args.heading x in
    follows c.args.levels c.args.levels (λ h. h) (λ x. ParamsRead (head x) c.args.heading.end) (λ x. x) (λ x. TypeWanted (ForResult (head x)))
    (λ h x. ResultRead (headed (sort_of c.args.sort) h x) h.end) _ _ _ _
    (λ total x le. wanted total (subscript_wants (head x) c.args.heading.end (ap sort_of c.in-Subscript.is)) c.in_ok-want-in-Subscript.ensures.token
    (fits c.args.levels _ le)) (λ x le. le) c.read_result.ensures.reads

pub returns-in_default-clause-reads : goal.returns-in_default-clause-reads
returns-in_default-clause-reads c =
    let made = c.read_effect-heading.result in
    follows c.args.levels c.args.levels (λ h. h) (λ (x : Below (sort_of c.args.sort)). ParamsRead (headed (sort_of c.args.sort) c.args.heading x)
    c.args.heading.end) (λ x. x) (λ x. EffectRead (headed (sort_of c.args.sort) made x) made.end)
    (λ h x. ResultRead (headed (sort_of c.args.sort) h x) h.end) _ _ _ _
    (λ total x le. c.read_effect-heading.ensures.reads total x (not_subscript c.args.sort c.in_default.not-Subscript) (fits c.args.levels _ le))
    (λ x le. le) c.read_arrow.ensures.reads
