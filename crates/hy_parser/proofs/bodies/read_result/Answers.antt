use Rattle.std.proofs.Common.{ap, ◌∙◌}
use Rattle.hy_parser.specs.Headings.{sort_of, headed}
use Rattle.hy_grammar.specs.Machine.{walk}
use Rattle.hy_tree.specs.Denotes.{type_of}
use Rattle.hy_grammar.specs.Stack.{ForResult, ResultRead}
use Rattle.hy_grammar.specs.TypeSteps.{with_result}
use Rattle.hy_parser.proofs.Follows.{passed}
use Rattle.hy_phrases.proofs.Widened.{type_at}
use Rattle.hy_parser.proofs.bodies.read_result.Goals as goal

pub returns-in_err-written-clause-reads : goal.returns-in_err-written-clause-reads
returns-in_err-written-clause-reads c =
    passed c.args.levels _ _ _ _ _ _ c.from_residual.ensures.1
    (λ total x le. c.in_err-written.ensures.reads total (ForResult (headed (sort_of c.args.sort) c.args.heading x)) le)

pub returns-clause-reads : goal.returns-clause-reads
returns-clause-reads c = λ total x le.
    let head = headed (sort_of c.args.sort) c.args.heading x in
    let written = c.in_ok-written.written in
    c.in_ok-written.ensures.reads total (ForResult head) le
    ∙ ap (λ at. walk total (ResultRead (with_result head (type_of written)) at.span.to) c.read_type.new.tokens.rest.now) (type_at written)
