use Rattle.std.proofs.Common.{None, sym, ap, ◌∙◌, arith}
use Rattle.hy_tree.specs.Denotes as D
use Rattle.hy_parser.specs.Headings.{Below, BelowDeinit, headed, callable_done}
use Rattle.hy_grammar.specs.Machine.{walk}
use Rattle.hy_parser.specs.declared.heading.Heading.{Heading}
use Rattle.hy_grammar.specs.DeclSteps.{head_of}
use Rattle.hy_grammar.specs.Stack.{Deinit, PlainBody, InBody, BodyWanted, BlockOpened}
use Rattle.hy_parser.proofs.Follows.{passed, follows}
use Rattle.hy_parser.proofs.VariantSteps.{plain_block}
use Rattle.hy_phrases.proofs.Walks.{wanted, unopened}
use Rattle.hy_parser.proofs.callables.read_deinit.Goals as goal

pub returns-in_err-brace-clause-reads : goal.returns-in_err-brace-clause-reads
returns-in_err-brace-clause-reads c = passed c.args.levels _ _ _ _ _ _ c.from_residual.ensures.1 (λ total x le.
    unopened total (plain_block (head_of x.home x.start Deinit c.args.keyword None)) _ _ _ c.in_err-brace.ensures.token (λ span none. omega (arith, le, none)))

pub returns-clause-reads : goal.returns-clause-reads
returns-clause-reads c =
    let opened = c.in_ok-brace.ensures.token in
    let inner = opened.1 in
    let brace = c.in_ok-brace.brace in
    let f : BelowDeinit → Below Deinit = λ x. record { home = x.home; start = x.start; fits = tt } in
    follows c.args.levels c.in_ok-brace.inner D.callable_of (λ (x : BelowDeinit). BodyWanted
    (PlainBody (head_of x.home x.start Deinit c.args.keyword None))) f
    (λ y. BlockOpened (InBody (PlainBody (headed Deinit c.new-heading.result y)) brace)) (λ z y. callable_done z y.home y.start) _ _ _ _
    (λ total x le. wanted total (plain_block (head_of x.home x.start Deinit c.args.keyword None)) opened.0 (omega (arith, le, inner))
    ∙ ap (λ (h : Heading). walk total (BlockOpened (InBody (PlainBody (headed Deinit h (f x))) brace)) c.open.new.self.rest.now) (sym c.new-heading.ensures))
    (λ x le. omega (arith, le, inner)) c.read_plain_body.ensures.reads
