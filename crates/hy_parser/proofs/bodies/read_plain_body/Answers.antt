use Rattle.std.proofs.Common.{[], ◌∷◌, ◌++◌, map, refl, sym, ap, ◌∙◌}
use Rattle.hy_parser.specs.Headings.{sort_of, headed, callable_done}
use Rattle.hy_grammar.specs.Machine.{walk}
use Rattle.hy_tree.specs.Denotes.{block_of, variant_of}
use Rattle.hy_grammar.specs.Nodes as node
use Rattle.hy_grammar.specs.Stack.{PlainBody, InBody}
use Rattle.hy_grammar.specs.StmtSteps.{callable_of, plain_mode}
use Rattle.hy_parser.proofs.BodySteps.{called_done}
use Rattle.hy_parser.proofs.Follows.{passed}
use Rattle.hy_statements.proofs.StatementNodes.{block_at}
use Rattle.hy_parser.proofs.bodies.read_plain_body.Goals as goal

pub returns-in_err-block-clause-reads : goal.returns-in_err-block-clause-reads
returns-in_err-block-clause-reads c =
    passed c.args.levels _ _ _ _ _ _ c.from_residual.ensures.1
    (λ total x le. c.in_err-block.ensures.reads total (record {
      place = InBody (PlainBody (headed (sort_of c.args.sort) c.args.heading x)) c.args.brace;
      opens = refl;
      loops = refl;
    }) le)

pub returns-clause-reads : goal.returns-clause-reads
returns-clause-reads c = λ total x le.
    let head = headed (sort_of c.args.sort) c.args.heading x in
    let block = block_of c.in_ok-block.block in
    let one = ap (map variant_of) (c.in_ok-push.ensures.ok ∙ ap (λ made. made ++ c.plain_variant.result ∷ []) c.new-variants.ensures)
    ∙ ap (λ v. v ∷ []) c.plain_variant.ensures in
    let end = sym (ap (λ at. at.span.to) (block_at c.in_ok-block.block)) in
    let new = c.read_block.new.tokens.rest.now in
    c.in_ok-block.ensures.reads total (record { place = InBody (PlainBody head) c.args.brace; opens = refl; loops = refl }) le
    ∙ ap (λ s. walk total s new) (called_done x.home head (node.plain_variant (plain_mode (sort_of c.args.sort) c.args.heading.effect) block ∷ [])
    (node.block_to block))
    ∙ ap (λ z. walk total (callable_done z x.home x.start) new) (sym (c.callable.ensures x ∙ (λ i. callable_of head (one i) (end i))))
