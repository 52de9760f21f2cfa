use Rattle.std.proofs.Common.{sym, ap, ◌∙◌}
use Rattle.hy_tree.specs.Denotes.{expr_of}
use Rattle.hy_grammar.specs.ExprSteps as steps
use Rattle.hy_grammar.specs.Nodes as node
use Rattle.hy_phrases.specs.OpenChains.{tier_of}
use Rattle.hy_phrases.proofs.Chained.{joins, first_from}
use Rattle.hy_phrases.proofs.tiers.join.Goals as goal

pub returns : goal.returns
returns c =
    let chain = c.in-Some.chain in
    joins chain.first c.in_ok-new.field-0 c.args.operand c.push.new.self chain.links c.link-last.result
    (node.link (expr_of chain.first) chain.operator chain.token (expr_of c.args.operand)) c.between-span.result
    c.in_ok-new.ensures c.in_ok-push.ensures.ok (c.link-last.ensures (expr_of chain.first) (first_from chain.first)) c.between-span.ensures
    ∙ sym (ap (λ t. steps.join (tier_of t) (expr_of c.args.operand)) c.in-Some.is)
