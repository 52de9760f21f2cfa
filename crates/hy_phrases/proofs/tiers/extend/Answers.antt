use Rattle.std.proofs.Common.{sym, ap, ◌∙◌}
use Rattle.hy_tree.specs.Denotes.{expr_of, link_of}
use Rattle.hy_grammar.specs.ExprSteps as steps
use Rattle.hy_grammar.specs.Nodes as node
use Rattle.hy_phrases.specs.OpenChains.{tier_of}
use Rattle.hy_grammar.specs.Stack as stack
use Rattle.hy_phrases.proofs.Chained.{pushed, first_from}
use Rattle.hy_phrases.proofs.tiers.extend.Goals as goal

pub returns : goal.returns
returns c =
    let chain = c.in-Some.chain in
    ap (λ links. stack.OpenChain (expr_of chain.first) links c.args.operator c.args.token)
    (pushed link_of chain.links c.push.new.self c.link-last.result (node.link (expr_of chain.first) chain.operator chain.token (expr_of c.args.operand))
    c.in_ok-push.ensures.ok (c.link-last.ensures (expr_of chain.first) (first_from chain.first)))
    ∙ sym (ap (λ t. steps.extend (tier_of t) (expr_of c.args.operand) c.args.operator c.args.token) c.in-Some.is)
