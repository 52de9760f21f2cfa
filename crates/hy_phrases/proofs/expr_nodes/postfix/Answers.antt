use Rattle.std.proofs.Common.{rules, ap, ◌∙◌}
use Rattle.hy_tree.specs.Denotes.{expr_kind_of}
use Rattle.hy_tree.specs.declared.expression.ExprKind.TheVariants as E
use Rattle.hy_grammar.specs.Nodes as node
use Rattle.hy_phrases.proofs.Alone.{with_steps}
use Rattle.hy_phrases.proofs.expr_nodes.postfix.Goals as goal

pub returns : goal.returns
returns c = ap (λ primary. expr_kind_of (E.Postfix primary c.args.steps) (node.at c.args.primary.span.from c.args.to)) c.in_ok-new.ensures
    ∙ with_steps c.args.primary c.args.steps c.args.to (λ e. search rules)
