use Rattle.std.proofs.Common.{map, sym, ap, ◌∙◌}
use Rattle.hy_tree.specs.Denotes.{expr_of}
use Rattle.hy_grammar.specs.ExprSteps.{prefixed}
use Rattle.hy_expressions.specs.ReadsExpressions.{prefix_at}
use Rattle.hy_expressions.proofs.Prefixed.{prefixed_last, prefixed_none}
use Rattle.hy_expressions.proofs.expressions.with_prefixes.Goals as goal

pub prefixes-preserved : goal.prefixes-preserved
prefixes-preserved c =
    ap (prefixed (map prefix_at c.pop.new.self)) c.in_ok-made.ensures
    ∙ sym (prefixed_last c.pop.new.self c.in-Some-pop.prefix (expr_of c.prefixes.made))
    ∙ ap (λ l. prefixed (map prefix_at l) (expr_of c.prefixes.made)) (sym c.in-Some-pop.ensures)
    ∙ c.prefixes.invariant

pub returns : goal.returns
returns c = prefixed_none c.prefixes.prefixes (expr_of c.prefixes.made) c.in_default.ensures.0 ∙ c.prefixes.invariant
