use Rattle.std.proofs.Common.{◌≡◌, length, map}
use Rattle.hy_tree.specs.Denotes.{expr_of}
use Rattle.hy_grammar.specs.ExprSteps.{prefixed, marked}
use Rattle.hy_expressions.specs.ReadsExpressions.{prefix_at}
use Rattle.hy_expressions.proofs.expressions.with_prefixes.Given as goal

abbrev pub invariant-prefixes : goal.invariant-prefixes
invariant-prefixes l = prefixed (map prefix_at l.prefixes) (expr_of l.made) ≡ prefixed (map prefix_at l.fn.prefixes) (marked l.fn.mark (expr_of l.fn.operand))

abbrev pub decreases-prefixes : goal.decreases-prefixes
decreases-prefixes l = length l.prefixes
