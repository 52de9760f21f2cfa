use Rattle.std.proofs.Common.{◌≡◌, ◌<◌, ◌+◌, ℕ, length, map}
use Rattle.hy_tree.specs.Denotes.{expr_of, step_of}
use Rattle.hy_grammar.specs.Machine.{walk, most_levels}
use Rattle.hy_expressions.specs.ReadsExpressions.{PostfixSpot}
use Rattle.hy_grammar.specs.Stack.{Operand, Postfixed, depth_spot}
use Rattle.hy_expressions.proofs.expressions.Expressions.postfix.Given as goal

abbrev pub invariant-steps : goal.invariant-steps
invariant-steps g l = record {
  within : length l.tokens.rest.now < length l.fn.tokens.rest.now;
  reads : (total : ℕ) (x : PostfixSpot l.fn.tokens.rest.now) → l.levels + depth_spot x.spot ≡ most_levels
      → walk total (Operand x.spot) l.fn.tokens.rest.now ≡ walk total (Postfixed (expr_of l.primary) (map step_of l.steps) l.to x.spot) l.tokens.rest.now;
}

abbrev pub decreases-steps : goal.decreases-steps
decreases-steps g l = length l.tokens.rest.now
