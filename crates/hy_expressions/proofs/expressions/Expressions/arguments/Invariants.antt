use Rattle.std.proofs.Common.{◌≡◌, ◌≤◌, ◌+◌, ℕ, length, map}
use Rattle.hy_tree.specs.Denotes.{expr_of, arg_of}
use Rattle.hy_grammar.specs.ExprSteps.{callee}
use Rattle.hy_grammar.specs.Machine.{walk, most_levels}
use Rattle.hy_expressions.specs.ReadsExpressions.{StepSpot, brackets_of}
use Rattle.hy_grammar.specs.Stack.{ArgumentsOpened, ArgumentsRead, depth}
use Rattle.hy_expressions.proofs.expressions.Expressions.arguments.Given as goal

abbrev pub invariant-arguments : goal.invariant-arguments
invariant-arguments g l = record {
  within : length l.tokens.rest.now ≤ length l.fn.tokens.rest.now;
  reads : (total : ℕ) (x : StepSpot) → l.levels + depth (ArgumentsOpened (callee (expr_of l.primary) x.steps (brackets_of l.brackets)) x.spot) ≡ most_levels
      → walk total (ArgumentsOpened (callee (expr_of l.primary) x.steps (brackets_of l.brackets)) x.spot) l.fn.tokens.rest.now ≡ walk total
      (ArgumentsRead (callee (expr_of l.primary) x.steps (brackets_of l.brackets)) (map arg_of l.args) x.spot) l.tokens.rest.now;
}

abbrev pub decreases-arguments : goal.decreases-arguments
decreases-arguments g l = length l.tokens.rest.now
