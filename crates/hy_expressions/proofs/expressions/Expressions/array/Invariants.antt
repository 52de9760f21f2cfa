use Rattle.std.proofs.Common.{◌≡◌, ◌≤◌, ◌+◌, ℕ, [], length, map}
use Rattle.hy_tree.specs.Denotes.{expr_of}
use Rattle.hy_grammar.specs.Machine.{walk, most_levels}
use Rattle.hy_grammar.specs.OperandSteps.{beginning}
use Rattle.hy_grammar.specs.Stack.{Spot, ForElement, Operand, ElementsRead, depth}
use Rattle.hy_expressions.proofs.expressions.Expressions.array.Given as goal

abbrev pub invariant-elements : goal.invariant-elements
invariant-elements g l = record {
  within : length l.tokens.rest.now ≤ length l.fn.tokens.rest.now;
  reads : (total : ℕ) (x : Spot) → l.levels + depth (Operand (beginning (ForElement l.bracket [] x))) ≡ most_levels
      → walk total (Operand (beginning (ForElement l.bracket [] x))) l.fn.tokens.rest.now ≡ walk total (ElementsRead l.bracket (map expr_of l.made) x)
      l.tokens.rest.now;
}

abbrev pub decreases-elements : goal.decreases-elements
decreases-elements g l = length l.tokens.rest.now
