use Rattle.std.proofs.Common.{◌≡◌, ◌≤◌, ◌+◌, ℕ, [], length, map}
use Rattle.hy_tree.specs.Denotes.{choice_of}
use Rattle.hy_grammar.specs.Machine.{walk, most_levels}
use Rattle.hy_grammar.specs.OperandSteps.{beginning}
use Rattle.hy_grammar.specs.Stack.{Spot, ForCondition, Operand, ChoiceElse, depth}
use Rattle.hy_expressions.proofs.expressions.Expressions.choices.Given as goal

abbrev pub invariant-choices : goal.invariant-choices
invariant-choices g l = record {
  within : length l.tokens.rest.now ≤ length l.fn.tokens.rest.now;
  reads : (total : ℕ) (x : Spot) → l.levels + depth (Operand (beginning (ForCondition l.word.from [] l.word x))) ≡ most_levels
      → walk total (Operand (beginning (ForCondition l.word.from [] l.word x))) l.fn.tokens.rest.now ≡ walk total
      (ChoiceElse l.word.from (map choice_of l.made) x) l.tokens.rest.now;
}

abbrev pub decreases-choices : goal.decreases-choices
decreases-choices g l = length l.tokens.rest.now
