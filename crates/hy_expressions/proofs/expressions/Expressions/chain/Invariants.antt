use Rattle.std.proofs.Common.{◌≡◌, ◌<◌, ◌+◌, ℕ, length}
use Rattle.hy_tree.specs.Denotes.{expr_of}
use Rattle.hy_grammar.specs.Machine.{walk, most_levels}
use Rattle.hy_phrases.specs.OpenChains.{tiers_of}
use Rattle.hy_grammar.specs.OperandSteps.{beginning}
use Rattle.hy_grammar.specs.Stack.{Use, Operand, Operated, depth_use}
use Rattle.hy_expressions.proofs.expressions.Expressions.chain.Given as goal

abbrev pub invariant-operators : goal.invariant-operators
invariant-operators g l = record {
  within : length l.tokens.rest.now < length l.fn.tokens.rest.now;
  reads : (total : ℕ) (u : Use) → l.self.levels + depth_use u ≡ most_levels
      → walk total (Operand (beginning u)) l.fn.tokens.rest.now ≡ walk total (Operated (expr_of l.operand) (tiers_of l.tiers) u) l.tokens.rest.now;
}

abbrev pub decreases-operators : goal.decreases-operators
decreases-operators g l = length l.tokens.rest.now
