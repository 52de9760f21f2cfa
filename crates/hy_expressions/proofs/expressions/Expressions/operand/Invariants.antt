use Rattle.std.proofs.Common.{◌≡◌, ◌≤◌, ◌+◌, ℕ, None, length, map}
use Rattle.hy_grammar.specs.Machine.{walk, most_levels}
use Rattle.hy_grammar.specs.OperandSteps.{no_prefixes}
use Rattle.hy_expressions.specs.ReadsExpressions.{prefix_at}
use Rattle.hy_grammar.specs.Stack.{Tiers, Use, InExpr, Operand, depth_use}
use Rattle.hy_expressions.proofs.OperandWalks.{with_operators}
use Rattle.hy_expressions.proofs.expressions.Expressions.operand.Given as goal

abbrev pub invariant-prefixes : goal.invariant-prefixes
invariant-prefixes g l = record {
  within : length l.tokens.rest.now ≤ length l.fn.tokens.rest.now;
  spent : l.levels + length l.prefixes ≡ l.self.levels;
  reads : (total : ℕ) (tiers : Tiers) (u : Use) → l.self.levels + depth_use u ≡ most_levels
      → walk total (Operand (InExpr no_prefixes tiers u)) l.fn.tokens.rest.now ≡ walk total
      (Operand (InExpr (with_operators (map prefix_at l.prefixes) None) tiers u)) l.tokens.rest.now;
}

abbrev pub decreases-prefixes : goal.decreases-prefixes
decreases-prefixes g l = length l.tokens.rest.now
