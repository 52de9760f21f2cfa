use Rattle.std.proofs.Common.{◌≡◌, ◌≤◌, ◌+◌, ℕ, length, map}
use Rattle.hy_tree.specs.Denotes.{expr_of}
use Rattle.hy_grammar.specs.Machine.{walk, most_levels}
use Rattle.hy_grammar.specs.Stack.{Spot, PartsOpened, PartsRead, depth}
use Rattle.hy_expressions.proofs.expressions.Expressions.parts.Given as goal

abbrev pub invariant-parts : goal.invariant-parts
invariant-parts g l = record {
  within : length l.tokens.rest.now ≤ length l.fn.tokens.rest.now;
  reads : (total : ℕ) (x : Spot) → l.levels + depth (PartsOpened l.bracket x) ≡ most_levels
      → walk total (PartsOpened l.bracket x) l.fn.tokens.rest.now ≡ walk total (PartsRead l.bracket (map expr_of l.made) x) l.tokens.rest.now;
}

abbrev pub decreases-parts : goal.decreases-parts
decreases-parts g l = length l.tokens.rest.now
