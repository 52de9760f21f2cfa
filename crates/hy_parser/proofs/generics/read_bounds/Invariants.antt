use Rattle.std.proofs.Common.{◌≡◌, ◌≤◌, ℕ, [], length}
use Rattle.hy_grammar.specs.Machine.{most_levels, walk}
use Rattle.hy_grammar.specs.Stack.{Head, depth_head, BoundWanted}
use Rattle.hy_parser.proofs.generics.read_bounds.Given as goal

abbrev pub invariant-bounds : goal.invariant-bounds
invariant-bounds l = record {
  within : length l.tokens.rest.now ≤ length l.fn.tokens.rest.now;
  reads : (total : ℕ) (head : Head) → depth_head head ≤ most_levels
      → walk total (BoundWanted head l.name []) l.fn.tokens.rest.now ≡ walk total (BoundWanted head l.name l.bounds) l.tokens.rest.now;
}

abbrev pub decreases-bounds : goal.decreases-bounds
decreases-bounds l = length l.tokens.rest.now
