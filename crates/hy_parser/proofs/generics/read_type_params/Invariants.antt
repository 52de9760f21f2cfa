use Rattle.std.proofs.Common.{◌≡◌, ◌≤◌, ◌+◌, ℕ, length}
use Rattle.hy_parser.specs.Headings.{sort_of, Below, headed}
use Rattle.hy_grammar.specs.Machine.{most_levels, walk}
use Rattle.hy_grammar.specs.Stack.{depth_home, GenericWanted}
use Rattle.hy_parser.proofs.generics.read_type_params.Given as goal

abbrev pub invariant-generics : goal.invariant-generics
invariant-generics l = record {
  within : length l.tokens.rest.now ≤ length l.fn.tokens.rest.now;
  reads : (total levels : ℕ) (x : Below (sort_of l.fn.sort)) → levels + depth_home x.home ≡ most_levels
      → walk total (GenericWanted (headed (sort_of l.fn.sort) l.fn.heading x)) l.fn.tokens.rest.now ≡ walk total
      (GenericWanted (headed (sort_of l.fn.sort) l.heading x)) l.tokens.rest.now;
}

abbrev pub decreases-generics : goal.decreases-generics
decreases-generics l = length l.tokens.rest.now
