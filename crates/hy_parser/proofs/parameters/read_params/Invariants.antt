use Rattle.std.proofs.Common.{◌≡◌, ◌≤◌, ◌+◌, ℕ, length}
use Rattle.hy_parser.specs.Headings.{sort_of, Below, headed}
use Rattle.hy_grammar.specs.Machine.{most_levels, walk}
use Rattle.hy_grammar.specs.Stack.{depth_home, ParamsOpened, ParamWanted}
use Rattle.hy_parser.proofs.parameters.read_params.Given as goal

abbrev pub invariant-params : goal.invariant-params
invariant-params l = record {
  within : length l.tokens.rest.now ≤ length l.fn.tokens.rest.now;
  reads : (total : ℕ) (x : Below (sort_of l.fn.sort)) → l.fn.levels + (depth_home x.home + 1) ≡ most_levels
      → walk total (ParamsOpened (headed (sort_of l.fn.sort) l.fn.heading x)) l.fn.tokens.rest.now ≡ walk total
      (ParamWanted (headed (sort_of l.fn.sort) l.heading x)) l.tokens.rest.now;
}

abbrev pub decreases-params : goal.decreases-params
decreases-params l = length l.tokens.rest.now
