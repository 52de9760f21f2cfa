use Rattle.std.proofs.Common.{◌≡◌, ◌≤◌, ℕ, [], length}
use Rattle.hy_parser.specs.Headings.{Listing}
use Rattle.hy_grammar.specs.Machine.{walk}
use Rattle.hy_grammar.specs.Stack.{TraitWanted}
use Rattle.hy_parser.proofs.declarations.read_traits.Given as goal

abbrev pub invariant-traits : goal.invariant-traits
invariant-traits l = record {
  within : length l.tokens.rest.now ≤ length l.fn.tokens.rest.now;
  reads : (total : ℕ) (x : Listing)
      → walk total (TraitWanted x.opening x.subject []) l.fn.tokens.rest.now ≡ walk total (TraitWanted x.opening x.subject l.traits) l.tokens.rest.now;
}

abbrev pub decreases-traits : goal.decreases-traits
decreases-traits l = length l.tokens.rest.now
