use Rattle.std.proofs.Common.{◌≡◌, ◌≤◌, ◌+◌, ℕ, [], map, length}
use Rattle.hy_base.specs.declared.position.Span.{Span}
use Rattle.hy_tree.specs.Denotes.{variant_of}
use Rattle.hy_parser.specs.Headings.{sort_of, Below, headed}
use Rattle.hy_grammar.specs.Machine.{most_levels, walk}
use Rattle.hy_grammar.specs.Stack.{depth_home, VariantsRead}
use Rattle.hy_parser.proofs.bodies.read_variants.Given as goal

abbrev pub invariant-variants : goal.invariant-variants
invariant-variants l = record {
  within : length l.tokens.rest.now ≤ length l.fn.tokens.rest.now;
  reads : (total : ℕ) (brace : Span) (x : Below (sort_of l.fn.sort)) → l.fn.levels + (depth_home x.home + 1) ≡ most_levels
      → walk total (VariantsRead (headed (sort_of l.fn.sort) l.heading x) brace []) l.fn.tokens.rest.now ≡ walk total
      (VariantsRead (headed (sort_of l.fn.sort) l.heading x) brace (map variant_of l.variants)) l.tokens.rest.now;
}

abbrev pub decreases-variants : goal.decreases-variants
decreases-variants l = length l.tokens.rest.now
