use Rattle.std.proofs.Common.{◌≡◌, ◌≤◌, ◌+◌, ℕ, length, map}
use Rattle.hy_tree.specs.Denotes.{type_of}
use Rattle.hy_grammar.specs.Machine.{walk, most_levels}
use Rattle.hy_grammar.specs.Stack.{TypeUse, TypesOpened, TypesRead, depth_type}
use Rattle.hy_phrases.proofs.types.Types.tuple.Given as goal

abbrev pub invariant-parts : goal.invariant-parts
invariant-parts g l = record {
  within : length l.tokens.rest.now ≤ length l.fn.tokens.rest.now;
  reads : (total : ℕ) (u : TypeUse) → l.levels + (depth_type u + 1) ≡ most_levels
      → walk total (TypesOpened l.bracket u) l.fn.tokens.rest.now ≡ walk total (TypesRead l.bracket (map type_of l.parts) u) l.tokens.rest.now;
}

abbrev pub decreases-parts : goal.decreases-parts
decreases-parts g l = length l.tokens.rest.now
