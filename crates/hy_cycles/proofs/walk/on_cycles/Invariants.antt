use Rattle.std.proofs.Common.{◌≡◌, ◌<◌, ℕ, length}
use Rattle.hy_cycles.specs.Graph.{graph_of}
use Rattle.hy_cycles.specs.Standing.{shown, place_of, Stands}
use Rattle.hy_cycles.specs.declared.walk.Place.TheVariants.{New}
use Rattle.hy_cycles.proofs.walk.on_cycles.Given as goal

abbrev pub invariant-loop-root : goal.invariant-loop-root
invariant-loop-root l = record {
  stands : Stands (graph_of l.edges) (shown l.walk);
  empty : length l.walk.path.items ≡ 0;
  met : (node : ℕ) → node < l.root → place_of l.walk.places.items node ≡ New → ⊥;
}
