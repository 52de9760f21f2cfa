use Rattle.hy_cycles.specs.Graph.{graph_of}
use Rattle.hy_cycles.specs.Standing.{shown, measure, Stands, StayMet}
use Rattle.hy_cycles.proofs.walk.Walk.run.Given as goal

abbrev pub invariant-loop-self : goal.invariant-loop-self
invariant-loop-self l = record {
  stands : Stands (graph_of l.edges) (shown l.self);
  met : StayMet (shown l.fn.self) (shown l.self);
}

abbrev pub decreases-loop-self : goal.decreases-loop-self
decreases-loop-self l = measure (graph_of l.edges) (shown l.self)
