use Rattle.std.proofs.Common.{◌≡◌, ◌↔◌, get_or, true, false, sym, ap, subst, arith}
use Rattle.hy_cycles.specs.Graph.{graph_of, next, Reaches}
use Rattle.hy_cycles.specs.Standing.{shown, at, place_of}
use Rattle.hy_cycles.specs.declared.walk.Place.{Place}
use Rattle.hy_cycles.specs.declared.walk.Place.TheVariants.{New, On, Done}
use Rattle.hy_cycles.proofs.Ways.{graph_long, edge_is}
use Rattle.hy_cycles.proofs.walk.on_cycles.Goals as goal

pub visit-requires-clause-nodes : goal.visit-requires-clause-nodes
visit-requires-clause-nodes c node k lt =
    let long = graph_long c.args.edges.now in
    let known = c.requires node (at (next (graph_of c.args.edges.now) node) k) (edge_is (next (graph_of c.args.edges.now) node) k _ lt
    (λ i. at (next (graph_of c.args.edges.now) node) k)) in
    omega (arith, known, long)

pub returns-clause-tells : goal.returns-clause-tells
returns-clause-tells c node lt =
    let graph = graph_of c.args.edges.now in
    let s = shown c.loop-root.walk in
    let inv = c.loop-root.invariant in
    let end = c.loop-root-test.false in
    let IsDone : Place → Type 0 = λ place. place_of s.places node ≡ place → place_of s.places node ≡ Done in
    let cases : (place : Place) → IsDone place = λ place. elim place as IsDone [
      | New ↦ (λ e. absurd (inv.met node (omega (arith, lt, end)) e))
      | On i ↦ (λ e. let (inside, is) = inv.stands.is_path node i e in let empty = inv.empty in absurd (omega (arith, inside, empty)))
      | Done ↦ (λ e. e)
    ] in
    let done = cases (place_of s.places node) (λ i. place_of s.places node) in
    subst (λ flags. (get_or flags node false ≡ true) ↔ Reaches graph node node) (sym (ap (λ v. v.items) c.into_flags.ensures)) (inv.stands.told node done)
