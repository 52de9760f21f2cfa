use Rattle.std.proofs.Common.{◌≡◌, ◌-◌, length, refl, sym, ap, ◌∙◌, arith}
use Rattle.std.proofs.lemmas.Bool.{ltb-true, ltb-false}
use Rattle.hy_cycles.specs.Graph.{graph_of}
use Rattle.hy_cycles.specs.Standing.{shown, at}
use Rattle.hy_cycles.proofs.Taking.{last_inside, node_inside}
use Rattle.hy_cycles.proofs.Ways.{read_at, graph_long}
use Rattle.hy_cycles.proofs.walk.Walk.step.Goals as goal

pub has_edge-requires-clause-taken : goal.has_edge-requires-clause-taken
has_edge-requires-clause-taken c = c.requires.stands.taken_long ∙ graph_long c.args.edges.now

pub has_edge-requires-clause-known : goal.has_edge-requires-clause-known
has_edge-requires-clause-known c =
    let graph = graph_of c.args.edges.now in
    let s = shown c.args.self.now in
    let st = c.requires.stands in
    let some = c.requires.some in
    let count : c.len.result ≡ length s.trail = omega arith in
    let last : c.index-last.result.now ≡ at s.trail (length s.trail - 1) =
    read_at s.trail s.trail (c.len.result - 1) c.index-last.result.now c.index-last.ensures refl (omega (arith, count, some))
    ∙ ap (λ n. at s.trail (n - 1)) count in
    let there = last_inside graph s st c.index-last.result.now some last in
    let node = read_at s.path s.path c.index-last.result.now c.index-node.result.now c.index-node.ensures refl there in
    let inside = node_inside graph s st c.index-last.result.now there in
    let long = graph_long c.args.edges.now in
    omega (arith, node, inside, long)

pub take_edge-requires-clause-more : goal.take_edge-requires-clause-more
take_edge-requires-clause-more c = ltb-true _ _ (sym c.has_edge.ensures ∙ c.if-has_edge.true)

pub leave-requires-clause-all : goal.leave-requires-clause-all
leave-requires-clause-all c = ltb-false _ _ (sym c.has_edge.ensures ∙ c.if-has_edge.false)
