use Rattle.std.proofs.Common.{◌≡◌, length, nat_lt, refl, ap, ◌∙◌, arith}
use Rattle.hy_cycles.specs.Standing.{at}
use Rattle.hy_cycles.proofs.Ways.{read_at, kept_edges}
use Rattle.hy_cycles.proofs.walk.Walk.has_edge.Goals as goal

pub returns : goal.returns
returns c =
    let taken = c.args.self.now.taken.items in
    let known = c.requires.known in
    let long = c.requires.taken in
    let count : c.index.result.now ≡ at taken c.args.node =
    read_at taken taken c.args.node c.index.result.now c.index.ensures refl (omega (arith, known, long)) in
    let size : c.len.result ≡ length c.index-edges-node.result.items = omega arith in
    let edges = kept_edges c.args.edges.now c.args.node c.index-edges-node.result c.index-edges-node.is known in
    (λ i. nat_lt (count i) ((size ∙ ap length edges) i))
