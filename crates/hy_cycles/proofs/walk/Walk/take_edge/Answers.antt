use Rattle.std.proofs.Common.{◌≡◌, ◌<◌, ◌+◌, ℕ, List, length, set, refl, sym, ap, subst, ◌∙◌, arith}
use Rattle.hy_cycles.specs.Graph.{graph_of, next}
use Rattle.hy_cycles.specs.Standing.{Stands, Led, shown, at, left_edges}
use Rattle.hy_cycles.proofs.Taking.{taken_stands, one_less, last_inside, node_inside}
use Rattle.hy_cycles.proofs.Ways.{read_at, kept_edges, graph_long}
use Rattle.hy_cycles.proofs.walk.Walk.take_edge.Goals as goal

pub follow-requires-clause-known : goal.follow-requires-clause-known
follow-requires-clause-known c =
    let graph = graph_of c.args.edges.now in
    let s = shown c.args.self.now in
    let st = c.requires.stands in
    let (some, last) = c.requires.last in
    let long = graph_long c.args.edges.now in
    let inside = node_inside graph s st c.args.last (last_inside graph s st c.args.last some last) in
    let node = c.requires.node in
    let known : c.args.node < length graph = omega (arith, inside, node) in
    let count : c.index-count.result.now ≡ at s.taken c.args.node =
    read_at s.taken s.taken c.args.node c.index-count.result.now c.index-count.ensures refl (let e = st.taken_long in omega (arith, e, known)) in
    let more = c.requires.more in
    let lt : c.index-count.result.now < length (next graph c.args.node) = omega (arith, more, count) in
    let to : c.index.result.now ≡ at (next graph c.args.node) c.index-count.result.now =
    read_at c.index-edges-node.result.items (next graph c.args.node) c.index-count.result.now c.index.result.now c.index.ensures
    (kept_edges c.args.edges.now c.args.node c.index-edges-node.result c.index-edges-node.is (omega (arith, known, long))) lt in
    let below = c.requires.nodes c.args.node c.index-count.result.now lt in
    omega (arith, to, below, long)

pub returns-clause-stands : goal.returns-clause-stands
returns-clause-stands c =
    let graph = graph_of c.args.edges.now in
    let s = shown c.args.self.now in
    let mid = shown c.follow.new.self in
    let st = c.requires.stands in
    let (some, last) = c.requires.last in
    let long = graph_long c.args.edges.now in
    let inside = node_inside graph s st c.args.last (last_inside graph s st c.args.last some last) in
    let node = c.requires.node in
    let known : c.args.node < length graph = omega (arith, inside, node) in
    let count : c.index-count.result.now ≡ at s.taken c.args.node =
    read_at s.taken s.taken c.args.node c.index-count.result.now c.index-count.ensures refl (let e = st.taken_long in omega (arith, e, known)) in
    let more = c.requires.more in
    let lt : c.index-count.result.now < length (next graph c.args.node) = omega (arith, more, count) in
    let to : c.index.result.now ≡ at (next graph c.args.node) c.index-count.result.now =
    read_at c.index-edges-node.result.items (next graph c.args.node) c.index-count.result.now c.index.result.now c.index.ensures
    (kept_edges c.args.edges.now c.args.node c.index-edges-node.result c.index-edges-node.is (omega (arith, known, long))) lt in
    let after = c.in_ok-follow.ensures in
    let (has, there, same) = after.last in
    let here : at mid.path c.args.last ≡ c.args.node = same ∙ sym node in
    let is : c.index-count.result.now ≡ at mid.taken (at mid.path c.args.last) =
    count ∙ sym (ap (λ (list : List ℕ). at list c.args.node) after.taken) ∙ ap (at mid.taken) (sym here) in
    let led : Led mid.places mid.starts c.args.last (at (next graph (at mid.path c.args.last)) c.index-count.result.now) =
    subst (Led mid.places mid.starts c.args.last) (to ∙ ap (λ x. at (next graph x) c.index-count.result.now) (sym here)) after.led in
    subst (λ (x : ℕ). Stands graph (record mid { taken = set mid.taken x (c.index-count.result.now + 1) })) here
    (taken_stands graph mid after.stands c.args.last there has c.index-count.result.now is led)

pub returns-clause-less : goal.returns-clause-less
returns-clause-less c =
    let graph = graph_of c.args.edges.now in
    let s = shown c.args.self.now in
    let st = c.requires.stands in
    let (some, last) = c.requires.last in
    let inside = node_inside graph s st c.args.last (last_inside graph s st c.args.last some last) in
    let node = c.requires.node in
    let known : c.args.node < length s.taken = (let e = st.taken_long in omega (arith, inside, node, e)) in
    let count : c.index-count.result.now ≡ at s.taken c.args.node =
    read_at s.taken s.taken c.args.node c.index-count.result.now c.index-count.ensures refl known in
    let after = c.in_ok-follow.ensures in
    let less = one_less graph s.taken c.args.node known c.requires.more in
    let same : left_edges graph (set c.follow.new.self.taken.items c.args.node (c.index-count.result.now + 1))
    ≡ left_edges graph (set s.taken c.args.node (at s.taken c.args.node + 1)) =
    (λ i. left_edges graph (set (after.taken i) c.args.node (count i + 1))) in
    let longer = after.longer in
    omega (arith, less, same, longer)
