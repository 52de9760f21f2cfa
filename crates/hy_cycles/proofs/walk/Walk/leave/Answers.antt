use Rattle.std.proofs.Common.{◌≡◌, ◌<◌, ◌≤◌, ◌+◌, ◌-◌, ◌⊎◌, ◌↔◌, ℕ, List, length, true, take, vec_len, refl, sym, ap, subst, ◌∙◌, arith}
use Rattle.std.specs.List.{Contains}
use Rattle.hy_cycles.specs.Graph.{graph_of, next}
use Rattle.hy_cycles.specs.Standing.{Stands, shown, at}
use Rattle.hy_cycles.specs.declared.walk.Place.TheVariants.{New, Done}
use Rattle.hy_cycles.proofs.Leaving.{left_stands, closed_stands, begins_before, stood}
use Rattle.hy_cycles.proofs.Taking.{last_inside, node_inside}
use Rattle.hy_cycles.proofs.Ways.{read_at, graph_long}
use Rattle.hy_cycles.proofs.walk.Walk.leave.Goals as goal

pub returns-then-index-last-clause-stands : goal.returns-then-index-last-clause-stands
returns-then-index-last-clause-stands c =
    let graph = graph_of c.args.edges.now in
    let s = shown c.args.self.now in
    let st = c.requires.stands in
    let (some, last) = c.requires.last in
    let many = (st.first (let r = last_inside graph s st c.args.last some last in omega (arith, r))).0 in
    let count : c.len.result ≡ length s.starts = omega arith in
    let trail : length s.trail ≡ vec_len c.args.self.now.trail = omega arith in
    let all = subst (λ (x : ℕ). length (next graph x) ≤ at s.taken x) c.requires.node c.requires.all in
    let begins : c.index.result.now ≡ at s.starts (length s.starts - 1) =
    read_at s.starts s.starts (c.len.result - 1) c.index.result.now c.index.ensures refl (omega (arith, count, many))
    ∙ ap (λ n. at s.starts (n - 1)) count in
    subst (λ (list : List ℕ). Stands graph (record s { trail = list })) (ap (λ n. take (n - 1) s.trail) trail ∙ sym c.pop.ensures.rest)
    (left_stands graph s st c.args.last some last all
    (begins_before graph s st c.args.last some last all many (λ e. c.if-index-last.true (begins ∙ e))))

pub turns-flag-requires-clause-known : goal.turns-flag-requires-clause-known
turns-flag-requires-clause-known c =
    let graph = graph_of c.args.edges.now in
    let s = shown c.args.self.now in
    let (some, last) = c.requires.last in
    let long = graph_long c.args.edges.now in
    let inside = node_inside graph s c.requires.stands c.args.last (last_inside graph s c.requires.stands c.args.last some last) in
    let node = c.requires.node in
    omega (arith, inside, node, long)

pub returns-clause-stands : goal.returns-clause-stands
returns-clause-stands c =
    let graph = graph_of c.args.edges.now in
    let s = shown c.args.self.now in
    let st = c.requires.stands in
    let (some, last) = c.requires.last in
    let many = (st.first (let r = last_inside graph s st c.args.last some last in omega (arith, r))).0 in
    let count : c.len.result ≡ length s.starts = omega arith in
    let all = subst (λ (x : ℕ). length (next graph x) ≤ at s.taken x) c.requires.node c.requires.all in
    let begins : at s.starts (length s.starts - 1) ≡ c.args.last =
    sym (read_at s.starts s.starts (c.len.result - 1) c.index.result.now c.index.ensures refl (omega (arith, count, many))
    ∙ ap (λ n. at s.starts (n - 1)) count) ∙ c.if-index-last.false in
    let tells = subst (λ (x : ℕ). (c.turns-flag.result ≡ true) ↔ ((c.args.last + 1 < length s.path) ⊎ Contains (next graph x) x)) c.requires.node
    c.turns-flag.ensures in
    closed_stands graph s st c.args.last some last all many begins c.turns-flag.result tells (shown c.close.new.self) c.close.ensures

pub returns-clause-met : goal.returns-clause-met
returns-clause-met c node h =
    let graph = graph_of c.args.edges.now in
    let s = shown c.args.self.now in
    let st = c.requires.stands in
    let (some, last) = c.requires.last in
    let many = (st.first (let r = last_inside graph s st c.args.last some last in omega (arith, r))).0 in
    let count : c.len.result ≡ length s.starts = omega arith in
    let all = subst (λ (x : ℕ). length (next graph x) ≤ at s.taken x) c.requires.node c.requires.all in
    let begins : at s.starts (length s.starts - 1) ≡ c.args.last =
    sym (read_at s.starts s.starts (c.len.result - 1) c.index.result.now c.index.ensures refl (omega (arith, count, many))
    ∙ ap (λ n. at s.starts (n - 1)) count) ∙ c.if-index-last.false in
    let tells = subst (λ (x : ℕ). (c.turns-flag.result ≡ true) ↔ ((c.args.last + 1 < length s.path) ⊎ Contains (next graph x) x)) c.requires.node
    c.turns-flag.ensures in
    stood graph s st c.args.last some last all many begins c.turns-flag.result tells (shown c.close.new.self) c.close.ensures node New h
    (λ e. let w : New ≡ Done = e in absurd (cc))
