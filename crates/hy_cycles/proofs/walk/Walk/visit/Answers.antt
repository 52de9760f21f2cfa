use Rattle.std.proofs.Common.{◌≡◌, ◌<◌, length, sym, subst, ◌∙◌, arith}
use Rattle.std.proofs.lemmas.List.{get_or_default}
use Rattle.hy_cycles.specs.Graph.{graph_of}
use Rattle.hy_cycles.specs.Standing.{Stands, shown, place_of}
use Rattle.hy_cycles.specs.declared.walk.Place.TheVariants.{New}
use Rattle.hy_cycles.proofs.Entering.{entered_stands}
use Rattle.hy_cycles.proofs.Ways.{graph_long}
use Rattle.hy_cycles.proofs.walk.Walk.visit.Goals as goal

pub run-requires-clause-stands : goal.run-requires-clause-stands
run-requires-clause-stands c =
    let graph = graph_of c.args.edges.now in
    let s = shown c.args.self.now in
    let st = c.requires.stands in
    let long = graph_long c.args.edges.now in
    let known = c.requires.known in
    let empty = c.requires.empty in
    let inside : c.args.root < length s.places = (let e = st.places_long in omega (arith, e, long, known)) in
    let is : place_of s.places c.args.root ≡ New =
    get_or_default s.places c.args.root New c.index.result.now inside ∙ sym c.index.ensures ∙ c.in-New.is in
    subst (Stands graph) (sym c.in_ok-enter-in-New.ensures)
    (entered_stands graph s st c.args.root (omega (arith, long, known)) is (λ i lt. absurd (omega (arith, lt, empty))))
