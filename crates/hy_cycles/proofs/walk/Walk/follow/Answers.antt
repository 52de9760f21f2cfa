use Rattle.std.proofs.Common.{◌≡◌, ◌<◌, length, sym, subst, ◌∙◌, arith}
use Rattle.std.proofs.lemmas.List.{get_or_default}
use Rattle.std.specs.List.{Contains}
use Rattle.hy_cycles.specs.Graph.{graph_of, next}
use Rattle.hy_cycles.specs.Standing.{Stands, Led, shown, at, place_of}
use Rattle.hy_cycles.specs.declared.walk.Place.TheVariants.{New, On}
use Rattle.hy_cycles.proofs.Entering.{entered_stands}
use Rattle.hy_cycles.proofs.Joining.{joined_stands, joined_led}
use Rattle.hy_cycles.proofs.Taking.{reach_to}
use Rattle.hy_cycles.proofs.Ways.{graph_long}
use Rattle.hy_cycles.proofs.walk.Walk.follow.Goals as goal

pub returns-in_ok-enter-in-New-clause-stands : goal.returns-in_ok-enter-in-New-clause-stands
returns-in_ok-enter-in-New-clause-stands c =
    let graph = graph_of c.args.edges.now in
    let s = shown c.args.self.now in
    let st = c.requires.stands in
    let (some, last) = c.requires.last in
    let long = graph_long c.args.edges.now in
    let known = c.requires.known in
    let inside : c.args.to < length s.places = (let e = st.places_long in omega (arith, e, long, known)) in
    let is : place_of s.places c.args.to ≡ New =
    get_or_default s.places c.args.to New c.index.result.now inside ∙ sym c.index.ensures ∙ c.in-New.is in
    subst (Stands graph) (sym c.in_ok-enter-in-New.ensures)
    (entered_stands graph s st c.args.to (omega (arith, long, known)) is (reach_to graph s st c.args.last some last c.args.to c.requires.edge))

pub returns-in-On-clause-stands : goal.returns-in-On-clause-stands
returns-in-On-clause-stands c =
    let graph = graph_of c.args.edges.now in
    let s = shown c.args.self.now in
    let st = c.requires.stands in
    let (some, last) = c.requires.last in
    let long = graph_long c.args.edges.now in
    let known = c.requires.known in
    let inside : c.args.to < length s.places = (let e = st.places_long in omega (arith, e, long, known)) in
    let is : place_of s.places c.args.to ≡ On c.in-On.place =
    get_or_default s.places c.args.to New c.index.result.now inside ∙ sym c.index.ensures ∙ c.in-On.is in
    let (there, same) = st.is_path c.args.to c.in-On.place is in
    joined_stands graph s st c.args.last some last c.in-On.place there
    (subst (Contains (next graph (at s.path c.args.last))) (sym same) c.requires.edge) c.cut_to.new.list.items c.cut_to.ensures

pub returns-in-On-clause-led : goal.returns-in-On-clause-led
returns-in-On-clause-led c =
    let graph = graph_of c.args.edges.now in
    let s = shown c.args.self.now in
    let st = c.requires.stands in
    let (some, last) = c.requires.last in
    let long = graph_long c.args.edges.now in
    let known = c.requires.known in
    let inside : c.args.to < length s.places = (let e = st.places_long in omega (arith, e, long, known)) in
    let is : place_of s.places c.args.to ≡ On c.in-On.place =
    get_or_default s.places c.args.to New c.index.result.now inside ∙ sym c.index.ensures ∙ c.in-On.is in
    let (there, same) = st.is_path c.args.to c.in-On.place is in
    subst (Led s.places c.cut_to.new.list.items c.args.last) same
    (joined_led graph s st c.args.last some last c.in-On.place there
    (subst (Contains (next graph (at s.path c.args.last))) (sym same) c.requires.edge) c.cut_to.new.list.items c.cut_to.ensures)
