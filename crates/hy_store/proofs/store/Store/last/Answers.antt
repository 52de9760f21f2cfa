use Rattle.std.proofs.Common.{◌∙◌, ap, sym, rules, SFits, w64}
use Rattle.std.proofs.lemmas.Int.{to_z-of_z, to_z_pos}
use Rattle.hy_base.specs.declared.run.TrapKind.TheVariants as trap
use Rattle.hy_store.specs.Elements.{last}
use Rattle.hy_store.specs.Represents.{represented}
use Rattle.hy_store.proofs.Indexing.{found_range, last_is, last_number_is, no_last, not_last, range_reached, trapped}
use Rattle.hy_store.proofs.store.Store.last.Goals as goal

pub returns-in_default-clause-checks : goal.returns-in_default-clause-checks
returns-in_default-clause-checks c =
    λ g s represents go. trapped c.args.object.now s trap.Empty c.args.span _ _ c.trap.ensures
    (no_last c.args.object.now s (represented g s c.args.sides.array.cells) c.args.sides.array.block c.args.sides.array.count
    (represented g s c.args.sides.words) c.args.width c.args.span go (sym (let fz : SFits w64 c.args.sides.array.count = search rules in
    rw (to_z-of_z w64 c.args.sides.array.count fz) at c.in_default.ensures.number)))

pub returns-in_default-element-clause-checks : goal.returns-in_default-element-clause-checks
returns-in_default-element-clause-checks c =
    λ g s represents go. ap (λ z. last c.args.object.now s (represented g s c.args.sides.array.cells) c.args.sides.array.block z
    (represented g s c.args.sides.words) c.args.width c.args.span go)
    (last_number_is c.args.sides.array.count c.in-Some.k (sym (let fz : SFits w64 c.args.sides.array.count = search rules in
    rw (to_z-of_z w64 c.args.sides.array.count fz) at c.in-Some.ensures.number)))
    ∙ not_last s (represented g s c.args.sides.array.cells) (represented g s c.args.sides.words) c.args.sides.array.block c.in-Some.k c.args.width
    c.size-words.result (c.size-words.ensures.words g s represents) go c.args.object.now c.args.span (sym c.in_default-element.ensures)

pub returns-clause-reached : goal.returns-clause-reached
returns-clause-reached c =
    let g = c.requires.represented.0 in
    let s = c.requires.represented.1 in
    let represents = c.requires.represented.2 in
    range_reached c.args.sides.array.block c.in-Some.k c.args.width c.size-words.result c.in-Some-element.range
    (found_range s (represented g s c.args.sides.array.cells) (represented g s c.args.sides.words) c.args.sides.array.block c.in-Some.k c.args.width
    c.size-words.result (c.size-words.ensures.words g s represents) c.in-Some-element.range (sym c.in-Some-element.ensures)) c.args.self.now
    c.args.sides.array.cells.through c.requires.known.cells.through c.size-words.ensures.fits

pub returns-clause-checks : goal.returns-clause-checks
returns-clause-checks c = λ g s represents go.
    let cast = to_z_pos w64 c.in-Some.k c.in-Some.ensures.small in
    rw cast (ap (λ z. last c.args.object.now s (represented g s c.args.sides.array.cells) c.args.sides.array.block z (represented g s c.args.sides.words)
    c.args.width c.args.span go)
    (last_number_is c.args.sides.array.count c.in-Some.k (sym (let fz : SFits w64 c.args.sides.array.count = search rules in
    rw (to_z-of_z w64 c.args.sides.array.count fz) at c.in-Some.ensures.number)))
    ∙ last_is s (represented g s c.args.sides.array.cells) (represented g s c.args.sides.words) c.args.sides.array.block c.in-Some.k c.args.width
    c.size-words.result (c.size-words.ensures.words g s represents) go c.args.object.now c.args.span c.in-Some-element.range
    (sym c.in-Some-element.ensures))
