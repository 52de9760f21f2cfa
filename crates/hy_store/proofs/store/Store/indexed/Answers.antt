use Rattle.std.proofs.Common.{sym, rules, SFits, w64}
use Rattle.std.proofs.lemmas.Int.{to_z-of_z}
use Rattle.hy_base.specs.declared.run.TrapKind.TheVariants as trap
use Rattle.hy_store.specs.Represents.{represented}
use Rattle.hy_store.proofs.Indexing.{indexed_is, indexed_outside, not_indexed, range_reached, trapped}
use Rattle.hy_store.proofs.store.Store.indexed.Goals as goal

pub returns-in_default-clause-checks : goal.returns-in_default-clause-checks
returns-in_default-clause-checks c =
    λ g s represents go. trapped c.args.object.now s trap.Index c.args.span _ _ c.trap.ensures
    (not_indexed c.args.object.now s c.args.span (represented g s c.args.array.cells) c.args.array.block c.args.index c.args.array.count c.args.width go
    (sym (let fi : SFits w64 c.args.index = search rules in let fc : SFits w64 c.args.array.count = search rules in
    rw (to_z-of_z w64 c.args.index fi, to_z-of_z w64 c.args.array.count fc) at c.in_default.ensures)))

pub returns-in_default-range_in-clause-checks : goal.returns-in_default-range_in-clause-checks
returns-in_default-range_in-clause-checks c =
    λ g s represents go. indexed_outside c.args.object.now s c.args.span (represented g s c.args.array.cells) c.args.array.block c.args.index
    c.args.array.count c.args.width go c.in-Some.k c.size-words.result (sym (let fi : SFits w64 c.args.index = search rules in
    let fc : SFits w64 c.args.array.count = search rules in rw (to_z-of_z w64 c.args.index fi, to_z-of_z w64 c.args.array.count fc) at c.in-Some.ensures))
    (c.size-words.ensures.words g s represents) (sym c.in_default-range_in.ensures)

pub returns-clause-reached : goal.returns-clause-reached
returns-clause-reached c =
    range_reached c.args.array.block c.in-Some.k c.args.width c.size-words.result c.in-Some-range_in.range (sym c.in-Some-range_in.ensures) c.args.self.now
    c.args.array.cells.through c.requires.known.cells.through c.size-words.ensures.fits

pub returns-clause-checks : goal.returns-clause-checks
returns-clause-checks c =
    λ g s represents go. indexed_is c.args.object.now s c.args.span (represented g s c.args.array.cells) c.args.array.block c.args.index c.args.array.count
    c.args.width go c.in-Some.k c.size-words.result (sym (let fi : SFits w64 c.args.index = search rules in let fc : SFits w64 c.args.array.count =
    search rules in rw (to_z-of_z w64 c.args.index fi, to_z-of_z w64 c.args.array.count fc) at c.in-Some.ensures))
    (c.size-words.ensures.words g s represents) c.in-Some-range_in.range (sym c.in-Some-range_in.ensures)
