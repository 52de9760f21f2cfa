use Rattle.std.proofs.Common.{◌∙◌, ◌≡◌, ◌<◌, ◌+◌, ◌^◌, suc, pos, true, false, ap, sym, arith, rules, SFits, w64}
use Rattle.std.proofs.lemmas.Int.{to_z-of_z, to_z_pos}
use Rattle.hy_store.specs.Elements.{after_last}
use Rattle.hy_store.specs.Represents.{represented}
use Rattle.hy_store.proofs.Indexing.{behind_is, few, found_range, natural_is, no_count, no_room, not_behind, range_reached, room_tested}
use Rattle.hy_store.proofs.store.Store.after_last.Goals as goal

pub overflow_cast-result : goal.overflow_cast-result
overflow_cast-result c =
    let less = few c.in-Some.count c.args.width c.size-words.result (let yes : c.has_room.result ≡ true = first_of (cc, grind arith) in
    room_tested c.in-Some.count c.room.result c.args.width c.size-words.result c.has_room.result c.room.ensures c.has_room.ensures ∙ yes) in
    let words : c.size-words.result < 2 ^ 32 = search rules in
    omega (arith, less, words)

pub returns-in_default-clause-checks : goal.returns-in_default-clause-checks
returns-in_default-clause-checks c =
    λ g s represents go. no_count s (represented g s c.args.sides.array.cells) c.args.sides.array.block c.args.sides.array.count
    (represented g s c.args.sides.words) c.args.width go (sym (let fz : SFits w64 c.args.sides.array.count = search rules in
    rw (to_z-of_z w64 c.args.sides.array.count fz) at c.in_default.ensures.number))

pub returns-then-not-has_room-clause-checks : goal.returns-then-not-has_room-clause-checks
returns-then-not-has_room-clause-checks c =
    λ g s represents go. ap (λ z. after_last s (represented g s c.args.sides.array.cells) c.args.sides.array.block z (represented g s c.args.sides.words)
    c.args.width go)
    (natural_is c.args.sides.array.count c.in-Some.count (sym (let fz : SFits w64 c.args.sides.array.count = search rules in
    rw (to_z-of_z w64 c.args.sides.array.count fz) at c.in-Some.ensures.number)))
    ∙ no_room s (represented g s c.args.sides.array.cells) (represented g s c.args.sides.words) c.args.sides.array.block c.in-Some.count c.args.width
    c.size-words.result (c.size-words.ensures.words g s represents) go (let no : c.has_room.result ≡ false = first_of (cc, grind arith) in
    room_tested c.in-Some.count c.room.result c.args.width c.size-words.result c.has_room.result c.room.ensures c.has_room.ensures ∙ no)

pub returns-in_default-element-clause-checks : goal.returns-in_default-element-clause-checks
returns-in_default-element-clause-checks c =
    λ g s represents go. ap (λ z. after_last s (represented g s c.args.sides.array.cells) c.args.sides.array.block z (represented g s c.args.sides.words)
    c.args.width go)
    (natural_is c.args.sides.array.count c.in-Some.count (sym (let fz : SFits w64 c.args.sides.array.count = search rules in
    rw (to_z-of_z w64 c.args.sides.array.count fz) at c.in-Some.ensures.number)))
    ∙ not_behind s (represented g s c.args.sides.array.cells) (represented g s c.args.sides.words) c.args.sides.array.block c.in-Some.count c.args.width
    c.size-words.result (c.size-words.ensures.words g s represents) go (let yes : c.has_room.result ≡ true = first_of (cc, grind arith) in
    room_tested c.in-Some.count c.room.result c.args.width c.size-words.result c.has_room.result c.room.ensures c.has_room.ensures
    ∙ yes) (sym c.in_default-element.ensures)

pub returns-clause-reached : goal.returns-clause-reached
returns-clause-reached c =
    let g = c.requires.represented.0 in
    let s = c.requires.represented.1 in
    let represents = c.requires.represented.2 in
    range_reached c.args.sides.array.block c.in-Some.count c.args.width c.size-words.result c.in-Some-element.range
    (found_range s (represented g s c.args.sides.array.cells) (represented g s c.args.sides.words) c.args.sides.array.block c.in-Some.count c.args.width
    c.size-words.result (c.size-words.ensures.words g s represents) c.in-Some-element.range (sym c.in-Some-element.ensures)) c.args.self.now
    c.args.sides.array.cells.through c.requires.known.cells.through c.size-words.ensures.fits

pub returns-clause-checks : goal.returns-clause-checks
returns-clause-checks c = λ g s represents go.
    let less = few c.in-Some.count c.args.width c.size-words.result (let yes : c.has_room.result ≡ true = first_of (cc, grind arith) in
    room_tested c.in-Some.count c.room.result c.args.width c.size-words.result c.has_room.result c.room.ensures c.has_room.ensures ∙ yes) in
    let words : c.size-words.result < 2 ^ 32 = search rules in
    let more : c.in-Some.count + 1 ≡ suc c.in-Some.count = omega arith in
    let cast = to_z_pos w64 (c.in-Some.count + 1) (omega (arith, less, words)) ∙ ap (λ n. pos n) more in
    rw cast (ap (λ z. after_last s (represented g s c.args.sides.array.cells) c.args.sides.array.block z (represented g s c.args.sides.words) c.args.width go)
    (natural_is c.args.sides.array.count c.in-Some.count (sym (let fz : SFits w64 c.args.sides.array.count = search rules in
    rw (to_z-of_z w64 c.args.sides.array.count fz) at c.in-Some.ensures.number)))
    ∙ behind_is s (represented g s c.args.sides.array.cells) (represented g s c.args.sides.words) c.args.sides.array.block c.in-Some.count c.args.width
    c.size-words.result (c.size-words.ensures.words g s represents) go (let yes : c.has_room.result ≡ true = first_of (cc, grind arith) in
    room_tested c.in-Some.count c.room.result c.args.width c.size-words.result c.has_room.result c.room.ensures c.has_room.ensures
    ∙ yes) c.in-Some-element.range (sym c.in-Some-element.ensures))
