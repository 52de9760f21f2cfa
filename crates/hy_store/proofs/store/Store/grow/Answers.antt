use Rattle.std.proofs.Common.{sym, rules, SFits, w64}
use Rattle.std.proofs.lemmas.Int.{to_z-of_z}
use Rattle.hy_object.specs.Arrays.{grows}
use Rattle.hy_object.specs.Elements.{room}
use Rattle.hy_store.specs.Executes.{MayRunOut}
use Rattle.hy_store.proofs.Following.{told_halt, out_of_memory}
use Rattle.hy_store.proofs.Growing.{counted_before, regrown_goes, room_goes}
use Rattle.hy_store.proofs.Heading.{live_taken}
use Rattle.hy_store.proofs.store.Store.grow.Goals as goal

pub returns-in_err-array : goal.returns-in_err-array
returns-in_err-array c =
    told_halt MayRunOut _ _ _ _ _ _ c.from_residual.ensures.1 (λ g s represents. c.in_err-array.ensures.checks g s represents
    (λ x block count. grows s x block count (room c.args.width)))

pub returns-in_err-regrow : goal.returns-in_err-regrow
returns-in_err-regrow c = out_of_memory _ _ _ _ _ c.from_residual-in_err-regrow.ensures.1

pub returns-in_default : goal.returns-in_default
returns-in_default c =
    let fits : SFits w64 c.in_ok-array.array.count = search rules in
    let none = rw (to_z-of_z w64 c.in_ok-array.array.count fits, c.room.ensures) at c.in_default.ensures in
    room_goes c.args.self.now c.args.fun.now c.in_ok-array.array.cells c.in_ok-array.array.block c.size-words.result c.in_ok-array.array.count
    (room c.args.width) (sym none) _
    (λ g s represents. (
      c.size-words.ensures.words g s represents,
      c.in_ok-array.ensures.checks g s represents (λ x block count. grows s x block count (room c.args.width)),
    ))

pub regrow-requires-clause-other : goal.regrow-requires-clause-other
regrow-requires-clause-other c =
    counted_before c.requires.0 c.args.self.now c.args.fun.now c.requires.1 c.requires.2 c.in_ok-array.array.cells.range.block
    c.in_ok-array.array.cells.range.from c.in_ok-array.array.cells.range.len c.in_ok-array.ensures.reached.cells

pub returns : goal.returns
returns c =
    let reached = c.in_ok-array.ensures.reached in
    let fits : SFits w64 c.in_ok-array.array.count = search rules in
    let is_larger = rw (to_z-of_z w64 c.in_ok-array.array.count fits, c.room.ensures) at c.in-Some.ensures in
    regrown_goes c.args.self.now c.regrow.new.self c.args.fun.now c.in_ok-array.array.cells c.in_ok-array.array.block c.size-words.result c.in-Some.larger
    c.in_ok-array.array.count (room c.args.width) c.in_ok-regrow.ensures.regrows reached.cells reached.len (sym is_larger) c.in_ok-regrow.ensures.small
    _
    (λ g s represents. (
      c.in_ok-array.ensures.is_array g s represents,
      live_taken g c.args.self.now c.args.fun.now s represents c.in_ok-array.array.block c.in_ok-array.ensures.lives,
      c.size-words.ensures.words g s represents,
      c.in_ok-array.ensures.checks g s represents
          (λ x block count. grows s x block count (room c.args.width)),
    ))
