use Rattle.std.proofs.Common.{◌∙◌, ◌+◌, refl, sym, subst, slice_get, length, ◌<◌, Some, ◌≡◌, List, true, arith}
use Rattle.std.proofs.Math.ListN.{set}
use Rattle.std.proofs.lemmas.Option.{slice_get_within}
use Rattle.hy_types.specs.declared.kinds.Ty.{Ty}
use Rattle.hy_types.proofs.Reading.{read_at}
use Rattle.hy_types.proofs.Settling.{passed_over, left_open, made_out, passes_as}
use Rattle.hy_types.proofs.sizes.settle_once.Goals as goal
use Rattle.hy_types.proofs.sizes.settle_once.Goals.{then-is_pending+then-not-is_pending, then-is_pending+else-not-is_pending, else-is_pending}

pub loop-place-preserved : goal.loop-place-preserved
loop-place-preserved c =
    let types = c.args.types.now in
    let entries = c.args.products.now.entries in
    let before = c.loop-place in
    elim c.if-is_pending.branch [
      | then-is_pending+then-not-is_pending w ↦
          let at = read_at types types before.place w.index-types-place.result refl c.loop-place-test.true w.index-types-place.is in
          passes_as types entries c.args.sizes.now (set before.sizes before.place w.size_of-size.result) c.if-is_pending.sizes true c.if-is_pending.changed
          (before.place + 1) w.sizes-is w.changed-is
          (made_out types entries c.args.sizes.now before.sizes before.changed before.place before.invariant w.index-types-place.result
          w.size_of-size.result at w.size_of-size.ensures
          _ (let l : before.place < length before.sizes = omega (arith, before.invariant.long, c.loop-place-test.true) in l) (sym c.is_pending.ensures
          ∙ w.if-is_pending.true) (sym w.if-not-is_pending.ensures))
      | then-is_pending+else-not-is_pending w ↦
          let at = read_at types types before.place w.index-types-place.result refl c.loop-place-test.true w.index-types-place.is in
          passes_as types entries c.args.sizes.now before.sizes c.if-is_pending.sizes before.changed c.if-is_pending.changed (before.place + 1) w.sizes-is
          w.changed-is
          (left_open types entries c.args.sizes.now before.sizes before.changed before.place before.invariant w.index-types-place.result
          w.size_of-size.result at w.size_of-size.ensures (sym w.if-not-is_pending.ensures))
      | else-is_pending w ↦
          passes_as types entries c.args.sizes.now before.sizes c.if-is_pending.sizes before.changed c.if-is_pending.changed (before.place + 1) w.sizes-is
          w.changed-is
          (passed_over types entries c.args.sizes.now before.sizes before.changed before.place before.invariant _ (sym c.is_pending.ensures
          ∙ w.if-is_pending.false))
    ]

pub returns-clause-settled : goal.returns-clause-settled
returns-clause-settled c = λ no table ps ts right id row at pending.
    let there : slice_get c.args.types.now id.at ≡ Some row = subst (λ (rows : List Ty). slice_get rows id.at ≡ Some row) ts at in
    let l = slice_get_within c.args.types.now id.at row there in
    c.loop-place.invariant.waits no table ps ts right id row (omega (arith, l, c.loop-place-test.false)) at pending
