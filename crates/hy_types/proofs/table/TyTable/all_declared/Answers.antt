use Rattle.std.proofs.Common.{◌≡◌, ◌<◌, Some, List, IsSome, length, refl, sym, ap, subst, ◌∙◌, true≢false, arith}
use Rattle.std.proofs.lemmas.Option.{slice_get_within}
use Rattle.hy_types.specs.declared.kinds.Ty.{Ty}
use Rattle.hy_types.specs.declared.kinds.Ty.TheVariants as ty
use Rattle.hy_types.specs.Types.{declared}
use Rattle.hy_types.proofs.Reading.{read_at}
use Rattle.hy_types.proofs.Asked.{declared_more}
use Rattle.hy_types.proofs.table.TyTable.all_declared.Goals as goal
use Rattle.hy_types.proofs.table.TyTable.all_declared.Goals.{in-Product+else-not-is_declared, in_default}

pub returns-then-not-is_declared : goal.returns-then-not-is_declared
returns-then-not-is_declared c =
    let l : c.loop-row.row-index < length c.args.self.now.types =
    subst (λ (rows : List Ty). c.loop-row.row-index < length rows) c.rows-row-items.ensures c.loop-row-test.true in
    let at = read_at c.args.self.now.types c.rows-row-items.result.now c.loop-row.row-index c.row-item.result c.rows-row-items.ensures l c.row-item.is in (
      λ e. absurd (true≢false (sym e)),
      λ each. sym c.if-not-is_declared.true
          ∙ c.is_declared.ensures.1 (each c.in-Product.declaration (record { at = c.loop-row.row-index }) (at ∙ ap Some c.in-Product.is)),
    )

pub loop-row-preserved : goal.loop-row-preserved
loop-row-preserved c =
    let l : c.loop-row.row-index < length c.args.self.now.types =
    subst (λ (rows : List Ty). c.loop-row.row-index < length rows) c.rows-row-items.ensures c.loop-row-test.true in
    let at = read_at c.args.self.now.types c.rows-row-items.result.now c.loop-row.row-index c.row-item.result c.rows-row-items.ensures l c.row-item.is in
    declared_more c.args.self.now c.loop-row.row-index c.row-item.result at c.loop-row.invariant (λ declaration e.
    elim c.match-row.branch [
      | in-Product+else-not-is_declared w ↦
          let f : ty.Product w.in-Product.declaration ≡ ty.Product declaration = sym w.in-Product.is ∙ e in
          let same : w.in-Product.declaration ≡ declaration = cc in
          subst (λ d. IsSome (declared c.args.self.now d)) same (w.is_declared.ensures.0 w.if-not-is_declared.false)
      | in_default w ↦ absurd (w.in_default.not-Product declaration e)
    ])

pub returns : goal.returns
returns c = (
  λ e declaration id at.
      let l = slice_get_within c.args.self.now.types id.at (ty.Product declaration) at in
      let m : length c.args.self.now.types ≡ length c.rows-row-items.result.now = ap length (sym c.rows-row-items.ensures) in
      c.loop-row.invariant declaration id (omega (arith, l, m, c.loop-row-test.false)) at,
  λ each. refl,
)
