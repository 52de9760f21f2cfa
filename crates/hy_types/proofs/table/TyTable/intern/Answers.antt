use Rattle.std.proofs.Common.{◌≡◌, ◌<◌, ◌^◌, ◌-◌, ◌++◌, ◌∷◌, [], List, is_ok, if◌then◌else◌, refl, sym, ap, subst, ◌∙◌, length, reverse, arith}
use Rattle.hy_types.specs.declared.kinds.Ty.{Ty}
use Rattle.hy_types.specs.declared.sizes.Size.{Size}
use Rattle.hy_types.specs.Types.{Table, AllBelow, mentioned}
use Rattle.hy_types.specs.Rows.{AreRows}
use Rattle.hy_types.specs.Sizes.{AreRight, IsRightFor}
use Rattle.hy_types.specs.Kept.{IsKept}
use Rattle.hy_types.proofs.Interning.{interned, interned_as, Interned, added_new, extends, equal_ids, once, there_before, first_use}
use Rattle.hy_types.proofs.Keeping.{kept_push, new}
use Rattle.hy_types.proofs.table.TyTable.intern.Goals as goal
use Rattle.hy_types.proofs.table.TyTable.intern.Goals.{then-added, else-added}

pub invariant_of-self-then-added : goal.invariant_of-self-then-added
invariant_of-self-then-added c =
    let types = c.self.inside.types.keys in
    let entries = c.self.inside.products.entries in
    let sizes = c.self.inside.sizes.items in
    let below : AllBelow (length types) (mentioned c.args.ty) =
    subst (λ (t : Table). AllBelow (length t.types) (mentioned c.args.ty)) (sym c.self.view_is) c.requires in
    let fresh = added_new c.args.ty types c.insert_full.new.self.keys c.in_ok-place.added c.if-added.true c.in_ok-place.ensures.added
    c.in_ok-place.ensures.keys in
    let held : c.reserve.new.self.items ≡ sizes = c.in_ok-reserve.ensures.items in
    let read : c.as_slice.result.now ≡ sizes = c.as_slice.ensures.value ∙ held in
    let pushed : c.push.new.self.items ≡ sizes ++ c.size_of-size.result ∷ [] =
    c.push.ensures.items ∙ ap (λ r. if is_ok r then c.reserve.new.self.items ++ c.size_of-size.result ∷ [] else c.reserve.new.self.items) c.unwrap.ensures
    ∙ ap (λ l. l ++ c.size_of-size.result ∷ []) held in
    let room : length types < 2 ^ 32 - 1 = omega (arith, c.if-len.false, c.len.ensures.len) in
    subst (λ (rows : List Ty). IsKept (record { types = rows; products = entries }) c.push.new.self.items) (sym fresh.1)
    (subst (λ (s : List Size). IsKept (record { types = types ++ c.args.ty ∷ []; products = entries }) s) (sym pushed)
    (kept_push types entries c.args.ty sizes c.self.invariant below fresh.0 room c.size_of-size.result
    (λ id right at. subst (λ (s : List Size). IsRightFor (new types entries c.args.ty) s id c.args.ty c.size_of-size.result) read
    (c.size_of-size.ensures (new types entries c.args.ty) id refl (subst (AreRight (new types entries c.args.ty)) (sym read) right) at))))

done : (c : goal.Joined-added) → Interned c.args.self.now c.if-added.self c.args.ty (record { at = c.in_ok-place.place })
done c =
    let old : Table = record { types = c.self.inside.types.keys; products = c.self.inside.products.entries } in
    let made : Table = record { types = c.insert_full.new.self.keys; products = c.self.inside.products.entries } in
    let is : c.if-added.self ≡ made = elim c.if-added.branch [ then-added w ↦ w.self-is | else-added w ↦ w.self-is ] in
    let s = c.in_ok-place.ensures.stored in
    interned_as old c.args.self.now made c.if-added.self c.args.ty (record { at = c.in_ok-place.place }) c.self.view_is is
    (interned old made c.args.ty c.in_ok-place.place c.in_ok-place.added c.in_ok-place.ensures.added c.in_ok-place.ensures.keys refl s.0 s.1 s.2)

good : (c : goal.Joined-added) → AreRows (reverse c.args.self.now.types)
good c = subst (λ (t : Table). AreRows (reverse t.types)) c.self.view_is c.self.invariant.rows

pub returns-clause-row : goal.returns-clause-row
returns-clause-row c = (done c).at

pub returns-clause-once : goal.returns-clause-once
returns-clause-once c = once c.args.self.now c.if-added.self c.args.ty _ (good c) c.requires (done c)

pub returns-clause-equal : goal.returns-clause-equal
returns-clause-equal c = equal_ids c.args.self.now c.if-added.self c.args.ty _ (good c) c.requires (done c)

pub returns-clause-first : goal.returns-clause-first
returns-clause-first c = first_use c.args.self.now c.if-added.self c.args.ty _ (good c) c.requires (done c)

pub returns-clause-there : goal.returns-clause-there
returns-clause-there c = there_before c.args.self.now c.if-added.self c.args.ty _ (good c) c.requires (done c)

pub returns-clause-stays : goal.returns-clause-stays
returns-clause-stays c = extends c.args.self.now c.if-added.self c.args.ty _ (good c) c.requires (done c)
