use Rattle.std.proofs.Common.{◌≡◌, ◌+◌, List, Some, get_or, length, sym, ap, subst, ◌∙◌, arith}
use Rattle.std.proofs.lemmas.Option.{slice_get-get_or}
use Rattle.hy_types.specs.Types.{AllBelow, HasId, PlainType, PlainTypes, mentioned, plain_types, type_of}
use Rattle.hy_types.specs.declared.kinds.Ty.TheVariants as ty
use Rattle.hy_types.specs.declared.kinds.TyId.{TyId}
use Rattle.hy_types.proofs.Reading.{AllBelow-le, below_at}
use Rattle.hy_types.proofs.Replaced.{id_stays, type_kept}
use Rattle.hy_types.proofs.Solving.{highest-below, highest-above}
use Rattle.hy_signatures.specs.Numbered.{IsNumber, AreNumbers}
use Rattle.hy_signatures.specs.PlainTypes.{replaced, replaced_all}
use Rattle.hy_signatures.specs.SolutionShown.{found_shown}
use Rattle.hy_signatures.proofs.MatchedTypes.{found_still, replaced_each}
use Rattle.hy_signatures.proofs.Numbering.{Numbering, numbering_more, numbering_all}
use Rattle.hy_signatures.proofs.types.Types.+replacing.Goals as goal

pub replace-replace_all-requires : goal.replace-replace_all-requires
replace-replace_all-requires t c =
    let parts : c.get.result.now ≡ ty.Tuple c.as_slice.result.now =
    c.in-Tuple.is ∙ ap ty.Tuple (sym (c.as_slice.ensures ∙ c.in_ok-parts-in-Tuple.ensures.cases)) in
    let below : AllBelow c.args.id.at c.as_slice.result.now = subst (λ row. AllBelow c.args.id.at (mentioned row)) parts c.get.ensures.before in
    let high = highest-below c.args.id.at c.as_slice.result.now below in (
      omega (arith, high, c.decreases),
      (
        AllBelow-le c.args.id.at (length c.args.self.now.types) c.as_slice.result.now (omega (arith, c.requires.known)) below,
        c.requires.found,
      ),
    )

pub replace_all-replace-requires : goal.replace_all-replace-requires
replace_all-replace-requires t c =
    let d : TyId = record { at = 0 } in
    let k = c.loop-id.id-index in
    let id = get_or c.args.ids.now k d in
    let high = highest-above c.args.ids.now k id (slice_get-get_or c.args.ids.now k d c.loop-id-test.true) in (
      omega (arith, high, c.decreases),
      (
        id_stays c.args.self.now c.loop-id.self c.loop-id.invariant.stays id
            (below_at (length c.args.self.now.types) c.args.ids.now k d c.requires.known c.loop-id-test.true),
        λ place number at. id_stays c.args.self.now c.loop-id.self c.loop-id.invariant.stays number (c.requires.found place number at),
      ),
    )

pub replace_all-loop-id-preserved : goal.replace_all-loop-id-preserved
replace_all-loop-id-preserved t c =
    let d : TyId = record { at = 0 } in
    let k = c.loop-id.id-index in
    let start = c.args.self.now in
    let now = c.loop-id.self in
    let new = c.replace.new.self in
    let found = c.args.found.now in
    let id = get_or c.args.ids.now k d in
    let f : TyId → PlainType = λ i. replaced (found_shown start found) (type_of start i) in
    let item : Some id ≡ Some (get_or c.args.ids.now k id) =
    sym (slice_get-get_or c.args.ids.now k d c.loop-id-test.true) ∙ slice_get-get_or c.args.ids.now k id c.loop-id-test.true in
    let same : id ≡ get_or c.args.ids.now k id = cc in
    let known : HasId start id = below_at (length start.types) c.args.ids.now k d c.requires.known c.loop-id-test.true in
    let is : replaced (found_shown now found) (type_of now id) ≡ f id =
    λ i. replaced (found_still start now found c.loop-id.invariant.stays c.requires.found i) (type_kept start now c.loop-id.invariant.stays id known i) in
    subst (λ (ids : List TyId). Numbering f c.args.ids.now start new ids (k + 1)) (sym c.in_ok-push.ensures.items)
    (numbering_more f c.args.ids.now start now new c.loop-id.made.items k id c.in_ok-replace.field-0 same c.loop-id-test.true c.loop-id.invariant
    c.in_ok-replace.ensures.stays
    (subst (λ (type : PlainType). IsNumber new type c.in_ok-replace.field-0) is c.in_ok-replace.ensures.number))

pub replace_all-returns-clause-numbers : goal.replace_all-returns-clause-numbers
replace_all-returns-clause-numbers t c =
    let start = c.args.self.now in
    let found = found_shown start c.args.found.now in
    let f : TyId → PlainType = λ i. replaced found (type_of start i) in
    subst (AreNumbers c.loop-id.self (replaced_all found (plain_types (type_of start) c.args.ids.now))) (sym c.from_vec.ensures)
    (subst (λ (types : PlainTypes). AreNumbers c.loop-id.self types c.loop-id.made.items) (replaced_each found (type_of start) c.args.ids.now)
    (numbering_all f c.args.ids.now start c.loop-id.self c.loop-id.made.items c.loop-id.id-index c.loop-id-test.false c.loop-id.invariant))
