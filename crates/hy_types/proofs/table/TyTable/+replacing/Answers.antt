use Rattle.std.proofs.Common.{◌≡◌, ◌<◌, ◌+◌, List, get_or, length, sym, ap, subst, ◌∙◌, arith}
use Rattle.std.proofs.lemmas.Option.{slice_get-get_or}
use Rattle.hy_types.specs.declared.kinds.TyId.{TyId}
use Rattle.hy_types.specs.declared.kinds.Ty.TheVariants as ty
use Rattle.hy_types.specs.Types.{AllBelow, mentioned, type_of, type_of_row, plain_types, Param, Tuple}
use Rattle.hy_types.specs.Matching.{substitute, ParametersBelow}
use Rattle.hy_types.proofs.Reading.{AllBelow-le, below_at}
use Rattle.hy_types.proofs.Solving.{highest-below, highest-above}
use Rattle.hy_types.proofs.Replaced.{Replacing, replacing_part, replacing_places, replacing_more, ids_stay}
use Rattle.hy_types.proofs.table.TyTable.+replacing.Goals as goal

pub replace-replace_all-requires : goal.replace-replace_all-requires
replace-replace_all-requires t c =
    let parts : c.get.result.now ≡ ty.Tuple c.as_slice-in-Tuple.result.now = c.in-Tuple.is
    ∙ ap ty.Tuple (sym (c.as_slice-in-Tuple.ensures ∙ c.in_ok-parts-in-Tuple.ensures.cases)) in
    let below : AllBelow c.args.ty.at c.as_slice-in-Tuple.result.now = subst (λ row. AllBelow c.args.ty.at (mentioned row)) parts c.get.ensures.before in
    let high = highest-below c.args.ty.at c.as_slice-in-Tuple.result.now below in
    let type : type_of c.args.self.now c.args.ty ≡ Tuple (plain_types (type_of c.args.self.now) c.as_slice-in-Tuple.result.now) = c.get.ensures.equal
    ∙ ap (type_of_row c.args.self.now) parts in (
      omega (arith, high, c.decreases),
      (
        AllBelow-le c.args.ty.at (length c.args.self.now.types) c.as_slice-in-Tuple.result.now (omega (arith, c.requires.known)) below,
        (
          c.requires.args,
          subst (ParametersBelow (length c.args.args.now)) type c.requires.places,
        ),
      ),
    )

pub replace-returns-in-Param-clause-replaced : goal.replace-returns-in-Param-clause-replaced
replace-returns-in-Param-clause-replaced t c = λ types gives.
    let d : TyId = record { at = 0 } in
    let type : type_of c.args.self.now c.args.ty ≡ Param c.in-Param.place = c.get.ensures.equal ∙ ap (type_of_row c.args.self.now) c.in-Param.is in
    let inside : c.in-Param.place < length c.args.args.now = subst (ParametersBelow (length c.args.args.now)) type c.requires.places in
    let given = gives c.in-Param.place (get_or c.args.args.now c.in-Param.place d) (slice_get-get_or c.args.args.now c.in-Param.place d inside) in
    ap (λ args. type_of c.args.self.now (get_or args c.in-Param.place d)) c.as_slice.ensures ∙ sym given ∙ sym (ap (substitute types) type)

pub replace-returns-in-Param-clause-known : goal.replace-returns-in-Param-clause-known
replace-returns-in-Param-clause-known t c =
    let d : TyId = record { at = 0 } in
    let type : type_of c.args.self.now c.args.ty ≡ Param c.in-Param.place = c.get.ensures.equal ∙ ap (type_of_row c.args.self.now) c.in-Param.is in
    let inside : c.in-Param.place < length c.args.args.now = subst (ParametersBelow (length c.args.args.now)) type c.requires.places in
    subst (λ (args : List TyId). (get_or args c.in-Param.place d).at < length c.args.self.now.types) (sym c.as_slice.ensures)
    (below_at (length c.args.self.now.types) c.args.args.now c.in-Param.place d c.requires.args inside)

pub replace_all-replace-requires : goal.replace_all-replace-requires
replace_all-replace-requires t c =
    let d : TyId = record { at = 0 } in
    let i = c.loop-part.part-index in
    let part = get_or c.args.types.now i d in
    let high = highest-above c.args.types.now i part (slice_get-get_or c.args.types.now i d c.loop-part-test.true) in (
      omega (arith, high, c.decreases),
      (
        replacing_part c.args.self.now c.args.args.now c.args.types.now c.requires.known c.requires.args c.loop-part.self c.loop-part.replaced.items i
            c.loop-part-test.true c.loop-part.invariant d,
        (
          ids_stay c.args.self.now c.loop-part.self c.loop-part.invariant.stays c.args.args.now c.requires.args,
          replacing_places c.args.self.now c.args.args.now c.args.types.now c.requires.known c.requires.args c.loop-part.self c.loop-part.replaced.items i
              c.loop-part-test.true c.loop-part.invariant d (length c.args.args.now) c.requires.places,
        ),
      ),
    )

pub replace_all-loop-part-preserved : goal.replace_all-loop-part-preserved
replace_all-loop-part-preserved t c =
    let d : TyId = record { at = 0 } in
    let i = c.loop-part.part-index in
    subst (λ (ids : List TyId). Replacing c.args.self.now c.args.args.now c.args.types.now c.replace.new.self ids (i + 1)) (sym c.in_ok-push.ensures.items)
    (replacing_more c.args.self.now c.args.args.now c.args.types.now c.requires.known c.requires.args c.loop-part.self c.loop-part.replaced.items i
    c.loop-part-test.true c.loop-part.invariant d
    c.replace.new.self c.in_ok-id.id c.in_ok-id.ensures.stays c.in_ok-id.ensures.known c.in_ok-id.ensures.replaced)
