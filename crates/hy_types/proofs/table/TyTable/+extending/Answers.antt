use Rattle.std.proofs.Common.{◌≡◌, ◌<◌, Some, slice_get, get_or, length, sym, ap, subst, ◌∙◌, arith}
use Rattle.std.proofs.lemmas.Option.{slice_get-get_or}
use Rattle.hy_types.specs.declared.kinds.TyId.{TyId}
use Rattle.hy_types.specs.declared.kinds.Ty.TheVariants as ty
use Rattle.hy_types.specs.Types.{AllBelow, mentioned, type_of, type_of_row, plain_types, Param, Tuple}
use Rattle.hy_types.specs.Matching.{ParametersBelow}
use Rattle.hy_types.proofs.Reading.{AllBelow-le, below_at}
use Rattle.hy_types.proofs.Solving.{param_matches, param_still, param_known, lengths_differ, extending_end, extending_more, extending_fails, parameters_at}
use Rattle.hy_types.proofs.Solving.{highest-below, highest-above}
use Rattle.hy_types.proofs.table.TyTable.+extending.Goals as goal

pub extend-extend_all-requires : goal.extend-extend_all-requires
extend-extend_all-requires t c =
    let parts : c.get.result.now ≡ ty.Tuple c.as_slice.result.now = c.in-Tuple.is ∙ ap ty.Tuple (sym c.as_slice.ensures) in
    let others : c.get-other.result.now ≡ ty.Tuple c.as_slice-in-Tuple-other.result.now = c.in-Tuple-other.is
    ∙ ap ty.Tuple (sym c.as_slice-in-Tuple-other.ensures) in
    let below : AllBelow c.args.wanted.at c.as_slice.result.now = subst (λ row. AllBelow c.args.wanted.at (mentioned row)) parts c.get.ensures.before in
    let below' : AllBelow c.args.given.at c.as_slice-in-Tuple-other.result.now =
    subst (λ row. AllBelow c.args.given.at (mentioned row)) others c.get-other.ensures.before in
    let high = highest-below c.args.wanted.at c.as_slice.result.now below in
    let type : type_of c.args.self.now c.args.wanted ≡ Tuple (plain_types (type_of c.args.self.now) c.as_slice.result.now) = c.get.ensures.equal
    ∙ ap (type_of_row c.args.self.now) parts in (
      omega (arith, high, c.decreases),
      (
        AllBelow-le c.args.wanted.at (length c.args.self.now.types) c.as_slice.result.now (omega (arith, c.requires.wanted)) below,
        (
          AllBelow-le c.args.given.at (length c.args.self.now.types) c.as_slice-in-Tuple-other.result.now (omega (arith, c.requires.given)) below',
          (
            c.requires.found,
            subst (ParametersBelow (length c.args.found.now)) type c.requires.places,
          ),
        ),
      ),
    )

pub extend-returns-in-Param-clause-found : goal.extend-returns-in-Param-clause-found
extend-returns-in-Param-clause-found t c =
    let type : type_of c.args.self.now c.args.wanted ≡ Param c.in-Param.place = c.get.ensures.equal ∙ ap (type_of_row c.args.self.now) c.in-Param.is in
    let inside : c.in-Param.place < length c.args.found.now = subst (ParametersBelow (length c.args.found.now)) type c.requires.places in
    param_matches c.args.self.now c.args.wanted c.args.given c.get-other.ensures.once c.in-Param.place type c.args.found.now c.fill.new.self
    c.requires.found c.requires.given c.fill.result inside c.fill.ensures.filled

pub extend-returns-in-Param-clause-kept : goal.extend-returns-in-Param-clause-kept
extend-returns-in-Param-clause-kept t c =
    let type : type_of c.args.self.now c.args.wanted ≡ Param c.in-Param.place = c.get.ensures.equal ∙ ap (type_of_row c.args.self.now) c.in-Param.is in
    let inside : c.in-Param.place < length c.args.found.now = subst (ParametersBelow (length c.args.found.now)) type c.requires.places in
    param_still c.args.self.now c.args.wanted c.args.given c.get-other.ensures.once c.in-Param.place type c.args.found.now c.fill.new.self c.requires.found
    c.requires.given c.fill.result inside c.fill.ensures.filled

pub extend-returns-in-Param-clause-known : goal.extend-returns-in-Param-clause-known
extend-returns-in-Param-clause-known t c =
    let type : type_of c.args.self.now c.args.wanted ≡ Param c.in-Param.place = c.get.ensures.equal ∙ ap (type_of_row c.args.self.now) c.in-Param.is in
    let inside : c.in-Param.place < length c.args.found.now = subst (ParametersBelow (length c.args.found.now)) type c.requires.places in
    param_known c.args.self.now c.args.wanted c.args.given c.get-other.ensures.once c.in-Param.place type c.args.found.now c.fill.new.self c.requires.found
    c.requires.given c.fill.result inside c.fill.ensures.filled

pub extend_all-returns-then-wanted-given-clause-found : goal.extend_all-returns-then-wanted-given-clause-found
extend_all-returns-then-wanted-given-clause-found t c =
    lengths_differ c.args.self.now c.args.wanted.now c.args.given.now c.args.found.now (λ e. c.if-wanted-given.true e)

pub extend_all-extend-requires : goal.extend_all-extend-requires
extend_all-extend-requires t c =
    let d : TyId = record { at = 0 } in
    let i = c.loop-place.place in
    let l' : i < length c.args.given.now = omega (arith, c.loop-place-test.true, c.if-wanted-given.false) in
    let at : slice_get c.args.wanted.now i ≡ Some (get_or c.args.wanted.now i d) = slice_get-get_or c.args.wanted.now i d c.loop-place-test.true in
    let high = highest-above c.args.wanted.now i (get_or c.args.wanted.now i d) at in (
      omega (arith, high, c.decreases),
      (
        below_at (length c.args.self.now.types) c.args.wanted.now i d c.requires.wanted c.loop-place-test.true,
        (
          below_at (length c.args.self.now.types) c.args.given.now i d c.requires.given l',
          (
            c.loop-place.invariant.known,
            subst (λ n. ParametersBelow n (type_of c.args.self.now (get_or c.args.wanted.now i d))) (sym c.loop-place.invariant.places)
                (parameters_at c.args.self.now (length c.args.found.now) c.args.wanted.now i (get_or c.args.wanted.now i d) c.requires.places at),
          ),
        ),
      ),
    )

pub extend_all-returns-then-not-extend-clause-found : goal.extend_all-returns-then-not-extend-clause-found
extend_all-returns-then-not-extend-clause-found t c =
    let d : TyId = record { at = 0 } in
    let i = c.loop-place.place in
    let l' : i < length c.args.given.now = omega (arith, c.loop-place-test.true, c.if-wanted-given.false) in
    extending_fails c.args.self.now c.args.wanted.now c.args.given.now c.args.found.now c.loop-place.found i (get_or c.args.wanted.now i d)
    (get_or c.args.given.now i d)
    (slice_get-get_or c.args.wanted.now i d c.loop-place-test.true) (slice_get-get_or c.args.given.now i d l') c.loop-place.invariant c.extend.new.found
    c.if-not-extend.ensures.found

pub extend_all-loop-place-preserved : goal.extend_all-loop-place-preserved
extend_all-loop-place-preserved t c =
    let d : TyId = record { at = 0 } in
    let i = c.loop-place.place in
    let l' : i < length c.args.given.now = omega (arith, c.loop-place-test.true, c.if-wanted-given.false) in
    extending_more c.args.self.now c.args.wanted.now c.args.given.now c.args.found.now c.loop-place.found i (get_or c.args.wanted.now i d)
    (get_or c.args.given.now i d)
    (slice_get-get_or c.args.wanted.now i d c.loop-place-test.true) (slice_get-get_or c.args.given.now i d l') c.loop-place.invariant c.extend.new.found
    c.if-not-extend.ensures.found c.if-not-extend.ensures.kept c.if-not-extend.ensures.known c.if-not-extend.ensures.places

pub extend_all-returns-clause-found : goal.extend_all-returns-clause-found
extend_all-returns-clause-found t c =
    extending_end c.args.self.now c.args.wanted.now c.args.given.now c.args.found.now c.loop-place.found c.loop-place.place c.loop-place-test.false
    c.if-wanted-given.false c.loop-place.invariant
