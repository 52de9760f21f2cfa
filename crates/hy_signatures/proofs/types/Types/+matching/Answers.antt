use Rattle.std.proofs.Common.{◌≡◌, get_or, length, sym, ap, subst, ◌∙◌, arith}
use Rattle.std.proofs.lemmas.Option.{slice_get-get_or}
use Rattle.hy_types.specs.declared.kinds.TyId.{TyId}
use Rattle.hy_types.specs.declared.kinds.Ty.TheVariants as ty
use Rattle.hy_types.specs.Types.{AllBelow, mentioned, type_of}
use Rattle.hy_types.proofs.Reading.{AllBelow-le, below_at}
use Rattle.hy_types.proofs.Solving.{highest-below, highest-above}
use Rattle.hy_signatures.specs.SolutionShown.{found_shown}
use Rattle.hy_signatures.proofs.MatchedTypes.{lengths_differ}
use Rattle.hy_signatures.proofs.types.Types.+matching.Goals as goal

pub matches-all_match-requires : goal.matches-all_match-requires
matches-all_match-requires t c =
    let parts : c.get.result.now ≡ ty.Tuple c.as_slice.result.now = c.in-Tuple.is ∙ ap ty.Tuple (sym c.as_slice.ensures) in
    let others : c.get-other.result.now ≡ ty.Tuple c.as_slice-in-Tuple-other.result.now = c.in-Tuple-other.is
    ∙ ap ty.Tuple (sym c.as_slice-in-Tuple-other.ensures) in
    let below : AllBelow c.args.wanted.at c.as_slice.result.now = subst (λ row. AllBelow c.args.wanted.at (mentioned row)) parts c.get.ensures.before in
    let below' : AllBelow c.args.given.at c.as_slice-in-Tuple-other.result.now =
    subst (λ row. AllBelow c.args.given.at (mentioned row)) others c.get-other.ensures.before in
    let high = highest-below c.args.wanted.at c.as_slice.result.now below in (
      omega (arith, high, c.decreases),
      (
        AllBelow-le c.args.wanted.at (length c.args.self.now.types) c.as_slice.result.now (omega (arith, c.requires.wanted)) below,
        (
          AllBelow-le c.args.given.at (length c.args.self.now.types) c.as_slice-in-Tuple-other.result.now (omega (arith, c.requires.given)) below',
          c.requires.found,
        ),
      ),
    )

pub all_match-matches-requires : goal.all_match-matches-requires
all_match-matches-requires t c =
    let d : TyId = record { at = 0 } in
    let k = c.loop-k.k in
    let high = highest-above c.args.wanted.now k (get_or c.args.wanted.now k d) (slice_get-get_or c.args.wanted.now k d c.loop-k-test.true) in (
      omega (arith, high, c.decreases),
      (
        below_at (length c.args.self.now.types) c.args.wanted.now k d c.requires.wanted c.loop-k-test.true,
        (
          below_at (length c.args.self.now.types) c.args.given.now k d c.requires.given (let same = c.if-wanted-given.false in let lt = c.loop-k-test.true in
              omega (arith, same, lt)),
          c.loop-k.invariant.known,
        ),
      ),
    )

pub all_match-returns-then-wanted-given-clause-found : goal.all_match-returns-then-wanted-given-clause-found
all_match-returns-then-wanted-given-clause-found t c =
    lengths_differ (type_of c.args.self.now) c.args.wanted.now c.args.given.now (found_shown c.args.self.now c.args.found.now)
    (λ e. c.if-wanted-given.true e)
