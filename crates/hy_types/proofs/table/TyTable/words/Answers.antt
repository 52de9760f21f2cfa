use Rattle.std.proofs.Common.{◌<◌, Some, length, refl, ap, subst, ◌∙◌, arith, true≢false}
use Rattle.hy_types.specs.Types.{Table}
use Rattle.hy_types.specs.Words.{HasWords}
use Rattle.hy_types.specs.Kept.{IsKept}
use Rattle.hy_types.proofs.Reading.{read_at}
use Rattle.hy_types.proofs.Sums.{has_or_not}
use Rattle.hy_types.proofs.Waiting.{no_words}
use Rattle.hy_types.proofs.table.TyTable.words.Goals as goal

pub returns-in-Words : goal.returns-in-Words
returns-in-Words c =
    let kept = subst (λ (t : Table). IsKept t c.self.inside.sizes.items) c.self.view_is c.self.invariant in
    let l : c.args.id.at < length c.self.inside.sizes.items = omega (arith, kept.long, c.requires.known) in
    let at = read_at c.self.inside.sizes.items c.self.inside.sizes.items c.args.id.at c.index.result.now refl l c.index.ensures in
    let has : HasWords c.args.self.now c.args.id c.in-Words.words = kept.right c.args.id _ (at ∙ ap Some c.in-Words.is) in
    record { some = has; none = (λ e. absurd (true≢false e), λ h. absurd (has_or_not c.args.self.now c.args.id c.in-Words.words has h)) }

pub returns-in-Pending : goal.returns-in-Pending
returns-in-Pending c =
    let kept = subst (λ (t : Table). IsKept t c.self.inside.sizes.items) c.self.view_is c.self.invariant in
    let l : c.args.id.at < length c.self.inside.sizes.items = omega (arith, kept.long, c.requires.known) in
    let at = read_at c.self.inside.sizes.items c.self.inside.sizes.items c.args.id.at c.index.result.now refl l c.index.ensures in
    record {
      some = tt;
      none =
          (λ e. no_words c.args.self.now c.self.inside.sizes.items kept c.args.id c.index.result.now c.requires.declared at c.in-Pending.is, λ h. refl);
    }
