use Rattle.std.proofs.Common.{◌≡◌, ◌&&◌, true, false, sym, ap, ◌∙◌, ◌+◌, drop, map, rules}
use Rattle.hy_signatures.specs.WantedShown.{wanted_shown}
use Rattle.hy_check.specs.Typing as typing
use Rattle.hy_check.specs.Typing.{typed, valued}
use Rattle.hy_check.specs.ValuesShown.{exprs_in}
use Rattle.hy_tree.specs.Denotes.{expr_of}
use Rattle.hy_check.proofs.PartValues.{part_value, known_some, fit_next, fit_none}
use Rattle.hy_check.proofs.parts.all_fit.Goals as goal

pub returns-in_default : goal.returns-in_default
returns-in_default c around h =
    sym (fit_none c.args.types.now around c.args.parts.now h c.loop-part.part-index c.part-item.result c.part-item.is c.loop-part-test.true
    (wanted_shown c.args.types.now c.args.wanted) c.in_default.is) ∙ c.loop-part.invariant around h

pub fits-requires-clause-given : goal.fits-requires-clause-given
fits-requires-clause-given c =
    known_some c.args.types.now (valued c.requires.parts.0 false (expr_of c.part-item.result.e.now)) c.part-item.result.value c.in-Some.v c.in-Some.is
    (part_value c.args.types.now c.requires.parts.0 c.args.parts.now c.loop-part.part-index c.part-item.result c.part-item.is c.loop-part-test.true
    c.requires.parts.1)

pub returns-then-not-fits : goal.returns-then-not-fits
returns-then-not-fits c around h =
    let w = wanted_shown c.args.types.now c.args.wanted in
    let rest = typing.all_fit w (map (typed around) (exprs_in (drop (c.loop-part.part-index + 1) c.args.parts.now))) in
    let unfit : c.fits.result ≡ false = search rules in
    sym (fit_next c.args.types.now around c.args.parts.now h c.loop-part.part-index c.part-item.result c.part-item.is c.loop-part-test.true w
    c.in-Some.v c.in-Some.is ∙ ap (λ b. b && rest) (sym c.fits.ensures ∙ unfit)) ∙ c.loop-part.invariant around h

pub loop-part-preserved : goal.loop-part-preserved
loop-part-preserved c around h =
    let w = wanted_shown c.args.types.now c.args.wanted in
    let rest = typing.all_fit w (map (typed around) (exprs_in (drop (c.loop-part.part-index + 1) c.args.parts.now))) in
    let fits : c.fits.result ≡ true = search rules in
    sym (fit_next c.args.types.now around c.args.parts.now h c.loop-part.part-index c.part-item.result c.part-item.is c.loop-part-test.true w
    c.in-Some.v c.in-Some.is ∙ ap (λ b. b && rest) (sym c.fits.ensures ∙ fits)) ∙ c.loop-part.invariant around h
