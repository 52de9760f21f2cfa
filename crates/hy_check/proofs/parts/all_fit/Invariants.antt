use Rattle.std.proofs.Common.{◌≡◌, drop, map}
use Rattle.hy_signatures.specs.WantedShown.{wanted_shown}
use Rattle.hy_check.specs.Typing as typing
use Rattle.hy_check.specs.Typing.{Around, typed}
use Rattle.hy_check.specs.ValuesShown.{HaveValues, exprs_in}
use Rattle.hy_check.proofs.parts.all_fit.Given as goal

abbrev pub invariant-loop-part : goal.invariant-loop-part
invariant-loop-part l = (around : Around) → HaveValues l.types around l.parts
    → typing.all_fit (wanted_shown l.types l.wanted) (map (typed around) (exprs_in (drop l.part-index l.parts)))
    ≡ typing.all_fit (wanted_shown l.types l.wanted) (map (typed around) (exprs_in l.parts))
