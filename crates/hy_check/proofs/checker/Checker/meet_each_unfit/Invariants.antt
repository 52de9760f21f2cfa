use Rattle.std.proofs.Common.{◌≡◌, [], drop, flat_map}
use Rattle.hy_signatures.specs.WantedShown.{wanted_shown}
use Rattle.hy_check.specs.KnownShown.{IsRight, known_of}
use Rattle.hy_check.specs.Refusals as refusals
use Rattle.hy_check.specs.Typing.{Around}
use Rattle.hy_check.specs.ValuesShown.{HaveValues, exprs_in}
use Rattle.hy_check.proofs.Knowing.{IsLearning}
use Rattle.hy_check.proofs.checker.Checker.meet_each_unfit.Given as goal

abbrev pub invariant-loop-part : goal.invariant-loop-part
invariant-loop-part l = record {
  right : IsRight l.self;
  table : l.self.types ≡ l.fn.self.types;
  learns : (around : Around) → HaveValues l.fn.self.types around l.parts → IsLearning (known_of l.fn.self) (known_of l.self)
      (flat_map (refusals.unfit around (wanted_shown l.fn.self.types l.wanted)) (exprs_in l.parts))
      (flat_map (refusals.unfit around (wanted_shown l.fn.self.types l.wanted)) (exprs_in (drop l.part-index l.parts))) [] [];
}
