use Rattle.std.proofs.Common.{◌≡◌, [], drop, flat_map, false, refl, sym, subst, ◌∙◌, ◌+◌}
use Rattle.hy_tree.specs.Denotes.{expr_of}
use Rattle.hy_types.specs.Types.{Table}
use Rattle.hy_signatures.specs.WantedShown.{wanted_shown}
use Rattle.hy_check.specs.Known.{Learns}
use Rattle.hy_check.specs.KnownShown.{known_of}
use Rattle.hy_check.specs.Refusals as refusals
use Rattle.hy_check.specs.Typing.{valued}
use Rattle.hy_check.specs.ValuesShown.{IsKnown, perhaps_shown, exprs_in}
use Rattle.hy_check.proofs.Knowing.{learning_start, learning_next, learning_end}
use Rattle.hy_check.proofs.PartValues.{part_value, flat_next, flat_end}
use Rattle.hy_check.proofs.checker.Checker.meet_each_unfit.Goals as goal

pub loop-part-init : goal.loop-part-init
loop-part-init c = record {
  right = c.requires.right;
  table = refl;
  learns = λ around h. learning_start (known_of c.args.self.now)
      (flat_map (refusals.unfit around (wanted_shown c.args.self.now.types c.args.wanted)) (exprs_in c.args.parts.now)) [];
}

pub meet_unfit-requires-clause-value : goal.meet_unfit-requires-clause-value
meet_unfit-requires-clause-value c =
    let is = part_value c.args.self.now.types c.requires.parts.0 c.args.parts.now c.loop-part.part-index c.part-item.result c.part-item.is
    c.loop-part-test.true c.requires.parts.1 in
    subst (λ (t : Table). IsKnown t c.part-item.result.value) (sym c.loop-part.invariant.table) is.known

pub loop-part-preserved : goal.loop-part-preserved
loop-part-preserved c = record {
  right = c.meet_unfit.ensures.right;
  table = c.meet_unfit.ensures.table ∙ c.loop-part.invariant.table;
  learns = λ around h.
      let is = part_value c.args.self.now.types around c.args.parts.now c.loop-part.part-index c.part-item.result c.part-item.is
      c.loop-part-test.true h in
      let f = refusals.unfit around (wanted_shown c.args.self.now.types c.args.wanted) in
      learning_next (known_of c.args.self.now) (known_of c.loop-part.self) (known_of c.meet_unfit.new.self)
      (flat_map f (exprs_in c.args.parts.now)) (flat_map f (exprs_in (drop c.loop-part.part-index c.args.parts.now)))
      (f (expr_of c.part-item.result.e.now)) (flat_map f (exprs_in (drop (c.loop-part.part-index + 1) c.args.parts.now))) [] [] [] []
      (c.loop-part.invariant.learns around h)
      (flat_next f c.args.parts.now c.loop-part.part-index c.part-item.result c.part-item.is c.loop-part-test.true) refl
      (subst (λ (t : Table). perhaps_shown t c.part-item.result.value ≡ valued around false (expr_of c.part-item.result.e.now)
      → Learns (known_of c.loop-part.self) (known_of c.meet_unfit.new.self)
      (refusals.unfit around (wanted_shown t c.args.wanted) (expr_of c.part-item.result.e.now)) []) c.loop-part.invariant.table
      (c.meet_unfit.ensures.learns around) is.is);
}

pub returns-clause-learns : goal.returns-clause-learns
returns-clause-learns c around h =
    let f = refusals.unfit around (wanted_shown c.args.self.now.types c.args.wanted) in
    learning_end (known_of c.args.self.now) (known_of c.loop-part.self) (flat_map f (exprs_in c.args.parts.now))
    (flat_map f (exprs_in (drop c.loop-part.part-index c.args.parts.now))) [] [] (c.loop-part.invariant.learns around h)
    (flat_end f c.args.parts.now c.loop-part.part-index c.loop-part-test.false) refl
