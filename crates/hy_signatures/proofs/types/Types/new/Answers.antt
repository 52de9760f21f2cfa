use Rattle.hy_types.specs.Types as Y
use Rattle.hy_signatures.proofs.Numbering.{number_kept}
use Rattle.hy_signatures.proofs.types.Types.new.Goals as goal

pub invariant_of-result : goal.invariant_of-result
invariant_of-result c = record {
  int = number_kept c.number_in-2.new.table c.number_unit.new.table Y.Int c.in_ok-int.int c.in_ok-unit.ensures.stays
      (number_kept c.number_in.new.table c.number_in-2.new.table Y.Int c.in_ok-int.int c.in_ok-truth.ensures.stays c.in_ok-int.ensures.number);
  truth = number_kept c.number_in-2.new.table c.number_unit.new.table Y.Bool c.in_ok-truth.truth c.in_ok-unit.ensures.stays
      c.in_ok-truth.ensures.number;
  unit = c.in_ok-unit.ensures.number;
}
