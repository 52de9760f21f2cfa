use Rattle.hy_signatures.proofs.Numbering.{basics_kept}
use Rattle.hy_signatures.proofs.types.Types.number.Goals as goal

pub invariant_of-self : goal.invariant_of-self
invariant_of-self c =
    basics_kept c.self.inside.table c.number_in.new.table c.self.inside.basics c.number_in.ensures.stays c.self.invariant
