use Rattle.hy_signatures.proofs.Equality.{decides}
use Rattle.hy_signatures.proofs.laws.same_types_are_equal.Goals as goal

pub returns : goal.returns
returns c = decides
