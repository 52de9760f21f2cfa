use Rattle.hy_lower_laws.proofs.Lengths.{one_is, all_are}
use Rattle.hy_lower_laws.proofs.laws.lengths_are_right.Goals as goal

pub returns : goal.returns
returns c = record { one = one_is; all = all_are }
