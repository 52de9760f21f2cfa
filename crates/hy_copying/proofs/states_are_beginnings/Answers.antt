use Rattle.hy_copying.proofs.StatementsWithin.{beginnings}
use Rattle.hy_copying.proofs.states_are_beginnings.Goals as goal

pub returns : goal.returns
returns c = beginnings
