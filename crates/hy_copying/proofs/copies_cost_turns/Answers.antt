use Rattle.hy_copying.proofs.Copies.{copy_costs}
use Rattle.hy_copying.proofs.copies_cost_turns.Goals as goal

pub returns : goal.returns
returns c = copy_costs
