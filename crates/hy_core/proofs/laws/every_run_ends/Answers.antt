use Rattle.hy_core.proofs.laws.every_run_ends.Goals as goal
use Rattle.hy_core.proofs.Ends.{every_run_ends}

pub returns : goal.returns
returns c = every_run_ends
