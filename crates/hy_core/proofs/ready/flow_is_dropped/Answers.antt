use Rattle.hy_core.proofs.ready.flow_is_dropped.Goals as goal
use Rattle.hy_core.proofs.SetRuns.{flow_is_dropped}

pub returns : goal.returns
returns c = flow_is_dropped
