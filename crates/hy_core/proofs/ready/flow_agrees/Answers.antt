use Rattle.hy_core.proofs.ready.flow_agrees.Goals as goal
use Rattle.hy_core.proofs.FlowIsCalm.{flow_agrees}

pub returns : goal.returns
returns c = flow_agrees
