use Rattle.hy_core.proofs.ready.ready_cores_agree.Goals as goal
use Rattle.hy_core.proofs.FlowIsCalm.{ready_cores_agree}

pub returns : goal.returns
returns c = ready_cores_agree
