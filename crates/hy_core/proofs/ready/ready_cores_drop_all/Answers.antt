use Rattle.hy_core.proofs.ready.ready_cores_drop_all.Goals as goal
use Rattle.hy_core.proofs.SetRuns.{ready_cores_drop_all}

pub returns : goal.returns
returns c = ready_cores_drop_all
