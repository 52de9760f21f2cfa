use Rattle.hy_core.proofs.ready.ready_cores_are_calm.Goals as goal
use Rattle.hy_core.proofs.SetRuns.{ready_cores_are_calm}

pub returns : goal.returns
returns c = ready_cores_are_calm
