use Rattle.hy_core.proofs.ready.ready_states.Goals as goal
use Rattle.hy_core.proofs.States.{ready_states}

pub returns : goal.returns
returns c = ready_states
