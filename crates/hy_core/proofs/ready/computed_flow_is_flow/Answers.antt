use Rattle.hy_core.proofs.ready.computed_flow_is_flow.Goals as goal
use Rattle.hy_core.proofs.FlowSound.{computed_is_flow}

pub returns : goal.returns
returns c = computed_is_flow
