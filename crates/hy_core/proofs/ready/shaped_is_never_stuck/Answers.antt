use Rattle.hy_core.proofs.ready.shaped_is_never_stuck.Goals as goal
use Rattle.hy_core.proofs.Stuck.{never_stuck}

pub returns : goal.returns
returns c = never_stuck
