use Rattle.hy_core.proofs.integers.integers_stay_in_range.Goals as goal
use Rattle.hy_core.proofs.Stuck.{stay_in_range}

pub returns : goal.returns
returns c = stay_in_range
