use Rattle.hy_core.proofs.laws.copying_and_lending_agree.Goals as goal
use Rattle.hy_core.proofs.LockStep.{agreement}

pub returns : goal.returns
returns c = agreement
