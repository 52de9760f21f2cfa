use Rattle.hy_core.proofs.laws.meanings_agree.Goals as goal
use Rattle.hy_core.proofs.LockStep.{meanings_agree}

pub returns : goal.returns
returns c = meanings_agree
