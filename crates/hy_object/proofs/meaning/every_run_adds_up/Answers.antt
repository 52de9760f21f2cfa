use Rattle.hy_object.proofs.AddingUp as a
use Rattle.hy_object.proofs.meaning.every_run_adds_up.Goals as goal

pub returns : goal.returns
returns c = a.every_run_adds_up
