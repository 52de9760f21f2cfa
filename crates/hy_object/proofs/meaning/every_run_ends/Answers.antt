use Rattle.hy_object.proofs.Ends as e
use Rattle.hy_object.proofs.meaning.every_run_ends.Goals as goal

pub returns : goal.returns
returns c = e.every_run_ends
