use Rattle.hy_object.proofs.OneEnd.{one_run}
use Rattle.hy_object.proofs.meaning.one_run.Goals as goal

pub returns : goal.returns
returns c = one_run
