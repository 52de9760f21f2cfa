use Rattle.hy_copying.proofs.StatementsWithin.{whole_runs}
use Rattle.hy_copying.proofs.runs_that_end_are_whole.Goals as goal

pub returns : goal.returns
returns c = whole_runs
