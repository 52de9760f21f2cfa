use Rattle.hy_copying.proofs.StatementsWithin.{spent_runs}
use Rattle.hy_copying.proofs.spent_runs_took_all_turns.Goals as goal

pub returns : goal.returns
returns c = spent_runs
