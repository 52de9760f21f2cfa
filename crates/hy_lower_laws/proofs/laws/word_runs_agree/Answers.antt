use Rattle.hy_lower_laws.proofs.WholeRuns as whole
use Rattle.hy_lower_laws.proofs.laws.word_runs_agree.Goals as goal

pub returns : goal.returns
returns c = whole.word_runs_agree
