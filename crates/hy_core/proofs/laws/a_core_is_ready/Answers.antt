use Rattle.hy_core.proofs.laws.a_core_is_ready.Goals as goal
use Rattle.hy_core.proofs.Sample.{sample_ready, rows_ready}

pub returns-clause-slides : goal.returns-clause-slides
returns-clause-slides c = sample_ready

pub returns-clause-rows : goal.returns-clause-rows
returns-clause-rows c = rows_ready
