use Rattle.hy_core.proofs.laws.one_meaning.Goals as goal
use Rattle.hy_core.proofs.Ends.{one_meaning_each}

pub returns : goal.returns
returns c = one_meaning_each
