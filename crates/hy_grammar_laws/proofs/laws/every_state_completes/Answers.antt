use Rattle.hy_grammar_laws.proofs.Completes.{completes}
use Rattle.hy_grammar_laws.proofs.laws.every_state_completes.Goals as goal

pub returns : goal.returns
returns c = completes
