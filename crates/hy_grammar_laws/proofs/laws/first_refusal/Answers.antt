use Rattle.hy_grammar_laws.proofs.Faults.{accepts, refuses}
use Rattle.hy_grammar_laws.proofs.laws.first_refusal.Goals as goal

pub returns-clause-accepts : goal.returns-clause-accepts
returns-clause-accepts c = accepts

pub returns-clause-refuses : goal.returns-clause-refuses
returns-clause-refuses c = refuses
