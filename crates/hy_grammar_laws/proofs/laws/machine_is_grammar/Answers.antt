use Rattle.hy_grammar_laws.proofs.CompleteDecls.{complete}
use Rattle.hy_grammar_laws.proofs.SoundRun.{sound}
use Rattle.hy_grammar_laws.proofs.laws.machine_is_grammar.Goals as goal

pub returns-clause-accepted : goal.returns-clause-accepted
returns-clause-accepted c = complete

pub returns-clause-only : goal.returns-clause-only
returns-clause-only c = sound
