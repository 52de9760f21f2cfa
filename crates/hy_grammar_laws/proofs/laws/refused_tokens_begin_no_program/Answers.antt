use Rattle.hy_grammar_laws.proofs.Beginnings.{reached_begins, refused_begins}
use Rattle.hy_grammar_laws.proofs.laws.refused_tokens_begin_no_program.Goals as goal

pub returns-clause-refused : goal.returns-clause-refused
returns-clause-refused c = refused_begins

pub returns-clause-others : goal.returns-clause-others
returns-clause-others c = reached_begins
