use Rattle.std.proofs.Common.{refl}
use Rattle.hy_grammar.specs.Machine.{step, finish, walk}
use Rattle.hy_grammar.specs.Rows.{stopped}
use Rattle.hy_grammar.proofs.rows_at_the_limit.Goals as goal

pub returns-clause-at_200 : goal.returns-clause-at_200
unfolding step finish walk stopped
returns-clause-at_200 c = refl

pub returns-clause-at_201 : goal.returns-clause-at_201
unfolding step finish walk stopped
returns-clause-at_201 c = refl
