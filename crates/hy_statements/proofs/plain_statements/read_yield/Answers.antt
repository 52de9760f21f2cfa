use Rattle.hy_tree.specs.Denotes.{expr_of}
use Rattle.hy_grammar.specs.Stack.{ForYield}
use Rattle.hy_statements.proofs.StatementSteps.{yielded}
use Rattle.hy_statements.proofs.StatementWalks.{starts, turns, values, reads_stmt}
use Rattle.hy_statements.proofs.plain_statements.read_yield.Goals as goal

pub returns-clause-reads : goal.returns-clause-reads
returns-clause-reads c = λ total x fits.
    let read = c.in_ok-value.ensures.reads total (ForYield c.args.word x.before x.place) in
    reads_stmt x _ (turns (values (starts fits) read) (yielded x.before x.place c.args.word (expr_of c.in_ok-value.value) _)) c.yield_value.ensures
