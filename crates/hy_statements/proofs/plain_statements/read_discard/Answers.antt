use Rattle.hy_tree.specs.Denotes.{expr_of, stmt_of}
use Rattle.hy_statements.specs.ReadsStatements.{with_stmt}
use Rattle.hy_phrases.proofs.Walks.{passes}
use Rattle.hy_grammar.specs.Stack.{ForDiscard, DiscardWord}
use Rattle.hy_statements.proofs.StatementSteps.{to_discarded, no_discarded, discarded}
use Rattle.hy_statements.proofs.StatementWalks.{starts, over, turns, values, reads_stmt, fails, refuses}
use Rattle.hy_statements.proofs.plain_statements.read_discard.Goals as goal

pub returns-in_err-want-clause-reads : goal.returns-in_err-want-clause-reads
returns-in_err-want-clause-reads c =
    passes c.args.levels stmt_of (λ x. DiscardWord c.args.word x.before x.place) with_stmt _ _ c.from_residual.result _ c.from_residual.ensures.1
    (λ total x fits.
    let misses = c.in_err-want.ensures.token in
    refuses (starts fits) (no_discarded x.before x.place c.args.word _ misses.lacks) _ misses.stops)

pub returns-in_err-value-clause-reads : goal.returns-in_err-value-clause-reads
returns-in_err-value-clause-reads c =
    passes c.args.levels stmt_of (λ x. DiscardWord c.args.word x.before x.place) with_stmt _ _ c.from_residual-in_err-value.result _
    c.from_residual-in_err-value.ensures.1
    (λ total x fits.
    let read = c.in_err-value.ensures.reads total (ForDiscard c.args.word x.before x.place) in
    fails _ (over (starts fits) (to_discarded x.before x.place c.args.word c.in_ok-want.ensures.token)) read)

pub returns-clause-reads : goal.returns-clause-reads
returns-clause-reads c = λ total x fits.
    let read = c.in_ok-value.ensures.reads total (ForDiscard c.args.word x.before x.place) in
    reads_stmt x _ (turns (values (over (starts fits) (to_discarded x.before x.place c.args.word c.in_ok-want.ensures.token)) read)
    (discarded x.before x.place c.args.word (expr_of c.in_ok-value.value) _)) c.discard.ensures
