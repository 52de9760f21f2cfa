use Rattle.std.proofs.Common.{sym}
use Rattle.hy_tree.specs.Denotes.{expr_of, stmt_of}
use Rattle.hy_statements.specs.ReadsStatements.{with_stmt}
use Rattle.hy_phrases.proofs.Walks.{passes}
use Rattle.hy_grammar.specs.Stack.{ForReturn, ReturnWord}
use Rattle.hy_statements.proofs.StatementSteps.{returned, returned_nothing, to_returned}
use Rattle.hy_statements.proofs.StatementWalks.{starts, turns, values, reads_stmt, fails}
use Rattle.hy_statements.proofs.plain_statements.read_return.Goals as goal

pub returns-then-ends_here-clause-reads : goal.returns-then-ends_here-clause-reads
returns-then-ends_here-clause-reads c = λ total x fits.
    reads_stmt x _ (turns (starts fits) (returned_nothing x.before x.place c.args.word _ (sym c.if-ends_here.ensures))) c.return_nothing.ensures

pub returns-in_err-value-clause-reads : goal.returns-in_err-value-clause-reads
returns-in_err-value-clause-reads c =
    passes c.args.levels stmt_of (λ x. ReturnWord c.args.word x.before x.place) with_stmt _ _ c.from_residual.result _ c.from_residual.ensures.1
    (λ total x fits.
    let read = c.in_err-value.ensures.reads total (ForReturn c.args.word x.before x.place) in
    fails _ (turns (starts fits) (to_returned x.before x.place c.args.word _ (sym c.if-ends_here.ensures))) read)

pub returns-clause-reads : goal.returns-clause-reads
returns-clause-reads c = λ total x fits.
    let read = c.in_ok-value.ensures.reads total (ForReturn c.args.word x.before x.place) in
    reads_stmt x _ (turns (values (turns (starts fits) (to_returned x.before x.place c.args.word _ (sym c.if-ends_here.ensures))) read)
    (returned x.before x.place c.args.word (expr_of c.in_ok-value.value) _)) c.return_value.ensures
