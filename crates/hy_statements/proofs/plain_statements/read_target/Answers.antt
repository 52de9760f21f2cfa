use Rattle.std.proofs.Common.{subst, ◌∙◌}
use Rattle.hy_tree.specs.Denotes.{expr_of, stmt_of}
use Rattle.hy_statements.specs.ReadsStatements.{with_stmt}
use Rattle.hy_grammar.specs.OperandSteps.{beginning}
use Rattle.hy_phrases.proofs.Walks.{passes}
use Rattle.hy_statements.specs.StatementWords.{LacksCompound}
use Rattle.hy_grammar.specs.Stack.{ForTarget, ForAssigned, ForCompound, Operand}
use Rattle.hy_statements.proofs.StatementSteps.{to_assigned, assigned, to_compound, compounded, evaluated}
use Rattle.hy_statements.proofs.StatementWalks.{starts, over, turns, stays, values, reads_stmt, fails}
use Rattle.hy_statements.proofs.plain_statements.read_target.Goals as goal

pub returns-in_err-value-clause-reads : goal.returns-in_err-value-clause-reads
returns-in_err-value-clause-reads c =
    passes c.args.levels stmt_of (λ x. Operand (beginning (ForTarget x.before x.place))) with_stmt _ _ c.from_residual-in_err-value.result _
    c.from_residual-in_err-value.ensures.1
    (λ total x fits.
    let target = c.in_ok-target.ensures.reads total (ForTarget x.before x.place) in
    let read = c.in_err-value.ensures.reads total (ForAssigned (expr_of c.in_ok-target.target) x.before x.place) in
    fails _ (over (values (starts fits) target) (to_assigned x.before x.place (expr_of c.in_ok-target.target) c.in-Some.ensures.token)) read)

pub returns-in-Some-clause-reads : goal.returns-in-Some-clause-reads
returns-in-Some-clause-reads c = λ total x fits.
    let target = c.in_ok-target.ensures.reads total (ForTarget x.before x.place) in
    let read = c.in_ok-value.ensures.reads total (ForAssigned (expr_of c.in_ok-target.target) x.before x.place) in
    reads_stmt x _
    (turns (values (over (values (starts fits) target) (to_assigned x.before x.place (expr_of c.in_ok-target.target) c.in-Some.ensures.token)) read)
    (assigned x.before x.place (expr_of c.in_ok-target.target) (expr_of c.in_ok-value.value) _)) c.assign.ensures

pub returns-in_err-value-2-clause-reads : goal.returns-in_err-value-2-clause-reads
returns-in_err-value-2-clause-reads c =
    passes c.args.levels stmt_of (λ x. Operand (beginning (ForTarget x.before x.place))) with_stmt _ _ c.from_residual-in_err-value-2.result _
    c.from_residual-in_err-value-2.ensures.1
    (λ total x fits.
    let target = c.in_ok-target.ensures.reads total (ForTarget x.before x.place) in
    let read = c.in_err-value-2.ensures.reads total (ForCompound (expr_of c.in_ok-target.target) c.in-Some-take_compound.operator x.before x.place) in
    fails _ (over (stays (values (starts fits) target) c.in_default.ensures.token.1)
    (to_compound x.before x.place (expr_of c.in_ok-target.target) c.in-Some-take_compound.ensures.token)) read)

pub returns-in-Some-take_compound-clause-reads : goal.returns-in-Some-take_compound-clause-reads
returns-in-Some-take_compound-clause-reads c = λ total x fits.
    let target = c.in_ok-target.ensures.reads total (ForTarget x.before x.place) in
    let read = c.in_ok-value-2.ensures.reads total (ForCompound (expr_of c.in_ok-target.target) c.in-Some-take_compound.operator x.before x.place) in
    reads_stmt x _
    (turns (values (over (stays (values (starts fits) target) c.in_default.ensures.token.1)
    (to_compound x.before x.place (expr_of c.in_ok-target.target) c.in-Some-take_compound.ensures.token)) read)
    (compounded x.before x.place (expr_of c.in_ok-target.target) c.in-Some-take_compound.operator (expr_of c.in_ok-value-2.value) _)) c.compound.ensures

pub returns-clause-reads : goal.returns-clause-reads
returns-clause-reads c = λ total x fits.
    let target = c.in_ok-target.ensures.reads total (ForTarget x.before x.place) in
    let no_equal = c.in_default.ensures.token in
    let no_operator = c.in_default-take_compound.ensures.token in
    reads_stmt x _
    (stays (turns (values (starts fits) target) (evaluated x.before x.place (expr_of c.in_ok-target.target) _ no_equal.0
    (subst LacksCompound no_equal.1 no_operator.0))) (no_operator.1 ∙ no_equal.1)) c.evaluate.ensures
