use Rattle.std.proofs.Common.{Some, length, refl, ap, ◌∙◌}
use Rattle.hy_tree.specs.Denotes.{type_of, expr_of, stmt_of}
use Rattle.hy_statements.specs.ReadsStatements.{with_stmt}
use Rattle.hy_phrases.proofs.Walks.{passes}
use Rattle.hy_phrases.specs.declared.stop.Stop.TheVariants as stop
use Rattle.hy_grammar.specs.Stack.{ForVariable, ForBinding, TypeWanted}
use Rattle.hy_statements.proofs.StatementSteps.{to_typed_value, bound, declared, not_declared}
use Rattle.hy_statements.proofs.StatementWalks.{starts, over, turns, stays, reads, values, reads_stmt, fails, refuses}
use Rattle.hy_statements.proofs.plain_statements.read_typed_binding.Goals as goal

pub returns-in_err-value-clause-reads : goal.returns-in_err-value-clause-reads
returns-in_err-value-clause-reads c =
    passes c.args.levels stmt_of (λ x. TypeWanted (ForVariable c.args.introducer c.args.word c.args.name x.before x.place)) with_stmt _ _
    c.from_residual-in_err-value.result _ c.from_residual-in_err-value.ensures.1
    (λ total x fits.
    let written = c.in_ok-written.ensures.reads total (ForVariable c.args.introducer c.args.word c.args.name x.before x.place) in
    let read = c.in_err-value.ensures.reads total (ForBinding c.args.introducer c.args.word c.args.name (Some (type_of c.in_ok-written.written)) x.before
    x.place) in
    fails _ (over (reads (starts fits) written refl) (to_typed_value x.before x.place c.args.introducer c.args.word c.args.name c.in-Some.ensures.token)) read)

pub returns-in-Some-clause-reads : goal.returns-in-Some-clause-reads
returns-in-Some-clause-reads c = λ total x fits.
    let written = c.in_ok-written.ensures.reads total (ForVariable c.args.introducer c.args.word c.args.name x.before x.place) in
    let read = c.in_ok-value.ensures.reads total (ForBinding c.args.introducer c.args.word c.args.name (Some (type_of c.in_ok-written.written)) x.before
    x.place) in
    reads_stmt x _
    (turns (values
    (over (reads (starts fits) written refl) (to_typed_value x.before x.place c.args.introducer c.args.word c.args.name c.in-Some.ensures.token)) read)
    (bound x.before x.place c.args.introducer c.args.word c.args.name (Some (type_of c.in_ok-written.written)) (expr_of c.in_ok-value.value) _))
    c.binding.ensures

pub returns-in-Var-clause-reads : goal.returns-in-Var-clause-reads
returns-in-Var-clause-reads c = λ total x fits.
    let written = c.in_ok-written.ensures.reads total (ForVariable c.args.introducer c.args.word c.args.name x.before x.place) in
    let lacks = c.in_default.ensures.token in
    reads_stmt x _
    (stays (turns (reads (starts fits) written refl) (declared x.before x.place c.args.word c.args.name (type_of c.in_ok-written.written) _ lacks.0
    c.args.introducer c.in-Var.is)) lacks.1) c.declare.ensures

pub returns-in_default-introducer-clause-reads : goal.returns-in_default-introducer-clause-reads
returns-in_default-introducer-clause-reads c = λ total x fits.
    let written = c.in_ok-written.ensures.reads total (ForVariable c.args.introducer c.args.word c.args.name x.before x.place) in
    let lacks = c.in_default.ensures.token in
    refuses (reads (starts fits) written refl) (not_declared x.before x.place c.args.word c.args.name (type_of c.in_ok-written.written) _ lacks.0
    c.args.introducer c.in_default-introducer.not-Var) _ (c.stop.ensures ∙ ap (λ l. stop.Unexpected (length l)) lacks.1)
