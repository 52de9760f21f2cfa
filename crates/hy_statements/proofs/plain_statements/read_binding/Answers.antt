use Rattle.std.proofs.Common.{None, refl, subst, sym}
use Rattle.hy_tree.specs.Denotes.{expr_of, stmt_of}
use Rattle.hy_statements.specs.ReadsStatements.{with_stmt}
use Rattle.hy_phrases.proofs.Walks.{passes}
use Rattle.hy_lexer.specs.declared.token.TokenKind.TheVariants as k
use Rattle.hy_phrases.specs.Wanted.{Sees}
use Rattle.hy_grammar.specs.Stack.{ForVariable, ForBinding, TypeWanted, BindingWord}
use Rattle.hy_statements.proofs.StatementSteps.{to_name, no_name, to_colon, to_value, no_value, bound}
use Rattle.hy_statements.proofs.StatementWalks.{starts, over, turns, stays, values, reads_stmt, fails, refuses, unnamed, goes_on}
use Rattle.hy_statements.proofs.plain_statements.read_binding.Goals as goal

pub returns-in_err-name-clause-reads : goal.returns-in_err-name-clause-reads
returns-in_err-name-clause-reads c =
    passes c.args.levels stmt_of (λ x. BindingWord c.args.introducer c.args.word x.before x.place) with_stmt _ _ c.from_residual.result _
    c.from_residual.ensures.1
    (λ total x fits. unnamed _ (starts fits) (no_name x.before x.place c.args.introducer c.args.word _) c.in_err-name.ensures.token)

pub returns-in-Some-clause-reads : goal.returns-in-Some-clause-reads
returns-in-Some-clause-reads c = goes_on c.args.levels stmt_of (λ x. BindingWord c.args.introducer c.args.word x.before x.place) with_stmt
    (λ x. TypeWanted (ForVariable c.args.introducer c.args.word c.in_ok-name.name x.before x.place)) with_stmt (λ x. x) _ _ _ c.read_typed_binding.result
    (λ total x fits. over (over (starts fits) (to_name x.before x.place c.args.introducer c.args.word c.in_ok-name.ensures.token))
    (to_colon x.before x.place c.args.introducer c.args.word c.in_ok-name.name c.in-Some.ensures.token))
    (λ stmt x. refl) c.read_typed_binding.ensures.reads

pub returns-in_err-want-clause-reads : goal.returns-in_err-want-clause-reads
returns-in_err-want-clause-reads c =
    passes c.args.levels stmt_of (λ x. BindingWord c.args.introducer c.args.word x.before x.place) with_stmt _ _ c.from_residual-in_err-want.result _
    c.from_residual-in_err-want.ensures.1
    (λ total x fits.
    let lacks = c.in_default.ensures.token in
    let misses = c.in_err-want.ensures.token in
    refuses (stays (over (starts fits) (to_name x.before x.place c.args.introducer c.args.word c.in_ok-name.ensures.token)) lacks.1)
    (no_value x.before x.place c.args.introducer c.args.word c.in_ok-name.name _ (subst (λ l. Sees k.Colon l → ⊥) (sym lacks.1) lacks.0) misses.lacks) _
    misses.stops)

pub returns-in_err-value-clause-reads : goal.returns-in_err-value-clause-reads
returns-in_err-value-clause-reads c =
    passes c.args.levels stmt_of (λ x. BindingWord c.args.introducer c.args.word x.before x.place) with_stmt _ _ c.from_residual-in_err-value.result _
    c.from_residual-in_err-value.ensures.1
    (λ total x fits.
    let read = c.in_err-value.ensures.reads total (ForBinding c.args.introducer c.args.word c.in_ok-name.name None x.before x.place) in
    fails _ (over (stays (over (starts fits) (to_name x.before x.place c.args.introducer c.args.word c.in_ok-name.ensures.token))
    c.in_default.ensures.token.1) (to_value x.before x.place c.args.introducer c.args.word c.in_ok-name.name c.in_ok-want.ensures.token)) read)

pub returns-clause-reads : goal.returns-clause-reads
returns-clause-reads c = λ total x fits.
    let read = c.in_ok-value.ensures.reads total (ForBinding c.args.introducer c.args.word c.in_ok-name.name None x.before x.place) in
    reads_stmt x _
    (turns (values
    (over (stays (over (starts fits) (to_name x.before x.place c.args.introducer c.args.word c.in_ok-name.ensures.token)) c.in_default.ensures.token.1)
    (to_value x.before x.place c.args.introducer c.args.word c.in_ok-name.name c.in_ok-want.ensures.token)) read)
    (bound x.before x.place c.args.introducer c.args.word c.in_ok-name.name None (expr_of c.in_ok-value.value) _)) c.binding.ensures
