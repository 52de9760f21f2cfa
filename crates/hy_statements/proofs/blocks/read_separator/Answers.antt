use Rattle.std.proofs.Common.{length, ap, sym, subst, ◌∙◌}
use Rattle.hy_lexer.specs.declared.token.TokenKind.TheVariants as k
use Rattle.hy_statements.specs.StatementWords.{begins_line}
use Rattle.hy_phrases.specs.Wanted.{Sees}
use Rattle.hy_phrases.specs.declared.stop.Stop.TheVariants as stop
use Rattle.hy_statements.proofs.BlockSteps.{closes}
use Rattle.hy_statements.proofs.StatementSteps.{to_semicolon, on_next_line, on_same_line}
use Rattle.hy_statements.proofs.StatementWalks.{starts, over, turns, stays, refuses}
use Rattle.hy_statements.proofs.blocks.read_separator.Goals as goal

pub returns-in-Some-clause-reads : goal.returns-in-Some-clause-reads
returns-in-Some-clause-reads c = λ levels total x fits. closes x.place x.before (starts fits) c.in-Some.ensures.token

pub returns-in-Some-take-clause-reads : goal.returns-in-Some-take-clause-reads
returns-in-Some-take-clause-reads c = λ levels total x fits.
    let g = over (stays (starts fits) c.in_default.ensures.token.1) (to_semicolon x.before x.place c.in-Some-take.ensures.token) in g.same

pub returns-then-not-begins_line-clause-reads : goal.returns-then-not-begins_line-clause-reads
returns-then-not-begins_line-clause-reads c = λ levels total x fits.
    let brace = c.in_default.ensures.token in
    let semicolon = c.in_default-take.ensures.token in
    let rest = semicolon.1 ∙ brace.1 in
    refuses (starts fits)
    (on_same_line x.before x.place _ (subst (λ l. Sees k.Semicolon l → ⊥) brace.1 semicolon.0) brace.0 (ap begins_line (sym rest)
    ∙ sym c.if-not-begins_line.ensures))
    _ (c.stop.ensures ∙ ap (λ l. stop.Unexpected (length l)) rest)

pub returns-clause-reads : goal.returns-clause-reads
returns-clause-reads c = λ levels total x fits.
    let brace = c.in_default.ensures.token in
    let semicolon = c.in_default-take.ensures.token in
    let rest = semicolon.1 ∙ brace.1 in
    let g = stays
    (turns (starts fits) (on_next_line x.before x.place _ (subst (λ l. Sees k.Semicolon l → ⊥) brace.1 semicolon.0) brace.0 (ap begins_line (sym rest)
    ∙ sym c.if-not-begins_line.ensures))) rest in
    g.same
