use Rattle.std.proofs.Common.{[], sym, ap, ◌∙◌}
use Rattle.hy_lexer.specs.declared.token.TokenKind.TheVariants as k
use Rattle.hy_grammar.specs.DeclSteps.{with_generic}
use Rattle.hy_parser.specs.Headings.{generic_done}
use Rattle.hy_grammar.specs.Machine.{walk}
use Rattle.hy_parser.specs.ReadsDeclarations.{generic_behind}
use Rattle.hy_grammar.specs.Stack.{GenericWanted, GenericName, BoundWanted}
use Rattle.hy_parser.proofs.Follows.{passed, follows, still}
use Rattle.hy_parser.proofs.HeadingSteps.{generic_wants, generic_name_separates, colon_of_generic, generic_ended}
use Rattle.hy_parser.proofs.Separators.{on_neither}
use Rattle.hy_phrases.proofs.Walks.{fits, over, named, unnamed, from_there}
use Rattle.hy_parser.proofs.generics.read_generic.Goals as goal

pub returns-in_err-name-clause-reads : goal.returns-in_err-name-clause-reads
returns-in_err-name-clause-reads c =
    λ levels. passed levels _ _ _ _ _ _ c.from_residual.ensures.1 (λ total x le. unnamed total (generic_wants x) _ _ c.in_err-name.ensures.token)

pub returns-in-Some-clause-reads : goal.returns-in-Some-clause-reads
returns-in-Some-clause-reads c = λ levels.
    let name = c.in_ok-name.name in
    let t = c.in-Some.ensures.token in
    follows levels levels (λ r. r) GenericWanted (λ x. x) (λ head. BoundWanted head name []) generic_behind _ _ _ _
    (λ total x le. named total (generic_wants x) c.in_ok-name.ensures.token (fits levels _ le)
    ∙ over total (GenericName x name) (BoundWanted x name []) t.token _ _ t.front (λ place. colon_of_generic x name t.token place t.is)
    (fits levels _ le))
    (λ x le. le) (c.read_bounds.ensures.reads levels)

pub returns-in_err-more-clause-reads : goal.returns-in_err-more-clause-reads
returns-in_err-more-clause-reads c = λ levels. passed levels _ _ _ _ _ _ c.from_residual-in_err-more.ensures.1 (λ total x le.
    let name = c.in_ok-name.name in
    let lacking = c.in_default.ensures.token in
    let h = c.in_err-more.ensures.token in
    from_there _ _ _ (named total (generic_wants x) c.in_ok-name.ensures.token (fits levels _ le) ∙ ap (walk total (GenericName x name)) (sym lacking.1))
    (on_neither total (generic_name_separates x name) (still k.Colon _ _ lacking.0 lacking.1) h.0 h.1))

pub returns-clause-reads : goal.returns-clause-reads
returns-clause-reads c = λ levels total x le.
    let name = c.in_ok-name.name in
    let lacking = c.in_default.ensures.token in
    named total (generic_wants x) c.in_ok-name.ensures.token (fits levels _ le)
    ∙ ap (walk total (GenericName x name)) (sym lacking.1)
    ∙ generic_ended total (generic_name_separates x name) _ _ c.in_ok-more.more c.in_ok-more.ensures.token (fits levels _ le)
    ∙ ap (λ bounds. walk total (generic_done c.in_ok-more.more (with_generic x name bounds)) c.goes_on.new.tokens.rest.now) (sym c.new-bounds.ensures)
