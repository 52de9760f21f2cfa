use Rattle.std.proofs.Common.{refl, ap, ◌∙◌}
use Rattle.hy_tree.specs.Denotes as D
use Rattle.hy_grammar.specs.Machine.{walk}
use Rattle.hy_tree.specs.Tree as T
use Rattle.hy_grammar.specs.Stack.{ForField, MemberRead}
use Rattle.hy_parser.proofs.Follows.{passed}
use Rattle.hy_parser.proofs.MemberSteps.{field_names, field_colon}
use Rattle.hy_phrases.proofs.Walks.{fits, named, unnamed, wanted, missed, from_there}
use Rattle.hy_phrases.proofs.Widened.{type_at}
use Rattle.hy_parser.proofs.members.read_field.Goals as goal

pub returns-in_err-name-clause-reads : goal.returns-in_err-name-clause-reads
returns-in_err-name-clause-reads c =
    passed 199 _ _ _ _ _ _ c.from_residual.ensures.1 (λ total x le. unnamed total (field_names x.owner x.members x.start) _ _ c.in_err-name.ensures.token)

pub returns-in_err-want-clause-reads : goal.returns-in_err-want-clause-reads
returns-in_err-want-clause-reads c = passed 199 _ _ _ _ _ _ c.from_residual-in_err-want.ensures.1 (λ total x le.
    from_there _ _ _ (named total (field_names x.owner x.members x.start) c.in_ok-name.ensures.token (fits 199 1 refl))
    (missed total (field_colon x.owner x.members x.start c.in_ok-name.name) c.in_err-want.ensures.token))

pub returns-in_err-written-clause-reads : goal.returns-in_err-written-clause-reads
returns-in_err-written-clause-reads c = passed 199 _ _ _ _ _ _ c.from_residual-in_err-written.ensures.1 (λ total x le.
    from_there _ _ _ (named total (field_names x.owner x.members x.start) c.in_ok-name.ensures.token (fits 199 1 refl)
    ∙ wanted total (field_colon x.owner x.members x.start c.in_ok-name.name) c.in_ok-want.ensures.token (fits 199 1 refl))
    (c.in_err-written.ensures.reads total (ForField x.owner x.members x.start c.in_ok-name.name) le))

pub returns-clause-reads : goal.returns-clause-reads
returns-clause-reads c = λ total x le.
    let name = c.in_ok-name.name in
    let written = c.in_ok-written.written in
    named total (field_names x.owner x.members x.start) c.in_ok-name.ensures.token (fits 199 1 refl)
    ∙ wanted total (field_colon x.owner x.members x.start name) c.in_ok-want.ensures.token (fits 199 1 refl)
    ∙ c.in_ok-written.ensures.reads total (ForField x.owner x.members x.start name) le
    ∙ ap (λ at. walk total (MemberRead x.owner x.members x.start (T.Field name (D.type_of written)) at.span.to) c.read_type.new.tokens.rest.now)
    (type_at written)
