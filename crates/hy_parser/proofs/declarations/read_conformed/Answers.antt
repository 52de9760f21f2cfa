use Rattle.std.proofs.Common.{List, [], refl, sym, ap, ◌∙◌}
use Rattle.hy_grammar.specs.Machine.{walk}
use Rattle.hy_lexer.specs.declared.token.TokenKind.TheVariants as k
use Rattle.hy_tree.specs.declared.name.NameUse.{NameUse}
use Rattle.hy_parser.specs.Headings.{TypeNamed, Listing}
use Rattle.hy_grammar.specs.Stack.{TypeSubject, ListedOwner, TypeName, TraitWanted, MembersReady}
use Rattle.hy_parser.proofs.DeclarationSteps.{type_colon, type_opens, type_stops}
use Rattle.hy_parser.proofs.Follows.{passed, follows, still}
use Rattle.hy_phrases.proofs.Walks.{fits, taken, from_there}
use Rattle.hy_parser.proofs.declarations.read_conformed.Goals as goal

pub returns-in-Some-clause-reads : goal.returns-in-Some-clause-reads
returns-in-Some-clause-reads c =
    let f : TypeNamed → Listing = λ x. record { opening = x.opening; subject = TypeSubject x.name } in
    follows 200 200 (λ (traits : List NameUse). traits) (λ (x : TypeNamed). TypeName x.opening x.name) f (λ y. TraitWanted y.opening y.subject [])
    (λ traits y. MembersReady (ListedOwner y.opening y.subject traits) []) _ _ _ _
    (λ total x le. taken total (type_colon x.opening x.name) c.in-Some.ensures.token (fits 200 0 refl)) (λ x le. le) c.read_traits.ensures.reads

pub returns-in_err-want-clause-reads : goal.returns-in_err-want-clause-reads
returns-in_err-want-clause-reads c = passed 200 _ _ _ _ _ _ c.from_residual.ensures.1 (λ total x le.
    let lacking = c.in_default.ensures.token in
    from_there _ _ _ (ap (walk total (TypeName x.opening x.name)) (sym lacking.1))
    (type_stops total x.opening x.name _ _ (still k.Colon _ _ lacking.0 lacking.1) c.in_err-want.ensures.token))

pub returns-clause-reads : goal.returns-clause-reads
returns-clause-reads c = λ total x le.
    let lacking = c.in_default.ensures.token in
    ap (walk total (TypeName x.opening x.name)) (sym lacking.1) ∙ taken total (type_opens x.opening x.name) c.in_ok-want.ensures.token (fits 199 1 refl)
    ∙ ap (λ traits. walk total (MembersReady (ListedOwner x.opening (TypeSubject x.name) traits) []) c.want.new.self.rest.now) (sym c.new.ensures)
