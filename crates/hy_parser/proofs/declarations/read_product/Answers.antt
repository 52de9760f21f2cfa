use Rattle.std.proofs.Common.{refl, sym, ap, ◌∙◌, arith}
use Rattle.hy_grammar.specs.Machine.{walk}
use Rattle.hy_tree.specs.Tree as T
use Rattle.hy_grammar.specs.DeclSteps.{opening}
use Rattle.hy_grammar.specs.Stack.{TypeSubject, ListedOwner, DeclRead}
use Rattle.hy_parser.proofs.Follows.{passed_counted}
use Rattle.hy_phrases.proofs.Walks.{fits, named, unnamed, from_there}
use Rattle.hy_parser.proofs.DeclarationSteps.{type_names}
use Rattle.hy_parser.proofs.declarations.read_product.Goals as goal

pub returns-in_err-name-clause-reads : goal.returns-in_err-name-clause-reads
returns-in_err-name-clause-reads c = passed_counted 200 _ _ _ _ _ _ c.from_residual.ensures.1 (λ total x n le.
    let o = opening x.decls x.start c.args.keyword in
    unnamed total (type_names o) _ _ c.in_err-name.ensures.token)

pub returns-in_err-traits-clause-reads : goal.returns-in_err-traits-clause-reads
returns-in_err-traits-clause-reads c = passed_counted 200 _ _ _ _ _ _ c.from_residual-in_err-traits.ensures.1 (λ total x n le.
    let o = opening x.decls x.start c.args.keyword in
    from_there _ _ _ (named total (type_names o) c.in_ok-name.ensures.token (fits 200 0 refl))
    (c.in_err-traits.ensures.reads total (record { opening = o; name = c.in_ok-name.name }) refl))

pub returns-in_err-members-clause-reads : goal.returns-in_err-members-clause-reads
returns-in_err-members-clause-reads c = passed_counted 200 _ _ _ _ _ _ c.from_residual-in_err-members.ensures.1 (λ total x n le.
    let o = opening x.decls x.start c.args.keyword in
    from_there _ _ _ (named total (type_names o) c.in_ok-name.ensures.token (fits 200 0 refl)
    ∙ c.in_ok-traits.ensures.reads total (record { opening = o; name = c.in_ok-name.name }) refl)
    (c.in_err-members.ensures.reads total (record { owner = ListedOwner o (TypeSubject c.in_ok-name.name) c.in_ok-traits.traits; is = refl })
    (omega (arith, n)) refl))

pub returns-clause-reads : goal.returns-clause-reads
returns-clause-reads c = λ total x n le.
    let o = opening x.decls x.start c.args.keyword in
    named total (type_names o) c.in_ok-name.ensures.token (fits 200 0 refl)
    ∙ c.in_ok-traits.ensures.reads total (record { opening = o; name = c.in_ok-name.name }) refl
    ∙ c.in_ok-members.ensures.reads total (record { owner = ListedOwner o (TypeSubject c.in_ok-name.name) c.in_ok-traits.traits; is = refl })
    (omega (arith, n)) refl
    ∙ ap (λ made. walk total (DeclRead x.decls x.start (T.DeclProduct made) c.in_ok-members.close.to) c.read_members.new.tokens.rest.now)
    (sym c.product-made.ensures)
