use Rattle.std.proofs.Common.{refl, sym, ap, ◌∙◌, arith}
use Rattle.hy_grammar.specs.Machine.{walk}
use Rattle.hy_tree.specs.Tree as T
use Rattle.hy_grammar.specs.DeclSteps.{opening}
use Rattle.hy_grammar.specs.Stack.{ConformanceSubject, ListedOwner, DeclRead, ConformanceName}
use Rattle.hy_parser.proofs.Follows.{passed_counted}
use Rattle.hy_phrases.proofs.Walks.{fits, named, unnamed, wanted, missed, from_there}
use Rattle.hy_parser.proofs.DeclarationSteps.{conformance_names, conformance_colon}
use Rattle.hy_parser.proofs.declarations.read_conformance.Goals as goal

pub returns-in_err-name-clause-reads : goal.returns-in_err-name-clause-reads
returns-in_err-name-clause-reads c = passed_counted 200 _ _ _ _ _ _ c.from_residual.ensures.1 (λ total x n le.
    let o = opening x.decls x.start c.args.keyword in
    unnamed total (conformance_names o) _ _ c.in_err-name.ensures.token)

pub returns-in_err-want-clause-reads : goal.returns-in_err-want-clause-reads
returns-in_err-want-clause-reads c = passed_counted 200 _ _ _ _ _ _ c.from_residual-in_err-want.ensures.1 (λ total x n le.
    let o = opening x.decls x.start c.args.keyword in
    from_there _ _ _ (named total (conformance_names o) c.in_ok-name.ensures.token (fits 200 0 refl)
    ∙ ap (λ target. walk total (ConformanceName o target) c.name.new.self.rest.now) (sym c.name_use-target.ensures))
    (missed total (conformance_colon o c.name_use-target.result) c.in_err-want.ensures.token))

pub returns-in_err-traits-clause-reads : goal.returns-in_err-traits-clause-reads
returns-in_err-traits-clause-reads c = passed_counted 200 _ _ _ _ _ _ c.from_residual-in_err-traits.ensures.1 (λ total x n le.
    let o = opening x.decls x.start c.args.keyword in
    from_there _ _ _ (named total (conformance_names o) c.in_ok-name.ensures.token (fits 200 0 refl)
    ∙ ap (λ target. walk total (ConformanceName o target) c.name.new.self.rest.now) (sym c.name_use-target.ensures)
    ∙ wanted total (conformance_colon o c.name_use-target.result) c.in_ok-want.ensures.token (fits 200 0 refl))
    (c.in_err-traits.ensures.reads total (record { opening = o; subject = ConformanceSubject c.name_use-target.result }) refl))

pub returns-in_err-members-clause-reads : goal.returns-in_err-members-clause-reads
returns-in_err-members-clause-reads c = passed_counted 200 _ _ _ _ _ _ c.from_residual-in_err-members.ensures.1 (λ total x n le.
    let o = opening x.decls x.start c.args.keyword in
    from_there _ _ _ (named total (conformance_names o) c.in_ok-name.ensures.token (fits 200 0 refl)
    ∙ ap (λ target. walk total (ConformanceName o target) c.name.new.self.rest.now) (sym c.name_use-target.ensures)
    ∙ wanted total (conformance_colon o c.name_use-target.result) c.in_ok-want.ensures.token (fits 200 0 refl)
    ∙ c.in_ok-traits.ensures.reads total (record { opening = o; subject = ConformanceSubject c.name_use-target.result }) refl)
    (c.in_err-members.ensures.reads total (record {
      owner = ListedOwner o (ConformanceSubject c.name_use-target.result) c.in_ok-traits.traits;
      is =
          refl;
    }) (omega (arith, n)) refl))

pub returns-clause-reads : goal.returns-clause-reads
returns-clause-reads c = λ total x n le.
    let o = opening x.decls x.start c.args.keyword in
    named total (conformance_names o) c.in_ok-name.ensures.token (fits 200 0 refl)
    ∙ ap (λ target. walk total (ConformanceName o target) c.name.new.self.rest.now) (sym c.name_use-target.ensures)
    ∙ wanted total (conformance_colon o c.name_use-target.result) c.in_ok-want.ensures.token (fits 200 0 refl)
    ∙ c.in_ok-traits.ensures.reads total (record { opening = o; subject = ConformanceSubject c.name_use-target.result }) refl
    ∙ c.in_ok-members.ensures.reads total (record {
      owner = ListedOwner o (ConformanceSubject c.name_use-target.result) c.in_ok-traits.traits;
      is =
          refl;
    }) (omega (arith, n)) refl
    ∙ ap (λ made. walk total (DeclRead x.decls x.start (T.DeclConform made) c.in_ok-members.close.to) c.read_members.new.tokens.rest.now)
    (sym c.conformance-made.ensures)
