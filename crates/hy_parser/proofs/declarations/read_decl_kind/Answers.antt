use Rattle.std.proofs.Common.{ℕ, length, refl, sym, ap, ◌∙◌, arith}
use Rattle.hy_tree.specs.Denotes as D
use Rattle.hy_grammar.specs.Machine.{walk}
use Rattle.hy_tree.specs.declared.declaration.DeclKind.{DeclKind}
use Rattle.hy_phrases.specs.declared.stop.Stop.TheVariants as stop
use Rattle.hy_grammar.specs.DeclSteps.{opening}
use Rattle.hy_parser.specs.Headings.{DeclAt, decl_state}
use Rattle.hy_parser.specs.ReadsDeclarations.{read_decl_kind}
use Rattle.hy_grammar.specs.Stack.{InFile, PublicDecl, DeclRead, TypeWord, TraitWord, ConformanceWord}
use Rattle.hy_parser.proofs.DeclarationSteps.{decl_begins, no_decl_word}
use Rattle.hy_parser.proofs.Follows.{passed_counted, follows_counted}
use Rattle.hy_phrases.proofs.Walks.{stopped, from_there}
use Rattle.hy_parser.proofs.declarations.read_decl_kind.Goals as goal

pub returns-in_default-clause-reads : goal.returns-in_default-clause-reads
returns-in_default-clause-reads c = λ total x n le.
    let lacking = c.in_default.ensures.token in
    stopped c.stop.result c.args.tokens.now.rest.now _ (c.stop.ensures ∙ ap (λ l. stop.Unexpected (length l)) lacking.1)
    (no_decl_word total x.decls x.start c.args.tokens.now.rest.now lacking.0)

pub returns-in_err-read_function-in-Function-clause-reads : goal.returns-in_err-read_function-in-Function-clause-reads
returns-in_err-read_function-in-Function-clause-reads c = passed_counted 200 _ _ _ _ _ _ c.from_residual.ensures.1 (λ total x n le.
    from_there _ _ _ (decl_begins total x.decls x.start c.in-Some.word _ c.in-Some.span _ c.in-Some.ensures.token
    ∙ ap (λ w. walk total (decl_state w x.decls x.start c.in-Some.span) c.take_decl_word.new.tokens.rest.now) c.in-Function.is)
    (c.in_err-read_function-in-Function.ensures.reads total (record { home = InFile x.decls; start = x.start; is = refl }) le))

pub returns-in_ok-read_function-in-Function-clause-reads : goal.returns-in_ok-read_function-in-Function-clause-reads
returns-in_ok-read_function-in-Function-clause-reads c = λ total x n le.
    decl_begins total x.decls x.start c.in-Some.word _ c.in-Some.span _ c.in-Some.ensures.token
    ∙ ap (λ w. walk total (decl_state w x.decls x.start c.in-Some.span) c.take_decl_word.new.tokens.rest.now) c.in-Function.is
    ∙ c.in_ok-read_function-in-Function.ensures.reads total (record { home = InFile x.decls; start = x.start; is = refl }) le
    ∙ ap (λ (r : DeclKind × ℕ). walk total (DeclRead x.decls x.start (D.decl_kind_of r.0) r.1) c.read_function.new.tokens.rest.now) (sym c.called.ensures)

pub returns-in_err-read_subscript-in-Subscript-clause-reads : goal.returns-in_err-read_subscript-in-Subscript-clause-reads
returns-in_err-read_subscript-in-Subscript-clause-reads c =
    passed_counted 200 _ _ _ _ _ _ c.from_residual-in_err-read_subscript-in-Subscript.ensures.1 (λ total x n le.
    from_there _ _ _ (decl_begins total x.decls x.start c.in-Some.word _ c.in-Some.span _ c.in-Some.ensures.token
    ∙ ap (λ w. walk total (decl_state w x.decls x.start c.in-Some.span) c.take_decl_word.new.tokens.rest.now) c.in-Subscript.is)
    (c.in_err-read_subscript-in-Subscript.ensures.reads total (record { home = InFile x.decls; start = x.start; is = refl }) le))

pub returns-in_ok-read_subscript-in-Subscript-clause-reads : goal.returns-in_ok-read_subscript-in-Subscript-clause-reads
returns-in_ok-read_subscript-in-Subscript-clause-reads c = λ total x n le.
    decl_begins total x.decls x.start c.in-Some.word _ c.in-Some.span _ c.in-Some.ensures.token
    ∙ ap (λ w. walk total (decl_state w x.decls x.start c.in-Some.span) c.take_decl_word.new.tokens.rest.now) c.in-Subscript.is
    ∙ c.in_ok-read_subscript-in-Subscript.ensures.reads total (record { home = InFile x.decls; start = x.start; is = refl }) le
    ∙ ap (λ (r : DeclKind × ℕ). walk total (DeclRead x.decls x.start (D.decl_kind_of r.0) r.1) c.read_subscript.new.tokens.rest.now)
    (sym c.called-in-Subscript.ensures)

pub returns-in-Type-clause-reads : goal.returns-in-Type-clause-reads
returns-in-Type-clause-reads c =
    follows_counted 200 200 read_decl_kind (λ (x : DeclAt). PublicDecl x.decls x.start) (λ x. x) (λ x. TypeWord (opening x.decls x.start c.in-Some.span))
    (λ r x. DeclRead x.decls x.start r.0 r.1) _ _ _ _
    (λ total x n le. decl_begins total x.decls x.start c.in-Some.word _ c.in-Some.span _ c.in-Some.ensures.token
    ∙ ap (λ w. walk total (decl_state w x.decls x.start c.in-Some.span) c.take_decl_word.new.tokens.rest.now) c.in-Type.is)
    (λ total n. omega (arith, n)) (λ x le. le) c.read_product.ensures.reads

pub returns-in-Trait-clause-reads : goal.returns-in-Trait-clause-reads
returns-in-Trait-clause-reads c =
    follows_counted 200 200 read_decl_kind (λ (x : DeclAt). PublicDecl x.decls x.start) (λ x. x) (λ x. TraitWord (opening x.decls x.start c.in-Some.span))
    (λ r x. DeclRead x.decls x.start r.0 r.1) _ _ _ _
    (λ total x n le. decl_begins total x.decls x.start c.in-Some.word _ c.in-Some.span _ c.in-Some.ensures.token
    ∙ ap (λ w. walk total (decl_state w x.decls x.start c.in-Some.span) c.take_decl_word.new.tokens.rest.now) c.in-Trait.is)
    (λ total n. omega (arith, n)) (λ x le. le) c.read_trait.ensures.reads

pub returns-in-Conformance-clause-reads : goal.returns-in-Conformance-clause-reads
returns-in-Conformance-clause-reads c =
    follows_counted 200 200 read_decl_kind (λ (x : DeclAt). PublicDecl x.decls x.start) (λ x. x)
    (λ x. ConformanceWord (opening x.decls x.start c.in-Some.span)) (λ r x. DeclRead x.decls x.start r.0 r.1) _ _ _ _
    (λ total x n le. decl_begins total x.decls x.start c.in-Some.word _ c.in-Some.span _ c.in-Some.ensures.token
    ∙ ap (λ w. walk total (decl_state w x.decls x.start c.in-Some.span) c.take_decl_word.new.tokens.rest.now) c.in-Conformance.is)
    (λ total n. omega (arith, n)) (λ x le. le) c.read_conformance.ensures.reads
