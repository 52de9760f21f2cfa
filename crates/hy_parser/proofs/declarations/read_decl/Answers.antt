use Rattle.std.proofs.Common.{◌≤◌, ◌-◌, [], ◌∷◌, ◌++◌, length, sym, ap, ◌∙◌, arith}
use Rattle.hy_tree.specs.Denotes as D
use Rattle.hy_grammar.specs.Machine.{walk}
use Rattle.hy_grammar.specs.DeclSteps.{begins_at}
use Rattle.hy_grammar.specs.Nodes as node
use Rattle.hy_grammar.specs.Stack.{FileDone}
use Rattle.hy_parser.proofs.DeclarationSteps.{file_begins, decl_counted}
use Rattle.hy_parser.proofs.Follows.{passed_counted}
use Rattle.hy_phrases.proofs.Walks.{from_there}
use Rattle.hy_parser.proofs.declarations.read_decl.Goals as goal

pub returns-in_err-kind-clause-reads : goal.returns-in_err-kind-clause-reads
returns-in_err-kind-clause-reads c = passed_counted 200 _ _ _ _ _ _ c.from_residual.ensures.1 (λ total x n le.
    let public = c.take_public-public.result in
    let old = c.args.tokens.now.rest.now in
    let first = c.args.first.now in
    from_there _ _ _ (file_begins public total x.decls x.to old first _ c.requires c.take_public-public.ensures.token)
    (c.in_err-kind.ensures.reads total (record { decls = x.decls; start = begins_at public first (total - length old) }) (omega (arith, n)) le))

pub returns-clause-reads : goal.returns-clause-reads
returns-clause-reads c = λ total x n le.
    let public = c.take_public-public.result in
    let old = c.args.tokens.now.rest.now in
    let first = c.args.first.now in
    let kind = D.decl_kind_of c.in_ok-kind.kind in
    let to = c.in_ok-kind.to in
    let new = c.read_decl_kind.new.tokens.rest.now in
    let made = sym (c.decl.ensures.made ∙ ap (λ k. node.decl public kind k first.span.from to) c.in_ok-count.ensures.count) in
    let ends = sym c.decl.ensures.ends in
    let within : length new ≤ length old = omega arith in
    file_begins public total x.decls x.to old first _ c.requires c.take_public-public.ensures.token
    ∙ c.in_ok-kind.ensures.reads total (record { decls = x.decls; start = begins_at public first (total - length old) }) (omega (arith, n)) le
    ∙ decl_counted total x.decls public first kind to old new n within
    ∙ (λ i. walk total (FileDone (x.decls ++ made i ∷ []) (ends i)) new)
