use Rattle.std.proofs.Common.{Some, sym, ap, ◌∙◌, arith}
use Rattle.hy_grammar.specs.Machine.{walk}
use Rattle.hy_parser.specs.Headings.{variant_word}
use Rattle.hy_grammar.specs.Stack.{BodyWanted, VariantBody}
use Rattle.hy_parser.proofs.Follows.{passed}
use Rattle.hy_parser.proofs.VariantSteps.{level_word, set_wants, set_names, set_closes}
use Rattle.hy_phrases.proofs.Walks.{wanted, missed, unopened, named, unnamed, from_there}
use Rattle.hy_parser.proofs.bodies.read_value_name.Goals as goal

pub returns-in_err-open-in-Set-clause-reads : goal.returns-in_err-open-in-Set-clause-reads
returns-in_err-open-in-Set-clause-reads c = passed c.args.levels _ _ _ _ _ _ c.from_residual.ensures.1 (λ total x le.
    let h = level_word c.args.levels c.args.mode x.head x.brace x.variants c.args.keyword le in
    from_there _ _ _ (ap (λ m. walk total (variant_word m x.head x.brace x.variants c.args.keyword) c.args.tokens.now.rest.now) c.in-Set.is)
    (unopened total (set_wants x.head x.brace x.variants c.args.keyword) _ _ _ c.in_err-open-in-Set.ensures.token (λ span none. omega (arith, h, none))))

pub returns-in_err-name-in-Set-clause-reads : goal.returns-in_err-name-in-Set-clause-reads
returns-in_err-name-in-Set-clause-reads c = passed c.args.levels _ _ _ _ _ _ c.from_residual-in_err-name-in-Set.ensures.1 (λ total x le.
    let h = level_word c.args.levels c.args.mode x.head x.brace x.variants c.args.keyword le in
    let opened = c.in_ok-open-in-Set.ensures.token in
    let inner = opened.1 in
    from_there _ _ _ (ap (λ m. walk total (variant_word m x.head x.brace x.variants c.args.keyword) c.args.tokens.now.rest.now) c.in-Set.is
    ∙ wanted total (set_wants x.head x.brace x.variants c.args.keyword) opened.0 (omega (arith, h, inner)))
    (unnamed total (set_names x.head x.brace x.variants c.args.keyword) _ _ c.in_err-name-in-Set.ensures.token))

pub returns-in_err-want-in-Set-clause-reads : goal.returns-in_err-want-in-Set-clause-reads
returns-in_err-want-in-Set-clause-reads c = passed c.args.levels _ _ _ _ _ _ c.from_residual-in_err-want-in-Set.ensures.1 (λ total x le.
    let h = level_word c.args.levels c.args.mode x.head x.brace x.variants c.args.keyword le in
    let opened = c.in_ok-open-in-Set.ensures.token in
    let inner = opened.1 in
    from_there _ _ _ (ap (λ m. walk total (variant_word m x.head x.brace x.variants c.args.keyword) c.args.tokens.now.rest.now) c.in-Set.is
    ∙ wanted total (set_wants x.head x.brace x.variants c.args.keyword) opened.0 (omega (arith, h, inner))
    ∙ named total (set_names x.head x.brace x.variants c.args.keyword) c.in_ok-name-in-Set.ensures.token (omega (arith, h, inner)))
    (missed total (set_closes x.head x.brace x.variants c.args.keyword c.in_ok-name-in-Set.name) c.in_err-want-in-Set.ensures.token))

pub returns-in_ok-want-in-Set-clause-reads : goal.returns-in_ok-want-in-Set-clause-reads
returns-in_ok-want-in-Set-clause-reads c = λ total x le.
    let h = level_word c.args.levels c.args.mode x.head x.brace x.variants c.args.keyword le in
    let opened = c.in_ok-open-in-Set.ensures.token in
    let inner = opened.1 in
    let name = c.in_ok-name-in-Set.name in
    ap (λ m. walk total (variant_word m x.head x.brace x.variants c.args.keyword) c.args.tokens.now.rest.now) c.in-Set.is
    ∙ wanted total (set_wants x.head x.brace x.variants c.args.keyword) opened.0 (omega (arith, h, inner))
    ∙ named total (set_names x.head x.brace x.variants c.args.keyword) c.in_ok-name-in-Set.ensures.token (omega (arith, h, inner))
    ∙ wanted total (set_closes x.head x.brace x.variants c.args.keyword name) c.in_ok-want-in-Set.ensures.token (omega (arith, h))
    ∙ ap (λ m. walk total (BodyWanted (VariantBody x.head x.brace x.variants c.args.keyword m (Some name))) c.want.new.self.rest.now) (sym c.in-Set.is)
