use Rattle.std.proofs.Common.{[], ◌∷◌, ◌++◌, refl, sym, ap, ◌∙◌, arith}
use Rattle.hy_grammar.specs.Machine.{walk}
use Rattle.hy_grammar.specs.Stack.{VariantBody, InBody, VariantsRead}
use Rattle.hy_parser.proofs.Follows.{passed}
use Rattle.hy_parser.proofs.VariantSteps.{level_word, variant_block}
use Rattle.hy_phrases.proofs.Walks.{wanted, unopened, from_there}
use Rattle.hy_parser.proofs.bodies.read_variant.Goals as goal

pub returns-in_err-value-clause-reads : goal.returns-in_err-value-clause-reads
returns-in_err-value-clause-reads c = passed c.args.levels _ _ _ _ _ _ c.from_residual.ensures.1 (λ total x le. c.in_err-value.ensures.reads total x le)

pub returns-in_err-brace-clause-reads : goal.returns-in_err-brace-clause-reads
returns-in_err-brace-clause-reads c = passed c.args.levels _ _ _ _ _ _ c.from_residual-in_err-brace.ensures.1 (λ total x le.
    let h = level_word c.args.levels c.args.mode x.head x.brace x.variants c.args.keyword le in
    from_there _ _ _ (c.in_ok-value.ensures.reads total x le)
    (unopened total (variant_block x.head x.brace x.variants c.args.keyword c.args.mode c.in_ok-value.value) _ _ _ c.in_err-brace.ensures.token
    (λ span none. omega (arith, h, none))))

pub returns-in_err-block-clause-reads : goal.returns-in_err-block-clause-reads
returns-in_err-block-clause-reads c = passed c.args.levels _ _ _ _ _ _ c.from_residual-in_err-block.ensures.1 (λ total x le.
    let h = level_word c.args.levels c.args.mode x.head x.brace x.variants c.args.keyword le in
    let opened = c.in_ok-brace.ensures.token in
    let inner = opened.1 in
    let body = VariantBody x.head x.brace x.variants c.args.keyword c.args.mode c.in_ok-value.value in
    from_there _ _ _ (c.in_ok-value.ensures.reads total x le
    ∙ wanted total (variant_block x.head x.brace x.variants c.args.keyword c.args.mode c.in_ok-value.value) opened.0 (omega (arith, h, inner)))
    (c.in_err-block.ensures.reads total (record { place = InBody body c.in_ok-brace.brace; opens = refl; loops = refl }) (omega (arith, h, inner))))

pub returns-clause-reads : goal.returns-clause-reads
returns-clause-reads c = λ total x le.
    let h = level_word c.args.levels c.args.mode x.head x.brace x.variants c.args.keyword le in
    let opened = c.in_ok-brace.ensures.token in
    let inner = opened.1 in
    let body = VariantBody x.head x.brace x.variants c.args.keyword c.args.mode c.in_ok-value.value in
    c.in_ok-value.ensures.reads total x le
    ∙ wanted total (variant_block x.head x.brace x.variants c.args.keyword c.args.mode c.in_ok-value.value) opened.0 (omega (arith, h, inner))
    ∙ c.in_ok-block.ensures.reads total (record { place = InBody body c.in_ok-brace.brace; opens = refl; loops = refl }) (omega (arith, h, inner))
    ∙ ap (λ v. walk total (VariantsRead x.head x.brace (x.variants ++ v ∷ [])) c.read_block.new.tokens.rest.now) (sym c.variant.ensures)
