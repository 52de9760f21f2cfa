use Rattle.std.proofs.Common.{[], ◌∷◌, map, sym, ap, ◌∙◌, arith}
use Rattle.hy_parser.specs.Headings.{sort_of, headed, callable_done}
use Rattle.hy_grammar.specs.Machine.{walk}
use Rattle.std.proofs.lemmas.List.{map-append}
use Rattle.hy_tree.specs.Denotes as D
use Rattle.hy_parser.specs.Headings.{variant_mode}
use Rattle.hy_parser.specs.Separated.{ahead}
use Rattle.hy_grammar.specs.Stack.{VariantsRead}
use Rattle.hy_parser.proofs.BodySteps.{called_done, called_depth}
use Rattle.hy_parser.proofs.Follows.{passed}
use Rattle.hy_parser.proofs.VariantSteps.{word_level, variant_begins, variants_close, variants_stop}
use Rattle.hy_phrases.proofs.Walks.{taken, from_there}
use Rattle.hy_parser.proofs.bodies.read_variants.Goals as goal

pub variants-preserved : goal.variants-preserved
variants-preserved c = record {
  within = omega arith;
  reads = λ total brace x le.
      let head = headed (sort_of c.args.sort) c.args.heading x in
      let variants = map D.variant_of c.variants.variants in
      let m = c.in-Some.mode in
      let v = c.in_ok-read_variant.field-0 in
      c.variants.invariant.reads total brace x le ∙ variant_begins total c.args.levels head brace variants m _ c.in-Some.keyword _ le c.in-Some.ensures.token
      ∙ c.in_ok-read_variant.ensures.reads total (record { head = head; brace = brace; variants = variants })
      (word_level c.args.levels m head brace variants c.in-Some.keyword le)
      ∙ ap (λ made. walk total (VariantsRead head brace made) c.read_variant.new.tokens.rest.now)
      (sym (ap (map D.variant_of) c.in_ok-push.ensures.ok ∙ map-append D.variant_of c.variants.variants (v ∷ [])));
}

pub returns-in_err-read_variant-clause-reads : goal.returns-in_err-read_variant-clause-reads
returns-in_err-read_variant-clause-reads c = λ brace. passed c.args.levels _ _ _ _ _ _ c.from_residual.ensures.1 (λ total x le.
    let head = headed (sort_of c.args.sort) c.args.heading x in
    let variants = map D.variant_of c.variants.variants in
    let m = c.in-Some.mode in
    from_there _ _ _ (c.variants.invariant.reads total brace x le
    ∙ variant_begins total c.args.levels head brace variants m _ c.in-Some.keyword _ le c.in-Some.ensures.token)
    (c.in_err-read_variant.ensures.reads total (record { head = head; brace = brace; variants = variants })
    (word_level c.args.levels m head brace variants c.in-Some.keyword le)))

pub returns-in_err-close-clause-reads : goal.returns-in_err-close-clause-reads
returns-in_err-close-clause-reads c = λ brace. passed c.args.levels _ _ _ _ _ _ c.from_residual-in_err-close.ensures.1 (λ total x le.
    let head = headed (sort_of c.args.sort) c.args.heading x in
    let variants = map D.variant_of c.variants.variants in
    let lacking = c.in_default.ensures.token in
    from_there _ _ _ (c.variants.invariant.reads total brace x le ∙ ap (walk total (VariantsRead head brace variants)) (sym lacking.1))
    (variants_stop total head brace variants c.take_mode.new.tokens.rest.now _ (ap (ahead (variant_mode (sort_of c.args.sort))) lacking.1
    ∙ lacking.0) c.in_err-close.ensures.token))

pub returns-clause-reads : goal.returns-clause-reads
returns-clause-reads c = λ brace total x le.
    let head = headed (sort_of c.args.sort) c.args.heading x in
    let variants = map D.variant_of c.variants.variants in
    let lacking = c.in_default.ensures.token in
    let close = c.in_ok-close.close.to in
    let d = called_depth x.home head variants close in
    let new = c.want.new.self.rest.now in
    c.variants.invariant.reads total brace x le ∙ ap (walk total (VariantsRead head brace variants)) (sym lacking.1)
    ∙ taken total (variants_close head brace variants) c.in_ok-close.ensures.token (omega (arith, le, d))
    ∙ ap (λ s. walk total s new) (called_done x.home head variants close)
    ∙ ap (λ z. walk total (callable_done z x.home x.start) new) (sym (c.callable.ensures x))
