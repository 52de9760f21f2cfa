use Rattle.std.proofs.Common.{◌∷◌, [], sym, ap, ◌∙◌, arith}
use Rattle.hy_parser.specs.Headings.{sort_of, headed, with_generics, generic_done}
use Rattle.hy_grammar.specs.Machine.{walk}
use Rattle.hy_grammar.specs.Stack.{GenericWanted, ParamsWanted}
use Rattle.hy_parser.proofs.Follows.{passed}
use Rattle.hy_phrases.proofs.Walks.{from_there}
use Rattle.hy_parser.proofs.generics.read_type_params.Goals as goal

pub returns-in_err-generic-clause-reads : goal.returns-in_err-generic-clause-reads
returns-in_err-generic-clause-reads c = λ levels. passed levels _ _ _ _ _ _ c.from_residual.ensures.1 (λ total x le.
    from_there _ _ _ (c.generics.invariant.reads total levels x le)
    (c.in_err-generic.ensures.reads levels total (headed (sort_of c.args.sort) c.generics.heading x) le))

pub returns-then-not-more-clause-reads : goal.returns-then-not-more-clause-reads
returns-then-not-more-clause-reads c = λ levels total x le.
    let head = headed (sort_of c.args.sort) c.generics.heading x in
    c.generics.invariant.reads total levels x le
    ∙ c.in_ok-generic.ensures.reads levels total head le
    ∙ ap (λ b. walk total (generic_done b (with_generics head (c.in_ok-generic.generic ∷ []))) c.read_generic.new.tokens.rest.now) c.if-not-more.true
    ∙ ap (λ generics. walk total (ParamsWanted (record head { generics = generics })) c.read_generic.new.tokens.rest.now) (sym c.in_ok-push.ensures.ok)

pub generics-preserved : goal.generics-preserved
generics-preserved c = record {
  within = omega arith;
  reads = λ total levels x le.
      let head = headed (sort_of c.args.sort) c.generics.heading x in
      c.generics.invariant.reads total levels x le
      ∙ c.in_ok-generic.ensures.reads levels total head le
      ∙ ap (λ b. walk total (generic_done b (with_generics head (c.in_ok-generic.generic ∷ []))) c.read_generic.new.tokens.rest.now) c.if-not-more.false
      ∙ ap (λ generics. walk total (GenericWanted (record head { generics = generics })) c.read_generic.new.tokens.rest.now) (sym c.in_ok-push.ensures.ok);
}
