use Rattle.std.proofs.Common.{[], ◌∷◌, ◌++◌, refl, sym, ap, ◌∙◌, arith}
use Rattle.hy_grammar.specs.Machine.{walk}
use Rattle.hy_parser.specs.Headings.{separator_next}
use Rattle.hy_grammar.specs.Nodes as node
use Rattle.hy_grammar.specs.Stack.{ListedOwner, TraitWanted, TraitListed, MembersReady}
use Rattle.hy_parser.proofs.DeclarationSteps.{listed_names, more_traits, traits_open, traits_stop}
use Rattle.hy_parser.proofs.Follows.{passed}
use Rattle.hy_phrases.proofs.Walks.{fits, named, unnamed, taken, from_there}
use Rattle.hy_parser.proofs.declarations.read_traits.Goals as goal

pub returns-in_err-name-clause-reads : goal.returns-in_err-name-clause-reads
returns-in_err-name-clause-reads c =
    passed 200 _ _ _ _ _ _ c.from_residual.ensures.1 (λ total x le. from_there _ _ _ (c.traits.invariant.reads total x)
    (unnamed total (listed_names x.opening x.subject c.traits.traits) _ _ c.in_err-name.ensures.token))

pub traits-preserved : goal.traits-preserved
traits-preserved c = record {
  within = omega arith;
  reads = λ total x.
      let name = c.in_ok-name.field-0 in
      let listed = c.traits.traits ++ node.used name.text name.span ∷ [] in
      c.traits.invariant.reads total x
      ∙ named total (listed_names x.opening x.subject c.traits.traits) c.in_ok-name.ensures.token (fits 200 0 refl)
      ∙ more_traits total x.opening x.subject listed _ _ c.if-not-take_separator.ensures.token
      ∙ ap (λ traits. walk total (TraitWanted x.opening x.subject traits) c.take_separator.new.tokens.rest.now)
      (ap (λ u. c.traits.traits ++ u ∷ []) (sym c.name_use.ensures) ∙ sym c.in_ok-push.ensures.ok);
}

pub returns-in_err-want-clause-reads : goal.returns-in_err-want-clause-reads
returns-in_err-want-clause-reads c = passed 200 _ _ _ _ _ _ c.from_residual-in_err-want.ensures.1 (λ total x le.
    let name = c.in_ok-name.field-0 in
    let listed = c.traits.traits ++ node.used name.text name.span ∷ [] in
    let lacking = c.if-not-take_separator.ensures.token in
    from_there _ _ _ (c.traits.invariant.reads total x
    ∙ named total (listed_names x.opening x.subject c.traits.traits) c.in_ok-name.ensures.token (fits 200 0 refl)
    ∙ ap (walk total (TraitListed x.opening x.subject listed)) (sym lacking.1))
    (traits_stop total x.opening x.subject listed c.take_separator.new.tokens.rest.now _
    (ap separator_next lacking.1 ∙ lacking.0) c.in_err-want.ensures.token))

pub returns-clause-reads : goal.returns-clause-reads
returns-clause-reads c = λ total x le.
    let name = c.in_ok-name.field-0 in
    let listed = c.traits.traits ++ node.used name.text name.span ∷ [] in
    let lacking = c.if-not-take_separator.ensures.token in
    c.traits.invariant.reads total x ∙ named total (listed_names x.opening x.subject c.traits.traits) c.in_ok-name.ensures.token (fits 200 0 refl)
    ∙ ap (walk total (TraitListed x.opening x.subject listed)) (sym lacking.1)
    ∙ taken total (traits_open x.opening x.subject listed) c.in_ok-want.ensures.token (fits 199 1 refl)
    ∙ ap (λ traits. walk total (MembersReady (ListedOwner x.opening x.subject traits) []) c.want.new.self.rest.now)
    (ap (λ u. c.traits.traits ++ u ∷ []) (sym c.name_use.ensures) ∙ sym c.in_ok-push.ensures.ok)
