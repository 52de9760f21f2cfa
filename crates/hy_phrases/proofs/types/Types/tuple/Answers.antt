use Rattle.std.proofs.Common.{◌+◌, [], ◌∷◌, ◌++◌, map, rules, sym, ap, subst, ◌∙◌, arith}
use Rattle.std.proofs.lemmas.List.{map-append}
use Rattle.hy_lexer.specs.declared.token.TokenKind.TheVariants as k
use Rattle.hy_phrases.specs.Wanted.{Sees}
use Rattle.hy_tree.specs.Denotes.{type_of}
use Rattle.hy_grammar.specs.Machine.{walk}
use Rattle.hy_grammar.specs.Nodes as node
use Rattle.hy_grammar.specs.Stack.{ForTypePart, TypesOpened, TypesRead}
use Rattle.hy_grammar.specs.TypeSteps.{typed}
use Rattle.hy_phrases.proofs.TypeWalks.{typed_fits, ends_at_once, first_part, next_part, ends_parts, unclosed}
use Rattle.hy_phrases.proofs.Walks.{fits, taken, stopped, from_there, passes}
use Rattle.hy_phrases.proofs.types.Types.tuple.Goals as goal

pub returns-in-Some-clause-reads : goal.returns-in-Some-clause-reads
returns-in-Some-clause-reads g c = λ total u h.
    taken total (ends_at_once c.args.bracket u) c.in-Some.ensures.token
    (typed_fits (c.args.levels + 1) (node.types c.args.bracket [] c.in-Some.close) u (omega (arith, h)))
    ∙ ap (λ e. walk total (typed e u) c.take.new.self.rest.now)
    (sym (c.types.ensures ∙ ap (λ l. node.types c.args.bracket (map type_of l) c.in-Some.close) c.new-parts.ensures))

pub returns-in_err-inner-clause-reads : goal.returns-in_err-inner-clause-reads
returns-in_err-inner-clause-reads g c = passes c.args.levels type_of (TypesOpened c.args.bracket) typed _ _ c.from_residual.result _ c.from_residual.ensures.1
    (λ total u h.
    let w = c.in_default.ensures.token in
    from_there _ _ _ (first_part c.args.bracket u total _ w.0 ∙ ap (walk total _) (sym w.1))
    (c.in_err-inner.ensures.reads total (ForTypePart c.args.bracket [] u) h))

pub parts-init : goal.parts-init
parts-init g c = record {
  within = search rules;
  reads = λ total u h.
      let w = c.in_default.ensures.token in
      first_part c.args.bracket u total _ w.0 ∙ ap (walk total _) (sym w.1) ∙ c.in_ok-inner.ensures.reads total (ForTypePart c.args.bracket [] u) h
      ∙ ap (λ l. walk total (TypesRead c.args.bracket l u) c.inner.new.tokens.rest.now)
      (sym (ap (map type_of) (c.in_ok-push.ensures.ok ∙ ap (λ l. l ++ c.in_ok-inner.field-0 ∷ []) c.new-parts.ensures)));
}

pub returns-in_err-inner-2-clause-reads : goal.returns-in_err-inner-2-clause-reads
returns-in_err-inner-2-clause-reads g c =
    passes c.args.levels type_of (TypesOpened c.args.bracket) typed _ _ c.from_residual-in_err-inner-2.result _ c.from_residual-in_err-inner-2.ensures.1
    (λ total u h.
    from_there _ _ _ (c.parts.invariant.reads total u h
    ∙ taken total (next_part c.args.bracket u (map type_of c.parts.parts)) c.in-Some-take.ensures.token (fits c.args.levels _ h))
    (c.in_err-inner-2.ensures.reads total (ForTypePart c.args.bracket (map type_of c.parts.parts) u) h))

pub parts-preserved : goal.parts-preserved
parts-preserved g c = record {
  within = search rules;
  reads = λ total u h.
      c.parts.invariant.reads total u h
      ∙ taken total (next_part c.args.bracket u (map type_of c.parts.parts)) c.in-Some-take.ensures.token (fits c.args.levels _ h)
      ∙ c.in_ok-inner-2.ensures.reads total (ForTypePart c.args.bracket (map type_of c.parts.parts) u) h
      ∙ ap (λ l. walk total (TypesRead c.args.bracket l u) c.inner-in-Some-take.new.tokens.rest.now)
      (sym (ap (map type_of) c.in_ok-push-2.ensures.ok ∙ map-append type_of c.parts.parts (c.in_ok-inner-2.field-0 ∷ [])));
}

pub returns-in_err-close-clause-reads : goal.returns-in_err-close-clause-reads
returns-in_err-close-clause-reads g c =
    passes c.args.levels type_of (TypesOpened c.args.bracket) typed _ _ c.from_residual-in_err-close.result _ c.from_residual-in_err-close.ensures.1
    (λ total u h.
    let w = c.in_default-take.ensures.token in
    let m = c.in_err-close.ensures.token in
    from_there _ _ _ (c.parts.invariant.reads total u h ∙ ap (walk total _) (sym w.1))
    (stopped _ _ _ m.stops (unclosed c.args.bracket u (map type_of c.parts.parts) total _ (subst (λ l. Sees k.Comma l → ⊥) (sym w.1) w.0) m.lacks)))

pub returns-clause-reads : goal.returns-clause-reads
returns-clause-reads g c = λ total u h.
    let w = c.in_default-take.ensures.token in
    c.parts.invariant.reads total u h ∙ ap (walk total _) (sym w.1)
    ∙ taken total (ends_parts c.args.bracket u (map type_of c.parts.parts)) c.in_ok-close.ensures.token
    (typed_fits (c.args.levels + 1) (node.types c.args.bracket (map type_of c.parts.parts) c.in_ok-close.close) u (omega (arith, h)))
    ∙ ap (λ e. walk total (typed e u) c.want.new.self.rest.now) (sym c.types-2.ensures)
