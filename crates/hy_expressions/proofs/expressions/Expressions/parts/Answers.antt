use Rattle.std.proofs.Common.{[], ◌∷◌, ◌++◌, map, rules, sym, ap, subst, ◌∙◌, arith}
use Rattle.std.proofs.lemmas.List.{map-append}
use Rattle.hy_lexer.specs.declared.token.TokenKind.TheVariants as k
use Rattle.hy_tree.specs.Denotes.{expr_of}
use Rattle.hy_tree.specs.Tree as T
use Rattle.hy_grammar.specs.Machine.{walk}
use Rattle.hy_grammar.specs.Nodes as node
use Rattle.hy_grammar.specs.Stack.{ForPart, Spot, State, Postfixed, PartsOpened, PartsRead}
use Rattle.hy_phrases.specs.Wanted.{Sees}
use Rattle.hy_phrases.proofs.Walks.{taken, stopped, from_there, passes}
use Rattle.hy_expressions.proofs.PartWalks.{parts_at_once, first_of_parts, part_next, parts_end, part_read, parts_unclosed}
use Rattle.hy_expressions.proofs.expressions.Expressions.parts.Goals as goal

abbrev behind : T.Expr → Spot → State
behind e spot = Postfixed e [] 0 spot

pub returns-in-Some-clause-reads : goal.returns-in-Some-clause-reads
returns-in-Some-clause-reads g c = λ total x h.
    taken total (parts_at_once c.args.bracket x) c.in-Some.ensures.token (omega (arith, h))
    ∙ ap (λ e. walk total (Postfixed e [] 0 x) c.take.new.self.rest.now) (sym (c.parts-in-Some.ensures
    ∙ ap (λ l. node.parts c.args.bracket (map expr_of l) c.in-Some.close) c.new-made.ensures))

pub returns-in_err-inner-clause-reads : goal.returns-in_err-inner-clause-reads
returns-in_err-inner-clause-reads g c = passes c.args.levels expr_of (PartsOpened c.args.bracket) behind _ _ c.from_residual.result _ c.from_residual.ensures.1
    (λ total x h.
    let w = c.in_default.ensures.token in
    from_there _ _ _ (first_of_parts c.args.bracket x total _ w.0 ∙ ap (walk total _) (sym w.1))
    (c.in_err-inner.ensures.reads total (ForPart c.args.bracket [] x) (omega (arith, h))))

pub parts-init : goal.parts-init
parts-init g c = record {
  within = search rules;
  reads = λ total x h.
      let w = c.in_default.ensures.token in
      first_of_parts c.args.bracket x total _ w.0 ∙ ap (walk total _) (sym w.1)
      ∙ c.in_ok-inner.ensures.reads total (ForPart c.args.bracket [] x) (omega (arith, h))
      ∙ part_read c.args.bracket x [] total (expr_of c.in_ok-inner.field-0) _
      ∙ ap (λ l. walk total (PartsRead c.args.bracket l x) c.inner.new.tokens.rest.now)
      (sym (ap (map expr_of) (c.in_ok-push.ensures.ok ∙ ap (λ l. l ++ c.in_ok-inner.field-0 ∷ []) c.new-made.ensures)));
}

pub returns-in_err-inner-2-clause-reads : goal.returns-in_err-inner-2-clause-reads
returns-in_err-inner-2-clause-reads g c =
    passes c.args.levels expr_of (PartsOpened c.args.bracket) behind _ _ c.from_residual-in_err-inner-2.result _ c.from_residual-in_err-inner-2.ensures.1
    (λ total x h. from_there _ _ _ (c.parts.invariant.reads total x h
    ∙ taken total (part_next c.args.bracket x (map expr_of c.parts.made)) c.in-Some-take.ensures.token (omega (arith, h)))
    (c.in_err-inner-2.ensures.reads total (ForPart c.args.bracket (map expr_of c.parts.made) x) (omega (arith, h))))

pub parts-preserved : goal.parts-preserved
parts-preserved g c = record {
  within = search rules;
  reads = λ total x h.
      c.parts.invariant.reads total x h ∙ taken total (part_next c.args.bracket x (map expr_of c.parts.made)) c.in-Some-take.ensures.token (omega (arith, h))
      ∙ c.in_ok-inner-2.ensures.reads total (ForPart c.args.bracket (map expr_of c.parts.made) x) (omega (arith, h))
      ∙ part_read c.args.bracket x (map expr_of c.parts.made) total (expr_of c.in_ok-inner-2.field-0) _
      ∙ ap (λ l. walk total (PartsRead c.args.bracket l x) c.inner-in-Some-take.new.tokens.rest.now)
      (sym (ap (map expr_of) c.in_ok-push-2.ensures.ok ∙ map-append expr_of c.parts.made (c.in_ok-inner-2.field-0 ∷ [])));
}

pub returns-in_err-close-clause-reads : goal.returns-in_err-close-clause-reads
returns-in_err-close-clause-reads g c =
    passes c.args.levels expr_of (PartsOpened c.args.bracket) behind _ _ c.from_residual-in_err-close.result _ c.from_residual-in_err-close.ensures.1
    (λ total x h.
    let w = c.in_default-take.ensures.token in
    let m = c.in_err-close.ensures.token in
    from_there _ _ _ (c.parts.invariant.reads total x h ∙ ap (walk total _) (sym w.1))
    (stopped _ _ _ m.stops (parts_unclosed c.args.bracket x (map expr_of c.parts.made) total _ (subst (λ l. Sees k.Comma l → ⊥) (sym w.1) w.0) m.lacks)))

pub returns-clause-reads : goal.returns-clause-reads
returns-clause-reads g c = λ total x h.
    let w = c.in_default-take.ensures.token in
    c.parts.invariant.reads total x h ∙ ap (walk total _) (sym w.1)
    ∙ taken total (parts_end c.args.bracket x (map expr_of c.parts.made)) c.in_ok-close.ensures.token (omega (arith, h))
    ∙ ap (λ e. walk total (Postfixed e [] 0 x) c.want.new.self.rest.now) (sym c.parts-2.ensures)
