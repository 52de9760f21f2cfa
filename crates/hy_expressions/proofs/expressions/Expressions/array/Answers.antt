use Rattle.std.proofs.Common.{[], ◌∷◌, ◌++◌, map, rules, sym, ap, subst, ◌∙◌, arith}
use Rattle.std.proofs.lemmas.List.{map-append}
use Rattle.hy_base.specs.declared.position.Span.{Span}
use Rattle.hy_lexer.specs.declared.token.TokenKind.TheVariants as k
use Rattle.hy_tree.specs.Denotes.{expr_of}
use Rattle.hy_tree.specs.Tree as T
use Rattle.hy_grammar.specs.Machine.{walk}
use Rattle.hy_grammar.specs.OperandSteps.{beginning}
use Rattle.hy_grammar.specs.Stack.{ForElement, Spot, State, Operand, Postfixed, ElementsRead}
use Rattle.hy_phrases.specs.Wanted.{Sees}
use Rattle.hy_phrases.proofs.Walks.{taken, stopped, from_there, passes}
use Rattle.hy_expressions.proofs.PartWalks.{element_next, elements_end, element_read, elements_unclosed}
use Rattle.hy_expressions.proofs.expressions.Expressions.array.Goals as goal

abbrev behind : T.Expr → Spot → State
behind e spot = Postfixed e [] 0 spot

abbrev need : Span → Spot → State
need bracket spot = Operand (beginning (ForElement bracket [] spot))

pub returns-in_err-inner-clause-reads : goal.returns-in_err-inner-clause-reads
returns-in_err-inner-clause-reads g c = passes c.args.levels expr_of (need c.args.bracket) behind _ _ c.from_residual.result _ c.from_residual.ensures.1
    (λ total x h. c.in_err-inner.ensures.reads total (ForElement c.args.bracket [] x) (omega (arith, h)))

pub elements-init : goal.elements-init
elements-init g c = record {
  within = search rules;
  reads = λ total x h.
      c.in_ok-inner.ensures.reads total (ForElement c.args.bracket [] x) (omega (arith, h))
      ∙ element_read c.args.bracket x [] total (expr_of c.in_ok-inner.field-0) _
      ∙ ap (λ l. walk total (ElementsRead c.args.bracket l x) c.inner.new.tokens.rest.now)
      (sym (ap (map expr_of) (c.in_ok-push.ensures.ok ∙ ap (λ l. l ++ c.in_ok-inner.field-0 ∷ []) c.new-made.ensures)));
}

pub returns-in_err-inner-2-clause-reads : goal.returns-in_err-inner-2-clause-reads
returns-in_err-inner-2-clause-reads g c =
    passes c.args.levels expr_of (need c.args.bracket) behind _ _ c.from_residual-in_err-inner-2.result _ c.from_residual-in_err-inner-2.ensures.1
    (λ total x h. from_there _ _ _ (c.elements.invariant.reads total x h
    ∙ taken total (element_next c.args.bracket x (map expr_of c.elements.made)) c.in-Some.ensures.token (omega (arith, h)))
    (c.in_err-inner-2.ensures.reads total (ForElement c.args.bracket (map expr_of c.elements.made) x) (omega (arith, h))))

pub elements-preserved : goal.elements-preserved
elements-preserved g c = record {
  within = search rules;
  reads = λ total x h.
      c.elements.invariant.reads total x h
      ∙ taken total (element_next c.args.bracket x (map expr_of c.elements.made)) c.in-Some.ensures.token (omega (arith, h))
      ∙ c.in_ok-inner-2.ensures.reads total (ForElement c.args.bracket (map expr_of c.elements.made) x) (omega (arith, h))
      ∙ element_read c.args.bracket x (map expr_of c.elements.made) total (expr_of c.in_ok-inner-2.field-0) _
      ∙ ap (λ l. walk total (ElementsRead c.args.bracket l x) c.inner-in-Some.new.tokens.rest.now)
      (sym (ap (map expr_of) c.in_ok-push-2.ensures.ok ∙ map-append expr_of c.elements.made (c.in_ok-inner-2.field-0 ∷ [])));
}

pub returns-in_err-close-clause-reads : goal.returns-in_err-close-clause-reads
returns-in_err-close-clause-reads g c =
    passes c.args.levels expr_of (need c.args.bracket) behind _ _ c.from_residual-in_err-close.result _ c.from_residual-in_err-close.ensures.1
    (λ total x h.
    let w = c.in_default.ensures.token in
    let m = c.in_err-close.ensures.token in
    from_there _ _ _ (c.elements.invariant.reads total x h ∙ ap (walk total _) (sym w.1))
    (stopped _ _ _ m.stops (elements_unclosed c.args.bracket x (map expr_of c.elements.made) total _ (subst (λ l. Sees k.Comma l → ⊥) (sym w.1) w.0) m.lacks)))

pub returns-clause-reads : goal.returns-clause-reads
returns-clause-reads g c = λ total x h.
    let w = c.in_default.ensures.token in
    c.elements.invariant.reads total x h ∙ ap (walk total _) (sym w.1)
    ∙ taken total (elements_end c.args.bracket x (map expr_of c.elements.made)) c.in_ok-close.ensures.token (omega (arith, h))
    ∙ ap (λ e. walk total (Postfixed e [] 0 x) c.want.new.self.rest.now) (sym c.array.ensures)
