use Rattle.std.proofs.Common.{ℕ, List, [], ◌∷◌, ◌++◌, map, rules, sym, ap, subst, ◌∙◌, arith}
use Rattle.std.proofs.lemmas.List.{map-append}
use Rattle.hy_lexer.specs.declared.token.TokenKind.TheVariants as k
use Rattle.hy_tree.specs.Denotes.{expr_of, choice_of}
use Rattle.hy_tree.specs.Tree as T
use Rattle.hy_grammar.specs.Machine.{walk}
use Rattle.hy_grammar.specs.OperandSteps.{beginning}
use Rattle.hy_expressions.specs.ReadsExpressions.{ChoiceSpot}
use Rattle.hy_grammar.specs.Stack.{ForCondition, ForOtherwise, Spot, State, Operand, Postfixed, ChoiceElse}
use Rattle.hy_phrases.specs.Wanted.{Sees}
use Rattle.hy_phrases.proofs.Walks.{wanted, missed, taken, stopped, from_there, passes}
use Rattle.hy_base.specs.declared.position.Span.{Span}
use Rattle.hy_expressions.proofs.PartWalks.{next_choice, last_choice, no_choice, wants_last_end}
use Rattle.hy_expressions.proofs.expressions.Expressions.choices.Goals as goal

abbrev need : Span → Spot → State
need word spot = Operand (beginning (ForCondition word.from [] word spot))

abbrev behind : T.Expr → Spot → State
behind e spot = Postfixed e [] 0 spot

abbrev there : ℕ → List T.Choice → Spot → ChoiceSpot
there from choices spot = record { from = from; choices = choices; spot = spot }

pub returns-in_err-choice-clause-reads : goal.returns-in_err-choice-clause-reads
returns-in_err-choice-clause-reads g c = passes c.args.levels expr_of (need c.args.word) behind _ _ c.from_residual.result _ c.from_residual.ensures.1
    (λ total x h. c.in_err-choice.ensures.reads total (there c.args.word.from [] x) h)

pub choices-init : goal.choices-init
choices-init g c = record {
  within = search rules;
  reads = λ total x h. c.in_ok-choice.ensures.reads total (there c.args.word.from [] x) h
      ∙ ap (λ l. walk total (ChoiceElse c.args.word.from l x) c.choice.new.tokens.rest.now)
      (sym (ap (map choice_of) (c.in_ok-push.ensures.ok ∙ ap (λ l. l ++ c.in_ok-choice.field-0 ∷ []) c.new-made.ensures)));
}

pub returns-in_err-choice-2-clause-reads : goal.returns-in_err-choice-2-clause-reads
returns-in_err-choice-2-clause-reads g c =
    passes c.args.levels expr_of (need c.args.word) behind _ _ c.from_residual-in_err-choice-2.result _ c.from_residual-in_err-choice-2.ensures.1
    (λ total x h. from_there _ _ _ (c.choices.invariant.reads total x h
    ∙ taken total (next_choice c.args.word.from (map choice_of c.choices.made) x) c.in-Some.ensures.token (omega (arith, h)))
    (c.in_err-choice-2.ensures.reads total (there c.args.word.from (map choice_of c.choices.made) x) h))

pub choices-preserved : goal.choices-preserved
choices-preserved g c = record {
  within = search rules;
  reads = λ total x h. c.choices.invariant.reads total x h
      ∙ taken total (next_choice c.args.word.from (map choice_of c.choices.made) x) c.in-Some.ensures.token (omega (arith, h))
      ∙ c.in_ok-choice-2.ensures.reads total (there c.args.word.from (map choice_of c.choices.made) x) h
      ∙ ap (λ l. walk total (ChoiceElse c.args.word.from l x) c.choice-in-Some.new.tokens.rest.now)
      (sym (ap (map choice_of) c.in_ok-push-2.ensures.ok ∙ map-append choice_of c.choices.made (c.in_ok-choice-2.field-0 ∷ [])));
}

pub returns-in_err-want-clause-reads : goal.returns-in_err-want-clause-reads
returns-in_err-want-clause-reads g c =
    passes c.args.levels expr_of (need c.args.word) behind _ _ c.from_residual-in_err-want.result _ c.from_residual-in_err-want.ensures.1
    (λ total x h.
    let w = c.in_default.ensures.token in
    let m = c.in_err-want.ensures.token in
    from_there _ _ _ (c.choices.invariant.reads total x h ∙ ap (walk total _) (sym w.1))
    (stopped _ _ _ m.stops (no_choice c.args.word.from (map choice_of c.choices.made) x total _ (subst (λ l. Sees k.If l → ⊥) (sym w.1) w.0) m.lacks)))

pub returns-in_err-otherwise-clause-reads : goal.returns-in_err-otherwise-clause-reads
returns-in_err-otherwise-clause-reads g c =
    passes c.args.levels expr_of (need c.args.word) behind _ _ c.from_residual-in_err-otherwise.result _ c.from_residual-in_err-otherwise.ensures.1
    (λ total x h.
    let w = c.in_default.ensures.token in
    from_there _ _ _ (c.choices.invariant.reads total x h ∙ ap (walk total _) (sym w.1)
    ∙ taken total (last_choice c.args.word.from (map choice_of c.choices.made) x) c.in_ok-want.ensures.token (omega (arith, h)))
    (c.in_err-otherwise.ensures.reads total (ForOtherwise c.args.word.from (map choice_of c.choices.made) x) h))

pub returns-in_err-close-clause-reads : goal.returns-in_err-close-clause-reads
returns-in_err-close-clause-reads g c =
    passes c.args.levels expr_of (need c.args.word) behind _ _ c.from_residual-in_err-close.result _ c.from_residual-in_err-close.ensures.1
    (λ total x h.
    let w = c.in_default.ensures.token in
    from_there _ _ _ (c.choices.invariant.reads total x h ∙ ap (walk total _) (sym w.1)
    ∙ taken total (last_choice c.args.word.from (map choice_of c.choices.made) x) c.in_ok-want.ensures.token (omega (arith, h))
    ∙ c.in_ok-otherwise.ensures.reads total (ForOtherwise c.args.word.from (map choice_of c.choices.made) x) h)
    (missed total (wants_last_end c.args.word.from (map choice_of c.choices.made) x (expr_of c.in_ok-otherwise.otherwise)) c.in_err-close.ensures.token))

pub returns-clause-reads : goal.returns-clause-reads
returns-clause-reads g c = λ total x h.
    let w = c.in_default.ensures.token in
    c.choices.invariant.reads total x h ∙ ap (walk total _) (sym w.1)
    ∙ taken total (last_choice c.args.word.from (map choice_of c.choices.made) x) c.in_ok-want.ensures.token (omega (arith, h))
    ∙ c.in_ok-otherwise.ensures.reads total (ForOtherwise c.args.word.from (map choice_of c.choices.made) x) h
    ∙ wanted total (wants_last_end c.args.word.from (map choice_of c.choices.made) x (expr_of c.in_ok-otherwise.otherwise)) c.in_ok-close.ensures.token
    (omega (arith, h))
    ∙ ap (λ e. walk total (Postfixed e [] 0 x) c.want-2.new.self.rest.now) (sym c.in_ok-if_else.ensures)
