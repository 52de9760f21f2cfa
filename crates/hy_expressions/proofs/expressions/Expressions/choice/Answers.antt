use Rattle.std.proofs.Common.{[], ◌∷◌, ◌++◌, ◌∙◌, arith}
use Rattle.hy_tree.specs.Denotes.{expr_of, choice_of}
use Rattle.hy_tree.specs.Tree as T
use Rattle.hy_grammar.specs.Nodes as node
use Rattle.hy_grammar.specs.OperandSteps.{beginning}
use Rattle.hy_expressions.specs.ReadsExpressions.{ChoiceSpot}
use Rattle.hy_grammar.specs.Stack.{ForCondition, ForChoice, State, Use, Operand, ChoiceElse}
use Rattle.hy_phrases.proofs.Walks.{fits, wanted, missed, from_there, passes}
use Rattle.hy_base.specs.declared.position.Span.{Span}
use Rattle.hy_expressions.proofs.PartWalks.{wants_value, wants_value_end, wants_else}
use Rattle.hy_expressions.proofs.expressions.Expressions.choice.Goals as goal

abbrev need : Span → ChoiceSpot → State
need word x = Operand (beginning (ForCondition x.from x.choices word x.spot))

abbrev have : T.Choice → ChoiceSpot → State
have c x = ChoiceElse x.from (x.choices ++ c ∷ []) x.spot

abbrev condition_of : Span → ChoiceSpot → Use
condition_of word x = ForCondition x.from x.choices word x.spot

abbrev value_of : Span → T.Expr → ChoiceSpot → Use
value_of word condition x = ForChoice x.from x.choices word condition x.spot

pub returns-in_err-condition-clause-reads : goal.returns-in_err-condition-clause-reads
returns-in_err-condition-clause-reads g c = passes c.args.levels choice_of (need c.args.word) have _ _ c.from_residual.result _ c.from_residual.ensures.1
    (λ total x h. c.in_err-condition.ensures.reads total (condition_of c.args.word x) h)

pub returns-in_err-want-clause-reads : goal.returns-in_err-want-clause-reads
returns-in_err-want-clause-reads g c =
    passes c.args.levels choice_of (need c.args.word) have _ _ c.from_residual-in_err-want.result _ c.from_residual-in_err-want.ensures.1
    (λ total x h. from_there _ _ _ (c.in_ok-condition.ensures.reads total (condition_of c.args.word x) h)
    (missed total (wants_value x.from x.choices x.spot c.args.word (expr_of c.in_ok-condition.condition)) c.in_err-want.ensures.token))

pub returns-in_err-value-clause-reads : goal.returns-in_err-value-clause-reads
returns-in_err-value-clause-reads g c =
    passes c.args.levels choice_of (need c.args.word) have _ _ c.from_residual-in_err-value.result _ c.from_residual-in_err-value.ensures.1
    (λ total x h. from_there _ _ _ (c.in_ok-condition.ensures.reads total (condition_of c.args.word x) h
    ∙ wanted total (wants_value x.from x.choices x.spot c.args.word (expr_of c.in_ok-condition.condition)) c.in_ok-want.ensures.token (fits c.args.levels _ h))
    (c.in_err-value.ensures.reads total (value_of c.args.word (expr_of c.in_ok-condition.condition) x) h))

pub returns-in_err-want-2-clause-reads : goal.returns-in_err-want-2-clause-reads
returns-in_err-want-2-clause-reads g c =
    passes c.args.levels choice_of (need c.args.word) have _ _ c.from_residual-in_err-want-2.result _ c.from_residual-in_err-want-2.ensures.1
    (λ total x h. from_there _ _ _ (c.in_ok-condition.ensures.reads total (condition_of c.args.word x) h
    ∙ wanted total (wants_value x.from x.choices x.spot c.args.word (expr_of c.in_ok-condition.condition)) c.in_ok-want.ensures.token (fits c.args.levels _ h)
    ∙ c.in_ok-value.ensures.reads total (value_of c.args.word (expr_of c.in_ok-condition.condition) x) h)
    (missed total (wants_value_end x.from x.choices x.spot c.args.word (expr_of c.in_ok-condition.condition) (expr_of c.in_ok-value.value))
    c.in_err-want-2.ensures.token))

pub returns-in_err-want-3-clause-reads : goal.returns-in_err-want-3-clause-reads
returns-in_err-want-3-clause-reads g c =
    passes c.args.levels choice_of (need c.args.word) have _ _ c.from_residual-in_err-want-3.result _ c.from_residual-in_err-want-3.ensures.1
    (λ total x h. from_there _ _ _ (c.in_ok-condition.ensures.reads total (condition_of c.args.word x) h
    ∙ wanted total (wants_value x.from x.choices x.spot c.args.word (expr_of c.in_ok-condition.condition)) c.in_ok-want.ensures.token (fits c.args.levels _ h)
    ∙ c.in_ok-value.ensures.reads total (value_of c.args.word (expr_of c.in_ok-condition.condition) x) h
    ∙ wanted total (wants_value_end x.from x.choices x.spot c.args.word (expr_of c.in_ok-condition.condition) (expr_of c.in_ok-value.value))
    c.in_ok-want-2.ensures.token (omega (arith, h)))
    (missed total (wants_else x.from (x.choices ++ node.choice c.args.word (expr_of c.in_ok-condition.condition) (expr_of c.in_ok-value.value) ∷ []) x.spot)
    c.in_err-want-3.ensures.token))

pub returns-clause-reads : goal.returns-clause-reads
returns-clause-reads g c = λ total x h.
    c.in_ok-condition.ensures.reads total (condition_of c.args.word x) h
    ∙ wanted total (wants_value x.from x.choices x.spot c.args.word (expr_of c.in_ok-condition.condition)) c.in_ok-want.ensures.token (fits c.args.levels _ h)
    ∙ c.in_ok-value.ensures.reads total (value_of c.args.word (expr_of c.in_ok-condition.condition) x) h
    ∙ wanted total (wants_value_end x.from x.choices x.spot c.args.word (expr_of c.in_ok-condition.condition) (expr_of c.in_ok-value.value))
    c.in_ok-want-2.ensures.token (omega (arith, h))
    ∙ wanted total (wants_else x.from (x.choices ++ node.choice c.args.word (expr_of c.in_ok-condition.condition) (expr_of c.in_ok-value.value) ∷ [])
    x.spot) c.in_ok-want-3.ensures.token (omega (arith, h))
