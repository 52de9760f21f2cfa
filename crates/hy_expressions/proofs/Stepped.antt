-- Steps of postfix expressions that were made.
use Rattle.std.proofs.Common.{◌≡◌, ℕ, ℤ, List, [], ◌∷◌, ◌++◌, map, Some, refl, sym, ap, ◌∙◌}
use Rattle.std.proofs.lemmas.List.{map-append}
use Rattle.hy_base.specs.declared.position.Span.{Span}
use Rattle.hy_lexer.specs.declared.token.Token.{Token}
use Rattle.hy_tree.specs.Denotes.{placed, expr_kind_of, step_kind_of, step_of}
use Rattle.hy_tree.specs.declared.expression.Step.{Step}
use Rattle.hy_tree.specs.declared.expression.StepKind as S
use Rattle.hy_tree.specs.declared.expression.StepKind.{StepKind}
use Rattle.hy_tree.specs.Tree as T
use Rattle.hy_expressions.specs.declared.expressions.Brackets.{Brackets}
use Rattle.hy_expressions.specs.declared.expressions.Brackets.TheVariants as b
use Rattle.hy_grammar.specs.ExprSteps.{arguments_step, callee, with_arguments}
use Rattle.hy_grammar.specs.Machine.{walk}
use Rattle.hy_grammar.specs.Nodes as node
use Rattle.hy_expressions.specs.ReadsExpressions.{StepSpot, after_step, brackets_of}
use Rattle.hy_grammar.specs.Stack.{Spot, Postfixed}

at_step_kind : (kind : StepKind) (at : T.At) → T.at_step (step_kind_of kind at) ≡ at
unfolding expr_kind_of
at_step_kind (S.Member name) at = refl
at_step_kind (S.Part number) at = refl
at_step_kind (S.Call' _ args) at = refl
at_step_kind (S.Index' _ args) at = refl

-- where a step stands
pub step_at : (s : Step) → T.at_step (step_of s) ≡ placed s.span s.node
step_at s = at_step_kind s.kind (placed s.span s.node)

ends_at : (primary : T.Expr) (brackets : Brackets) (args : List T.Arg) (close : Span)
    → (T.at_step (arguments_step (brackets_of brackets) primary args close)).span.to ≡ close.to
unfolding node.call_step node.index_step
ends_at primary b.Round args close = refl
ends_at primary b.Square args close = refl

step_states : (primary : T.Expr) (brackets : Brackets) (args : List T.Arg) (close : Span) (x : StepSpot)
    → with_arguments (callee primary x.steps (brackets_of brackets)) args close x.spot ≡ after_step primary
    (Some (arguments_step (brackets_of brackets) primary args close)) x
unfolding node.call_step node.index_step
step_states primary b.Round args close x = refl
step_states primary b.Square args close x = refl

-- a step of arguments
pub step_made : (total : ℕ) (primary : T.Expr) (brackets : Brackets) (args : List T.Arg) (close : Span) (made : T.Step) (x : StepSpot) (ts : List Token)
    → made ≡ arguments_step (brackets_of brackets) primary args close
    → walk total (with_arguments (callee primary x.steps (brackets_of brackets)) args close x.spot) ts ≡ walk total (after_step primary (Some made) x) ts
step_made total primary brackets args close made x ts h =
    ap (λ s. walk total s ts) (step_states primary brackets args close x) ∙ ap (λ m. walk total (after_step primary (Some m) x) ts) (sym h)

pub member_made : (total : ℕ) (primary : T.Expr) (text : List ℕ) (token : Span) (made : T.Step) (x : StepSpot) (ts : List Token)
    → made ≡ node.member_step primary text token
    → walk total (Postfixed primary (x.steps ++ node.member_step primary text token ∷ []) token.to x.spot) ts
    ≡ walk total (after_step primary (Some made) x) ts
unfolding node.member_step
member_made total primary text token made x ts h = ap (λ m. walk total (after_step primary (Some m) x) ts) (sym h)

pub part_made : (total : ℕ) (primary : T.Expr) (n : ℤ) (token : Span) (made : T.Step) (x : StepSpot) (ts : List Token) → made ≡ node.part_step primary n token
    → walk total (Postfixed primary (x.steps ++ node.part_step primary n token ∷ []) token.to x.spot) ts ≡ walk total (after_step primary (Some made) x) ts
unfolding node.part_step
part_made total primary n token made x ts h = ap (λ m. walk total (after_step primary (Some m) x) ts) (sym h)

-- a step that was added to those before
pub step_pushed : (total : ℕ) (primary : T.Expr) (old new : List Step) (to : ℕ) (step : Step) (spot : Spot) (ts : List Token) → new ≡ old ++ step ∷ []
    → walk total (Postfixed primary (map step_of old ++ step_of step ∷ []) (T.at_step (step_of step)).span.to spot) ts ≡ walk total
    (Postfixed primary (map step_of new) step.span.to spot) ts
step_pushed total primary old new to step spot ts h =
    ap (λ at. walk total (Postfixed primary (map step_of old ++ step_of step ∷ []) at.span.to spot) ts) (step_at step)
    ∙ ap (λ l. walk total (Postfixed primary l step.span.to spot) ts) (sym (ap (map step_of) h ∙ map-append step_of old (step ∷ [])))
