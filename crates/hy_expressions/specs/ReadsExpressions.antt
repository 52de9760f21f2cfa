-- What the functions that read an expression, or a part of one, ensure.
use Rattle.std.specs.Prelude.{◌≡◌, ◌≤◌, ◌<◌, ◌++◌, ◌∷◌, [], ℕ, Bool, true, false, Option, Some, None, Result, Ok, Err, List, length, OnOk}
use Rattle.std.specs.Option.{option_map}
use denote.Ref.{MutBor}
use Rattle.std.specs.declared.alloc.Global.{Global}
use Rattle.hy_base.specs.declared.position.Span.{Span}
use Rattle.hy_lexer.specs.declared.token.Token.{Token}
use Rattle.hy_lexer.specs.declared.token.TokenKind.{TokenKind}
use Rattle.hy_lexer.specs.declared.token.TokenKind.TheVariants as k
use Rattle.hy_tree.specs.Denotes.{expr_of, step_of, arg_of, choice_of}
use Rattle.hy_tree.specs.declared.expression.Arg.{Arg}
use Rattle.hy_tree.specs.declared.expression.Choice.{Choice}
use Rattle.hy_tree.specs.declared.expression.Expr.{Expr}
use Rattle.hy_tree.specs.declared.expression.Step.{Step}
use Rattle.hy_tree.specs.Tree as T
use Rattle.hy_expressions.specs.declared.expressions.Brackets.{Brackets}
use Rattle.hy_expressions.specs.declared.expressions.Brackets.TheVariants as b
use Rattle.hy_expressions.specs.declared.expressions.Prefix.{Prefix}
use Rattle.hy_phrases.specs.declared.operators.Infix.{Infix}
use Rattle.hy_phrases.specs.declared.operators.Level.TheVariants as level
use Rattle.hy_phrases.specs.declared.tiers.Tiers.{Tiers}
use Rattle.hy_phrases.specs.declared.mark.Mark.{Mark}
use Rattle.hy_phrases.specs.declared.mark.Mark.TheVariants as mark
use Rattle.hy_phrases.specs.declared.stop.Stop.{Stop}
use Rattle.hy_phrases.specs.declared.stop.Stop.TheVariants as stop
use Rattle.hy_phrases.specs.declared.stream.Tokens.{Tokens}
use Rattle.hy_grammar.specs.ExprSteps.{operand_of, callee}
use Rattle.hy_phrases.specs.Infixes.{infix_at}
use Rattle.hy_grammar.specs.Kinds.{prefix_of, infix_of}
use Rattle.hy_phrases.specs.OpenChains.{tiers_of}
use Rattle.hy_grammar.specs.Nodes as node
use Rattle.hy_grammar.specs.OperandSteps.{no_prefixes, beginning, at_operand}
use Rattle.hy_phrases.specs.Reads.{Reads}
use Rattle.hy_grammar.specs.Stack as stack
use Rattle.hy_phrases.specs.Wanted.{tail}
use Rattle.hy_grammar.specs.Stack.{Callee, Spot, InExpr, State, Use, ForElement, ForArgument, ForCondition, Operand, Postfixed, Operated, Valued, Dotted}
use Rattle.hy_grammar.specs.Stack.{PartsOpened, ArgumentsOpened, ArgumentWanted, ArgumentsRead, ArrayWord, ChoiceElse}

abbrev pub IsExpression : ℕ → List Token → Result Expr Stop → List Token → Type 0
IsExpression levels = Reads {X = Use} levels expr_of (λ u. Operand (beginning u)) Valued

-- OPERANDS

-- an operand with the operators before it, in an expression with these chains
abbrev pub IsOperand : ℕ → List Token → Result Expr Stop → List Token → Type 0
IsOperand levels = Reads {X = stack.Tiers × Use} levels expr_of (λ x. Operand (InExpr no_prefixes x.0 x.1)) (λ e x. Operated e x.0 x.1)

abbrev pub prefix_at : Prefix → stack.Prefix
prefix_at p = record { operator = p.operator; token = p.token }

-- the operator that comes next, where it stands before an operand
abbrev pub IsPrefixAhead : List Token → Option Prefix → Type 0
IsPrefixAhead old None = (t : Token) (more : List Token) → old ≡ t ∷ more → prefix_of t.kind ≡ None
IsPrefixAhead old (Some p) = (t : Token) × (old ≡ t ∷ tail old) × (prefix_of t.kind ≡ Some p.operator) × (t.span ≡ p.token)

-- this operator between operands comes next
pub record IsOperator (old : List Token) (found : Infix) : Type 0 where
  pub token : Token
  pub front : old ≡ token ∷ tail old
  pub is : infix_of token.kind ≡ infix_at (Some found)

-- the operator between operands that comes next, if one does; a second comparison cannot stand after one
abbrev pub IsOperatorAhead : Bool → List Token → Result (Option Infix) Stop → Type 0
IsOperatorAhead compares old (Ok None) = (t : Token) (more : List Token) → old ≡ t ∷ more → infix_of t.kind ≡ None
IsOperatorAhead compares old (Ok (Some found)) = IsOperator old found × (found.level ≡ level.Comparison → compares ≡ false)
IsOperatorAhead compares old (Err e) = (found : Infix) × IsOperator old found × (found.level ≡ level.Comparison) × (compares ≡ true)
    × (e ≡ stop.Unexpected (length old))

abbrev pub operated_of : Tiers × Expr → stack.Tiers × T.Expr
operated_of x = (tiers_of x.0, expr_of x.1)

-- an operator with the operand after it, in an expression with these chains
abbrev pub IsOperated : ℕ → T.Expr → stack.Tiers → List Token → Result (Tiers × Expr) Stop → List Token → Type 0
IsOperated levels operand tiers = Reads {X = Use} levels operated_of (λ u. Operated operand tiers u) (λ r u. Operated r.1 r.0 u)

-- a token that may stand before a postfix expression
abbrev pub before_postfix : TokenKind → Bool
before_postfix k.Minus = true
before_postfix k.Not = true
before_postfix k.Ampersand = true
before_postfix _ = false

-- Where these tokens are left, only a postfix expression may come: a token that may stand before one cannot stand here.
pub record PostfixSpot (old : List Token) : Type 0 where
  pub spot : Spot
  pub begins : (t : Token) (more : List Token) → old ≡ t ∷ more → before_postfix t.kind ≡ true → at_operand t.kind t.span spot ≡ None

-- the operand with the operators before it was read
abbrev pub operated : T.Expr → Spot → State
operated e (InExpr prefixes tiers u) = Operated (operand_of prefixes e) tiers u

abbrev pub IsPostfix : ℕ → List Token → Result Expr Stop → List Token → Type 0
IsPostfix levels old = Reads {X = PostfixSpot old} levels expr_of (λ x. Operand x.spot) (λ e x. operated e x.spot) old

abbrev pub IsPrimary : ℕ → List Token → Result Expr Stop → List Token → Type 0
IsPrimary levels old = Reads {X = PostfixSpot old} levels expr_of (λ x. Operand x.spot) (λ e x. Postfixed e [] 0 x.spot) old

-- `Array<type>()`, after its word
abbrev pub IsEmptyArray : ℕ → Span → List Token → Result Expr Stop → List Token → Type 0
IsEmptyArray levels word = Reads {X = Spot} levels expr_of (ArrayWord word) (λ e spot. Postfixed e [] 0 spot)

-- expressions in parentheses, after the `(`
abbrev pub IsParts : ℕ → Span → List Token → Result Expr Stop → List Token → Type 0
IsParts levels bracket = Reads {X = Spot} levels expr_of (PartsOpened bracket) (λ e spot. Postfixed e [] 0 spot)

-- expressions in brackets, after the `[`
abbrev pub IsArray : ℕ → Span → List Token → Result Expr Stop → List Token → Type 0
IsArray levels bracket = Reads {X = Spot} levels expr_of (λ spot. Operand (beginning (ForElement bracket [] spot))) (λ e spot. Postfixed e [] 0 spot)

-- CHOICES

-- where an `if` stands that is an expression: where the first one begins, and the choices before
pub record ChoiceSpot : Type 0 where
  pub from : ℕ
  pub choices : List T.Choice
  pub spot : Spot

-- `if expr { expr } else`, after the `if`
abbrev pub IsChoice : ℕ → Span → List Token → Result Choice Stop → List Token → Type 0
IsChoice levels word =
    Reads {X = ChoiceSpot} levels choice_of (λ x. Operand (beginning (ForCondition x.from x.choices word x.spot)))
    (λ c x. ChoiceElse x.from (x.choices ++ c ∷ []) x.spot)

-- an `if` that is an expression, after its first word
abbrev pub IsChoices : ℕ → Span → List Token → Result Expr Stop → List Token → Type 0
IsChoices levels word = Reads {X = Spot} levels expr_of (λ spot. Operand (beginning (ForCondition word.from [] word spot))) (λ e spot. Postfixed e [] 0 spot)

-- STEPS

-- where a step stands: after the steps before, the last of which ends there
pub record StepSpot : Type 0 where
  pub steps : List T.Step
  pub to : ℕ
  pub spot : Spot

abbrev pub after_step : T.Expr → Option T.Step → StepSpot → State
after_step primary None x = operated (node.postfix primary x.steps x.to) x.spot
after_step primary (Some step) x = Postfixed primary (x.steps ++ step ∷ []) (T.at_step step).span.to x.spot

-- the next step after a primary expression, or none where it ends
abbrev pub IsNextStep : ℕ → T.Expr → List Token → Result (Option Step) Stop → List Token → Type 0
IsNextStep levels primary = Reads {X = StepSpot} levels (option_map step_of) (λ x. Postfixed primary x.steps x.to x.spot) (after_step primary)

-- fewer tokens are left where there is one
abbrev pub Shrinks : {A : Type 0} → Result (Option A) Stop → ℕ → ℕ → Type 0
Shrinks (Ok (Some one)) old new = new < old
Shrinks _ old new = Unit {0}

-- a step after its `.`
abbrev pub IsDotted : T.Expr → List Token → Result Step Stop → List Token → Type 0
IsDotted primary old result new = (levels : ℕ)
    → Reads {X = StepSpot} levels step_of (λ x. Dotted primary x.steps x.spot) (λ s x. after_step primary (Some s) x) old result new

abbrev pub brackets_of : Brackets → stack.Brackets
brackets_of b.Round = stack.Round
brackets_of b.Square = stack.Square

abbrev pub IsOpening : TokenKind → Brackets → Type 0
IsOpening kind b.Round = kind ≡ k.LeftParen
IsOpening kind b.Square = kind ≡ k.LeftBracket

abbrev pub closing : Brackets → Mark
closing b.Round = mark.RightParen
closing b.Square = mark.RightBracket

-- a step after its `(` or `[`
abbrev pub IsArguments : ℕ → T.Expr → Brackets → List Token → Result Step Stop → List Token → Type 0
IsArguments levels primary brackets =
    Reads {X = StepSpot} levels step_of (λ x. ArgumentsOpened (callee primary x.steps (brackets_of brackets)) x.spot) (λ s x. after_step primary (Some s) x)

-- where an argument stands: after the arguments before
pub record ArgumentSpot : Type 0 where
  pub callee : Callee
  pub args : List T.Arg
  pub spot : Spot

abbrev pub IsArgument : ℕ → List Token → Result Arg Stop → List Token → Type 0
IsArgument levels =
    Reads {X = ArgumentSpot} levels arg_of (λ x. ArgumentWanted x.callee x.args x.spot) (λ a x. ArgumentsRead x.callee (x.args ++ a ∷ []) x.spot)

-- the label of an argument, if it has one
abbrev pub IsLabel : List Token → Result (Option (List ℕ)) Stop → List Token → Type 0
IsLabel old result new = (levels : ℕ)
    → Reads {X = ArgumentSpot} levels (λ label. label) (λ x. ArgumentWanted x.callee x.args x.spot)
    (λ label x. Operand (beginning (ForArgument x.callee x.args label x.spot))) old result new

-- A function value that reads an expression where fewer levels than these are left.
pub record NestsExpressions (levels : ℕ) (pre : Global → MutBor Tokens → ℕ → Type 0) (post : Global → MutBor Tokens → ℕ → Result Expr Stop → MutBor Tokens
    → Type 0) : Type 0 where
  pub callable : (alloc : Global) (old : MutBor Tokens) (inner : ℕ) → inner < levels → pre alloc old inner
  pub reads : (alloc : Global) (old new : MutBor Tokens) (inner : ℕ) (r : Result Expr Stop) → inner < levels → post alloc old inner r new
      → IsExpression inner old.now.rest.now r new.now.rest.now
  pub within : (alloc : Global) (old new : MutBor Tokens) (inner : ℕ) (r : Result Expr Stop) → inner < levels → post alloc old inner r new
      → length new.now.rest.now ≤ length old.now.rest.now
  pub progress : (alloc : Global) (old new : MutBor Tokens) (inner : ℕ) (r : Result Expr Stop) → inner < levels → post alloc old inner r new
      → OnOk r (length new.now.rest.now < length old.now.rest.now)
