-- What kinds of tokens stand for in the grammar.
use Rattle.std.specs.Prelude.{◌≡◌, ℕ, Bool, true, false, List, Option, Some, None}
use Rattle.hy_lexer.specs.declared.token.Token.{Token}
use Rattle.hy_lexer.specs.declared.token.TokenKind.{TokenKind}
use Rattle.hy_lexer.specs.declared.token.TokenKind.TheVariants as k
use Rattle.hy_tree.specs.declared.operator.Arithmetic.{Arithmetic}
use Rattle.hy_tree.specs.declared.operator.Arithmetic.TheVariants as arithmetic
use Rattle.hy_tree.specs.declared.operator.Introducer.{Introducer}
use Rattle.hy_tree.specs.declared.operator.Introducer.TheVariants as introducer
use Rattle.hy_tree.specs.declared.operator.Mode.{Mode}
use Rattle.hy_tree.specs.declared.operator.Mode.TheVariants as mode
use Rattle.hy_tree.specs.declared.operator.Operator.{Operator}
use Rattle.hy_tree.specs.declared.operator.Operator.TheVariants as operator
use Rattle.hy_tree.specs.declared.operator.UnaryOperator.{UnaryOperator}
use Rattle.hy_tree.specs.declared.operator.UnaryOperator.TheVariants as unary

abbrev pub Is : Token → TokenKind → Type 0
Is t kind = t.kind ≡ kind

-- the levels of operators, from the loosest to the tightest
pub data Level : Type 0 where
  Disjunction : Level
  Conjunction : Level
  Comparison : Level
  Addition : Level
  Multiplication : Level

-- an operator between two operands, with its level
pub record Infix : Type 0 where
  pub level : Level
  pub operator : Operator

abbrev pub tier : Level → Operator → Option Infix
tier level operator = Some (record { level = level; operator = operator })

abbrev pub infix_of : TokenKind → Option Infix
infix_of k.OrOr = tier Disjunction operator.Or
infix_of k.AndAnd = tier Conjunction operator.And
infix_of k.EqualEqual = tier Comparison operator.Equal
infix_of k.NotEqual = tier Comparison operator.NotEqual
infix_of k.Less = tier Comparison operator.Less
infix_of k.LessEqual = tier Comparison operator.LessEqual
infix_of k.Greater = tier Comparison operator.Greater
infix_of k.GreaterEqual = tier Comparison operator.GreaterEqual
infix_of k.Plus = tier Addition (operator.Arithmetic arithmetic.Add)
infix_of k.Minus = tier Addition (operator.Arithmetic arithmetic.Subtract)
infix_of k.Star = tier Multiplication (operator.Arithmetic arithmetic.Multiply)
infix_of k.Slash = tier Multiplication (operator.Arithmetic arithmetic.Divide)
infix_of k.Percent = tier Multiplication (operator.Arithmetic arithmetic.Remainder)
infix_of _ = None

-- an operator before its operand
abbrev pub prefix_of : TokenKind → Option UnaryOperator
prefix_of k.Minus = Some unary.Negate
prefix_of k.Not = Some unary.Not
prefix_of _ = None

-- the operator of a compound assignment
abbrev pub compound_of : TokenKind → Option Arithmetic
compound_of k.PlusEqual = Some arithmetic.Add
compound_of k.MinusEqual = Some arithmetic.Subtract
compound_of k.StarEqual = Some arithmetic.Multiply
compound_of k.SlashEqual = Some arithmetic.Divide
compound_of k.PercentEqual = Some arithmetic.Remainder
compound_of _ = None

-- the word that begins a binding
abbrev pub introducer_of : TokenKind → Option Introducer
introducer_of k.Var = Some introducer.Var
introducer_of k.Let = Some introducer.Let
introducer_of k.Inout = Some introducer.Inout
introducer_of _ = None

-- the convention of `self`, and of a variant
abbrev pub effect_of : TokenKind → Option Mode
effect_of k.Let = Some mode.Let
effect_of k.Inout = Some mode.Inout
effect_of k.Sink = Some mode.Sink
effect_of _ = None

-- the convention of a parameter of a function or a method
abbrev pub function_mode_of : TokenKind → Option Mode
function_mode_of k.Set = Some mode.Set
function_mode_of kind = effect_of kind

-- the convention of a parameter of a subscript
abbrev pub subscript_mode_of : TokenKind → Option Mode
subscript_mode_of k.Yielded = Some mode.Yielded
subscript_mode_of kind = effect_of kind

-- what ends a statement
pub data Ending : Type 0 where
  -- an expression, which a token on the next line may continue
  OpenEnd : Ending
  ClosedEnd : Ending

-- A token that goes on with an expression although it is the first on its line: an operator between operands, `.`, and an
-- assignment.
abbrev pub continues_expression : TokenKind → Bool
continues_expression k.OrOr = true
continues_expression k.AndAnd = true
continues_expression k.EqualEqual = true
continues_expression k.NotEqual = true
continues_expression k.Less = true
continues_expression k.LessEqual = true
continues_expression k.Greater = true
continues_expression k.GreaterEqual = true
continues_expression k.Plus = true
continues_expression k.Minus = true
continues_expression k.Star = true
continues_expression k.Slash = true
continues_expression k.Percent = true
continues_expression k.Dot = true
continues_expression k.Equal = true
continues_expression k.PlusEqual = true
continues_expression k.MinusEqual = true
continues_expression k.StarEqual = true
continues_expression k.SlashEqual = true
continues_expression k.PercentEqual = true
continues_expression _ = false

-- A token that goes on with another statement although it is the first on its line: `else`, and the `=` of a binding.
abbrev pub continues_statement : TokenKind → Bool
continues_statement k.Else = true
continues_statement k.Equal = true
continues_statement _ = false

abbrev pub continues : Ending → TokenKind → Bool
continues OpenEnd kind = continues_expression kind
continues ClosedEnd kind = continues_statement kind

-- A token separates two statements: it is the first on its line, and does not go on with the first of them.
pub record BeginsNext (ending : Ending) (t : Token) : Type 0 where
  pub on_next_line : t.first ≡ true
  pub no_more : continues ending t.kind ≡ false

-- ONE KIND IS WANTED

abbrev pub left_paren : {A : Type 0} → TokenKind → A → Option A
left_paren k.LeftParen a = Some a
left_paren _ a = None

abbrev pub right_paren : {A : Type 0} → TokenKind → A → Option A
right_paren k.RightParen a = Some a
right_paren _ a = None

abbrev pub right_bracket : {A : Type 0} → TokenKind → A → Option A
right_bracket k.RightBracket a = Some a
right_bracket _ a = None

abbrev pub left_brace : {A : Type 0} → TokenKind → A → Option A
left_brace k.LeftBrace a = Some a
left_brace _ a = None

abbrev pub right_brace : {A : Type 0} → TokenKind → A → Option A
right_brace k.RightBrace a = Some a
right_brace _ a = None

abbrev pub less : {A : Type 0} → TokenKind → A → Option A
less k.Less a = Some a
less _ a = None

abbrev pub greater : {A : Type 0} → TokenKind → A → Option A
greater k.Greater a = Some a
greater _ a = None

abbrev pub equal : {A : Type 0} → TokenKind → A → Option A
equal k.Equal a = Some a
equal _ a = None

abbrev pub colon : {A : Type 0} → TokenKind → A → Option A
colon k.Colon a = Some a
colon _ a = None

abbrev pub else_word : {A : Type 0} → TokenKind → A → Option A
else_word k.Else a = Some a
else_word _ a = None

abbrev pub init_word : {A : Type 0} → TokenKind → A → Option A
init_word k.Init a = Some a
init_word _ a = None

-- a name is wanted, and its text is handed on
abbrev pub name : {A : Type 0} → TokenKind → (List ℕ → A) → Option A
name (k.Name text) make = Some (make text)
name _ make = None

abbrev pub if_word : TokenKind → Bool
if_word k.If = true
if_word _ = false
