-- How the machine goes on at a token that begins an operand.
use Rattle.std.specs.Prelude.{true, false, [], ◌∷◌, ◌++◌, Option, Some, None}
use Rattle.hy_base.specs.declared.position.Span.{Span}
use Rattle.hy_lexer.specs.declared.token.TokenKind.{TokenKind}
use Rattle.hy_lexer.specs.declared.token.TokenKind.TheVariants as k
use Rattle.hy_tree.specs.declared.operator.UnaryOperator.{UnaryOperator}
use Rattle.hy_tree.specs.declared.operator.UnaryOperator.TheVariants as unary
use Rattle.hy_grammar.specs.Nodes as node
use Rattle.hy_grammar.specs.Stack.{Prefixes, Tiers, NoChain, Use, ForElement, ForCondition, Spot, InExpr, State, Operand, Postfixed, PartsOpened, ArrayWord}

abbrev pub no_prefixes : Prefixes
no_prefixes = record { operators = []; mark = None }

abbrev pub no_chains : Tiers
no_chains = record { disjunction = NoChain; conjunction = NoChain; comparison = NoChain; addition = NoChain; multiplication = NoChain }

-- the first operand of an expression
abbrev pub beginning : Use → Spot
beginning u = InExpr no_prefixes no_chains u

-- After a `&` comes a postfix expression.
abbrev pub unless_marked : {A : Type 0} → Option Span → A → Option A
unless_marked None a = Some a
unless_marked (Some token) a = None

abbrev pub with_operator : UnaryOperator → Span → Spot → Option State
with_operator operator t (InExpr prefixes tiers u) =
    unless_marked prefixes.mark
    (Operand (InExpr (record prefixes { operators = prefixes.operators ++ record { operator = operator; token = t } ∷ [] }) tiers u))

abbrev pub with_mark : Span → Spot → Option State
with_mark t (InExpr prefixes tiers u) = unless_marked prefixes.mark (Operand (InExpr (record prefixes { mark = Some t }) tiers u))

abbrev pub at_operand : TokenKind → Span → Spot → Option State
at_operand (k.Number n) t spot = Some (Postfixed (node.number n t) [] 0 spot)
at_operand k.True t spot = Some (Postfixed (node.truth true t) [] 0 spot)
at_operand k.False t spot = Some (Postfixed (node.truth false t) [] 0 spot)
at_operand (k.Name text) t spot = Some (Postfixed (node.named text t) [] 0 spot)
at_operand k.SelfValue t spot = Some (Postfixed (node.self_value t) [] 0 spot)
at_operand k.Array t spot = Some (ArrayWord t spot)
at_operand k.LeftParen t spot = Some (PartsOpened t spot)
at_operand k.LeftBracket t spot = Some (Operand (beginning (ForElement t [] spot)))
at_operand k.If t spot = Some (Operand (beginning (ForCondition t.from [] t spot)))
at_operand k.Minus t spot = with_operator unary.Negate t spot
at_operand k.Not t spot = with_operator unary.Not t spot
at_operand k.Ampersand t spot = with_mark t spot
at_operand _ t spot = None
