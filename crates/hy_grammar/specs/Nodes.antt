-- The nodes of the tree, each made of its parts and of where it stands. All have the number 0.
use Rattle.std.specs.Prelude.{ℕ, ℤ, Bool, List, [], ◌∷◌, Option, Some, None}
use Rattle.hy_base.specs.declared.position.Span.{Span}
use Rattle.hy_tree.specs.Tree as T
use Rattle.hy_tree.specs.declared.declaration.CallableKind.{CallableKind}
use Rattle.hy_tree.specs.declared.declaration.Label.{Label}
use Rattle.hy_tree.specs.declared.declaration.TypeParam.{TypeParam}
use Rattle.hy_tree.specs.declared.name.Name.{Name}
use Rattle.hy_tree.specs.declared.name.NameUse.{NameUse}
use Rattle.hy_tree.specs.declared.operator.Arithmetic.{Arithmetic}
use Rattle.hy_tree.specs.declared.operator.Introducer.{Introducer}
use Rattle.hy_tree.specs.declared.operator.Mode.{Mode}
use Rattle.hy_tree.specs.declared.operator.Operator.{Operator}
use Rattle.hy_tree.specs.declared.operator.UnaryOperator.{UnaryOperator}

abbrev pub at : ℕ → ℕ → T.At
at from to = record { span = record { from = from; to = to }; node = 0 }

abbrev pub spelled : List ℕ → Span → Name
spelled text span = record { text = text; span = span }

abbrev pub used : List ℕ → Span → NameUse
used text span = record { text = text; span = span; node = 0 }

-- TYPES

abbrev pub type_from : T.TypeExp → ℕ
type_from written = (T.at_type written).span.from

abbrev pub type_to : T.TypeExp → ℕ
type_to written = (T.at_type written).span.to

unfoldable pub named_type : List ℕ → Span → T.TypeExp
named_type text token = T.NamedType (spelled text token) (at token.from token.to)

unfoldable pub self_type : Span → T.TypeExp
self_type token = T.SelfType token (at token.from token.to)

-- from the token `Array` to the token `>`
unfoldable pub array_type : Span → T.TypeExp → Span → T.TypeExp
array_type word element close = T.ArrayType element (at word.from close.to)

-- Types in parentheses are a tuple, but one alone is itself.
unfoldable pub types : Span → List T.TypeExp → Span → T.TypeExp
types bracket (one ∷ []) close = T.enclosed_type (record { from = bracket.from; to = close.to }) one
types bracket parts close = T.TupleType (T.types parts) (at bracket.from close.to)

-- EXPRESSIONS

abbrev pub from : T.Expr → ℕ
from e = (T.at_expr e).span.from

abbrev pub to : T.Expr → ℕ
to e = (T.at_expr e).span.to

unfoldable pub number : ℤ → Span → T.Expr
number n token = T.Number n (at token.from token.to)

unfoldable pub truth : Bool → Span → T.Expr
truth b token = T.Truth b (at token.from token.to)

unfoldable pub named : List ℕ → Span → T.Expr
named text token = T.Named (spelled text token) (at token.from token.to)

unfoldable pub self_value : Span → T.Expr
self_value token = T.SelfValue token (at token.from token.to)

-- from the token `Array` to the token `)`
unfoldable pub empty_array : Span → T.TypeExp → Span → T.Expr
empty_array word element close = T.EmptyArray element (at word.from close.to)

-- Expressions in parentheses are a tuple, but one alone is itself.
unfoldable pub parts : Span → List T.Expr → Span → T.Expr
parts bracket (one ∷ []) close = T.enclosed (record { from = bracket.from; to = close.to }) one
parts bracket es close = T.Tuple (T.exprs es) (at bracket.from close.to)

unfoldable pub array : Span → List T.Expr → Span → T.Expr
array bracket es close = T.Array (T.exprs es) (at bracket.from close.to)

abbrev pub choice : Span → T.Expr → T.Expr → T.Choice
choice word condition value = record { token = word; condition = condition; value = value }

-- from the first `if`, which begins there, to the last brace
unfoldable pub if_else : ℕ → List T.Choice → T.Expr → Span → T.Expr
if_else from choices otherwise close = T.IfElse (T.choices choices) otherwise (at from close.to)

-- STEPS, of a postfix expression with this primary expression

unfoldable pub member_step : T.Expr → List ℕ → Span → T.Step
member_step primary text token = T.MemberStep (spelled text token) (at (from primary) token.to)

unfoldable pub part_step : T.Expr → ℤ → Span → T.Step
part_step primary n token = T.PartStep n (at (from primary) token.to)

abbrev pub arg : Option (List ℕ) → T.Expr → T.Arg
arg label value = record { label = label; value = value }

unfoldable pub call_step : T.Expr → List T.Arg → Span → T.Step
call_step primary args close = T.CallStep (T.args args) (at (from primary) close.to)

unfoldable pub index_step : T.Expr → List T.Arg → Span → T.Step
index_step primary args close = T.IndexStep (T.args args) (at (from primary) close.to)

-- a primary expression with the steps after it, the last of which ends there
unfoldable pub postfix : T.Expr → List T.Step → ℕ → T.Expr
postfix primary [] end = primary
postfix primary (step ∷ more) end = T.Postfix primary (T.steps (step ∷ more)) (at (from primary) end)

-- OPERATORS

unfoldable pub unary : UnaryOperator → Span → T.Expr → T.Expr
unary operator token operand = T.Unary operator operand (at token.from (to operand))

-- with its `&`
unfoldable pub marked : Span → T.Expr → T.Expr
marked token operand = T.Marked operand (at token.from (to operand))

-- an operator with its right operand, in a chain with this first operand
abbrev pub link : T.Expr → Operator → Span → T.Expr → T.Link
link first operator token operand = record { operator = operator; token = token; operand = operand; at = at (from first) (to operand) }

-- a chain of operators of one level; `last` is the last operand
unfoldable pub chain : T.Expr → List T.Link → T.Expr → T.Expr
chain first [] last = first
chain first (l ∷ more) last = T.Chain first (T.links (l ∷ more)) (at (from first) (to last))

-- STATEMENTS

-- from the brace to the brace
unfoldable pub block : Span → List T.Stmt → Span → T.Block
block bracket ss close = T.Braces (T.stmts ss) (at bracket.from close.to)

abbrev pub block_to : T.Block → ℕ
block_to b = (T.at_block b).span.to

unfoldable pub binding : Introducer → Span → Name → Option T.TypeExp → T.Expr → T.Stmt
binding introducer word name written value = T.Binding introducer name written value (at word.from (to value))

unfoldable pub declare : Span → Name → T.TypeExp → T.Stmt
declare word name written = T.Declare name written (at word.from (type_to written))

unfoldable pub assign : T.Expr → T.Expr → T.Stmt
assign target value = T.Assign target value (at (from target) (to value))

unfoldable pub compound : T.Expr → Arithmetic → T.Expr → T.Stmt
compound target operator value = T.Compound target operator value (at (from target) (to value))

unfoldable pub evaluate : T.Expr → T.Stmt
evaluate e = T.Evaluate e (at (from e) (to e))

-- `_ = e`
unfoldable pub discard : Span → T.Expr → T.Stmt
discard word e = T.Evaluate e (at word.from (to e))

abbrev pub branch : Span → T.Expr → T.Block → T.Branch
branch word condition body = record { token = word; condition = condition; body = body }

-- from the first `if`, which begins there, to the last brace, which ends there
unfoldable pub if_only : ℕ → List T.Branch → ℕ → T.Stmt
if_only from branches end = T.If (T.branches branches) T.NoElse (at from end)

unfoldable pub if_block : ℕ → List T.Branch → T.Block → T.Stmt
if_block from branches otherwise = T.If (T.branches branches) (T.Else otherwise) (at from (block_to otherwise))

unfoldable pub while : Span → T.Expr → T.Block → T.Stmt
while word condition body = T.While word condition body (at word.from (block_to body))

unfoldable pub return_nothing : Span → T.Stmt
return_nothing word = T.Return word None (at word.from word.to)

unfoldable pub return_value : Span → T.Expr → T.Stmt
return_value word value = T.Return word (Some value) (at word.from (to value))

unfoldable pub leave : Span → T.Stmt
leave word = T.Break (at word.from word.to)

unfoldable pub proceed : Span → T.Stmt
proceed word = T.Continue (at word.from word.to)

unfoldable pub yield_value : Span → T.Expr → T.Stmt
yield_value word value = T.Yield word value (at word.from (to value))

-- DECLARATIONS

unfoldable pub param : ℕ → Label → Name → Mode → T.TypeExp → T.Param
param from label name mode written = record { label = label; name = name; mode = mode; written = written; at = at from (type_to written) }

-- a body without a keyword
unfoldable pub plain_variant : Mode → T.Block → T.Variant
plain_variant mode body = record { mode = mode; keyword = None; value = None; block = body; at = T.at_block body }

unfoldable pub variant : Mode → Span → Option Name → T.Block → T.Variant
variant mode word value body = record { mode = mode; keyword = Some word; value = value; block = body; at = at word.from (block_to body) }

abbrev pub type_param : Name → List NameUse → TypeParam
type_param name bounds = record { name = name; bounds = bounds }

unfoldable pub callable : CallableKind → Span → Option Name → List TypeParam → List T.Param → Option Mode → Option T.TypeExp → List T.Variant → ℕ → T.Callable
callable kind keyword name generics params effect result variants end =
    record {
      kind = kind;
      keyword = keyword;
      name = name;
      generics = generics;
      params = params;
      effect = effect;
      result = result;
      variants = variants;
      at =
          at keyword.from end;
    }

unfoldable pub product : Span → Name → List NameUse → List T.Member → Span → T.Product
product keyword name traits members close = record { name = name; traits = traits; members = members; at = at keyword.from close.to }

unfoldable pub trait : Span → Name → List T.Member → Span → T.TraitDef
trait keyword name members close = record { name = name; members = members; at = at keyword.from close.to }

unfoldable pub conformance : Span → NameUse → List NameUse → List T.Member → Span → T.Conform
conformance keyword target traits members close = record { target = target; traits = traits; members = members; at = at keyword.from close.to }

-- a member of so many tokens
unfoldable pub member : Bool → T.MemberKind → ℕ → ℕ → ℕ → T.Member
member public kind tokens from end = record { public = public; kind = kind; tokens = tokens; at = at from end }

unfoldable pub decl : Bool → T.DeclKind → ℕ → ℕ → ℕ → T.Decl
decl public kind tokens from end = record { public = public; kind = kind; tokens = tokens; at = at from end }

abbrev pub decls_from : List T.Decl → ℕ
decls_from [] = 0
decls_from (d ∷ more) = d.at.span.from

-- the declarations of a file whose last token ends there
unfoldable pub program : List T.Decl → ℕ → T.Program
program decls end = record { decls = decls; at = at (decls_from decls) end }
