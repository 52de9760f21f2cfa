-- What the plain tree of each variant is.
use Rattle.std.proofs.Common.{◌≡◌, ℕ, ℤ, Bool, List, [], ◌∷◌, Option, Some, None, refl, ap, sym, ◌∙◌}
use Rattle.std.specs.Option.{option_map}
use Rattle.hy_base.specs.declared.position.Span.{Span}
use Rattle.hy_tree.specs.declared.expression.Arg.{Arg}
use Rattle.hy_tree.specs.declared.expression.Choice.{Choice}
use Rattle.hy_tree.specs.declared.expression.Expr.{Expr}
use Rattle.hy_tree.specs.declared.expression.ExprKind.TheBlock.{shape-the_row-Expr-0, hidden-the_row-Expr-0, shape-the_row-Expr-3, hidden-the_row-Expr-3}
use Rattle.hy_tree.specs.declared.expression.ExprKind.TheBlock.{shape-the_row-Link-1, hidden-the_row-Link-1, shape-the_row-Step-2, hidden-the_row-Step-2}
use Rattle.hy_tree.specs.declared.expression.ExprKind.TheBlock.{shape-the_row-Choice-4, hidden-the_row-Choice-4, shape-the_row-Arg-5, hidden-the_row-Arg-5}
use Rattle.hy_tree.specs.declared.expression.ExprKind.TheVariants as E
use Rattle.hy_tree.specs.declared.expression.Link.{Link}
use Rattle.hy_tree.specs.declared.expression.Step.{Step}
use Rattle.hy_tree.specs.declared.expression.StepKind.TheVariants as S
use Rattle.hy_tree.specs.declared.name.Name.{Name}
use Rattle.hy_tree.specs.declared.operator.Arithmetic.{Arithmetic}
use Rattle.hy_tree.specs.declared.operator.Introducer.{Introducer}
use Rattle.hy_tree.specs.declared.operator.UnaryOperator.{UnaryOperator}
use Rattle.hy_tree.specs.declared.statement.Block.{Block, out-Block, roll-Block, roll-out-Block}
use Rattle.hy_tree.specs.declared.statement.Branch.{Branch, roll-Branch, roll-out-Branch}
use Rattle.hy_tree.specs.declared.statement.Stmt.{Stmt}
use Rattle.hy_tree.specs.declared.statement.StmtKind.TheBlock.{shape-the_row-Branch-0, hidden-the_row-Branch-0, shape-the_row-Stmt-1, hidden-the_row-Stmt-1}
use Rattle.hy_tree.specs.declared.statement.StmtKind.TheVariants as K
use Rattle.hy_tree.specs.declared.written.TypeExp.{TypeExp}
use Rattle.hy_tree.specs.declared.written.TypeKind.TheBlock.{shape-the_row-TypeExp-0, hidden-the_row-TypeExp-0, shape-the_row-TypeExp-1}
use Rattle.hy_tree.specs.declared.written.TypeKind.TheBlock.{hidden-the_row-TypeExp-1}
use Rattle.hy_tree.specs.declared.written.TypeKind.TheVariants as Y
use Rattle.hy_tree.specs.Denotes.{placed, type_kind_of, type_row, type_of, types_of, expr_kind_of, expr_row, expr_of, exprs_of, link_row, links_of}
use Rattle.hy_tree.specs.Denotes.{step_kind_of, step_row, step_of, steps_of, arg_row, args_of, choice_row, choices_of, stmt_kind_of, stmt_row, stmt_of}
use Rattle.hy_tree.specs.Denotes.{stmts_of, block_of, branch_row, then_branch, branch_of, branches_of, else_of}
use Rattle.hy_tree.specs.Tree as T

-- WRITTEN TYPES

type_row_is : (parts : List TypeExp) → type_row (hidden-the_row-TypeExp-1 parts) ≡ types_of parts
unfolding type_kind_of shape-the_row-TypeExp-1 hidden-the_row-TypeExp-1 denote.Hole.Carrier.hidden
type_row_is [] = refl
type_row_is (part ∷ more) = ap (T.ThenType (type_of part)) (type_row_is more)

pub named_type_is : (name : Name) (at : T.At) → type_kind_of (Y.Name name) at ≡ T.NamedType name at
unfolding type_kind_of
named_type_is name at = refl

pub self_type_is : (token : Span) (at : T.At) → type_kind_of (Y.SelfType token) at ≡ T.SelfType token at
unfolding type_kind_of
self_type_is token at = refl

pub array_type_is : (element : TypeExp) (at : T.At) → type_kind_of (Y.Array element) at ≡ T.ArrayType (type_of element) at
unfolding type_kind_of shape-the_row-TypeExp-0 hidden-the_row-TypeExp-0 denote.Hole.Carrier.hidden
array_type_is element at = refl

pub tuple_type_is : (parts : List TypeExp) (at : T.At) → type_kind_of (Y.Tuple parts) at ≡ T.TupleType (types_of parts) at
unfolding type_kind_of
tuple_type_is parts at = ap (λ r. T.TupleType r at) (type_row_is parts)

pub ruleset type_variants = (named_type_is, self_type_is, array_type_is, tuple_type_is)

-- EXPRESSIONS

expr_row_is : (es : List Expr) → expr_row (hidden-the_row-Expr-3 es) ≡ exprs_of es
unfolding expr_kind_of shape-the_row-Expr-3 hidden-the_row-Expr-3 denote.Hole.Carrier.hidden
expr_row_is [] = refl
expr_row_is (e ∷ more) = ap (T.ThenExpr (expr_of e)) (expr_row_is more)

link_row_is : (links : List Link) → link_row (hidden-the_row-Link-1 links) ≡ links_of links
unfolding expr_kind_of shape-the_row-Link-1 hidden-the_row-Link-1 denote.Hole.Carrier.hidden
link_row_is [] = refl
link_row_is (link ∷ more) = ap (T.ThenLink link.operator link.token (expr_of link.operand) (placed link.span link.node)) (link_row_is more)

step_row_is : (steps : List Step) → step_row (hidden-the_row-Step-2 steps) ≡ steps_of steps
unfolding expr_kind_of shape-the_row-Step-2 hidden-the_row-Step-2 denote.Hole.Carrier.hidden
step_row_is [] = refl
step_row_is (step ∷ more) = ap (T.ThenStep (step_of step)) (step_row_is more)

arg_row_is : (args : List Arg) → arg_row (hidden-the_row-Arg-5 args) ≡ args_of args
unfolding expr_kind_of shape-the_row-Arg-5 hidden-the_row-Arg-5 denote.Hole.Carrier.hidden
arg_row_is [] = refl
arg_row_is (arg ∷ more) = ap (T.ThenArg arg.label (expr_of arg.value)) (arg_row_is more)

choice_row_is : (choices : List Choice) → choice_row (hidden-the_row-Choice-4 choices) ≡ choices_of choices
unfolding expr_kind_of shape-the_row-Choice-4 hidden-the_row-Choice-4 denote.Hole.Carrier.hidden
choice_row_is [] = refl
choice_row_is (choice ∷ more) = ap (T.ThenChoice choice.keyword (expr_of choice.condition) (expr_of choice.value)) (choice_row_is more)

pub chain_is : (first : Expr) (links : List Link) (at : T.At) → expr_kind_of (E.Chain first links) at ≡ T.Chain (expr_of first) (links_of links) at
unfolding expr_kind_of shape-the_row-Expr-0 hidden-the_row-Expr-0 denote.Hole.Carrier.hidden
chain_is first links at = ap (λ r. T.Chain (expr_of first) r at) (link_row_is links)

pub unary_is : (operator : UnaryOperator) (operand : Expr) (at : T.At) → expr_kind_of (E.Unary operator operand) at ≡ T.Unary operator (expr_of operand) at
unfolding expr_kind_of shape-the_row-Expr-0 hidden-the_row-Expr-0 denote.Hole.Carrier.hidden
unary_is operator operand at = refl

pub marked_is : (operand : Expr) (at : T.At) → expr_kind_of (E.Marked operand) at ≡ T.Marked (expr_of operand) at
unfolding expr_kind_of shape-the_row-Expr-0 hidden-the_row-Expr-0 denote.Hole.Carrier.hidden
marked_is operand at = refl

pub postfix_is : (primary : Expr) (steps : List Step) (at : T.At) → expr_kind_of (E.Postfix primary steps) at ≡ T.Postfix (expr_of primary) (steps_of steps) at
unfolding expr_kind_of shape-the_row-Expr-0 hidden-the_row-Expr-0 denote.Hole.Carrier.hidden
postfix_is primary steps at = ap (λ r. T.Postfix (expr_of primary) r at) (step_row_is steps)

pub number_is : (number : ℤ) (at : T.At) → expr_kind_of (E.Number number) at ≡ T.Number number at
unfolding expr_kind_of
number_is number at = refl

pub truth_is : (truth : Bool) (at : T.At) → expr_kind_of (E.Bool truth) at ≡ T.Truth truth at
unfolding expr_kind_of
truth_is truth at = refl

pub named_is : (name : Name) (at : T.At) → expr_kind_of (E.Name name) at ≡ T.Named name at
unfolding expr_kind_of
named_is name at = refl

pub self_is : (token : Span) (at : T.At) → expr_kind_of (E.SelfValue token) at ≡ T.SelfValue token at
unfolding expr_kind_of
self_is token at = refl

pub empty_array_is : (element : TypeExp) (at : T.At) → expr_kind_of (E.EmptyArray element) at ≡ T.EmptyArray (type_of element) at
unfolding expr_kind_of
empty_array_is element at = refl

pub tuple_is : (parts : List Expr) (at : T.At) → expr_kind_of (E.Tuple parts) at ≡ T.Tuple (exprs_of parts) at
unfolding expr_kind_of
tuple_is parts at = ap (λ r. T.Tuple r at) (expr_row_is parts)

pub array_is : (elements : List Expr) (at : T.At) → expr_kind_of (E.Array elements) at ≡ T.Array (exprs_of elements) at
unfolding expr_kind_of
array_is elements at = ap (λ r. T.Array r at) (expr_row_is elements)

pub if_else_is : (choices : List Choice) (otherwise : Expr) (at : T.At)
    → expr_kind_of (E.If choices otherwise) at ≡ T.IfElse (choices_of choices) (expr_of otherwise) at
unfolding expr_kind_of shape-the_row-Expr-0 hidden-the_row-Expr-0 denote.Hole.Carrier.hidden
if_else_is choices otherwise at = ap (λ r. T.IfElse r (expr_of otherwise) at) (choice_row_is choices)

pub ruleset expr_variants = (chain_is, unary_is, marked_is, postfix_is, number_is, truth_is, named_is, self_is, empty_array_is, tuple_is, array_is, if_else_is)

pub member_step_is : (name : Name) (at : T.At) → step_kind_of (S.Member name) at ≡ T.MemberStep name at
unfolding expr_kind_of
member_step_is name at = refl

pub part_step_is : (number : ℤ) (at : T.At) → step_kind_of (S.Part number) at ≡ T.PartStep number at
unfolding expr_kind_of
part_step_is number at = refl

pub call_step_is : (args : List Arg) (at : T.At) → step_kind_of (S.Call args) at ≡ T.CallStep (args_of args) at
unfolding expr_kind_of
call_step_is args at = ap (λ r. T.CallStep r at) (arg_row_is args)

pub index_step_is : (args : List Arg) (at : T.At) → step_kind_of (S.Index args) at ≡ T.IndexStep (args_of args) at
unfolding expr_kind_of
index_step_is args at = ap (λ r. T.IndexStep r at) (arg_row_is args)

pub ruleset step_variants = (member_step_is, part_step_is, call_step_is, index_step_is)

-- STATEMENTS

stmt_row_is : (stmts : List Stmt) → stmt_row (hidden-the_row-Stmt-1 stmts) ≡ stmts_of stmts
unfolding stmt_kind_of shape-the_row-Stmt-1 hidden-the_row-Stmt-1 denote.Hole.Carrier.hidden
stmt_row_is [] = refl
stmt_row_is (stmt ∷ more) = ap (T.ThenStmt (stmt_of stmt)) (stmt_row_is more)

pub made_block_is : (stmts : List Stmt) (span : Span) (node : ℕ)
    → block_of (roll-Block (record { stmts = stmts; span = span; node = node })) ≡ T.Braces (stmts_of stmts) (placed span node)
unfolding stmt_kind_of roll-Block denote.Hole.Carrier.roll
made_block_is stmts span node = ap (λ r. T.Braces r (placed span node)) (stmt_row_is stmts)

pub block_is : (b : Block) → block_of b ≡ T.Braces (stmts_of (out-Block b).stmts) (placed (out-Block b).span (out-Block b).node)
unfolding stmt_kind_of roll-Block denote.Hole.Carrier.roll
block_is b = ap block_of (sym (roll-out-Block b)) ∙ ap (λ r. T.Braces r (placed (out-Block b).span (out-Block b).node)) (stmt_row_is (out-Block b).stmts)

then_branch_is : (branch : Branch) (more : T.Branches)
    → then_branch branch more ≡ T.ThenBranch (branch_of branch).token (branch_of branch).condition (branch_of branch).body more
unfolding stmt_kind_of roll-Branch denote.Hole.Carrier.roll
then_branch_is branch more = ap (λ b. then_branch b more) (sym (roll-out-Branch branch))

branch_row_is : (branches : List Branch) → branch_row (hidden-the_row-Branch-0 branches) ≡ branches_of branches
unfolding stmt_kind_of shape-the_row-Branch-0 hidden-the_row-Branch-0 denote.Hole.Carrier.hidden
branch_row_is [] = refl
branch_row_is (branch ∷ more) = ap (then_branch branch) (branch_row_is more) ∙ then_branch_is branch (branches_of more)

pub binding_is : (introducer : Introducer) (name : Name) (written : Option TypeExp) (value : Expr) (at : T.At)
    → stmt_kind_of (K.Binding introducer name written value) at ≡ T.Binding introducer name (option_map type_of written) (expr_of value) at
unfolding stmt_kind_of
binding_is introducer name written value at = refl

pub declare_is : (name : Name) (written : TypeExp) (at : T.At) → stmt_kind_of (K.Declare name written) at ≡ T.Declare name (type_of written) at
unfolding stmt_kind_of
declare_is name written at = refl

pub assign_is : (target value : Expr) (at : T.At) → stmt_kind_of (K.Assign target value) at ≡ T.Assign (expr_of target) (expr_of value) at
unfolding stmt_kind_of
assign_is target value at = refl

pub compound_is : (target : Expr) (operator : Arithmetic) (value : Expr) (at : T.At)
    → stmt_kind_of (K.Compound target operator value) at ≡ T.Compound (expr_of target) operator (expr_of value) at
unfolding stmt_kind_of
compound_is target operator value at = refl

pub evaluate_is : (value : Expr) (at : T.At) → stmt_kind_of (K.Expr value) at ≡ T.Evaluate (expr_of value) at
unfolding stmt_kind_of
evaluate_is value at = refl

pub if_is : (branches : List Branch) (otherwise : Option Block) (at : T.At)
    → stmt_kind_of (K.If branches otherwise) at ≡ T.If (branches_of branches) (else_of otherwise) at
unfolding stmt_kind_of
if_is branches None at = ap (λ r. T.If r T.NoElse at) (branch_row_is branches)
if_is branches (Some block) at = ap (λ r. T.If r (T.Else (block_of block)) at) (branch_row_is branches)

pub while_is : (token : Span) (condition : Expr) (body : Block) (at : T.At)
    → stmt_kind_of (K.While token condition body) at ≡ T.While token (expr_of condition) (block_of body) at
unfolding stmt_kind_of
while_is token condition body at = refl

pub return_is : (token : Span) (value : Option Expr) (at : T.At) → stmt_kind_of (K.Return token value) at ≡ T.Return token (option_map expr_of value) at
unfolding stmt_kind_of
return_is token value at = refl

pub break_is : (at : T.At) → stmt_kind_of K.Break at ≡ T.Break at
unfolding stmt_kind_of
break_is at = refl

pub continue_is : (at : T.At) → stmt_kind_of K.Continue at ≡ T.Continue at
unfolding stmt_kind_of
continue_is at = refl

pub yield_is : (token : Span) (value : Expr) (at : T.At) → stmt_kind_of (K.Yield token value) at ≡ T.Yield token (expr_of value) at
unfolding stmt_kind_of
yield_is token value at = refl

pub ruleset stmt_variants = (binding_is, declare_is, assign_is, compound_is, evaluate_is, if_is, while_is, return_is, break_is, continue_is, yield_is)
