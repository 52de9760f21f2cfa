-- The plain tree that a tree of the program stands for.
use Rattle.std.specs.Prelude.{ℕ, List, Option, map}
use Rattle.std.specs.Option.{option_map}
use Rattle.hy_base.specs.declared.position.Span.{Span}
use Rattle.hy_tree.specs.Tree as T
use Rattle.hy_tree.specs.declared.declaration.Callable.{Callable}
use Rattle.hy_tree.specs.declared.declaration.Conform.{Conform}
use Rattle.hy_tree.specs.declared.declaration.Decl.{Decl}
use Rattle.hy_tree.specs.declared.declaration.DeclKind.{DeclKind}
use Rattle.hy_tree.specs.declared.declaration.DeclKind.TheVariants as decl
use Rattle.hy_tree.specs.declared.declaration.Member.{Member}
use Rattle.hy_tree.specs.declared.declaration.MemberKind.{MemberKind}
use Rattle.hy_tree.specs.declared.declaration.MemberKind.TheVariants as member
use Rattle.hy_tree.specs.declared.declaration.Param.{Param}
use Rattle.hy_tree.specs.declared.declaration.Product.{Product}
use Rattle.hy_tree.specs.declared.declaration.Program.{Program}
use Rattle.hy_tree.specs.declared.declaration.TraitDef.{TraitDef}
use Rattle.hy_tree.specs.declared.declaration.Variant.{Variant}
use Rattle.hy_tree.specs.declared.expression.Arg.{Arg}
use Rattle.hy_tree.specs.declared.expression.Choice.{Choice}
use Rattle.hy_tree.specs.declared.expression.Expr.{Expr}
use Rattle.hy_tree.specs.declared.expression.ExprKind as E
use Rattle.hy_tree.specs.declared.expression.ExprKind.{ExprKind, Row_of-Expr, end_of-Expr, more_of-Expr, Row_of-Link, end_of-Link, more_of-Link}
use Rattle.hy_tree.specs.declared.expression.ExprKind.{Row_of-Step, end_of-Step, more_of-Step, Row_of-Choice, end_of-Choice, more_of-Choice}
use Rattle.hy_tree.specs.declared.expression.Link.{Link}
use Rattle.hy_tree.specs.declared.expression.Step.{Step}
use Rattle.hy_tree.specs.declared.expression.StepKind as S
use Rattle.hy_tree.specs.declared.expression.StepKind.{StepKind, Row_of-Arg, end_of-Arg, more_of-Arg}
use Rattle.hy_tree.specs.declared.statement.Block.{Block, Block', Row_of-Stmt, end_of-Stmt, more_of-Stmt}
use Rattle.hy_tree.specs.declared.statement.Branch.{Branch, Branch', out-Branch}
use Rattle.hy_tree.specs.declared.statement.Stmt.{Stmt}
use Rattle.hy_tree.specs.declared.statement.StmtKind as K
use Rattle.hy_tree.specs.declared.statement.StmtKind.{StmtKind, Row_of-Branch, end_of-Branch, more_of-Branch, Held-StmtKind-If-1}
use Rattle.hy_tree.specs.declared.written.TypeExp.{TypeExp}
use Rattle.hy_tree.specs.declared.written.TypeKind as Y
use Rattle.hy_tree.specs.declared.written.TypeKind.{TypeKind, Row_of-TypeExp, end_of-TypeExp, more_of-TypeExp}

abbrev pub placed : Span → ℕ → T.At
placed span node = record { span = span; node = node }

-- WRITTEN TYPES
-- A box is a row of one: that a row has no head does not come.

unfoldable mutual
  pub type_kind_of : TypeKind → T.At → T.TypeExp
  type_kind_of (Y.Name name) at = T.NamedType name at
  type_kind_of (Y.SelfType token) at = T.SelfType token at
  type_kind_of (Y.Array' _ element) at = T.ArrayType (type_head element at) at
  type_kind_of (Y.Tuple' _ parts) at = T.TupleType (type_row parts) at

  pub type_head : {n : _} → Row_of-TypeExp n → T.At → T.TypeExp
  type_head end_of-TypeExp at = T.TupleType T.NoType at
  type_head (more_of-TypeExp kind span node _) at = type_kind_of kind (placed span node)

  pub type_row : {n : _} → Row_of-TypeExp n → T.TypeExps
  type_row end_of-TypeExp = T.NoType
  type_row (more_of-TypeExp kind span node more) = T.ThenType (type_kind_of kind (placed span node)) (type_row more)

abbrev pub type_of : TypeExp → T.TypeExp
type_of written = type_kind_of written.kind (placed written.span written.node)

abbrev pub types_of : List TypeExp → T.TypeExps
types_of written = T.types (map type_of written)

-- EXPRESSIONS

unfoldable mutual
  pub expr_kind_of : ExprKind → T.At → T.Expr
  expr_kind_of (E.Chain' _ first _ links) at = T.Chain (expr_head first at) (link_row links) at
  expr_kind_of (E.Unary' operator _ operand) at = T.Unary operator (expr_head operand at) at
  expr_kind_of (E.Marked' _ operand) at = T.Marked (expr_head operand at) at
  expr_kind_of (E.Postfix' _ primary _ steps) at = T.Postfix (expr_head primary at) (step_row steps) at
  expr_kind_of (E.Number number) at = T.Number number at
  expr_kind_of (E.Bool truth) at = T.Truth truth at
  expr_kind_of (E.Name name) at = T.Named name at
  expr_kind_of (E.SelfValue token) at = T.SelfValue token at
  expr_kind_of (E.EmptyArray element) at = T.EmptyArray (type_of element) at
  expr_kind_of (E.Tuple' _ parts) at = T.Tuple (expr_row parts) at
  expr_kind_of (E.Array' _ elements) at = T.Array (expr_row elements) at
  expr_kind_of (E.If' _ choices _ otherwise) at = T.IfElse (choice_row choices) (expr_head otherwise at) at

  pub expr_head : {n : _} → Row_of-Expr n → T.At → T.Expr
  expr_head end_of-Expr at = T.Tuple T.NoExpr at
  expr_head (more_of-Expr kind span node _) at = expr_kind_of kind (placed span node)

  pub expr_row : {n : _} → Row_of-Expr n → T.Exprs
  expr_row end_of-Expr = T.NoExpr
  expr_row (more_of-Expr kind span node more) = T.ThenExpr (expr_kind_of kind (placed span node)) (expr_row more)

  pub link_row : {n : _} → Row_of-Link n → T.Links
  link_row end_of-Link = T.NoLink
  link_row (more_of-Link operator token kind operand_span operand_node span node more) =
      T.ThenLink operator token (expr_kind_of kind (placed operand_span operand_node)) (placed span node) (link_row more)

  pub step_kind_of : StepKind → T.At → T.Step
  step_kind_of (S.Member name) at = T.MemberStep name at
  step_kind_of (S.Part number) at = T.PartStep number at
  step_kind_of (S.Call' _ args) at = T.CallStep (arg_row args) at
  step_kind_of (S.Index' _ args) at = T.IndexStep (arg_row args) at

  pub step_row : {n : _} → Row_of-Step n → T.Steps
  step_row end_of-Step = T.NoStep
  step_row (more_of-Step kind span node more) = T.ThenStep (step_kind_of kind (placed span node)) (step_row more)

  pub arg_row : {n : _} → Row_of-Arg n → T.Args
  arg_row end_of-Arg = T.NoArg
  arg_row (more_of-Arg label kind span node more) = T.ThenArg label (expr_kind_of kind (placed span node)) (arg_row more)

  pub choice_row : {n : _} → Row_of-Choice n → T.Choices
  choice_row end_of-Choice = T.NoChoice
  choice_row (more_of-Choice token test test_span test_node value span node more) =
      T.ThenChoice token (expr_kind_of test (placed test_span test_node)) (expr_kind_of value (placed span node)) (choice_row more)

abbrev pub expr_of : Expr → T.Expr
expr_of e = expr_kind_of e.kind (placed e.span e.node)

abbrev pub exprs_of : List Expr → T.Exprs
exprs_of es = T.exprs (map expr_of es)

abbrev pub link_of : Link → T.Link
link_of link = record { operator = link.operator; token = link.token; operand = expr_of link.operand; at = placed link.span link.node }

abbrev pub links_of : List Link → T.Links
links_of links = T.links (map link_of links)

abbrev pub step_of : Step → T.Step
step_of step = step_kind_of step.kind (placed step.span step.node)

abbrev pub steps_of : List Step → T.Steps
steps_of steps = T.steps (map step_of steps)

abbrev pub arg_of : Arg → T.Arg
arg_of arg = record { label = arg.label; value = expr_of arg.value }

abbrev pub args_of : List Arg → T.Args
args_of args = T.args (map arg_of args)

abbrev pub choice_of : Choice → T.Choice
choice_of choice = record { token = choice.keyword; condition = expr_of choice.condition; value = expr_of choice.value }

abbrev pub choices_of : List Choice → T.Choices
choices_of choices = T.choices (map choice_of choices)

-- STATEMENTS

unfoldable mutual
  pub stmt_kind_of : StmtKind → T.At → T.Stmt
  stmt_kind_of (K.Binding introducer name written value) at = T.Binding introducer name (option_map type_of written) (expr_of value) at
  stmt_kind_of (K.Declare name written) at = T.Declare name (type_of written) at
  stmt_kind_of (K.Assign target value) at = T.Assign (expr_of target) (expr_of value) at
  stmt_kind_of (K.Compound target operator value) at = T.Compound (expr_of target) operator (expr_of value) at
  stmt_kind_of (K.Expr value) at = T.Evaluate (expr_of value) at
  stmt_kind_of (K.If' _ branches otherwise) at = T.If (branch_row branches) (held_else otherwise) at
  stmt_kind_of (K.While token condition body) at = T.While token (expr_of condition) (block_of body) at
  stmt_kind_of (K.Return token value) at = T.Return token (option_map expr_of value) at
  stmt_kind_of K.Break at = T.Break at
  stmt_kind_of K.Continue at = T.Continue at
  stmt_kind_of (K.Yield token value) at = T.Yield token (expr_of value) at

  pub stmt_row : {n : _} → Row_of-Stmt n → T.Stmts
  stmt_row end_of-Stmt = T.NoStmt
  stmt_row (more_of-Stmt kind span node more) = T.ThenStmt (stmt_kind_of kind (placed span node)) (stmt_row more)

  pub block_of : Block → T.Block
  block_of (Block' _ stmts span node) = T.Braces (stmt_row stmts) (placed span node)

  pub branch_row : {n : _} → Row_of-Branch n → T.Branches
  branch_row end_of-Branch = T.NoBranch
  branch_row (more_of-Branch branch more) = then_branch branch (branch_row more)

  pub then_branch : Branch → T.Branches → T.Branches
  then_branch (Branch' token condition body) more = T.ThenBranch token (expr_of condition) (block_of body) more

  pub held_else : Held-StmtKind-If-1 → T.Otherwise
  held_else K.None' = T.NoElse
  held_else (K.Some' block) = T.Else (block_of block)

abbrev pub stmt_of : Stmt → T.Stmt
stmt_of stmt = stmt_kind_of stmt.kind (placed stmt.span stmt.node)

abbrev pub stmts_of : List Stmt → T.Stmts
stmts_of stmts = T.stmts (map stmt_of stmts)

abbrev pub branch_of : Branch → T.Branch
branch_of branch =
    let parts = out-Branch branch in
    record { token = parts.keyword; condition = expr_of parts.condition; body = block_of parts.block }

abbrev pub branches_of : List Branch → T.Branches
branches_of branches = T.branches (map branch_of branches)

abbrev pub else_of : Option Block → T.Otherwise
else_of block = T.otherwise (option_map block_of block)

-- DECLARATIONS

abbrev pub param_of : Param → T.Param
param_of p = record { label = p.label; name = p.name; mode = p.mode; written = type_of p.written; at = placed p.span p.node }

abbrev pub variant_of : Variant → T.Variant
variant_of v = record { mode = v.mode; keyword = v.keyword; value = v.value; block = block_of v.block; at = placed v.span v.node }

abbrev pub callable_of : Callable → T.Callable
callable_of c = record {
  kind = c.kind;
  keyword = c.keyword;
  name = c.name;
  generics = c.generics;
  params = map param_of c.params;
  effect = c.effect;
  result = option_map type_of c.result;
  variants = map variant_of c.variants;
  at = placed c.span c.node;
}

abbrev pub member_kind_of : MemberKind → T.MemberKind
member_kind_of (member.Field name written) = T.Field name (type_of written)
member_kind_of member.MemberwiseInit = T.MemberwiseInit
member_kind_of (member.Callable callable) = T.MemberCallable (callable_of callable)

abbrev pub member_of : Member → T.Member
member_of m = record { public = m.public; kind = member_kind_of m.kind; tokens = m.tokens; at = placed m.span m.node }

abbrev pub product_of : Product → T.Product
product_of p = record { name = p.name; traits = p.traits; members = map member_of p.members; at = placed p.span p.node }

abbrev pub trait_of : TraitDef → T.TraitDef
trait_of t = record { name = t.name; members = map member_of t.members; at = placed t.span t.node }

abbrev pub conform_of : Conform → T.Conform
conform_of c = record { target = c.target; traits = c.traits; members = map member_of c.members; at = placed c.span c.node }

abbrev pub decl_kind_of : DeclKind → T.DeclKind
decl_kind_of (decl.Callable callable) = T.DeclCallable (callable_of callable)
decl_kind_of (decl.Product product) = T.DeclProduct (product_of product)
decl_kind_of (decl.Trait definition) = T.DeclTrait (trait_of definition)
decl_kind_of (decl.Conformance conform) = T.DeclConform (conform_of conform)

abbrev pub decl_of : Decl → T.Decl
decl_of d = record { public = d.public; kind = decl_kind_of d.kind; tokens = d.tokens; at = placed d.span d.node }

abbrev pub program_of : Program → T.Program
program_of p = record { decls = map decl_of p.decls; at = placed p.span p.node }
