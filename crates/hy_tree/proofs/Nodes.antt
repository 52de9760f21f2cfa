-- A tree has as many numbers in preorder as it has nodes.
use Rattle.std.proofs.Common.{◌≡◌, ℕ, ◌+◌, List, [], ◌∷◌, ◌++◌, length, Option, Some, None, refl, ◌∙◌, arith}
use Rattle.std.proofs.lemmas.List.{length-append}
use Rattle.std.specs.List.{flat_map}
use Rattle.hy_tree.specs.declared.declaration.TypeParam.{TypeParam}
use Rattle.hy_tree.specs.declared.name.NameUse.{NameUse}
use Rattle.hy_tree.specs.Numbers.{nodes_type, nodes_types, nodes_expr, nodes_exprs, nodes_links, nodes_step, nodes_steps, nodes_args, nodes_choices}
use Rattle.hy_tree.specs.Numbers.{nodes_stmt, nodes_stmts, nodes_block, nodes_branches, nodes_otherwise, nodes_optional, nodes_use, nodes_generic}
use Rattle.hy_tree.specs.Numbers.{nodes_param, nodes_variant, nodes_callable, nodes_member_kind, nodes_member, nodes_product, nodes_trait, nodes_conform}
use Rattle.hy_tree.specs.Numbers.{nodes_decl_kind, nodes_decl, nodes_program, count_type, count_types, count_expr, count_exprs, count_links, count_step}
use Rattle.hy_tree.specs.Numbers.{count_steps, count_args, count_choices, count_stmt, count_stmts, count_block, count_branches, count_otherwise}
use Rattle.hy_tree.specs.Numbers.{count_optional, count_all, count_use, count_generic, count_param, count_variant, count_callable, count_member_kind}
use Rattle.hy_tree.specs.Numbers.{count_member, count_product, count_trait, count_conform, count_decl_kind, count_decl, count_program}
use Rattle.hy_tree.specs.Tree as T

-- a list has so many numbers
record Has (numbers : List ℕ) (count : ℕ) : Type 0 where
  pub is : length numbers ≡ count

none : Has [] 0
none = record { is = refl }

single : (node : ℕ) → Has (node ∷ []) 1
single node = record { is = refl }

both : {xs ys : List ℕ} {a b : ℕ} → Has xs a → Has ys b → Has (xs ++ ys) (a + b)
both {xs} {ys} first second = record { is = length-append xs ys ∙ (λ i. first.is i + second.is i) }

-- a node, and those after it
behind : (node : ℕ) {xs : List ℕ} {a : ℕ} {k : ℕ} → Has xs a → k ≡ 1 + a → Has (node ∷ xs) k
behind node {xs} rest count = (let h = rest.is in record { is = omega (arith, h, count) })

optional_counts : {A : Type 0} (nodes : A → List ℕ) (count : A → ℕ) → ((part : A) → Has (nodes part) (count part)) → (part : Option A)
    → Has (nodes_optional nodes part) (count_optional count part)
optional_counts nodes count each None = none
optional_counts nodes count each (Some part) = each part

all_counts : {A : Type 0} (nodes : A → List ℕ) (count : A → ℕ) → ((part : A) → Has (nodes part) (count part)) → (parts : List A)
    → Has (flat_map nodes parts) (count_all count parts)
all_counts nodes count each [] = none
all_counts nodes count each (part ∷ rest) = both (each part) (all_counts nodes count each rest)

mutual
  type_counts : (part : T.TypeExp) → Has (nodes_type part) (count_type part)
  type_counts (T.NamedType name at) = single at.node
  type_counts (T.SelfType token at) = single at.node
  type_counts (T.ArrayType element at) = behind at.node (type_counts element) (omega arith)
  type_counts (T.TupleType parts at) = behind at.node (types_counts parts) (omega arith)

  types_counts : (parts : T.TypeExps) → Has (nodes_types parts) (count_types parts)
  types_counts T.NoType = none
  types_counts (T.ThenType part more) = (both (type_counts part) (types_counts more))

mutual
  expr_counts : (part : T.Expr) → Has (nodes_expr part) (count_expr part)
  expr_counts (T.Chain first links at) = behind at.node (both (expr_counts first) (links_counts links)) (omega arith)
  expr_counts (T.Unary operator operand at) = behind at.node (expr_counts operand) (omega arith)
  expr_counts (T.Marked operand at) = behind at.node (expr_counts operand) (omega arith)
  expr_counts (T.Postfix primary steps at) = behind at.node (both (expr_counts primary) (steps_counts steps)) (omega arith)
  expr_counts (T.Number number at) = single at.node
  expr_counts (T.Truth truth at) = single at.node
  expr_counts (T.Named name at) = single at.node
  expr_counts (T.SelfValue token at) = single at.node
  expr_counts (T.EmptyArray element at) = behind at.node (type_counts element) (omega arith)
  expr_counts (T.Tuple parts at) = behind at.node (exprs_counts parts) (omega arith)
  expr_counts (T.Array elements at) = behind at.node (exprs_counts elements) (omega arith)
  expr_counts (T.IfElse choices otherwise at) = behind at.node (both (choices_counts choices) (expr_counts otherwise)) (omega arith)

  exprs_counts : (parts : T.Exprs) → Has (nodes_exprs parts) (count_exprs parts)
  exprs_counts T.NoExpr = none
  exprs_counts (T.ThenExpr part more) = (both (expr_counts part) (exprs_counts more))

  links_counts : (parts : T.Links) → Has (nodes_links parts) (count_links parts)
  links_counts T.NoLink = none
  links_counts (T.ThenLink operator token operand at more) = behind at.node (both (expr_counts operand) (links_counts more)) (omega arith)

  step_counts : (part : T.Step) → Has (nodes_step part) (count_step part)
  step_counts (T.MemberStep name at) = single at.node
  step_counts (T.PartStep number at) = single at.node
  step_counts (T.CallStep args at) = behind at.node (args_counts args) (omega arith)
  step_counts (T.IndexStep args at) = behind at.node (args_counts args) (omega arith)

  steps_counts : (parts : T.Steps) → Has (nodes_steps parts) (count_steps parts)
  steps_counts T.NoStep = none
  steps_counts (T.ThenStep step more) = (both (step_counts step) (steps_counts more))

  args_counts : (parts : T.Args) → Has (nodes_args parts) (count_args parts)
  args_counts T.NoArg = none
  args_counts (T.ThenArg label value more) = (both (expr_counts value) (args_counts more))

  choices_counts : (parts : T.Choices) → Has (nodes_choices parts) (count_choices parts)
  choices_counts T.NoChoice = none
  choices_counts (T.ThenChoice token condition value more) = (both (both (expr_counts condition) (expr_counts value)) (choices_counts more))

mutual
  stmt_counts : (part : T.Stmt) → Has (nodes_stmt part) (count_stmt part)
  stmt_counts (T.Binding introducer name written value at) =
      behind at.node (both (optional_counts nodes_type count_type type_counts written) (expr_counts value)) (omega arith)
  stmt_counts (T.Declare name written at) = behind at.node (type_counts written) (omega arith)
  stmt_counts (T.Assign target value at) = behind at.node (both (expr_counts target) (expr_counts value)) (omega arith)
  stmt_counts (T.Compound target operator value at) = behind at.node (both (expr_counts target) (expr_counts value)) (omega arith)
  stmt_counts (T.Evaluate value at) = behind at.node (expr_counts value) (omega arith)
  stmt_counts (T.If branches otherwise at) = behind at.node (both (branches_counts branches) (otherwise_counts otherwise)) (omega arith)
  stmt_counts (T.While token condition body at) = behind at.node (both (expr_counts condition) (block_counts body)) (omega arith)
  stmt_counts (T.Return token value at) = behind at.node (optional_counts nodes_expr count_expr expr_counts value) (omega arith)
  stmt_counts (T.Break at) = single at.node
  stmt_counts (T.Continue at) = single at.node
  stmt_counts (T.Yield token value at) = behind at.node (expr_counts value) (omega arith)

  stmts_counts : (parts : T.Stmts) → Has (nodes_stmts parts) (count_stmts parts)
  stmts_counts T.NoStmt = none
  stmts_counts (T.ThenStmt stmt more) = (both (stmt_counts stmt) (stmts_counts more))

  block_counts : (part : T.Block) → Has (nodes_block part) (count_block part)
  block_counts (T.Braces stmts at) = behind at.node (stmts_counts stmts) (omega arith)

  branches_counts : (parts : T.Branches) → Has (nodes_branches parts) (count_branches parts)
  branches_counts T.NoBranch = none
  branches_counts (T.ThenBranch token condition body more) = (both (both (expr_counts condition) (block_counts body)) (branches_counts more))

  otherwise_counts : (part : T.Otherwise) → Has (nodes_otherwise part) (count_otherwise part)
  otherwise_counts T.NoElse = none
  otherwise_counts (T.Else block) = block_counts block

use_counts : (part : NameUse) → Has (nodes_use part) (count_use part)
use_counts part = single part.node

generic_counts : (part : TypeParam) → Has (nodes_generic part) (count_generic part)
generic_counts part = all_counts nodes_use count_use use_counts part.bounds

param_counts : (part : T.Param) → Has (nodes_param part) (count_param part)
param_counts part = behind part.at.node (type_counts part.written) (omega arith)

variant_counts : (part : T.Variant) → Has (nodes_variant part) (count_variant part)
variant_counts part = behind part.at.node (block_counts part.block) (omega arith)

callable_counts : (part : T.Callable) → Has (nodes_callable part) (count_callable part)
callable_counts part =
    behind part.at.node
    (both (both (both (all_counts nodes_generic count_generic generic_counts part.generics) (all_counts nodes_param count_param param_counts part.params))
    (optional_counts nodes_type count_type type_counts part.result)) (all_counts nodes_variant count_variant variant_counts part.variants))
    (omega arith)

member_kind_counts : (part : T.MemberKind) → Has (nodes_member_kind part) (count_member_kind part)
member_kind_counts (T.Field name written) = type_counts written
member_kind_counts T.MemberwiseInit = none
member_kind_counts (T.MemberCallable callable) = callable_counts callable

member_counts : (part : T.Member) → Has (nodes_member part) (count_member part)
member_counts part = behind part.at.node (member_kind_counts part.kind) (omega arith)

product_counts : (part : T.Product) → Has (nodes_product part) (count_product part)
product_counts part =
    behind part.at.node (both (all_counts nodes_use count_use use_counts part.traits) (all_counts nodes_member count_member member_counts part.members))
    (omega arith)

trait_counts : (part : T.TraitDef) → Has (nodes_trait part) (count_trait part)
trait_counts part = behind part.at.node (all_counts nodes_member count_member member_counts part.members) (omega arith)

conform_counts : (part : T.Conform) → Has (nodes_conform part) (count_conform part)
conform_counts part =
    behind part.at.node (both (both (use_counts part.target) (all_counts nodes_use count_use use_counts part.traits))
    (all_counts nodes_member count_member member_counts part.members)) (omega arith)

decl_kind_counts : (part : T.DeclKind) → Has (nodes_decl_kind part) (count_decl_kind part)
decl_kind_counts (T.DeclCallable part) = callable_counts part
decl_kind_counts (T.DeclProduct part) = product_counts part
decl_kind_counts (T.DeclTrait part) = trait_counts part
decl_kind_counts (T.DeclConform part) = conform_counts part

decl_counts : (part : T.Decl) → Has (nodes_decl part) (count_decl part)
decl_counts part = behind part.at.node (decl_kind_counts part.kind) (omega arith)

pub program_counts : (program : T.Program) → length (nodes_program program) ≡ count_program program
program_counts program =
    (let h : Has (nodes_program program) (count_program program) =
    behind program.at.node (all_counts nodes_decl count_decl decl_counts program.decls) (omega arith) in h.is)
