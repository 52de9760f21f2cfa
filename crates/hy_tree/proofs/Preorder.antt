-- The nodes of a numbered tree have the numbers from its first one on, in preorder.
use Rattle.std.proofs.Common.{◌≡◌, ℕ, zero, suc, ◌+◌, List, [], ◌∷◌, ◌++◌, Option, Some, None, refl, ap, sym, ◌∙◌, arith}
use Rattle.std.specs.List.{flat_map, range_with_len}
use Rattle.hy_tree.specs.declared.declaration.TypeParam.{TypeParam}
use Rattle.hy_tree.specs.declared.name.NameUse.{NameUse}
use Rattle.hy_tree.specs.Numbers.{nodes_type, nodes_types, nodes_expr, nodes_exprs, nodes_links, nodes_step, nodes_steps, nodes_args, nodes_choices}
use Rattle.hy_tree.specs.Numbers.{nodes_stmt, nodes_stmts, nodes_block, nodes_branches, nodes_otherwise, nodes_optional, nodes_use, nodes_generic}
use Rattle.hy_tree.specs.Numbers.{nodes_param, nodes_variant, nodes_callable, nodes_member_kind, nodes_member, nodes_product, nodes_trait, nodes_conform}
use Rattle.hy_tree.specs.Numbers.{nodes_decl_kind, nodes_decl, nodes_program, count_type, count_types, count_expr, count_exprs, count_links, count_step}
use Rattle.hy_tree.specs.Numbers.{count_steps, count_args, count_choices, count_stmt, count_stmts, count_block, count_branches, count_otherwise}
use Rattle.hy_tree.specs.Numbers.{count_optional, count_all, count_use, count_generic, count_param, count_variant, count_callable, count_member_kind}
use Rattle.hy_tree.specs.Numbers.{count_member, count_product, count_trait, count_conform, count_decl_kind, count_decl, count_program, number_type}
use Rattle.hy_tree.specs.Numbers.{number_types, number_expr, number_exprs, number_links, number_step, number_steps, number_args, number_choices}
use Rattle.hy_tree.specs.Numbers.{number_stmt, number_stmts, number_block, number_branches, number_otherwise, number_optional, number_all, number_use}
use Rattle.hy_tree.specs.Numbers.{number_generic, number_param, number_variant, number_callable, number_member_kind, number_member, number_product}
use Rattle.hy_tree.specs.Numbers.{number_trait, number_conform, number_decl_kind, number_decl, number_program}
use Rattle.hy_tree.specs.Tree as T

range_joins : (n a b : ℕ) → range_with_len n a ++ range_with_len (n + a) b ≡ range_with_len n (a + b)
range_joins n zero b = (let e : n + 0 ≡ n = omega arith in let f : 0 + b ≡ b = omega arith in (λ i. range_with_len (e i) b)
    ∙ (λ i. range_with_len n ((sym f) i)))
range_joins n (suc a) b =
    let e : n + suc a ≡ n + 1 + a = omega arith in
    let f : suc a + b ≡ suc (a + b) = omega arith in
    (λ i. n ∷ (range_with_len (n + 1) a ++ range_with_len (e i) b)) ∙ ap (λ xs. n ∷ xs) (range_joins (n + 1) a b) ∙ (λ i. range_with_len n ((sym f) i))

join : {xs ys : List ℕ} (n a b : ℕ) → xs ≡ range_with_len n a → ys ≡ range_with_len (n + a) b → xs ++ ys ≡ range_with_len n (a + b)
join n a b first second = (λ i. first i ++ second i) ∙ range_joins n a b

join3 : {xs ys zs : List ℕ} (n a b c : ℕ) → xs ≡ range_with_len n a → ys ≡ range_with_len (n + a) b → zs ≡ range_with_len (n + a + b) c
    → xs ++ ys ++ zs ≡ range_with_len n (a + b + c)
join3 n a b c first second third =
    let e : n + a + b ≡ n + (a + b) = omega arith in
    join n (a + b) c (join n a b first second) (third ∙ (λ i. range_with_len (e i) c))

head : {xs : List ℕ} (n a k : ℕ) → xs ≡ range_with_len (n + 1) a → k ≡ suc a → n ∷ xs ≡ range_with_len n k
head n a k rest count = ap (λ xs. n ∷ xs) rest ∙ (λ i. range_with_len n ((sym count) i))

optional_numbers : {A : Type 0} (nodes : A → List ℕ) (count : A → ℕ) (number : ℕ → A → A)
    → ((n : ℕ) (part : A) → nodes (number n part) ≡ range_with_len n (count part)) →
    (n : ℕ) (part : Option A) → nodes_optional nodes (number_optional number n part) ≡ range_with_len n (count_optional count part)
optional_numbers nodes count number each n None = refl
optional_numbers nodes count number each n (Some part) = each n part

all_numbers : {A : Type 0} (nodes : A → List ℕ) (count : A → ℕ) (number : ℕ → A → A)
    → ((n : ℕ) (part : A) → nodes (number n part) ≡ range_with_len n (count part)) →
    (n : ℕ) (parts : List A) → flat_map nodes (number_all count number n parts) ≡ range_with_len n (count_all count parts)
all_numbers nodes count number each n [] = refl
all_numbers nodes count number each n (part ∷ more) =
    join n (count part) (count_all count more) (each n part) (all_numbers nodes count number each (n + count part) more)

mutual
  type_numbers : (n : ℕ) (part : T.TypeExp) → nodes_type (number_type n part) ≡ range_with_len n (count_type part)
  type_numbers n (T.NamedType name at) = refl
  type_numbers n (T.SelfType token at) = refl
  type_numbers n (T.ArrayType element at) = head n (count_type element) (1 + count_type element) (type_numbers (n + 1) element) (omega arith)
  type_numbers n (T.TupleType parts at) = head n (count_types parts) (1 + count_types parts) (types_numbers (n + 1) parts) (omega arith)

  types_numbers : (n : ℕ) (parts : T.TypeExps) → nodes_types (number_types n parts) ≡ range_with_len n (count_types parts)
  types_numbers n T.NoType = refl
  types_numbers n (T.ThenType part more) = (join n (count_type part) (count_types more) (type_numbers n part) (types_numbers (n + count_type part) more))

mutual
  expr_numbers : (n : ℕ) (part : T.Expr) → nodes_expr (number_expr n part) ≡ range_with_len n (count_expr part)
  expr_numbers n (T.Chain first links at) =
      head n (count_expr first + count_links links) (1 + count_expr first + count_links links)
      (join (n + 1) (count_expr first) (count_links links) (expr_numbers (n + 1) first) (links_numbers (n + 1 + count_expr first) links)) (omega arith)
  expr_numbers n (T.Unary operator operand at) = head n (count_expr operand) (1 + count_expr operand) (expr_numbers (n + 1) operand) (omega arith)
  expr_numbers n (T.Marked operand at) = head n (count_expr operand) (1 + count_expr operand) (expr_numbers (n + 1) operand) (omega arith)
  expr_numbers n (T.Postfix primary steps at) =
      head n (count_expr primary + count_steps steps) (1 + count_expr primary + count_steps steps)
      (join (n + 1) (count_expr primary) (count_steps steps) (expr_numbers (n + 1) primary) (steps_numbers (n + 1 + count_expr primary) steps))
      (omega arith)
  expr_numbers n (T.Number number at) = refl
  expr_numbers n (T.Truth truth at) = refl
  expr_numbers n (T.Named name at) = refl
  expr_numbers n (T.SelfValue token at) = refl
  expr_numbers n (T.EmptyArray element at) = head n (count_type element) (1 + count_type element) (type_numbers (n + 1) element) (omega arith)
  expr_numbers n (T.Tuple parts at) = head n (count_exprs parts) (1 + count_exprs parts) (exprs_numbers (n + 1) parts) (omega arith)
  expr_numbers n (T.Array elements at) = head n (count_exprs elements) (1 + count_exprs elements) (exprs_numbers (n + 1) elements) (omega arith)
  expr_numbers n (T.IfElse choices otherwise at) =
      head n (count_choices choices + count_expr otherwise) (1 + count_choices choices + count_expr otherwise)
      (join (n + 1) (count_choices choices) (count_expr otherwise) (choices_numbers (n + 1) choices)
      (expr_numbers (n + 1 + count_choices choices) otherwise)) (omega arith)

  exprs_numbers : (n : ℕ) (parts : T.Exprs) → nodes_exprs (number_exprs n parts) ≡ range_with_len n (count_exprs parts)
  exprs_numbers n T.NoExpr = refl
  exprs_numbers n (T.ThenExpr part more) = (join n (count_expr part) (count_exprs more) (expr_numbers n part) (exprs_numbers (n + count_expr part) more))

  links_numbers : (n : ℕ) (parts : T.Links) → nodes_links (number_links n parts) ≡ range_with_len n (count_links parts)
  links_numbers n T.NoLink = refl
  links_numbers n (T.ThenLink operator token operand at more) =
      head n (count_expr operand + count_links more) (1 + count_expr operand + count_links more)
      (join (n + 1) (count_expr operand) (count_links more) (expr_numbers (n + 1) operand) (links_numbers (n + 1 + count_expr operand) more)) (omega arith)

  step_numbers : (n : ℕ) (part : T.Step) → nodes_step (number_step n part) ≡ range_with_len n (count_step part)
  step_numbers n (T.MemberStep name at) = refl
  step_numbers n (T.PartStep number at) = refl
  step_numbers n (T.CallStep args at) = head n (count_args args) (1 + count_args args) (args_numbers (n + 1) args) (omega arith)
  step_numbers n (T.IndexStep args at) = head n (count_args args) (1 + count_args args) (args_numbers (n + 1) args) (omega arith)

  steps_numbers : (n : ℕ) (parts : T.Steps) → nodes_steps (number_steps n parts) ≡ range_with_len n (count_steps parts)
  steps_numbers n T.NoStep = refl
  steps_numbers n (T.ThenStep step more) = (join n (count_step step) (count_steps more) (step_numbers n step) (steps_numbers (n + count_step step) more))

  args_numbers : (n : ℕ) (parts : T.Args) → nodes_args (number_args n parts) ≡ range_with_len n (count_args parts)
  args_numbers n T.NoArg = refl
  args_numbers n (T.ThenArg label value more) = (join n (count_expr value) (count_args more) (expr_numbers n value) (args_numbers (n + count_expr value) more))

  choices_numbers : (n : ℕ) (parts : T.Choices) → nodes_choices (number_choices n parts) ≡ range_with_len n (count_choices parts)
  choices_numbers n T.NoChoice = refl
  choices_numbers n (T.ThenChoice token condition value more) =
      (join3 n (count_expr condition) (count_expr value) (count_choices more) (expr_numbers n condition) (expr_numbers (n + count_expr condition) value)
      (choices_numbers (n + count_expr condition + count_expr value) more))

mutual
  stmt_numbers : (n : ℕ) (part : T.Stmt) → nodes_stmt (number_stmt n part) ≡ range_with_len n (count_stmt part)
  stmt_numbers n (T.Binding introducer name written value at) =
      head n (count_optional count_type written + count_expr value) (1 + count_optional count_type written + count_expr value)
      (join (n + 1) (count_optional count_type written) (count_expr value) (optional_numbers nodes_type count_type number_type type_numbers (n + 1) written)
      (expr_numbers (n + 1 + count_optional count_type written) value)) (omega arith)
  stmt_numbers n (T.Declare name written at) = head n (count_type written) (1 + count_type written) (type_numbers (n + 1) written) (omega arith)
  stmt_numbers n (T.Assign target value at) =
      head n (count_expr target + count_expr value) (1 + count_expr target + count_expr value)
      (join (n + 1) (count_expr target) (count_expr value) (expr_numbers (n + 1) target) (expr_numbers (n + 1 + count_expr target) value)) (omega arith)
  stmt_numbers n (T.Compound target operator value at) =
      head n (count_expr target + count_expr value) (1 + count_expr target + count_expr value)
      (join (n + 1) (count_expr target) (count_expr value) (expr_numbers (n + 1) target) (expr_numbers (n + 1 + count_expr target) value)) (omega arith)
  stmt_numbers n (T.Evaluate value at) = head n (count_expr value) (1 + count_expr value) (expr_numbers (n + 1) value) (omega arith)
  stmt_numbers n (T.If branches otherwise at) =
      head n (count_branches branches + count_otherwise otherwise) (1 + count_branches branches + count_otherwise otherwise)
      (join (n + 1) (count_branches branches) (count_otherwise otherwise) (branches_numbers (n + 1) branches)
      (otherwise_numbers (n + 1 + count_branches branches) otherwise)) (omega arith)
  stmt_numbers n (T.While token condition body at) =
      head n (count_expr condition + count_block body) (1 + count_expr condition + count_block body)
      (join (n + 1) (count_expr condition) (count_block body) (expr_numbers (n + 1) condition) (block_numbers (n + 1 + count_expr condition) body))
      (omega arith)
  stmt_numbers n (T.Return token value at) =
      head n (count_optional count_expr value) (1 + count_optional count_expr value)
      (optional_numbers nodes_expr count_expr number_expr expr_numbers (n + 1) value) (omega arith)
  stmt_numbers n (T.Break at) = refl
  stmt_numbers n (T.Continue at) = refl
  stmt_numbers n (T.Yield token value at) = head n (count_expr value) (1 + count_expr value) (expr_numbers (n + 1) value) (omega arith)

  stmts_numbers : (n : ℕ) (parts : T.Stmts) → nodes_stmts (number_stmts n parts) ≡ range_with_len n (count_stmts parts)
  stmts_numbers n T.NoStmt = refl
  stmts_numbers n (T.ThenStmt stmt more) = (join n (count_stmt stmt) (count_stmts more) (stmt_numbers n stmt) (stmts_numbers (n + count_stmt stmt) more))

  block_numbers : (n : ℕ) (part : T.Block) → nodes_block (number_block n part) ≡ range_with_len n (count_block part)
  block_numbers n (T.Braces stmts at) = head n (count_stmts stmts) (1 + count_stmts stmts) (stmts_numbers (n + 1) stmts) (omega arith)

  branches_numbers : (n : ℕ) (parts : T.Branches) → nodes_branches (number_branches n parts) ≡ range_with_len n (count_branches parts)
  branches_numbers n T.NoBranch = refl
  branches_numbers n (T.ThenBranch token condition body more) =
      (join3 n (count_expr condition) (count_block body) (count_branches more) (expr_numbers n condition) (block_numbers (n + count_expr condition) body)
      (branches_numbers (n + count_expr condition + count_block body) more))

  otherwise_numbers : (n : ℕ) (part : T.Otherwise) → nodes_otherwise (number_otherwise n part) ≡ range_with_len n (count_otherwise part)
  otherwise_numbers n T.NoElse = refl
  otherwise_numbers n (T.Else block) = block_numbers n block

use_numbers : (n : ℕ) (part : NameUse) → nodes_use (number_use n part) ≡ range_with_len n (count_use part)
use_numbers n part = refl

generic_numbers : (n : ℕ) (part : TypeParam) → nodes_generic (number_generic n part) ≡ range_with_len n (count_generic part)
generic_numbers n part = all_numbers nodes_use count_use number_use use_numbers n part.bounds

param_numbers : (n : ℕ) (part : T.Param) → nodes_param (number_param n part) ≡ range_with_len n (count_param part)
param_numbers n part = head n (count_type part.written) (count_param part) (type_numbers (n + 1) part.written) (omega arith)

variant_numbers : (n : ℕ) (part : T.Variant) → nodes_variant (number_variant n part) ≡ range_with_len n (count_variant part)
variant_numbers n part = head n (count_block part.block) (count_variant part) (block_numbers (n + 1) part.block) (omega arith)

callable_numbers : (n : ℕ) (part : T.Callable) → nodes_callable (number_callable n part) ≡ range_with_len n (count_callable part)
callable_numbers n part =
    let g = count_all count_generic part.generics in
    let p = count_all count_param part.params in
    let r = count_optional count_type part.result in
    let v = count_all count_variant part.variants in
    let e : n + 1 + g + p + r ≡ n + 1 + (g + p + r) = omega arith in
    head n (g + p + r + v) (count_callable part)
    (join (n + 1) (g + p + r) v
    (join3 (n + 1) g p r (all_numbers nodes_generic count_generic number_generic generic_numbers (n + 1) part.generics)
    (all_numbers nodes_param count_param number_param param_numbers (n + 1 + g) part.params)
    (optional_numbers nodes_type count_type number_type type_numbers (n + 1 + g + p) part.result))
    (all_numbers nodes_variant count_variant number_variant variant_numbers (n + 1 + g + p + r) part.variants ∙ (λ i. range_with_len (e i) v)))
    (omega arith)

member_kind_numbers : (n : ℕ) (part : T.MemberKind) → nodes_member_kind (number_member_kind n part) ≡ range_with_len n (count_member_kind part)
member_kind_numbers n (T.Field name written) = type_numbers n written
member_kind_numbers n T.MemberwiseInit = refl
member_kind_numbers n (T.MemberCallable callable) = callable_numbers n callable

member_numbers : (n : ℕ) (part : T.Member) → nodes_member (number_member n part) ≡ range_with_len n (count_member part)
member_numbers n part = head n (count_member_kind part.kind) (count_member part) (member_kind_numbers (n + 1) part.kind) (omega arith)

product_numbers : (n : ℕ) (part : T.Product) → nodes_product (number_product n part) ≡ range_with_len n (count_product part)
product_numbers n part =
    let t = count_all count_use part.traits in
    let m = count_all count_member part.members in
    head n (t + m) (count_product part)
    (join (n + 1) t m (all_numbers nodes_use count_use number_use use_numbers (n + 1) part.traits)
    (all_numbers nodes_member count_member number_member member_numbers (n + 1 + t) part.members))
    (omega arith)

trait_numbers : (n : ℕ) (part : T.TraitDef) → nodes_trait (number_trait n part) ≡ range_with_len n (count_trait part)
trait_numbers n part =
    head n (count_all count_member part.members) (count_trait part)
    (all_numbers nodes_member count_member number_member member_numbers (n + 1) part.members) (omega arith)

conform_numbers : (n : ℕ) (part : T.Conform) → nodes_conform (number_conform n part) ≡ range_with_len n (count_conform part)
conform_numbers n part =
    let t = count_all count_use part.traits in
    let m = count_all count_member part.members in
    head n (1 + t + m) (count_conform part)
    (join3 (n + 1) 1 t m refl (all_numbers nodes_use count_use number_use use_numbers (n + 1 + 1) part.traits)
    (all_numbers nodes_member count_member number_member member_numbers (n + 1 + 1 + t) part.members))
    (omega arith)

decl_kind_numbers : (n : ℕ) (part : T.DeclKind) → nodes_decl_kind (number_decl_kind n part) ≡ range_with_len n (count_decl_kind part)
decl_kind_numbers n (T.DeclCallable part) = callable_numbers n part
decl_kind_numbers n (T.DeclProduct part) = product_numbers n part
decl_kind_numbers n (T.DeclTrait part) = trait_numbers n part
decl_kind_numbers n (T.DeclConform part) = conform_numbers n part

decl_numbers : (n : ℕ) (part : T.Decl) → nodes_decl (number_decl n part) ≡ range_with_len n (count_decl part)
decl_numbers n part = head n (count_decl_kind part.kind) (count_decl part) (decl_kind_numbers (n + 1) part.kind) (omega arith)

pub program_numbers : (program : T.Program) → nodes_program (number_program program) ≡ range_with_len 0 (count_program program)
program_numbers program =
    head 0 (count_all count_decl program.decls) (count_program program) (all_numbers nodes_decl count_decl number_decl decl_numbers 1 program.decls)
    (omega arith)
