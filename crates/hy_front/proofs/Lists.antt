-- The lists of a tree, as lists that a walk goes over.
use Rattle.std.proofs.Common.{◌≡◌, List, [], map, length, ◌∷◌, ◌++◌, Some, None, refl, sym, ap}
use Rattle.hy_tree.specs.Denotes.{placed, expr_kind_of, type_of, types_of, expr_of, exprs_of, link_of, links_of, step_of, steps_of, args_of, choices_of}
use Rattle.hy_tree.specs.Denotes.{stmt_of, stmts_of, block_of, branches_of, param_of, variant_of, member_of, member_kind_of, decl_of}
use Rattle.hy_tree.specs.declared.declaration.Decl.{Decl}
use Rattle.hy_tree.specs.declared.declaration.Member.{Member}
use Rattle.hy_tree.specs.declared.declaration.Param.{Param}
use Rattle.hy_tree.specs.declared.declaration.TypeParam.{TypeParam}
use Rattle.hy_tree.specs.declared.declaration.Variant.{Variant}
use Rattle.hy_tree.specs.declared.statement.Branch.{Branch, out-Branch}
use Rattle.hy_tree.specs.declared.statement.Stmt.{Stmt}
use Rattle.hy_tree.specs.declared.expression.Arg.{Arg}
use Rattle.hy_tree.specs.declared.expression.Choice.{Choice}
use Rattle.hy_tree.specs.declared.expression.Expr.{Expr}
use Rattle.hy_tree.specs.declared.expression.ExprKind as E
use Rattle.hy_tree.specs.declared.expression.ExprKind.{ExprKind}
use Rattle.hy_tree.specs.declared.expression.Link.{Link}
use Rattle.hy_tree.specs.declared.expression.Step.{Step}
use Rattle.hy_tree.specs.declared.written.TypeExp.{TypeExp}
use Rattle.hy_tree.specs.Tree as T
use Rattle.hy_meaning.specs.Forms.{only_value, only_call}
use Rattle.hy_front.specs.Unbuilt.{Table, in_type, in_types, in_expr, in_exprs, in_link, in_links, in_step, in_steps, in_args, in_choices, in_stmt, in_stmts}
use Rattle.hy_front.specs.Unbuilt.{in_block, in_branches, is_special, when, in_uses, in_generics, in_params, in_variants, in_member_kind, in_members, in_decl}
use Rattle.hy_front.specs.Unbuilt.{in_decls}
use Rattle.hy_base.proofs.Walks.{IsWalk}

-- nothing goes on beside the list
abbrev pub Alone : Type 0
Alone = Unit {0}

pub types_walk : IsWalk (λ (s : Alone) (xs : List TypeExp). in_types (types_of xs)) (λ s x. in_type (type_of x)) (λ s x. s)
types_walk = record { none = λ s. refl; some = λ s x more. refl }

module _ (meant : Table) where
  pub exprs_walk : IsWalk (λ (s : Alone) (xs : List Expr). in_exprs meant (exprs_of xs)) (λ s x. in_expr meant (expr_of x)) (λ s x. s)
  exprs_walk = record { none = λ s. refl; some = λ s x more. refl }

  pub links_walk : IsWalk (λ (s : Alone) (xs : List Link). in_links meant (links_of xs)) (λ s x. in_link meant (link_of x)) (λ s x. s)
  links_walk = record { none = λ s. refl; some = λ s x more. refl }

  pub steps_walk : IsWalk (λ (s : Alone) (xs : List Step). in_steps meant (steps_of xs)) (λ s x. in_step meant (step_of x)) (λ s x. s)
  steps_walk = record { none = λ s. refl; some = λ s x more. refl }

  pub args_walk : IsWalk (λ (s : Alone) (xs : List Arg). in_args meant (args_of xs)) (λ s x. in_expr meant (expr_of x.value)) (λ s x. s)
  args_walk = record { none = λ s. refl; some = λ s x more. refl }

  pub choices_walk : IsWalk (λ (s : Alone) (xs : List Choice). in_choices meant (choices_of xs)) (λ s x. in_expr meant (expr_of x.condition)
      ++ in_expr meant (expr_of x.value)) (λ s x. s)
  choices_walk = record { none = λ s. refl; some = λ s x more. refl }

  pub stmts_walk : IsWalk (λ (s : Alone) (xs : List Stmt). in_stmts meant (stmts_of xs)) (λ s x. in_stmt meant (stmt_of x)) (λ s x. s)
  stmts_walk = record { none = λ s. refl; some = λ s x more. refl }

  pub branches_walk : IsWalk (λ (s : Alone) (xs : List Branch). in_branches meant (branches_of xs)) (λ s x. in_expr meant (expr_of (out-Branch x).condition)
      ++ in_block meant (block_of (out-Branch x).block)) (λ s x. s)
  branches_walk = record { none = λ s. refl; some = λ s x more. refl }

  pub variants_walk : IsWalk (λ (s : Alone) (xs : List Variant). in_variants meant (map variant_of xs)) (λ s x. when (is_special (variant_of x)) x.span
      ++ in_block meant (block_of x.block)) (λ s x. s)
  variants_walk = record { none = λ s. refl; some = λ s x more. refl }

  pub members_walk : IsWalk (λ (s : Alone) (xs : List Member). in_members meant (map member_of xs)) (λ s x. x.span
      ∷ in_member_kind meant (member_kind_of x.kind)) (λ s x. s)
  members_walk = record { none = λ s. refl; some = λ s x more. refl }

  pub decls_walk : IsWalk (λ (s : Alone) (xs : List Decl). in_decls meant (map decl_of xs)) (λ s x. in_decl meant (decl_of x)) (λ s x. s)
  decls_walk = record { none = λ s. refl; some = λ s x more. refl }

pub generics_walk : IsWalk (λ (s : Alone) (xs : List TypeParam). in_generics xs) (λ s x. in_uses x.bounds) (λ s x. s)
generics_walk = record { none = λ s. refl; some = λ s x more. refl }

pub params_walk : IsWalk (λ (s : Alone) (xs : List Param). in_params (map param_of xs)) (λ s x. x.span ∷ in_type (type_of x.written)) (λ s x. s)
params_walk = record { none = λ s. refl; some = λ s x more. refl }

-- lists of no or of several parts

pub no_value : (args : List Arg) → (length args ≡ 1 → ⊥) → None ≡ only_value (args_of args)
no_value [] h = refl
no_value (arg ∷ []) h = absurd (h refl)
no_value (arg ∷ other ∷ more) h = by arg.label
  where
    by : (label : _) → None ≡ only_value (T.ThenArg label (expr_of arg.value) (args_of (other ∷ more)))
    by None = refl
    by (Some label) = refl

pub no_call : (steps : List Step) → (length steps ≡ 1 → ⊥) → None ≡ only_call (steps_of steps)
no_call [] h = refl
no_call (step ∷ []) h = absurd (h refl)
no_call (step ∷ other ∷ more) h = refl

at_kind : (kind : ExprKind) (at : T.At) → T.at_expr (expr_kind_of kind at) ≡ at
unfolding expr_kind_of
at_kind (E.Chain' _ first _ links) at = refl
at_kind (E.Unary' operator _ operand) at = refl
at_kind (E.Marked' _ operand) at = refl
at_kind (E.Postfix' _ primary _ steps) at = refl
at_kind (E.Number number) at = refl
at_kind (E.Bool truth) at = refl
at_kind (E.Name name) at = refl
at_kind (E.SelfValue token) at = refl
at_kind (E.EmptyArray element) at = refl
at_kind (E.Tuple' _ parts) at = refl
at_kind (E.Array' _ elements) at = refl
at_kind (E.If' _ choices _ otherwise) at = refl

-- where the plain tree of an expression stands
pub span_is : (e : Expr) → e.span ≡ (T.at_expr (expr_of e)).span
span_is e = ap (λ at. at.span) (sym (at_kind e.kind (placed e.span e.node)))
