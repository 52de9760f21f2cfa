-- The lists of a tree, as lists that a walk goes over.
use Rattle.std.proofs.Common.{ℕ, ◌+◌, List, map, ◌∷◌, ◌++◌, refl, sym, append_assoc}
use Rattle.hy_tree.specs.Denotes.{type_of, types_of, expr_of, exprs_of, link_of, links_of, step_of, steps_of, arg_of, args_of, choice_of, choices_of, stmt_of}
use Rattle.hy_tree.specs.Denotes.{stmts_of, block_of, branches_of, param_of, variant_of, member_of, member_kind_of, decl_of, decl_kind_of}
use Rattle.hy_tree.specs.FileNames.{Family, File, with_member, with_decl}
use Rattle.hy_tree.specs.Findings.{Finding, Around, find_type, find_types, find_trait, find_traits, find_expr, find_exprs, find_links, find_step, find_steps}
use Rattle.hy_tree.specs.Findings.{find_args, find_choices, find_stmt, find_stmts, find_block, find_branches, behind, declares, find_generics, find_params}
use Rattle.hy_tree.specs.Findings.{find_variant, find_variants, word_of, find_member, find_members, twice_member, twice_members, twice_decl, twice_decls}
use Rattle.hy_tree.specs.Findings.{find_decl, find_decls}
use Rattle.hy_tree.specs.Names.{Names, with_name}
use Rattle.hy_tree.specs.declared.declaration.Decl.{Decl}
use Rattle.hy_tree.specs.declared.declaration.Member.{Member}
use Rattle.hy_tree.specs.declared.declaration.Param.{Param}
use Rattle.hy_tree.specs.declared.declaration.TypeParam.{TypeParam}
use Rattle.hy_tree.specs.declared.declaration.Variant.{Variant}
use Rattle.hy_tree.specs.declared.expression.Arg.{Arg}
use Rattle.hy_tree.specs.declared.expression.Choice.{Choice}
use Rattle.hy_tree.specs.declared.expression.Expr.{Expr}
use Rattle.hy_tree.specs.declared.expression.Link.{Link}
use Rattle.hy_tree.specs.declared.expression.Step.{Step}
use Rattle.hy_tree.specs.declared.meant.Meant.TheVariants as meant
use Rattle.hy_tree.specs.declared.name.NameUse.{NameUse}
use Rattle.hy_tree.specs.declared.statement.Branch.{Branch, out-Branch}
use Rattle.hy_tree.specs.declared.statement.Stmt.{Stmt}
use Rattle.hy_tree.specs.declared.written.TypeExp.{TypeExp}
use Rattle.hy_base.proofs.Walks.{IsWalk}

-- nothing goes on beside the list
abbrev pub Alone : Type 0
Alone = Unit {0}

pub types_walk : (around : Around) → IsWalk (λ (s : Alone) (xs : List TypeExp). find_types around (types_of xs)) (λ s x. find_type around (type_of x))
    (λ s x. s)
types_walk around = record { none = λ s. refl; some = λ s x more. refl }

pub traits_walk : (file : File) → IsWalk (λ (s : Alone) (xs : List NameUse). find_traits file xs) (λ s x. find_trait file x) (λ s x. s)
traits_walk file = record { none = λ s. refl; some = λ s x more. refl }

module _ (around : Around) (blocks : List Names) where
  pub exprs_walk : IsWalk (λ (s : Alone) (xs : List Expr). find_exprs around blocks (exprs_of xs)) (λ s x. find_expr around blocks (expr_of x)) (λ s x. s)
  exprs_walk = record { none = λ s. refl; some = λ s x more. refl }

  pub links_walk : IsWalk (λ (s : Alone) (xs : List Link). find_links around blocks (links_of xs)) (λ s x. find_expr around blocks (expr_of x.operand))
      (λ s x. s)
  links_walk = record { none = λ s. refl; some = λ s x more. refl }

  pub steps_walk : IsWalk (λ (s : Alone) (xs : List Step). find_steps around blocks (steps_of xs)) (λ s x. find_step around blocks (step_of x)) (λ s x. s)
  steps_walk = record { none = λ s. refl; some = λ s x more. refl }

  pub args_walk : IsWalk (λ (s : Alone) (xs : List Arg). find_args around blocks (args_of xs)) (λ s x. find_expr around blocks (expr_of x.value)) (λ s x. s)
  args_walk = record { none = λ s. refl; some = λ s x more. refl }

  pub choices_walk : IsWalk (λ (s : Alone) (xs : List Choice). find_choices around blocks (choices_of xs))
      (λ s x. find_expr around blocks (expr_of x.condition) ++ find_expr around blocks (expr_of x.value)) (λ s x. s)
  choices_walk = record {
    none = λ s. refl;
    some = λ s x more. sym (append_assoc (find_expr around blocks (expr_of x.condition))
        (find_expr around blocks (expr_of x.value)) (find_choices around blocks (choices_of more)));
  }

  pub branches_walk : IsWalk (λ (s : Alone) (xs : List Branch). find_branches around blocks (branches_of xs))
      (λ s x. find_expr around blocks (expr_of (out-Branch x).condition) ++ find_block around blocks (block_of (out-Branch x).block)) (λ s x. s)
  branches_walk = record {
    none = λ s. refl;
    some = λ s x more. sym (append_assoc (find_expr around blocks (expr_of (out-Branch x).condition))
        (find_block around blocks (block_of (out-Branch x).block)) (find_branches around blocks (branches_of more)));
  }

-- the names of the block go on beside its statements
pub stmts_walk : (around : Around) → IsWalk (λ blocks (xs : List Stmt). find_stmts around blocks (stmts_of xs))
    (λ blocks x. find_stmt around blocks (stmt_of x)) (λ blocks x. behind blocks (stmt_of x))
stmts_walk around = record { none = λ s. refl; some = λ s x more. refl }

-- the names before them go on beside type parameters and parameters

pub generics_walk : (file : File) → IsWalk (λ (s : Names × ℕ) (xs : List TypeParam). find_generics file s.0 s.1 xs) (λ s x. declares s.0 x.name
    ++ find_traits file x.bounds) (λ s x. (with_name x.name.text (meant.Param s.1) s.0, s.1 + 1))
generics_walk file = record { none = λ s. refl; some = λ s x more. refl }

pub params_walk : (around : Around) → IsWalk (λ (s : Names) (xs : List Param). find_params around s (map param_of xs)) (λ s x. declares s x.name
    ++ find_type around (type_of x.written)) (λ s x. with_name x.name.text (meant.Local x.node) s)
params_walk around = record { none = λ s. refl; some = λ s x more. refl }

pub variants_walk : (around : Around) (blocks : List Names) → IsWalk (λ (s : Names) (xs : List Variant). find_variants around blocks s (map variant_of xs))
    (λ s x. find_variant around blocks s (variant_of x)) (λ s x. with_name (word_of x.mode) meant.Nothing s)
variants_walk around blocks = record { none = λ s. refl; some = λ s x more. refl }

pub members_walk : (around : Around) → IsWalk (λ (s : Alone) (xs : List Member). find_members around (map member_of xs))
    (λ s x. find_member around (member_kind_of x.kind)) (λ s x. s)
members_walk around = record { none = λ s. refl; some = λ s x more. refl }

-- the members before them go on beside members, and the names before them beside declarations

pub twice_members_walk : IsWalk (λ (s : Family) (xs : List Member). twice_members s (map member_of xs)) (λ s x. twice_member s (member_kind_of x.kind))
    (λ s x. with_member s x.node (member_kind_of x.kind))
twice_members_walk = record { none = λ s. refl; some = λ s x more. refl }

pub twice_decls_walk : IsWalk (λ (s : File) (xs : List Decl). twice_decls s (map decl_of xs)) (λ s x. twice_decl s (decl_kind_of x.kind))
    (λ s x. with_decl s (decl_kind_of x.kind))
twice_decls_walk = record { none = λ s. refl; some = λ s x more. refl }

pub decls_walk : (file : File) → IsWalk (λ (s : Alone) (xs : List Decl). find_decls file (map decl_of xs)) (λ s x. find_decl file (decl_kind_of x.kind))
    (λ s x. s)
decls_walk file = record { none = λ s. refl; some = λ s x more. refl }
