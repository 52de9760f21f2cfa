-- Lists inside the tree, as lists: how they are numbered, and how many nodes they have.
use Rattle.std.proofs.Common.{◌≡◌, ℕ, ◌+◌, List, [], ◌∷◌, refl, ap, ◌∙◌, arith}
use Rattle.hy_tree.specs.Numbers.{numbered, count_all, number_all, count_type, count_types, number_type, number_types, count_expr, count_exprs, number_expr}
use Rattle.hy_tree.specs.Numbers.{number_exprs, count_links, number_links, count_step, count_steps, number_step, number_steps, count_args, number_args}
use Rattle.hy_tree.specs.Numbers.{count_choices, number_choices, count_stmt, count_stmts, number_stmt, number_stmts, count_block, number_block}
use Rattle.hy_tree.specs.Numbers.{count_branches, number_branches}
use Rattle.hy_tree.specs.Tree as T

pub numbered_types_are : (n : ℕ) (parts : List T.TypeExp) → number_types n (T.types parts) ≡ T.types (number_all count_type number_type n parts)
numbered_types_are n [] = refl
numbered_types_are n (part ∷ more) = ap (T.ThenType (number_type n part)) (numbered_types_are (n + count_type part) more)

pub counted_types_are : (parts : List T.TypeExp) → count_types (T.types parts) ≡ count_all count_type parts
counted_types_are [] = refl
counted_types_are (part ∷ more) = ap (λ k. count_type part + k) (counted_types_are more)

pub numbered_exprs_are : (n : ℕ) (parts : List T.Expr) → number_exprs n (T.exprs parts) ≡ T.exprs (number_all count_expr number_expr n parts)
numbered_exprs_are n [] = refl
numbered_exprs_are n (part ∷ more) = ap (T.ThenExpr (number_expr n part)) (numbered_exprs_are (n + count_expr part) more)

pub counted_exprs_are : (parts : List T.Expr) → count_exprs (T.exprs parts) ≡ count_all count_expr parts
counted_exprs_are [] = refl
counted_exprs_are (part ∷ more) = ap (λ k. count_expr part + k) (counted_exprs_are more)

pub numbered_steps_are : (n : ℕ) (parts : List T.Step) → number_steps n (T.steps parts) ≡ T.steps (number_all count_step number_step n parts)
numbered_steps_are n [] = refl
numbered_steps_are n (part ∷ more) = ap (T.ThenStep (number_step n part)) (numbered_steps_are (n + count_step part) more)

pub counted_steps_are : (parts : List T.Step) → count_steps (T.steps parts) ≡ count_all count_step parts
counted_steps_are [] = refl
counted_steps_are (part ∷ more) = ap (λ k. count_step part + k) (counted_steps_are more)

pub numbered_stmts_are : (n : ℕ) (parts : List T.Stmt) → number_stmts n (T.stmts parts) ≡ T.stmts (number_all count_stmt number_stmt n parts)
numbered_stmts_are n [] = refl
numbered_stmts_are n (part ∷ more) = ap (T.ThenStmt (number_stmt n part)) (numbered_stmts_are (n + count_stmt part) more)

pub counted_stmts_are : (parts : List T.Stmt) → count_stmts (T.stmts parts) ≡ count_all count_stmt parts
counted_stmts_are [] = refl
counted_stmts_are (part ∷ more) = ap (λ k. count_stmt part + k) (counted_stmts_are more)

abbrev pub count_link : T.Link → ℕ
count_link l = 1 + count_expr l.operand

abbrev pub number_link : ℕ → T.Link → T.Link
number_link n l = record { operator = l.operator; token = l.token; operand = number_expr (n + 1) l.operand; at = numbered n l.at }

pub numbered_links_are : (n : ℕ) (parts : List T.Link) → number_links n (T.links parts) ≡ T.links (number_all count_link number_link n parts)
numbered_links_are n [] = refl
numbered_links_are n (l ∷ more) =
    let same : n + 1 + count_expr l.operand ≡ n + count_link l = omega arith in
    ap (λ k. T.ThenLink l.operator l.token (number_expr (n + 1) l.operand) (numbered n l.at) (number_links k (T.links more))) same
    ∙ ap (T.ThenLink l.operator l.token (number_expr (n + 1) l.operand) (numbered n l.at)) (numbered_links_are (n + count_link l) more)

pub counted_links_are : (parts : List T.Link) → count_links (T.links parts) ≡ count_all count_link parts
counted_links_are [] = refl
counted_links_are (l ∷ more) = let h = counted_links_are more in omega (arith, h)

abbrev pub count_arg : T.Arg → ℕ
count_arg a = count_expr a.value

abbrev pub number_arg : ℕ → T.Arg → T.Arg
number_arg n a = record { label = a.label; value = number_expr n a.value }

pub numbered_args_are : (n : ℕ) (parts : List T.Arg) → number_args n (T.args parts) ≡ T.args (number_all count_arg number_arg n parts)
numbered_args_are n [] = refl
numbered_args_are n (a ∷ more) =
    ap (T.ThenArg a.label (number_expr n a.value)) (numbered_args_are (n + count_arg a) more)

pub counted_args_are : (parts : List T.Arg) → count_args (T.args parts) ≡ count_all count_arg parts
counted_args_are [] = refl
counted_args_are (a ∷ more) = let h = counted_args_are more in omega (arith, h)

abbrev pub count_choice : T.Choice → ℕ
count_choice c = count_expr c.condition + count_expr c.value

abbrev pub number_choice : ℕ → T.Choice → T.Choice
number_choice n c = record { token = c.token; condition = number_expr n c.condition; value = number_expr (n + count_expr c.condition) c.value }

pub numbered_choices_are : (n : ℕ) (parts : List T.Choice) → number_choices n (T.choices parts) ≡ T.choices (number_all count_choice number_choice n parts)
numbered_choices_are n [] = refl
numbered_choices_are n (c ∷ more) =
    let same : n + count_expr c.condition + count_expr c.value ≡ n + count_choice c = omega arith in
    ap (λ k. T.ThenChoice c.token (number_expr n c.condition) (number_expr (n + count_expr c.condition) c.value) (number_choices k (T.choices more)))
    same ∙ ap (T.ThenChoice c.token (number_expr n c.condition) (number_expr (n + count_expr c.condition) c.value))
    (numbered_choices_are (n + count_choice c) more)

pub counted_choices_are : (parts : List T.Choice) → count_choices (T.choices parts) ≡ count_all count_choice parts
counted_choices_are [] = refl
counted_choices_are (c ∷ more) = let h = counted_choices_are more in omega (arith, h)

abbrev pub count_branch : T.Branch → ℕ
count_branch b = count_expr b.condition + count_block b.body

abbrev pub number_branch : ℕ → T.Branch → T.Branch
number_branch n b = record { token = b.token; condition = number_expr n b.condition; body = number_block (n + count_expr b.condition) b.body }

pub numbered_branches_are : (n : ℕ) (parts : List T.Branch) → number_branches n (T.branches parts) ≡ T.branches (number_all count_branch number_branch n parts)
numbered_branches_are n [] = refl
numbered_branches_are n (b ∷ more) =
    let same : n + count_expr b.condition + count_block b.body ≡ n + count_branch b = omega arith in
    ap (λ k. T.ThenBranch b.token (number_expr n b.condition) (number_block (n + count_expr b.condition) b.body) (number_branches k (T.branches more)))
    same ∙ ap (T.ThenBranch b.token (number_expr n b.condition) (number_block (n + count_expr b.condition) b.body))
    (numbered_branches_are (n + count_branch b) more)

pub counted_branches_are : (parts : List T.Branch) → count_branches (T.branches parts) ≡ count_all count_branch parts
counted_branches_are [] = refl
counted_branches_are (b ∷ more) = let h = counted_branches_are more in omega (arith, h)

pub ruleset type_lists = (numbered_types_are, counted_types_are)

pub ruleset expr_lists = (numbered_exprs_are, counted_exprs_are)

pub ruleset link_lists = (numbered_links_are, counted_links_are)

pub ruleset step_lists = (numbered_steps_are, counted_steps_are)

pub ruleset arg_lists = (numbered_args_are, counted_args_are)

pub ruleset choice_lists = (numbered_choices_are, counted_choices_are)

pub ruleset stmt_lists = (numbered_stmts_are, counted_stmts_are)

pub ruleset branch_lists = (numbered_branches_are, counted_branches_are)
