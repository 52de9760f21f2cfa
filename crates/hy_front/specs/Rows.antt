-- Worked examples of where a form is not built.
use Rattle.std.specs.Prelude.{◌≡◌, ℕ, true, List, [], ◌∷◌, Some, None, codes, pos}
use Rattle.hy_base.specs.declared.position.Span.{Span}
use Rattle.hy_tree.specs.Findings.{meanings}
use Rattle.hy_tree.specs.Numbers.{number_program}
use Rattle.hy_tree.specs.Tree as T
use Rattle.hy_tree.specs.declared.operator.Arithmetic.TheVariants as arithmetic
use Rattle.hy_tree.specs.declared.operator.Introducer.TheVariants as introducer
use Rattle.hy_tree.specs.declared.operator.Operator.TheVariants as operator
use Rattle.hy_meaning.specs.Rows.{span, at, spelled, named, number, print, main, sum, overflow}
use Rattle.hy_front.specs.Noted.{unbuilt_at, after}
use Rattle.hy_front.specs.Unbuilt.{unbuilt}

-- the statements, one after the other
abbrev pub two : T.Stmt → T.Stmt → T.Program
two one other = main (T.ThenStmt one (T.ThenStmt other T.NoStmt))

abbrev pub one : T.Stmt → T.Program
one stmt = main (T.ThenStmt stmt T.NoStmt)

-- `var x = 1`, from 13 on
abbrev pub var_x : T.Stmt
var_x = T.Binding introducer.Var (spelled (codes "x") 17 18) None (number (pos 1) 21 22) (at 13 22)

abbrev pub var : List ℕ → T.Expr → T.Stmt
var name value = T.Binding introducer.Var (spelled name 28 29) None value (at 24 33)

-- where a form of a program is not built, once its nodes have their numbers
abbrev pub places : T.Program → List Span
places plain = unbuilt (meanings (number_program plain)) (number_program plain)

-- `NAME()`
abbrev pub call : List ℕ → ℕ → ℕ → ℕ → T.Stmt
call name from to end = T.Evaluate (T.Postfix (named name from to) (T.ThenStep (T.CallStep T.NoArg (at from end)) T.NoStep) (at from end)) (at from end)

pub record Rows : Type 0 where
  -- fun main() { var x = 40; x = x + 2; print(x) }
  pub all_built : places sum ≡ []
  pub also_built : places overflow ≡ []
  -- fun main() { var x = 1; var y = x }
  pub bare_place : places (two var_x (var (codes "y") (named (codes "x") 32 33))) ≡ span 32 33 ∷ []
  -- fun main() { print(main) }
  pub no_variable : places (one (print (named (codes "main") 19 23) 13 24)) ≡ span 19 23 ∷ []
  -- fun main() { main() }: a statement, an expression and a step, and no value `main`
  pub callee : places (one (call (codes "main") 13 17 19)) ≡ span 13 19 ∷ span 13 19 ∷ span 13 19 ∷ []
  -- fun main() { var x = 1; while true { print(x) } }: a variable of the block around
  pub outer_block : places (two var_x (T.While (span 24 29) (T.Truth true (at 30 34))
      (T.Braces (T.ThenStmt (print (named (codes "x") 43 44) 37 45) T.NoStmt) (at 35 47)) (at 24 47))) ≡ span 24 47 ∷ span 30 34 ∷ []
  -- fun main() { print(1 - true) }: the operand is met before the operator
  pub two_places : places (one (print (T.Chain (number (pos 1) 19 20) (T.ThenLink (operator.Arithmetic arithmetic.Subtract) (span 21 22)
      (T.Truth true (at 23 27)) (at 19 27) T.NoLink) (at 19 27)) 13 28)) ≡ span 19 27 ∷ span 23 27 ∷ []
  pub the_first : after (span 19 27 ∷ span 23 27 ∷ []) None ≡ Some (unbuilt_at (span 23 27))
  -- fun main() { while true {} }: the condition ends before the statement does
  pub inner_first : after (places (one (T.While (span 13 18) (T.Truth true (at 19 23)) (T.Braces T.NoStmt (at 24 26)) (at 13 26)))) None
      ≡ Some (unbuilt_at (span 19 23))
