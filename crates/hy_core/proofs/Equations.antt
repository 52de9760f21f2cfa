-- What the plain form of each statement is.
use Rattle.std.proofs.Common.{◌≡◌, ℕ, ℤ, Bool, List, [], ◌∷◌, Option, map, refl, ap}
use Rattle.std.specs.Option.{option_map}
use Rattle.hy_core.specs.Plain as P
use Rattle.hy_core.specs.declared.program.CoreOp.{CoreOp}
use Rattle.hy_core.specs.declared.program.CorePlace.{CorePlace}
use Rattle.hy_core.specs.declared.program.CoreStmt.{CoreStmt}
use Rattle.hy_core.specs.declared.program.CoreStmt.TheVariants as S
use Rattle.hy_core.specs.declared.program.CoreStmt.TheBlock.{shape-the_row-CoreStmt-0, hidden-the_row-CoreStmt-0}
use Rattle.hy_core.specs.Denotes.{op_of, place_of, stmt_of, stmt_row, stmts_of}

stmt_row_is : (ss : List CoreStmt) → stmt_row (hidden-the_row-CoreStmt-0 ss) ≡ stmts_of ss
unfolding stmt_of shape-the_row-CoreStmt-0 hidden-the_row-CoreStmt-0 denote.Hole.Carrier.hidden
stmt_row_is [] = refl
stmt_row_is (s ∷ more) = ap (P.Then (stmt_of s)) (stmt_row_is more)

pub built_is : (o : CoreOp) (to : Option CorePlace) (from : List CorePlace) (spans : List ℕ)
    → stmt_of (S.Built o to from spans) ≡ P.Built (op_of o) (option_map place_of to) (map place_of from) spans
unfolding stmt_of
built_is o to from spans = refl

pub set_is : (to : CorePlace) (value : ℤ) → stmt_of (S.Set to value) ≡ P.Set (place_of to) value
unfolding stmt_of
set_is to value = refl

pub lend_is : (to : ℕ) (place : CorePlace) (write : Bool) → stmt_of (S.Lend to place write) ≡ P.Lend to (place_of place) write
unfolding stmt_of
lend_is to place write = refl

pub close_is : (of : ℕ) → stmt_of (S.Close of) ≡ P.Close of
unfolding stmt_of
close_is of = refl

pub move_is : (to from : CorePlace) → stmt_of (S.Move to from) ≡ P.Move (place_of to) (place_of from)
unfolding stmt_of
move_is to from = refl

pub copy_is : (to from : CorePlace) → stmt_of (S.Copy to from) ≡ P.Copy (place_of to) (place_of from)
unfolding stmt_of
copy_is to from = refl

pub drop_is : (place : CorePlace) → stmt_of (S.Drop place) ≡ P.Drop (place_of place)
unfolding stmt_of
drop_is place = refl

pub call_is : (fun : ℕ) (lent : List ℕ) (owned : List CorePlace) (to : CorePlace)
    → stmt_of (S.Call fun lent owned to) ≡ P.Call fun lent (map place_of owned) (place_of to)
unfolding stmt_of
call_is fun lent owned to = refl

pub project_is : (fun : ℕ) (lent : List ℕ) (owned : List CorePlace) (to : ℕ)
    → stmt_of (S.Project fun lent owned to) ≡ P.Project fun lent (map place_of owned) to
unfolding stmt_of
project_is fun lent owned to = refl

pub slide_is : (of : ℕ) → stmt_of (S.Slide of) ≡ P.Slide of
unfolding stmt_of
slide_is of = refl

pub yield_is : (of : ℕ) → stmt_of (S.Yield of) ≡ P.Yield of
unfolding stmt_of
yield_is of = refl

pub break_is : stmt_of S.Break ≡ P.Break
unfolding stmt_of
break_is = refl

pub continue_is : stmt_of S.Continue ≡ P.Continue
unfolding stmt_of
continue_is = refl

pub leave_is : (from : CorePlace) → stmt_of (S.Leave from) ≡ P.Leave (place_of from)
unfolding stmt_of
leave_is from = refl

pub if_is : (on : ℕ) (a b : List CoreStmt) → stmt_of (S.If on a b) ≡ P.If on (stmts_of a) (stmts_of b)
unfolding stmt_of
if_is on a b = λ i. P.If on (stmt_row_is a i) (stmt_row_is b i)

pub while_is : (head : List CoreStmt) (on : ℕ) (body : List CoreStmt) → stmt_of (S.While head on body) ≡ P.While (stmts_of head) on (stmts_of body)
unfolding stmt_of
while_is head on body = λ i. P.While (stmt_row_is head i) on (stmt_row_is body i)

pub ruleset statements = (
  built_is,
  set_is,
  lend_is,
  close_is,
  move_is,
  copy_is,
  drop_is,
  call_is,
  project_is,
  slide_is,
  yield_is,
  if_is,
  while_is,
  break_is,
  continue_is,
  leave_is,
)
