-- The copying meaning of a program: what it writes and how it ends, as if every value were copied.
use Rattle.std.specs.Prelude.{ℕ, zero, suc, ◌-◌, Bool, true, false, List, [], ◌∷◌, ◌++◌, length, Option, Some, None, ℤ, pos, ◌+ℤ◌, if◌then◌else◌, bytes_eq}
use Rattle.std.specs.Fmt.{signed_decimal}
pub use Rattle.hy_base.specs.Numbers.{fits}
use Rattle.hy_base.specs.declared.position.Span.{Span}
use Rattle.hy_base.specs.declared.run.End.{End}
use Rattle.hy_base.specs.declared.run.End.TheVariants as end
use Rattle.hy_base.specs.declared.run.TrapKind.TheVariants as trap
use Rattle.hy_tree.specs.Tree as T
use Rattle.hy_meaning.specs.Forms.{first_of, links_of, printed, target_of, main_of}

-- VALUES AND VARIABLES

pub data Value : Type 0 where
  Int : ℤ → Value

pub record Entry : Type 0 where
  pub name : List ℕ
  pub value : Value

-- the variables, in order of declaration
abbrev pub Env : Type 0
Env = List Entry

-- the value of a variable; no program asks for a name that it has not declared
abbrev pub look : Env → List ℕ → Value
look [] name = Int (pos 0)
look (e ∷ env) name = if bytes_eq e.name name then e.value else look env name

-- another value for a variable; all else stays
abbrev pub put : Env → List ℕ → Value → Env
put [] name value = []
put (e ∷ env) name value = if bytes_eq e.name name then record { name = e.name; value = value } ∷ env else e ∷ put env name value

abbrev pub declare : Env → List ℕ → Value → Env
declare env name value = env ++ record { name = name; value = value } ∷ []

-- RUNS

-- What a run has left and has done: the input left, the output, the turns left, the places opened.
pub record State : Type 0 where
  pub input : List ℕ
  pub output : List ℕ
  pub turns : ℕ
  pub opened : ℕ

-- an expression gives a value, or ends the run
pub data Outcome : Type 0 where
  Gives : Value → Env → State → Outcome
  Stops : End → State → Outcome

-- a statement goes on, or ends the run
pub data Flow : Type 0 where
  Next : Env → State → Flow
  Over : End → State → Flow

abbrev pub then_do : Outcome → (Value → Env → State → Flow) → Flow
then_do (Gives value env s) f = f value env s
then_do (Stops e s) f = Over e s

abbrev pub and_then : Flow → (Env → State → Flow) → Flow
and_then (Next env s) f = f env s
and_then (Over e s) f = Over e s

-- EXPRESSIONS

abbrev pub number_in : Value → ℤ
number_in (Int n) = n

-- A program that is accepted has no other operands.
abbrev pub operand_value : Env → T.Expr → ℤ
operand_value env (T.Named name at) = number_in (look env name.text)
operand_value env (T.Number n at) = n
operand_value env e = pos 0

-- A result that does not fit traps at the operator's expression.
abbrev pub checked : Bool → ℤ → Span → Env → State → (ℤ → Outcome) → Outcome
checked true n span env s go = go n
checked false n span env s go = Stops (end.Trap trap.Overflow span) s

-- The right operands are added to what is there, from left to right.
abbrev pub add_all : ℤ → T.Links → Env → State → Outcome
add_all n T.NoLink env s = Gives (Int n) env s
add_all n (T.ThenLink operator token operand at links) env s =
    checked (fits (n +ℤ operand_value env operand)) (n +ℤ operand_value env operand) at.span env s (λ n. add_all n links env s)

abbrev pub eval : T.Expr → Env → State → Outcome
eval value env s = add_all (operand_value env (first_of value)) (links_of value) env s

-- STATEMENTS

-- the line that a value prints as
abbrev pub line_of : Value → List ℕ
line_of (Int n) = signed_decimal n ++ 10 ∷ []

abbrev pub write : State → List ℕ → State
write s piece = record s { output = s.output ++ piece }

abbrev pub print_value : Option T.Expr → Env → State → Flow
print_value None env s = Next env s
print_value (Some value) env s = then_do (eval value env s) (λ v env s. Next env (write s (line_of v)))

-- A program that is accepted has no other statements.
abbrev pub exec : T.Stmt → Env → State → Flow
exec (T.Binding introducer name written value at) env s = then_do (eval value env s) (λ v env s. Next (declare env name.text v) s)
exec (T.Assign target value at) env s = then_do (eval value env s) (λ v env s. Next (put env (target_of target) v) s)
exec (T.Evaluate e at) env s = print_value (printed e) env s
exec stmt env s = Next env s

abbrev pub block : T.Stmts → Env → State → Flow
block T.NoStmt env s = Next env s
block (T.ThenStmt stmt stmts) env s = and_then (exec stmt env s) (block stmts)

-- PROGRAMS

-- takes a turn
abbrev pub turn : ℕ → State → (State → Flow) → Flow
turn zero s go = Over end.Spent s
turn (suc n) s go = go (record s { turns = n })

-- what is seen of a run: its output and end, how many bytes of the input it took, the turns that it took, the places that it opened
pub record Report : Type 0 where
  pub output : List ℕ
  pub end : End
  pub taken : ℕ
  pub turns : ℕ
  pub opened : ℕ

abbrev pub report : List ℕ → ℕ → State → End → Report
report input n s e = record { output = s.output; end = e; taken = length input - length s.input; turns = n - s.turns; opened = s.opened }

abbrev pub reported : List ℕ → ℕ → Flow → Report
reported input n (Next env s) = report input n s end.Done
reported input n (Over e s) = report input n s e

abbrev pub start : List ℕ → ℕ → State
start input n = record { input = input; output = []; turns = n; opened = 0 }

-- A run of `main` on this input with at most n turns. Where `cut` holds the input is a beginning only; no form that is
-- built reads, so nothing depends on it yet.
abbrev pub mean : T.Program → (input : List ℕ) → (cut : Bool) → (n : ℕ) → Report
mean tree input cut n = reported input n (turn n (start input n) (block (main_of tree.decls) []))
