-- What operators, conversions and the predeclared functions and members do with the values of their arguments.
use Rattle.std.specs.Prelude.{ℕ, ◌==◌, pos, Bool, not, List, [], ◌∷◌, ◌++◌, Option, Some, None, Result, Ok, Err, cond, int_lt, int_le}
use Rattle.hy_base.specs.Lines as L
use Rattle.hy_base.specs.Lines.{Got, read_line}
use Rattle.hy_base.specs.declared.numbers.IntegerType.TheVariants as integer
use Rattle.hy_base.specs.declared.numbers.Operation.{Operation}
use Rattle.hy_base.specs.declared.numbers.Operation.TheVariants as operation
use Rattle.hy_base.specs.declared.position.Span.{Span}
use Rattle.hy_base.specs.declared.run.End.TheVariants as end
use Rattle.hy_base.specs.declared.run.TrapKind.{TrapKind}
use Rattle.hy_base.specs.declared.run.TrapKind.TheVariants as trap
use Rattle.hy_tree.specs.declared.operator.Arithmetic.{Arithmetic}
use Rattle.hy_tree.specs.declared.operator.Arithmetic.TheVariants as arithmetic
use Rattle.hy_tree.specs.declared.operator.Operator.{Operator}
use Rattle.hy_tree.specs.declared.operator.Operator.TheVariants as operator
use Rattle.hy_tree.specs.declared.operator.UnaryOperator.{UnaryOperator}
use Rattle.hy_tree.specs.declared.operator.UnaryOperator.TheVariants as unary
use Rattle.hy_tree.specs.declared.predeclared.TheConstants.{PRINT, READ, PRECONDITION, COUNT, APPEND, REMOVE_LAST, SWAP_AT}
use Rattle.hy_types.specs.Types as Y
use Rattle.hy_types.specs.Types.{PlainType}
use Rattle.hy_core.specs.Operators as O
use Rattle.hy_core.specs.Operators.{index_in, at_end, popped, line_of}
use Rattle.hy_core.specs.Values.{Val, Number, Truth, Array, Vals, No, And, many, nth, with_nth}
use Rattle.hy_copying.specs.Kinds.{is_true, integer_in, elements_in, unit_value}
use Rattle.hy_copying.specs.Runs.{State, Ends, Prints, Reads}
use Rattle.hy_copying.specs.Does.{Gives, Stops, Does, ◌>>=◌, ◌>>◌, give, traps, impossible, when, happens}
use Rattle.hy_copying.specs.Lives.{Later, first, rest, copies}
use Rattle.hy_copying.specs.Opening.{Worked, gives_only}

-- ARITHMETIC

-- a value, or the trap at this span
abbrev pub calculated : Span → Option (Result Val TrapKind) → Does Val
calculated span None = impossible
calculated span (Some (Ok v)) = give v
calculated span (Some (Err kind)) = traps kind span

abbrev pub decided : Option Bool → Does Val
decided None = impossible
decided (Some b) = give (Truth b)

abbrev pub operation_of : Arithmetic → Operation
operation_of arithmetic.Add = operation.Add
operation_of arithmetic.Subtract = operation.Sub
operation_of arithmetic.Multiply = operation.Mul
operation_of arithmetic.Divide = operation.Div
operation_of arithmetic.Remainder = operation.Rem

-- an operation of arithmetic, of two integers of one type
abbrev pub computes : Arithmetic → Span → Val → Val → Does Val
computes a span v w = calculated span (O.operated (operation_of a) v w)

abbrev pub negation : Option Bool → Option Bool
negation None = None
negation (Some b) = Some (not b)

-- an operator other than `&&` and `||`, of two values
abbrev pub operates : Operator → Span → Val → Val → Does Val
operates operator.Or span v w = impossible
operates operator.And span v w = impossible
operates operator.Equal span v w = decided (O.equal v w)
operates operator.NotEqual span v w = decided (negation (O.equal v w))
operates operator.Less span v w = decided (O.ordered int_lt v w)
operates operator.LessEqual span v w = decided (O.ordered int_le v w)
operates operator.Greater span v w = decided (O.ordered (λ m n. int_lt n m) v w)
operates operator.GreaterEqual span v w = decided (O.ordered (λ m n. int_le n m) v w)
operates (operator.Arithmetic a) span v w = computes a span v w

-- an operator of one value
abbrev pub operates_alone : UnaryOperator → Span → Val → Does Val
operates_alone unary.Negate span v = calculated span (O.negated v)
operates_alone unary.Not span v = give (Truth (not (is_true v)))

-- an integer as one of another type
abbrev pub converts : PlainType → Span → Val → Does Val
converts Y.Int span v = calculated span (O.converted integer.Int v)
converts (Y.Sized num) span v = calculated span (O.converted (integer.Sized num) v)
converts other span v = impossible

-- PRINT, READ AND PRECONDITION

abbrev pub writes : List ℕ → Does Val
writes piece env s = Gives unit_value env (record s { output = s.output ++ piece })

abbrev pub prints_line : Option (List ℕ) → Does Val
prints_line None = impossible
prints_line (Some piece) = do
  happens (Prints piece)
  writes piece

-- `print` of a value
abbrev pub prints : Val → Does Val
prints v = prints_line (line_of v)

abbrev pub with_input : List ℕ → State → State
with_input bytes s = record s { input = bytes }

-- a line that is no number is taken all the same
abbrev pub got : Got → Span → Does Val
got (L.Gives n left) span env s = Gives (Number integer.Int n) env (with_input left s)
got (L.Fails left) span env s = Stops (Ends (end.Trap trap.Input span)) (with_input left s)
got L.Wants span env s = Stops (Ends end.Asks) s

abbrev pub takes_line : Span → Does Val
takes_line span env s = got (read_line s.cut s.input) span env s

-- `read()` at this span
abbrev pub reads_line : Span → Does Val
reads_line span = do
  happens Reads
  takes_line span

-- `precondition` at this span
abbrev pub demands : Span → Val → Does Val
demands span v = when (is_true v) (give unit_value) (traps trap.Precondition span)

-- MEMBERS OF ARRAYS

-- an array with a value as its last element
abbrev pub appended : Val → Val → Worked
appended array v = record { given = unit_value; left = Array (at_end (elements_in array) v) ∷ [] }

-- the last element is removed and given
abbrev pub removes_last : Span → Vals → Does Worked
removes_last span No = traps trap.Empty span
removes_last span (And v vs) = let p = popped v vs in give (record { given = p.last; left = Array p.rest ∷ [] })

abbrev pub swapped : ℕ → ℕ → Vals → Val
swapped i j vs = Array (with_nth i (nth j vs) (with_nth j (nth i vs) vs))

-- the first of some spans, or this one
abbrev pub span_or : List Span → Span → Span
span_or [] span = span
span_or (one ∷ more) span = one

abbrev pub spans_after : List Span → List Span
spans_after [] = []
spans_after (one ∷ more) = more

-- the first index outside the array traps, at its expression
abbrev pub swaps : (first second : Span) → Option ℕ → Option ℕ → Vals → List Val → Does Worked
swaps first second None j vs indices = traps trap.Index first
swaps first second (Some i) None vs indices = traps trap.Index second
swaps first second (Some i) (Some j) vs indices = give (record { given = unit_value; left = swapped i j vs ∷ indices })

abbrev pub place_in : Vals → Val → Option ℕ
place_in vs index = index_in (many vs) (integer_in index)

abbrev pub swaps_at : Span → List Span → Vals → List Val → Does Worked
swaps_at span spans vs indices =
    swaps (span_or spans span) (span_or (spans_after spans) span) (place_in vs (first indices)) (place_in vs (first (rest indices))) vs indices

-- what a predeclared call is, by its number
pub data Built : Type 0 where
  Print : Built
  Read : Built
  Precondition : Built
  Count : Built
  Append : Built
  RemoveLast : Built
  SwapAt : Built
  Copy : Built

-- the predeclared call with a number
abbrev pub built : ℕ → Built
built number =
    cond (number == PRINT) Print
    (cond (number == READ) Read
    (cond (number == PRECONDITION) Precondition
    (cond (number == COUNT) Count
    (cond (number == APPEND) Append
    (cond (number == REMOVE_LAST) RemoveLast
    (cond (number == SWAP_AT) SwapAt Copy))))))

-- The body of a predeclared call at this span, with the values of its arguments and the spans of those in parentheses. An array
-- member has its array first.
abbrev pub works : Later → Built → Span → List Span → List Val → Does Worked
works later Print span spans values = do
  v ← prints (first values)
  gives_only v values
works later Read span spans values = do
  v ← reads_line span
  gives_only v values
works later Precondition span spans values = do
  v ← demands span (first values)
  gives_only v values
works later Count span spans values = gives_only (Number integer.Int (pos (many (elements_in (first values))))) values
works later Append span spans values = give (appended (first values) (first (rest values)))
works later RemoveLast span spans values = removes_last span (elements_in (first values))
works later SwapAt span spans values = swaps_at span spans (elements_in (first values)) (rest values)
works later Copy span spans values = do
  copies later (first values)
  gives_only (first values) values
