-- The copying meaning of a source: what it writes and how it ends, as if every value were copied.
use Rattle.std.specs.Prelude.{◌≡◌, ℕ, zero, suc, ◌-◌, Bool, List, [], length, Option, Some, None}
use Rattle.hy_base.specs.declared.run.End.TheVariants as end
use Rattle.hy_tree.specs.Tree as T
use Rattle.hy_tree.specs.declared.operator.Mode.TheVariants as mode
use Rattle.hy_copying.specs.Known.{Known, known_of, main_of}
use Rattle.hy_copying.specs.Runs.{State, Halt, Ends, Before, Prints, Reads, Came, Returned, Yielded, Halted}
use Rattle.hy_copying.specs.Does.{Outcome, Gives, Yields, Stops, turn, halt}
use Rattle.hy_copying.specs.Lives.{Later, deinitialises_parts}
use Rattle.hy_copying.specs.Statements.{body_of}

-- What can be done while at most so many turns are left.
abbrev pub at_most : Known → ℕ → Later
at_most known zero = record {
  known = known;
  body = λ node variant vs s. Halted (Ends end.Spent) s;
  passes = 0;
  parts = λ v. halt (Ends end.Spent);
}
at_most known (suc n) = record {
  known = known;
  body = λ node variant vs s. body_of (at_most known n) node variant vs s;
  passes = suc n;
  parts = λ v env s. deinitialises_parts (at_most known n) v env s;
}

-- What is seen of a run: its output and its end, how many bytes of the input it took, the turns that it took, the places that it opened.
pub record Report : Type 0 where
  pub output : List ℕ
  pub halt : Halt
  pub taken : ℕ
  pub turns : ℕ
  pub opened : ℕ

abbrev pub report : (input : List ℕ) → (n : ℕ) → Halt → State → Report
report input n h s = record { output = s.output; halt = h; taken = length input - length s.input; turns = n - s.turns; opened = s.opened }

abbrev pub ended : (input : List ℕ) → (n : ℕ) → Came → Report
ended input n (Returned v parameters s) = report input n (Ends end.Done) s
ended input n (Yielded v s slide) = report input n (Ends end.Done) s
ended input n (Halted h s) = report input n h s

abbrev pub start : (input : List ℕ) → (cut : Bool) → (n : ℕ) → (events : Option ℕ) → State
start input cut n events = record { input = input; cut = cut; output = []; turns = n; opened = 0; events = events }

abbrev pub begun : Later → Outcome (Unit {0}) → Came
begun later (Gives given env s) = later.body (main_of later.known.source) mode.Let [] s
begun later (Yields v s resumed) = Halted (Ends end.Done) s
begun later (Stops h s) = Halted h s

abbrev pub runs_main : Later → State → Came
runs_main later s = begun later (turn (record { locals = []; temporaries = [] }) s)

-- A run of `main` of a numbered tree that breaks no rule: on this input, which is a beginning only where `cut` holds, with at most n turns,
-- and with so many events at most where they are limited.
abbrev pub run : T.Program → (input : List ℕ) → (cut : Bool) → (n : ℕ) → (events : Option ℕ) → Report
run tree input cut n events = ended input n (runs_main (at_most (known_of tree) n) (start input cut n events))

-- the meaning
abbrev pub mean : T.Program → (input : List ℕ) → (cut : Bool) → (n : ℕ) → Report
mean tree input cut n = run tree input cut n None

-- STATES OF A RUN

-- This is seen in some state of the run: after so many events, before the next one or at the end.
pub record IsSeen (tree : T.Program) (input : List ℕ) (cut : Bool) (n : ℕ) (r : Report) : Type 0 where
  pub events : ℕ
  pub same : run tree input cut n (Some events) ≡ r

-- in that state the next event is a `print` of this piece, or a `read`
pub record IsBeforePrint (tree : T.Program) (input : List ℕ) (cut : Bool) (n : ℕ) (piece : List ℕ) (r : Report) : Type 0 where
  pub seen : IsSeen tree input cut n r
  pub next : r.halt ≡ Before (Prints piece)

pub record IsBeforeRead (tree : T.Program) (input : List ℕ) (cut : Bool) (n : ℕ) (r : Report) : Type 0 where
  pub seen : IsSeen tree input cut n r
  pub next : r.halt ≡ Before Reads
