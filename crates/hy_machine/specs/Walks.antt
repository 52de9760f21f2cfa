-- What the program keeps of a state, and how its instructions follow the machine's.
use Rattle.std.specs.Prelude.{replicate, ◌≡◌, ◌≢◌, ℕ, ◌+◌, List, [], ◌++◌, take, Option, Some, None, Result, Ok, Err, ℤ, slice_get}
use Rattle.hy_base.specs.declared.run.End.{End}
use Rattle.hy_base.specs.declared.run.End.TheVariants as end
use Rattle.hy_base.specs.declared.run.Counts.{Counts}
use Rattle.hy_base.specs.declared.run.RunCause.{RunCause}
use Rattle.hy_base.specs.declared.run.RunCause.TheVariants as cause
use Rattle.hy_base.specs.Outside.{StillTells}
use Rattle.hy_machine.specs.declared.frame.Halt.{Halt}
use Rattle.hy_machine.specs.declared.frame.Halt.TheVariants as halt
use Rattle.hy_machine.specs.declared.machine.Machine.{Machine}
use Rattle.hy_object.specs.declared.object.Object.{Object}
use Rattle.hy_object.specs.declared.instr.Instr.{Instr}
use Rattle.hy_object.specs.declared.instr.Instr.TheVariants as instr
use Rattle.hy_object.specs.declared.instr.Shown.{Shown}
use Rattle.hy_object.specs.declared.stuck.Kind.{Kind}
use Rattle.hy_object.specs.declared.stuck.Pc.{Pc}
use Rattle.hy_object.specs.States.{Event, Ended, Stuck}
use Rattle.hy_object.specs.Words.{line_of}
use Rattle.hy_machine.specs.Machine.{Unset, Word, State, Cell, stuck, does, steps, code}
use Rattle.hy_machine.specs.Frames.{word_of}
use Rattle.hy_runs.specs.Lines.{out_faults}
use Rattle.hy_runs.specs.Runs.{Appends}

-- How much of a line may have gone out before an instruction was cut off. None that is built reads.
abbrev pub IsPart : RunCause → (line : List ℕ) → (front : ℕ) → Type 0
IsPart cause.Input line front = ⊥
IsPart cause.Output line front = line ≢ []
IsPart cause.NoMemory line front = front ≡ 0

-- WHAT AN INSTRUCTION WRITES

abbrev pub line_in : Shown → Option Cell → List ℕ
line_in shown None = []
line_in shown (Some Unset) = []
line_in shown (Some (Word n)) = line_of shown n

abbrev pub printed_by : State → Option Instr → List ℕ
printed_by s (Some (instr.Print word shown)) = line_in shown (slice_get s.frame word)
printed_by s _ = []

-- the piece that the next instruction writes
abbrev pub piece : Object → State → List ℕ
piece object s = printed_by s (slice_get (code object) s.place)

-- STATES OF THE PROGRAM

-- what the program does not keep of a state
pub record Unkept : Type 0 where
  pub input : List ℕ
  pub output : List ℕ
  pub left : ℕ
  pub journal : List Event

-- the state of a run that goes on
abbrev pub standing : Machine → Unkept → State
standing m u = record {
  frame = m.frame.items;
  place = m.place;
  input = u.input;
  output = u.output;
  left = u.left;
  counts = m.counts;
  journal =
      u.journal;
  stop = None;
}

-- The machine is at the start of `main`, with a frame of that many words.
pub record IsStart (m : Machine) (words : ℕ) : Type 0 where
  pub frame : m.frame.items ≡ replicate words Unset
  pub place : m.place ≡ 0
  pub counts : m.counts ≡ record { turns = 1; blocks = 1; freed = 0; opened = 0; closed = 0 }

-- these bytes more are written
abbrev pub written : Unkept → List ℕ → Unkept
written u bytes = record u { output = u.output ++ bytes }

-- the next instruction's turn
abbrev pub advanced : Machine → Machine
advanced m = record m { place = m.place + 1 }

-- The state is this end, with these counts, and with that input and output.
pub record IsEndAt (s : State) (e : End) (now : Counts) (u : Unkept) : Type 0 where
  pub stop : s.stop ≡ Some (Ended e)
  pub counts : s.counts ≡ now
  pub input : s.input ≡ u.input
  pub output : s.output ≡ u.output

-- The instruction is done, and the next one follows.
pub record GoesOn (object : Object) (i : Instr) (m m' : Machine) (old new : Option (List ℕ)) : Type 0 where
  pub bytes : List ℕ
  pub follows : (u : Unkept) → does object (standing m u) i ≡ standing (advanced m') (written u bytes)
  pub told : StillTells old new (Appends bytes)

-- The instruction ends the run.
pub record EndsRun (object : Object) (i : Instr) (m m' : Machine) (old new : Option (List ℕ)) (e : End) : Type 0 where
  pub ends : (u : Unkept) → IsEndAt (does object (standing m u) i) e m'.counts u
  pub told : new ≡ old
  pub no_asks : e ≢ end.Asks

-- The output failed, or memory ran out: nothing was done but for some front of the line.
pub record IsCut (i : Instr) (m m' : Machine) (old new : Option (List ℕ)) (c : RunCause) : Type 0 where
  pub same : m' ≡ m
  pub front : ℕ
  pub short : (u : Unkept) → IsPart c (printed_by (standing m u) (Some i)) front
  pub told : (u : Unkept) → StillTells old new (Appends (take front (printed_by (standing m u) (Some i))))

-- what an instruction does to machine and output, by its answer
abbrev pub Executes : Object → Instr → Machine → Machine → Option (List ℕ) → Option (List ℕ) → Result (Unit {0}) Halt → Type 0
Executes object i m m' old new (Ok done) = GoesOn object i m m' old new
Executes object i m m' old new (Err (halt.Ended e)) = EndsRun object i m m' old new e
Executes object i m m' old new (Err (halt.Stuck why)) = ((u : Unkept) → does object (standing m u) i ≡ stuck (standing m u) why) × (new ≡ old)
Executes object i m m' old new (Err (halt.Cut c)) = IsCut i m m' old new c

-- only a failed output counts a fault
abbrev pub faults_of : ℕ → Halt → ℕ
faults_of before (halt.Ended e) = before
faults_of before (halt.Stuck why) = before
faults_of before (halt.Cut c) = out_faults before c

abbrev pub faults_in : ℕ → Result (Unit {0}) Halt → ℕ
faults_in before (Ok done) = before
faults_in before (Err halt) = faults_of before halt

-- Some number of steps leads from one state to the other, and some bytes were written on the way.
pub record Walked (object : Object) (m m' : Machine) (old new : Option (List ℕ)) : Type 0 where
  pub count : ℕ
  pub bytes : List ℕ
  pub path : (u : Unkept) → steps object count (standing m u) ≡ standing m' (written u bytes)
  pub told : StillTells old new (Appends bytes)

-- The run comes to its end.
pub record ComesToEnd (object : Object) (m m' : Machine) (old new : Option (List ℕ)) (e : End) : Type 0 where
  pub count : ℕ
  pub bytes : List ℕ
  pub ends : (u : Unkept) → IsEndAt (steps object count (standing m u)) e m'.counts (written u bytes)
  pub told : StillTells old new (Appends bytes)
  pub no_asks : e ≢ end.Asks

-- The run is stuck.
pub record ComesToStop (object : Object) (m : Machine) (why : Kind) : Type 0 where
  pub count : ℕ
  pub at : Pc
  pub stops : (u : Unkept) → (steps object count (standing m u)).stop ≡ Some (Stuck why at)

-- The run is cut off in a state that it comes to, after some front of the next piece.
pub record ComesToCut (object : Object) (m m' : Machine) (old new : Option (List ℕ)) (c : RunCause) : Type 0 where
  pub count : ℕ
  pub bytes : List ℕ
  pub front : ℕ
  pub short : (u : Unkept) → IsPart c (piece object (standing m' u)) front
  pub path : (u : Unkept) → steps object count (standing m u) ≡ standing m' (written u bytes)
  pub told : (u : Unkept) → StillTells old new (Appends (bytes ++ take front (piece object (standing m' u))))

-- where a run from a machine leads, by why it halts
abbrev pub Leads : Object → Machine → Machine → Option (List ℕ) → Option (List ℕ) → Halt → Type 0
Leads object m m' old new (halt.Ended e) = ComesToEnd object m m' old new e
Leads object m m' old new (halt.Stuck why) = ComesToStop object m why
Leads object m m' old new (halt.Cut c) = ComesToCut object m m' old new c

-- a word is printed, by the answer
abbrev pub Prints : List Cell → ℕ → Shown → Option (List ℕ) → Option (List ℕ) → Result (Unit {0}) Halt → Type 0
Prints frame word shown old new (Ok done) = (n : ℤ) × (word_of (slice_get frame word) ≡ Ok n) × StillTells old new (Appends (line_of shown n))
Prints frame word shown old new (Err (halt.Ended e)) = ⊥
Prints frame word shown old new (Err (halt.Stuck why)) = (word_of (slice_get frame word) ≡ Err (halt.Stuck why)) × (new ≡ old)
Prints frame word shown old new (Err (halt.Cut c)) = (n : ℤ) × (front : ℕ) × (word_of (slice_get frame word) ≡ Ok n) × IsPart c (line_of shown n) front
    × StillTells old new (Appends (take front (line_of shown n)))
