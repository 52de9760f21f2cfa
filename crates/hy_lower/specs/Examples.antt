-- Small cores, their code, and what it does: what the core does.
use Rattle.std.specs.Prelude.{◌≡◌, ℕ, ◌==◌, ◌&&◌, Bool, true, false, List, [], ◌∷◌, ◌++◌, length, map, Option, Some, None, ℤ, pos, ◌-◌, codes}
use Rattle.hy_base.specs.declared.run.Counts.{Counts}
use Rattle.hy_base.specs.declared.run.End.TheVariants as end
use Rattle.hy_base.specs.declared.run.TrapKind.{TrapKind}
use Rattle.hy_base.specs.declared.run.TrapKind.TheVariants as trap
use Rattle.hy_core.specs.Plain.{Operator, Sub, Mul, Div, Rem, Core}
use Rattle.hy_core.specs.Plain as plain
use Rattle.hy_core.specs.Control.{Halt, Ends, GivesUp}
use Rattle.hy_core.specs.Control as control
use Rattle.hy_core.specs.Meaning.{Report, Run}
use Rattle.hy_core.specs.Notation.{done, ended, checked, index_span, trap_span}
use Rattle.hy_core.specs.Examples as core
use Rattle.hy_object.specs.declared.instr.Instr.{Instr}
use Rattle.hy_object.specs.declared.instr.Instr.TheVariants.{Const, Copy, Move, Add, Lt, Jump, JumpIf, Call, Return, Lend, Elem, Close, NewArray, Grow, Push}
use Rattle.hy_object.specs.declared.instr.Instr.TheVariants.{FreeArray, Print}
use Rattle.hy_object.specs.declared.instr.Shown.TheVariants as shown
use Rattle.hy_object.specs.declared.instr.Way.TheVariants as way
use Rattle.hy_object.specs.declared.object.Fun.{Fun}
use Rattle.hy_object.specs.declared.object.Object.{Object}
use Rattle.hy_object.specs.States.{State, Stop, Ended, Stuck}
use Rattle.hy_object.specs.Runs.{after}
use Rattle.hy_lower.specs.Places.{place, own}
use Rattle.hy_lower.specs.Code.{fun_of}

-- the words of the types of the examples
abbrev pub sizes : List ℕ
sizes = 0 ∷ 1 ∷ 1 ∷ 2 ∷ 2 ∷ 1 ∷ 2 ∷ 2 ∷ 2 ∷ 2 ∷ 2 ∷ 2 ∷ 1 ∷ []

abbrev pub lowered : Core → Object
lowered c = record { spans = c.spans; funs = map (fun_of c.types sizes) c.funs }

-- CODE

abbrev pub main : (words slots : ℕ) → List Instr → Fun
main words slots code = record { accesses = 0; owned = 0; result = 0; words = words; slots = slots; code = code }

abbrev pub fun : (accesses result words slots : ℕ) → List Instr → Fun
fun accesses result words slots code = record { accesses = accesses; owned = 0; result = result; words = words; slots = slots; code = code }

abbrev pub object : List Fun → Object
object funs = record { spans = index_span ∷ trap_span ∷ []; funs = funs }

-- the end of a body that gives nothing, whose first scratch word is that, with a local of type `()` at the word
abbrev pub gives_nothing : (scratch word at : ℕ) → List Instr
gives_nothing scratch word at = Move (own word) (own scratch) 0 ∷ Move (own scratch) (own word) 0 ∷ Return scratch ∷ Jump at ∷ []

-- the pair has the words 0 and 1
abbrev pub a_field : Object
a_field = object (main 4 1 (
    Const 2 (pos 1) ∷ Move (own 0) (own 2) 1 ∷ Const 2 (pos 2) ∷ Move (own 1) (own 2) 1 ∷ Lend 0 (own 0) 1 way.Write
    ∷ Const 2 (pos 3) ∷ Move (place 1 0) (own 2) 1 ∷ Close 0 ∷ Copy (own 2) (own 0) 1 ∷ Print 2 shown.Int ∷ gives_nothing 2 0 13) ∷ [])

-- the array has the words 0 and 1, the local with what is pushed the word 2, that of the index the word 3
abbrev pub an_element : Object
an_element = object (main 6 2 (
    NewArray (own 0) ∷ Const 4 (pos 5) ∷ Move (own 2) (own 4) 1 ∷ Move (own 4) (own 2) 1 ∷ Grow (own 0) 1 ∷ Push (own 0) 4 1
    ∷ Const 4 (pos 6) ∷ Move (own 2) (own 4) 1 ∷ Move (own 4) (own 2) 1 ∷ Grow (own 0) 1 ∷ Push (own 0) 4 1 ∷ Const 4 (pos 1) ∷ Move (own 3) (own 4) 1
    ∷ Elem 0 (own 0) 3 1 way.Write 0 ∷ Const 4 (pos 9) ∷ Move (place 1 0) (own 4) 1 ∷ Close 0
    ∷ Elem 1 (own 0) 3 1 way.Read 0 ∷ Copy (own 4) (place 2 0) 1 ∷ Close 1 ∷ Print 4 shown.Int
    ∷ Const 4 (pos 2) ∷ Move (own 3) (own 4) 1 ∷ Elem 1 (own 0) 3 1 way.Read 0 ∷ Copy (own 4) (place 2 0) 1 ∷ Close 1 ∷ Print 4 shown.Int
    ∷ FreeArray (own 0) ∷ gives_nothing 4 0 31) ∷ [])

-- two arguments in the slots 0 and 1
abbrev pub read_twice : Object
read_twice = object (main 2 2 (
    Const 1 (pos 4) ∷ Move (own 0) (own 1) 1 ∷ Lend 0 (own 0) 1 way.Read ∷ Lend 1 (own 0) 1 way.Read ∷ Call 1 0 1 ∷ Move (own 0) (own 1) 0
    ∷ Close 1 ∷ Close 0 ∷ gives_nothing 1 0 11)
    ∷ fun 2 0 4 2 (
    Copy (own 1) (place 1 0) 1 ∷ Copy (own 2) (place 2 0) 1 ∷ Add 1 1 2 1 ∷ Move (own 0) (own 1) 1 ∷ Copy (own 1) (own 0) 1 ∷ Print 1 shown.Int
    ∷ gives_nothing 1 1 9) ∷ [])

-- the pass takes its turn where it jumps back to the body
abbrev pub a_loop : Object
a_loop = object (main 6 0 (
    Const 3 (pos 0) ∷ Move (own 0) (own 3) 1 ∷ Jump 11
    ∷ Copy (own 3) (own 0) 1 ∷ Print 3 shown.Int
    ∷ Const 3 (pos 1) ∷ Move (own 1) (own 3) 1 ∷ Copy (own 3) (own 0) 1 ∷ Copy (own 4) (own 1) 1 ∷ Add 3 3 4 1 ∷ Move (own 0) (own 3) 1
    ∷ Const 3 (pos 10) ∷ Move (own 1) (own 3) 1 ∷ Copy (own 3) (own 0) 1 ∷ Copy (own 4) (own 1) 1 ∷ Lt 3 3 4 ∷ Move (own 2) (own 3) 1
    ∷ Copy (own 3) (own 2) 1 ∷ JumpIf 3 3 ∷ gives_nothing 3 0 22) ∷ [])

pub record Codes : Type 0 where
  pub field : lowered core.a_field ≡ a_field
  pub element : lowered core.an_element ≡ an_element
  pub twice : lowered core.read_twice ≡ read_twice
  pub loop : lowered core.a_loop ≡ a_loop

-- RUNS

abbrev pub halted : Option Stop → Option Halt
halted None = None
halted (Some (Ended e)) = Some (Ends e)
halted (Some (Stuck why at)) = Some control.Stuck

-- what is seen of a state of the machine, in the terms of the core
abbrev pub reported : (input : List ℕ) → State → Report
reported input s = record {
  output = s.output;
  halt = halted s.stop;
  taken = length input - length s.input;
  turns = s.counts.turns;
  opened =
      s.counts.opened;
}

abbrev pub is_even : Counts → Bool
is_even c = (c.blocks == c.freed) && (c.opened == c.closed)

-- the code of the core shows this after so many instructions
abbrev pub Shows : Run → ℕ → Report → Type 0
Shows r k x = reported r.input (after (lowered r.core) r.input r.cut r.turns k) ≡ x

-- and then each block was freed, and each access closed
abbrev pub Finishes : Run → ℕ → Report → Type 0
Finishes r k x = Shows r k x × (is_even (after (lowered r.core) r.input r.cut r.turns k).counts ≡ true)

pub record LentPlaces : Type 0 where
  pub field : Finishes (checked core.a_field 5) 20 (done (pos 3 ∷ []) 1 1)
  pub element : Shows (checked core.an_element 5) 40 (ended (end.Trap trap.Index index_span) (pos 9 ∷ []) 1 2)
  pub twice : Finishes (checked core.read_twice 5) 30 (done (pos 8 ∷ []) 2 2)
  pub inout : Finishes (checked core.an_inout 5) 60 (done (pos 12 ∷ []) 3 3)
  pub set : Finishes (checked core.a_set 5) 60 (done (pos 7 ∷ pos 8 ∷ pos 7 ∷ []) 3 2)
  pub copy : Finishes (checked core.a_copy 5) 40 (done (pos 1 ∷ pos 9 ∷ []) 1 0)

pub record Subscripts : Type 0 where
  pub first : Finishes (checked core.first_slides_first 5) 120 (done (pos 1 ∷ pos 2 ∷ pos 101 ∷ pos 102 ∷ pos 11 ∷ pos 22 ∷ []) 3 8)
  pub last : Finishes (checked core.last_slides_first 5) 120 (done (pos 1 ∷ pos 2 ∷ pos 102 ∷ pos 101 ∷ pos 11 ∷ pos 22 ∷ []) 3 8)
  pub at_close : Finishes (checked core.part_at_close 5) 80 (done (pos 26 ∷ pos 260 ∷ []) 2 3)
  pub trap : Shows (checked core.trap_in_slide 5) 40 (ended (end.Trap trap.Overflow trap_span) (pos 1 ∷ []) 2 2)
  pub set_variant : Finishes (checked core.a_set_variant 5) 80 (done (core.minus 1 ∷ pos 7 ∷ []) 4 5)

pub record OneWay : Type 0 where
  pub moved : Finishes (core.reading GivesUp core.moved_if_one_checked true) 80 (core.took 2 (done (pos 100 ∷ pos 5 ∷ pos 200 ∷ []) 3 1))
  pub moved_not : Finishes (core.reading GivesUp core.moved_if_one_checked false) 80 (core.took 2 (done (pos 200 ∷ pos 5 ∷ []) 2 1))

pub record Loops : Type 0 where
  pub whole : Finishes (checked core.a_loop 11) 250 (done (pos 0 ∷ pos 1 ∷ pos 2 ∷ pos 3 ∷ pos 4 ∷ pos 5 ∷ pos 6 ∷ pos 7 ∷ pos 8 ∷ pos 9 ∷ []) 11 0)
  pub spent : Shows (checked core.a_loop 10) 250 (ended end.Spent (pos 0 ∷ pos 1 ∷ pos 2 ∷ pos 3 ∷ pos 4 ∷ pos 5 ∷ pos 6 ∷ pos 7 ∷ pos 8 ∷ []) 10 0)
  pub nothing : Shows (checked core.a_loop 0) 5 (ended end.Spent [] 0 0)
  pub left : Finishes (checked core.leaves_a_loop 9) 200 (done (pos 1 ∷ pos 3 ∷ []) 5 0)

abbrev pub given : (cut : Bool) → List ℕ → Run
given cut input = record { core = core.reads_an_index; stage = GivesUp; cut = cut; input = input; turns = 100 }

pub record Inputs : Type 0 where
  pub in_range : Finishes (given false (codes "1" ++ 10 ∷ [])) 40 (core.took 2 (done (pos 2 ∷ pos 20 ∷ []) 1 1))
  pub above : Shows (given false (codes "2" ++ 10 ∷ [])) 40 (core.took 2 (ended (end.Trap trap.Index index_span) (pos 2 ∷ []) 1 0))
  pub bad : Shows (given false (codes "x")) 40 (core.took 1 (ended (end.Trap trap.Input trap_span) [] 1 0))
  pub cut : Shows (given true (codes "1")) 40 (core.took 1 (ended end.Asks [] 1 0))

abbrev pub Gives : Operator → ℤ → ℤ → ℤ → Type 0
Gives o a b n = Finishes (checked (core.operation o a b) 5) 20 (done (n ∷ []) 1 0)

abbrev pub Traps : Operator → ℤ → ℤ → TrapKind → Type 0
Traps o a b kind = Shows (checked (core.operation o a b) 5) 20 (ended (end.Trap kind trap_span) [] 1 0)

pub record Operations : Type 0 where
  pub array : Shows (checked core.an_array 5) 40 (ended (end.Trap trap.Empty trap_span) (pos 1 ∷ pos 1 ∷ pos 2 ∷ []) 1 0)
  pub add : Gives plain.Add (pos 2) (core.minus 3) (core.minus 1)
  pub add_overflow : Traps plain.Add (pos 9223372036854775807) (pos 1) trap.Overflow
  pub sub : Gives Sub (core.minus 9223372036854775807) (pos 1) core.least
  pub mul_overflow : Traps Mul (pos 4294967296) (pos 4294967296) trap.Overflow
  pub div : Gives Div (core.minus 7) (pos 2) (core.minus 3)
  pub rem : Gives Rem (core.minus 7) (pos 2) (core.minus 1)
  pub div_nought : Traps Div (pos 1) (pos 0) trap.Divide
  pub rem_overflow : Traps Rem core.least (core.minus 1) trap.Overflow
  pub precondition : Shows (checked core.precondition 5) 20 (record {
    output = codes "false" ++ 10 ∷ [];
    halt = Some (Ends (end.Trap trap.Precondition trap_span));
    taken = 0;
    turns = 1;
    opened = 0;
  })

pub record Examples : Type 0 where
  pub codes : Codes
  pub places : LentPlaces
  pub subscripts : Subscripts
  pub one_way : OneWay
  pub loops : Loops
  pub inputs : Inputs
  pub operations : Operations
