-- Small objects, and what is seen of their runs.
use Rattle.std.specs.Prelude.{◌≡◌, ℕ, suc, Bool, true, false, List, [], ◌∷◌, ◌++◌, Some, None, ℤ, pos, negsuc, codes}
use Rattle.std.specs.List.{AllByRecursion}
use Rattle.hy_base.specs.declared.position.Span.{Span}
use Rattle.hy_base.specs.declared.run.Counts.{Counts}
use Rattle.hy_base.specs.declared.run.End.TheVariants as end
use Rattle.hy_base.specs.declared.run.TrapKind.{TrapKind}
use Rattle.hy_base.specs.declared.run.TrapKind.TheVariants as trap
use Rattle.hy_object.specs.declared.instr.Instr.{Instr}
use Rattle.hy_object.specs.declared.instr.Instr.TheVariants as instr
use Rattle.hy_object.specs.declared.instr.Place.{Place}
use Rattle.hy_object.specs.declared.instr.Shown.TheVariants as shown
use Rattle.hy_object.specs.declared.instr.Way.TheVariants as way
use Rattle.hy_object.specs.declared.object.Fun.{Fun}
use Rattle.hy_object.specs.declared.object.Object.{Object}
use Rattle.hy_object.specs.declared.stuck.Kind.{Kind}
use Rattle.hy_object.specs.declared.stuck.Kind.TheVariants as kind
use Rattle.hy_object.specs.Checks.{Reach, may_read, may_write}
use Rattle.hy_object.specs.Runs.{Run, Runs, IsSafe, IsBalanced, seen_after}
use Rattle.hy_object.specs.States.{Unset, Word, Name, Access, State, Stop, Ended, Stuck, Event, Allocated, Freed, Opened, Closed, with_at}
use Rattle.hy_object.specs.Steps.{at_rest, begin, does}

-- FORMS

-- a run of an object, and what is seen of it; it ends within 64 steps
pub record Example : Type 0 where
  pub object : Object
  pub input : List ℕ
  pub cut : Bool
  pub turns : ℕ
  pub run : Run

abbrev pub IsAnswered : Example → Type 0
IsAnswered e = seen_after e.object e.input e.cut e.turns 64 ≡ Some e.run

-- words of the own frame, and of the access in a slot
abbrev pub own : ℕ → Place
own word = record { base = 0; offset = word }

abbrev pub through : ℕ → ℕ → Place
through slot word = record { base = suc slot; offset = word }

-- the spans with the numbers 0 and 1
abbrev pub one : Span
one = record { from = 10; to = 11 }

abbrev pub two : Span
two = record { from = 20; to = 22 }

abbrev pub main : (words slots : ℕ) → List Instr → Fun
main words slots code = record { accesses = 0; owned = 0; result = 0; words = words; slots = slots; code = code }

abbrev pub fun : (accesses owned result words slots : ℕ) → List Instr → Fun
fun accesses owned result words slots code = record { accesses = accesses; owned = owned; result = result; words = words; slots = slots; code = code }

abbrev pub object : List Fun → Object
object funs = record { spans = one ∷ two ∷ []; funs = funs }

abbrev pub line : List ℕ → List ℕ
line text = text ++ 10 ∷ []

abbrev pub counted : (turns blocks freed opened closed : ℕ) → Counts
counted turns blocks freed opened closed = record { turns = turns; blocks = blocks; freed = freed; opened = opened; closed = closed }

-- with ten turns, and no input
abbrev pub runs : List Fun → List ℕ → Stop → Counts → List Event → Example
runs funs output stop counts journal =
    record {
      object = object funs;
      input = [];
      cut = false;
      turns = 10;
      run = record { output = output; stop = stop; taken = 0; counts = counts; journal = journal };
    }

abbrev pub done : Stop
done = Ended end.Done

abbrev pub trapped : TrapKind → Span → Stop
trapped why span = Ended (end.Trap why span)

abbrev pub stuck : Kind → (fun at : ℕ) → Stop
stuck why fun at = Stuck why (record { fun = fun; at = at })

-- `main` alone does this with five words and two slots, and is stuck before it takes or opens anything
abbrev pub is_stuck : List Instr → Kind → ℕ → Example
is_stuck code why at = runs (main 5 2 code ∷ []) [] (stuck why 0 at) (counted 1 1 0 0 0) (Allocated 0 ∷ [])

-- the numbers are at the words 0 and 1; the instruction stores to word 2, which is printed
abbrev pub with_two : ℤ → ℤ → Instr → List Instr
with_two m n i = instr.Const 0 m ∷ instr.Const 1 n ∷ i ∷ instr.Print 2 shown.Int ∷ instr.Return 0 ∷ []

abbrev pub gives : ℤ → ℤ → Instr → List ℕ → Example
gives m n i text = runs (main 3 0 (with_two m n i) ∷ []) (line text) done (counted 1 1 1 0 0) (Allocated 0 ∷ Freed 0 ∷ [])

abbrev pub fails : ℤ → ℤ → Instr → TrapKind → Example
fails m n i why = runs (main 3 0 (with_two m n i) ∷ []) [] (trapped why two) (counted 1 1 0 0 0) (Allocated 0 ∷ [])

-- the least number
abbrev pub least : ℤ
least = negsuc 9223372036854775807

abbrev pub greatest : ℤ
greatest = pos 9223372036854775807

-- WORDS

abbrev pub on_words : List Example
on_words =
    gives (pos 40) (pos 2) (instr.Add 2 0 1 1) (codes "42") ∷
    gives (pos 2) (pos 40) (instr.Sub 2 0 1 1) (codes "-38") ∷
    gives (negsuc 5) (pos 7) (instr.Mul 2 0 1 1) (codes "-42") ∷
    gives (negsuc 6) (pos 2) (instr.Div 2 0 1 1) (codes "-3") ∷
    gives (negsuc 6) (pos 2) (instr.Rem 2 0 1 1) (codes "-1") ∷
    gives (pos 7) (negsuc 1) (instr.Rem 2 0 1 1) (codes "1") ∷
    gives (pos 7) (pos 0) (instr.Neg 2 0 1) (codes "-7") ∷
    gives (pos 7) (pos 7) (instr.Eq 2 0 1) (codes "1") ∷
    gives (pos 7) (negsuc 6) (instr.Eq 2 0 1) (codes "0") ∷
    gives (negsuc 0) (pos 0) (instr.Lt 2 0 1) (codes "1") ∷
    gives (pos 3) (pos 3) (instr.Lt 2 0 1) (codes "0") ∷
    gives (pos 3) (pos 3) (instr.Le 2 0 1) (codes "1") ∷
    gives (pos 0) (pos 3) (instr.Not 2 0) (codes "1") ∷
    gives (pos 0) (pos 3) (instr.Not 2 1) (codes "0") ∷
    fails greatest (pos 1) (instr.Add 2 0 1 1) trap.Overflow ∷
    fails least (pos 1) (instr.Sub 2 0 1 1) trap.Overflow ∷
    fails greatest (pos 2) (instr.Mul 2 0 1 1) trap.Overflow ∷
    fails (pos 1) (pos 0) (instr.Div 2 0 1 1) trap.Divide ∷
    fails (pos 1) (pos 0) (instr.Rem 2 0 1 1) trap.Divide ∷
    fails least (negsuc 0) (instr.Div 2 0 1 1) trap.Overflow ∷
    fails least (negsuc 0) (instr.Rem 2 0 1 1) trap.Overflow ∷
    fails least (pos 1) (instr.Neg 2 0 1) trap.Overflow ∷
    fails (pos 0) (pos 1) (instr.Check 0 1) trap.Precondition ∷
    -- the move takes word 0; copies leave it
    is_stuck (instr.Const 0 (pos 1) ∷ instr.Move (own 1) (own 0) 1 ∷ instr.Copy (own 2) (own 0) 1 ∷ instr.Return 0 ∷ []) kind.Unset 2 ∷
    is_stuck (instr.Const 0 (pos 1) ∷ instr.Copy (own 1) (own 0) 1 ∷ instr.Move (own 2) (own 0) 1 ∷ instr.Print 0 shown.Int ∷ instr.Return 0 ∷ [])
    kind.Unset 3 ∷
    -- a copy between ranges that overlap reads both words first
    runs (main 3 0 (instr.Const 0 (pos 1) ∷ instr.Const 1 (pos 2) ∷ instr.Copy (own 1) (own 0) 2 ∷ instr.Print 1 shown.Int ∷ instr.Print 2 shown.Int ∷
    instr.Return 0 ∷ []) ∷ [])
    (line (codes "1") ++ line (codes "2")) done (counted 1 1 1 0 0) (Allocated 0 ∷ Freed 0 ∷ []) ∷
    -- truth values, and a check that holds
    runs (main 1 0 (instr.Const 0 (pos 2) ∷ instr.Check 0 0 ∷ instr.Print 0 shown.Bool ∷ instr.Const 0 (pos 0) ∷ instr.Print 0 shown.Bool ∷ instr.Return 0 ∷
    []) ∷ [])
    (line (codes "true") ++ line (codes "false")) done (counted 1 1 1 0 0) (Allocated 0 ∷ Freed 0 ∷ []) ∷
    []

-- INPUT

-- reads a number with five turns, and prints it
abbrev pub reader : Object
reader = object (main 1 0 (instr.Read 0 1 ∷ instr.Print 0 shown.Int ∷ instr.Return 0 ∷ []) ∷ [])

abbrev pub reads : List ℕ → Bool → List ℕ → Stop → (taken : ℕ) → Example
reads input cut output stop taken =
    record {
      object = reader;
      input = input;
      cut = cut;
      turns = 5;
      run = record { output = output; stop = stop; taken = taken; counts = counted 1 1 0 0 0; journal = Allocated 0 ∷ [] };
    }

abbrev pub reads_whole : List ℕ → List ℕ → (taken : ℕ) → Example
reads_whole input text taken =
    record {
      object = reader;
      input = input;
      cut = false;
      turns = 5;
      run = record { output = line text; stop = done; taken = taken; counts = counted 1 1 1 0 0; journal = Allocated 0 ∷ Freed 0 ∷ [] };
    }

abbrev pub on_input : List Example
on_input =
    -- spaces at both ends and a carriage return before the line feed do not count; what stands after is left
    reads_whole (codes " 01 " ++ 13 ∷ 10 ∷ codes "7") (codes "1") 6 ∷
    reads_whole (codes "-42" ++ 10 ∷ []) (codes "-42") 4 ∷
    -- the last line needs no line feed
    reads_whole (codes "7") (codes "7") 1 ∷
    -- a trap has taken the line
    reads (codes "x" ++ 10 ∷ codes "7") false [] (trapped trap.Input two) 2 ∷
    reads (codes "9223372036854775808" ++ 10 ∷ []) false [] (trapped trap.Input two) 20 ∷
    reads [] false [] (trapped trap.Input two) 0 ∷
    -- where the input is cut, more is asked for
    reads (codes "4") true [] (Ended end.Asks) 1 ∷
    reads [] true [] (Ended end.Asks) 0 ∷
    []

-- TURNS

abbrev pub with_turns : ℕ → List Instr → Stop → Counts → List Event → Example
with_turns turns code stop counts journal =
    record {
      object = object (main 1 0 code ∷ []);
      input = [];
      cut = false;
      turns = turns;
      run = record { output = []; stop = stop; taken = 0; counts = counts; journal = journal };
    }

abbrev pub on_turns : List Example
on_turns =
    -- a jump to itself
    record {
      object = object (main 0 0 (instr.Jump 0 ∷ []) ∷ []);
      input = [];
      cut = false;
      turns = 5;
      run = record { output = []; stop = Ended end.Spent; taken = 0; counts = counted 5 1 0 0 0; journal = Allocated 0 ∷ [] };
    } ∷
    -- without a turn no frame is taken
    with_turns 0 (instr.Return 0 ∷ []) (Ended end.Spent) (counted 0 0 0 0 0) [] ∷
    with_turns 1 (instr.Return 0 ∷ []) done (counted 1 1 1 0 0) (Allocated 0 ∷ Freed 0 ∷ []) ∷
    -- a jump forwards takes none
    with_turns 1 (instr.Jump 2 ∷ instr.Jump 0 ∷ instr.Return 0 ∷ []) done (counted 1 1 1 0 0) (Allocated 0 ∷ Freed 0 ∷ []) ∷
    -- one backwards takes one where it is taken
    with_turns 9 (instr.Const 0 (pos 1) ∷ instr.Jump 3 ∷ instr.Const 0 (pos 0) ∷ instr.JumpIf 0 2 ∷ instr.JumpUnless 0 5 ∷ instr.Return 0 ∷ []) done
    (counted 2 1 1 0 0) (Allocated 0 ∷ Freed 0 ∷ []) ∷
    -- checks come before a turn, and before a trap
    with_turns 1 (instr.Call 0 0 1 ∷ instr.Return 0 ∷ []) (Ended end.Spent) (counted 1 1 0 0 0) (Allocated 0 ∷ []) ∷
    with_turns 1 (instr.JumpIf 0 0 ∷ instr.Return 0 ∷ []) (stuck kind.Unset 0 0) (counted 1 1 0 0 0) (Allocated 0 ∷ []) ∷
    []

-- CALLS

-- adds its two words
abbrev pub adder : Fun
adder = fun 0 2 1 3 0 (instr.Add 2 0 1 0 ∷ instr.Return 2 ∷ [])

-- stores 7 through its access
abbrev pub setter : Fun
setter = fun 1 0 0 1 1 (instr.Const 0 (pos 7) ∷ instr.Copy (through 0 0) (own 0) 1 ∷ instr.Return 0 ∷ [])

abbrev pub on_calls : List Example
on_calls =
    runs (main 2 0 (instr.Const 0 (pos 40) ∷ instr.Const 1 (pos 2) ∷ instr.Call 1 0 0 ∷ instr.Print 0 shown.Int ∷ instr.Return 0 ∷ []) ∷ adder ∷ [])
    (line (codes "42")) done (counted 2 2 2 0 0) (Allocated 0 ∷ Allocated 1 ∷ Freed 1 ∷ Freed 0 ∷ []) ∷
    -- the words that are handed over are moved
    runs (main 2 0 (instr.Const 0 (pos 40) ∷ instr.Const 1 (pos 2) ∷ instr.Call 1 0 0 ∷ instr.Print 1 shown.Int ∷ instr.Return 0 ∷ []) ∷ adder ∷ [])
    [] (stuck kind.Unset 0 3) (counted 2 2 1 0 0) (Allocated 0 ∷ Allocated 1 ∷ Freed 1 ∷ []) ∷
    -- and they are set, and lie in the frame
    runs (main 2 0 (instr.Const 0 (pos 40) ∷ instr.Call 1 0 0 ∷ instr.Return 0 ∷ []) ∷ adder ∷ [])
    [] (stuck kind.Unset 0 1) (counted 1 1 0 0 0) (Allocated 0 ∷ []) ∷
    runs (main 2 0 (instr.Const 0 (pos 40) ∷ instr.Call 1 0 1 ∷ instr.Return 0 ∷ []) ∷ adder ∷ [])
    [] (stuck kind.Range 0 1) (counted 1 1 0 0 0) (Allocated 0 ∷ []) ∷
    -- the result's words are looked at by the return
    runs (main 2 0 (instr.Call 1 0 2 ∷ instr.Return 0 ∷ []) ∷ fun 0 0 1 1 0 (instr.Const 0 (pos 1) ∷ instr.Return 0 ∷ []) ∷ [])
    [] (stuck kind.Range 1 1) (counted 2 2 0 0 0) (Allocated 0 ∷ Allocated 1 ∷ []) ∷
    -- a word is lent for change
    runs (main 1 1 (instr.Const 0 (pos 5) ∷ instr.Lend 0 (own 0) 1 way.Write ∷ instr.Call 1 0 1 ∷ instr.Close 0 ∷ instr.Print 0 shown.Int ∷ instr.Return 0 ∷
    []) ∷ setter ∷ [])
    (line (codes "7")) done (counted 2 2 2 1 1) (Allocated 0 ∷ Opened ∷ Allocated 1 ∷ Freed 1 ∷ Closed ∷ Freed 0 ∷ []) ∷
    -- or for reading alone
    runs (main 1 1 (instr.Const 0 (pos 5) ∷ instr.Lend 0 (own 0) 1 way.Read ∷ instr.Call 1 0 1 ∷ instr.Return 0 ∷ []) ∷ setter ∷ [])
    [] (stuck kind.Access 1 1) (counted 2 2 0 1 0) (Allocated 0 ∷ Opened ∷ Allocated 1 ∷ []) ∷
    -- a slot that is handed over exists and is filled
    runs (main 1 1 (instr.Call 1 0 1 ∷ instr.Return 0 ∷ []) ∷ setter ∷ []) [] (stuck kind.Slot 0 0) (counted 1 1 0 0 0) (Allocated 0 ∷ []) ∷
    runs (main 1 1 (instr.Call 1 1 1 ∷ instr.Return 0 ∷ []) ∷ setter ∷ []) [] (stuck kind.Slot 0 0) (counted 1 1 0 0 0) (Allocated 0 ∷ []) ∷
    -- an array that is left in the frame is lost; one that is the result is not
    runs (main 2 0 (instr.Call 1 0 0 ∷ instr.FreeArray (own 0) ∷ instr.Return 0 ∷ []) ∷ fun 0 0 2 2 0 (instr.NewArray (own 0) ∷ instr.Return 0 ∷ []) ∷ [])
    [] done (counted 2 3 3 0 0) (Allocated 0 ∷ Allocated 1 ∷ Allocated 2 ∷ Freed 1 ∷ Freed 2 ∷ Freed 0 ∷ []) ∷
    runs (main 2 0 (instr.NewArray (own 0) ∷ instr.Call 1 0 0 ∷ instr.Return 0 ∷ []) ∷ fun 0 0 1 1 0 (instr.Const 0 (pos 1) ∷ instr.Return 0 ∷ []) ∷ [])
    [] (stuck kind.Lost 1 1) (counted 2 3 0 0 0) (Allocated 0 ∷ Allocated 1 ∷ Allocated 2 ∷ []) ∷
    []

-- ACCESSES

-- with one open access: stuck in `main` alone, with five words and two slots
abbrev pub is_stuck_open : List Instr → Kind → ℕ → Example
is_stuck_open code why at = runs (main 5 2 code ∷ []) [] (stuck why 0 at) (counted 1 1 0 1 0) (Allocated 0 ∷ Opened ∷ [])

abbrev pub on_accesses : List Example
on_accesses =
    -- a close of an empty slot
    runs (main 0 1 (instr.Close 0 ∷ instr.Return 0 ∷ []) ∷ []) [] (stuck kind.Slot 0 0) (counted 1 1 0 0 0) (Allocated 0 ∷ []) ∷
    -- a store to a word that is lent for change
    runs (main 1 1 (instr.Lend 0 (own 0) 1 way.Write ∷ instr.Const 0 (pos 0) ∷ instr.Close 0 ∷ instr.Return 0 ∷ []) ∷ [])
    [] (stuck kind.Access 0 1) (counted 1 1 0 1 0) (Allocated 0 ∷ Opened ∷ []) ∷
    -- a lent word may be read beside a reader, and not be stored to
    is_stuck_open (instr.Const 0 (pos 1) ∷ instr.Lend 0 (own 0) 1 way.Read ∷ instr.Copy (own 1) (own 0) 1 ∷ instr.Const 0 (pos 2) ∷ instr.Return 0 ∷ [])
    kind.Access 3 ∷
    is_stuck_open (instr.Const 0 (pos 1) ∷ instr.Lend 0 (own 0) 2 way.Write ∷ instr.Copy (own 2) (own 0) 1 ∷ instr.Return 0 ∷ []) kind.Access 2 ∷
    -- a second access for change of the same words
    is_stuck_open (instr.Lend 0 (own 0) 2 way.Write ∷ instr.Lend 1 (own 1) 1 way.Read ∷ instr.Return 0 ∷ []) kind.Access 1 ∷
    is_stuck_open (instr.Lend 0 (own 0) 2 way.Read ∷ instr.Lend 1 (own 1) 1 way.Write ∷ instr.Return 0 ∷ []) kind.Access 1 ∷
    -- one that reads does not lend for change
    is_stuck_open (instr.Lend 0 (own 0) 2 way.Read ∷ instr.Lend 1 (through 0 0) 1 way.Write ∷ instr.Return 0 ∷ []) kind.Access 1 ∷
    -- a range without cells conflicts with nothing, but it begins in the frame
    is_stuck_open (instr.Lend 0 (own 0) 2 way.Write ∷ instr.Copy (own 1) (own 1) 0 ∷ instr.Copy (own 5) (own 0) 0 ∷ instr.Copy (own 6) (own 0) 0 ∷
    instr.Return 0 ∷ []) kind.Range 3 ∷
    -- words outside the access, though they are in the frame
    is_stuck_open (instr.Const 1 (pos 1) ∷ instr.Lend 0 (own 0) 1 way.Write ∷ instr.Copy (own 3) (through 0 1) 1 ∷ instr.Return 0 ∷ []) kind.Range 2 ∷
    -- a slot that is taken, one that is open at the end, one that holds no access
    is_stuck_open (instr.Lend 0 (own 0) 1 way.Read ∷ instr.Lend 0 (own 1) 1 way.Read ∷ instr.Return 0 ∷ []) kind.Slot 1 ∷
    is_stuck_open (instr.Lend 0 (own 0) 1 way.Read ∷ instr.Return 0 ∷ []) kind.Slot 1 ∷
    is_stuck (instr.Copy (own 0) (through 1 0) 1 ∷ instr.Return 0 ∷ []) kind.Slot 0 ∷
    -- an access from which another was made is not closed before that one
    runs (main 5 2 (instr.Lend 0 (own 0) 2 way.Write ∷ instr.Lend 1 (through 0 1) 1 way.Write ∷ instr.Close 0 ∷ instr.Return 0 ∷ []) ∷ [])
    [] (stuck kind.Slot 0 2) (counted 1 1 0 2 0) (Allocated 0 ∷ Opened ∷ Opened ∷ []) ∷
    -- the words that the inner one leaves may be stored to through the outer one, and not the others
    runs (main 5 2 (instr.Const 4 (pos 9) ∷ instr.Lend 0 (own 0) 2 way.Write ∷ instr.Lend 1 (through 0 1) 1 way.Read ∷ instr.Copy (through 0 0) (own 4) 1 ∷
    instr.Copy (through 0 1) (own 4) 1 ∷ instr.Return 0 ∷ []) ∷ [])
    [] (stuck kind.Access 0 4) (counted 1 1 0 2 0) (Allocated 0 ∷ Opened ∷ Opened ∷ []) ∷
    -- closed in order
    runs (main 5 2 (instr.Const 4 (pos 9) ∷ instr.Lend 0 (own 0) 2 way.Write ∷ instr.Lend 1 (through 0 1) 1 way.Write ∷ instr.Copy (through 1 0) (own 4) 1 ∷
    instr.Close 1 ∷ instr.Close 0 ∷ instr.Print 1 shown.Int ∷ instr.Return 0 ∷ []) ∷ [])
    (line (codes "9")) done (counted 1 1 1 2 2) (Allocated 0 ∷ Opened ∷ Opened ∷ Closed ∷ Closed ∷ Freed 0 ∷ []) ∷
    []

-- SUBSCRIPTS

-- prints its word, hands out the access that it was lent, and prints the word again
abbrev pub around : Fun
around = fun 1 1 0 1 1 (instr.Print 0 shown.Int ∷ instr.Yield 0 ∷ instr.Print 0 shown.Int ∷ instr.Return 0 ∷ [])

-- hands out an access of its own
abbrev pub inner : Fun
inner = fun 1 0 0 0 2 (instr.Lend 1 (through 0 1) 1 way.Write ∷ instr.Yield 1 ∷ instr.Close 1 ∷ instr.Return 0 ∷ [])

-- `main`, with a subscript that is lent word 0 and given word 2
abbrev pub projects : List Instr → List Instr
projects code = instr.Lend 0 (own 0) 1 way.Write ∷ instr.Const 2 (pos 1) ∷ instr.Project 1 0 2 1 ∷ code

abbrev pub is_stuck_beside : Fun → List Instr → List ℕ → Kind → (at_fun at : ℕ) → Example
is_stuck_beside subscript code output why at_fun at =
    runs (main 5 2 (projects code) ∷ subscript ∷ []) output (stuck why at_fun at) (counted 2 2 0 1 0) (Allocated 0 ∷ Opened ∷ Allocated 1 ∷ [])

abbrev pub on_subscripts : List Example
on_subscripts =
    -- stored through what was handed out, while the subscript is suspended
    runs (main 5 2 (projects (instr.Const 3 (pos 9) ∷ instr.Copy (through 1 0) (own 3) 1 ∷ instr.Slide 1 ∷ instr.Close 0 ∷ instr.Print 0 shown.Int ∷
    instr.Return 0 ∷ [])) ∷ around ∷ [])
    (line (codes "1") ++ line (codes "1") ++ line (codes "9")) done (counted 2 2 2 1 1)
    (Allocated 0 ∷ Opened ∷ Allocated 1 ∷ Freed 1 ∷ Closed ∷ Freed 0 ∷ []) ∷
    -- two slides, the first subscript first
    runs (main 3 4 (instr.Lend 0 (own 0) 1 way.Write ∷ instr.Lend 1 (own 1) 1 way.Write ∷ instr.Const 2 (pos 1) ∷ instr.Project 1 0 2 2 ∷
    instr.Const 2 (pos 2) ∷ instr.Project 1 1 2 3 ∷ instr.Slide 2 ∷ instr.Slide 3 ∷ instr.Close 0 ∷ instr.Close 1 ∷ instr.Return 0 ∷ []) ∷ around ∷ [])
    (line (codes "1") ++ line (codes "2") ++ line (codes "1") ++ line (codes "2")) done (counted 3 3 3 2 2)
    (Allocated 0 ∷ Opened ∷ Opened ∷ Allocated 1 ∷ Allocated 2 ∷ Freed 1 ∷ Freed 2 ∷ Closed ∷ Closed ∷ Freed 0 ∷ []) ∷
    -- an access that the subscript opened: it is closed by the subscript
    runs (main 2 2 (instr.Lend 0 (own 0) 2 way.Write ∷ instr.Project 1 0 0 1 ∷ instr.Slide 1 ∷ instr.Close 0 ∷ instr.Return 0 ∷ []) ∷ inner ∷ [])
    [] done (counted 2 2 2 2 2) (Allocated 0 ∷ Opened ∷ Allocated 1 ∷ Opened ∷ Closed ∷ Freed 1 ∷ Closed ∷ Freed 0 ∷ []) ∷
    -- not by who has it, and not while the subscript's own lender has made one from it
    runs (main 2 2 (instr.Lend 0 (own 0) 2 way.Write ∷ instr.Project 1 0 0 1 ∷ instr.Close 1 ∷ instr.Return 0 ∷ []) ∷ inner ∷ [])
    [] (stuck kind.Slot 0 2) (counted 2 2 0 2 0) (Allocated 0 ∷ Opened ∷ Allocated 1 ∷ Opened ∷ []) ∷
    runs (main 2 3 (instr.Lend 0 (own 0) 2 way.Write ∷ instr.Project 1 0 0 1 ∷ instr.Lend 2 (through 1 0) 1 way.Read ∷ instr.Slide 1 ∷ instr.Return 0 ∷
    []) ∷ inner ∷ [])
    [] (stuck kind.Slot 1 2) (counted 2 2 0 3 0) (Allocated 0 ∷ Opened ∷ Allocated 1 ∷ Opened ∷ Opened ∷ []) ∷
    -- an access is not closed while a suspended subscript was lent it
    is_stuck_beside around (instr.Close 0 ∷ instr.Return 0 ∷ []) (line (codes "1")) kind.Slot 0 3 ∷
    -- the end of an activation with a subscript suspended
    is_stuck_beside (fun 1 1 0 1 1 (instr.Yield 0 ∷ instr.Return 0 ∷ [])) (instr.Return 0 ∷ []) [] kind.Slot 0 3 ∷
    -- a slide of an access that was opened, and of an empty slot
    is_stuck_open (instr.Lend 0 (own 0) 1 way.Read ∷ instr.Slide 0 ∷ instr.Return 0 ∷ []) kind.Order 1 ∷
    is_stuck (instr.Slide 0 ∷ instr.Return 0 ∷ []) kind.Slot 0 ∷
    -- a yield outside a subscript, one of an empty slot, and a second one
    is_stuck_open (instr.Lend 0 (own 0) 1 way.Read ∷ instr.Yield 0 ∷ instr.Return 0 ∷ []) kind.Order 1 ∷
    is_stuck (instr.Yield 0 ∷ instr.Return 0 ∷ []) kind.Slot 0 ∷
    is_stuck_beside (fun 1 1 0 1 1 (instr.Yield 0 ∷ instr.Yield 0 ∷ instr.Return 0 ∷ [])) (instr.Slide 1 ∷ instr.Close 0 ∷ instr.Return 0 ∷ []) []
    kind.Order 1 1 ∷
    -- the end of a subscript before its yield, and one after it with a result
    is_stuck_beside (fun 1 1 0 1 1 (instr.Return 0 ∷ [])) (instr.Return 0 ∷ []) [] kind.Order 1 0 ∷
    is_stuck_beside (fun 1 1 1 1 1 (instr.Yield 0 ∷ instr.Return 0 ∷ [])) (instr.Slide 1 ∷ instr.Close 0 ∷ instr.Return 0 ∷ []) [] kind.Order 1 1 ∷
    -- a slot for what is handed out is empty
    is_stuck_open (instr.Lend 0 (own 0) 1 way.Read ∷ instr.Const 1 (pos 1) ∷ instr.Project 0 0 1 0 ∷ instr.Return 0 ∷ []) kind.Slot 2 ∷
    []

-- ARRAYS

-- an array at the words 0 and 1 with room for four elements of one word, and 5 and 6 in it; words 2 to 5 are unset
abbrev pub five_and_six : List Instr → List Instr
five_and_six code =
    instr.NewArray (own 0) ∷ instr.Grow (own 0) 1 ∷ instr.Const 2 (pos 5) ∷ instr.Push (own 0) 2 1 ∷ instr.Const 2 (pos 6) ∷ instr.Push (own 0) 2 1 ∷ code

abbrev pub with_array : List Instr → List ℕ → Stop → (freed opened closed : ℕ) → List Event → Example
with_array code output stop freed opened closed journal =
    runs (main 6 2 (five_and_six code) ∷ []) output stop (counted 1 3 freed opened closed) (Allocated 0 ∷ Allocated 1 ∷ Allocated 2 ∷ Freed 1 ∷ journal)

abbrev pub ends_well : List Instr
ends_well = instr.FreeArray (own 0) ∷ instr.Return 0 ∷ []

abbrev pub on_arrays : List Example
on_arrays =
    with_array (instr.Count 2 (own 0) ∷ instr.Print 2 shown.Int ∷ ends_well) (line (codes "2")) done 3 0 0 (Freed 2 ∷ Freed 0 ∷ []) ∷
    -- an element is lent for change
    with_array (instr.Const 3 (pos 1) ∷ instr.Const 4 (pos 9) ∷ instr.Elem 0 (own 0) 3 1 way.Write 0 ∷ instr.Copy (through 0 0) (own 4) 1 ∷ instr.Close 0 ∷
    instr.Pop (own 0) 2 1 0 ∷ instr.Print 2 shown.Int ∷ ends_well)
    (line (codes "9")) done 3 1 1 (Opened ∷ Closed ∷ Freed 2 ∷ Freed 0 ∷ []) ∷
    -- beside it the array is not changed, and not even counted
    with_array (instr.Const 3 (pos 1) ∷ instr.Elem 0 (own 0) 3 1 way.Write 0 ∷ instr.Count 2 (own 0) ∷ ends_well) [] (stuck kind.Access 0 8) 1 1 0 (Opened ∷
    []) ∷
    with_array (instr.Const 3 (pos 1) ∷ instr.Elem 0 (own 0) 3 1 way.Read 0 ∷ instr.Count 2 (own 0) ∷ ends_well) [] (stuck kind.Access 0 9) 1 1 0 (Opened ∷
    []) ∷
    with_array (instr.Const 3 (pos 1) ∷ instr.Elem 0 (own 0) 3 1 way.Read 0 ∷ instr.Grow (own 0) 1 ∷ ends_well) []
    (stuck kind.Access 0 8) 1 1 0 (Opened ∷ []) ∷
    -- a second element for change
    with_array (instr.Const 3 (pos 1) ∷ instr.Const 4 (pos 0) ∷ instr.Elem 0 (own 0) 3 1 way.Write 0 ∷ instr.Elem 1 (own 0) 4 1 way.Write 0 ∷ ends_well) []
    (stuck kind.Access 0 9) 1 1 0 (Opened ∷ []) ∷
    -- indices
    with_array (instr.Const 3 (pos 2) ∷ instr.Elem 0 (own 0) 3 1 way.Read 1 ∷ ends_well) [] (trapped trap.Index two) 1 0 0 [] ∷
    with_array (instr.Const 3 (negsuc 0) ∷ instr.Elem 0 (own 0) 3 1 way.Read 1 ∷ ends_well) [] (trapped trap.Index two) 1 0 0 [] ∷
    -- the cells of an element are looked at after its index
    with_array (instr.Const 3 (pos 1) ∷ instr.Elem 0 (own 0) 3 3 way.Read 1 ∷ ends_well) [] (stuck kind.Range 0 7) 1 0 0 [] ∷
    -- swaps
    with_array (instr.Const 3 (pos 0) ∷ instr.Const 4 (pos 1) ∷ instr.Swap (own 0) 3 4 1 0 1 ∷ instr.Pop (own 0) 2 1 0 ∷ instr.Print 2 shown.Int ∷ ends_well)
    (line (codes "5")) done 3 0 0 (Freed 2 ∷ Freed 0 ∷ []) ∷
    with_array (instr.Const 3 (pos 2) ∷ instr.Const 4 (pos 2) ∷ instr.Swap (own 0) 3 4 1 0 1 ∷ ends_well) [] (trapped trap.Index one) 1 0 0 [] ∷
    with_array (instr.Const 3 (pos 1) ∷ instr.Const 4 (pos 2) ∷ instr.Swap (own 0) 3 4 1 0 1 ∷ ends_well) [] (trapped trap.Index two) 1 0 0 [] ∷
    with_array (instr.Const 3 (pos 1) ∷ instr.Swap (own 0) 3 4 1 0 1 ∷ ends_well) [] (stuck kind.Unset 0 7) 1 0 0 [] ∷
    -- the last element goes first
    with_array (instr.Pop (own 0) 2 1 0 ∷ instr.Print 2 shown.Int ∷ instr.Pop (own 0) 2 1 0 ∷ instr.Print 2 shown.Int ∷ instr.Pop (own 0) 2 1 1 ∷ ends_well)
    (line (codes "6") ++ line (codes "5")) (trapped trap.Empty two) 1 0 0 [] ∷
    -- room for four, and no more
    with_array (instr.Const 2 (pos 7) ∷ instr.Push (own 0) 2 1 ∷ instr.Const 2 (pos 8) ∷ instr.Push (own 0) 2 1 ∷ instr.Const 2 (pos 9) ∷
    instr.Push (own 0) 2 1 ∷ ends_well)
    [] (stuck kind.Range 0 11) 1 0 0 [] ∷
    -- words and names
    with_array (instr.Print 0 shown.Int ∷ ends_well) [] (stuck kind.Kind 0 6) 1 0 0 [] ∷
    with_array (instr.Copy (own 2) (own 0) 2 ∷ ends_well) [] (stuck kind.Kind 0 6) 1 0 0 [] ∷
    is_stuck (instr.Const 0 (pos 5) ∷ instr.Const 1 (pos 0) ∷ instr.Count 2 (own 0) ∷ instr.Return 0 ∷ []) kind.Kind 2 ∷
    is_stuck (instr.Const 0 (pos 5) ∷ instr.Count 2 (own 0) ∷ instr.Return 0 ∷ []) kind.Unset 1 ∷
    -- lost names: stored over, left in the frame, and before the trap
    with_array (instr.Const 0 (pos 1) ∷ ends_well) [] (stuck kind.Lost 0 6) 1 0 0 [] ∷
    with_array (instr.NewArray (own 0) ∷ ends_well) [] (stuck kind.Lost 0 6) 1 0 0 [] ∷
    runs (main 2 0 (instr.NewArray (own 0) ∷ instr.Return 0 ∷ []) ∷ []) [] (stuck kind.Lost 0 1) (counted 1 2 0 0 0) (Allocated 0 ∷ Allocated 1 ∷ []) ∷
    runs (main 4 0 (instr.NewArray (own 0) ∷ instr.NewArray (own 2) ∷ instr.Pop (own 0) 2 1 1 ∷ instr.Return 0 ∷ []) ∷ [])
    [] (stuck kind.Lost 0 2) (counted 1 3 0 0 0) (Allocated 0 ∷ Allocated 1 ∷ Allocated 2 ∷ []) ∷
    -- an array in an array; freed with an element it would be lost, and its own cells are not pushed into it
    runs (main 4 0 (instr.NewArray (own 0) ∷ instr.NewArray (own 2) ∷ instr.Grow (own 0) 2 ∷ instr.Push (own 0) 2 2 ∷ instr.FreeArray (own 0) ∷
    instr.Return 0 ∷ []) ∷ [])
    [] (stuck kind.Lost 0 4) (counted 1 4 1 0 0) (Allocated 0 ∷ Allocated 1 ∷ Allocated 2 ∷ Allocated 3 ∷ Freed 1 ∷ []) ∷
    runs (main 4 0 (instr.NewArray (own 0) ∷ instr.NewArray (own 2) ∷ instr.Grow (own 0) 2 ∷ instr.Push (own 0) 2 2 ∷ instr.Pop (own 0) 2 2 0 ∷
    instr.FreeArray (own 2) ∷ instr.FreeArray (own 0) ∷ instr.Return 0 ∷ []) ∷ [])
    [] done (counted 1 4 4 0 0) (Allocated 0 ∷ Allocated 1 ∷ Allocated 2 ∷ Allocated 3 ∷ Freed 1 ∷ Freed 2 ∷ Freed 3 ∷ Freed 0 ∷ []) ∷
    with_array (instr.Push (own 0) 0 2 ∷ ends_well) [] (stuck kind.Range 0 6) 1 0 0 [] ∷
    -- elements without words take one word of room each
    runs (main 3 0 (instr.NewArray (own 0) ∷ instr.Push (own 0) 2 0 ∷ instr.Return 0 ∷ []) ∷ []) [] (stuck kind.Range 0 1) (counted 1 2 0 0 0)
    (Allocated 0 ∷ Allocated 1 ∷ []) ∷
    runs (main 3 0 (instr.NewArray (own 0) ∷ instr.Grow (own 0) 0 ∷ instr.Push (own 0) 2 0 ∷ instr.Count 2 (own 0) ∷ instr.Print 2 shown.Int ∷ ends_well) ∷ [])
    (line (codes "1")) done (counted 1 3 3 0 0) (Allocated 0 ∷ Allocated 1 ∷ Allocated 2 ∷ Freed 1 ∷ Freed 2 ∷ Freed 0 ∷ []) ∷
    -- a loop that pushes five times: the room is 0, 4 and then 8 words
    runs (main 6 0 (instr.NewArray (own 0) ∷ instr.Const 2 (pos 0) ∷ instr.Const 3 (pos 1) ∷ instr.Const 4 (pos 5) ∷
    instr.Grow (own 0) 1 ∷ instr.Const 5 (pos 7) ∷ instr.Push (own 0) 5 1 ∷ instr.Add 2 2 3 0 ∷ instr.Lt 5 2 4 ∷ instr.JumpIf 5 4 ∷ ends_well) ∷ [])
    [] done (counted 5 4 4 0 0) (Allocated 0 ∷ Allocated 1 ∷ Allocated 2 ∷ Freed 1 ∷ Allocated 3 ∷ Freed 2 ∷ Freed 3 ∷ Freed 0 ∷ []) ∷
    []

-- PROGRAMS

-- prints the numbers from 0 to 9; each pass of the loop takes a turn
abbrev pub counting : List Instr
counting =
    instr.Const 0 (pos 0) ∷ instr.Const 1 (pos 10) ∷ instr.Const 2 (pos 1) ∷ instr.Jump 6 ∷
    instr.Print 0 shown.Int ∷ instr.Add 0 0 2 0 ∷ instr.Lt 3 0 1 ∷ instr.JumpIf 3 4 ∷ instr.Return 0 ∷ []

abbrev pub counts_with : ℕ → List ℕ → Stop → (freed : ℕ) → List Event → Example
counts_with turns output stop freed journal =
    record {
      object = object (main 4 0 counting ∷ []);
      input = [];
      cut = false;
      turns = turns;
      run = record { output = output; stop = stop; taken = 0; counts = counted turns 1 freed 0 0; journal = Allocated 0 ∷ journal };
    }

abbrev pub to_eight : List ℕ
to_eight = line (codes "0") ++ line (codes "1") ++ line (codes "2") ++ line (codes "3") ++ line (codes "4") ++ line (codes "5") ++ line (codes "6") ++ line
    (codes "7") ++ line (codes "8")

-- a subscript that hands out a tenth of the word that it is lent, and stores it back ten times
abbrev pub tenths : Fun
tenths = fun 1 0 0 3 2 (
    instr.Const 1 (pos 10) ∷ instr.Copy (own 2) (through 0 0) 1 ∷ instr.Div 0 2 1 0 ∷ instr.Lend 1 (own 0) 1 way.Write ∷ instr.Yield 1 ∷
    instr.Close 1 ∷ instr.Mul 2 0 1 0 ∷ instr.Copy (through 0 0) (own 2) 1 ∷ instr.Return 0 ∷ [])

-- adds 1 to the tenth of 250, prints it, and prints the whole
abbrev pub adds_a_tenth : List Instr
adds_a_tenth =
    instr.Const 0 (pos 250) ∷ instr.Lend 0 (own 0) 1 way.Write ∷ instr.Project 1 0 1 1 ∷
    instr.Const 1 (pos 1) ∷ instr.Lend 2 (through 1 0) 1 way.Write ∷ instr.Copy (own 2) (through 2 0) 1 ∷ instr.Add 2 2 1 0 ∷
    instr.Copy (through 2 0) (own 2) 1 ∷ instr.Close 2 ∷
    instr.Copy (own 2) (through 1 0) 1 ∷ instr.Print 2 shown.Int ∷ instr.Slide 1 ∷ instr.Close 0 ∷ instr.Print 0 shown.Int ∷ instr.Return 0 ∷ []

-- prints its first lent word, hands out the second one, and prints the first one with 100 more
abbrev pub speaking : Fun
speaking = fun 2 0 0 2 3 (
    instr.Copy (own 0) (through 0 0) 1 ∷ instr.Print 0 shown.Int ∷ instr.Lend 2 (through 1 0) 1 way.Write ∷ instr.Yield 2 ∷
    instr.Close 2 ∷ instr.Copy (own 0) (through 0 0) 1 ∷ instr.Const 1 (pos 100) ∷ instr.Add 0 0 1 0 ∷ instr.Print 0 shown.Int ∷ instr.Return 0 ∷ [])

-- adds what is in word 4 to what the slot reaches
abbrev pub adds_through : ℕ → List Instr → List Instr
adds_through slot code =
    instr.Lend 6 (through slot 0) 1 way.Write ∷ instr.Copy (own 5) (through 6 0) 1 ∷ instr.Add 5 5 4 0 ∷ instr.Copy (through 6 0) (own 5) 1 ∷
    instr.Close 6 ∷ code

-- two projections, of which the first one is closed first
abbrev pub crossed : List Instr
crossed =
    instr.Const 0 (pos 1) ∷ instr.Const 1 (pos 2) ∷
    instr.Const 2 (pos 1) ∷ instr.Lend 0 (own 2) 1 way.Read ∷ instr.Lend 1 (own 0) 1 way.Write ∷ instr.Project 1 0 4 2 ∷
    instr.Const 3 (pos 2) ∷ instr.Lend 3 (own 3) 1 way.Read ∷ instr.Lend 4 (own 1) 1 way.Write ∷ instr.Project 1 3 4 5 ∷
    instr.Const 4 (pos 10) ∷ adds_through 2 (instr.Slide 2 ∷ instr.Close 1 ∷ instr.Close 0 ∷
    instr.Const 4 (pos 20) ∷ adds_through 5 (instr.Slide 5 ∷ instr.Close 4 ∷ instr.Close 3 ∷
    instr.Print 0 shown.Int ∷ instr.Print 1 shown.Int ∷ instr.Return 0 ∷ []))

-- hands out the element of an array at an index
abbrev pub at_index : Fun
at_index = fun 2 0 0 1 3 (instr.Copy (own 0) (through 1 0) 1 ∷ instr.Elem 2 (through 0 0) 0 1 way.Write 1
    ∷ instr.Yield 2 ∷ instr.Close 2 ∷ instr.Return 0 ∷ [])

abbrev pub with_element : List Instr → List Instr
with_element code = five_and_six (instr.Const 3 (pos 1) ∷ instr.Lend 0 (own 0) 2 way.Write ∷ instr.Lend 1 (own 3) 1 way.Read ∷ instr.Project 1 0 2 2 ∷ code)

-- hands on what another subscript hands out
abbrev pub passing_on : Fun
passing_on = fun 1 1 0 1 2 (instr.Project 1 0 0 1 ∷ instr.Yield 1 ∷ instr.Slide 1 ∷ instr.Return 0 ∷ [])

-- the sum of the numbers up to its word, by recursion
abbrev pub summing : Fun
summing = fun 0 1 1 3 0 (
    instr.JumpIf 0 3 ∷ instr.Const 1 (pos 0) ∷ instr.Return 1 ∷
    instr.Const 2 (pos 1) ∷ instr.Sub 1 0 2 0 ∷ instr.Call 1 0 1 ∷ instr.Add 1 1 0 0 ∷ instr.Return 1 ∷ [])

abbrev pub on_programs : List Example
on_programs =
    counts_with 11 (to_eight ++ line (codes "9")) done 1 (Freed 0 ∷ []) ∷
    counts_with 10 to_eight (Ended end.Spent) 0 [] ∷
    runs (main 3 3 adds_a_tenth ∷ tenths ∷ []) (line (codes "26") ++ line (codes "260")) done (counted 2 2 2 3 3)
    (Allocated 0 ∷ Opened ∷ Allocated 1 ∷ Opened ∷ Opened ∷ Closed ∷ Closed ∷ Freed 1 ∷ Closed ∷ Freed 0 ∷ []) ∷
    runs (main 6 7 crossed ∷ speaking ∷ [])
    (line (codes "1") ++ line (codes "2") ++ line (codes "101") ++ line (codes "102") ++ line (codes "11") ++ line (codes "22")) done (counted 3 3 3 8 8)
    (Allocated 0 ∷ Opened ∷ Opened ∷ Allocated 1 ∷ Opened ∷ Opened ∷ Opened ∷ Allocated 2 ∷ Opened ∷ Opened ∷ Closed ∷ Closed ∷ Freed 1 ∷ Closed ∷ Closed ∷
    Opened ∷ Closed ∷ Closed ∷ Freed 2 ∷ Closed ∷ Closed ∷ Freed 0 ∷ []) ∷
    runs (main 6 3 (with_element (instr.Const 4 (pos 9) ∷ instr.Copy (through 2 0) (own 4) 1 ∷ instr.Slide 2 ∷ instr.Close 1 ∷ instr.Close 0 ∷
    instr.Pop (own 0) 2 1 0 ∷ instr.Print 2 shown.Int ∷ ends_well)) ∷ at_index ∷ [])
    (line (codes "9")) done (counted 2 4 4 3 3) (Allocated 0 ∷ Allocated 1 ∷ Allocated 2 ∷ Freed 1 ∷ Opened ∷ Opened ∷ Allocated 3 ∷ Opened ∷ Closed ∷
    Freed 3 ∷ Closed ∷ Closed ∷ Freed 2 ∷ Freed 0 ∷ []) ∷
    -- the array itself is not grown while an element is handed out, through the access that was lent neither
    runs (main 6 3 (with_element (instr.Grow (through 0 0) 1 ∷ ends_well)) ∷ at_index ∷ [])
    [] (stuck kind.Access 0 10) (counted 2 4 1 3 0) (Allocated 0 ∷ Allocated 1 ∷ Allocated 2 ∷ Freed 1 ∷ Opened ∷ Opened ∷ Allocated 3 ∷ Opened ∷ []) ∷
    runs (main 4 2 (instr.Lend 0 (own 0) 1 way.Write ∷ instr.Const 2 (pos 1) ∷ instr.Project 2 0 2 1 ∷ instr.Const 3 (pos 9) ∷
    instr.Copy (through 1 0) (own 3) 1 ∷ instr.Slide 1 ∷ instr.Close 0 ∷ instr.Print 0 shown.Int ∷ instr.Return 0 ∷ []) ∷ around ∷ passing_on ∷ [])
    (line (codes "1") ++ line (codes "1") ++ line (codes "9")) done (counted 3 3 3 1 1) (Allocated 0 ∷ Opened ∷ Allocated 1 ∷ Allocated 2 ∷ Freed 2 ∷
    Freed 1 ∷ Closed ∷ Freed 0 ∷ []) ∷
    runs (main 1 0 (instr.Const 0 (pos 3) ∷ instr.Call 1 0 0 ∷ instr.Print 0 shown.Int ∷ instr.Return 0 ∷ []) ∷ summing ∷ [])
    (line (codes "6")) done (counted 5 5 5 0 0) (Allocated 0 ∷ Allocated 1 ∷ Allocated 2 ∷ Allocated 3 ∷ Allocated 4 ∷ Freed 4 ∷ Freed 3 ∷ Freed 2 ∷
    Freed 1 ∷ Freed 0 ∷ []) ∷
    []

-- STATES BY HAND

-- a writing access to four cells of block 0, with a reading one on the second of them that was made through it
abbrev pub outer : Access
outer = record { range = record { block = 0; from = 0; words = 4 }; header = None; way = way.Write; chain = 0 ∷ [] }

abbrev pub child : Access
child = record { range = record { block = 0; from = 1; words = 1 }; header = None; way = way.Read; chain = 1 ∷ 0 ∷ [] }

abbrev pub both_open : State
both_open = record (at_rest (object []) [] false) { access = with_at (with_at (λ name. None) 0 (Some outer)) 1 (Some child); counts = counted 0 0 0 2 0 }

abbrev pub child_closed : State
child_closed = record both_open { access = with_at both_open.access 1 None }

-- a cell of block 0, reached without an access, and through the outer one
abbrev pub cell : ℕ → Reach
cell at = record { range = record { block = 0; from = at; words = 1 }; way = way.Write; chain = [] }

abbrev pub by_outer : ℕ → Reach
by_outer at = record { range = record { block = 0; from = at; words = 1 }; way = way.Write; chain = 0 ∷ [] }

pub record OpenAsToldBy (s closed : State) : Type 0 where
  pub read : may_read s (cell 1) ≡ false
  pub read_through : may_read s (by_outer 1) ≡ true
  pub write_beside : may_write s (by_outer 0) ≡ true
  pub write_below : may_write s (by_outer 1) ≡ false
  pub write_after : may_write closed (by_outer 1) ≡ true

-- two cells of the frame name block 1, and a count; the block is freed, as no run leaves it
abbrev pub with_freed : State
with_freed = record (begin (object (main 3 0 (instr.Return 0 ∷ []) ∷ [])) [] false 1) {
  cells = with_at (λ block at. Unset) 0 (with_at (with_at (λ at. Unset) 0 (Name 1)) 1 (Word (pos 0)));
  freed = with_at (λ block. 0) 1 1;
}

abbrev pub IsStuckAtFreed : Type 0
IsStuckAtFreed = (does (object []) with_freed (instr.Count 2 (own 0))).stop ≡ Some (stuck kind.Freed 0 0)

-- THE TABLES

abbrev pub AllAnswered : List Example → Type 0
AllAnswered examples = AllByRecursion IsAnswered examples

-- SAFE AND BALANCED

-- returns at once
abbrev pub returning : Object
returning = object (main 0 0 (instr.Return 0 ∷ []) ∷ [])

-- closes an empty slot
abbrev pub closing : Object
closing = object (main 0 1 (instr.Close 0 ∷ instr.Return 0 ∷ []) ∷ [])

-- takes and frees an array, and opens and closes an access
abbrev pub balanced_run : Run
balanced_run = record {
  output = [];
  stop = done;
  taken = 0;
  counts = counted 1 2 2 1 1;
  journal = Allocated 0 ∷ Allocated 1 ∷ Opened ∷ Closed ∷ Freed 1 ∷ Freed 0 ∷ [];
}

abbrev pub balanced_code : List Instr
balanced_code = instr.NewArray (own 0) ∷ instr.Lend 0 (own 2) 1 way.Write ∷ instr.Close 0 ∷ instr.FreeArray (own 0) ∷ instr.Return 0 ∷ []

-- the first one is safe and the second one is not; the third one's run is balanced
pub record TellsSafeAndBalanced : Type 0 where
  pub safe : IsSafe returning
  pub unsafe : IsSafe closing → ⊥
  pub runs : Runs (object (main 3 1 balanced_code ∷ [])) [] false 1 balanced_run
  pub balanced : IsBalanced balanced_run
