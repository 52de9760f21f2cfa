-- Small cores that are not calm, each in one way, and on each of which the two memories differ.
use Rattle.std.specs.Prelude.{◌≡◌, true, false, List, [], ◌∷◌, ℤ, pos}
use Rattle.hy_core.specs.Plain.{Stmt, Set, Lend, Close, Move, Drop, Call, Project, Slide, Yield, Leave, Reads, Writes, Fun, Core}
use Rattle.hy_core.specs.Meaning.{copied, lent}
use Rattle.hy_core.specs.Notation.{of, part, print, int, let_of, inout_of, unit, number, pair, numbers_for, fun, ramp, main, core, checked, lines}

-- local 0 is for `()`, 1 to 4 are numbers, 5 and 6 are pairs of numbers
abbrev pub body : List Stmt → Fun
body ss = main (unit ∷ numbers_for 4 (pair ∷ pair ∷ [])) ss

-- a pair in local 5
abbrev pub a_pair : List Stmt → List Stmt
a_pair ss = Set (part 5 0) (pos 1) ∷ Set (part 5 1) (pos 2) ∷ ss

-- the whole is read while a part is open for change
abbrev pub stale_read : Core
stale_read = core (body (a_pair (Lend 2 (part 5 0) true ∷ int 2 7 ∷ print (part 5 0) ∷ [])) ∷ [])

-- a place is changed while it is open for reading
abbrev pub changed_under_reader : Core
changed_under_reader = core (body (int 1 1 ∷ Lend 2 (of 1) false ∷ int 1 7 ∷ print (of 2) ∷ []) ∷ [])

-- what was opened for reading is changed, in the body that opened it
abbrev pub changed_by_reader : Core
changed_by_reader = core (body (int 1 1 ∷ Lend 2 (of 1) false ∷ int 2 7 ∷ Close 2 ∷ print (of 1) ∷ []) ∷ [])

-- in the body that it was lent to
abbrev pub changed_by_callee : Core
changed_by_callee = core (body (int 1 1 ∷ Lend 2 (of 1) false ∷ Call 1 (2 ∷ []) [] (of 0) ∷ Close 2 ∷ print (of 1) ∷ [])
    ∷ fun (let_of number ∷ []) [] unit (unit ∷ []) (int 0 7 ∷ Set (of 1) (pos 0) ∷ Leave (of 1) ∷ []) ∷ [])

-- in the body that a subscript yielded it to
abbrev pub changed_by_projection : Core
changed_by_projection = core (body (int 1 1 ∷ Lend 2 (of 1) true ∷ Project 1 (2 ∷ []) [] 3 ∷ int 3 7 ∷ Slide 3 ∷ Close 2 ∷ print (of 1) ∷ [])
    ∷ ramp Reads (inout_of number ∷ []) [] number (number ∷ unit ∷ []) (Lend 1 (of 0) false ∷ Yield 1 ∷ Close 1 ∷ Set (of 2) (pos 0) ∷ Leave (of 2) ∷ []) ∷ [])

-- it is lent on for change
abbrev pub lent_on_by_reader : Core
lent_on_by_reader = core (body (int 1 1 ∷ Lend 2 (of 1) false ∷ Lend 3 (of 2) true ∷ int 3 7 ∷ Close 3 ∷ Close 2 ∷ print (of 1) ∷ []) ∷ [])

-- it is moved away
abbrev pub moved_by_reader : Core
moved_by_reader = core (body (int 1 1 ∷ Lend 2 (of 1) false ∷ Move (of 3) (of 2) ∷ Close 2 ∷ print (of 1) ∷ []) ∷ [])

-- it is given up
abbrev pub dropped_by_reader : Core
dropped_by_reader = core (body (int 1 1 ∷ Lend 2 (of 1) false ∷ Drop (of 2) ∷ Close 2 ∷ print (of 1) ∷ []) ∷ [])

-- a place is open for change twice
abbrev pub two_writers : Core
two_writers = core (body (int 1 1 ∷ Lend 2 (of 1) true ∷ Lend 3 (of 1) true ∷ int 2 7 ∷ print (of 3) ∷ []) ∷ [])

-- a local is opened that is still open
abbrev pub opened_again : Core
opened_again = core (body (int 1 1 ∷ int 4 2 ∷ Lend 2 (of 1) true ∷ int 2 7 ∷ Lend 2 (of 4) true ∷ Close 2 ∷ print (of 1) ∷ []) ∷ [])

-- a local is opened from which a place is open
abbrev pub opened_over : Core
opened_over = core (body (int 1 1 ∷ int 2 2 ∷ Lend 3 (of 2) true ∷ Lend 2 (of 1) true ∷ int 3 7 ∷ Close 3 ∷ print (of 2) ∷ []) ∷ [])

-- a local closes from which a place is open
abbrev pub closed_over : Core
closed_over = core (body (int 1 1 ∷ Lend 2 (of 1) true ∷ Lend 3 (of 2) true ∷ int 3 7 ∷ Close 2 ∷ Close 3 ∷ print (of 1) ∷ []) ∷ [])

-- a local closes that is not open
abbrev pub closed_shut : Core
closed_shut = core (body (int 1 1 ∷ Close 1 ∷ print (of 1) ∷ []) ∷ [])

-- a local is handed over from which a place is open
abbrev pub handed_over : Core
handed_over = core (body (a_pair (Lend 6 (of 5) true ∷ Lend 2 (part 6 0) true ∷ int 2 7 ∷ Call 1 (6 ∷ []) [] (of 0) ∷ []))
    ∷ fun (let_of pair ∷ []) [] unit (unit ∷ []) (print (part 0 0) ∷ Set (of 1) (pos 0) ∷ Leave (of 1) ∷ []) ∷ [])

-- a local is yielded from which a place is open
abbrev pub yielded_over : Core
yielded_over = core (body (a_pair (Lend 6 (of 5) true ∷ Project 1 (6 ∷ []) [] 2 ∷ print (of 2) ∷ []))
    ∷ ramp Writes (inout_of pair ∷ []) [] number (number ∷ number ∷ unit ∷ []) (Lend 1 (part 0 0) true ∷ Lend 2 (of 1) true ∷ int 2 7 ∷ Yield 1 ∷ []) ∷ [])

-- what the two memories print
abbrev pub Prints : Core → (copies cells : List ℤ) → Type 0
Prints c a b = ((copied (checked c 5) 20).output ≡ lines a) × ((lent (checked c 5) 20).output ≡ lines b)

pub record Differences : Type 0 where
  pub stale : Prints stale_read (pos 1 ∷ []) (pos 7 ∷ [])
  pub under_reader : Prints changed_under_reader (pos 1 ∷ []) (pos 7 ∷ [])
  pub by_reader : Prints changed_by_reader (pos 1 ∷ []) (pos 7 ∷ [])
  pub by_callee : Prints changed_by_callee (pos 1 ∷ []) (pos 7 ∷ [])
  pub by_projection : Prints changed_by_projection (pos 1 ∷ []) (pos 7 ∷ [])
  pub lent_on : Prints lent_on_by_reader (pos 1 ∷ []) (pos 7 ∷ [])
  pub moved : Prints moved_by_reader (pos 1 ∷ []) []
  pub dropped : Prints dropped_by_reader (pos 1 ∷ []) []
  pub writers : Prints two_writers (pos 1 ∷ []) (pos 7 ∷ [])
  pub again : Prints opened_again (pos 1 ∷ []) (pos 7 ∷ [])
  pub over : Prints opened_over (pos 7 ∷ []) (pos 1 ∷ [])
  pub early : Prints closed_over (pos 1 ∷ []) (pos 7 ∷ [])
  pub shut : Prints closed_shut (pos 1 ∷ []) []
  pub handed : Prints handed_over (pos 1 ∷ []) (pos 7 ∷ [])
  pub yielded : Prints yielded_over (pos 1 ∷ []) (pos 7 ∷ [])
