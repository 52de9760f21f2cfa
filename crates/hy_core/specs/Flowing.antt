-- Which small cores have a flow: all that are calm, and none of those that are not.
use Rattle.std.specs.Prelude.{None, ◌≡◌, Bool, true, false, List, [], ◌∷◌, ◌++◌, ℤ, pos}
use Rattle.hy_core.specs.Plain.{Add, Sub, Mul, Div, Rem, Lt, Pop, Swap, Count, FreeArray, Built, NewArray, Done, Stmt}
use Rattle.hy_core.specs.Plain.{Set, Lend, Close, Move, Copy, Drop, Call, Project, Slide, Yield, If, While}
use Rattle.hy_core.specs.Plain.{Writes, Fun, Core}
use Rattle.hy_core.specs.Control.{Stage, Deinitialises, GivesUp}
use Rattle.hy_core.specs.FlowOf.{has_flow}
use Rattle.hy_core.specs.Notation.{of, item, push, stmts, print, compute, tell, int, inout_of, set_of, unit}
use Rattle.hy_core.specs.Notation.{number, truth, numbers, rows, numbers_for, fun, ramp, main, core, checked, done}
use Rattle.hy_core.specs.Examples as calm
use Rattle.hy_core.specs.Examples.{leave, Shows}
use Rattle.hy_core.specs.Differences as wild
use Rattle.hy_core.specs.Dropped.{IsDroppedRun}

abbrev pub Flows : Stage → Core → Type 0
Flows stage core = has_flow stage core ≡ true

abbrev pub NoFlow : Stage → Core → Type 0
NoFlow stage core = has_flow stage core ≡ false

abbrev pub FlowsNot : Core → Type 0
FlowsNot = NoFlow GivesUp

abbrev pub Operates : ℤ → ℤ → Type 0
Operates a b = Flows GivesUp (calm.operation Add a b) × Flows GivesUp (calm.operation Sub a b) × Flows GivesUp (calm.operation Mul a b)
    × Flows GivesUp (calm.operation Div a b) × Flows GivesUp (calm.operation Rem a b)

pub record CalmFlow : Type 0 where
  pub field : Flows GivesUp calm.a_field
  pub element : Flows GivesUp calm.an_element
  pub twice : Flows GivesUp calm.read_twice
  pub inout : Flows GivesUp calm.an_inout
  pub set : Flows GivesUp calm.a_set
  pub copy : Flows GivesUp calm.a_copy
  pub first : Flows GivesUp calm.first_slides_first
  pub last : Flows GivesUp calm.last_slides_first
  pub at_close : Flows GivesUp calm.part_at_close
  pub trap : Flows GivesUp calm.trap_in_slide
  pub set_variant : Flows GivesUp calm.a_set_variant
  pub early_end : Flows Deinitialises calm.past_an_end
  pub old_element : Flows Deinitialises calm.an_old_element
  pub whole : Flows Deinitialises calm.a_whole
  pub in_part : Flows Deinitialises calm.in_part
  pub rows : Flows Deinitialises calm.rows_of_numbers
  pub tree : Flows Deinitialises calm.a_tree
  pub moved : Flows Deinitialises calm.moved_if_one
  pub moved_checked : Flows GivesUp calm.moved_if_one_checked
  pub set_in_one : Flows Deinitialises calm.set_if_one
  pub set_in_one_checked : Flows GivesUp calm.set_if_one_checked
  pub loop : Flows GivesUp calm.a_loop
  pub left : Flows GivesUp calm.leaves_a_loop
  pub index : Flows Deinitialises calm.reads_an_index
  pub array : Flows GivesUp calm.an_array
  pub operations : (a b : ℤ) → Operates a b
  pub precondition : Flows GivesUp calm.precondition

pub record WildFlow : Type 0 where
  pub stale : FlowsNot wild.stale_read
  pub under_reader : FlowsNot wild.changed_under_reader
  pub by_reader : FlowsNot wild.changed_by_reader
  pub by_callee : FlowsNot wild.changed_by_callee
  pub by_projection : FlowsNot wild.changed_by_projection
  pub lent_on : FlowsNot wild.lent_on_by_reader
  pub moved : FlowsNot wild.moved_by_reader
  pub dropped : FlowsNot wild.dropped_by_reader
  pub writers : FlowsNot wild.two_writers
  pub again : FlowsNot wild.opened_again
  pub over : FlowsNot wild.opened_over
  pub early : FlowsNot wild.closed_over
  pub shut : FlowsNot wild.closed_shut
  pub handed : FlowsNot wild.handed_over
  pub yielded : FlowsNot wild.yielded_over

-- CORES THAT ARE REFUSED, each for one fault. Local 0 is for `()`, 1 to 6 are numbers, 7 and 8 are arrays of numbers, 9 is a
-- truth value.

abbrev pub body : List Stmt → Fun
body ss = main (unit ∷ numbers_for 6 (numbers ∷ numbers ∷ truth ∷ [])) ss

abbrev pub alone : List Stmt → Core
alone ss = core (body ss ∷ [])

-- an array of two numbers in local 7, and indices in 1 and 2
abbrev pub with_array : List Stmt → Core
with_array ss = alone (tell NewArray 7 [] ∷ int 1 5 ∷ push 7 1 ∷ int 1 6 ∷ push 7 1 ∷ int 1 0 ∷ int 2 1 ∷ ss)

abbrev pub end_array : List Stmt
end_array = Drop (of 2) ∷ Drop (of 1) ∷ Drop (of 7) ∷ leave 0

-- two elements are lent at once
abbrev pub two_elements : Core
two_elements = with_array (Lend 3 (item 7 1) true ∷ Lend 4 (item 7 2) true ∷ Close 4 ∷ Close 3 ∷ end_array)

-- and one after the other
abbrev pub one_then_another : Core
one_then_another = with_array (Lend 3 (item 7 1) true ∷ Close 3 ∷ Lend 4 (item 7 2) true ∷ Close 4 ∷ end_array)

-- an element is moved out
abbrev pub element_moved : Core
element_moved = with_array (Move (of 3) (item 7 1) ∷ Drop (of 3) ∷ end_array)

-- an index is unset
abbrev pub unset_index : Core
unset_index = with_array (print (item 7 3) ∷ end_array)

-- a set array is stored over
abbrev pub array_over : Core
array_over = with_array (tell NewArray 7 [] ∷ end_array)

-- a checked core copies an array
abbrev pub array_copied : Core
array_copied = with_array (Copy (of 8) (of 7) ∷ Drop (of 8) ∷ end_array)

abbrev pub unset_read : Core
unset_read = alone (print (of 1) ∷ leave 0)

abbrev pub unset_dropped : Core
unset_dropped = alone (Drop (of 1) ∷ leave 0)

abbrev pub left_set : Core
left_set = alone (int 1 1 ∷ leave 0)

abbrev pub left_open : Core
left_open = alone (int 1 1 ∷ Lend 2 (of 1) true ∷ leave 0)

-- a local that a `Lend` fills is used after its `Close`
abbrev pub used_closed : Core
used_closed = alone (int 1 1 ∷ Lend 2 (of 1) true ∷ Close 2 ∷ int 2 7 ∷ Drop (of 2) ∷ Drop (of 1) ∷ leave 0)

-- a place for a `Set` parameter is set, one for an `Inout` parameter is not, and one that is lent for reading is handed on for change
abbrev pub lends_to : Fun → List Stmt → Core
lends_to f ss = core (body ss ∷ f ∷ [])

abbrev pub fills : Fun
fills = fun (set_of number ∷ []) [] unit (unit ∷ []) (int 0 7 ∷ leave 1)

abbrev pub changes : Fun
changes = fun (inout_of number ∷ []) [] unit (unit ∷ []) (int 0 7 ∷ leave 1)

abbrev pub calls : (write : Bool) → List Stmt → List Stmt
calls write ss = ss ++ (Lend 2 (of 1) write ∷ Call 1 (2 ∷ []) [] (of 0) ∷ Close 2 ∷ Drop (of 1) ∷ leave 0)

abbrev pub filled_twice : Core
filled_twice = lends_to fills (calls true (int 1 1 ∷ []))

abbrev pub filled_once : Core
filled_once = lends_to fills (calls true [])

abbrev pub unset_inout : Core
unset_inout = lends_to changes (calls true [])

abbrev pub set_inout : Core
set_inout = lends_to changes (calls true (int 1 1 ∷ []))

abbrev pub reader_changed : Core
reader_changed = lends_to changes (calls false (int 1 1 ∷ []))

-- a body leaves its `Inout` parameter unset
abbrev pub inout_given_up : Core
inout_given_up = lends_to (fun (inout_of number ∷ []) [] unit (unit ∷ []) (Drop (of 0) ∷ leave 1)) (leave 0)

-- a ramp yields for change what it has for reading; and one does not yield
abbrev pub yields_reader : Core
yields_reader = lends_to (ramp Writes (inout_of number ∷ []) [] number (number ∷ unit ∷ []) (Lend 1 (of 0) false ∷ Yield 1 ∷ Close 1 ∷ leave 2)) (leave 0)

abbrev pub yields_writer : Core
yields_writer = lends_to (ramp Writes (inout_of number ∷ []) [] number (number ∷ unit ∷ []) (Lend 1 (of 0) true ∷ Yield 1 ∷ Close 1 ∷ leave 2)) (leave 0)

abbrev pub never_yields : Core
never_yields = lends_to (ramp Writes (inout_of number ∷ []) [] number (number ∷ unit ∷ []) (leave 2)) (leave 0)

-- a local that a subscript was lent is used before the subscript ends
abbrev pub used_held : Core
used_held = core (body (int 1 1 ∷ Lend 2 (of 1) true ∷ Project 1 (2 ∷ []) [] 3 ∷ print (of 2) ∷ Slide 3 ∷ Close 2 ∷ Drop (of 1) ∷ leave 0)
    ∷ ramp Writes (inout_of number ∷ []) [] number (number ∷ unit ∷ []) (Lend 1 (of 0) true ∷ Yield 1 ∷ Close 1 ∷ leave 2) ∷ [])

-- what a pass of a loop sets it does not give up
abbrev pub set_in_loop : Core
set_in_loop = alone (While (stmts (Set (of 9) (pos 0) ∷ [])) 9 (stmts (Drop (of 9) ∷ int 1 1 ∷ [])) ∷ Drop (of 9) ∷ leave 0)

-- two branches leave a local in two states
abbrev pub set_in_branch : Core
set_in_branch = alone (Set (of 9) (pos 1) ∷ If 9 (stmts (int 1 1 ∷ [])) Done ∷ Drop (of 9) ∷ leave 0)

-- what is set on one way only: local 1, where 9 is true
abbrev pub on_one_way : (set unset : List Stmt) → List Stmt → Core
on_one_way u v ss = alone (Set (of 9) (pos 1) ∷ If 9 (stmts (int 1 1 ∷ u)) (stmts v) ∷ ss)

abbrev pub read_doubtful : Core
read_doubtful = on_one_way [] [] (print (of 1) ∷ leave 0)

abbrev pub moved_doubtful : Core
moved_doubtful = on_one_way [] [] (Move (of 2) (of 1) ∷ leave 0)

abbrev pub lent_doubtful : Core
lent_doubtful = on_one_way [] [] (Lend 2 (of 1) false ∷ Close 2 ∷ leave 0)

-- its local is true exactly where it is set
abbrev pub dropped_where_set : Core
dropped_where_set = on_one_way [] [] (If 9 (stmts (Drop (of 1) ∷ [])) Done ∷ Drop (of 9) ∷ leave 0)

abbrev pub dropped_where_unset : Core
dropped_where_unset = on_one_way [] [] (If 9 Done (stmts (Drop (of 1) ∷ [])) ∷ Drop (of 9) ∷ leave 0)

-- the local is false where it is set
abbrev pub told_wrongly : Core
told_wrongly = on_one_way (Set (of 9) (pos 0) ∷ []) (Set (of 9) (pos 1) ∷ []) (If 9 (stmts (Drop (of 1) ∷ [])) Done ∷ Drop (of 9) ∷ leave 0)

-- the local changes while the place is doubtful
abbrev pub told_no_more : Core
told_no_more = on_one_way [] [] (Set (of 9) (pos 1) ∷ If 9 (stmts (Drop (of 1) ∷ [])) Done ∷ Drop (of 9) ∷ leave 0)

-- a doubtful array is stored over
abbrev pub doubtful_over : Core
doubtful_over = alone (Set (of 9) (pos 1) ∷ If 9 (stmts (tell NewArray 7 [] ∷ [])) Done ∷ tell NewArray 7 [] ∷ Drop (of 7) ∷ leave 0)

-- and is given up first
abbrev pub doubtful_dropped : Core
doubtful_dropped = alone (Set (of 9) (pos 1) ∷ If 9 (stmts (tell NewArray 7 [] ∷ [])) Done ∷ Drop (of 7) ∷ tell NewArray 7 [] ∷ Drop (of 7) ∷ leave 0)

-- a doubtful array is left at the end
abbrev pub doubtful_left : Core
doubtful_left = alone (Set (of 9) (pos 1) ∷ If 9 (stmts (tell NewArray 7 [] ∷ [])) Done ∷ leave 0)

-- set in some passes of a loop, and given up in others
abbrev pub set_in_passes : Core
set_in_passes = alone (Set (of 9) (pos 1) ∷ While Done 9 (stmts (tell NewArray 7 [] ∷ Drop (of 7) ∷ If 9 (stmts (Drop (of 8) ∷ tell NewArray 8 [] ∷ [])) Done
    ∷ Set (of 9) (pos 0) ∷ [])) ∷ Drop (of 8) ∷ Drop (of 9) ∷ leave 0)

-- ARRAYS OF ARRAYS: local 8 is one, 7 an array of numbers, 1 to 6 are numbers, 9 and 10 are truth values

abbrev pub with_rows : List Stmt → Core
with_rows ss = core (main (unit ∷ numbers_for 6 (numbers ∷ rows ∷ truth ∷ truth ∷ [])) (tell NewArray 8 [] ∷ int 1 0 ∷ (ss ++ Drop (of 1) ∷ leave 0)) ∷ [])

-- two rows, of which one has an element
abbrev pub two_rows : List Stmt
two_rows = tell NewArray 7 [] ∷ int 2 5 ∷ push 7 2 ∷ push 8 7 ∷ tell NewArray 7 [] ∷ push 8 7 ∷ []

-- while 0 < count, the last row is taken out and freed
abbrev pub rows_freed : List Stmt
rows_freed = While (stmts (tell Count 2 (of 8 ∷ []) ∷ tell Lt 9 (of 1 ∷ of 2 ∷ []) ∷ Drop (of 2) ∷ [])) 9
    (stmts (Drop (of 9) ∷ compute Pop 7 (of 8 ∷ []) ∷ Built FreeArray None (of 7 ∷ []) [] ∷ [])) ∷ Drop (of 9) ∷ []

-- the rows in turn: their number is printed, and the first is swapped with the last one, which is taken out
abbrev pub rows_loop : Stmt
rows_loop = While (stmts (tell Count 2 (of 8 ∷ []) ∷ tell Lt 9 (of 1 ∷ of 2 ∷ []) ∷ [])) 9
    (stmts (print (of 2) ∷ int 3 1 ∷ compute Sub 2 (of 2 ∷ of 3 ∷ []) ∷ Built Swap None (of 8 ∷ of 1 ∷ of 2 ∷ []) (0 ∷ 0 ∷ []) ∷ compute Pop 7 (of 8 ∷ [])
    ∷ Built FreeArray None (of 7 ∷ []) [] ∷ Drop (of 3) ∷ Drop (of 2) ∷ Drop (of 9) ∷ []))

abbrev pub rows_swapped_out : List Stmt
rows_swapped_out = rows_loop ∷ Drop (of 9) ∷ Drop (of 2) ∷ []

-- The rows of three, from the first to the last: while there is one after it, the k-th is swapped with the last one; then the last
-- one is taken out, the number of its elements is printed, and it is freed.
abbrev pub third_row : List Stmt
third_row = tell NewArray 7 [] ∷ int 2 5 ∷ push 7 2 ∷ int 2 6 ∷ push 7 2 ∷ push 8 7 ∷ []

abbrev pub rows_in_turn : List Stmt
rows_in_turn = int 3 1 ∷ int 4 0 ∷ While (stmts (tell Count 2 (of 8 ∷ []) ∷ tell Lt 9 (of 1 ∷ of 2 ∷ []) ∷ [])) 9
    (stmts (compute Sub 5 (of 2 ∷ of 3 ∷ []) ∷ tell Lt 10 (of 4 ∷ of 5 ∷ [])
    ∷ If 10 (stmts (Built Swap None (of 8 ∷ of 4 ∷ of 5 ∷ []) (0 ∷ 0 ∷ []) ∷ [])) Done ∷ compute Pop 7 (of 8 ∷ [])
    ∷ tell Count 6 (of 7 ∷ []) ∷ print (of 6) ∷ Built FreeArray None (of 7 ∷ []) [] ∷ compute Add 4 (of 4 ∷ of 3 ∷ [])
    ∷ Drop (of 10) ∷ Drop (of 9) ∷ Drop (of 6) ∷ Drop (of 5) ∷ Drop (of 2) ∷ [])) ∷ Drop (of 9) ∷ Drop (of 4) ∷ Drop (of 3) ∷ Drop (of 2) ∷ []

abbrev pub dropped_in_turn : Core
dropped_in_turn = with_rows (two_rows ++ (third_row ++ (rows_in_turn ++ Drop (of 8) ∷ [])))

abbrev pub freed_with_rows : Core
freed_with_rows = with_rows (two_rows ++ Built FreeArray None (of 8 ∷ []) [] ∷ [])

abbrev pub dropped_with_rows : Core
dropped_with_rows = with_rows (two_rows ++ Drop (of 8) ∷ [])

abbrev pub freed_without_rows : Core
freed_without_rows = with_rows (two_rows ++ (rows_freed ++ Built FreeArray None (of 8 ∷ []) [] ∷ []))

abbrev pub dropped_without_rows : Core
dropped_without_rows = with_rows (two_rows ++ (rows_swapped_out ++ Drop (of 8) ∷ []))

-- one is pushed after the loop
abbrev pub freed_with_one : Core
freed_with_one = with_rows (two_rows ++ (rows_freed ++ tell NewArray 7 [] ∷ push 8 7 ∷ Built FreeArray None (of 8 ∷ []) [] ∷ []))

-- one that never had a row; and a count that is only printed
abbrev pub freed_at_once : Core
freed_at_once = with_rows (tell Count 2 (of 8 ∷ []) ∷ print (of 2) ∷ Drop (of 2) ∷ Built FreeArray None (of 8 ∷ []) [] ∷ [])

abbrev pub only_counted : Core
only_counted = with_rows (two_rows ++ (tell Count 2 (of 8 ∷ []) ∷ print (of 2) ∷ Drop (of 2) ∷ (rows_freed ++ Drop (of 8) ∷ [])))

-- where the count is 0 it is freed, and else
abbrev pub freed_where_none : Core
freed_where_none = with_rows (tell Count 2 (of 8 ∷ []) ∷ tell Lt 9 (of 1 ∷ of 2 ∷ []) ∷ Drop (of 2)
    ∷ If 9 (stmts (Drop (of 9) ∷ (rows_freed ++ Built FreeArray None (of 8 ∷ []) [] ∷ [])))
    (stmts (Drop (of 9) ∷ Built FreeArray None (of 8 ∷ []) [] ∷ [])) ∷ [])

abbrev pub freed_where_some : Core
freed_where_some = with_rows (two_rows ++ (tell Count 2 (of 8 ∷ []) ∷ tell Lt 9 (of 1 ∷ of 2 ∷ []) ∷ Drop (of 2)
    ∷ If 9 (stmts (Drop (of 9) ∷ Built FreeArray None (of 8 ∷ []) [] ∷ [])) (stmts (Drop (of 9) ∷ Built FreeArray None (of 8 ∷ []) [] ∷ [])) ∷ []))

pub record RowsFlow : Type 0 where
  pub freed : FlowsNot freed_with_rows
  pub dropped : FlowsNot dropped_with_rows
  pub without : Flows GivesUp freed_without_rows
  pub swapped_out : Flows GivesUp dropped_without_rows
  pub in_turn : Flows GivesUp dropped_in_turn
  pub with_one : FlowsNot freed_with_one
  pub at_once : Flows GivesUp freed_at_once
  pub counted : Flows GivesUp only_counted
  pub where_none : Flows GivesUp freed_where_none
  pub where_some : FlowsNot freed_where_some
  -- a run that frees or drops one with rows in it loses them
  pub freed_loses : IsDroppedRun (checked freed_with_rows 9) → ⊥
  pub dropped_loses : IsDroppedRun (checked dropped_with_rows 9) → ⊥
  -- what cores that take them out first show in either memory
  pub runs : Shows (checked dropped_without_rows 9) 80 (done (pos 2 ∷ pos 1 ∷ []) 3 0)
  pub runs_in_turn : Shows (checked dropped_in_turn 9) 120 (done (pos 1 ∷ pos 0 ∷ pos 2 ∷ []) 4 0)

pub record DoubtfulFlow : Type 0 where
  pub read : NoFlow Deinitialises read_doubtful
  pub moved : NoFlow Deinitialises moved_doubtful
  pub lent : NoFlow Deinitialises lent_doubtful
  pub read_checked : FlowsNot read_doubtful
  pub where_set : Flows GivesUp dropped_where_set
  pub where_unset : FlowsNot dropped_where_unset
  pub wrongly : FlowsNot told_wrongly
  pub no_more : FlowsNot told_no_more
  pub over : NoFlow Deinitialises doubtful_over
  pub dropped : Flows Deinitialises doubtful_dropped
  pub left : NoFlow Deinitialises doubtful_left
  pub passes : Flows Deinitialises set_in_passes
  pub branch : Flows Deinitialises set_in_branch

pub record FlawedFlow : Type 0 where
  pub elements : FlowsNot two_elements
  pub moved : FlowsNot element_moved
  pub index : FlowsNot unset_index
  pub over : FlowsNot array_over
  pub copied : FlowsNot array_copied
  pub read : FlowsNot unset_read
  pub dropped : FlowsNot unset_dropped
  pub left : FlowsNot left_set
  pub left_open : FlowsNot left_open
  pub closed : FlowsNot used_closed
  pub twice : FlowsNot filled_twice
  pub inout : FlowsNot unset_inout
  pub reader : FlowsNot reader_changed
  pub given_up : FlowsNot inout_given_up
  pub yields : FlowsNot yields_reader
  pub never : FlowsNot never_yields
  pub held : FlowsNot used_held
  pub loop : FlowsNot set_in_loop
  pub branch : FlowsNot set_in_branch

-- and what of these is mended
pub record MendedFlow : Type 0 where
  pub elements : Flows GivesUp one_then_another
  pub filled : Flows GivesUp filled_once
  pub inout : Flows GivesUp set_inout
  pub yields : Flows GivesUp yields_writer
  pub copied : Flows Deinitialises array_copied
