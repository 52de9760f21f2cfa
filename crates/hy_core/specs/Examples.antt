-- Small cores, and what they do: the same in both memories.
use Rattle.std.specs.Prelude.{◌≡◌, if◌then◌else◌, ℕ, Bool, true, false, List, [], ◌∷◌, ◌++◌, Some, None, ℤ, pos, negsuc, neg_ℤ, codes}
use Rattle.hy_base.specs.declared.run.End.TheVariants as end
use Rattle.hy_base.specs.declared.run.TrapKind.{TrapKind}
use Rattle.hy_base.specs.declared.run.TrapKind.TheVariants as trap
use Rattle.hy_core.specs.Plain.{Operator, Add, Sub, Mul, Div, Rem, Eq, Lt, NewArray, Push, Pop, Swap, Count, Print, Read, Check, Done, Stmt, Built, Set}
use Rattle.hy_core.specs.Plain.{Lend, Close, Move, Copy, Drop, Call, Project, Slide, Yield, If, While, Break, Continue, Leave, Reads, Writes, Fun, Core}
use Rattle.hy_core.specs.Control.{Ends, Stage, Deinitialises, GivesUp}
use Rattle.hy_core.specs.Meaning.{Report, Run, copied, lent}
use Rattle.hy_core.specs.Notation.{of, part, deep, item, push, stmts, print, compute, tell, int, let_of, inout_of, set_of, unit, number, truth, pair}
use Rattle.hy_core.specs.Notation.{numbers, cell, dying, dyings, rows, tree, two, numbers_for, fun, ramp, main, index_span, trap_span, core, dying_core}
use Rattle.hy_core.specs.Notation.{checked, unchecked, done, ended}

-- both runs show this after so many steps
abbrev pub Shows : Run → ℕ → Report → Type 0
Shows r k x = (copied r k ≡ x) × (lent r k ≡ x)

-- the end of a body that gives nothing, with a local of type `()`
abbrev pub leave : ℕ → List Stmt
leave l = Set (of l) (pos 0) ∷ Leave (of l) ∷ []

-- PLACES THAT ARE LENT

-- var p = (1, 2); inout x = &p.0; x = 3; print(p.0)
abbrev pub a_field : Core
a_field = core (main (unit ∷ pair ∷ number ∷ []) (
    Set (part 1 0) (pos 1) ∷ Set (part 1 1) (pos 2) ∷ Lend 2 (part 1 0) true ∷ int 2 3 ∷ Close 2 ∷ print (part 1 0) ∷ Drop (of 1) ∷ leave 0) ∷ [])

-- var a = [5, 6]; inout x = &a[1]; x = 9; print(a[1]); print(a[2]): an index step is counted as opened where it does not trap
abbrev pub an_element : Core
an_element = core (main (unit ∷ numbers ∷ number ∷ number ∷ number ∷ []) (
    tell NewArray 1 [] ∷ int 2 5 ∷ push 1 2 ∷ int 2 6 ∷ push 1 2 ∷ int 3 1
    ∷ Lend 4 (item 1 3) true ∷ int 4 9 ∷ Close 4 ∷ print (item 1 3) ∷ int 3 2 ∷ print (item 1 3) ∷ Drop (of 3) ∷ Drop (of 1) ∷ leave 0) ∷ [])

-- fun sum(_ a: Int, _ b: Int) { print(a + b) }: var x = 4; sum(x, x)
abbrev pub read_twice : Core
read_twice = core (main (unit ∷ number ∷ number ∷ number ∷ []) (
    int 1 4 ∷ Lend 2 (of 1) false ∷ Lend 3 (of 1) false ∷ Call 1 (2 ∷ 3 ∷ []) [] (of 0) ∷ Close 3 ∷ Close 2 ∷ Drop (of 0) ∷ Drop (of 1) ∷ leave 0)
    ∷ fun (let_of number ∷ let_of number ∷ []) [] unit (number ∷ unit ∷ []) (compute Add 2 (of 0 ∷ of 1 ∷ []) ∷ print (of 2) ∷ Drop (of 2) ∷ leave 3) ∷ [])

-- fun g(_ x: inout Int) -> Int { x += 1; return 10 }  fun f(_ a: Int, _ b: Int) -> Int { return a + b }
-- var x = 1; print(f(x, g(&x))): x is opened after the call of g
abbrev pub an_inout : Core
an_inout = core (main (unit ∷ number ∷ number ∷ number ∷ number ∷ number ∷ number ∷ []) (
    int 1 1 ∷ Lend 2 (of 1) true ∷ Call 1 (2 ∷ []) [] (of 3) ∷ Close 2
    ∷ Lend 4 (of 1) false ∷ Lend 5 (of 3) false ∷ Call 2 (4 ∷ 5 ∷ []) [] (of 6) ∷ Close 5 ∷ Close 4 ∷ print (of 6)
    ∷ Drop (of 6) ∷ Drop (of 3) ∷ Drop (of 1) ∷ leave 0)
    ∷ fun (inout_of number ∷ []) [] number (number ∷ number ∷ []) (int 1 1 ∷ compute Add 0 (of 0 ∷ of 1 ∷ []) ∷ Drop (of 1) ∷ int 2 10 ∷ Leave (of 2) ∷ [])
    ∷ fun (let_of number ∷ let_of number ∷ []) [] number (number ∷ []) (compute Add 2 (of 0 ∷ of 1 ∷ []) ∷ Leave (of 2) ∷ []) ∷ [])

-- fun begin(_ x: set Int) { x = 7 }: var p: (Int, Int), of which nothing is set; begin(&p.0); p.1 = 8; begin(&p.1) with the old value given up
abbrev pub a_set : Core
a_set = core (main (unit ∷ pair ∷ number ∷ number ∷ []) (
    Lend 2 (part 1 0) true ∷ Call 1 (2 ∷ []) [] (of 0) ∷ Close 2 ∷ print (part 1 0) ∷ Set (part 1 1) (pos 8) ∷ print (part 1 1)
    ∷ Lend 3 (part 1 1) true ∷ Drop (of 3) ∷ Call 1 (3 ∷ []) [] (of 0) ∷ Close 3 ∷ print (part 1 1) ∷ Drop (of 1) ∷ leave 0)
    ∷ fun (set_of number ∷ []) [] unit (unit ∷ []) (int 0 7 ∷ leave 1) ∷ [])

-- var p = (1, 2); var q = p.copy(); p.0 = 9; print(q.0); print(p.0)
abbrev pub a_copy : Core
a_copy = core (main (unit ∷ pair ∷ pair ∷ []) (
    Set (part 1 0) (pos 1) ∷ Set (part 1 1) (pos 2) ∷ Copy (of 2) (of 1) ∷ Set (part 1 0) (pos 9) ∷ print (part 2 0) ∷ print (part 1 0)
    ∷ Drop (of 2) ∷ Drop (of 1) ∷ leave 0) ∷ [])

-- SUBSCRIPTS

-- subscript s(_ k: Int, _ x: yielded Int): Int { inout { print(k); yield &x; print(k + 100) } }
abbrev pub talking : Fun
talking = ramp Writes (let_of number ∷ inout_of number ∷ []) [] number (number ∷ number ∷ unit ∷ []) (
    print (of 0) ∷ Lend 2 (of 1) true ∷ Yield 2 ∷ Close 2 ∷ int 3 100 ∷ compute Add 3 (of 0 ∷ of 3 ∷ []) ∷ print (of 3) ∷ Drop (of 3) ∷ leave 4)

-- inout a = &s[k, &x], with k in a local of its own: the argument k, the argument x, the yield and the projection are opened
abbrev pub bind : (k : ℕ) → (fun key lent_key place lent yielded bound : ℕ) → List Stmt
bind k f key lent_key place lent' yielded bound =
    int key k ∷ Lend lent_key (of key) false ∷ Lend lent' (of place) true ∷ Project f (lent_key ∷ lent' ∷ []) [] yielded ∷ Lend bound (of yielded) true ∷ []

abbrev pub unbind : (key lent_key lent yielded bound : ℕ) → List Stmt
unbind key lent_key lent' yielded bound = Close bound ∷ Slide yielded ∷ Close lent' ∷ Close lent_key ∷ Drop (of key) ∷ []

abbrev pub add_to : (to by value : ℕ) → List Stmt
add_to to by value = int by value ∷ compute Add to (of to ∷ of by ∷ []) ∷ Drop (of by) ∷ []

abbrev pub both_locals : List Stmt → Core
both_locals body = core (main (unit ∷ numbers_for 13 []) body ∷ talking ∷ [])

-- var u = 1; var v = 2; inout a = &s[1, &u]; inout b = &s[2, &v]; a += 10; b += 20; print(u); print(v): the first slides first
abbrev pub first_slides_first : Core
first_slides_first = both_locals (
    int 1 1 ∷ int 2 2 ∷ bind 1 1 3 4 1 5 6 7 ++ bind 2 1 8 9 2 10 11 12 ++ add_to 7 13 10 ++ unbind 3 4 5 6 7 ++ add_to 12 13 20 ++ unbind 8 9 10 11 12
    ++ print (of 1) ∷ print (of 2) ∷ Drop (of 2) ∷ Drop (of 1) ∷ leave 0)

-- the same with b += 20 before a += 10: the last slides first
abbrev pub last_slides_first : Core
last_slides_first = both_locals (
    int 1 1 ∷ int 2 2 ∷ bind 1 1 3 4 1 5 6 7 ++ bind 2 1 8 9 2 10 11 12 ++ add_to 12 13 20 ++ unbind 8 9 10 11 12 ++ add_to 7 13 10 ++ unbind 3 4 5 6 7
    ++ print (of 1) ∷ print (of 2) ∷ Drop (of 2) ∷ Drop (of 1) ∷ leave 0)

-- type M { var mm: Int  subscript cm(): Int { inout { var d = mm / 10; yield &d; mm = d * 10 } } }
-- var m = M(mm: 250); inout c = &m.cm[]; c += 1; print(c); print(m.mm): the part is changed only where it closes
abbrev pub part_at_close : Core
part_at_close = core (main (unit ∷ cell ∷ cell ∷ number ∷ number ∷ number ∷ []) (
    Set (part 1 0) (pos 250) ∷ Lend 2 (of 1) true ∷ Project 1 (2 ∷ []) [] 3 ∷ Lend 4 (of 3) true ∷ add_to 4 5 1 ++ print (of 4) ∷ Close 4 ∷ Slide 3 ∷ Close 2
    ∷ print (part 1 0) ∷ Drop (of 1) ∷ leave 0)
    ∷ ramp Writes (inout_of cell ∷ []) [] number (number ∷ number ∷ number ∷ unit ∷ []) (
    int 2 10 ∷ compute Div 1 (part 0 0 ∷ of 2 ∷ []) ∷ Lend 3 (of 1) true ∷ Yield 3 ∷ Close 3 ∷ Built Mul (Some (part 0 0)) (of 1 ∷ of 2 ∷ []) (1 ∷ [])
    ∷ Drop (of 2) ∷ Drop (of 1) ∷ leave 4) ∷ [])

-- a slide that adds what was yielded to itself: var u = 1; inout a = &t[&u]; a = 2^63 - 1; then an overflow where it closes
abbrev pub trap_in_slide : Core
trap_in_slide = core (main (unit ∷ number ∷ number ∷ number ∷ []) (
    int 1 1 ∷ print (of 1) ∷ Lend 2 (of 1) true ∷ Project 1 (2 ∷ []) [] 3 ∷ int 3 9223372036854775807 ∷ Slide 3 ∷ Close 2 ∷ print (of 1) ∷ Drop (of 1) ∷
    leave 0)
    ∷ ramp Writes (inout_of number ∷ []) [] number (number ∷ unit ∷ []) (Lend 1 (of 0) true ∷ Yield 1 ∷ Close 1 ∷ compute Add 0 (of 0 ∷ of 0 ∷ []) ∷
    leave 2) ∷ [])

-- type Cell { var v: Int  subscript at(): Int { let { yield v }  inout { yield &v }  set(new_value) { print(-1); v = new_value } } }
-- var c = Cell(v: 1); c.at[] = 5; c.at[] += 2; print(c.at[])
abbrev pub a_set_variant : Core
a_set_variant = core (main (unit ∷ cell ∷ cell ∷ number ∷ number ∷ number ∷ cell ∷ cell ∷ number ∷ []) (
    Set (part 1 0) (pos 1)
    ∷ int 3 5 ∷ Lend 2 (of 1) true ∷ Call 1 (2 ∷ []) (of 3 ∷ []) (of 0) ∷ Close 2 ∷ Drop (of 0)
    ∷ int 5 2 ∷ Lend 6 (of 1) true ∷ Project 2 (6 ∷ []) [] 4 ∷ compute Add 4 (of 4 ∷ of 5 ∷ []) ∷ Slide 4 ∷ Close 6 ∷ Drop (of 5)
    ∷ Lend 7 (of 1) false ∷ Project 3 (7 ∷ []) [] 8 ∷ print (of 8) ∷ Slide 8 ∷ Close 7 ∷ Drop (of 1) ∷ leave 0)
    ∷ fun (inout_of cell ∷ []) (number ∷ []) unit (number ∷ unit ∷ []) (Set (of 2) (negsuc 0) ∷ print (of 2) ∷ Drop (of 2) ∷ Move (part 0 0) (of 1) ∷ leave 3)
    ∷ ramp Writes (inout_of cell ∷ []) [] number (number ∷ unit ∷ []) (Lend 1 (part 0 0) true ∷ Yield 1 ∷ Close 1 ∷ leave 2)
    ∷ ramp Reads (let_of cell ∷ []) [] number (number ∷ unit ∷ []) (Lend 1 (part 0 0) false ∷ Yield 1 ∷ Close 1 ∷ leave 2) ∷ [])

-- DEINITIALISERS: cores in which a `Drop` runs them

-- deinit { print(k) }
abbrev pub prints_k : Fun
prints_k = fun (inout_of dying ∷ []) [] unit (unit ∷ []) (print (part 0 0) ∷ leave 1)

-- deinit { print(0) }
abbrev pub prints_nought : Fun
prints_nought = fun (inout_of two ∷ []) [] unit (number ∷ unit ∷ []) (int 1 0 ∷ print (of 1) ∷ Drop (of 1) ∷ leave 2)

-- fun f() -> Int {
--   var u = 1; var v = 2
--   while true { inout a = &s[1, &u]; var d = D(k: 7); inout b = &s[2, &v]; a += 1; if a == 2 { return a + b + d.k }; b += d.k }
--   return 0
-- }
-- print(f()): both subscripts slide past the early end, with d between them
abbrev pub past_an_end : Core
past_an_end = dying_core (main (unit ∷ number ∷ []) (Call 1 [] [] (of 1) ∷ print (of 1) ∷ Drop (of 1) ∷ leave 0)
    ∷ fun [] [] number (numbers_for 12 (dying ∷ truth ∷ number ∷ number ∷ [])) (
    int 0 1 ∷ int 1 2 ∷
    While (stmts (Set (of 13) (pos 1) ∷ [])) 13 (stmts (Drop (of 13) ∷ bind 1 2 2 3 0 4 5 6 ++ Set (part 12 0) (pos 7) ∷ bind 2 2 7 8 1 9 10 11
    ++ add_to 6 14 1 ++ int 14 2 ∷ tell Eq 13 (of 6 ∷ of 14 ∷ []) ∷ Drop (of 14)
    ∷ If 13 (stmts (Drop (of 13) ∷ compute Add 15 (of 6 ∷ of 11 ∷ []) ∷ compute Add 15 (of 15 ∷ part 12 0 ∷ []) ∷ unbind 7 8 9 10 11 ++ Drop (of 12) ∷
    unbind 2 3 4 5 6
    ++ Drop (of 1) ∷ Drop (of 0) ∷ Leave (of 15) ∷ [])) Done ∷ Drop (of 13)
    ∷ compute Add 11 (of 11 ∷ part 12 0 ∷ []) ∷ unbind 7 8 9 10 11 ++ Drop (of 12) ∷ unbind 2 3 4 5 6)) ∷ Drop (of 13) ∷ Drop (of 1) ∷ Drop (of 0) ∷
    int 15 0 ∷ Leave (of 15) ∷ [])
    ∷ talking ∷ prints_k ∷ prints_nought ∷ []) 3 4

-- var a = [D(k: 1), D(k: 2), D(k: 3)]; a[1] = D(k: 9)
abbrev pub push_dying : ℕ → List Stmt
push_dying k = Set (part 2 0) (pos k) ∷ push 1 2 ∷ []

abbrev pub an_old_element : Core
an_old_element = dying_core (main (unit ∷ dyings ∷ dying ∷ number ∷ dying ∷ []) (
    tell NewArray 1 [] ∷ push_dying 1 ++ push_dying 2 ++ push_dying 3 ++ Set (part 2 0) (pos 9) ∷ int 3 1 ∷ Lend 4 (item 1 3) true ∷ Drop (of 4) ∷
    Move (of 4) (of 2) ∷ Close 4
    ∷ Drop (of 3) ∷ Drop (of 1) ∷ leave 0) ∷ prints_k ∷ prints_nought ∷ []) 1 2

-- var a = [[1], [2, 3]]: an array that is deinitialised takes a turn, and each element another
abbrev pub rows_of_numbers : Core
rows_of_numbers = core (main (unit ∷ rows ∷ numbers ∷ number ∷ []) (
    tell NewArray 1 [] ∷ tell NewArray 2 [] ∷ int 3 1 ∷ push 2 3 ∷ push 1 2
    ∷ tell NewArray 2 [] ∷ int 3 2 ∷ push 2 3 ∷ int 3 3 ∷ push 2 3 ∷ push 1 2
    ∷ Drop (of 1) ∷ leave 0) ∷ [])

-- var t = Two(a: D(k: 1), b: D(k: 2)): its own body, then its fields; and the same with a moved away: the body does not run
abbrev pub a_whole : Core
a_whole = dying_core (main (unit ∷ two ∷ dying ∷ []) (
    Set (deep 1 0 0) (pos 1)
    ∷ Set (deep 1 1 0) (pos 2)
    ∷ Drop (of 1) ∷ leave 0) ∷ prints_k ∷ prints_nought ∷ []) 1 2

abbrev pub in_part : Core
in_part = dying_core (main (unit ∷ two ∷ dying ∷ []) (
    Set (deep 1 0 0) (pos 1)
    ∷ Set (deep 1 1 0) (pos 2)
    ∷ Move (of 2) (part 1 0) ∷ Drop (of 1) ∷ Drop (of 2) ∷ Drop (of 2) ∷ leave 0) ∷ prints_k ∷ prints_nought ∷ []) 1 2

-- var t = Tree(kids: [Tree(kids: [Tree(kids: [])]), Tree(kids: [])]); var u = t.copy(); print(u.kids.count)
abbrev pub a_tree : Core
a_tree = core (main (unit ∷ tree ∷ tree ∷ tree ∷ tree ∷ number ∷ []) (
    Built NewArray (Some (part 3 0)) [] [] ∷ Built NewArray (Some (part 4 0)) [] [] ∷ Built Push None (part 4 0 ∷ of 3 ∷ []) []
    ∷ Built NewArray (Some (part 3 0)) [] [] ∷ Built NewArray (Some (part 1 0)) [] [] ∷ Built Push None (part 1 0 ∷ of 4 ∷ []) [] ∷
    Built Push None (part 1 0 ∷ of 3 ∷ []) []
    ∷ Copy (of 2) (of 1) ∷ tell Count 5 (part 2 0 ∷ []) ∷ print (of 5) ∷ Drop (of 5) ∷ Drop (of 2) ∷ Drop (of 1) ∷ leave 0) ∷ [])

-- WHAT IS SET ON ONE WAY ONLY

-- with the body of D's deinitialiser as function 1, and fun consume(_ d: sink D) { print(100) } as function 2
abbrev pub consuming : (consume : List Stmt) → List Stmt → Core
consuming consume body = dying_core (main (unit ∷ dying ∷ number ∷ number ∷ truth ∷ truth ∷ dying ∷ dying ∷ []) body ∷ prints_k
    ∷ fun [] (dying ∷ []) unit (number ∷ dying ∷ unit ∷ []) (int 1 100 ∷ print (of 1) ∷ Drop (of 1) ∷ consume) ∷ prints_nought ∷ []) 1 3

-- read() == 1 in local 4
abbrev pub reads_one : List Stmt
reads_one = compute Read 2 [] ∷ int 3 1 ∷ tell Eq 4 (of 2 ∷ of 3 ∷ []) ∷ Drop (of 3) ∷ Drop (of 2) ∷ []

-- the deinitialisation of local 1, spelt out, as in a checked core
abbrev pub gives_up : (local with : ℕ) → List Stmt
gives_up l with = Lend with (of l) true ∷ Call 1 (with ∷ []) [] (of 0) ∷ Drop (of 0) ∷ Close with ∷ Drop (of l) ∷ []

-- var x = D(k: 5); if read() == 1 { consume(x) }; print(200)
abbrev pub moved_if_one : Core
moved_if_one = consuming (Drop (of 0) ∷ leave 3) (Set (part 1 0) (pos 5) ∷ reads_one
    ++ If 4 (stmts (Drop (of 4) ∷ Call 2 [] (of 1 ∷ []) (of 0) ∷ [])) (stmts (Drop (of 4) ∷ []))
    ∷ int 2 200 ∷ print (of 2) ∷ Drop (of 2) ∷ Drop (of 1) ∷ leave 0)

-- the same, checked: local 5 is true exactly where x is set
abbrev pub moved_if_one_checked : Core
moved_if_one_checked = consuming (Lend 2 (of 0) true ∷ Call 1 (2 ∷ []) [] (of 3) ∷ Close 2 ∷ Drop (of 0) ∷ leave 3)
    (Set (part 1 0) (pos 5) ∷ int 5 1 ∷ reads_one
    ++ If 4 (stmts (Drop (of 4) ∷ Call 2 [] (of 1 ∷ []) (of 0) ∷ Drop (of 0) ∷ int 5 0 ∷ [])) (stmts (Drop (of 4) ∷ []))
    ∷ int 2 200 ∷ print (of 2) ∷ Drop (of 2) ∷ If 5 (stmts (gives_up 1 6)) Done ∷ Drop (of 5) ∷ leave 0)

-- var x: D; if read() == 1 { x = D(k: 1) }; x = D(k: 2); print(x.k)
abbrev pub set_if_one : Core
set_if_one = consuming (Drop (of 0) ∷ leave 3) (reads_one
    ++ If 4 (stmts (Drop (of 4) ∷ Set (part 1 0) (pos 1) ∷ [])) (stmts (Drop (of 4) ∷ []))
    ∷ Drop (of 1) ∷ Set (part 1 0) (pos 2) ∷ print (part 1 0) ∷ Drop (of 1) ∷ leave 0)

abbrev pub set_if_one_checked : Core
set_if_one_checked = consuming (Lend 2 (of 0) true ∷ Call 1 (2 ∷ []) [] (of 3) ∷ Close 2 ∷ Drop (of 0) ∷ leave 3)
    (int 5 0 ∷ reads_one
    ++ If 4 (stmts (Drop (of 4) ∷ Set (part 1 0) (pos 1) ∷ int 5 1 ∷ [])) (stmts (Drop (of 4) ∷ []))
    ∷ If 5 (stmts (gives_up 1 6)) Done ∷ Drop (of 5) ∷ Set (part 1 0) (pos 2) ∷ print (part 1 0) ∷ (gives_up 1 7 ++ leave 0))

-- a run that reads 1 or 0
abbrev pub reading : Stage → Core → (one : Bool) → Run
reading stage core one = record { core = core; stage = stage; cut = false; input = if one then codes "1" ++ 10 ∷ [] else codes "0" ++ 10 ∷ []; turns = 9 }

-- LOOPS, ENDS AND INPUT

-- var i = 0; while i < 10 { print(i); i += 1 }
abbrev pub a_loop : Core
a_loop = core (main (unit ∷ number ∷ number ∷ truth ∷ []) (
    int 1 0 ∷ While (stmts (int 2 10 ∷ tell Lt 3 (of 1 ∷ of 2 ∷ []) ∷ Drop (of 2) ∷ [])) 3 (stmts (Drop (of 3) ∷ print (of 1) ∷ add_to 1 2 1)) ∷
    Drop (of 3) ∷ Drop (of 1) ∷ leave 0) ∷ [])

-- while i < 5 { i += 1; if i == 2 { continue }; if i == 4 { break }; print(i) }
abbrev pub leaves_a_loop : Core
leaves_a_loop = core (main (unit ∷ number ∷ number ∷ truth ∷ []) (
    int 1 0 ∷ While (stmts (int 2 5 ∷ tell Lt 3 (of 1 ∷ of 2 ∷ []) ∷ Drop (of 2) ∷ [])) 3 (stmts (Drop (of 3) ∷ add_to 1 2 1
    ++ int 2 2 ∷ tell Eq 3 (of 1 ∷ of 2 ∷ []) ∷ Drop (of 2) ∷ If 3 (stmts (Drop (of 3) ∷ Continue ∷ [])) Done ∷ Drop (of 3)
    ∷ int 2 4 ∷ tell Eq 3 (of 1 ∷ of 2 ∷ []) ∷ Drop (of 2) ∷ If 3 (stmts (Break ∷ [])) Done ∷ Drop (of 3) ∷ print (of 1) ∷ [])) ∷ Drop (of 3) ∷
    Drop (of 1) ∷ leave 0) ∷ [])

-- var a = [10, 20]; var i = read(); print(a.count); print(a[i])
abbrev pub reads_an_index : Core
reads_an_index = core (main (unit ∷ numbers ∷ number ∷ number ∷ number ∷ []) (
    tell NewArray 1 [] ∷ int 2 10 ∷ push 1 2 ∷ int 2 20 ∷ push 1 2 ∷ compute Read 3 []
    ∷ tell Count 4 (of 1 ∷ []) ∷ print (of 4) ∷ Drop (of 4) ∷ print (item 1 3) ∷ Drop (of 3) ∷ Drop (of 1) ∷ leave 0) ∷ [])

abbrev pub given : (cut : Bool) → List ℕ → Run
given cut input = record { core = reads_an_index; stage = Deinitialises; cut = cut; input = input; turns = 100 }

abbrev pub took : ℕ → Report → Report
took n r = record r { taken = n }

-- var a = [1, 2]; &a.swap_at(0, 1); print(&a.remove_last()); print(a.count); print(&a.remove_last()); and once more
abbrev pub an_array : Core
an_array = core (main (unit ∷ numbers ∷ number ∷ number ∷ []) (
    tell NewArray 1 [] ∷ int 2 1 ∷ push 1 2 ∷ int 2 2 ∷ push 1 2 ∷ int 2 0 ∷ int 3 1 ∷ Built Swap None (of 1 ∷ of 2 ∷ of 3 ∷ []) (0 ∷ 0 ∷ [])
    ∷ compute Pop 2 (of 1 ∷ []) ∷ print (of 2) ∷ tell Count 2 (of 1 ∷ []) ∷ print (of 2) ∷ compute Pop 2 (of 1 ∷ []) ∷ print (of 2) ∷
    compute Pop 2 (of 1 ∷ []) ∷ Drop (of 2) ∷ Drop (of 3) ∷ Drop (of 1) ∷ leave 0) ∷ [])

-- an operation on two numbers, printed
abbrev pub operation : Operator → ℤ → ℤ → Core
operation o a b =
    core (main (unit ∷ number ∷ number ∷ []) (Set (of 1) a ∷ Set (of 2) b ∷ compute o 1 (of 1 ∷ of 2 ∷ []) ∷ print (of 1) ∷ Drop (of 2) ∷ Drop (of 1) ∷
    leave 0) ∷ [])

-- precondition(1 < 1)
abbrev pub precondition : Core
precondition =
    core (main (unit ∷ number ∷ truth ∷ []) (int 1 1 ∷ tell Lt 2 (of 1 ∷ of 1 ∷ []) ∷ Built Print None (of 2 ∷ []) [] ∷
    Built Check None (of 2 ∷ []) (1 ∷ []) ∷ Drop (of 2) ∷ Drop (of 1) ∷ leave 0) ∷ [])

abbrev pub minus : ℕ → ℤ
minus n = neg_ℤ (pos n)

-- the least number
abbrev pub least : ℤ
least = negsuc 9223372036854775807

abbrev pub Gives : Operator → ℤ → ℤ → ℤ → Type 0
Gives o a b n = Shows (checked (operation o a b) 5) 14 (done (n ∷ []) 1 0)

abbrev pub Traps : Operator → ℤ → ℤ → TrapKind → Type 0
Traps o a b kind = Shows (checked (operation o a b) 5) 14 (ended (end.Trap kind trap_span) [] 1 0)

-- WHAT THEY SHOW

pub record LentPlaces : Type 0 where
  pub field : Shows (checked a_field 5) 20 (done (pos 3 ∷ []) 1 1)
  pub element : Shows (checked an_element 5) 30 (ended (end.Trap trap.Index index_span) (pos 9 ∷ []) 1 2)
  pub twice : Shows (checked read_twice 5) 30 (done (pos 8 ∷ []) 2 2)
  pub inout : Shows (checked an_inout 5) 40 (done (pos 12 ∷ []) 3 3)
  pub set : Shows (checked a_set 5) 40 (done (pos 7 ∷ pos 8 ∷ pos 7 ∷ []) 3 2)
  pub copy : Shows (checked a_copy 5) 20 (done (pos 1 ∷ pos 9 ∷ []) 1 0)

pub record Subscripts : Type 0 where
  pub first : Shows (checked first_slides_first 5) 100 (done (pos 1 ∷ pos 2 ∷ pos 101 ∷ pos 102 ∷ pos 11 ∷ pos 22 ∷ []) 3 8)
  pub last : Shows (checked last_slides_first 5) 100 (done (pos 1 ∷ pos 2 ∷ pos 102 ∷ pos 101 ∷ pos 11 ∷ pos 22 ∷ []) 3 8)
  pub at_close : Shows (checked part_at_close 5) 60 (done (pos 26 ∷ pos 260 ∷ []) 2 3)
  pub early_end : Shows (unchecked past_an_end 9) 150 (done (pos 1 ∷ pos 2 ∷ pos 102 ∷ pos 7 ∷ pos 101 ∷ pos 11 ∷ []) 6 9)
  pub trap : Shows (checked trap_in_slide 5) 30 (ended (end.Trap trap.Overflow trap_span) (pos 1 ∷ []) 2 2)
  pub set_variant : Shows (checked a_set_variant 5) 80 (done (minus 1 ∷ pos 7 ∷ []) 4 5)

pub record Deinitialisers : Type 0 where
  pub element : Shows (unchecked an_old_element 20) 80 (done (pos 2 ∷ pos 1 ∷ pos 9 ∷ pos 3 ∷ []) 9 9)
  pub whole : Shows (unchecked a_whole 9) 40 (done (pos 0 ∷ pos 1 ∷ pos 2 ∷ []) 4 3)
  pub in_part : Shows (unchecked in_part 9) 40 (done (pos 2 ∷ pos 1 ∷ []) 3 2)
  pub rows : Shows (unchecked rows_of_numbers 20) 50 (done [] 9 8)
  pub spent : Shows (unchecked rows_of_numbers 5) 50 (ended end.Spent [] 5 4)
  pub tree : Shows (unchecked a_tree 30) 60 (done (pos 2 ∷ []) 22 21)
  pub copy_spent : Shows (unchecked a_tree 4) 60 (ended end.Spent [] 4 3)

pub record OneWay : Type 0 where
  pub moved : Shows (reading Deinitialises moved_if_one true) 60 (took 2 (done (pos 100 ∷ pos 5 ∷ pos 200 ∷ []) 3 1))
  pub moved_not : Shows (reading Deinitialises moved_if_one false) 60 (took 2 (done (pos 200 ∷ pos 5 ∷ []) 2 1))
  pub moved_checked : Shows (reading GivesUp moved_if_one_checked true) 60 (took 2 (done (pos 100 ∷ pos 5 ∷ pos 200 ∷ []) 3 1))
  pub moved_not_checked : Shows (reading GivesUp moved_if_one_checked false) 60 (took 2 (done (pos 200 ∷ pos 5 ∷ []) 2 1))
  pub set : Shows (reading Deinitialises set_if_one true) 60 (took 2 (done (pos 1 ∷ pos 2 ∷ pos 2 ∷ []) 3 2))
  pub set_not : Shows (reading Deinitialises set_if_one false) 60 (took 2 (done (pos 2 ∷ pos 2 ∷ []) 2 1))
  pub set_checked : Shows (reading GivesUp set_if_one_checked true) 60 (took 2 (done (pos 1 ∷ pos 2 ∷ pos 2 ∷ []) 3 2))
  pub set_not_checked : Shows (reading GivesUp set_if_one_checked false) 60 (took 2 (done (pos 2 ∷ pos 2 ∷ []) 2 1))

pub record Loops : Type 0 where
  pub whole : Shows (checked a_loop 11) 150 (done (pos 0 ∷ pos 1 ∷ pos 2 ∷ pos 3 ∷ pos 4 ∷ pos 5 ∷ pos 6 ∷ pos 7 ∷ pos 8 ∷ pos 9 ∷ []) 11 0)
  pub spent : Shows (checked a_loop 10) 150 (ended end.Spent (pos 0 ∷ pos 1 ∷ pos 2 ∷ pos 3 ∷ pos 4 ∷ pos 5 ∷ pos 6 ∷ pos 7 ∷ pos 8 ∷ []) 10 0)
  pub nothing : Shows (checked a_loop 0) 5 (ended end.Spent [] 0 0)
  pub left : Shows (checked leaves_a_loop 9) 120 (done (pos 1 ∷ pos 3 ∷ []) 5 0)

pub record Inputs : Type 0 where
  pub in_range : Shows (given false (codes "1" ++ 10 ∷ [])) 40 (took 2 (done (pos 2 ∷ pos 20 ∷ []) 4 4))
  pub spaces : Shows (given false (codes " 01 " ++ 13 ∷ 10 ∷ codes "5")) 40 (took 6 (done (pos 2 ∷ pos 20 ∷ []) 4 4))
  pub above : Shows (given false (codes "2" ++ 10 ∷ [])) 40 (took 2 (ended (end.Trap trap.Index index_span) (pos 2 ∷ []) 1 0))
  pub below : Shows (given false (codes "-1")) 40 (took 2 (ended (end.Trap trap.Index index_span) (pos 2 ∷ []) 1 0))
  pub empty : Shows (given false []) 40 (ended (end.Trap trap.Input trap_span) [] 1 0)
  pub bad : Shows (given false (codes "x")) 40 (took 1 (ended (end.Trap trap.Input trap_span) [] 1 0))
  pub cut : Shows (given true (codes "1")) 40 (took 1 (ended end.Asks [] 1 0))
  pub cut_empty : Shows (given true []) 40 (ended end.Asks [] 1 0)
  pub cut_behind : Shows (given true (codes "1" ++ 10 ∷ [])) 40 (took 2 (done (pos 2 ∷ pos 20 ∷ []) 4 4))

pub record Operations : Type 0 where
  pub array : Shows (checked an_array 5) 30 (ended (end.Trap trap.Empty trap_span) (pos 1 ∷ pos 1 ∷ pos 2 ∷ []) 1 0)
  pub add : Gives Add (pos 2) (minus 3) (minus 1)
  pub add_overflow : Traps Add (pos 9223372036854775807) (pos 1) trap.Overflow
  pub sub : Gives Sub (minus 9223372036854775807) (pos 1) least
  pub sub_overflow : Traps Sub least (pos 1) trap.Overflow
  pub mul_overflow : Traps Mul (pos 4294967296) (pos 4294967296) trap.Overflow
  pub div : Gives Div (minus 7) (pos 2) (minus 3)
  pub rem : Gives Rem (minus 7) (pos 2) (minus 1)
  pub div_nought : Traps Div (pos 1) (pos 0) trap.Divide
  pub rem_nought : Traps Rem (pos 0) (pos 0) trap.Divide
  pub div_overflow : Traps Div least (minus 1) trap.Overflow
  pub rem_overflow : Traps Rem least (minus 1) trap.Overflow
  pub precondition : Shows (checked precondition 5) 10 (record {
    output = codes "false" ++ 10 ∷ [];
    halt =
        Some (Ends (end.Trap trap.Precondition trap_span));
    taken = 0;
    turns = 1;
    opened = 0;
  })

pub record Examples : Type 0 where
  pub places : LentPlaces
  pub subscripts : Subscripts
  pub deinitialisers : Deinitialisers
  pub one_way : OneWay
  pub loops : Loops
  pub inputs : Inputs
  pub operations : Operations
