-- The lengths of segments.
use Rattle.std.proofs.Common.{◌≡◌, ℕ, zero, suc, ◌+◌, Bool, true, false, List, [], ◌∷◌, ◌++◌, length, Option, Some, None, ℤ, refl, ap, ◌∙◌, arith}
use Rattle.std.proofs.Common.{length-append}
use Rattle.hy_types.specs.declared.kinds.TyId.{TyId}
use Rattle.hy_core.specs.Plain.{Step, Part, Index, Operator, Add, Sub, Mul, Div, Rem, Neg, Convert, Eq, Lt, Le, Not, NewArray, Push, Pop, Swap, Count}
use Rattle.hy_core.specs.Plain.{FreeArray, Print, Read, Check, Stmts, Done, Then, Stmt, Built, Set, Lend, Close, Move, Copy, Drop, Call, Project, Slide}
use Rattle.hy_core.specs.Plain.{Yield, If, While, Break, Continue, Leave}
use Rattle.hy_core.specs.Plain as core
use Rattle.hy_core.specs.Statements.{is_counted}
use Rattle.hy_object.specs.declared.instr.Instr.{Instr}
use Rattle.hy_object.specs.declared.instr.Instr.TheVariants as instr
use Rattle.hy_object.specs.declared.instr.Place.{Place}
use Rattle.hy_object.specs.declared.instr.Way.{Way}
use Rattle.hy_object.specs.declared.instr.Way.TheVariants as way
use Rattle.hy_lower.specs.Arrays.{arrays_in}
use Rattle.hy_lower.specs.declared.body.Home.{Home}
use Rattle.hy_lower.specs.declared.body.Home.TheVariants.{Words, Slot}
use Rattle.hy_lower.specs.declared.body.Line.{Line}
use Rattle.hy_lower.specs.Frames.{Frame, indexes, on_the_way, home_of, slot_of}
use Rattle.hy_lower.specs.Places.{rest, here, place, own, opens, opens_after, closes, at, through, line_for, part_at, part_after, element_at}
use Rattle.hy_lower.specs.Places.{place_size, element_size, type_of, reached}
use Rattle.hy_lower.specs.Segments.{loads, moves, stores, computes, scalar, built, push, pop, swap, count, free_array, new_array, constant}
use Rattle.hy_lower.specs.Segments.{frees, last, lend_to, close_in, read, take, write, test, way_of, first_slot}
use Rattle.hy_lower.specs.Segments.{span_at}
use Rattle.hy_lower.specs.Code.{through_length, loads_length, stores_length, through_some, change_length, give_length, first_length, scalar_length}
use Rattle.hy_lower.specs.Code.{built_length, constant_length, last_length, lend_length, close_length, length_all, length_of, code_all, code_of}

closes_length : (first n : ℕ) → length (closes first n) ≡ n
closes_length first zero = refl
closes_length first (suc n) = ap suc (closes_length first n)

frees_length : (x : Place) (offsets : List ℕ) → length (frees x offsets) ≡ length offsets
frees_length x [] = refl
frees_length x (o ∷ offsets) = ap suc (frees_length x offsets)

-- two and three lists, one after another
two : (xs ys : List Instr) (m n : ℕ) → length xs ≡ m → length ys ≡ n → length (xs ++ ys) ≡ m + n
two xs ys m n e f = length-append xs ys ∙ ap (λ k. k + length ys) e ∙ ap (λ k. m + k) f

module _ (b : Frame) where
  opens_length : (w : Way) (line : Line) (t : Option TyId) (x : Place) (steps : List Step) → length (opens_after b w line t x steps) ≡ indexes steps
  opens_length w line t x [] = refl
  opens_length w line t x (Part i ∷ steps) = opens_length w line (part_at b t i) (part_after b t i x) steps
  opens_length w line t x (Index l s ∷ steps) = ap suc (opens_length w (rest line) (element_at b t) (place (suc (here line)) 0) steps)

  reaches : (w : Way) (line : Line) (p : core.Place) → length (opens b w line p) ≡ indexes p.steps
  reaches w line p = opens_length w line _ _ p.steps

  passes : (w : Way) (p : core.Place) (use' : List Instr) (n : ℕ) → length use' ≡ n → length (through b w p use') ≡ through_length p n
  passes w p use' n e = two (opens b w (line_for b p) p) (use' ++ closes b.slot (indexes p.steps)) (indexes p.steps) (n + indexes p.steps)
      (reaches w (line_for b p) p) (two use' (closes b.slot (indexes p.steps)) n (indexes p.steps) e (closes_length b.slot (indexes p.steps)))

  -- with one instruction and with two
  one_at : (w : Way) (p : core.Place) (i : Instr) → length (through b w p (i ∷ [])) ≡ through_length p 1
  one_at w p i = passes w p (i ∷ []) 1 refl

  two_at : (w : Way) (p : core.Place) (i j : Instr) → length (through b w p (i ∷ j ∷ [])) ≡ through_length p 2
  two_at w p i j = passes w p (i ∷ j ∷ []) 2 refl

  reads_are : (p : core.Place) (w : ℕ) → length (read b p w) ≡ through_length p 1
  reads_are p w = one_at way.Read p (instr.Copy (own w) (at b p) (place_size b p))

  takes_are : (p : core.Place) (w : ℕ) → length (take b p w) ≡ through_length p 1
  takes_are p w = one_at way.Write p (instr.Move (own w) (at b p) (place_size b p))

  writes_are : (p : core.Place) (w : ℕ) → length (write b p w) ≡ through_length p 1
  writes_are p w = one_at way.Write p (instr.Move (at b p) (own w) (place_size b p))

  loads_are : (w : ℕ) (ps : List core.Place) → length (loads b w ps) ≡ loads_length ps
  loads_are w [] = refl
  loads_are w (p ∷ ps) = two (read b p w) (loads b (suc w) ps) (through_length p 1) (loads_length ps) (reads_are p w) (loads_are (suc w) ps)

  moves_are : (w : ℕ) (ps : List core.Place) → length (moves b w ps) ≡ loads_length ps
  moves_are w [] = refl
  moves_are w (p ∷ ps) = two (take b p w) (moves b (w + place_size b p) ps) (through_length p 1) (loads_length ps) (takes_are p w)
      (moves_are (w + place_size b p) ps)

  stores_are : (to : Option core.Place) → length (stores b to) ≡ stores_length to
  stores_are None = refl
  stores_are (Some p) = writes_are p b.scratch

  scalar_is : (o : Operator) (to : Option core.Place) (from : List core.Place) (spans : List ℕ) (n : ℕ) → length (computes b o from spans) ≡ n
      → length (scalar b o to from spans) ≡ scalar_length to from n
  scalar_is o to from spans n e = two (loads b b.scratch from) (computes b o from spans ++ stores b to) (loads_length from) (n + stores_length to)
      (loads_are b.scratch from) (two (computes b o from spans) (stores b to) n (stores_length to) e (stores_are to))

  new_array_is : (to : Option core.Place) → length (new_array b to) ≡ through_some to
  new_array_is None = refl
  new_array_is (Some p) = one_at way.Write p (instr.NewArray (at b p))

  push_is : (from : List core.Place) → length (push b from) ≡ change_length from 2
  push_is [] = refl
  push_is (p ∷ ps) = let grow = instr.Grow (at b p) (element_size b p) in
      let push = instr.Push (at b p) b.scratch (element_size b p) in
      two (moves b b.scratch ps) (through b way.Write p (grow ∷ push ∷ [])) (loads_length ps) (through_length p 2) (moves_are b.scratch ps) (two_at
      way.Write p grow push)

  swap_is : (from : List core.Place) (spans : List ℕ) → length (swap b from spans) ≡ change_length from 1
  swap_is [] spans = refl
  swap_is (p ∷ ps) spans = let i = instr.Swap (at b p) b.scratch (suc b.scratch) (element_size b p) (span_at spans 0) (span_at spans 1) in
      two (loads b b.scratch ps) (through b way.Write p (i ∷ [])) (loads_length ps) (through_length p 1) (loads_are b.scratch ps) (one_at way.Write p i)

  pop_is : (to : Option core.Place) (from : List core.Place) (spans : List ℕ) → length (pop b to from spans) ≡ give_length to from
  pop_is to [] spans = refl
  pop_is to (p ∷ ps) spans = two (through b way.Write p (instr.Pop (at b p) b.scratch (element_size b p) (span_at spans 0) ∷ [])) (stores b to)
      (through_length p 1) (stores_length to) (one_at way.Write p (instr.Pop (at b p) b.scratch (element_size b p) (span_at spans 0))) (stores_are to)

  count_is : (to : Option core.Place) (from : List core.Place) → length (count b to from) ≡ give_length to from
  count_is to [] = refl
  count_is to (p ∷ ps) = two (through b way.Read p (instr.Count b.scratch (at b p) ∷ [])) (stores b to) (through_length p 1) (stores_length to)
      (one_at way.Read p (instr.Count b.scratch (at b p))) (stores_are to)

  free_is : (from : List core.Place) → length (free_array b from) ≡ first_length from
  free_is [] = refl
  free_is (p ∷ ps) = one_at way.Write p (instr.FreeArray (at b p))

  built_is : (o : Operator) (to : Option core.Place) (from : List core.Place) (spans : List ℕ) → length (built b o to from spans) ≡ built_length o to from
  built_is Add to from spans = scalar_is Add to from spans 1 refl
  built_is Sub to from spans = scalar_is Sub to from spans 1 refl
  built_is Mul to from spans = scalar_is Mul to from spans 1 refl
  built_is Div to from spans = scalar_is Div to from spans 1 refl
  built_is Rem to from spans = scalar_is Rem to from spans 1 refl
  built_is Neg to from spans = scalar_is Neg to from spans 1 refl
  built_is (Convert t) to from spans = scalar_is (Convert t) to from spans 2 refl
  built_is Eq to from spans = scalar_is Eq to from spans 1 refl
  built_is Lt to from spans = scalar_is Lt to from spans 1 refl
  built_is Le to from spans = scalar_is Le to from spans 1 refl
  built_is Not to from spans = scalar_is Not to from spans 1 refl
  built_is NewArray to from spans = new_array_is to
  built_is Push to from spans = push_is from
  built_is Pop to from spans = pop_is to from spans
  built_is Swap to from spans = swap_is from spans
  built_is Count to from spans = count_is to from
  built_is FreeArray to from spans = free_is from
  built_is Print to from spans = scalar_is Print to from spans 1 refl
  built_is Read to from spans = scalar_is Read to from spans 1 refl
  built_is Check to from spans = scalar_is Check to from spans 1 refl

  constant_is : (words : ℕ) (n : ℤ) → length (constant b words n) ≡ constant_length words
  constant_is zero n = refl
  constant_is (suc words) n = refl

  last_is : (counted : Bool) (slot : ℕ) (x : Place) (words : ℕ) (w : Way) → length (last counted slot x words w) ≡ last_length counted
  last_is true slot x words w = refl
  last_is false slot x words w = refl

  lend_is : (h : Home) (p : core.Place) (w : Way) → length (lend_to b h p w) ≡ lend_length h p
  lend_is (Words n) p w = refl
  lend_is (Slot slot first inner) p w =
      let line : Line = record { next = first; left = on_the_way p.steps; last = slot } in
      two (opens b w line p) (last (is_counted p.steps) slot (reached b line p) (place_size b p) w) (indexes p.steps) (last_length (is_counted p.steps))
      (reaches w line p) (last_is (is_counted p.steps) slot (reached b line p) (place_size b p) w)

  close_is : (h : Home) → length (close_in b h) ≡ close_length h
  close_is (Words n) = refl
  close_is (Slot slot first inner) = let e = closes_length first inner in omega arith

  mutual
    pub all_are : (pc after again : ℕ) (ss : Stmts) → length (code_all b pc after again ss) ≡ length_all b ss
    all_are pc after again Done = refl
    all_are pc after again (Then s ss) = two (code_of b pc after again s) (code_all b (pc + length_of b s) after again ss) (length_of b s) (length_all b ss)
        (one_is pc after again s) (all_are (pc + length_of b s) after again ss)

    pub one_is : (pc after again : ℕ) (s : Stmt) → length (code_of b pc after again s) ≡ length_of b s
    one_is pc after again (Built o to from spans) = built_is o to from spans
    one_is pc after again (Set to n) = two (constant b (place_size b to) n) (write b to b.scratch) (constant_length (place_size b to)) (through_length to 1)
        (constant_is (place_size b to) n) (writes_are to b.scratch)
    one_is pc after again (Lend to p w) = lend_is (home_of b to) p (way_of w)
    one_is pc after again (Close l) = close_is (home_of b l)
    one_is pc after again (Move to from) = two (take b from b.scratch) (write b to b.scratch) (through_length from 1) (through_length to 1)
        (takes_are from b.scratch) (writes_are to b.scratch)
    one_is pc after again (Copy to from) = two (read b from b.scratch) (write b to b.scratch) (through_length from 1) (through_length to 1)
        (reads_are from b.scratch) (writes_are to b.scratch)
    one_is pc after again (Drop p) = passes way.Write p (frees (at b p) (arrays_in b.types b.sizes (type_of b p))) (length (arrays_in b.types b.sizes
        (type_of b p)))
        (frees_length (at b p) (arrays_in b.types b.sizes (type_of b p)))
    one_is pc after again (Call n lent owned to) =
        let m = moves_are b.scratch owned in
        let w = writes_are to b.scratch in
        let a = length-append (moves b b.scratch owned) (instr.Call n (first_slot b lent) b.scratch ∷ write b to b.scratch) in
        omega arith
    one_is pc after again (Project n lent owned to) = let i = instr.Project n (first_slot b lent) b.scratch (slot_of b to) in
        two (moves b b.scratch owned) (i ∷ []) (loads_length owned) 1 (moves_are b.scratch owned) refl
    one_is pc after again (Slide l) = refl
    one_is pc after again (Yield l) = refl
    one_is pc after again (If on x y) =
        let first = length_all b x in
        let xs = code_all b (pc + 2) after again x in
        let ys = code_all b (pc + 2 + first + 1) after again y in
        let jump = instr.Jump (pc + 2 + first + 1 + length_all b y) in
        let e : length xs ≡ first = all_are (pc + 2) after again x in
        let f : length ys ≡ length_all b y = all_are (pc + 2 + first + 1) after again y in
        let a = length-append xs (jump ∷ ys) in
        omega arith
    one_is pc after again (While head on body) =
        let first = pc + 1 + length_all b body in
        let xs = code_all b (pc + 1) (first + length_all b head + 2) first body in
        let ys = code_all b first after again head in
        let tests = test b on ++ instr.JumpIf b.scratch (pc + 1) ∷ [] in
        let e : length xs ≡ length_all b body = all_are (pc + 1) (first + length_all b head + 2) first body in
        let f : length ys ≡ length_all b head = all_are first after again head in
        let a = length-append xs (ys ++ tests) in
        let c = length-append ys tests in
        omega arith
    one_is pc after again Break = refl
    one_is pc after again Continue = refl
    one_is pc after again (Leave from) = two (take b from b.scratch) (instr.Return b.scratch ∷ []) (through_length from 1) 1 (takes_are from b.scratch) refl
