-- Every run ends: each step takes a turn, or leaves less code in all activations together.
use Rattle.std.proofs.Common.{◌≡◌, ℕ, zero, suc, ◌+◌, ◌-◌, ◌<◌, ◌≤◌, Bool, true, false, cond, ◌==◌, List, [], ◌∷◌, length, Option, Some, None, refl, sym}
use Rattle.std.proofs.Common.{ap, arith}
use Rattle.hy_object.specs.declared.instr.Instr.{Instr}
use Rattle.hy_object.specs.declared.object.Object.{Object}
use Rattle.hy_object.specs.declared.stuck.Kind.TheVariants as kind
use Rattle.hy_base.specs.declared.run.End.TheVariants as end
use Rattle.hy_object.specs.States.{Activation, State, Stop, Ended, Stuck, Cells, nth}
use Rattle.hy_object.specs.Controls as k
use Rattle.hy_object.specs.Controls.{Taken, taken}
use Rattle.hy_object.specs.Steps.{does, does_some, step, step_from, steps, begin}
use Rattle.hy_object.specs.Runs.{Run, EveryRunEnds, seen}
use Rattle.hy_object.specs.Changes.{Change, Sticks, Traps, Spends, Asks, Stores, Prints, Lends, Closes, Takes, Frees, Moves, Jumps, Repeats, Starts}
use Rattle.hy_object.specs.Changes.{Returns, Yields, Slides}
use Rattle.hy_object.proofs.Changing.{changes_by}

-- THE MEASURE

-- how much code an activation has left
abbrev rest_of : Activation → ℕ
rest_of a = length a.fun.code - a.place

abbrev rests_of : List Activation → ℕ
rests_of [] = 0
rests_of (a ∷ rest) = rest_of a + rests_of rest

abbrev total : State → ℕ
total s = rest_of s.now + (rests_of s.callers + rests_of s.suspended)

data Falls (t u : ℕ) (s : State) : Type 0 where
  stops : (e : Stop) → s.stop ≡ Some e → Falls t u s
  takes : s.left < t → Falls t u s
  less : s.left ≡ t → total s < u → Falls t u s

beside_total : (a : Activation) (o : Option Taken) (n : ℕ) → ((x : Taken) → o ≡ Some x → rest_of x.found + rests_of x.others ≡ n) →
    (x : Taken) → k.beside a o ≡ Some x → rest_of x.found + rests_of x.others ≡ rest_of a + n
beside_total a None n h x q = absurd (cc)
beside_total a (Some y) n h x q =
    let is : record { found = y.found; others = a ∷ y.others } ≡ x = cc in
    let sum = h y refl in
    rw (sym is) (omega (arith, sum))

taken_from : (frame : ℕ) (a : Activation) (rest : List Activation) (b : Bool) →
    ((x : Taken) → taken frame rest ≡ Some x → rest_of x.found + rests_of x.others ≡ rests_of rest) →
    (x : Taken) → cond b (Some (record { found = a; others = rest })) (k.beside a (taken frame rest)) ≡ Some x
    → rest_of x.found + rests_of x.others ≡ rest_of a + rests_of rest
taken_from frame a rest true h x q = let is : record { found = a; others = rest } ≡ x = cc in rw (sym is) refl
taken_from frame a rest false h x q = beside_total a (taken frame rest) (rests_of rest) h x q

taken_total : (frame : ℕ) (list : List Activation) (x : Taken) → taken frame list ≡ Some x → rest_of x.found + rests_of x.others ≡ rests_of list
taken_total frame [] x q = absurd (cc)
taken_total frame (a ∷ rest) x q = taken_from frame a rest (a.frame == frame) (taken_total frame rest) x q

-- ONE STEP

returns_less : (t u : ℕ) (s : State) (cells : ℕ → Cells) (callers : List Activation) → s.left ≡ t → rests_of callers + rests_of s.suspended < u →
    Falls t u (k.goes_back (k.frees_frame (record s { cells = cells })) callers)
returns_less t u s cells [] same bound = stops (Ended end.Done) refl
returns_less t u s cells (caller ∷ callers) same bound = less same (omega (arith, bound))

-- a step of a state whose running activation has code left
falls : (t u : ℕ) (s r : State) → s.left ≡ t → s.now.place < length s.now.fun.code → total s ≤ u → Change s r → Falls t u r
falls t u s r same more bound (Sticks why) = stops (Stuck why (record { fun = s.now.number; at = s.now.place })) refl
falls t u s r same more bound (Traps why span bytes rest q) = stops (Ended (end.Trap why span)) refl
falls t u s r same more bound (Spends q) = stops (Ended end.Spent) refl
falls t u s r same more bound (Asks q) = stops (Ended end.Asks) refl
falls t u s r same more bound (Stores cells bytes rest q) = less same (omega (arith, more, bound))
falls t u s r same more bound (Prints piece) = less same (omega (arith, more, bound))
falls t u s r same more bound (Lends slot x header way) = less same (omega (arith, more, bound))
falls t u s r same more bound (Closes slot this) = less same (omega (arith, more, bound))
falls t u s r same more bound (Takes words cells) = less same (omega (arith, more, bound))
falls t u s r same more bound (Frees block cells) = less same (omega (arith, more, bound))
falls t u s r same more bound (Moves words block cells) = less same (omega (arith, more, bound))
falls t u s r same more bound (Jumps target l) = less same (omega (arith, l, more, bound))
falls t u s r same more bound (Repeats left target q) = takes (omega (arith, q, same))
falls t u s r same more bound (Starts left q number fun slot range role) = takes (omega (arith, q, same))
falls t u s r same more bound (Returns cells) = returns_less t u s cells s.callers same (omega (arith, more, bound))
falls t u s r same more bound (Yields access slot caller callers role q) =
    less same (let sum : rests_of s.callers ≡ rest_of caller + rests_of callers = ap rests_of q in omega (arith, sum, more, bound))
falls t u s r same more bound (Slides slot frame x q) = less same (let sum = taken_total frame s.suspended x q in omega (arith, sum, more, bound))

nth_more : {A : Type 0} (xs : List A) (i : ℕ) (x : A) → nth xs i ≡ Some x → i < length xs
nth_more [] i x q = absurd (cc)
nth_more (y ∷ xs) zero x q = omega arith
nth_more (y ∷ xs) (suc i) x q = let l = nth_more xs i x q in omega (arith, l)

falls_at : (object : Object) (t u : ℕ) (s : State) → s.left ≡ t → total s ≤ u → (o : Option Instr) → nth s.now.fun.code s.now.place ≡ o
    → Falls t u (does_some object s o)
falls_at object t u s same bound None q = stops (Stuck kind.Range (record { fun = s.now.number; at = s.now.place })) refl
falls_at object t u s same bound (Some i) q = falls t u s (does object s i) same (nth_more s.now.fun.code s.now.place i q) bound (changes_by object s i)

falls_by_step : (object : Object) (t u : ℕ) (s : State) (o : Option Stop) → s.stop ≡ o → s.left ≡ t → total s ≤ u → Falls t u (step_from object s o)
falls_by_step object t u s None q same bound = falls_at object t u s same bound (nth s.now.fun.code s.now.place) refl
falls_by_step object t u s (Some e) q same bound = stops e q

-- ALL STEPS

abbrev Ends : Object → State → Type 0
Ends object s = (n : ℕ) × (e : Stop) × ((steps object n s).stop ≡ Some e)

ends_by : (object : Object) (t u : ℕ) (s : State) → ((r : State) → r.left < t → Ends object r) → ((r : State) → r.left ≡ t → total r < u → Ends object r)
    → Falls t u (step object s) → Ends object s
ends_by object t u s up down (stops e q) = (1, e, q)
ends_by object t u s up down (takes q) = let r = up (step object s) q in (suc r.0, r.1, r.2)
ends_by object t u s up down (less q l) = let r = down (step object s) q l in (suc r.0, r.1, r.2)

ends_go : (object : Object) (t : ℕ) → ((s : State) → s.left < t → Ends object s) → (u : ℕ) (s : State) → s.left ≡ t → total s ≤ u → Ends object s
ends_go object t up zero s same bound = ends_by object t zero s up (λ r q l. absurd (omega (arith, l))) (falls_by_step object t zero s s.stop refl same bound)
ends_go object t up (suc u) s same bound =
    ends_by object t (suc u) s up (λ r q l. ends_go object t up u r q (omega (arith, l))) (falls_by_step object t (suc u) s s.stop refl same bound)

ends_below : (object : Object) (t : ℕ) (s : State) → s.left < t → Ends object s
ends_below object zero s l = absurd (omega (arith, l))
ends_below object (suc t) s l = ends_go object s.left (λ r q. ends_below object t r (omega (arith, q, l))) (total s) s refl (omega arith)

seen_at : (input : List ℕ) (s : State) (o : Option Stop) (e : Stop) → o ≡ Some e → (run : Run) × (seen input s o ≡ Some run)
seen_at input s None e q = absurd (cc)
seen_at input s (Some f) e q = (_, refl)

pub every_run_ends : EveryRunEnds
every_run_ends object input cut n =
    let s = begin object input cut n in
    let r = ends_below object (suc s.left) s (omega arith) in
    let is = seen_at input (steps object r.0 s) (steps object r.0 s).stop r.1 r.2 in
    (is.0, (r.0, is.1))
