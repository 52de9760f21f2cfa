-- What a run has written at some time is a beginning of what it writes in the end.
use Rattle.std.proofs.Common.{◌≡◌, ℕ, zero, suc, ◌+◌, ◌++◌, List, [], length, Option, Some, None, refl, sym, ap, ◌∙◌, subst, append_assoc, arith}
use Rattle.std.specs.Prelude.{take, drop}
use Rattle.std.proofs.Math.Seq.{drop-append_seam, take-append_seam}
use Rattle.std.proofs.lemmas.List.{append-nil, take-append-drop}
use Rattle.hy_object.specs.declared.object.Object.{Object}
use Rattle.hy_object.specs.Changes.{Change}
use Rattle.hy_object.specs.Runs.{Run, WritesBeginnings, seen, next_piece}
use Rattle.hy_object.specs.States.{State, Stop}
use Rattle.hy_object.specs.Steps.{step, steps, step_from, begin}
use Rattle.hy_object.proofs.AddingUp.{Adds, outputs}
use Rattle.hy_object.proofs.Changing.{every_step_changes}
use Rattle.hy_object.proofs.OneEnd.{steps_add, later, some_inj}

step_adds : (object : Object) (s : State) (o : Option Stop) → s.stop ≡ o → Adds s.output (step_from object s o).output
step_adds object s None q = outputs s (step_from object s None) (subst (λ o. Change s (step_from object s o)) q (every_step_changes object s q))
step_adds object s (Some e) q = ([], sym (append-nil s.output))

adds_more : (a b c : List ℕ) → Adds a b → Adds b c → Adds a c
adds_more a b c (p, e) (q, f) = (p ++ q, f ∙ ap (λ list. list ++ q) e ∙ append_assoc a p q)

steps_add_output : (object : Object) (j : ℕ) (s : State) → Adds s.output (steps object j s).output
steps_add_output object zero s = ([], sym (append-nil s.output))
steps_add_output object (suc j) s =
    adds_more s.output (step object s).output (steps object j (step object s)).output (step_adds object s s.stop refl)
    (steps_add_output object j (step object s))

-- a front of a piece is a beginning of what begins with the piece
front_of : (old piece rest all : List ℕ) (front : ℕ) → all ≡ (old ++ piece) ++ rest → (m : ℕ) × (old ++ take front piece ≡ take m all)
front_of old piece rest all front q =
    let begin_of = old ++ take front piece in
    let parts : (old ++ piece) ++ rest ≡ begin_of ++ (drop front piece ++ rest) =
    append_assoc old piece rest
    ∙ ap (λ p. old ++ (p ++ rest)) (sym (take-append-drop front piece))
    ∙ ap (λ list. old ++ list) (append_assoc (take front piece) (drop front piece) rest)
    ∙ sym (append_assoc old (take front piece) (drop front piece ++ rest)) in
    (length begin_of, sym (take-append_seam begin_of (drop front piece ++ rest)) ∙ ap (take (length begin_of)) (sym (q ∙ parts)))

output_of : (input : List ℕ) (s : State) (o : Option Stop) (run : Run) → seen input s o ≡ Some run → s.output ≡ run.output
output_of input s None run q = absurd (cc)
output_of input s (Some e) run q = ap (λ r. r.output) (some_inj _ run q)

pub writes_beginnings : WritesBeginnings
writes_beginnings object input cut n run i front (j, is) =
    let first = begin object input cut n in
    let s = steps object i first in
    let last = later object input first j (i + suc j) run (omega arith) is in
    let end = output_of input (steps object (i + suc j) first) (steps object (i + suc j) first).stop run last in
    let way : steps object (i + suc j) first ≡ steps object j (step object s) = steps_add object i (suc j) first in
    let now = step_adds object s s.stop refl in
    let then = steps_add_output object j (step object s) in
    let piece : next_piece object s ≡ now.0 = ap (drop (length s.output)) now.1 ∙ drop-append_seam s.output now.0 in
    let all : run.output ≡ (s.output ++ now.0) ++ then.0 = sym end ∙ ap (λ t. t.output) way ∙ then.1 ∙ ap (λ list. list ++ then.0) now.1 in
    let begins = front_of s.output now.0 then.0 run.output front all in
    (begins.0, ap (λ p. s.output ++ take front p) piece ∙ begins.1)
