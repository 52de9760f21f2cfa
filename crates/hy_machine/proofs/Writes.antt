-- What a step writes.
use Rattle.std.proofs.Common.{◌≡◌, ℕ, ◌+◌, Bool, true, false, [], ◌++◌, length, Option, Some, None, ℤ, ◌+ℤ◌, slice_get, slice_set, nat_eq, nat_le}
use Rattle.std.proofs.Common.{replicate, if◌then◌else◌, refl, ap, sym, ◌∙◌}
use Rattle.std.proofs.lemmas.List.{append-nil}
use Rattle.hy_base.specs.declared.position.Span.{Span}
use Rattle.hy_base.specs.declared.run.End.TheVariants as end
use Rattle.hy_base.specs.declared.run.TrapKind.TheVariants as trap
use Rattle.hy_object.specs.declared.object.Object.{Object}
use Rattle.hy_object.specs.declared.instr.Place.{Place}
use Rattle.hy_object.specs.declared.instr.Instr.{Instr}
use Rattle.hy_object.specs.declared.instr.Instr.TheVariants as instr
use Rattle.hy_object.specs.declared.stuck.Kind.{Kind}
use Rattle.hy_object.specs.declared.stuck.Kind.TheVariants as kind
use Rattle.hy_object.specs.Checks.{span_of}
use Rattle.hy_object.specs.Words.{line_of}
use Rattle.hy_machine.specs.Machine.{State, Cell, Unset, Word, step, next, fetched, does, check, word_in, reach, all_set, window, with_window, overlap, add}
use Rattle.hy_machine.specs.Machine.{goes_on, ends, fits, code}
use Rattle.hy_machine.specs.Machine as program
use Rattle.hy_machine.specs.Walks.{line_in, printed_by, piece}

-- this state has written what that one has
abbrev Keeps : State → State → Type 0
Keeps s t = t.output ≡ s.output

kept_by_check : (s : State) (why : Kind) (b : Bool) (next : State) → Keeps s next → Keeps s (check s why b next)
kept_by_check s why true next kept = kept
kept_by_check s why false next kept = refl

kept_by_read : (s : State) (o : Option Cell) (go : ℤ → State) → ((n : ℤ) → Keeps s (go n)) → Keeps s (word_in s o go)
kept_by_read s None go kept = refl
kept_by_read s (Some Unset) go kept = refl
kept_by_read s (Some (Word n)) go kept = kept n

kept_by_reach : (s : State) (p : Place) (words : ℕ) (next : State) → Keeps s next → Keeps s (reach s p words next)
kept_by_reach s p words next kept =
    let within = nat_le (p.offset + words) (length s.frame) in
    kept_by_check s kind.Slot (nat_eq p.base 0) (check s kind.Range within next) (kept_by_check s kind.Range within next kept)

kept_by_add : (s : State) (to : ℕ) (span : Span) (n : ℤ) → Keeps s (add s to span n)
kept_by_add s to span n =
    elim (fits n) as (λ b. Keeps s (if b then goes_on s (slice_set s.frame to (Word n)) else ends s (end.Trap trap.Overflow span))) [
      | true ↦ refl
      | false ↦
          refl
    ]

nothing : (s t : State) → Keeps s t → t.output ≡ s.output ++ []
nothing s t kept = kept ∙ sym (append-nil s.output)

does_writes : (object : Object) (s : State) (i : Instr) → (does object s i).output ≡ s.output ++ printed_by s (Some i)
does_writes object s (instr.Const to value) = nothing s (does object s (instr.Const to value)) refl
does_writes object s (instr.Copy to from words) =
    let last = goes_on s (with_window s.frame to.offset (window s.frame from.offset words)) in
    let set = check s kind.Unset (all_set (window s.frame from.offset words)) last in
    nothing s (reach s to words (reach s from words set)) (kept_by_reach s to words (reach s from words set)
    (kept_by_reach s from words set (kept_by_check s kind.Unset (all_set (window s.frame from.offset words)) last refl)))
does_writes object s (instr.Move to from words) =
    let last = goes_on s (with_window (with_window s.frame from.offset (replicate words Unset)) to.offset (window s.frame from.offset words)) in
    let set = check s kind.Unset (all_set (window s.frame from.offset words)) last in
    let apart : Bool = if overlap to.offset from.offset words then false else true in
    let all = check s kind.Range apart set in
    nothing s (reach s to words (reach s from words all)) (kept_by_reach s to words (reach s from words all) (kept_by_reach s from words all
    (kept_by_check s kind.Range apart set (kept_by_check s kind.Unset (all_set (window s.frame from.offset words)) last refl))))
does_writes object s (instr.Add to a b span) =
    let sum = λ (m n : ℤ). add s to (span_of (slice_get object.spans span)) (m +ℤ n) in
    nothing s (does object s (instr.Add to a b span)) (kept_by_read s (slice_get s.frame a) (λ m. word_in s (slice_get s.frame b) (sum m))
    (λ m. kept_by_read s (slice_get s.frame b) (sum m) (λ n. kept_by_add s to (span_of (slice_get object.spans span)) (m +ℤ n))))
does_writes object s (instr.Return word) = nothing s (does object s (instr.Return word)) refl
does_writes object s (instr.Print word shown) = by (slice_get s.frame word)
  where
    by : (o : Option Cell) → (word_in s o (λ n. program.print s (line_of shown n))).output ≡ s.output ++ line_in shown o
    by None = sym (append-nil s.output)
    by (Some Unset) = sym (append-nil s.output)
    by (Some (Word n)) = refl
does_writes object s _ = sym (append-nil s.output)

fetched_writes : (object : Object) (s : State) (o : Option Instr) → (fetched object s o).output ≡ s.output ++ printed_by s o
fetched_writes object s None = sym (append-nil s.output)
fetched_writes object s (Some i) = does_writes object s i

-- a step of a run that goes on writes its piece
pub step_writes : (object : Object) (s : State) → s.stop ≡ None → (step object s).output ≡ s.output ++ piece object s
step_writes object s going = ap (λ o. (next object s o).output) going ∙ fetched_writes object s (slice_get (code object) s.place)
