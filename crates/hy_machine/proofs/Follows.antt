-- The program's instructions follow the machine's.
use Rattle.std.proofs.Common.{◌≡◌, ℕ, ℤ, List, [], length, Option, Result, Ok, Err, slice_get, refl, sym, ◌∙◌, subst}
use Rattle.std.proofs.lemmas.List.{append-nil, with_items_is}
use Rattle.std.specs.Global.{Vec}
use Rattle.std.specs.Vec.{with_items}
use Rattle.hy_base.specs.declared.run.RunCause.{RunCause}
use Rattle.hy_base.specs.declared.run.RunCause.TheVariants as cause
use Rattle.hy_base.specs.Outside.{StillTells}
use Rattle.hy_machine.specs.declared.frame.Halt.{Halt}
use Rattle.hy_machine.specs.declared.frame.Halt.TheVariants as halt
use Rattle.hy_machine.specs.declared.machine.Machine.{Machine}
use Rattle.hy_object.specs.declared.object.Object.{Object}
use Rattle.hy_object.specs.declared.instr.Instr.{Instr}
use Rattle.hy_object.specs.declared.instr.Shown.{Shown}
use Rattle.hy_object.specs.Words.{line_of}
use Rattle.hy_machine.specs.Machine.{Cell}
use Rattle.hy_machine.specs.Frames.{word_of, Takes, IsSilent}
use Rattle.hy_machine.specs.Walks.{standing, Executes, Prints, faults_in}
use Rattle.hy_runs.specs.Lines as lines
use Rattle.hy_runs.specs.Runs.{Appends}
use Rattle.hy_runs.proofs.Tellings.{told_none, some_front, some_line}

-- an instruction that writes nothing changes the frame alone
pub silent_executes : (object : Object) (i : Instr) (m m' : Machine) (told : Option (List ℕ)) (result : Result (Unit {0}) Halt) →
    Takes object i m.frame.items m'.frame.items result → IsSilent result → m'.place ≡ m.place → m'.counts ≡ m.counts → Executes object i m m' told told result
silent_executes object i m m' told (Ok done) takes silent place counts = record {
  bytes = [];
  follows = λ u. takes (standing m u) refl ∙ (rw (append-nil, place, counts) refl);
  told = told_none told;
}
silent_executes object i m m' told (Err (halt.Ended e)) takes silent place counts = record {
  ends = λ u. rw (takes (standing m u) refl) (record { stop = refl; counts = sym counts; input = refl; output = refl });
  told = refl;
  no_asks = silent;
}
silent_executes object i m m' told (Err (halt.Stuck why)) takes silent place counts = (λ u. takes (standing m u) refl, refl)
silent_executes object i m m' told (Err (halt.Cut c)) takes silent place counts = absurd silent

pub silent_faults : (before : ℕ) (result : Result (Unit {0}) Halt) → IsSilent result → before ≡ faults_in before result
silent_faults before (Ok done) silent = refl
silent_faults before (Err (halt.Ended e)) silent = refl
silent_faults before (Err (halt.Stuck why)) silent = refl
silent_faults before (Err (halt.Cut c)) silent = absurd silent

-- the same of a frame that is lent as a slice and comes back
pub lent_takes : (object : Object) (i : Instr) (v : Vec Cell) (was new : List Cell) (result : Result (Unit {0}) Halt) →
    was ≡ v.items → length was ≡ v.len → length new ≡ length was → Takes object i was new result → Takes object i v.items (with_items v new).items result
lent_takes object i v was new result w n l takes s h = rw (with_items_is v new (l ∙ n)) (takes s (h ∙ sym w))

-- a line that did not go out whole
pub cut_print : (frame : List Cell) (word : ℕ) (shown : Shown) (n : ℤ) (old new : Option (List ℕ)) (c : RunCause) → word_of (slice_get frame word) ≡ Ok n →
    lines.Prints shown n old new (Err c) → Prints frame word shown old new (Err (halt.Cut c))
cut_print frame word shown n old new cause.Input is printed = absurd printed
cut_print frame word shown n old new cause.Output is printed = let part = some_front old new (line_of shown n) printed in
    (n, part.0, is, some_line shown n, part.1)
cut_print frame word shown n old new cause.NoMemory is printed =
    (n, 0, is, refl, subst (λ told. StillTells old told (Appends [])) (sym printed) (told_none old))
