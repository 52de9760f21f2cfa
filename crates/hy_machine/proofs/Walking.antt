-- A run of the program walks along the machine's steps.
use Rattle.std.proofs.Common.{◌≡◌, ◌<◌, ◌≤◌, ℕ, ◌+◌, ◌++◌, List, [], length, take, Option, Some, None, Err, slice_get, get_or, refl, ap, sym, ◌∙◌, subst}
use Rattle.std.proofs.lemmas.List.{append-nil, append_assoc}
use Rattle.std.proofs.lemmas.Option.{slice_get-get_or, slice_get_past}
use Rattle.hy_base.specs.Outside.{StillTells}
use Rattle.hy_machine.specs.declared.frame.Halt.{Halt}
use Rattle.hy_machine.specs.declared.frame.Halt.TheVariants as halt
use Rattle.hy_machine.specs.declared.machine.Machine.{Machine}
use Rattle.hy_object.specs.declared.object.Object.{Object}
use Rattle.hy_object.specs.declared.instr.Instr.{Instr}
use Rattle.hy_object.specs.declared.stuck.Kind.TheVariants as kind
use Rattle.hy_object.specs.States.{Stuck}
use Rattle.hy_machine.specs.Machine.{State, code, does, fetched, step, steps}
use Rattle.hy_runs.specs.Runs.{Appends}
use Rattle.hy_runs.proofs.Tellings.{told_none, told_more}
use Rattle.hy_machine.specs.Walks.{IsPart, printed_by, piece, Unkept, standing, written, advanced, GoesOn, EndsRun, IsCut, IsEndAt, Executes, Walked}
use Rattle.hy_machine.specs.Walks.{ComesToEnd}
use Rattle.hy_machine.specs.Walks.{ComesToStop, ComesToCut, Leads}
use Rattle.hy_machine.proofs.Ends.{steps_add}

-- the instruction at a place of the code
pub at_place : (object : Object) (instrs : List Instr) (place : ℕ) (d : Instr) → instrs ≡ code object → place < length instrs
    → slice_get (code object) place ≡ Some (get_or instrs place d)
at_place object instrs place d e h = ap (λ xs. slice_get xs place) (sym e) ∙ slice_get-get_or instrs place d h

fetched_at : (object : Object) (s : State) (o : Option Instr) (i : Instr) → o ≡ Some i → fetched object s o ≡ does object s i
fetched_at object s o i h = rw h refl

fetched_past : (object : Object) (s : State) (o : Option Instr) → o ≡ None
    → (fetched object s o).stop ≡ Some (Stuck kind.Range (record { fun = 0; at = s.place }))
fetched_past object s o h = rw h refl

pub walked_none : (object : Object) (m : Machine) (told : Option (List ℕ)) → Walked object m m told told
walked_none object m told = record {
  count = 0;
  bytes = [];
  path = λ u. rw append-nil refl;
  told = told_none told;
}

-- one step more than the walk so far
one_step : (object : Object) (m₀ m : Machine) (count : ℕ) (bytes : List ℕ) (i : Instr) (u : Unkept)
    → steps object count (standing m₀ u) ≡ standing m (written u bytes) →
    slice_get (code object) m.place ≡ Some i → steps object (count + 1) (standing m₀ u) ≡ does object (standing m (written u bytes)) i
one_step object m₀ m count bytes i u path h = steps_add object count 1 (standing m₀ u) ∙ ap (step object) path
    ∙ fetched_at object (standing m (written u bytes)) (slice_get (code object) m.place) i h

pub walked_more : (object : Object) (m₀ m m' : Machine) (old mid new : Option (List ℕ)) (i : Instr) → Walked object m₀ m old mid
    → slice_get (code object) m.place ≡ Some i →
    GoesOn object i m m' mid new → Walked object m₀ (advanced m') old new
walked_more object m₀ m m' old mid new i w h g = record {
  count = w.count + 1;
  bytes = w.bytes ++ g.bytes;
  path = λ u. one_step object m₀ m w.count w.bytes i u (w.path u) h ∙ g.follows (written u w.bytes) ∙ (rw append_assoc refl);
  told = told_more old mid new w.bytes g.bytes w.told g.told;
}

ends : (object : Object) (m₀ m m' : Machine) (old mid new : Option (List ℕ)) (i : Instr) (e : _) → Walked object m₀ m old mid
    → slice_get (code object) m.place ≡ Some i →
    EndsRun object i m m' mid new e → ComesToEnd object m₀ m' old new e
ends object m₀ m m' old mid new i e w h x = record {
  count = w.count + 1;
  bytes = w.bytes;
  ends = λ u. subst (λ s. IsEndAt s e m'.counts (written u w.bytes))
      (sym (one_step object m₀ m w.count w.bytes i u (w.path u) h)) (x.ends (written u w.bytes));
  told = subst (λ told. StillTells old told (Appends w.bytes)) (sym x.told) w.told;
  no_asks = x.no_asks;
}

is_cut : (object : Object) (m₀ m m' : Machine) (old mid new : Option (List ℕ)) (i : Instr) (c : _) → Walked object m₀ m old mid
    → slice_get (code object) m.place ≡ Some i →
    IsCut i m m' mid new c → ComesToCut object m₀ m' old new c
is_cut object m₀ m m' old mid new i c w h x =
    subst (λ n. ComesToCut object m₀ n old new c) (sym x.same) (record {
      count = w.count;
      bytes = w.bytes;
      front = x.front;
      short = λ u. subst (λ o. IsPart c (printed_by (standing m u) o) x.front) (sym h) (x.short u);
      path = w.path;
      told = λ u. told_more old mid new w.bytes (take x.front (piece object (standing m u))) w.told
          (subst (λ o. StillTells mid new (Appends (take x.front (printed_by (standing m u) o)))) (sym h) (x.told u));
    })

-- the last instruction
pub halts : (object : Object) (m₀ m m' : Machine) (old mid new : Option (List ℕ)) (i : Instr) (h : Halt) → Walked object m₀ m old mid
    → slice_get (code object) m.place ≡ Some i →
    Executes object i m m' mid new (Err h) → Leads object m₀ m' old new h
halts object m₀ m m' old mid new i (halt.Ended e) w h x = ends object m₀ m m' old mid new i e w h x
halts object m₀ m m' old mid new i (halt.Stuck why) w h x = record {
  count = w.count + 1;
  at = record { fun = 0; at = m.place };
  stops = λ u. ap (λ s. s.stop) (one_step object m₀ m w.count w.bytes i u (w.path u) h ∙ x.0 (written u w.bytes));
}
halts object m₀ m m' old mid new i (halt.Cut c) w h x = is_cut object m₀ m m' old mid new i c w h x

-- after the last instruction
pub runs_off : (object : Object) (m₀ m : Machine) (old mid : Option (List ℕ)) (instrs : List Instr) → Walked object m₀ m old mid → instrs ≡ code object
    → length instrs ≤ m.place →
    ComesToStop object m₀ kind.Range
runs_off object m₀ m old mid instrs w e h = record {
  count = w.count + 1;
  at = record { fun = 0; at = m.place };
  stops = λ u. ap (λ s. s.stop) (steps_add object w.count 1 (standing m₀ u) ∙ ap (step object) (w.path u))
      ∙ fetched_past object (standing m (written u w.bytes)) (slice_get (code object) m.place) (ap (λ xs. slice_get xs m.place) (sym e)
      ∙ slice_get_past instrs m.place h);
}
