-- Lines of input.
use Rattle.std.proofs.Common.{◌≡◌, ◌+◌, not, ℕ, Bool, true, false, List, [], ◌∷◌, ◌++◌, ℤ, Option, Some, None, Result, Ok, Err, refl}
use Rattle.std.proofs.Common.{sym, ap, subst, ◌∙◌}
use Rattle.std.proofs.lemmas.List.{append-nil}
use Rattle.hy_base.specs.declared.run.End.TheVariants as end
use Rattle.hy_base.specs.declared.run.RunCause.TheVariants as cause
use Rattle.hy_base.specs.declared.run.TrapKind.TheVariants as trap
use Rattle.hy_base.specs.declared.streams.Failed.{Failed}
use Rattle.hy_base.specs.Lines.{Fails, Gives, Got, Wants, read_line}
use Rattle.hy_base.specs.Outside.{StillTells}
use Rattle.hy_base.specs.Streams.{Tape}
use Rattle.hy_object.specs.declared.instr.Instr.TheVariants as instr
use Rattle.hy_object.specs.declared.object.Fun.{Fun}
use Rattle.hy_object.specs.declared.object.Object.{Object}
use Rattle.hy_object.specs.declared.stuck.Kind.TheVariants as kind
use Rattle.hy_object.specs.Checks.{Reach as Found, check, ends, is_nameless, next, only, puts, span_of, stuck, to_word, traps}
use Rattle.hy_object.specs.Runs.{after, with_more}
use Rattle.hy_object.specs.States.{Ended, State, Stop, nth}
use Rattle.hy_object.specs.States as machine
use Rattle.hy_object.specs.Steps.{begin, step}
use Rattle.hy_object.specs.Words.{read, reads}
use Rattle.hy_object.proofs.CutOff.{cut_runs_agree}
use Rattle.hy_object.proofs.OneEnd.{steps_add}
use Rattle.hy_runs.specs.Lines.{IsRead, Reader}
use Rattle.hy_runs.specs.Runs.{Appends, Told, told}
use Rattle.hy_store.specs.declared.halt.Halt.{Halt}
use Rattle.hy_store.specs.declared.halt.Halt.TheVariants as halt
use Rattle.hy_store.specs.declared.reach.Reach.{Reach}
use Rattle.hy_store.specs.declared.store.Store.{Store}
use Rattle.hy_store.specs.declared.cell.Cell.TheVariants.{Word}
use Rattle.hy_store.specs.Opened.{abstract_range}
use Rattle.hy_store.specs.Represents.{Ghosts, Reaches, Represents, Stores, represented}
use Rattle.hy_store.proofs.Storing.{writes_word}
use Rattle.hy_checked.specs.declared.machine.Machine.{Machine}
use Rattle.hy_checked.specs.Executes.{GoesOn}
use Rattle.hy_checked.specs.Simulates.{IsAt, Simulates}
use Rattle.hy_runs.specs.Progress.{Comes, ComesToAsk, ComesToEnd}
use Rattle.hy_runs.proofs.Coming.{none_is_left, none_some, not_false, step_is, took_on}
use Rattle.hy_checked.specs.Progress.{RunAdvances, RunReaches}
use Rattle.hy_checked.proofs.Known.{same_fun, represents_fun}
use Rattle.hy_checked.proofs.Lifting.{goes_on}
use Rattle.hy_checked.proofs.Printing.{simulates_outside}

-- THE CHECKS

module _ (object : Object) (m : Machine) (fun : Fun) (to span : ℕ) (reach : Reach) (nameless : Bool)
    (found : (g : Ghosts) (s : State) → Represents g m.store fun s → (go : Found → State) → to_word s to go ≡ go (represented g s reach))
    (tested : (g : Ghosts) (s : State) → Represents g m.store fun s → is_nameless s (abstract_range reach.range) ≡ nameless) where
  passed : (g : Ghosts) (s : State) (holds : Bool) → nameless ≡ holds → Represents g m.store fun s
      → read object s to span ≡ check s kind.Lost holds (reads object s (represented g s reach) span (read_line s.cut s.input))
  passed g s holds is represents =
      found g s represents (λ x. check s kind.Lost (is_nameless s x.range) (reads object s x span (read_line s.cut s.input)))
      ∙ ap (λ (b : Bool). check s kind.Lost b (reads object s (represented g s reach) span (read_line s.cut s.input))) (tested g s represents ∙ is)

  -- no name is lost, and the line is read
  pub reads_line : nameless ≡ true → (g : Ghosts) (s : State) → Represents g m.store fun s
      → read object s to span ≡ reads object s (represented g s reach) span (read_line s.cut s.input)
  reads_line is g s represents = passed g s true is represents

  pub loses_name : nameless ≡ false → (g : Ghosts) (s : State) → Represents g m.store fun s → read object s to span ≡ stuck s kind.Lost
  loses_name is g s represents = passed g s false is represents

-- THE STEP

module _ (object : Object) (m : Machine) (fun : Fun) (to span : ℕ) (reach : Reach) (at : IsAt object m fun (instr.Read to span))
    (ready : (g : Ghosts) (s : State) → Represents g m.store fun s
    → read object s to span ≡ reads object s (represented g s reach) span (read_line s.cut s.input)) where
  reads_so : (s : State) (st : Simulates object m s) → step object s ≡ reads object s (represented st.ghosts s reach) span (read_line s.cut s.input)
  reads_so s st =
      step_is object s fun (Some (instr.Read to span)) st.going (same_fun object m s fun st at.fun_is) (ap (nth fun.code) st.place ∙ at.instr_is)
      ∙ ready st.ghosts s (represents_fun object m s fun st at.fun_is)

  module _ (n : ℕ) (first : Told) (mid new : Option Tape) (out : Option (List ℕ)) (before later : Reader) (result : Result (Option ℤ) Failed)
      (line : IsRead mid new before later result) (w : RunReaches object n first (told mid out) before.ended m) where
    -- the same with these bytes in place of none
    abbrev with_input : (input : List ℕ) (ended : Bool) → State
    with_input input ended = record w.state { input = input; cut = not ended }

    simulates_with : (input : List ℕ) → Simulates object m (with_input input later.ended)
    simulates_with input = simulates_outside object m w.state input (not later.ended) w.state.output w.simulates

    -- the run on the bytes that are taken besides
    more : (had has : Bool) → before.ended ≡ had → later.ended ≡ has
        → after object (w.comes.answered ++ line.taken) (not has) n w.comes.steps ≡ with_input line.taken has
    more false has b a =
        let s : State = w.state in
        let c = w.comes in
        let cut : s.cut ≡ true = w.cut_is ∙ ap not b in
        let is : after object c.answered true n c.steps ≡ s = ap (λ (x : Bool). after object c.answered x n c.steps) (sym cut) ∙ c.is in
        cut_runs_agree object c.answered line.taken (not has) n c.steps
        (λ asks. none_some s.stop (Ended end.Asks) w.simulates.going (sym (ap (λ (t : State). t.stop) is) ∙ asks))
        ∙ ap (λ (t : State). with_more t line.taken (not has)) is
        ∙ ap (λ (xs : List ℕ). record s { input = xs ++ line.taken; cut = not has }) c.all
    more true has b a =
        let s : State = w.state in
        let c = w.comes in
        let past = line.past_end b in
        let none : line.taken ≡ [] = past.0 in
        let cut : not has ≡ s.cut = ap not (sym a ∙ past.1) ∙ sym (w.cut_is ∙ ap not b) in
        ap (λ (xs : List ℕ). after object (c.answered ++ xs) (not has) n c.steps) none
        ∙ ap (λ (xs : List ℕ). after object xs (not has) n c.steps) (append-nil c.answered)
        ∙ ap (λ (x : Bool). after object c.answered x n c.steps) cut
        ∙ c.is
        ∙ ap (λ (xs : List ℕ). record s { input = xs }) (c.all ∙ sym none)
        ∙ ap (λ (x : Bool). record s { input = line.taken; cut = x }) (sym cut)

    -- one step more, in which they are taken
    comes_behind : (t : State)
        → reads object (with_input line.taken later.ended) (represented w.simulates.ghosts (with_input line.taken later.ended) reach) span
        (read_line (not later.ended) line.taken) ≡ t → t.input ≡ [] → t.cut ≡ not later.ended → t.output ≡ w.state.output
        → Comes object n first (told new out) t
    comes_behind t is none cut same =
        let c = w.comes in
        record {
          answered = c.answered ++ line.taken;
          steps = c.steps + 1;
          is = ap (λ (x : Bool). after object (c.answered ++ line.taken) x n (c.steps + 1)) cut
              ∙ steps_add object c.steps 1 (begin object (c.answered ++ line.taken) (not later.ended) n)
              ∙ ap (step object) (more before.ended later.ended refl refl)
              ∙ reads_so (with_input line.taken later.ended) (simulates_with line.taken)
              ∙ is;
          all = none;
          taken = took_on first.input mid new c.answered line.taken c.taken line.told;
          used_up = λ h. none_is_left mid new before later result line before.ended later.ended refl refl (λ b. c.used_up (w.cut_is ∙ ap not b))
              (not_false later.ended (sym cut ∙ h));
          output = subst (λ (o : List ℕ). StillTells first.out out (Appends o)) (sym same) c.output;
        }

    -- the step, by what was read
    as_read : (got : Got) → read_line (not later.ended) line.taken ≡ got
        → reads object (with_input line.taken later.ended) (represented w.simulates.ghosts (with_input line.taken later.ended) reach) span
        (read_line (not later.ended) line.taken) ≡ reads object (with_input line.taken later.ended)
        (represented w.simulates.ghosts (with_input line.taken later.ended) reach) span got
    as_read got h = ap (reads object (with_input line.taken later.ended) (represented w.simulates.ghosts (with_input line.taken later.ended) reach) span) h

    walks_on : (z : ℤ) (store : Store) → read_line (not later.ended) line.taken ≡ Gives z [] → Stores m.store store reach.range (Word z ∷ [])
        → Reaches m.store 1 reach → RunReaches object n first (told new out) later.ended (record m { store = store; place = m.place + 1 })
    walks_on z store got stores reached =
        let t : State = puts (next (with_input [] later.ended)) (abstract_range reach.range) (only (machine.Word z)) in
        let goes : GoesOn object m (record m { store = store; place = m.place + 1 })
        (λ (s : State). puts (next s) (abstract_range reach.range) (only (machine.Word z))) =
        goes_on object m (record m { store = store; place = m.place + 1 }) fun
        (λ (s : State). puts (next s) (abstract_range reach.range) (only (machine.Word z))) at.fun_is
        (writes_word m.store store fun reach.range z (λ (s : State). puts (next s) (abstract_range reach.range) (only (machine.Word z)))
        (λ g s. represented g s reach) stores reached.cells reached.len (λ g s represents. (refl, refl)))
        (record { number = refl; left = refl; acts = refl; running = refl; suspended_ids = refl }) refl in
        record {
          state = t;
          comes = comes_behind t (as_read (Gives z []) got) refl refl refl;
          cut_is = refl;
          simulates = (goes.does (with_input [] later.ended) (simulates_with [])).0;
        }

    comes_to_trap : read_line (not later.ended) line.taken ≡ Fails []
        → ComesToEnd object n first (told new out) (Ended (end.Trap trap.Input (span_of (nth object.spans span)))) m.store.counts
    comes_to_trap got =
        let t : State = traps object (with_input [] later.ended) trap.Input span in
        record { state = t; comes = comes_behind t (as_read (Fails []) got) refl refl refl; stops = refl; counts_are = sym w.simulates.represents.counts }

    comes_to_ask : read_line true line.taken ≡ Wants → later.ended ≡ false → ComesToAsk object n first (told new out) m.store.counts
    comes_to_ask got open_end =
        let t : State = ends (with_input [] later.ended) end.Asks in
        record {
          state = t;
          comes = comes_behind t (as_read Wants (ap (λ (x : Bool). read_line (not x) line.taken) open_end ∙ got)) refl refl refl;
          cut = ap not open_end;
          stops = refl;
          counts_are = sym w.simulates.represents.counts;
        }

  module _ (mid new : Option Tape) (out : Option (List ℕ)) (before later : Reader) where
    pub read_goes_on : (z : ℤ) (store : Store) → IsRead mid new before later (Ok (Some z)) → Stores m.store store reach.range (Word z ∷ [])
        → Reaches m.store 1 reach
        → RunAdvances object m (record m { store = store; place = m.place + 1 }) (told mid out) (told new out) before.ended later.ended (Ok tt)
    read_goes_on z store line stores reached =
        record { does = λ n first w. walks_on n first mid new out before later (Ok (Some z)) line w z store line.number stores reached }

    pub read_traps : (h : Halt) → h ≡ halt.Ended (end.Trap trap.Input (span_of (nth object.spans span))) → IsRead mid new before later (Ok None)
        → RunAdvances object m m (told mid out) (told new out) before.ended later.ended (Err h)
    read_traps h is line = rw is (record { does = λ n first w. (comes_to_trap n first mid new out before later (Ok None) line w line.number, λ e. cc) })

    pub read_asks : (failed : Failed) → IsRead mid new before later (Err failed)
        → RunAdvances object m m (told mid out) (told new out) before.ended later.ended (Err (halt.Cut cause.Input))
    read_asks failed line = record { does = λ n first w. comes_to_ask n first mid new out before later (Err failed) line w line.number.0 line.number.1 }
