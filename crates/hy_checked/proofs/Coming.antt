-- A run goes on by a step of the machine.
use Rattle.std.proofs.Common.{◌≡◌, ℕ, Bool, false, take, Some, None, Result, Ok, Err, IsErrAnd, refl, sym, ap}
use Rattle.std.proofs.Common.{subst, ◌∙◌}
use Rattle.hy_base.specs.declared.run.Counts.{Counts}
use Rattle.hy_base.specs.declared.run.End.{End}
use Rattle.hy_base.specs.declared.run.RunCause.{RunCause}
use Rattle.hy_base.specs.declared.run.RunCause.TheVariants as cause
use Rattle.hy_object.specs.declared.instr.Instr.{Instr}
use Rattle.hy_object.specs.declared.object.Fun.{Fun}
use Rattle.hy_object.specs.declared.object.Object.{Object}
use Rattle.hy_object.specs.declared.stuck.Kind.{Kind}
use Rattle.hy_object.specs.declared.stuck.Kind.TheVariants as kind
use Rattle.hy_object.specs.Checks.{ends, stuck}
use Rattle.hy_object.specs.Runs.{next_piece, with_more}
use Rattle.hy_object.specs.States.{State, Stuck, nth}
use Rattle.hy_object.specs.Steps.{does, step}
use Rattle.hy_runs.specs.Runs.{Told, Faults}
use Rattle.hy_store.specs.declared.halt.Halt.{Halt}
use Rattle.hy_store.specs.declared.halt.Halt.TheVariants as halt
use Rattle.hy_checked.specs.declared.machine.Machine.{Machine}
use Rattle.hy_store.specs.Executes.{InPlace, IsCutBy, MayRunOut, MemoryUse}
use Rattle.hy_checked.specs.Executes.{MachineExecutes, RunsOutOnlyBy}
use Rattle.hy_checked.specs.Simulates.{IsAt, Simulates}
use Rattle.hy_runs.specs.Progress.{Comes, ComesToCut, CutsOff}
use Rattle.hy_runs.proofs.Coming.{comes_on, step_is, told_none}
use Rattle.hy_checked.specs.Progress.{HaltsWith, RunAdvances, Then, RunReaches}
use Rattle.hy_checked.proofs.Known.{same_fun}
use Rattle.hy_checked.proofs.Lifting.{told_stuck}

-- the one cause for which an instruction may be cut off that neither prints nor reads
pub is_memory : (memory : MemoryUse) (c : RunCause) → IsCutBy memory c → c ≡ cause.NoMemory
is_memory InPlace c h = absurd h
is_memory MayRunOut c h = h

pub cut_out_of_memory : (object : Object) (n : ℕ) (first next : Told) (m : Machine) (s : State) (counts : Counts) → Comes object n first next s
    → Simulates object m s → counts ≡ m.store.counts → ComesToCut object n first next 0 counts
cut_out_of_memory object n first next m s counts c st same = record {
  state = s;
  out = next.out;
  comes = c;
  going = st.going;
  counts_are = sym st.represents.counts ∙ sym same;
  piece = λ more. told_none next.out (take 0 (next_piece object (with_more s more false))) refl;
}

module _ (object : Object) (old new : Machine) (fun : Fun) (i : Instr)
    (is : nth object.funs old.number ≡ Some fun) (here : nth fun.code old.place ≡ Some i)
  where
    does_it : (s : State) → Simulates object old s → step object s ≡ does object s i
    does_it s st = step_is object s fun (Some i) st.going (same_fun object old s fun st is) (ap (nth fun.code) st.place ∙ here)

    leads_so : (memory : MemoryUse) (n : ℕ) (first now : Told) (ended : Bool) (r : Result (Unit {0}) Halt)
        → MachineExecutes memory object old new r (λ s. does object s i)
        → RunReaches object n first now ended old → Then object n first now ended old new r
    leads_so memory n first now ended (Ok done) a w =
        let d = a.does w.state w.simulates in
        record {
          state = does object w.state i;
          comes = comes_on object n first now w.state (does object w.state i) w.comes (does_it w.state w.simulates) d.1;
          cut_is = d.1.cut ∙ w.cut_is;
          simulates = d.0;
        }
    leads_so memory n first now ended (Err (halt.Stuck why)) a w =
        let s : State = w.state in
        record {
          state = stuck s why;
          comes = comes_on object n first now s (stuck s why) w.comes (does_it s w.simulates
              ∙ a.1 s w.simulates) (record { input = refl; cut = refl; output = refl });
          stops = ap (λ (k : ℕ). Some (Stuck why (record { fun = k; at = s.now.place }))) (w.simulates.number ∙ sym a.0.number)
              ∙ ap (λ (k : ℕ). Some (Stuck why (record { fun = new.number; at = k }))) (w.simulates.place ∙ sym a.0.place);
          counts_are = sym w.simulates.represents.counts ∙ sym a.0.counts;
        }
    leads_so memory n first now ended (Err (halt.Ended e)) a w =
        let s : State = w.state in
        let x = a.0 s w.simulates in (
          record {
            state = ends x.last e;
            comes = comes_on object n first now s (ends x.last e) w.comes (does_it s w.simulates
                ∙ x.is) (record { input = x.outside.input; cut = x.outside.cut; output = x.outside.output });
            stops = refl;
            counts_are = x.counts_are;
          },
          a.1,
        )
    leads_so memory n first now ended (Err (halt.Cut c)) a w =
        subst (CutsOff object n first now new.store.counts) (sym (is_memory memory c a.0))
        (cut_out_of_memory object n first now old w.state new.store.counts w.comes w.simulates a.1)

    pub advances : (memory : MemoryUse) (now : Told) (ended : Bool) (r : Result (Unit {0}) Halt)
        → MachineExecutes memory object old new r (λ s. does object s i)
        → RunAdvances object old new now now ended ended r
    advances memory now ended r a = record { does = λ n first w. leads_so memory n first now ended r a w }

-- a check that becomes a halt
pub is_stuck : (object : Object) (m : Machine) (fun : Fun) (i : Instr) (now : Told) (ended : Bool) (r : Result (Unit {0}) Halt) (why : Kind)
    → IsAt object m fun i → IsErrAnd r (λ h. h ≡ halt.Stuck why) → ((s : State) → Simulates object m s → does object s i ≡ stuck s why)
    → RunAdvances object m m now now ended ended r
is_stuck object m fun i now ended r why at h stops =
    advances object m m fun i at.fun_is at.instr_is InPlace now ended r
    (told_stuck InPlace object m m r why (λ s. does object s i) h (record { number = refl; place = refl; counts = refl }) stops)

-- after the code
pub runs_off : (object : Object) (m : Machine) (fun : Fun) (now : Told) (ended : Bool) → nth object.funs m.number ≡ Some fun
    → nth fun.code m.place ≡ None
    → RunAdvances object m m now now ended ended (Err (halt.Stuck kind.Range))
runs_off object m fun now ended is none = record {
  does = λ n first w.
      let s : State = w.state in
      let so : step object s ≡ stuck s kind.Range =
      step_is object s fun None w.simulates.going (same_fun object m s fun w.simulates is) (ap (nth fun.code) w.simulates.place ∙ none) in
      record {
        state = stuck s kind.Range;
        comes = comes_on object n first now s (stuck s kind.Range) w.comes so (record { input = refl; cut = refl; output = refl });
        stops = ap (λ (k : ℕ). Some (Stuck kind.Range (record { fun = k; at = s.now.place }))) w.simulates.number
            ∙ ap (λ (k : ℕ). Some (Stuck kind.Range (record { fun = m.number; at = k }))) w.simulates.place;
        counts_are = sym w.simulates.represents.counts;
      };
}

-- no fault is counted where no outside was asked
pub no_fault : (memory : MemoryUse) (object : Object) (old new : Machine) (r : Result (Unit {0}) Halt) (step : State → State) (now : Faults)
    → MachineExecutes memory object old new r step → HaltsWith r now now
no_fault memory object old new (Ok done) step now a = (refl, refl)
no_fault memory object old new (Err (halt.Stuck why)) step now a = (refl, refl)
no_fault memory object old new (Err (halt.Ended e)) step now a = (refl, refl)
no_fault memory object old new (Err (halt.Cut c)) step now a = rw (is_memory memory c a.0) (refl, refl)

pub stuck_faults : (r : Result (Unit {0}) Halt) (why : Kind) (now : Faults) → IsErrAnd r (λ h. h ≡ halt.Stuck why) → HaltsWith r now now
stuck_faults (Ok done) why now h = absurd h
stuck_faults (Err x) why now h = rw h (refl, refl)

-- MEMORY

pub may_run_out : (r : Result (Unit {0}) Halt) → RunsOutOnlyBy MayRunOut r
may_run_out (Ok done) = tt
may_run_out (Err (halt.Stuck why)) = tt
may_run_out (Err (halt.Ended e)) = tt
may_run_out (Err (halt.Cut cause.Input)) = tt
may_run_out (Err (halt.Cut cause.Output)) = tt
may_run_out (Err (halt.Cut cause.NoMemory)) = refl

pub runs_out_only_by : (memory : MemoryUse) (object : Object) (old new : Machine) (r : Result (Unit {0}) Halt) (step : State → State)
    → MachineExecutes memory object old new r step → RunsOutOnlyBy memory r
runs_out_only_by memory object old new (Ok done) step a = tt
runs_out_only_by memory object old new (Err (halt.Stuck why)) step a = tt
runs_out_only_by memory object old new (Err (halt.Ended e)) step a = tt
runs_out_only_by memory object old new (Err (halt.Cut cause.Input)) step a = tt
runs_out_only_by memory object old new (Err (halt.Cut cause.Output)) step a = tt
runs_out_only_by memory object old new (Err (halt.Cut cause.NoMemory)) step a = a.0

pub stuck_in_place : (memory : MemoryUse) (r : Result (Unit {0}) Halt) (why : Kind) → IsErrAnd r (λ h. h ≡ halt.Stuck why) → RunsOutOnlyBy memory r
stuck_in_place memory (Ok done) why h = absurd h
stuck_in_place memory (Err x) why h = rw h tt

pub ended_in_place : (memory : MemoryUse) (h : Halt) (e : End) → h ≡ halt.Ended e → RunsOutOnlyBy memory (Err h)
ended_in_place memory h e is = rw is tt
