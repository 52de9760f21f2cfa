-- What an instruction does to the store alone, the machine does.
use Rattle.std.proofs.Common.{◌≡◌, ◌+◌, ℕ, suc, List, [], ◌∷◌, length, Some, Result, Ok, Err, IsErrAnd, refl, sym, ap, subst, ◌∙◌}
use Rattle.std.proofs.Common.{arith}
use Rattle.hy_base.specs.declared.run.RunCause.TheVariants as cause
use Rattle.hy_frames.specs.declared.id.ActId.{ActId}
use Rattle.hy_frames.specs.Activations as acts
use Rattle.hy_object.specs.declared.instr.Instr.{Instr}
use Rattle.hy_object.specs.declared.object.Fun.{Fun}
use Rattle.hy_object.specs.declared.object.Object.{Object}
use Rattle.hy_object.specs.declared.stuck.Kind.{Kind}
use Rattle.hy_object.specs.Checks.{stuck}
use Rattle.hy_object.specs.Controls.{at_next}
use Rattle.hy_object.specs.States.{Activation, State, nth}
use Rattle.hy_object.specs.Steps.{does}
use Rattle.hy_store.specs.declared.halt.Halt.{Halt}
use Rattle.hy_store.specs.declared.halt.Halt.TheVariants as halt
use Rattle.hy_store.specs.declared.store.Store.{Store}
use Rattle.hy_store.specs.Executes.{Forward, Goes, MayRunOut, MemoryUse, StoreExecutes}
use Rattle.hy_store.specs.Represents.{Ghosts, Represents}
use Rattle.hy_checked.specs.declared.machine.Machine.{Machine}
use Rattle.hy_checked.specs.Instructions.{memory_of}
use Rattle.hy_checked.specs.Executes.{MachineExecutes, EndsRun, GoesOn, IsUnmoved}
use Rattle.hy_runs.specs.Progress.{KeepsOutside}
use Rattle.hy_checked.specs.Simulates.{AreCallers, AreHanded, AreSuspended, AreSliding, IsRunningAs, Simulates}
use Rattle.hy_checked.proofs.Known.{same_fun, represents_fun}

-- all activations but the running one are kept as they were, and no turn is taken
pub record SameOthers (m new : Machine) : Type 0 where
  pub number : new.number ≡ m.number
  pub left : new.left ≡ m.left
  pub acts : new.acts ≡ m.acts
  pub running : new.running ≡ m.running
  pub suspended_ids : new.suspended_ids ≡ m.suspended_ids

-- only the place of one that hands out counts nothing
pub handed_at_next : (a : Activation) (place : ℕ) (callers : List Activation) → AreHanded a callers → AreHanded (record a { place = place }) callers
handed_at_next a place [] h = tt
handed_at_next a place (c ∷ rest) h = h

pub simulates_next : (object : Object) (m new : Machine) (g : Ghosts) (s t : State) → Simulates object m s → Represents g new.store s.now.fun t
    → Forward s t → SameOthers m new → new.place ≡ m.place + 1 → Simulates object new t
simulates_next object m new g s t st represents f same place = record {
  ghosts = g;
  represents = subst (λ (fun : Fun). Represents g new.store fun t) (sym (ap (λ (a : Activation). a.fun) f.now)) represents;
  fun = subst (λ (a : Activation). nth object.funs a.number ≡ Some a.fun) (sym f.now) st.fun;
  number = ap (λ (a : Activation). a.number) f.now ∙ st.number ∙ sym same.number;
  place = ap (λ (a : Activation). a.place) f.now ∙ (let e : suc s.now.place ≡ new.place = omega (arith, st.place, place) in e);
  left = f.left ∙ st.left ∙ sym same.left;
  turns = omega (arith, f.left, f.turns, st.turns);
  going = f.stop ∙ st.going;
  caller = st.caller;
  running = subst (λ (live : List acts.Activation). IsRunningAs live new.running st.caller t.now) (sym same.acts)
      (subst (λ (act : ActId). IsRunningAs m.acts act st.caller t.now) (sym same.running)
      (subst (IsRunningAs m.acts m.running st.caller) (sym f.now) goes_at_next));
  callers = subst (AreCallers object new.acts st.caller) (sym f.callers)
      (subst (λ (live : List acts.Activation). AreCallers object live st.caller s.callers) (sym same.acts) st.callers);
  suspended = subst (AreSuspended object new.acts new.suspended_ids.items) (sym f.suspended)
      (subst (λ (rows : List ActId). AreSuspended object new.acts rows s.suspended) (sym (ap (λ (v : _). v.items) same.suspended_ids))
      (subst (λ (live : List acts.Activation). AreSuspended object live m.suspended_ids.items s.suspended) (sym same.acts) st.suspended));
  all =
      let live : length new.acts ≡ length m.acts = ap (λ (xs : List acts.Activation). length xs) same.acts in
      let waiting : length t.callers ≡ length s.callers = ap (λ (xs : List Activation). length xs) f.callers in
      let resting : length t.suspended ≡ length s.suspended = ap (λ (xs : List Activation). length xs) f.suspended in
      omega (arith, live, waiting, resting, st.all);
  handed = subst (λ (a : Activation). AreHanded a t.callers) (sym f.now)
      (subst (AreHanded (at_next s.now)) (sym f.callers) (handed_at_next s.now (suc s.now.place) s.callers st.handed));
  sliding = subst AreSliding (sym f.suspended) st.sliding;
}
  where
    goes_at_next : IsRunningAs m.acts m.running st.caller (at_next s.now)
    goes_at_next = let r = st.running in record { one = r.one; is = r.is; standing_is = r.standing_is; number = r.number; frame = r.frame }

pub goes_on : (object : Object) (m new : Machine) (fun : Fun) (step : State → State) → nth object.funs m.number ≡ Some fun
    → Goes fun m.store new.store step
    → SameOthers m new → new.place ≡ m.place + 1 → GoesOn object m new step
goes_on object m new fun step is goes same place = record {
  does = λ s st.
      let d = goes.does st.ghosts s (represents_fun object m s fun st is) in
      let f : Forward s (step s) = d.2 in
      let represents : Represents d.0 new.store s.now.fun (step s) =
      subst (λ (a : Fun). Represents d.0 new.store a (step s)) (sym (same_fun object m s fun st is)) d.1 in
      (simulates_next object m new d.0 s (step s) st represents f same place, record { input = f.input; cut = f.cut; output = f.output });
}

pub halts : (memory : MemoryUse) (object : Object) (m new : Machine) (fun : Fun) (store : Store) (h : Halt) (step : State → State)
    → nth object.funs m.number ≡ Some fun
    → StoreExecutes memory fun m.store store (Err h) step → IsUnmoved m new → MachineExecutes memory object m new (Err h) step
halts memory object m new fun store (halt.Stuck why) step is reply same = (same, λ s st. reply st.ghosts s (represents_fun object m s fun st is))
halts memory object m new fun store (halt.Ended e) step is reply same = (
  λ s st. record {
    last = s;
    is = reply.0 st.ghosts s (represents_fun object m s fun st is);
    counts_are = sym st.represents.counts ∙ sym same.counts;
    outside = record { input = refl; cut = refl; output = refl };
  },
  reply.1,
)
halts memory object m new fun store (halt.Cut c) step is reply same = (reply, same.counts)

-- the instruction is known by another name
pub reply_as : (object : Object) (fun : Fun) (old new : Store) (r : Result (Unit {0}) Halt) (i j : Instr) → i ≡ j
    → StoreExecutes (memory_of j) fun old new r (λ s. does object s j) → StoreExecutes (memory_of i) fun old new r (λ s. does object s i)
reply_as object fun old new r i j is a = subst (λ (k : Instr). StoreExecutes (memory_of k) fun old new r (λ s. does object s k)) (sym is) a

-- an answer about a step is one about every equal step
pub answers_as : (memory : MemoryUse) (object : Object) (m new : Machine) (r : Result (Unit {0}) Halt) (step other : State → State)
    → ((s : State) → Simulates object m s → other s ≡ step s)
    → MachineExecutes memory object m new r step → MachineExecutes memory object m new r other
answers_as memory object m new (Ok done) step other same a = record {
  does = λ s st. let d = a.does s st in (subst (Simulates object new) (sym (same s st)) d.0, subst (KeepsOutside s) (sym (same s st)) d.1);
}
answers_as memory object m new (Err (halt.Stuck why)) step other same a = (a.0, λ s st. same s st ∙ a.1 s st)
answers_as memory object m new (Err (halt.Ended e)) step other same a = (λ s st. subst (EndsRun s e new.store.counts) (sym (same s st)) (a.0 s st), a.1)
answers_as memory object m new (Err (halt.Cut c)) step other same a = a

-- a check that becomes a halt
pub told_stuck : (memory : MemoryUse) (object : Object) (m new : Machine) (r : Result (Unit {0}) Halt) (why : Kind) (step : State → State)
    → IsErrAnd r (λ h. h ≡ halt.Stuck why) → IsUnmoved m new → ((s : State) → Simulates object m s → step s ≡ stuck s why)
    → MachineExecutes memory object m new r step
told_stuck memory object m new (Ok done) why step h same stops = absurd h
told_stuck memory object m new (Err x) why step h same stops = rw h (same, stops)

-- out of memory
pub out_of_memory : (object : Object) (m new : Machine) (r : Result (Unit {0}) Halt) (step : State → State)
    → IsErrAnd r (λ h. h ≡ halt.Cut cause.NoMemory)
    → new.store.counts ≡ m.store.counts → MachineExecutes MayRunOut object m new r step
out_of_memory object m new (Ok done) step h same = absurd h
out_of_memory object m new (Err x) step h same = rw h (refl, same)
