-- Suspended activations: one goes on, or is looked for.
use Rattle.std.proofs.Common.{◌≡◌, ◌≢◌, ◌<◌, ◌+◌, ◌-◌, ◌==◌, ◌⊎◌, inl, inr, ℕ, suc, Bool, true, false, cond, List, []}
use Rattle.std.proofs.Common.{◌∷◌, ◌++◌, length, Option, Some, None, Err, IsSome}
use Rattle.std.proofs.Common.{IsSomeAnd, get_or, slice_get, refl, sym, ap, subst, ◌∙◌, arith}
use Rattle.std.proofs.lemmas.Bool.Decides.{nat_tests}
use Rattle.std.proofs.lemmas.List.Edits.{remove-append_left, remove-append_right}
use Rattle.std.proofs.lemmas.Option.{slice_get-get_or}
use Rattle.std.specs.List.{remove}
use Rattle.hy_frames.specs.declared.id.ActId.{ActId}
use Rattle.hy_frames.specs.declared.id.Standing.TheVariants.{Running, Suspended}
use Rattle.hy_frames.specs.Activations as acts
use Rattle.hy_object.specs.declared.object.Fun.{Fun}
use Rattle.hy_object.specs.declared.object.Object.{Object}
use Rattle.hy_base.specs.declared.run.End.{End}
use Rattle.hy_base.specs.declared.run.End.TheVariants as end
use Rattle.hy_object.specs.declared.instr.Instr.{Instr}
use Rattle.hy_object.specs.declared.instr.Instr.TheVariants as instr
use Rattle.hy_object.specs.declared.stuck.Kind.TheVariants as kind
use Rattle.hy_object.specs.Checks.{ends, held, own_slot, stuck, with_some}
use Rattle.hy_object.specs.Controls.{Taken, at_next, beside, resumes, slide, slide_of, frees_frame, hands_out, taken, yield}
use Rattle.hy_object.specs.States as machine
use Rattle.hy_object.specs.States.{Activation, Ended, Projected, Sliding, State, Stuck, Yielded, nth}
use Rattle.hy_store.specs.declared.halt.Halt.{Halt}
use Rattle.hy_store.specs.declared.halt.Halt.TheVariants as halt
use Rattle.hy_store.specs.declared.frame.Role.{Role}
use Rattle.hy_store.specs.declared.frame.Role.TheVariants as role
use Rattle.hy_store.specs.declared.frame.Slot.{Slot}
use Rattle.hy_store.specs.declared.store.Store.{Store}
use Rattle.hy_store.specs.Frames.{Kept, kept, role_at, slot_in}
use Rattle.hy_store.specs.Switches.{CanTake, HandedOut, LeadsTo, StoreSwitches, Waits, slot_for}
use Rattle.hy_store.specs.Represents.{Ghosts, Represents, abstract_role, abstract_slot}
use Rattle.hy_store.proofs.Rows.{nth_behind, nth_front, nth_get, nth_in}
use Rattle.hy_store.proofs.Waking.{is_taken}
use Rattle.hy_checked.specs.declared.machine.Machine.{Machine}
use Rattle.hy_checked.specs.declared.machine.Waiting.{Waiting}
use Rattle.hy_checked.specs.Suspended.{IsLastAt, IsNoneFrom}
use Rattle.hy_store.specs.Executes.{MayRunOut}
use Rattle.hy_checked.specs.Executes.{MachineExecutes, GoesOn, IsUnmoved}
use Rattle.hy_runs.specs.Progress.{KeepsOutside}
use Rattle.hy_checked.specs.Simulates.{AreHanded, AreSuspended, AreSliding, HasCaller, IsAt, IsKeptAs, IsPausedAs, IsRunningAs, Simulates, WaitsAs}
use Rattle.hy_checked.proofs.Acting.{KeepsOthers, callers_stay, changed_is, changed_keeps, changed_many, kept_as, live_so, paused_stays, suspended_apart}
use Rattle.hy_checked.proofs.Acting.{suspended_stay, to_found}
use Rattle.hy_checked.proofs.Calling.{GoesBackTo, caller_kept, next_is, none_waits, outside_back, own_caller, simulates_back, there_so, waits_so}
use Rattle.hy_checked.proofs.Known.{allowed, represents_fun, some_same}
use Rattle.hy_checked.proofs.Lifting.{handed_at_next}
use Rattle.hy_checked.proofs.Pausing.{gone_keeps, gone_many, others_suspended, others_wait, suspended_keeps, suspended_many, suspended_at_next, waits_at_next}

same_frame : (a b : ℕ) → (((a == b) ≡ true) × (a ≡ b)) ⊎ (((a == b) ≡ false) × (a ≢ b))
same_frame a b = grind (arith, nat_tests)

last_of : (below : List ActId) (v : ActId) → nth (below ++ v ∷ []) (length below) ≡ Some v
last_of below v = nth_behind below (v ∷ []) (length below) 0 (omega arith)

-- what is kept below the last one
none_below : (live : List acts.Activation) (below rows : List ActId) (v : ActId) (frame at : ℕ) → rows ≡ below ++ v ∷ []
    → IsNoneFrom live rows frame at
    → IsNoneFrom live below frame at
none_below live below rows v frame at is none k act one le h =
    none k act one le (ap (λ (zs : List ActId). nth zs k) is ∙ nth_front below (v ∷ []) k (nth_in below k act h) ∙ h)

pub none_is_suspended : (object : Object) (live : List acts.Activation) (rows : List ActId) (frame : ℕ) (activations : List Activation)
    → AreSuspended object live rows activations → IsNoneFrom live rows frame 0 → taken frame activations ≡ None
none_is_suspended object live rows frame [] kept none = refl
none_is_suspended object live rows frame (a ∷ rest) kept none =
    let v : ActId = kept.0 in
    let below : List ActId = kept.1 in
    let paused : IsPausedAs object live v Suspended a = kept.2.1.0 in
    let differs : paused.one.frame ≢ frame = none (length below) v paused.one (omega arith) (ap (λ (zs : List ActId). nth zs (length below)) kept.2.0
    ∙ last_of below v) paused.is in
    let so : taken frame rest ≡ None = none_is_suspended object live below frame rest kept.2.1.1 (none_below live below rows v frame 0 kept.2.0 none) in
    elim (same_frame a.frame frame) [
      | inl same ↦ absurd (differs (sym paused.kept.frame ∙ same.1))
      | inr other ↦ ap (λ (b : Bool). cond b (Some (record { found = a; others = rest })) (beside a (taken frame rest))) other.0 ∙ ap (beside a) so
    ]

length_one : (below : List ActId) (v : ActId) → length (below ++ v ∷ []) ≡ length below + 1
length_one [] v = refl
length_one (w ∷ below) v = let so = length_one below v in omega (arith, so)

-- the activation that goes on, and the others
pub record Woken (object : Object) (live : List acts.Activation) (rows : List ActId) (frame at : ℕ)
    (act : ActId) (activations : List Activation) : Type 0 where
  pub taking : Taken
  pub is : taken frame activations ≡ Some taking
  pub paused : IsPausedAs object live act Suspended taking.found
  pub others : AreSuspended object live (remove rows at) taking.others
  pub size : length activations ≡ suc (length taking.others)
  pub role : taking.found.role ≡ Sliding
  pub sliding : AreSliding taking.others

above : (a b : ℕ) → (a < b) ⊎ ((a ≡ b) ⊎ (b < a))
above a b = grind arith

module _ (object : Object) (live : List acts.Activation) where
  -- the last one has the frame only where it is the one that is found
  at_end : (rows below : List ActId) (v : ActId) (one : acts.Activation) (frame at : ℕ) → IsLastAt live rows frame at → rows ≡ below ++ v ∷ []
      → acts.activation v live ≡ Some one → one.frame ≡ frame → at ≡ length below
  at_end rows below v one frame at last is v_is e = elim (above at (length below)) [
    | inl less ↦ absurd (last.none_behind (length below) v one (omega (arith, less)) (ap (λ (zs : List ActId). nth zs (length below)) is
        ∙ last_of below v) v_is e)
    | inr more ↦ elim more [
      | inl same ↦ same
      | inr past ↦
          let within : at < length (below ++ v ∷ []) = nth_in (below ++ v ∷ []) at last.act (sym (ap (λ (zs : List ActId). nth zs at) is) ∙ last.is) in
          let size : length (below ++ v ∷ []) ≡ length below + 1 = length_one below v in
          absurd (omega (arith, within, size, past))
    ]
  ]

  in_front : (rows below : List ActId) (v : ActId) (one : acts.Activation) (frame at : ℕ) → (last : IsLastAt live rows frame at)
      → rows ≡ below ++ v ∷ []
      → acts.activation v live ≡ Some one → one.frame ≢ frame → at < length below
  in_front rows below v one frame at last is v_is differs = elim (above at (length below)) [
    | inl less ↦ less
    | inr more ↦ elim more [
      | inl same ↦
          let same_act : v ≡ last.act = some_same v last.act (sym (last_of below v) ∙ sym (ap (nth (below ++ v ∷ [])) same)
          ∙ sym (ap (λ (zs : List ActId). nth zs at) is) ∙ last.is) in
          let same_one : one ≡ last.one = some_same one last.one (sym v_is ∙ ap (λ (a : ActId). acts.activation a live) same_act ∙ last.one_is) in
          absurd (differs (ap (λ (w : acts.Activation). w.frame) same_one ∙ last.frame_is))
      | inr past ↦
          let within : at < length (below ++ v ∷ []) = nth_in (below ++ v ∷ []) at last.act (sym (ap (λ (zs : List ActId). nth zs at) is) ∙ last.is) in
          let size : length (below ++ v ∷ []) ≡ length below + 1 = length_one below v in
          absurd (omega (arith, within, size, past))
    ]
  ]

  pub wakes : (rows : List ActId) (frame at : ℕ) (activations : List Activation) → AreSuspended object live rows activations → AreSliding activations
      → (last : IsLastAt live rows frame at) → Woken object live rows frame at last.act activations
  wakes rows frame at [] kept sliding last = absurd (apart at last.act (sym (ap (λ (zs : List ActId). nth zs at) kept) ∙ last.is))
    where
      apart : (k : ℕ) (w : ActId) → nth [] k ≡ Some w → ⊥
      apart k w e = cc
  wakes rows frame at (a ∷ rest) kept sliding last =
      let v : ActId = kept.0 in
      let below : List ActId = kept.1 in
      let is : rows ≡ below ++ v ∷ [] = kept.2.0 in
      let paused : IsPausedAs object live v Suspended a = kept.2.1.0 in
      elim (same_frame a.frame frame) [
        | inl same ↦
            let here : at ≡ length below = at_end rows below v paused.one frame at last is paused.is (sym paused.kept.frame ∙ same.1) in
            let one : last.act ≡ v = some_same last.act v (sym last.is ∙ ap (λ (zs : List ActId). nth zs at) is ∙ ap (nth (below ++ v ∷ [])) here
            ∙ last_of below v) in
            let left : remove rows at ≡ below = ap (λ (zs : List ActId). remove zs at) is ∙ ap (remove (below ++ v ∷ [])) here
            ∙ remove-append_right below (v ∷ []) (length below) (length below) refl (omega arith) ∙ gone below v (length below) in
            record {
              taking = record { found = a; others = rest };
              is = ap (λ (b : Bool). cond b (Some (record { found = a; others = rest })) (beside a (taken frame rest))) same.0;
              paused = subst (λ (w : ActId). IsPausedAs object live w Suspended a) (sym one) paused;
              others = subst (λ (zs : List ActId). AreSuspended object live zs rest) (sym left) kept.2.1.1;
              size = refl;
              role = sliding.0;
              sliding = sliding.1;
            }
        | inr other ↦
            let less : at < length below = in_front rows below v paused.one frame at last is paused.is (λ h. other.1 (paused.kept.frame ∙ h)) in
            let inner : IsLastAt live below frame at = record {
              act = last.act;
              one = last.one;
              is = sym (nth_front below (v ∷ []) at less) ∙ sym (ap (λ (zs : List ActId). nth zs at) is) ∙ last.is;
              one_is = last.one_is;
              frame_is = last.frame_is;
              none_behind = none_below live below rows v frame (suc at) is last.none_behind;
            } in
            let so = wakes below frame at rest kept.2.1.1 sliding.1 inner in
            record {
              taking = record { found = so.taking.found; others = a ∷ so.taking.others };
              is = ap (λ (b : Bool). cond b (Some (record { found = a; others = rest })) (beside a (taken frame rest))) other.0 ∙ ap (beside a) so.is;
              paused = so.paused;
              others = (v, remove below at, (ap (λ (zs : List ActId). remove zs at) is ∙ remove-append_left below (v ∷ []) at less, (paused, so.others)));
              size = ap suc so.size;
              role = so.role;
              sliding = (sliding.0, so.sliding);
            }
      ]
    where
      gone : (below : List ActId) (v : ActId) (n : ℕ) → below ++ remove (v ∷ []) (n - n) ≡ below
      gone below v n = let e : n - n ≡ 0 = omega arith in ap (λ (k : ℕ). below ++ remove (v ∷ []) k) e ∙ append_none below
        where
          append_none : (xs : List ActId) → xs ++ [] ≡ xs
          append_none [] = refl
          append_none (x ∷ xs) = ap (λ (zs : List ActId). x ∷ zs) (append_none xs)

-- YIELDS

role_of : (o : Option Kept) (one : Kept) (into : ℕ) → o ≡ Some one → slot_for (role_at o) ≡ Some into → abstract_role one.role ≡ Projected into
role_of o one into is h = of_role one.role (sym (ap (λ (k : Option Kept). slot_for (role_at k)) is) ∙ h)
  where
    of_role : (role : Role) → slot_for (Some role) ≡ Some into → abstract_role role ≡ Projected into
    of_role (role.Called word) e = absurd (cc)
    of_role (role.Projected slot) e = let k : slot ≡ into = cc in ap Projected k
    of_role role.Sliding e = absurd (cc)

-- the caller has the slot that the access goes to
pub can_take : (object : Object) (m : Machine) (fun : Fun) (i : Instr) (act : ActId) (w : Waiting) → (at : IsAt object m fun i) → HasCaller m (Some act)
    → WaitsAs m act w → CanTake (kept m.store.frames) m.store.frame (Some w.frame)
can_take object m fun i act w at caller told into h =
    let s : State = at.state in
    let st = at.simulates in
    let p = own_caller object m s st act caller in
    let mine = st.represents.mine in
    let role : s.now.role ≡ Projected into = sym mine.3 ∙ role_of (kept m.store.frames m.store.frame) mine.0 into mine.1 h in
    let small : into < p.first.fun.slots = (subst (AreHanded s.now) p.are st.handed).0 into role in
    let active = st.represents.waiting 0 p.first (ap (λ (cs : List Activation). nth (cs ++ s.suspended) 0) p.are) in
    let its = active.mine in
    let below_all : into < length its.0.slots = omega (arith, small, its.2) in
    subst (λ (frame : ℕ). IsSomeAnd (kept m.store.frames frame) (λ one. into < length one.slots)) (caller_kept object m s st act caller w told).frame
    (subst (λ (o : Option Kept). IsSomeAnd o (λ one. into < length one.slots)) (sym its.1) below_all)

pub handed_out : (object : Object) (m new : Machine) (fun next : Fun) (act : ActId) (w : Waiting) (mid : List acts.Activation) (step : State → State)
    → nth object.funs m.number ≡ Some fun → Some next ≡ slice_get object.funs w.number → HasCaller m (Some act) → WaitsAs m act w →
    LeadsTo fun next m.store new.store (Waits (Some w.frame) next) HandedOut step → GoesBackTo m new act w
    → mid ≡ acts.with_activation m.running (acts.gone_to (m.place + 1)) m.acts → new.acts ≡ acts.with_activation m.running acts.suspended mid
    → new.suspended_ids.items ≡ m.suspended_ids.items ++ m.running ∷ [] → GoesOn object m new step
handed_out object m new fun next act w mid step is next_is caller told advances goes pauses paused suspended_ids = record {
  does = λ s st.
      let d = advances.does st.ghosts s (represents_fun object m s fun st is) (waits_so object m s st act w next caller told next_is) in
      let back = d.2.back in
      let keeps = suspended_keeps object m s st mid pauses new.acts paused in (
        simulates_back object m new s (step s) st act w caller told goes keeps back d.0 next next_is d.1
            (subst (AreSuspended object new.acts new.suspended_ids.items) (sym d.2.suspended) (
              m.running,
              m.suspended_ids.items,
              (suspended_ids, (suspended_at_next object m s st mid pauses new.acts paused, others_suspended object m s st new.acts keeps)),
            ))
            (let same : length (step s).suspended ≡ suc (length s.suspended) = ap (λ (xs : List Activation). length xs) d.2.suspended in let size =
            suspended_many object m s st mid pauses new.acts paused in omega (arith, size, same, st.all))
            (subst AreSliding (sym d.2.suspended) (refl, st.sliding)),
        outside_back object m new s (step s) st act w caller told goes keeps back,
      );
}

-- none waits, so none takes the access
pub none_takes : (object : Object) (m : Machine) (fun next : Fun) (store : Store) (i : Instr) (step : State → State) → IsAt object m fun i
    → HasCaller m None → LeadsTo fun next m.store store (Waits None next) HandedOut step → ⊥
none_takes object m fun next store i step at none advances =
    let s = at.state in
    let waits : s.callers ≡ [] = none_waits object m s at.simulates none in
    let d = advances.does at.simulates.ghosts s (represents_fun object m s fun at.simulates at.fun_is) waits in
    absurd (empty d.2.back.caller d.2.back.rest (sym waits ∙ d.2.back.waits))
  where
    empty : (a : Activation) (rest : List Activation) → [] ≡ a ∷ rest → ⊥
    empty a rest e = cc

-- SLIDES

pub not_suspended : (object : Object) (m : Machine) (slot name frame : ℕ) (s : State) → Simulates object m s
    → IsNoneFrom m.acts m.suspended_ids.items frame 0 → slide_of s slot (Yielded name frame) ≡ stuck s kind.Order
not_suspended object m slot name frame s st none =
    ap (λ (o : Option Taken). with_some s kind.Order o (λ t. resumes s slot t))
    (none_is_suspended object m.acts m.suspended_ids.items frame s.suspended st.suspended none)

module _ (object : Object) (m : Machine) (frame at : ℕ) (last : IsLastAt m.acts m.suspended_ids.items frame at)
    (act : ActId) (act_is : act ≡ last.act) where
  pub wakes_so : (s : State) → Simulates object m s → Woken object m.acts m.suspended_ids.items frame at act s.suspended
  wakes_so s st =
      subst (λ (a : ActId). Woken object m.acts m.suspended_ids.items frame at a s.suspended) (sym act_is)
      (wakes object m.acts m.suspended_ids.items frame at s.suspended st.suspended st.sliding last)

  pub suspended_lives : acts.IsLive act m.acts
  suspended_lives = live_so act m.acts last.one (ap (λ (a : ActId). acts.activation a m.acts) act_is ∙ last.one_is)

  pub suspended_there : (fun : Fun) (i : Instr) (w : Waiting) → IsAt object m fun i → WaitsAs m act w → IsSome (slice_get object.funs w.number)
  suspended_there fun i w here told =
      let k = wakes_so here.state here.simulates in
      let kept = kept_as object m.acts act Suspended k.taking.found w k.paused told in
      there_so object w.number k.taking.found.fun (ap (nth object.funs) (sym kept.number) ∙ kept.fun)

  module _ (mid : List acts.Activation) (pauses : mid ≡ acts.with_activation m.running (acts.gone_to (m.place + 1)) m.acts) where
    -- it is suspended still where the running one has stopped
    pub still_paused : (s : State) (st : Simulates object m s) → IsPausedAs object mid act Suspended (wakes_so s st).taking.found
    still_paused s st =
        let k = wakes_so s st in
        let t : Taken = k.taking in
        let apart = suspended_apart s.now.frame s.callers s.suspended t st.represents.apart (is_taken frame s.suspended t k.is).frames in
        paused_stays object m.acts mid s.now.frame (gone_keeps object m s st mid pauses) act Suspended t.found (λ e. apart.running (sym e)) k.paused

    pub still_suspended : (fun : Fun) (i : Instr) → IsAt object m fun i → acts.IsSuspended act mid
    still_suspended fun i here =
        let p = still_paused here.state here.simulates in
        to_found (acts.activation act mid) p.one (λ one. acts.is_suspended one.standing ≡ true) p.is (ap acts.is_suspended p.standing_is)

    pub woken : (new : Machine) (fun next : Fun) (slot name : ℕ) (w : Waiting) → nth object.funs m.number ≡ Some fun → WaitsAs m act w
        → Some next ≡ slice_get object.funs w.number →
        ((g : Ghosts) (s : State) (t : Taken) → Represents g m.store fun s → taken frame s.suspended ≡ Some t → t.found.fun ≡ next
        → Represents g new.store next (resumes s slot t)) →
        GoesBackTo m new act w → new.acts ≡ acts.with_activation act (acts.resumed m.running) mid
        → new.suspended_ids.items ≡ remove m.suspended_ids.items at → GoesOn object m new (λ s. slide_of s slot (Yielded name frame))
    woken new fun next slot name w is told next_eq wake goes resumes_it suspended_ids = record {
      does = λ s st.
          let k = wakes_so s st in
          let t : Taken = k.taking in
          let so : slide_of s slot (Yielded name frame) ≡ resumes s slot k.taking =
          ap (λ (o : Option Taken). with_some s kind.Order o (λ t. resumes s slot t)) k.is in
          (subst (Simulates object new) (sym so) (simulates_woken s st), subst (KeepsOutside s) (sym so) (record { input = refl; cut = refl; output = refl }));
    }
      where
        not_both : (into : ℕ) → Sliding ≡ Projected into → ⊥
        not_both into e = cc

        simulates_woken : (s : State) (st : Simulates object m s) → Simulates object new (resumes s slot (wakes_so s st).taking)
        simulates_woken s st =
            let k = wakes_so s st in
            let t : Taken = (wakes_so s st).taking in
            let kept_w : IsKeptAs object w t.found = kept_as object m.acts act Suspended t.found w k.paused told in
            let fun_eq : t.found.fun ≡ next = next_is object w t.found next kept_w next_eq in
            let apart = suspended_apart s.now.frame s.callers s.suspended t st.represents.apart (is_taken frame s.suspended t k.is).frames in
            let gone = gone_keeps object m s st mid pauses in
            let paused = still_paused s st in
            let keeps : KeepsOthers mid new.acts t.found.frame =
            subst (KeepsOthers mid new.acts) (sym paused.kept.frame)
            (changed_keeps mid new.acts act paused.one paused.is (acts.resumed m.running) resumes_it (λ x. refl)) in
            record {
              ghosts = st.ghosts;
              represents = subst (λ (f : Fun). Represents st.ghosts new.store f (resumes s slot t)) (sym fun_eq)
                  (wake st.ghosts s t (represents_fun object m s fun st is) k.is fun_eq);
              fun = k.paused.kept.fun;
              number = kept_w.number ∙ sym goes.number;
              place = kept_w.place ∙ sym goes.place;
              left = st.left ∙ sym goes.left;
              turns = st.turns;
              going = st.going;
              caller = Some m.running;
              running = subst (λ (a : ActId). IsRunningAs new.acts a (Some m.running) t.found) (sym goes.running) (record {
                one = acts.resumed m.running paused.one;
                is = changed_is mid new.acts act paused.one paused.is (acts.resumed m.running) resumes_it (λ x. refl);
                standing_is = refl;
                number = paused.kept.number;
                frame = paused.kept.frame;
              });
              callers = (
                m.running,
                st.caller,
                (
                  refl,
                  (
                    paused_stays object mid new.acts t.found.frame keeps m.running (Running st.caller) (at_next s.now) apart.running
                        (waits_at_next object m s st mid pauses),
                    callers_stay object mid new.acts t.found.frame keeps st.caller s.callers apart.waiting (others_wait object m s st mid gone),
                  ),
                ),
              );
              suspended = subst (λ (rows : List ActId). AreSuspended object new.acts rows t.others) (sym suspended_ids)
                  (suspended_stay object mid new.acts t.found.frame keeps (remove m.suspended_ids.items at) t.others apart.others
                  (suspended_stay object m.acts mid s.now.frame gone (remove m.suspended_ids.items at) t.others apart.not_running k.others));
              all =
                  let resumed_all = changed_many mid new.acts act paused.one paused.is (acts.resumed m.running) resumes_it (λ x. refl) in
                  let gone_all = gone_many object m s st mid pauses in
                  omega (arith, resumed_all, gone_all, st.all, k.size);
              handed = (λ into h. absurd (not_both into (sym k.role ∙ h)), handed_at_next s.now (suc s.now.place) s.callers st.handed);
              sliding = k.sliding;
            }

-- WHAT IS FOUND

pub at_place : (kept : List ActId) (at : ℕ) (d : ActId) → at < length kept → nth kept at ≡ Some (get_or kept at d)
at_place kept at d h = sym (nth_get kept at) ∙ slice_get-get_or kept at d h

-- what is taken out of the row is what was found
pub found_is : (live : List acts.Activation) (kept : List ActId) (frame at : ℕ) (act : ActId) (last : IsLastAt live kept frame at)
    → act ≡ get_or kept at act → act ≡ last.act
found_is live kept frame at act last h = h
    ∙ some_same (get_or kept at act) last.act (sym (at_place kept at act (nth_in kept at last.act last.is)) ∙ last.is)

-- what a slot of the running activation holds
pub slide_is : (object : Object) (m : Machine) (s : State) (slot : ℕ) (got held : Slot) → Simulates object m s
    → got ≡ slot_in (kept m.store.frames m.store.frame) slot → got ≡ held → slide s slot ≡ slide_of s slot (abstract_slot held)
slide_is object m s slot got held st h is = ap (slide_of s slot) (st.represents.slots slot ∙ ap abstract_slot (sym h ∙ is))

pub at_slot : (object : Object) (m : Machine) (fun : Fun) (slot : ℕ) → IsAt object m fun (instr.Slide slot) → slot < fun.slots
at_slot object m fun slot at = (allowed object m fun (instr.Slide slot) at).0

pub at_yield : (object : Object) (m : Machine) (fun : Fun) (slot : ℕ) → IsAt object m fun (instr.Yield slot) → slot < fun.slots
at_yield object m fun slot at = (allowed object m fun (instr.Yield slot) at).0

-- A yield does not end the run.
yield_goes : (s t : State) (e : End) (o : Option ℕ) (role : machine.Role) (callers : List Activation) → s.stop ≡ None
    → with_some s kind.Slot o (λ a. hands_out s a role callers) ≡ ends t e → ⊥
yield_goes s t e None role callers going h = let k : Some (Stuck kind.Slot (record { fun = s.now.number; at = s.now.place })) ≡ Some (Ended e) =
    ap (λ (u : State). u.stop) h in cc
yield_goes s t e (Some a) (machine.Called word) callers going h =
    let k : Some (Stuck kind.Order (record { fun = s.now.number; at = s.now.place })) ≡ Some (Ended e) = ap (λ (u : State). u.stop) h in cc
yield_goes s t e (Some a) machine.Sliding callers going h =
    let k : Some (Stuck kind.Order (record { fun = s.now.number; at = s.now.place })) ≡ Some (Ended e) = ap (λ (u : State). u.stop) h in cc
yield_goes s t e (Some a) (machine.Projected slot) [] going h =
    let k : Some (Stuck kind.Order (record { fun = s.now.number; at = s.now.place })) ≡ Some (Ended e) = ap (λ (u : State). u.stop) h in cc
yield_goes s t e (Some a) (machine.Projected slot) (c ∷ rest) going h = let k : None ≡ Some (Ended e) = sym going ∙ ap (λ (u : State). u.stop) h in cc

pub yield_halts : (object : Object) (m new : Machine) (fun next : Fun) (store : Store) (slot : ℕ) (h : Halt) (When : State → Type 0)
    → nth object.funs m.number ≡ Some fun → StoreSwitches fun next m.store store (Err h) When HandedOut (λ s. yield s slot)
    → ((s : State) → Simulates object m s → When s) → IsUnmoved m new → MachineExecutes MayRunOut object m new (Err h) (λ s. yield s slot)
yield_halts object m new fun next store slot (halt.Stuck why) When is p waits same =
    (same, λ s st. p st.ghosts s (represents_fun object m s fun st is) (waits s st))
yield_halts object m new fun next store slot (halt.Ended e) When is p waits same = (
  λ s st. absurd (yield_goes s (frees_frame s) e (held (own_slot s slot)) s.now.role s.callers st.going
      (p.0 st.ghosts s (represents_fun object m s fun st is) (waits s st))),
  λ h. not_done (sym p.1 ∙ h),
)
  where
    not_done : end.Done ≡ end.Asks → ⊥
    not_done h = cc
yield_halts object m new fun next store slot (halt.Cut c) When is p waits same = (p, same.counts)
