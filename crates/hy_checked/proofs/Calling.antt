-- Calls, projections and returns: who runs, who waits.
use Rattle.std.proofs.Common.{◌≡◌, ◌≢◌, ◌<◌, ◌≤◌, ◌+◌, ◌-◌, ◌^◌, ℕ, suc, Bool, true, false, nat_le, List, [], ◌∷◌}
use Rattle.std.proofs.Common.{◌++◌, length, Option, Some, None, IsSome, IsSomeAnd, is_some, Err, slice_get, refl, sym, ap, subst, ◌∙◌, arith}
use Rattle.std.proofs.lemmas.Bool.Decides.{nat_tests}
use Rattle.hy_base.specs.declared.run.Counts.{Counts}
use Rattle.hy_base.specs.declared.run.End.TheVariants as end
use Rattle.hy_frames.specs.declared.id.ActId.{ActId}
use Rattle.hy_frames.specs.declared.id.Standing.TheVariants.{Running}
use Rattle.hy_frames.specs.Activations as acts
use Rattle.hy_links.specs.Chains.{times}
use Rattle.hy_object.specs.declared.instr.Instr.{Instr}
use Rattle.hy_object.specs.declared.instr.Instr.TheVariants as instr
use Rattle.hy_object.specs.declared.object.Fun.{Fun}
use Rattle.hy_object.specs.declared.object.Object.{Object}
use Rattle.hy_object.specs.declared.stuck.Kind.TheVariants as kind
use Rattle.hy_object.specs.Checks.{check, ends, is_empty, is_whole, may_write, own_slot, own_words, stuck, take_turn, turn_of, with_some, with_turn}
use Rattle.hy_object.specs.Controls.{at_next, call, can_give, frees_frame, project, start}
use Rattle.hy_object.specs.States.{Activation, Called, Projected, State, nth}
use Rattle.hy_store.specs.declared.halt.Halt.{Halt}
use Rattle.hy_store.specs.declared.halt.Halt.TheVariants as halt
use Rattle.hy_store.specs.declared.store.Store.{Store}
use Rattle.hy_store.specs.Calls.{hands_to}
use Rattle.hy_store.specs.declared.cell.Cell.{Cell}
use Rattle.hy_store.specs.Memory.{live}
use Rattle.hy_store.specs.Opened.{abstract_range}
use Rattle.hy_store.specs.Switches.{GoesBack, LeadsTo, StoreSwitches, Returned, Waits, with_one_freed}
use Rattle.hy_store.specs.Represents.{Ghosts, Represents, abstract_role}
use Rattle.hy_store.proofs.Counted.{both}
use Rattle.hy_store.proofs.Rows.{nth_get, nth_there}
use Rattle.hy_store.proofs.Waiting.{frames_of}
use Rattle.hy_checked.specs.declared.calls.Start.{Start}
use Rattle.hy_checked.specs.declared.machine.Machine.{Machine}
use Rattle.hy_checked.specs.declared.machine.Waiting.{Waiting}
use Rattle.hy_store.specs.Executes.{MayRunOut}
use Rattle.hy_checked.specs.Executes.{MachineExecutes, GoesOn, IsUnmoved}
use Rattle.hy_runs.specs.Progress.{KeepsOutside}
use Rattle.hy_checked.specs.Simulates.{AreCallers, AreHanded, AreSuspended, AreSliding, HasCaller, IsAt, IsKeptAs, IsPausedAs, IsRunningAs, Simulates, WaitsAs}
use Rattle.hy_checked.specs.Starting.{CanStart}
use Rattle.hy_checked.proofs.Acting.{KeepsOthers, callers_stay, kept_as, live_so, none_in, own_apart, paused_stays, runs_on, started_is, started_keeps}
use Rattle.hy_checked.proofs.Acting.{started_many, started_stays, then_keeps}
use Rattle.hy_checked.proofs.Known.{allowed, fun_in, of_grammar, same_fun, represents_fun, some_same}
use Rattle.hy_checked.proofs.Lifting.{handed_at_next}
use Rattle.hy_checked.proofs.Pausing.{caller_told, gone_keeps, gone_many, now_ended, now_one_less, others_suspended, others_wait, waits_at_next}

-- WHAT IS HANDED OVER

gave : (s : State) (rest : State) (b : Bool) → s.stop ≡ None → check s kind.Slot b rest ≡ s → b ≡ true
gave s rest true going h = refl
gave s rest false going h = absurd (apart (sym going ∙ sym (ap (λ (t : State). t.stop) h)))
  where
    apart : None ≡ (stuck s kind.Slot).stop → ⊥
    apart e = cc

-- a check that goes on has found the slots
pub gives : (s : State) (callee : Fun) (slot word : ℕ) → s.stop ≡ None → hands_to s callee slot word (λ x. s) ≡ s
    → slot + callee.accesses ≤ s.now.fun.slots
gives s callee slot word going h =
    let given : can_give s slot callee.accesses ≡ true =
    gave s (own_words s word callee.owned (λ x. check s kind.Access (may_write s x) (check s kind.Unset (is_whole s x.range) s)))
    (can_give s slot callee.accesses) going h in
    below (slot + callee.accesses) s.now.fun.slots (both _ _ given).0
  where
    below : (a b : ℕ) → nat_le a b ≡ true → a ≤ b
    below a b e = grind (arith, nat_tests)

pub slots_fit : (object : Object) (m : Machine) (fun callee : Fun) (i : Instr) (slot word : ℕ) (at : IsAt object m fun i)
    → hands_to at.state callee slot word (λ x. at.state) ≡ at.state → slot + callee.accesses < 2 ^ 32
slots_fit object m fun callee i slot word at h =
    let few : fun.slots < 2 ^ 32 = (of_grammar object m fun i at).slots in
    let le : slot + callee.accesses ≤ at.state.now.fun.slots = gives at.state callee slot word at.simulates.going h in
    let same : at.state.now.fun.slots ≡ fun.slots = ap (λ (f : Fun). f.slots) (same_fun object m at.state fun at.simulates at.fun_is) in
    omega (arith, few, le, same)

there : (o : Option (List Cell)) (P : List Cell → Type 0) → IsSomeAnd o P → (found : List Cell) × (o ≡ Some found)
there None P h = absurd h
there (Some found) P h = (found, refl)

module _ (object : Object) (m : Machine) (fun callee : Fun) (what : Start) (can : CanStart object m fun callee what) where
  pub owned_fits : what.reach.range.len ≤ callee.words
  owned_fits =
      let le : callee.owned ≤ callee.words = (fun_in object what.number callee can.here.grammar can.callee_is).owned in
      let e : what.reach.range.len ≡ callee.owned = can.reached.len in
      omega (arith, le, e)

  pub lent_fits : callee.accesses ≤ callee.slots
  lent_fits = (fun_in object what.number callee can.here.grammar can.callee_is).accesses

  pub other_block : what.reach.range.block < m.store.counts.blocks
  other_block =
      let st = can.here.simulates in
      let found = there (live m.store.blocks what.reach.range.block)
      (λ cells. what.reach.range.from + what.reach.range.len ≤ length cells) can.reached.cells in
      let named : what.reach.range.block < can.here.state.counts.blocks = (st.represents.held.known what.reach.range.block found.0 found.1).named in
      let same : m.store.counts.blocks ≡ can.here.state.counts.blocks = ap (λ (c : Counts). c.blocks) st.represents.counts in
      omega (arith, named, same)

module _ (object : Object) (m : Machine) (store : Store) (fun callee : Fun) (what : Start) (can : CanStart object m fun callee what) (act : ActId)
    (mid live : List acts.Activation)
    (goes : mid ≡ acts.with_activation m.running (acts.gone_to (m.place + 1)) m.acts)
    (begins : live ≡ mid ++ acts.started act what.number m.store.counts.blocks (Some m.running) ∷ []) (is_new : acts.IsLive act mid → ⊥) where
  abbrev machine_started : Machine
  machine_started = record { store = store; number = what.number; place = 0; left = m.left - 1; acts = live; running = act; suspended_ids = m.suspended_ids }

  abbrev started : State → State
  started s = start (with_turn s (m.left - 1)) what.number callee what.slot (abstract_range what.reach.range) (abstract_role what.role)

  -- it runs, and its caller waits
  simulates_started : (s : State) (g : Ghosts) → Simulates object m s → s.left ≡ suc (m.left - 1) → Represents g store callee (started s)
      → Simulates object machine_started (started s)
  simulates_started s g st e represents =
      let gone = gone_keeps object m s st mid goes in
      let keeps = then_keeps m.acts mid live s.now.frame gone
      (started_keeps mid live act what.number m.store.counts.blocks (Some m.running) begins s.now.frame) in
      record {
        ghosts = g;
        represents = represents;
        fun = can.callee_is;
        number = refl;
        place = refl;
        left = refl;
        turns = omega (arith, e, st.turns);
        going = st.going;
        caller = Some m.running;
        running = record {
          one = acts.started act what.number m.store.counts.blocks (Some m.running);
          is = started_is mid live act what.number m.store.counts.blocks (Some m.running) begins is_new;
          standing_is = refl;
          number = refl;
          frame = ap (λ (c : Counts). c.blocks) (sym st.represents.counts);
        };
        callers = (m.running, st.caller, (refl, (stays_at_next s st, others_wait object m s st live keeps)));
        suspended = others_suspended object m s st live keeps;
        all =
            let started_one = started_many mid live act what.number m.store.counts.blocks (Some m.running) begins in
            let gone_all = gone_many object m s st mid goes in
            omega (arith, started_one, gone_all, st.all);
        handed = (
          λ slot h. let below : slot < fun.slots = can.into slot h in let same : s.now.fun.slots ≡ fun.slots =
              ap (λ (f : Fun). f.slots) (same_fun object m s fun st can.here.fun_is) in omega (arith, below, same),
          handed_at_next s.now (suc s.now.place) s.callers st.handed,
        );
        sliding = st.sliding;
      }
    where
      stays_at_next : (s : State) (st : Simulates object m s) → IsPausedAs object live m.running (Running st.caller) (at_next s.now)
      stays_at_next s st =
          let p = waits_at_next object m s st mid goes in
          record {
            one = p.one;
            is = started_stays mid live act what.number m.store.counts.blocks (Some m.running) begins m.running p.one p.is;
            standing_is = p.standing_is;
            kept = p.kept;
          }

  pub starts : ((f : Fun) (g : Ghosts) (s : State) → Represents g m.store f s → (number left : ℕ) → (after : Ghosts)
      × Represents after store callee (start (with_turn s left) number callee what.slot (abstract_range what.reach.range) (abstract_role what.role)))
      → m.left ≢ 0 →
      GoesOn object m machine_started (λ s. take_turn s
      (λ t. start t what.number callee what.slot (abstract_range what.reach.range) (abstract_role what.role)))
  starts represented some = record {
    does = λ s st.
        let e : s.left ≡ suc (m.left - 1) = one_less s.left m.left st.left some in
        let so : take_turn s (λ u. start u what.number callee what.slot (abstract_range what.reach.range) (abstract_role what.role)) ≡ started s =
        ap (λ (n : ℕ). turn_of s n (λ u. start u what.number callee what.slot (abstract_range what.reach.range) (abstract_role what.role))) e in
        let x = represented s.now.fun st.ghosts s st.represents what.number (m.left - 1) in (
          subst (Simulates object machine_started) (sym so) (simulates_started s x.0 st e x.1),
          subst (KeepsOutside s) (sym so) (record { input = refl; cut = refl; output = refl }),
        );
  }
    where
      one_less : (a b : ℕ) → a ≡ b → b ≢ 0 → a ≡ suc (b - 1)
      one_less a b h some = omega (arith, h, some)

pub start_is_spent : (object : Object) (m : Machine) (go : State → State) → m.left ≡ 0
    → MachineExecutes MayRunOut object m m (Err (halt.Ended end.Spent)) (λ s. take_turn s go)
start_is_spent object m go none = (
  λ s st. record {
    last = s;
    is = ap (λ (n : ℕ). turn_of s n go) (st.left ∙ none);
    counts_are = sym st.represents.counts;
    outside = record { input = refl; cut = refl; output = refl };
  },
  λ h. absurd (cc),
)

-- RETURNS

tails_same : {A : Type 0} (a b : A) (xs ys : List A) → a ∷ xs ≡ b ∷ ys → (a ≡ b) × (xs ≡ ys)
tails_same a b xs ys h = (cc, cc)

-- the caller
pub record CalledBy (object : Object) (live : List acts.Activation) (act : ActId) (activations : List Activation) : Type 0 where
  pub first : Activation
  pub rest : List Activation
  pub next : Option ActId
  pub are : activations ≡ first ∷ rest
  pub paused : IsPausedAs object live act (Running next) first
  pub others : AreCallers object live next rest

pub called_by : (object : Object) (live : List acts.Activation) (act : ActId) (caller : Option ActId) (activations : List Activation)
    → AreCallers object live caller activations → caller ≡ Some act → CalledBy object live act activations
called_by object live act caller [] callers h = absurd (apart (sym callers ∙ h))
  where
    apart : None ≡ Some act → ⊥
    apart e = cc
called_by object live act caller (a ∷ rest) callers h = record {
  first = a;
  rest = rest;
  next = callers.1;
  are = refl;
  paused = subst (λ (v : ActId). IsPausedAs object live v (Running callers.1) a) (some_same callers.0 act (sym callers.2.0 ∙ h)) callers.2.1.0;
  others = callers.2.1.1;
}

pub none_called : (object : Object) (live : List acts.Activation) (caller : Option ActId) (activations : List Activation)
    → AreCallers object live caller activations → caller ≡ None → activations ≡ []
none_called object live caller [] callers h = refl
none_called object live caller (a ∷ rest) callers h = absurd (apart callers.0 (sym h ∙ callers.2.0))
  where
    apart : (act : ActId) → None ≡ Some act → ⊥
    apart act e = cc

module _ (object : Object) (m : Machine) (s : State) (st : Simulates object m s) where
  pub none_waits : HasCaller m None → s.callers ≡ []
  none_waits told = none_called object m.acts st.caller s.callers st.callers (caller_told object m s st None told)

  module _ (act : ActId) (told : HasCaller m (Some act)) where
    abbrev pub own_caller : CalledBy object m.acts act s.callers
    own_caller = called_by object m.acts act st.caller s.callers st.callers (caller_told object m s st (Some act) told)

    pub caller_live : acts.IsLive act m.acts
    caller_live = live_so act m.acts own_caller.paused.one own_caller.paused.is

    pub caller_kept : (w : Waiting) → WaitsAs m act w → IsKeptAs object w own_caller.first
    caller_kept w h = kept_as object m.acts act (Running own_caller.next) own_caller.first w own_caller.paused h

pub next_is : (object : Object) (w : Waiting) (a : Activation) (next : Fun) → IsKeptAs object w a → Some next ≡ slice_get object.funs w.number
    → a.fun ≡ next
next_is object w a next k h = some_same a.fun next (sym k.fun ∙ ap (nth object.funs) k.number ∙ sym (nth_get object.funs w.number) ∙ sym h)

pub waits_so : (object : Object) (m : Machine) (s : State) (st : Simulates object m s) (act : ActId) (w : Waiting) (next : Fun) → HasCaller m (Some act)
    → WaitsAs m act w → Some next ≡ slice_get object.funs w.number → Waits (Some w.frame) next s
waits_so object m s st act w next caller told h =
    let p = own_caller object m s st act caller in
    let kept = caller_kept object m s st act caller w told in
    (p.first, p.rest, p.are, kept.frame, next_is object w p.first next kept h)

pub there_so : (object : Object) (number : ℕ) (f : Fun) → nth object.funs number ≡ Some f → IsSome (slice_get object.funs number)
there_so object number f h = ap is_some (nth_get object.funs number ∙ h)

-- the caller's function exists
pub next_there : (object : Object) (m : Machine) (fun : Fun) (i : Instr) (act : ActId) (w : Waiting) → IsAt object m fun i → HasCaller m (Some act)
    → WaitsAs m act w → IsSome (slice_get object.funs w.number)
next_there object m fun i act w at caller told =
    let kept = caller_kept object m at.state at.simulates act caller w told in
    there_so object w.number (own_caller object m at.state at.simulates act caller).first.fun (ap (nth object.funs) (sym kept.number) ∙ kept.fun)

in_range : (object : Object) (number : ℕ) → number < length object.funs → IsSome (slice_get object.funs number)
in_range object number h = let f = nth_there object.funs number h in there_so object number f.0 f.1

pub callee_there : (object : Object) (m : Machine) (fun : Fun) (number slot word : ℕ) → IsAt object m fun (instr.Call number slot word)
    → IsSome (slice_get object.funs number)
callee_there object m fun number slot word at = in_range object number (allowed object m fun (instr.Call number slot word) at).0

pub subscript_there : (object : Object) (m : Machine) (fun : Fun) (number slot word into : ℕ) → IsAt object m fun (instr.Project number slot word into)
    → IsSome (slice_get object.funs number)
subscript_there object m fun number slot word into at = in_range object number (allowed object m fun (instr.Project number slot word into) at).0

pub calls_slot : (object : Object) (m : Machine) (fun : Fun) (number slot word : ℕ) → IsAt object m fun (instr.Call number slot word)
    → slot ≤ fun.slots
calls_slot object m fun number slot word at = (allowed object m fun (instr.Call number slot word) at).1.0

pub projects_slot : (object : Object) (m : Machine) (fun : Fun) (number slot word into : ℕ) → IsAt object m fun (instr.Project number slot word into)
    → slot ≤ fun.slots
projects_slot object m fun number slot word into at = (allowed object m fun (instr.Project number slot word into) at).1.0

pub projects_into : (object : Object) (m : Machine) (fun : Fun) (number slot word into : ℕ) → IsAt object m fun (instr.Project number slot word into)
    → into < fun.slots
projects_into object m fun number slot word into at = (allowed object m fun (instr.Project number slot word into) at).1.1.1.0

-- what a call is where the function exists
pub call_is : (object : Object) (s : State) (number slot word : ℕ) (callee : Fun) (end : State) → Some callee ≡ slice_get object.funs number →
    hands_to s callee slot word (λ x. take_turn s (λ t. start t number callee slot x.range (Called word))) ≡ end → call object s number slot word ≡ end
call_is object s number slot word callee end is h =
    ap (λ (o : Option Fun). with_some s kind.Range o (λ f. hands_to s f slot word (λ x. take_turn s (λ t. start t number f slot x.range (Called word)))))
    (sym (nth_get object.funs number) ∙ sym is) ∙ h

pub project_is : (object : Object) (s : State) (number slot word into : ℕ) (callee : Fun) (end : State) → Some callee ≡ slice_get object.funs number →
    hands_to s callee slot word
    (λ x. check s kind.Slot (is_empty (own_slot s into)) (take_turn s (λ t. start t number callee slot x.range (Projected into)))) ≡ end
    → project object s number slot word into ≡ end
project_is object s number slot word into callee end is h =
    ap (λ (o : Option Fun). with_some s kind.Range o
    (λ f. hands_to s f slot word
    (λ x. check s kind.Slot (is_empty (own_slot s into)) (take_turn s (λ t. start t number f slot x.range (Projected into))))))
    (sym (nth_get object.funs number) ∙ sym is) ∙ h

-- none waits, so none goes on
pub none_goes_back : (object : Object) (m : Machine) (fun next : Fun) (store : Store) (i : Instr) (step : State → State) → IsAt object m fun i
    → HasCaller m None → LeadsTo fun next m.store store (Waits None next) Returned step → ⊥
none_goes_back object m fun next store i step at none advances =
    let s = at.state in
    let waits : s.callers ≡ [] = none_waits object m s at.simulates none in
    let d = advances.does at.simulates.ghosts s (represents_fun object m s fun at.simulates at.fun_is) waits in
    absurd (empty d.2.back.caller d.2.back.rest (sym waits ∙ d.2.back.waits))
  where
    empty : (a : Activation) (rest : List Activation) → [] ≡ a ∷ rest → ⊥
    empty a rest e = cc

-- the machine goes on with the caller
pub record GoesBackTo (m new : Machine) (act : ActId) (w : Waiting) : Type 0 where
  pub number : new.number ≡ w.number
  pub place : new.place ≡ w.place
  pub left : new.left ≡ m.left
  pub running : new.running ≡ act

module _ (object : Object) (m new : Machine) (s t : State) (st : Simulates object m s) (act : ActId) (w : Waiting) (caller : HasCaller m (Some act))
    (told : WaitsAs m act w) (goes : GoesBackTo m new act w) (keeps : KeepsOthers m.acts new.acts s.now.frame) (back : GoesBack s t) where
  abbrev p : CalledBy object m.acts act s.callers
  p = own_caller object m s st act caller

  kept : IsKeptAs object w p.first
  kept = caller_kept object m s st act caller w told

  now_is : t.now ≡ p.first
  now_is = back.now ∙ (tails_same back.caller p.first back.rest p.rest (sym back.waits ∙ p.are)).0

  callers_are : t.callers ≡ p.rest
  callers_are = back.callers ∙ (tails_same back.caller p.first back.rest p.rest (sym back.waits ∙ p.are)).1

  handed_on : AreHanded p.first p.rest
  handed_on = (subst (AreHanded s.now) p.are st.handed).1

  -- neither the caller nor those after it have the frame of the one that ran
  away : (p.first.frame ≢ s.now.frame) × (times s.now.frame (frames_of p.rest) ≡ 0)
  away = none_in s.now.frame p.first.frame (frames_of p.rest)
      (subst (λ (xs : List Activation). times s.now.frame (frames_of xs) ≡ 0) p.are (own_apart s.now.frame s.callers s.suspended st.represents.apart).0)

  runs : IsRunningAs new.acts new.running p.next t.now
  runs = subst (λ (a : Activation). IsRunningAs new.acts new.running p.next a) (sym now_is)
      (subst (λ (v : ActId). IsRunningAs new.acts v p.next p.first) (sym goes.running)
      (runs_on object new.acts act p.next p.first (paused_stays object m.acts new.acts s.now.frame keeps act (Running p.next) p.first away.0 p.paused)))

  pub simulates_back : (g : Ghosts) (next : Fun) → Some next ≡ slice_get object.funs w.number → Represents g new.store next t
      → AreSuspended object new.acts new.suspended_ids.items t.suspended → length new.acts ≡ length s.callers + length t.suspended
      → AreSliding t.suspended
      → Simulates object new t
  simulates_back g next is represents suspended_ids size sliding = record {
    ghosts = g;
    represents = subst (λ (f : Fun). Represents g new.store f t) (sym (ap (λ (a : Activation). a.fun) now_is ∙ next_is object w p.first next kept is))
        represents;
    fun = subst (λ (a : Activation). nth object.funs a.number ≡ Some a.fun) (sym now_is) kept.fun;
    number = ap (λ (a : Activation). a.number) now_is ∙ kept.number ∙ sym goes.number;
    place = ap (λ (a : Activation). a.place) now_is ∙ kept.place ∙ sym goes.place;
    left = back.beside.left ∙ st.left ∙ sym goes.left;
    turns = omega (arith, back.beside.left, back.beside.turns, st.turns);
    going = back.beside.stop ∙ st.going;
    caller = p.next;
    running = runs;
    callers = subst (AreCallers object new.acts p.next) (sym callers_are)
        (callers_stay object m.acts new.acts s.now.frame keeps p.next p.rest away.1 p.others);
    suspended = suspended_ids;
    all =
        let waiting : length s.callers ≡ suc (length p.rest) = ap (λ (xs : List Activation). length xs) p.are in
        let left : length t.callers ≡ length p.rest = ap (λ (xs : List Activation). length xs) callers_are in
        omega (arith, size, waiting, left);
    handed = subst (λ (a : Activation). AreHanded a t.callers) (sym now_is) (subst (AreHanded p.first) (sym callers_are) handed_on);
    sliding = sliding;
  }

  pub outside_back : KeepsOutside s t
  outside_back = record { input = back.beside.input; cut = back.beside.cut; output = back.beside.output }

pub returned : (object : Object) (m new : Machine) (fun next : Fun) (act : ActId) (w : Waiting) (step : State → State)
    → nth object.funs m.number ≡ Some fun
    → Some next ≡ slice_get object.funs w.number → HasCaller m (Some act) → WaitsAs m act w →
    LeadsTo fun next m.store new.store (Waits (Some w.frame) next) Returned step → GoesBackTo m new act w → acts.HaveOwnIds m.acts
    → new.acts ≡ acts.without_activation m.running m.acts → new.suspended_ids.items ≡ m.suspended_ids.items → GoesOn object m new step
returned object m new fun next act w step is next_is caller told advances goes own ends suspended_ids = record {
  does = λ s st.
      let d = advances.does st.ghosts s (represents_fun object m s fun st is) (waits_so object m s st act w next caller told next_is) in
      let back = d.2.back in
      let keeps = now_ended object m s st new.acts ends in (
        simulates_back object m new s (step s) st act w caller told goes keeps back d.0 next next_is d.1
            (subst (AreSuspended object new.acts new.suspended_ids.items) (sym d.2.suspended)
            (subst (λ (zs : List ActId). AreSuspended object new.acts zs s.suspended) (sym suspended_ids)
            (others_suspended object m s st new.acts keeps)))
            (let same : length (step s).suspended ≡ length s.suspended = ap (λ (xs : List Activation). length xs) d.2.suspended in let size =
            now_one_less object m s st new.acts ends own in omega (arith, size, same))
            (subst AreSliding (sym d.2.suspended) st.sliding),
        outside_back object m new s (step s) st act w caller told goes keeps back,
      );
}

-- The step halts: where the run is done, the machine has the store's counts, and else those from before.
pub passes_halts : (object : Object) (m new : Machine) (fun next : Fun) (store : Store) (h : Halt) (When : State → Type 0) (Shape : State → State
    → Type 0) (step : State → State) → nth object.funs m.number ≡ Some fun → StoreSwitches fun next m.store store (Err h) When Shape step
    → ((s : State) → Simulates object m s → When s) → ((e : _) → h ≡ halt.Ended e → new.store.counts ≡ store.counts)
    → (((e : _) → h ≡ halt.Ended e → ⊥) → IsUnmoved m new) → MachineExecutes MayRunOut object m new (Err h) step
passes_halts object m new fun next store (halt.Stuck why) When Shape step is p waits done same =
    (same (λ e h. cc), λ s st. p st.ghosts s (represents_fun object m s fun st is) (waits s st))
passes_halts object m new fun next store (halt.Ended e) When Shape step is p waits done same = (
  λ s st. record {
    last = frees_frame s;
    is = p.0 st.ghosts s (represents_fun object m s fun st is) (waits s st);
    counts_are = ap with_one_freed (sym st.represents.counts) ∙ sym p.2 ∙ sym (done e refl);
    outside = record { input = refl; cut = refl; output = refl };
  },
  λ h. not_done (sym p.1 ∙ h),
)
  where
    not_done : end.Done ≡ end.Asks → ⊥
    not_done h = cc
passes_halts object m new fun next store (halt.Cut c) When Shape step is p waits done same = (p, (same (λ e h. cc)).counts)
