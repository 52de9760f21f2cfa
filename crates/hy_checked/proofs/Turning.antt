-- Jumps, and the turns that they take.
use Rattle.std.proofs.Common.{◌≡◌, ◌≢◌, ◌<◌, ◌≤◌, ◌+◌, ◌-◌, ℕ, suc, Bool, true, false, nat_lt, cond, Err, refl, sym, ap, subst}
use Rattle.std.proofs.Common.{◌∙◌, arith}
use Rattle.std.proofs.lemmas.Bool.Decides.{nat_tests}
use Rattle.hy_base.specs.declared.run.Counts.{Counts}
use Rattle.hy_base.specs.declared.run.End.TheVariants as end
use Rattle.hy_object.specs.declared.object.Fun.{Fun}
use Rattle.hy_object.specs.declared.object.Object.{Object}
use Rattle.hy_object.specs.Checks.{goes_to, next, take_turn, turn_of, with_turn}
use Rattle.hy_object.specs.Controls.{jump}
use Rattle.hy_object.specs.States.{State}
use Rattle.hy_store.specs.declared.halt.Halt.TheVariants as halt
use Rattle.hy_store.specs.declared.store.Store.{Store}
use Rattle.hy_store.specs.Represents.{Ghosts, Represents}
use Rattle.hy_store.proofs.Storing.{seen_at}
use Rattle.hy_checked.specs.declared.machine.Machine.{Machine}
use Rattle.hy_store.specs.Executes.{InPlace}
use Rattle.hy_checked.specs.Executes.{MachineExecutes, GoesOn}
use Rattle.hy_checked.specs.Simulates.{Simulates}
use Rattle.hy_checked.proofs.Lifting.{handed_at_next}

-- a turn was counted
abbrev pub turned : Store → Store
turned store = record store { counts = record store.counts { turns = store.counts.turns + 1 } }

pub turned_seen : (g : Ghosts) (store : Store) (fun : Fun) (s : State) (left : ℕ) → Represents g store fun s
    → Represents g (turned store) fun (with_turn s left)
turned_seen g store fun s left represents = record {
  held = represents.held;
  opened = represents.opened;
  frame = represents.frame;
  fun_is = represents.fun_is;
  own = represents.own;
  slots = represents.slots;
  mine = represents.mine;
  no_array = represents.no_array;
  counts = (let e : store.counts.turns + 1 ≡ suc store.counts.turns = omega arith in ap (λ (n : ℕ). record store.counts { turns = n }) e)
      ∙ ap (λ (c : Counts). record c { turns = suc c.turns }) represents.counts;
  waiting = λ i a h. let w = represents.waiting i a h in record { own = w.own; slots_are = w.slots_are; mine = w.mine; no_array = w.no_array };
  apart = represents.apart;
}

-- at another place of the same function
pub simulates_at : (object : Object) (m : Machine) (s : State) (place : ℕ) → Simulates object m s
    → Simulates object (record m { place = place }) (goes_to s place)
simulates_at object m s place st = record {
  ghosts = st.ghosts;
  represents = seen_at st.ghosts m.store s.now.fun s place st.represents;
  fun = st.fun;
  number = st.number;
  place = refl;
  left = st.left;
  turns = st.turns;
  going = st.going;
  caller = st.caller;
  running = (let r = st.running in record { one = r.one; is = r.is; standing_is = r.standing_is; number = r.number; frame = r.frame });
  callers = st.callers;
  suspended = st.suspended;
  all = st.all;
  handed = handed_at_next s.now place s.callers st.handed;
  sliding = st.sliding;
}

pub simulates_turned : (object : Object) (m : Machine) (s : State) (left : ℕ) → s.left ≡ suc left → Simulates object m s
    → Simulates object (record m { store = turned m.store; left = m.left - 1 }) (with_turn s left)
simulates_turned object m s left e st = record {
  ghosts = st.ghosts;
  represents = turned_seen st.ghosts m.store s.now.fun s left st.represents;
  fun = st.fun;
  number = st.number;
  place = st.place;
  left = omega (arith, e, st.left);
  turns = omega (arith, e, st.turns);
  going = st.going;
  caller = st.caller;
  running = st.running;
  callers = st.callers;
  suspended = st.suspended;
  all = st.all;
  handed = st.handed;
  sliding = st.sliding;
}

less : (a b : ℕ) → a < b → nat_lt a b ≡ true
less a b h = grind (arith, nat_tests)

not_less : (a b : ℕ) → b ≤ a → nat_lt a b ≡ false
not_less a b h = grind (arith, nat_tests)

pub jumps_on : (s : State) (target : ℕ) → s.now.place < target → jump s target ≡ goes_to s target
jumps_on s target h = ap (λ (b : Bool). cond b (goes_to s target) (take_turn s (λ t. goes_to t target))) (less s.now.place target h)

pub jumps_back : (s : State) (target : ℕ) → target ≤ s.now.place → jump s target ≡ turn_of s s.left (λ t. goes_to t target)
jumps_back s target h = ap (λ (b : Bool). cond b (goes_to s target) (take_turn s (λ t. goes_to t target))) (not_less s.now.place target h)

pub jump_goes_on : (object : Object) (m : Machine) (target : ℕ) → m.place < target → GoesOn object m (record m { place = target }) (λ s. jump s target)
jump_goes_on object m target h = record {
  does = λ s st.
      let below : s.now.place < target = omega (arith, st.place, h) in (
        subst (Simulates object (record m { place = target })) (sym (jumps_on s target below)) (simulates_at object m s target st),
        rw (jumps_on s target below) (record { input = refl; cut = refl; output = refl }),
      );
}

pub jump_goes_back : (object : Object) (m : Machine) (target : ℕ) → target ≤ m.place → m.left ≢ 0
    → GoesOn object m (record m { store = turned m.store; left = m.left - 1; place = target }) (λ s. jump s target)
jump_goes_back object m target h some = record {
  does = λ s st.
      let above : target ≤ s.now.place = omega (arith, st.place, h) in
      let e : s.left ≡ suc (m.left - 1) = one_less s.left m.left st.left some in
      let is : jump s target ≡ goes_to (with_turn s (m.left - 1)) target =
      jumps_back s target above ∙ ap (λ (n : ℕ). turn_of s n (λ t. goes_to t target)) e in (
        subst (Simulates object (record m { store = turned m.store; left = m.left - 1; place = target })) (sym is)
            (simulates_at object (record m { store = turned m.store; left = m.left - 1 }) (with_turn s (m.left - 1)) target
            (simulates_turned object m s (m.left - 1) e st)),
        rw is (record { input = refl; cut = refl; output = refl }),
      );
}
  where
    one_less : (a b : ℕ) → a ≡ b → b ≢ 0 → a ≡ suc (b - 1)
    one_less a b h some = omega (arith, h, some)

pub jump_is_spent : (object : Object) (m : Machine) (target : ℕ) → target ≤ m.place → m.left ≡ 0
    → MachineExecutes InPlace object m m (Err (halt.Ended end.Spent)) (λ s. jump s target)
jump_is_spent object m target h none = (
  λ s st.
      let above : target ≤ s.now.place = omega (arith, st.place, h) in
      record {
        last = s;
        is = jumps_back s target above ∙ ap (λ (n : ℕ). turn_of s n (λ t. goes_to t target)) (st.left ∙ none);
        counts_are = sym st.represents.counts;
        outside = record { input = refl; cut = refl; output = refl };
      },
  λ h. absurd (cc),
)

-- the next instruction follows
pub next_goes_on : (object : Object) (m : Machine) (step : State → State) → ((s : State) → Simulates object m s → step s ≡ next s)
    → GoesOn object m (record m { place = m.place + 1 }) step
next_goes_on object m step is = record {
  does = λ s st.
      let e : suc s.now.place ≡ m.place + 1 = omega (arith, st.place) in
      let here : Simulates object (record m { place = m.place + 1 }) (next s) =
      subst (λ (n : ℕ). Simulates object (record m { place = n }) (next s)) e (simulates_at object m s (suc s.now.place) st) in
      (subst (Simulates object (record m { place = m.place + 1 })) (sym (is s st)) here, rw (is s st) (record { input = refl; cut = refl; output = refl }));
}
