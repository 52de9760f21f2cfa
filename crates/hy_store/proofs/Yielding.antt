-- What is represented after a subscript yields.
use Rattle.std.proofs.Common.{◌≡◌, ◌<◌, ℕ, zero, suc, false, nat_eq, ◌⊎◌, inl, inr, List, [], ◌∷◌, ◌++◌, length, Option, Some, IsSomeAnd, refl, sym, ap}
use Rattle.std.proofs.Common.{subst, ◌∙◌}
use Rattle.hy_links.specs.Chains.{times}
use Rattle.hy_object.specs.declared.object.Fun.{Fun}
use Rattle.hy_object.specs.declared.stuck.Kind.TheVariants as kind
use Rattle.hy_object.specs.Checks.{held, with_some}
use Rattle.hy_object.specs.Controls.{at_next, hands_out, yield}
use Rattle.hy_object.specs.States as machine
use Rattle.hy_object.specs.States.{Activation, State, nth}
use Rattle.hy_store.specs.declared.frame.Frames.{Frames}
use Rattle.hy_store.specs.declared.frame.Role.{Role}
use Rattle.hy_store.specs.declared.frame.Role.TheVariants.{Called, Projected, Sliding}
use Rattle.hy_store.specs.declared.frame.Slot.TheVariants.{Yielded}
use Rattle.hy_store.specs.declared.store.Store.{Store}
use Rattle.hy_store.specs.Frames.{Changes, Kept, kept, role_at, slot_in, with_role, with_slot}
use Rattle.hy_store.specs.Held.{AreHeld}
use Rattle.hy_store.specs.Memory.{live}
use Rattle.hy_store.specs.Switches.{HandedOut, LeadsTo, Waits, slot_for}
use Rattle.hy_store.specs.Represents.{AreOpened, Ghosts, IsActive, IsKept, Represents, abstract_role, abstract_slot}
use Rattle.hy_store.proofs.Holding.{flip}
use Rattle.hy_store.proofs.Opening.{frame_apart}
use Rattle.hy_store.proofs.Refilled.{changed_here, changed_other, filled_here, filled_other, kept_filled}
use Rattle.hy_store.proofs.Waiting.{all_apart, apart_as, caller_active, caller_apart, frames_of, now_not_caller, now_not_rest, rest_active, running_active}
use Rattle.hy_store.proofs.Waiting.{seen_of, swapped}

-- LISTS

-- who is in a list is the one in the middle, or is in the list without it
between : (xs ys : List Activation) (x : Activation) (i : ℕ) (b : Activation) → nth (xs ++ x ∷ ys) i ≡ Some b → (x ≡ b)
    ⊎ ((j : ℕ) × (nth (xs ++ ys) j ≡ Some b))
between [] ys x zero b h = inl (cc)
between [] ys x (suc i) b h = inr (i, h)
between (y ∷ xs) ys x zero b h = inr (0, h)
between (y ∷ xs) ys x (suc i) b h = elim (between xs ys x i b h) [ inl e ↦ inl e | inr p ↦ inr (suc p.0, p.1) ]

times_between : (f : ℕ) (xs ys : List Activation) (x : Activation) → times f (frames_of (xs ++ x ∷ ys)) ≡ times f (x.frame ∷ frames_of (xs ++ ys))
times_between f [] ys x = refl
times_between f (y ∷ xs) ys x = swapped f x.frame y.frame (frames_of (xs ++ x ∷ ys)) (frames_of (xs ++ ys)) (times_between f xs ys x)

-- THE STEP

-- the access of that name is in a slot of the caller, in that frame, which goes on, and the one that ran is sliding
pub record Yields (old new : Store) (caller into name : ℕ) : Type 0 where
  pub mid : Frames
  pub filled : Changes (kept old.frames) (kept mid) caller (with_slot into (Yielded name old.frame))
  pub sliding : Changes (kept mid) (kept new.frames) old.frame (with_role Sliding)
  pub blocks : new.blocks ≡ old.blocks
  pub opened : new.opened ≡ old.opened
  pub counts : new.counts ≡ old.counts
  pub frame : new.frame ≡ caller

module _ (g : Ghosts) (store : Store) (fun : Fun) (s : State) (represents : Represents g store fun s) (slot : ℕ) where
  role_is : role_at (kept store.frames store.frame) ≡ Some represents.mine.0.role
  role_is = ap role_at represents.mine.1

  yield_at : (name : ℕ) (role : Role) → held (abstract_slot (slot_in (kept store.frames store.frame) slot)) ≡ Some name → abstract_role role ≡ s.now.role
      → yield s slot ≡ hands_out s name (abstract_role role) s.callers
  yield_at name role h r =
      ap (λ o. with_some s kind.Slot o (λ n. hands_out s n s.now.role s.callers)) (ap held (represents.slots slot) ∙ h)
      ∙ ap (λ r. hands_out s name r s.callers) (sym r)

  projected : (role : Role) (into : ℕ) → slot_for (Some role) ≡ Some into → abstract_role role ≡ machine.Projected into
  projected (Called word) into h = absurd (cc)
  projected (Projected other) into h = let e : other ≡ into = cc in ap (λ n. machine.Projected n) e
  projected Sliding into h = absurd (cc)

  pub yield_is : (name into : ℕ) → held (abstract_slot (slot_in (kept store.frames store.frame) slot)) ≡ Some name
      → slot_for (role_at (kept store.frames store.frame)) ≡ Some into → yield s slot ≡ hands_out s name (machine.Projected into) s.callers
  yield_is name into h r = yield_at name represents.mine.0.role h represents.mine.3
      ∙ ap (λ r. hands_out s name r s.callers) (projected represents.mine.0.role into (ap slot_for (sym role_is) ∙ r))

-- WHAT IS SEEN

module _ (old new : Store) (fun next : Fun) (into name : ℕ) (g : Ghosts) (s : State) (represents : Represents g old fun s) (a : Activation)
    (rest : List Activation) (is : s.callers ≡ a ∷ rest) (a_fun : a.fun ≡ next) (y : Yields old new a.frame into name)
    (room : IsSomeAnd (kept old.frames a.frame) (λ one. into < length one.slots)) where
  active : IsActive g old s.slots a
  active = caller_active g old fun s represents a rest is

  theirs : Kept
  theirs = active.mine.0

  theirs_is : kept old.frames a.frame ≡ Some theirs
  unfolding theirs
  theirs_is = active.mine.1

  fits : into < length theirs.slots
  fits = parts (kept old.frames a.frame) theirs theirs_is room
    where
      parts : (found : Option Kept) (one : Kept) → found ≡ Some one → IsSomeAnd found (λ was. into < length was.slots) → into < length one.slots
      parts found one e h = rw e at h

  apart_now : nat_eq old.frame a.frame ≡ false
  apart_now = ap (λ f. nat_eq f a.frame) represents.frame ∙ now_not_caller g old fun s represents a rest is

  -- the frames of others are kept
  mid_other : (b : ℕ) → nat_eq a.frame b ≡ false → kept y.mid b ≡ kept old.frames b
  mid_other b differs = changed_other (kept old.frames) (kept y.mid) a.frame (with_slot into (Yielded name old.frame)) theirs theirs_is y.filled b differs

  mine_mid : kept y.mid old.frame ≡ Some represents.mine.0
  mine_mid = mid_other old.frame (flip a.frame old.frame ∙ apart_now) ∙ represents.mine.1

  new_other : (b : ℕ) → nat_eq old.frame b ≡ false → kept new.frames b ≡ kept y.mid b
  new_other b differs = changed_other (kept y.mid) (kept new.frames) old.frame (with_role Sliding) represents.mine.0 mine_mid y.sliding b differs

  mine_new : kept new.frames old.frame ≡ Some (with_role Sliding represents.mine.0)
  mine_new = changed_here (kept y.mid) (kept new.frames) old.frame (with_role Sliding) represents.mine.0 mine_mid y.sliding

  abbrev slots_now : ℕ → ℕ → machine.Slot
  slots_now = machine.with_slot s.slots a.frame into (machine.Yielded name s.now.frame)

  other_slots : (b : ℕ) → nat_eq a.frame b ≡ false → ((k : ℕ) → s.slots b k ≡ abstract_slot (slot_in (kept old.frames b) k)) → (k : ℕ)
      → slots_now b k ≡ abstract_slot (slot_in (kept y.mid b) k)
  other_slots b differs was k =
      filled_other (kept old.frames) (kept y.mid) a.frame into (Yielded name old.frame) theirs theirs_is fits y.filled s.slots
      (machine.Yielded name s.now.frame) b differs was k

  -- the caller has the access in its slot
  caller_now : IsActive g new slots_now a
  caller_now = record {
    own = (active.own.0, ap (λ b. live b a.frame) y.blocks ∙ active.own.1, active.own.2);
    slots_are = λ k. filled_here (kept old.frames) (kept y.mid) a.frame into (Yielded name old.frame) theirs theirs_is fits y.filled s.slots
        (machine.Yielded name s.now.frame) (ap (λ f. machine.Yielded name f) (sym represents.frame)) active.slots_are k
        ∙ ap (λ o. abstract_slot (slot_in o k)) (sym (new_other a.frame apart_now));
    mine = subst (λ o. IsKept o a.fun a.role) (sym (new_other a.frame apart_now))
        (kept_filled (kept old.frames) (kept y.mid) a.frame into (Yielded name old.frame) a.fun a.role active.mine y.filled);
    no_array = active.no_array;
  }

  abbrev suspended_now : Activation
  suspended_now = record (at_next s.now) { role = machine.Sliding }

  -- the one that ran is suspended
  ran_now : IsActive g new slots_now suspended_now
  ran_now =
      let was = running_active g old fun s represents in
      let differs : nat_eq a.frame s.now.frame ≡ false = flip a.frame s.now.frame ∙ now_not_caller g old fun s represents a rest is in
      record {
        own = (was.own.0, ap (λ b. live b s.now.frame) y.blocks ∙ was.own.1, was.own.2);
        slots_are = λ k. other_slots s.now.frame differs was.slots_are k ∙ ap (λ f. abstract_slot (slot_in (kept y.mid f) k)) (sym represents.frame)
            ∙ ap (λ o. abstract_slot (slot_in o k)) mine_mid ∙ ap (λ o. abstract_slot (slot_in o k)) (sym mine_new)
            ∙ ap (λ f. abstract_slot (slot_in (kept new.frames f) k)) represents.frame;
        mine = (
          with_role Sliding represents.mine.0,
          ap (kept new.frames) (sym represents.frame) ∙ mine_new,
          represents.mine.2
              ∙ ap (λ (f : Fun). f.slots) represents.fun_is,
          refl,
        );
        no_array = was.no_array;
      }

  -- all others wait as they did
  other_now : (i : ℕ) (b : Activation) → nth (rest ++ s.suspended) i ≡ Some b → IsActive g new slots_now b
  other_now i b h =
      let was = rest_active g old fun s represents a rest is i b h in
      let from_caller : nat_eq a.frame b.frame ≡ false = frame_apart a.frame (rest ++ s.suspended) (caller_apart g old fun s represents a rest is) i b h in
      let from_now : nat_eq old.frame b.frame ≡ false = ap (λ f. nat_eq f b.frame) represents.frame ∙ now_not_rest g old fun s represents a rest is i b h in
      record {
        own = (was.own.0, ap (λ c. live c b.frame) y.blocks ∙ was.own.1, was.own.2);
        slots_are = λ k. other_slots b.frame from_caller was.slots_are k ∙ ap (λ o. abstract_slot (slot_in o k)) (sym (new_other b.frame from_now));
        mine = subst (λ o. IsKept o b.fun b.role) (sym (new_other b.frame from_now ∙ mid_other b.frame from_caller)) was.mine;
        no_array = was.no_array;
      }

  wait_now : (i : ℕ) (b : Activation) → nth (rest ++ suspended_now ∷ s.suspended) i ≡ Some b → IsActive g new slots_now b
  wait_now i b h = elim (between rest s.suspended suspended_now i b h) [
    | inl e ↦ subst (IsActive g new slots_now) e ran_now
    | inr p ↦ other_now p.0 b p.1
  ]

  pub yielded_seen : Represents g new next (hands_out s name (machine.Projected into) (a ∷ rest))
  yielded_seen = seen_of g new next (hands_out s name (machine.Projected into) (a ∷ rest))
      (subst (λ b. AreHeld (live b) g.is_array s.counts.blocks s.cells s.words s.freed) (sym y.blocks) represents.held)
      (subst (λ b. AreOpened new.opened (live b) s.counts.blocks g.name s.access s.counts.opened) (sym y.blocks)
      (subst (λ o. AreOpened o (live old.blocks) s.counts.blocks g.name s.access s.counts.opened) (sym y.opened) represents.opened))
      y.frame (sym a_fun) caller_now (y.counts ∙ represents.counts) wait_now
      (apart_as (s.now.frame ∷ a.frame ∷ frames_of (rest ++ s.suspended)) (a.frame ∷ frames_of (rest ++ suspended_now ∷ s.suspended))
      (λ f. swapped f s.now.frame a.frame (frames_of (rest ++ suspended_now ∷ s.suspended)) (frames_of (rest ++ s.suspended))
      (times_between f rest s.suspended suspended_now))
      (all_apart g old fun s represents a rest is))

  pub handed_out : HandedOut s (hands_out s name (machine.Projected into) (a ∷ rest))
  handed_out = record {
    back = record {
      caller = a;
      rest = rest;
      waits = is;
      now = refl;
      callers = refl;
      beside = record { left = refl; turns = refl; input = refl; cut = refl; output = refl; stop = refl };
    };
    suspended = refl;
  }

-- a subscript yields: the answer of the instruction
pub yielded_goes : (old new : Store) (fun next : Fun) (slot frame into name : ℕ) → Yields old new frame into name
    → IsSomeAnd (kept old.frames frame) (λ one. into < length one.slots) →
    held (abstract_slot (slot_in (kept old.frames old.frame) slot)) ≡ Some name → slot_for (role_at (kept old.frames old.frame)) ≡ Some into
    → LeadsTo fun next old new (Waits (Some frame) next) HandedOut (λ s. yield s slot)
yielded_goes old new fun next slot frame into name y room holds role = record {
  does = λ g s represents (a, rest, is, a_frame, a_fun).
      let y_at : Yields old new a.frame into name = subst (λ f. Yields old new f into name) (sym a_frame) y in
      let room_at : IsSomeAnd (kept old.frames a.frame) (λ one. into < length one.slots) =
      subst (λ f. IsSomeAnd (kept old.frames f) (λ one. into < length one.slots)) (sym a_frame) room in
      let e = sym (yield_is g old fun s represents slot name into holds role ∙ ap (λ cs. hands_out s name (machine.Projected into) cs) is) in (
        g,
        subst (Represents g new next) e (yielded_seen old new fun next into name g s represents a rest is a_fun y_at room_at),
        subst (HandedOut s) e (handed_out old new fun next into name g s represents a rest is a_fun y_at room_at),
      );
}
