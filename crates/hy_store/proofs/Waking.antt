-- What is represented after a suspended subscript goes on.
use Rattle.std.proofs.Common.{◌≡◌, ◌<◌, ◌+◌, ℕ, zero, suc, false, nat_eq, cond, inl, inr, List, [], ◌∷◌, ◌++◌, length, Option, Some, None, refl, sym, ap}
use Rattle.std.proofs.Common.{subst, ◌∙◌, arith}
use Rattle.hy_links.specs.Chains.{times}
use Rattle.hy_object.specs.declared.object.Fun.{Fun}
use Rattle.hy_object.specs.Controls.{Taken, at_next, beside, resumes, taken}
use Rattle.hy_object.specs.States as machine
use Rattle.hy_object.specs.States.{Activation, State, nth}
use Rattle.hy_store.specs.declared.frame.Slot.TheVariants.{Empty}
use Rattle.hy_store.specs.declared.store.Store.{Store}
use Rattle.hy_store.specs.Frames.{Changes, kept, slot_in, with_slot}
use Rattle.hy_store.specs.Held.{AreHeld}
use Rattle.hy_store.specs.Memory.{live}
use Rattle.hy_store.specs.Represents.{AreOpened, Ghosts, IsActive, IsKept, Represents, abstract_slot}
use Rattle.hy_store.proofs.Holding.{same_or_other}
use Rattle.hy_store.proofs.Opening.{frame_apart}
use Rattle.hy_store.proofs.Refilled.{changed_other, filled_here, filled_other, kept_filled}
use Rattle.hy_store.proofs.Waiting.{apart_as, frames_of, running_active, seen_of, swapped, times_joined}

-- WHO IS TAKEN

-- The one that is found is in the list, and has that frame; the others are in the list too, and all frames are still there.
pub record IsTaken (frame : ℕ) (xs : List Activation) (t : Taken) : Type 0 where
  pub at : ℕ
  pub there : nth xs at ≡ Some t.found
  pub frame_is : t.found.frame ≡ frame
  pub others : (i : ℕ) (b : Activation) → nth t.others i ≡ Some b → (j : ℕ) × (nth xs j ≡ Some b)
  pub frames : (f : ℕ) → times f (frames_of xs) ≡ times f (t.found.frame ∷ frames_of t.others)

pub is_taken : (frame : ℕ) (xs : List Activation) (t : Taken) → taken frame xs ≡ Some t → IsTaken frame xs t
is_taken frame [] t h = absurd (cc)
is_taken frame (a ∷ rest) t h = let so : (u : Taken) → taken frame rest ≡ Some u → IsTaken frame rest u = λ u is. is_taken frame rest u is in
    elim (same_or_other a.frame frame) [
      | inl same ↦ let e : Some (record { found = a; others = rest }) ≡ Some t =
          sym (ap (λ b. cond b (Some (record { found = a; others = rest })) (beside a (taken frame rest))) same.0) ∙ h in first t same.1 (inside e)
      | inr differs ↦
          further so (taken frame rest) refl (sym (ap (λ b. cond b (Some (record { found = a; others = rest })) (beside a (taken frame rest))) differs) ∙ h)
    ]
  where
    inside : {x y : Taken} → Some x ≡ Some y → x ≡ y
    inside e = cc

    first : (t : Taken) → a.frame ≡ frame → record { found = a; others = rest } ≡ t → IsTaken frame (a ∷ rest) t
    first t is e = subst (IsTaken frame (a ∷ rest)) e (record { at = 0; there = refl; frame_is = is; others = λ i b k. (suc i, k); frames = λ f. refl })

    further : ((u : Taken) → taken frame rest ≡ Some u → IsTaken frame rest u) → (o : Option Taken) → taken frame rest ≡ o → beside a o ≡ Some t
        → IsTaken frame (a ∷ rest) t
    further so None is e = absurd (cc)
    further so (Some u) is e =
        let was = so u is in
        let now : IsTaken frame (a ∷ rest) (record { found = u.found; others = a ∷ u.others }) = record {
          at = suc was.at;
          there = was.there;
          frame_is = was.frame_is;
          others = among u was;
          frames = λ f. swapped f u.found.frame a.frame (frames_of rest) (frames_of u.others) (was.frames f);
        } in
        subst (IsTaken frame (a ∷ rest)) (inside e) now
      where
        among : (u : Taken) → IsTaken frame rest u → (i : ℕ) (b : Activation) → nth (a ∷ u.others) i ≡ Some b → (j : ℕ) × (nth (a ∷ rest) j ≡ Some b)
        among u was zero b k = (0, k)
        among u was (suc i) b k = let p = was.others i b k in (suc p.0, p.1)

-- who is after others in a list
pub nth_behind : (xs ys : List Activation) (i : ℕ) (b : Activation) → nth ys i ≡ Some b → (j : ℕ) × (nth (xs ++ ys) j ≡ Some b)
nth_behind [] ys i b h = (i, h)
nth_behind (x ∷ xs) ys i b h = let p = nth_behind xs ys i b h in (suc p.0, p.1)

nth_of_joined : (xs ys zs : List Activation) → ((i : ℕ) (b : Activation) → nth ys i ≡ Some b → (j : ℕ) × (nth zs j ≡ Some b)) → (i : ℕ) (b : Activation)
    → nth (xs ++ ys) i ≡ Some b → (j : ℕ) × (nth (xs ++ zs) j ≡ Some b)
nth_of_joined [] ys zs of i b h = of i b h
nth_of_joined (x ∷ xs) ys zs of zero b h = (0, h)
nth_of_joined (x ∷ xs) ys zs of (suc i) b h = let p = nth_of_joined xs ys zs of i b h in (suc p.0, p.1)

-- AFTER IT GOES ON

-- the slot of the running activation is empty, and the one in that frame goes on
pub record Wakes (old new : Store) (slot woken : ℕ) : Type 0 where
  pub emptied : Changes (kept old.frames) (kept new.frames) old.frame (with_slot slot Empty)
  pub blocks : new.blocks ≡ old.blocks
  pub opened : new.opened ≡ old.opened
  pub counts : new.counts ≡ old.counts
  pub frame : new.frame ≡ woken

module _ (old new : Store) (fun next : Fun) (slot frame : ℕ) (w : Wakes old new slot frame) (in_row : slot < fun.slots) (g : Ghosts) (s : State)
    (represents : Represents g old fun s) (t : Taken) (is : taken frame s.suspended ≡ Some t) (t_fun : t.found.fun ≡ next) where
  took : IsTaken frame s.suspended t
  took = is_taken frame s.suspended t is

  slot_fits : slot < length represents.mine.0.slots
  slot_fits = omega (arith, represents.mine.2)

  abbrev slots_now : ℕ → ℕ → machine.Slot
  slots_now = machine.with_slot s.slots s.now.frame slot machine.Empty

  -- who waited or was suspended is as it was
  other_now : (i : ℕ) (b : Activation) → nth (s.callers ++ s.suspended) i ≡ Some b → IsActive g new slots_now b
  other_now i b h =
      let was = represents.waiting i b h in
      let differs : nat_eq old.frame b.frame ≡ false = ap (λ f. nat_eq f b.frame) represents.frame
      ∙ frame_apart s.now.frame (s.callers ++ s.suspended) represents.apart i b h in
      record {
        own = (was.own.0, ap (λ c. live c b.frame) w.blocks ∙ was.own.1, was.own.2);
        slots_are = λ k. ap (λ f. machine.with_slot s.slots f slot machine.Empty b.frame k) (sym represents.frame)
            ∙ filled_other (kept old.frames) (kept new.frames) old.frame slot Empty represents.mine.0 represents.mine.1 slot_fits w.emptied s.slots
            machine.Empty b.frame differs was.slots_are k;
        mine = subst (λ o. IsKept o b.fun b.role)
            (sym (changed_other (kept old.frames) (kept new.frames) old.frame (with_slot slot Empty) represents.mine.0 represents.mine.1 w.emptied b.frame
            differs)) was.mine;
        no_array = was.no_array;
      }

  -- the one that ran waits, and its slot is empty
  ran_now : IsActive g new slots_now (at_next s.now)
  ran_now =
      let was = running_active g old fun s represents in
      record {
        own = (was.own.0, ap (λ c. live c s.now.frame) w.blocks ∙ was.own.1, was.own.2);
        slots_are = λ k. ap (λ f. machine.with_slot s.slots f slot machine.Empty f k) (sym represents.frame)
            ∙ filled_here (kept old.frames) (kept new.frames) old.frame slot Empty represents.mine.0 represents.mine.1 slot_fits w.emptied s.slots
            machine.Empty refl (λ k. ap (λ f. s.slots f k) represents.frame ∙ represents.slots k) k
            ∙ ap (λ f. abstract_slot (slot_in (kept new.frames f) k)) represents.frame;
        mine = subst (λ f. IsKept (kept new.frames f) s.now.fun s.now.role) represents.frame
            (subst (λ f. IsKept (kept new.frames old.frame) f s.now.role) represents.fun_is
            (kept_filled (kept old.frames) (kept new.frames) old.frame slot Empty fun s.now.role represents.mine w.emptied));
        no_array = was.no_array;
      }

  found_now : IsActive g new slots_now t.found
  found_now = let p = nth_behind s.callers s.suspended took.at t.found took.there in other_now p.0 t.found p.1

  wait_now : (i : ℕ) (b : Activation) → nth (at_next s.now ∷ s.callers ++ t.others) i ≡ Some b → IsActive g new slots_now b
  wait_now zero b h = let e : at_next s.now ≡ b = cc in subst (IsActive g new slots_now) e ran_now
  wait_now (suc i) b h = let p = nth_of_joined s.callers t.others s.suspended took.others i b h in other_now p.0 b p.1

  same_frames : (f : ℕ)
      → times f (t.found.frame ∷ s.now.frame ∷ frames_of (s.callers ++ t.others)) ≡ times f (s.now.frame ∷ frames_of (s.callers ++ s.suspended))
  same_frames f =
      counted f s.now.frame t.found.frame (frames_of (s.callers ++ t.others)) (frames_of (s.callers ++ s.suspended)) (frames_of t.others)
      (frames_of s.suspended) (times f (frames_of s.callers)) (times_joined f s.callers t.others) (times_joined f s.callers s.suspended) (took.frames f)
    where
      counted : (f x y : ℕ) (others all left suspended : List ℕ) (n : ℕ) → times f others ≡ n + times f left → times f all ≡ n + times f suspended
          → times f suspended ≡ times f (y ∷ left) → times f (y ∷ x ∷ others) ≡ times f (x ∷ all)
      counted f x y others all left suspended n a b c = grind arith

  pub woken_seen : Represents g new next (resumes s slot t)
  woken_seen = seen_of g new next (resumes s slot t)
      (subst (λ b. AreHeld (live b) g.is_array s.counts.blocks s.cells s.words s.freed) (sym w.blocks) represents.held)
      (subst (λ b. AreOpened new.opened (live b) s.counts.blocks g.name s.access s.counts.opened) (sym w.blocks)
      (subst (λ o. AreOpened o (live old.blocks) s.counts.blocks g.name s.access s.counts.opened) (sym w.opened) represents.opened))
      (w.frame ∙ sym took.frame_is) (sym t_fun) found_now (w.counts ∙ represents.counts) wait_now
      (apart_as (s.now.frame ∷ frames_of (s.callers ++ s.suspended)) (t.found.frame ∷ s.now.frame ∷ frames_of (s.callers ++ t.others)) same_frames
      represents.apart)
