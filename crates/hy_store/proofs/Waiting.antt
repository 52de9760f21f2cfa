-- Activations that wait or are suspended, and what is seen when one of them goes on.
use Rattle.std.proofs.Common.{◌≡◌, ◌+◌, ℕ, suc, false, nat_eq, List, [], ◌∷◌, ◌++◌, map, Some, sym, ap, subst, ◌∙◌, arith}
use Rattle.hy_links.specs.Chains.{AreApart, times}
use Rattle.hy_links.proofs.Chains.{times-le}
use Rattle.hy_object.specs.declared.object.Fun.{Fun}
use Rattle.hy_object.specs.Controls.{at_next}
use Rattle.hy_object.specs.States.{State, Activation, nth}
use Rattle.hy_store.specs.declared.store.Store.{Store}
use Rattle.hy_store.specs.Frames.{kept, slot_in}
use Rattle.hy_store.specs.Held.{AreHeld}
use Rattle.hy_store.specs.Memory.{live}
use Rattle.hy_store.specs.Represents.{AreOpened, Ghosts, IsActive, IsKept, Represents, abstract_slot}
use Rattle.hy_store.proofs.Opening.{frame_apart}

-- the frames of activations
abbrev pub frames_of : List Activation → List ℕ
frames_of xs = map (λ (a : Activation). a.frame) xs

-- FRAMES

-- one more in front of all
pub swapped : (f x y : ℕ) (xs ys : List ℕ) → times f xs ≡ times f (x ∷ ys) → times f (y ∷ xs) ≡ times f (x ∷ y ∷ ys)
swapped f x y xs ys h = grind arith

pub times_joined : (f : ℕ) (xs ys : List Activation) → times f (frames_of (xs ++ ys)) ≡ times f (frames_of xs) + times f (frames_of ys)
times_joined f [] ys = omega arith
times_joined f (x ∷ xs) ys = one_more f x.frame (frames_of (xs ++ ys)) (frames_of xs) (times f (frames_of ys)) (times_joined f xs ys)
  where
    one_more : (f x : ℕ) (all xs : List ℕ) (n : ℕ) → times f all ≡ times f xs + n → times f (x ∷ all) ≡ times f (x ∷ xs) + n
    one_more f x all xs n h = grind arith

-- lists of frames that have the same frames, in another order, are alike
pub apart_as : (xs ys : List ℕ) → ((f : ℕ) → times f ys ≡ times f xs) → AreApart xs → AreApart ys
apart_as xs ys same apart f = omega (arith, same f, apart f)

-- without the first, the others are still apart
pub apart_rest : (x : ℕ) (xs : List ℕ) → AreApart (x ∷ xs) → AreApart xs
apart_rest x xs apart f = omega (arith, times-le f x xs, apart f)

-- WHO GOES ON

-- the running activation, as it is once it waits
pub running_active : (g : Ghosts) (store : Store) (fun : Fun) (s : State) → Represents g store fun s → IsActive g store s.slots (at_next s.now)
running_active g store fun s represents = record {
  own = (represents.own.0, ap (live store.blocks) (sym represents.frame) ∙ represents.own.1, represents.own.2 ∙ ap (λ (f : Fun). f.words) represents.fun_is);
  slots_are = λ k. represents.slots k ∙ ap (λ f. abstract_slot (slot_in (kept store.frames f) k)) represents.frame;
  mine = subst (λ f. IsKept (kept store.frames f) s.now.fun s.now.role) represents.frame
      (subst (λ f. IsKept (kept store.frames store.frame) f s.now.role) represents.fun_is represents.mine);
  no_array = ap g.is_array (sym represents.frame) ∙ represents.no_array;
}

-- an activation that waited runs
pub seen_of : (g : Ghosts) (store : Store) (fun : Fun) (s : State) → AreHeld (live store.blocks) g.is_array s.counts.blocks s.cells s.words s.freed
    → AreOpened store.opened (live store.blocks) s.counts.blocks g.name s.access s.counts.opened → store.frame ≡ s.now.frame → fun ≡ s.now.fun →
    IsActive g store s.slots s.now → store.counts ≡ s.counts
    → ((i : ℕ) (a : Activation) → nth (s.callers ++ s.suspended) i ≡ Some a → IsActive g store s.slots a)
    → AreApart (s.now.frame ∷ frames_of (s.callers ++ s.suspended)) → Represents g store fun s
seen_of g store fun s held opened frame fun_is active counts waiting apart = record {
  held = held;
  opened = opened;
  frame = frame;
  fun_is = fun_is;
  own = (active.own.0, ap (live store.blocks) frame ∙ active.own.1, active.own.2 ∙ ap (λ (f : Fun). f.words) (sym fun_is));
  slots = λ k. active.slots_are k ∙ ap (λ f. abstract_slot (slot_in (kept store.frames f) k)) (sym frame);
  mine = subst (λ f. IsKept (kept store.frames f) fun s.now.role) (sym frame)
      (subst (λ f. IsKept (kept store.frames s.now.frame) f s.now.role) (sym fun_is) active.mine);
  no_array = ap g.is_array frame ∙ active.no_array;
  counts = counts;
  waiting = waiting;
  apart = apart;
}

-- THE INNERMOST CALLER

-- the innermost of those that wait goes on, and the others still wait
module _ (g : Ghosts) (store : Store) (fun : Fun) (s : State) (represents : Represents g store fun s) (a : Activation) (rest : List Activation)
    (is : s.callers ≡ a ∷ rest) where
  all_are : s.callers ++ s.suspended ≡ a ∷ rest ++ s.suspended
  all_are = ap (λ xs. xs ++ s.suspended) is

  pub caller_first : nth (s.callers ++ s.suspended) 0 ≡ Some a
  caller_first = ap (λ xs. nth xs 0) all_are

  pub caller_active : IsActive g store s.slots a
  caller_active = represents.waiting 0 a caller_first

  pub rest_behind : (i : ℕ) (b : Activation) → nth (rest ++ s.suspended) i ≡ Some b → nth (s.callers ++ s.suspended) (suc i) ≡ Some b
  rest_behind i b h = ap (λ xs. nth xs (suc i)) all_are ∙ h

  pub rest_active : (i : ℕ) (b : Activation) → nth (rest ++ s.suspended) i ≡ Some b → IsActive g store s.slots b
  rest_active i b h = represents.waiting (suc i) b (rest_behind i b h)

  -- the frames of the running one, the caller and the others
  pub all_apart : AreApart (s.now.frame ∷ a.frame ∷ frames_of (rest ++ s.suspended))
  all_apart = subst (λ xs. AreApart (s.now.frame ∷ frames_of xs)) all_are represents.apart

  pub caller_apart : AreApart (a.frame ∷ frames_of (rest ++ s.suspended))
  caller_apart = apart_rest s.now.frame (a.frame ∷ frames_of (rest ++ s.suspended)) all_apart

  -- the running one's frame is none of theirs
  pub now_not_caller : nat_eq s.now.frame a.frame ≡ false
  now_not_caller = frame_apart s.now.frame (s.callers ++ s.suspended) represents.apart 0 a caller_first

  pub now_not_rest : (i : ℕ) (b : Activation) → nth (rest ++ s.suspended) i ≡ Some b → nat_eq s.now.frame b.frame ≡ false
  now_not_rest i b h = frame_apart s.now.frame (s.callers ++ s.suspended) represents.apart (suc i) b (rest_behind i b h)
