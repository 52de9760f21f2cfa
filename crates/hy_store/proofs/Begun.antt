-- What is represented at the start of a run.
use Rattle.std.proofs.Common.{◌≡◌, ◌<◌, ◌≤◌, ◌^◌, ℕ, zero, suc, Bool, true, false, nat_eq, cond, List, [], ◌∷◌, replicate, Some, None, slice_get, refl, sym}
use Rattle.std.proofs.Common.{ap, subst, ◌∙◌, arith}
use Rattle.std.proofs.lemmas.Bool.Decides.{nat_tests}
use Rattle.std.proofs.lemmas.List.{length-replicate}
use Rattle.hy_links.specs.Chains.{times}
use Rattle.hy_access.specs.declared.access.AccId.{AccId}
use Rattle.hy_access.specs.Accesses as live_access
use Rattle.hy_object.specs.declared.object.Fun.{Fun}
use Rattle.hy_object.specs.declared.object.Object.{Object}
use Rattle.hy_object.specs.States as machine
use Rattle.hy_object.specs.States.{State, with_at}
use Rattle.hy_object.specs.Steps.{begin, main_of}
use Rattle.hy_store.specs.declared.frame.Role.TheVariants.{Called}
use Rattle.hy_store.specs.declared.frame.Slot.TheVariants.{Empty}
use Rattle.hy_store.specs.declared.store.Store.{Store}
use Rattle.hy_store.specs.Calls.{IsBegun, no_ghosts}
use Rattle.hy_store.specs.Cells.{Cell, Unset}
use Rattle.hy_store.specs.Frames.{kept, slot_in, held_at}
use Rattle.hy_store.specs.Held.{AreHeld, IsBlock}
use Rattle.hy_store.specs.Memory.{live}
use Rattle.hy_store.specs.Represents.{AreOpened, Represents, abstract_slot}
use Rattle.hy_store.proofs.Holding.{tells_unset}

module _ (store : Store) (main : Fun) (begun : IsBegun store main) (small : main.words < 2 ^ 32) where
  some_first : {A : Type 0} (b : Bool) (x : A) (y : A) → cond b (Some x) None ≡ Some y → (b ≡ true) × (x ≡ y)
  some_first true x y h = (refl, cc)
  some_first false x y h = absurd (cc)

  zero_is : (b : ℕ) → nat_eq 0 b ≡ true → 0 ≡ b
  zero_is b h = grind (arith, nat_tests)

  block_at : (b : ℕ) (found : List Cell) → live store.blocks b ≡ Some found → (0 ≡ b) × (replicate main.words Unset ≡ found)
  block_at b found h = let p = some_first (nat_eq 0 b) (replicate main.words Unset) found (sym (begun.blocks b) ∙ h) in (zero_is b p.0, p.1)

  one_block : IsBlock no_ghosts.is_array 1 main.words 0 0 machine.unset (replicate main.words Unset)
  one_block = record {
    live = refl;
    size = sym (length-replicate main.words Unset);
    small = omega (arith, length-replicate main.words Unset, small);
    named = omega arith;
    tells = tells_unset no_ghosts.is_array 1 main.words;
  }

  first_words : (b : ℕ) → 0 ≡ b → main.words ≡ with_at (λ n. 0) 0 main.words b
  first_words b h = let P : ℕ → Type 0 = λ n. main.words ≡ with_at (λ n. 0) 0 main.words n in subst P h refl

  held_first : AreHeld (live store.blocks) no_ghosts.is_array 1 (λ b at. machine.Unset) (with_at (λ b. 0) 0 main.words) (λ b. 0)
  held_first = record {
    known = λ b found h. let p = block_at b found h in
        let at_zero : IsBlock no_ghosts.is_array 1 (with_at (λ n. 0) 0 main.words b) 0 0 machine.unset found =
        subst (λ n. IsBlock no_ghosts.is_array 1 n 0 0 machine.unset found) (first_words b p.0)
        (subst (IsBlock no_ghosts.is_array 1 main.words 0 0 machine.unset) p.1 one_block) in
        subst (λ n. IsBlock no_ghosts.is_array 1 (with_at (λ n. 0) 0 main.words b) 0 n machine.unset found) p.0 at_zero;
    gone = λ b below h. absurd (there b (zero_of b below) (sym (begun.blocks b) ∙ h));
    fresh = λ b le. refl;
  }
    where
      zero_of : (b : ℕ) → b < 1 → nat_eq 0 b ≡ true
      zero_of b h = grind (arith, nat_tests)

      there : (b : ℕ) → nat_eq 0 b ≡ true → cond (nat_eq 0 b) (Some (replicate main.words Unset)) None ≡ None → ⊥
      there b e h = let f : Some (replicate main.words Unset) ≡ None = sym (ap (λ t. cond t (Some (replicate main.words Unset)) None) e) ∙ h in cc

  none_opened : AreOpened store.opened (live store.blocks) 1 no_ghosts.name (λ n. None) 0
  none_opened =
      let absent : (id : AccId) (one : live_access.Access) → live_access.access id store.opened.accesses ≡ Some one → ⊥ =
      λ id one h. clash one (sym (ap (live_access.access id) begun.accesses) ∙ h) in
      record {
        told = record {
          known = λ id one h. absurd (absent id one h);
          named = λ n a h. absurd (missing a h);
          own_name = λ id other a b h k e. absurd (absent id a h);
          parents = λ id one h. absurd (absent id one h);
          before = λ id one h. absurd (absent id one h);
        };
        ids = λ n id h. absurd (no_id id (sym (begun.none n) ∙ h));
        all = λ id one h. absurd (absent id one h);
        inside = λ id one h. absurd (absent id one h);
      }
    where
      clash : (one : live_access.Access) → None ≡ Some one → ⊥
      clash one h = cc

      missing : (a : machine.Access) → None ≡ Some a → ⊥
      missing a h = cc

      no_id : (id : AccId) → None ≡ Some id → ⊥
      no_id id h = cc

  frame_first : kept store.frames store.frame ≡ Some (record { slots = replicate main.slots Empty; role = Called 0 })
  frame_first = ap (kept store.frames) begun.frame ∙ begun.frames 0

  empty_at : (n k : ℕ) → held_at (slice_get (replicate n Empty) k) ≡ Empty
  empty_at zero k = refl
  empty_at (suc n) zero = refl
  empty_at (suc n) (suc k) = empty_at n k

  pub begun_seen : (object : Object) (input : List ℕ) (cut : Bool) (n : ℕ) → main_of object ≡ main
      → Represents no_ghosts store main (begin object input cut (suc n))
  begun_seen object input cut n is = record {
    held = subst (λ (f : Fun). AreHeld (live store.blocks) no_ghosts.is_array 1 (λ b at. machine.Unset) (with_at (λ b. 0) 0 f.words) (λ b. 0)) (sym is)
        held_first;
    opened = none_opened;
    frame = begun.frame;
    fun_is = sym is;
    own = (replicate main.words Unset, ap (live store.blocks) begun.frame ∙ begun.blocks 0, length-replicate main.words Unset);
    slots = λ k. sym (ap abstract_slot (ap (λ o. slot_in o k) frame_first ∙ empty_at main.slots k));
    mine = (record { slots = replicate main.slots Empty; role = Called 0 }, frame_first, length-replicate main.slots Empty, refl);
    no_array = refl;
    counts = begun.counts;
    waiting = λ i a h. absurd (nobody i a h);
    apart = λ f. alone f;
  }
    where
      nobody : (i : ℕ) (a : machine.Activation) → machine.nth [] i ≡ Some a → ⊥
      nobody i a h = cc

      alone : (f : ℕ) → times f (0 ∷ []) ≤ 1
      alone f = grind (arith, nat_tests)
