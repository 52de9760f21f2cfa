-- What is represented after an access is opened.
use Rattle.std.proofs.Common.{◌≡◌, ◌<◌, ◌≤◌, ◌+◌, ℕ, zero, suc, Bool, true, false, nat_eq, cond, ◌⊎◌, inl, inr, List, [], ◌∷◌, ◌++◌, map, length, Option}
use Rattle.std.proofs.Common.{Some, None, IsSomeAnd, slice_get, slice_set, refl, sym, ap, subst, ◌∙◌, arith}
use Rattle.std.specs.Option.{option_map}
use Rattle.std.proofs.lemmas.Bool.Decides.{nat_tests}
use Rattle.hy_links.specs.Chains.{AreApart, times}
use Rattle.hy_base.specs.declared.run.Counts.{Counts}
use Rattle.hy_access.specs.declared.access.AccId.{AccId}
use Rattle.hy_access.specs.declared.access.Range.{Range}
use Rattle.hy_access.specs.declared.access.Way.{Way}
use Rattle.hy_access.specs.Accesses as live_access
use Rattle.hy_access.specs.Accesses.{IsLiveIfGiven}
use Rattle.hy_object.specs.declared.object.Fun.{Fun}
use Rattle.hy_object.specs.Lending.{opens}
use Rattle.hy_object.specs.States as machine
use Rattle.hy_object.specs.States.{State, Activation, nth, with_at}
use Rattle.hy_store.specs.declared.frame.Slot.{Slot}
use Rattle.hy_store.specs.declared.frame.Slot.TheVariants.{Filled}
use Rattle.hy_store.specs.declared.reach.Reach.{Reach}
use Rattle.hy_store.specs.declared.store.Store.{Store}
use Rattle.hy_store.specs.Cells.{Cell}
use Rattle.hy_store.specs.Frames.{Kept, kept, slot_in, held_at, with_frame, with_slot}
use Rattle.hy_store.specs.Held.{AreHeld}
use Rattle.hy_store.specs.Memory.{live, HasCells}
use Rattle.hy_store.specs.Names.{names}
use Rattle.hy_store.specs.Opened.{RepresentAccesses, abstract_range, abstract_way}
use Rattle.hy_store.specs.Executes.{Forward, Goes}
use Rattle.hy_store.specs.Represents.{AreOpened, Ghosts, IsActive, IsInside, IsKept, Opens, Reaches, Represents, represented, abstract_slot}
use Rattle.hy_store.proofs.Chains.{found}
use Rattle.hy_store.proofs.Holding.{same_or_other}
use Rattle.hy_store.proofs.Naming.{lent_here, lent_kept, lent_name, lent_split, lent_stays, lent_told, new_access}

-- SLOTS

pub set_get : {A : Type 0} (xs : List A) (i k : ℕ) (v : A) → i < length xs → slice_get (slice_set xs i v) k ≡ cond (nat_eq k i) (Some v) (slice_get xs k)
set_get [] i k v h = absurd (omega arith)
set_get (x ∷ xs) zero zero v h = refl
set_get (x ∷ xs) zero (suc k) v h = rw (no_zero k) refl
  where
    no_zero : (n : ℕ) → nat_eq (suc n) 0 ≡ false
    no_zero n = grind (arith, nat_tests)
set_get (x ∷ xs) (suc i) zero v h = rw (no_zero i) refl
  where
    no_zero : (n : ℕ) → nat_eq 0 (suc n) ≡ false
    no_zero n = grind (arith, nat_tests)
set_get (x ∷ xs) (suc i) (suc k) v h = set_get xs i k v (omega arith) ∙ ap (λ b. cond b (Some v) (slice_get xs k)) (sym (down k i))
  where
    down : (a b : ℕ) → nat_eq (suc a) (suc b) ≡ nat_eq a b
    down a b = grind (arith, nat_tests)

pub length_set : {A : Type 0} (xs : List A) (i : ℕ) (v : A) → length (slice_set xs i v) ≡ length xs
length_set [] i v = refl
length_set (x ∷ xs) zero v = refl
length_set (x ∷ xs) (suc i) v = ap suc (length_set xs i v)

pub slot_set : (one : Kept) (slot k : ℕ) (held : Slot) → slot < length one.slots
    → slot_in (Some (with_slot slot held one)) k ≡ cond (nat_eq k slot) held (slot_in (Some one) k)
slot_set one slot k held h = ap held_at (set_get one.slots slot k held h) ∙ choose (nat_eq k slot)
  where
    choose : (b : Bool) → held_at (cond b (Some held) (slice_get one.slots k)) ≡ cond b held (held_at (slice_get one.slots k))
    choose true = refl
    choose false = refl

-- an activation among others has its frame among theirs
pub frame_in : (xs : List Activation) (i : ℕ) (a : Activation) → nth xs i ≡ Some a → 0 < times a.frame (map (λ (b : Activation). b.frame) xs)
frame_in [] i a h = absurd (cc)
frame_in (x ∷ xs) zero a h = let e : x ≡ a = cc in first x.frame a.frame (map (λ (b : Activation). b.frame) xs) (ap (λ (b : Activation). b.frame) e)
  where
    first : (m n : ℕ) (ms : List ℕ) → m ≡ n → 0 < times n (m ∷ ms)
    first m n ms h = grind (arith, nat_tests)
frame_in (x ∷ xs) (suc i) a h = further x.frame a.frame (map (λ (b : Activation). b.frame) xs) (frame_in xs i a h)
  where
    further : (m n : ℕ) (ms : List ℕ) → 0 < times n ms → 0 < times n (m ∷ ms)
    further m n ms h = grind (arith, nat_tests)

-- a frame that comes first is none of the others'
pub frame_apart : (f : ℕ) (xs : List Activation) → AreApart (f ∷ map (λ (b : Activation). b.frame) xs) → (i : ℕ) (a : Activation) → nth xs i ≡ Some a
    → nat_eq f a.frame ≡ false
frame_apart f xs apart i a h = differ f a.frame (map (λ (b : Activation). b.frame) xs) (frame_in xs i a h) (apart a.frame)
  where
    differ : (m n : ℕ) (ms : List ℕ) → 0 < times n ms → times n (m ∷ ms) ≤ 1 → nat_eq m n ≡ false
    differ m n ms a b = grind (arith, nat_tests)

module _ (old new : Store) (fun : Fun) (slot words : ℕ) (r : Reach) (header : Option Range) (way : Way)
    (o : Opens old new slot r.range header way r.through) (reached : Reaches old words r) (in_row : slot < fun.slots)
    (g : Ghosts) (s : State) (represents : Represents g old fun s) where
  abbrev one : live_access.Access
  one = record { id = o.lent.id; own = r.range; header = header; way = way; parent = r.through }

  count : old.counts.opened ≡ s.counts.opened
  count = ap (λ (c : Counts). c.opened) represents.counts

  range_inside : IsInside (live old.blocks) s.counts.blocks r.range
  range_inside = parts (live old.blocks r.range.block) refl reached.cells
    where
      same_fits : (found other : List Cell) → Some found ≡ Some other → r.range.from + r.range.len ≤ length found → r.range.from + r.range.len ≤ length other
      same_fits found other e h = let P : List Cell → Type 0 = λ cells. r.range.from + r.range.len ≤ length cells in let i : found ≡ other = cc in subst P i h

      parts : (found : Option (List Cell)) → live old.blocks r.range.block ≡ found → HasCells found r.range.from r.range.len
          → IsInside (live old.blocks) s.counts.blocks r.range
      parts None e h = absurd h
      parts (Some found) e h = record { named = (represents.held.known r.range.block found e).named; fits = λ other k. same_fits found other (sym e ∙ k) h }

  name_at : (n : ℕ) → names new.opened n ≡ cond (nat_eq s.counts.opened n) (Some o.lent.id) (names old.opened n)
  name_at n = o.lent.ids n ∙ ap (λ c. cond (nat_eq c n) (Some o.lent.id) (names old.opened n)) count

  less_test : (a b : ℕ) → a < b → nat_eq b a ≡ false
  less_test a b h = grind (arith, nat_tests)

  opened_all : AreOpened new.opened (live old.blocks) s.counts.blocks (with_at g.name o.lent.id.slot s.counts.opened)
      (with_at s.access s.counts.opened (Some (new_access s.access g.name s.counts.opened r.range header way r.through))) (suc s.counts.opened)
  opened_all =
      let told = represents.opened.told in
      let A = old.opened.accesses in
      let split : (i : AccId) (a : live_access.Access) → live_access.access i new.opened.accesses ≡ Some a → ((i ≡ o.lent.id) × (one ≡ a))
      ⊎ (live_access.access i A ≡ Some a)
      = λ i a h. lent_split A g.name s.access s.counts.opened told o.lent.id r.range header way r.through o.lent.new_id reached.through i a
      (ap (live_access.access i) (sym o.lent.accesses) ∙ h) in
      record {
        told = subst (λ xs. RepresentAccesses xs (with_at g.name o.lent.id.slot s.counts.opened)
            (with_at s.access s.counts.opened (Some (new_access s.access g.name s.counts.opened r.range header way r.through))) (suc s.counts.opened))
            (sym o.lent.accesses)
            (lent_told A g.name s.access s.counts.opened told o.lent.id r.range header way r.through o.lent.new_id reached.through);
        ids = λ n i h. elim (same_or_other s.counts.opened n) [
          | inl same ↦
              let e : Some o.lent.id ≡ Some i = sym (ap (λ t. cond t (Some o.lent.id) (names old.opened n)) same.0) ∙ sym (name_at n) ∙ h in
              let i_is : o.lent.id ≡ i = cc in (
                one,
                ap (λ j. live_access.access j new.opened.accesses) (sym i_is) ∙ ap (live_access.access o.lent.id) o.lent.accesses
                    ∙ lent_here A g.name s.access s.counts.opened told o.lent.id r.range header way r.through o.lent.new_id reached.through,
                ap (λ (j : AccId). with_at g.name o.lent.id.slot s.counts.opened j.slot) (sym i_is)
                    ∙ lent_name A g.name s.access s.counts.opened told o.lent.id r.range header way r.through o.lent.new_id reached.through ∙ same.1,
              )
          | inr differs ↦
              let was = represents.opened.ids n i (sym (ap (λ t. cond t (Some o.lent.id) (names old.opened n)) differs) ∙ sym (name_at n) ∙ h) in (
                was.0,
                ap (live_access.access i) o.lent.accesses
                    ∙ lent_stays A g.name s.access s.counts.opened told o.lent.id r.range header way r.through o.lent.new_id reached.through i was.0 was.1,
                lent_kept A g.name s.access s.counts.opened told o.lent.id r.range header way r.through o.lent.new_id reached.through i was.0 was.1 ∙ was.2,
              )
        ];
        all = λ i a h. elim (split i a h) [
          | inl new_one ↦ all_new i new_one.0
          | inr was ↦ all_old i a was
        ];
        inside = λ i a h. elim (split i a h) [
          | inl new_one ↦ subst (λ (a : live_access.Access). IsInside (live old.blocks) s.counts.blocks a.own) new_one.1 range_inside
          | inr was ↦ represents.opened.inside i a was
        ];
      }
    where
      same_test : (a : ℕ) → nat_eq a a ≡ true
      same_test a = grind (arith, nat_tests)

      all_new : (i : AccId) → i ≡ o.lent.id → names new.opened (with_at g.name o.lent.id.slot s.counts.opened i.slot) ≡ Some i
      all_new i e =
          let at : with_at g.name o.lent.id.slot s.counts.opened i.slot ≡ s.counts.opened =
          ap (λ (j : AccId). with_at g.name o.lent.id.slot s.counts.opened j.slot) e
          ∙ lent_name old.opened.accesses g.name s.access s.counts.opened represents.opened.told o.lent.id r.range header way r.through o.lent.new_id
          reached.through in
          ap (names new.opened) at ∙ name_at s.counts.opened
          ∙ ap (λ t. cond t (Some o.lent.id) (names old.opened s.counts.opened)) (same_test s.counts.opened) ∙ ap (λ j. Some j) (sym e)

      all_old : (i : AccId) (a : live_access.Access) → live_access.access i old.opened.accesses ≡ Some a
          → names new.opened (with_at g.name o.lent.id.slot s.counts.opened i.slot) ≡ Some i
      all_old i a was =
          let at = lent_kept old.opened.accesses g.name s.access s.counts.opened represents.opened.told o.lent.id r.range header way r.through o.lent.new_id
          reached.through i a was in
          let differs : nat_eq s.counts.opened (g.name i.slot) ≡ false = less_test (g.name i.slot) s.counts.opened (represents.opened.told.before i a was) in
          ap (names new.opened) at ∙ name_at (g.name i.slot) ∙ ap (λ t. cond t (Some o.lent.id) (names old.opened (g.name i.slot))) differs
          ∙ represents.opened.all i a was

  kept_now : (other : ℕ)
      → kept new.frames other ≡ cond (nat_eq old.frame other) (Some (with_slot slot (Filled old.counts.opened) represents.mine.0)) (kept old.frames other)
  kept_now other = parts (kept old.frames old.frame) represents.mine.1 o.filled
    where
      parts : (found : Option Kept) → found ≡ Some represents.mine.0
          → IsSomeAnd found (λ one. (other : ℕ)
          → kept new.frames other ≡ with_frame (kept old.frames) old.frame (Some (with_slot slot (Filled old.counts.opened) one)) other) →
          kept new.frames other ≡ cond (nat_eq old.frame other) (Some (with_slot slot (Filled old.counts.opened) represents.mine.0)) (kept old.frames other)
      parts found e h = (rw e at h) other

  test_same : (a : ℕ) → nat_eq a a ≡ true
  test_same a = grind (arith, nat_tests)

  test_flip : (a b : ℕ) → nat_eq a b ≡ nat_eq b a
  test_flip a b = grind (arith, nat_tests)

  kept_own : kept new.frames new.frame ≡ Some (with_slot slot (Filled old.counts.opened) represents.mine.0)
  kept_own = ap (kept new.frames) o.frame ∙ kept_now old.frame ∙ rw (test_same old.frame) refl

  slot_fits : slot < length represents.mine.0.slots
  slot_fits = omega (arith, represents.mine.2)

  own_slots : (k : ℕ)
      → machine.with_slot s.slots s.now.frame slot (machine.Filled s.counts.opened) s.now.frame k ≡ abstract_slot (slot_in (kept new.frames new.frame) k)
  own_slots k =
      let was : s.slots s.now.frame k ≡ abstract_slot (slot_in (Some represents.mine.0) k) = represents.slots k
      ∙ ap (λ f. abstract_slot (slot_in f k)) represents.mine.1 in
      ap (λ t. (cond t (with_at (s.slots s.now.frame) slot (machine.Filled s.counts.opened)) (s.slots s.now.frame)) k) (test_same s.now.frame)
      ∙ choose (nat_eq k slot) (s.slots s.now.frame k) (slot_in (Some represents.mine.0) k) was
      ∙ ap abstract_slot (sym (slot_set represents.mine.0 slot k (Filled old.counts.opened) slot_fits))
      ∙ ap (λ f. abstract_slot (slot_in f k)) (sym kept_own)
    where
      choose : (b : Bool) (x : machine.Slot) (y : Slot) → x ≡ abstract_slot y
          → cond b (machine.Filled s.counts.opened) x ≡ abstract_slot (cond b (Filled old.counts.opened) y)
      choose true x y h = ap (λ n. machine.Filled n) (sym count)
      choose false x y h = h

  other_active : (i : ℕ) (a : Activation) → nth (s.callers ++ s.suspended) i ≡ Some a → IsActive g old s.slots a
      → IsActive (record { name = with_at g.name o.lent.id.slot s.counts.opened; is_array = g.is_array }) new
      (machine.with_slot s.slots s.now.frame slot (machine.Filled s.counts.opened)) a
  other_active i a h active =
      let differs : nat_eq s.now.frame a.frame ≡ false = frame_apart s.now.frame (s.callers ++ s.suspended) represents.apart i a h in
      let away : nat_eq a.frame s.now.frame ≡ false = test_flip a.frame s.now.frame ∙ differs in
      let stays : kept new.frames a.frame ≡ kept old.frames a.frame = kept_now a.frame
      ∙ ap (λ f. cond (nat_eq f a.frame) (Some (with_slot slot (Filled old.counts.opened) represents.mine.0)) (kept old.frames a.frame))
      represents.frame ∙ rw differs refl in
      record {
        own = (active.own.0, ap (λ b. live b a.frame) o.blocks ∙ active.own.1, active.own.2);
        slots_are = λ k. ap (λ t. (cond t (with_at (s.slots s.now.frame) slot (machine.Filled s.counts.opened)) (s.slots a.frame)) k) away
            ∙ active.slots_are k ∙ ap (λ f. abstract_slot (slot_in f k)) (sym stays);
        mine = subst (λ f. IsKept f a.fun a.role) (sym stays) active.mine;
        no_array = active.no_array;
      }

  abbrev pub named : Ghosts
  named = record { name = with_at g.name o.lent.id.slot s.counts.opened; is_array = g.is_array }

  pub opened_seen : Represents named new fun (opens s slot (represented g s r) (option_map abstract_range header) (abstract_way way))
  opened_seen = record {
    held = subst (λ b. AreHeld (live b) g.is_array s.counts.blocks s.cells s.words s.freed) (sym o.blocks) represents.held;
    opened = subst (λ b. AreOpened new.opened (live b) s.counts.blocks (with_at g.name o.lent.id.slot s.counts.opened)
        (with_at s.access s.counts.opened (Some (new_access s.access g.name s.counts.opened r.range header way r.through))) (suc s.counts.opened))
        (sym o.blocks) opened_all;
    frame = o.frame ∙ represents.frame;
    fun_is = represents.fun_is;
    own = (represents.own.0, ap (λ b. live b new.frame) o.blocks ∙ ap (live old.blocks) o.frame ∙ represents.own.1, represents.own.2);
    slots = own_slots;
    mine = (
      with_slot slot (Filled old.counts.opened) represents.mine.0,
      kept_own,
      length_set represents.mine.0.slots slot (Filled old.counts.opened)
          ∙ represents.mine.2,
      represents.mine.3,
    );
    no_array = ap g.is_array o.frame ∙ represents.no_array;
    counts = o.counts ∙ ap (λ (c : Counts). record c { opened = suc c.opened }) represents.counts;
    waiting = λ i a h. other_active i a h (represents.waiting i a h);
    apart = represents.apart;
  }

-- an access is opened: the answer of the instruction
pub opened_goes : (old new : Store) (fun : Fun) (slot words : ℕ) (r : Reach) (header : Option Range) (way : Way)
    → Opens old new slot r.range header way r.through → Reaches old words r → slot < fun.slots → (step : State → State) →
    ((g : Ghosts) (s : State) → Represents g old fun s → step s ≡ opens s slot (represented g s r) (option_map abstract_range header) (abstract_way way))
    → Goes fun old new step
opened_goes old new fun slot words r header way o reached in_row step is = record {
  does = λ g s represents.
      let e = sym (is g s represents) in (
        named old new fun slot words r header way o reached in_row g s represents,
        subst (Represents (named old new fun slot words r header way o reached in_row g s represents) new fun) e
            (opened_seen old new fun slot words r header way o reached in_row g s represents),
        subst (Forward s) e (record {
          now = refl;
          callers = refl;
          suspended = refl;
          left = refl;
          turns = refl;
          input = refl;
          cut = refl;
          output = refl;
          stop = refl;
        }),
      );
}
