-- What is represented after an access is closed.
use Rattle.std.proofs.Common.{◌≡◌, ◌<◌, ℕ, suc, Bool, true, false, not, ◌&&◌, nat_eq, cond, inl, inr, List, ◌++◌, length, Option, Some, None, IsTrue, ◌↔◌}
use Rattle.std.proofs.Common.{refl, sym, ap, subst, ◌∙◌, arith}
use Rattle.std.proofs.lemmas.Bool.Decides.{nat_tests}
use Rattle.hy_base.specs.declared.run.Counts.{Counts}
use Rattle.hy_access.specs.declared.access.AccId.{AccId}
use Rattle.hy_access.specs.Accesses as live_access
use Rattle.hy_access.specs.Accesses.{HasChild, IsLive, without_access}
use Rattle.hy_object.specs.declared.object.Fun.{Fun}
use Rattle.hy_object.specs.declared.stuck.Kind.TheVariants as kind
use Rattle.hy_object.specs.Checks.{check, with_some}
use Rattle.hy_object.specs.Lending.{closes, is_childless, opened_in}
use Rattle.hy_object.specs.States as machine
use Rattle.hy_object.specs.States.{State, Activation, nth, with_at}
use Rattle.hy_store.specs.declared.frame.Slot.TheVariants.{Empty}
use Rattle.hy_store.specs.declared.opened.Opened.{Opened}
use Rattle.hy_store.specs.declared.store.Store.{Store}
use Rattle.hy_store.specs.Closes.{Closes, close_unless}
use Rattle.hy_store.specs.Frames.{kept, slot_in, with_slot}
use Rattle.hy_store.specs.Held.{AreHeld}
use Rattle.hy_store.specs.Memory.{Live, live}
use Rattle.hy_store.specs.Names.{CanClose, IsClosed, names, with_name, without_one}
use Rattle.hy_store.specs.Opened as told
use Rattle.hy_store.specs.Opened.{RepresentAccesses}
use Rattle.hy_store.specs.Executes.{Forward, Goes}
use Rattle.hy_store.specs.Represents.{AreOpened, Ghosts, IsActive, IsKept, Represents, abstract_slot}
use Rattle.hy_store.proofs.Childless.{childless_closes, child_keeps, none_closes, true_false}
use Rattle.hy_store.proofs.Holding.{same_or_other}
use Rattle.hy_store.proofs.Naming.{closed_told, left_was, left_stays}
use Rattle.hy_store.proofs.Opening.{frame_apart}
use Rattle.hy_store.proofs.Refilled.{changed_other, filled_here, filled_other, kept_filled}

-- NAMES

some_none : {A : Type 0} {x : A} → Some x ≡ None → ⊥
some_none h = cc

slots_of : (i j : AccId) → i ≡ j → nat_eq i.slot j.slot ≡ true
slots_of i j e = let s : i.slot ≡ j.slot = ap (λ (x : AccId). x.slot) e in grind (arith, nat_tests)

-- all names but that one name what they named
names_less : (ids : ℕ → Option AccId) (n other : ℕ) (id : AccId) → with_name ids n None other ≡ Some id → (nat_eq n other ≡ false) × (ids other ≡ Some id)
names_less ids n other id h = elim (same_or_other n other) [
  | inl same ↦ absurd (some_none (sym (sym (ap (λ t. cond t None (ids other)) same.0) ∙ h)))
  | inr differs ↦ (differs, sym (ap (λ t. cond t None (ids other)) differs) ∙ h)
]

names_kept : (ids : ℕ → Option AccId) (n other : ℕ) → nat_eq n other ≡ false → with_name ids n None other ≡ ids other
names_kept ids n other differs = ap (λ t. cond t None (ids other)) differs

not_same : (a b : ℕ) → (a ≡ b → ⊥) → nat_eq a b ≡ false
not_same a b h = elim (same_or_other a b) [ inl same ↦ absurd (h same.1) | inr differs ↦ differs ]

module _ (old new : Opened) (blocks : Live) (taken : ℕ) (name : ℕ → ℕ) (access : told.Opened) (opened this : ℕ)
    (are : AreOpened old blocks taken name access opened) (closed : IsClosed old new this) where
  -- the access was live
  module _ (id : AccId) (is : names old this ≡ Some id) (childless : HasChild id old.accesses
      → ⊥) (are_left : new.accesses ≡ without_access id old.accesses) where
    abbrev found_one : (one : live_access.Access) × (live_access.access id old.accesses ≡ Some one) × (name id.slot ≡ this)
    found_one = are.ids this id is

    lived : AreOpened new blocks taken name (with_at access this None) opened
    lived = record {
      told = subst (λ xs. RepresentAccesses xs name (with_at access this None) opened) (sym are_left)
          (subst (λ n. RepresentAccesses (without_access id old.accesses) name (with_at access n None) opened) found_one.2
          (closed_told old.accesses name access opened are.told id found_one.0 found_one.1 childless));
      ids = λ n i h.
          let kept = names_less (names old) this n i (sym (closed.ids n) ∙ h) in
          let at = are.ids n i kept.1 in
          let apart : nat_eq i.slot id.slot ≡ false =
          not_same i.slot id.slot (λ e. true_false (sym (same_name n (sym found_one.2 ∙ ap name (sym e) ∙ at.2)) ∙ kept.0)) in (
            at.0,
            ap (live_access.access i) are_left
                ∙ left_stays old.accesses name access opened are.told id found_one.0 found_one.1 childless i at.0 apart at.1,
            at.2,
          );
      all = λ i a h.
          let w = was i a h in
          closed.ids (name i.slot)
          ∙ names_kept (names old) this (name i.slot)
          (not_same this (name i.slot)
          (λ e. true_false (sym (slots_of i id (are.told.own_name i id a found_one.0 w.1 found_one.1 (sym e ∙ sym found_one.2))) ∙ w.0)))
          ∙ are.all i a w.1;
      inside = λ i a h. are.inside i a (was i a h).1;
    }
      where
        same_name : (n : ℕ) → this ≡ n → nat_eq this n ≡ true
        same_name n e = grind (arith, nat_tests)

        was : (i : AccId) (a : live_access.Access) → live_access.access i new.accesses ≡ Some a → (nat_eq i.slot id.slot ≡ false)
            × (live_access.access i old.accesses ≡ Some a)
        was i a h = left_was old.accesses name access opened are.told id found_one.0 found_one.1 childless i a (ap (live_access.access i) (sym are_left) ∙ h)

  -- no access of that name was live
  module _ (is : names old this ≡ None) (are_left : new.accesses ≡ old.accesses) where
    absent : (id : AccId) (one : live_access.Access) → live_access.access id old.accesses ≡ Some one → name id.slot ≡ this → ⊥
    absent id one h e = some_none (sym (are.all id one h) ∙ ap (names old) e ∙ is)

    no_access : (o : Option machine.Access) → access this ≡ o → o ≡ None
    no_access None h = refl
    no_access (Some a) h = let at = are.told.named this a h in absurd (absent at.0 at.1 at.2 at.3)

    same_access : (n : ℕ) → access n ≡ with_at access this None n
    same_access n = elim (same_or_other n this) [
      | inl same ↦ ap access same.1 ∙ no_access (access this) refl ∙ sym (ap (λ t. cond t None (access n)) same.0)
      | inr differs ↦ sym (ap (λ t. cond t None (access n)) differs)
    ]

    lacked : AreOpened new blocks taken name (with_at access this None) opened
    lacked = subst (λ f. AreOpened new blocks taken name f opened) (λ i n. same_access n i) (record {
      told = subst (λ xs. RepresentAccesses xs name access opened) (sym are_left) are.told;
      ids = λ n i h. let at = are.ids n i (names_less (names old) this n i (sym (closed.ids n) ∙ h)).1 in
          (at.0, ap (live_access.access i) are_left ∙ at.1, at.2);
      all = λ i a h.
          let w : live_access.access i old.accesses ≡ Some a = ap (live_access.access i) (sym are_left) ∙ h in
          closed.ids (name i.slot) ∙ names_kept (names old) this (name i.slot) (not_same this (name i.slot) (λ e. absent i a w (sym e))) ∙ are.all i a w;
      inside = λ i a h. are.inside i a (ap (live_access.access i) (sym are_left) ∙ h);
    })

  pub still_opened : CanClose (names old this) old.accesses → AreOpened new blocks taken name (with_at access this None) opened
  still_opened can = by_name (names old this) refl can closed.accesses
    where
      by_name : (o : Option AccId) → names old this ≡ o → CanClose o old.accesses → new.accesses ≡ without_one o old.accesses
          → AreOpened new blocks taken name (with_at access this None) opened
      by_name None is can accesses = lacked is accesses
      by_name (Some id) is can accesses = lived id is can.1 accesses

-- WHETHER IT MAY BE CLOSED

module _ (g : Ghosts) (store : Store) (fun : Fun) (s : State) (represents : Represents g store fun s) (this : ℕ) where
  pub childless_none : names store.opened this ≡ None → is_childless s this ≡ true
  childless_none is = none_closes store.opened.accesses g.name s.access s.counts.opened represents.opened.told this
      (λ id one h e. some_none (sym (represents.opened.all id one h) ∙ ap (names store.opened) e ∙ is))

  pub childless_some : (id : AccId) (has : Bool) → names store.opened this ≡ Some id → IsTrue has ↔ HasChild id store.opened.accesses
      → is_childless s this ≡ not has
  childless_some id has is decides = by_test has decides
    where
      at : (one : live_access.Access) × (live_access.access id store.opened.accesses ≡ Some one) × (g.name id.slot ≡ this)
      at = represents.opened.ids this id is

      by_test : (b : Bool) → IsTrue b ↔ HasChild id store.opened.accesses → is_childless s this ≡ not b
      by_test true d = ap (is_childless s) (sym at.2)
          ∙ child_keeps store.opened.accesses g.name s.access s.counts.opened represents.opened.told id at.0 at.1 (d.0 refl)
      by_test false d = ap (is_childless s) (sym at.2)
          ∙ childless_closes store.opened.accesses g.name s.access s.counts.opened represents.opened.told id at.0 at.1 (λ has. true_false (sym (d.1 has)))

pub can_close : (o : Option AccId) (accesses : List live_access.Access) (id : AccId) (has : Bool) → Some id ≡ o → IsLive id accesses
    → IsTrue has ↔ HasChild id accesses → not has ≡ true → CanClose o accesses
can_close o accesses id has e lives decides none = subst (λ o. CanClose o accesses) e (lives, childless has decides none)
  where
    childless : (b : Bool) → IsTrue b ↔ HasChild id accesses → not b ≡ true → HasChild id accesses → ⊥
    childless true d n = absurd (true_false (sym n))
    childless false d n = λ has. true_false (sym (d.1 has))

pub can_close_none : (o : Option AccId) (accesses : List live_access.Access) → None ≡ o → CanClose o accesses
can_close_none o accesses e = subst (λ o. CanClose o accesses) e tt

-- what the step does where it may be done
pub close_is : (g : Ghosts) (store : Store) (fun : Fun) (s : State) → Represents g store fun s → (slot : ℕ) (lent : Bool) (this : ℕ)
    → opened_in (abstract_slot (slot_in (kept store.frames store.frame) slot)) ≡ Some this → (is_childless s this && not lent) ≡ true
    → close_unless s slot lent ≡ closes s slot this
close_is g store fun s represents slot lent this h may =
    ap (λ o. with_some s kind.Slot o (λ n. check s kind.Slot (is_childless s n && not lent) (closes s slot n))) (ap opened_in (represents.slots slot) ∙ h)
    ∙ ap (λ b. check s kind.Slot b (closes s slot this)) may

-- AFTER IT IS CLOSED

module _ (old new : Store) (fun : Fun) (slot this : ℕ) (c : Closes old new slot this) (can : CanClose (names old.opened this) old.opened.accesses)
    (in_row : slot < fun.slots) (g : Ghosts) (s : State) (represents : Represents g old fun s) where
  slot_fits : slot < length represents.mine.0.slots
  slot_fits = omega (arith, represents.mine.2)

  own_slots : (k : ℕ) → machine.with_slot s.slots s.now.frame slot machine.Empty s.now.frame k ≡ abstract_slot (slot_in (kept new.frames new.frame) k)
  own_slots k =
      ap (λ f. machine.with_slot s.slots f slot machine.Empty f k) (sym represents.frame)
      ∙ filled_here (kept old.frames) (kept new.frames) old.frame slot Empty represents.mine.0 represents.mine.1 slot_fits c.emptied s.slots machine.Empty
      refl (λ k. ap (λ f. s.slots f k) represents.frame ∙ represents.slots k) k
      ∙ ap (λ f. abstract_slot (slot_in (kept new.frames f) k)) (sym c.frame)

  others_wait : (i : ℕ) (a : Activation) → nth (s.callers ++ s.suspended) i ≡ Some a → IsActive g old s.slots a
      → IsActive g new (machine.with_slot s.slots s.now.frame slot machine.Empty) a
  others_wait i a h active =
      let differs : nat_eq old.frame a.frame ≡ false = ap (λ f. nat_eq f a.frame) represents.frame
      ∙ frame_apart s.now.frame (s.callers ++ s.suspended) represents.apart i a h in
      record {
        own = (active.own.0, ap (λ b. live b a.frame) c.blocks ∙ active.own.1, active.own.2);
        slots_are = λ k. ap (λ f. machine.with_slot s.slots f slot machine.Empty a.frame k) (sym represents.frame)
            ∙ filled_other (kept old.frames) (kept new.frames) old.frame slot Empty represents.mine.0 represents.mine.1 slot_fits c.emptied s.slots
            machine.Empty a.frame differs active.slots_are k;
        mine = subst (λ o. IsKept o a.fun a.role)
            (sym (changed_other (kept old.frames) (kept new.frames) old.frame (with_slot slot Empty) represents.mine.0 represents.mine.1 c.emptied a.frame
            differs)) active.mine;
        no_array = active.no_array;
      }

  pub closed_seen : Represents g new fun (closes s slot this)
  closed_seen = record {
    held = subst (λ b. AreHeld (live b) g.is_array s.counts.blocks s.cells s.words s.freed) (sym c.blocks) represents.held;
    opened = subst (λ b. AreOpened new.opened (live b) s.counts.blocks g.name (with_at s.access this None) s.counts.opened) (sym c.blocks)
        (still_opened old.opened new.opened (live old.blocks) s.counts.blocks g.name s.access s.counts.opened this represents.opened c.closed can);
    frame = c.frame ∙ represents.frame;
    fun_is = represents.fun_is;
    own = (represents.own.0, ap (λ b. live b new.frame) c.blocks ∙ ap (live old.blocks) c.frame ∙ represents.own.1, represents.own.2);
    slots = own_slots;
    mine = subst (λ f. IsKept (kept new.frames f) fun s.now.role) (sym c.frame)
        (kept_filled (kept old.frames) (kept new.frames) old.frame slot Empty fun s.now.role represents.mine c.emptied);
    no_array = ap g.is_array c.frame ∙ represents.no_array;
    counts = c.counts ∙ ap (λ (n : Counts). record n { closed = suc n.closed }) represents.counts;
    waiting = λ i a h. others_wait i a h (represents.waiting i a h);
    apart = represents.apart;
  }

-- an access is closed: the answer of the instruction
pub closed_goes : (old new : Store) (fun : Fun) (slot this : ℕ) → Closes old new slot this → CanClose (names old.opened this) old.opened.accesses
    → slot < fun.slots → (step : State → State) →
    ((g : Ghosts) (s : State) → Represents g old fun s → step s ≡ closes s slot this) → Goes fun old new step
closed_goes old new fun slot this c can in_row step is = record {
  does = λ g s represents.
      let e = sym (is g s represents) in (
        g,
        subst (Represents g new fun) e (closed_seen old new fun slot this c can in_row g s represents),
        subst (Forward s) e (record {
          now = refl;
          callers = refl;
          suspended = refl;
          left = refl;
          turns = refl;
          input = refl;
          cut = refl;
          output = refl;
          stop = refl;
        }),
      );
}
