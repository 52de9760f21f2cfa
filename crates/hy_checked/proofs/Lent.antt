-- What is lent to suspended subscripts.
use Rattle.std.proofs.Common.{◌≡◌, ◌<◌, ◌≤◌, ◌+◌, ◌&&◌, ℕ, zero, suc, Bool, true, false, not, List, [], ◌∷◌, ◌++◌, length}
use Rattle.std.proofs.Common.{Option, Some, None, IsSome, get_or, slice_get, ◌⊎◌, inl, inr, refl, sym, ap, subst, ◌∙◌, arith}
use Rattle.hy_frames.specs.declared.id.ActId.{ActId}
use Rattle.hy_frames.specs.declared.id.Standing.TheVariants.{Suspended}
use Rattle.hy_frames.specs.Activations as acts
use Rattle.hy_object.specs.declared.object.Fun.{Fun}
use Rattle.hy_object.specs.declared.object.Object.{Object}
use Rattle.hy_object.specs.declared.stuck.Kind.TheVariants as kind
use Rattle.hy_object.specs.Checks.{check, own_slot, with_some}
use Rattle.hy_object.specs.Lending.{close, closes, is_childless, none_was_lent, opened_in, was_lent}
use Rattle.hy_object.specs.States.{Activation, State, nth}
use Rattle.hy_store.specs.Closes.{close_unless}
use Rattle.hy_store.proofs.Rows.{nth_behind, nth_front, nth_in}
use Rattle.hy_checked.specs.declared.machine.Waiting.{Waiting}
use Rattle.hy_store.specs.declared.frame.Slot.{Slot}
use Rattle.hy_store.specs.declared.store.Store.{Store}
use Rattle.hy_store.specs.Frames.{kept, slot_in}
use Rattle.hy_store.specs.Represents.{Ghosts, Represents, abstract_slot}
use Rattle.hy_store.proofs.Waking.{nth_behind as behind_callers}
use Rattle.hy_checked.specs.declared.machine.Machine.{Machine}
use Rattle.hy_checked.specs.Simulates.{AreSuspended, IsKeptAs, IsPausedAs, Simulates, WaitsAs}
use Rattle.hy_checked.proofs.Acting.{kept_as, live_so}
use Rattle.hy_checked.proofs.Calling.{next_is, there_so}
use Rattle.hy_checked.proofs.Known.{represents_fun, some_same}
use Rattle.hy_checked.proofs.SuspendedIds.{at_place}

-- closing, by what is said of the suspended ones
pub close_is : (s : State) (slot : ℕ) (lent : Bool)
    → ((this : ℕ) → opened_in (own_slot s slot) ≡ Some this → none_was_lent s this s.suspended ≡ not lent)
    → close s slot ≡ close_unless s slot lent
close_is s slot lent h = same (opened_in (own_slot s slot)) h
  where
    same : (o : Option ℕ) → ((this : ℕ) → o ≡ Some this → none_was_lent s this s.suspended ≡ not lent) →
        with_some s kind.Slot o (λ this. check s kind.Slot (is_childless s this && none_was_lent s this s.suspended) (closes s slot this)) ≡ with_some s
        kind.Slot o (λ this. check s kind.Slot (is_childless s this && not lent) (closes s slot this))
    same None g = refl
    same (Some this) g = ap (λ (b : Bool). check s kind.Slot (is_childless s this && b) (closes s slot this)) (g this refl)

one_more : (rows below : List ActId) (v : ActId) (k : ℕ) (w : ActId) → rows ≡ below ++ v ∷ [] → nth below k ≡ Some w → nth rows k ≡ Some w
one_more rows below v k w is h = ap (λ (zs : List ActId). nth zs k) is ∙ nth_front below (v ∷ []) k (nth_in below k w h) ∙ h

pub none_lent : (object : Object) (live : List acts.Activation) (s : State) (this : ℕ) (rows : List ActId) (activations : List Activation)
    → AreSuspended object live rows activations →
    ((k j : ℕ) (act : ActId) (a : Activation) → nth rows k ≡ Some act → IsPausedAs object live act Suspended a → nth activations j ≡ Some a
    → was_lent s this a ≡ false) → none_was_lent s this activations ≡ true
none_lent object live s this rows [] kept each = refl
none_lent object live s this rows (a ∷ rest) kept each =
    let v : ActId = kept.0 in
    let below : List ActId = kept.1 in
    let here : nth rows (length below) ≡ Some v = ap (λ (zs : List ActId). nth zs (length below)) kept.2.0
    ∙ nth_behind below (v ∷ []) (length below) 0 (omega arith) in
    let not_it : was_lent s this a ≡ false = each (length below) 0 v a here kept.2.1.0 refl in
    let others : none_was_lent s this rest ≡ true =
    none_lent object live s this below rest kept.2.1.1 (λ k j w b h q i. each k (suc j) w b (one_more rows below v k w kept.2.0 h) q i) in
    both (was_lent s this a) (none_was_lent s this rest) not_it others
  where
    both : (x y : Bool) → x ≡ false → y ≡ true → (not x && y) ≡ true
    both x y h k = rw (h, k) refl

pub some_lent : (s : State) (this : ℕ) (activations : List Activation) (j : ℕ) (a : Activation) → nth activations j ≡ Some a
    → was_lent s this a ≡ true
    → none_was_lent s this activations ≡ false
some_lent s this [] j a h lent = absurd (cc)
some_lent s this (b ∷ rest) zero a h lent = let e : b ≡ a = cc in first (was_lent s this b) (none_was_lent s this rest) (ap (was_lent s this) e ∙ lent)
  where
    first : (x y : Bool) → x ≡ true → (not x && y) ≡ false
    first x y k = rw k refl
some_lent s this (b ∷ rest) (suc j) a h lent = later (was_lent s this b) (none_was_lent s this rest) (some_lent s this rest j a h lent)
  where
    later : (x y : Bool) → y ≡ false → (not x && y) ≡ false
    later true y k = refl
    later false y k = k

both_kept : (object : Object) (live : List acts.Activation) (a : Activation) (rest : List Activation) (w : ActId)
    → ((j : ℕ) × ((b : Activation) × ((nth rest j ≡ Some b) × IsPausedAs object live w Suspended b))) → (j : ℕ)
    × ((b : Activation) × ((nth (a ∷ rest) j ≡ Some b) × IsPausedAs object live w Suspended b))
both_kept object live a rest w p = (suc p.0, p.1)

-- whoever is kept is suspended
pub paired : (object : Object) (live : List acts.Activation) (rows : List ActId) (activations : List Activation) → AreSuspended object live rows activations
    → (k : ℕ) (w : ActId) → nth rows k ≡ Some w
    → (j : ℕ) × ((b : Activation) × ((nth activations j ≡ Some b) × IsPausedAs object live w Suspended b))
paired object live rows [] kept k w h = let e : nth [] k ≡ Some w = ap (λ (zs : List ActId). nth zs k) (sym kept) ∙ h in absurd (cc)
paired object live rows (a ∷ rest) kept k w h =
    let v : ActId = kept.0 in
    let below : List ActId = kept.1 in
    let at : nth (below ++ v ∷ []) k ≡ Some w = ap (λ (zs : List ActId). nth zs k) (sym kept.2.0) ∙ h in
    let so : nth below k ≡ Some w → (j : ℕ) × ((b : Activation) × ((nth rest j ≡ Some b) × IsPausedAs object live w Suspended b)) =
    λ q. paired object live below rest kept.2.1.1 k w q in
    elim (where_is below v k w at) [
      | inl q ↦ both_kept object live a rest w (so q)
      | inr e ↦ (0, (a, (refl, subst (λ (u : ActId). IsPausedAs object live u Suspended a) e kept.2.1.0)))
    ]
  where
    where_is : (below : List ActId) (v : ActId) (k : ℕ) (w : ActId) → nth (below ++ v ∷ []) k ≡ Some w → (nth below k ≡ Some w) ⊎ (v ≡ w)
    where_is [] v zero w h = inr (cc)
    where_is [] v (suc k) w h = absurd (cc)
    where_is (b ∷ below) v zero w h = inl h
    where_is (b ∷ below) v (suc k) w h = where_is below v k w h

-- which one is read
pub one_at : (rows : List ActId) (at : ℕ) (w : ActId) → at < length rows → w ≡ get_or rows at w → nth rows at ≡ Some w
one_at rows at w below is = at_place rows at w below ∙ ap (λ (v : ActId). Some v) (sym is)

-- the answer of the store on one suspended one
abbrev pub Tells : Store → Fun → Waiting → Fun → ℕ → Bool → Type 0
Tells store fun w its name r = (g : Ghosts) (s : State) → Represents g store fun s → (i : ℕ) (a : Activation)
    → nth (s.callers ++ s.suspended) i ≡ Some a
    → a.frame ≡ w.frame → a.fun.accesses ≡ its.accesses → was_lent s name a ≡ r

-- no suspended one before that place was lent the access
abbrev pub NoneBelow : Object → Machine → (name at : ℕ) → Type 0
NoneBelow object m name at = (s : State) → Simulates object m s → (k j : ℕ) (act : ActId) (a : Activation) → k < at
    → nth m.suspended_ids.items k ≡ Some act
    → IsPausedAs object m.acts act Suspended a → nth s.suspended j ≡ Some a → was_lent s name a ≡ false

pub told_one : (object : Object) (m : Machine) (fun its : Fun) (w : Waiting) (name : ℕ) (r : Bool) → nth object.funs m.number ≡ Some fun
    → Some its ≡ slice_get object.funs w.number → Tells m.store fun w its name r
    → (s : State) → Simulates object m s → (j : ℕ) (a : Activation) → IsKeptAs object w a → nth s.suspended j ≡ Some a
    → was_lent s name a ≡ r
told_one object m fun its w name r is its_is tells s st j a kept h =
    let p = behind_callers s.callers s.suspended j a h in
    tells st.ghosts s (represents_fun object m s fun st is) p.0 a p.1 kept.frame (ap (λ (f : Fun). f.accesses) (next_is object w a its kept its_is))

pub one_below : (object : Object) (m : Machine) (fun its : Fun) (act : ActId) (w : Waiting) (name at : ℕ) (r : Bool)
    → nth object.funs m.number ≡ Some fun
    → Some its ≡ slice_get object.funs w.number → Tells m.store fun w its name r → r ≡ false
    → nth m.suspended_ids.items at ≡ Some act → WaitsAs m act w → NoneBelow object m name at → NoneBelow object m name (at + 1)
one_below object m fun its act w name at r is its_is tells not_it here told none s st k j v a below q kept h =
    elim (here_or k at below) [
      | inl less ↦ none s st k j v a less q kept h
      | inr same ↦
          let e : v ≡ act = some_same v act (sym q ∙ ap (nth m.suspended_ids.items) same ∙ here) in
          told_one object m fun its w name r is its_is tells s st j a
          (kept_as object m.acts act Suspended a w (subst (λ (u : ActId). IsPausedAs object m.acts u Suspended a) e kept) told) h ∙ not_it
    ]
  where
    here_or : (k at : ℕ) → k < at + 1 → (k < at) ⊎ (k ≡ at)
    here_or k at h = grind arith

-- what the slot holds is that access
pub name_is : (object : Object) (m : Machine) (s : State) (slot name this : ℕ) (got : Slot) → Simulates object m s
    → got ≡ slot_in (kept m.store.frames m.store.frame) slot → opened_in (abstract_slot got) ≡ Some name → opened_in (own_slot s slot) ≡ Some this
    → name ≡ this
name_is object m s slot name this got st h a b = some_same name this (sym a ∙ ap opened_in (ap abstract_slot h ∙ sym (st.represents.slots slot)) ∙ b)

pub none_opened : (object : Object) (m : Machine) (s : State) (slot this : ℕ) (got : Slot) → Simulates object m s
    → got ≡ slot_in (kept m.store.frames m.store.frame) slot → opened_in (abstract_slot got) ≡ None
    → opened_in (own_slot s slot) ≡ Some this → ⊥
none_opened object m s slot this got st h a b =
    let e : None ≡ Some this = sym a ∙ ap opened_in (ap abstract_slot h ∙ sym (st.represents.slots slot)) ∙ b
    in cc

pub suspended_known : (object : Object) (m : Machine) (s : State) (at : ℕ) (act : ActId) (w : Waiting) → Simulates object m s
    → nth m.suspended_ids.items at ≡ Some act → WaitsAs m act w → IsSome (slice_get object.funs w.number)
suspended_known object m s at act w st h told =
    let p = paired object m.acts m.suspended_ids.items s.suspended st.suspended at act h in
    let kept = kept_as object m.acts act Suspended p.1.0 w p.1.1.1 told in
    there_so object w.number p.1.0.fun (ap (nth object.funs) (sym kept.number) ∙ kept.fun)

pub suspended_live : (object : Object) (m : Machine) (s : State) (at : ℕ) (act : ActId) → Simulates object m s
    → nth m.suspended_ids.items at ≡ Some act
    → acts.IsLive act m.acts
suspended_live object m s at act st h = let p = paired object m.acts m.suspended_ids.items s.suspended st.suspended at act h in
    live_so act m.acts p.1.1.1.one p.1.1.1.is

pub is_some_lent : (object : Object) (m : Machine) (fun its : Fun) (act : ActId) (w : Waiting) (name at : ℕ) (r : Bool)
    → nth object.funs m.number ≡ Some fun → Some its ≡ slice_get object.funs w.number → Tells m.store fun w its name r → r ≡ true
    → nth m.suspended_ids.items at ≡ Some act → WaitsAs m act w → (s : State) → Simulates object m s → (this : ℕ) → name ≡ this
    → none_was_lent s this s.suspended ≡ false
is_some_lent object m fun its act w name at r is its_is tells it here told s st this same =
    let p = paired object m.acts m.suspended_ids.items s.suspended st.suspended at act here in
    subst (λ (n : ℕ). none_was_lent s n s.suspended ≡ false) same
    (some_lent s name s.suspended p.0 p.1.0 p.1.1.0 (told_one object m fun its w name r is its_is tells s st p.0 p.1.0
    (kept_as object m.acts act Suspended p.1.0 w p.1.1.1 told) p.1.1.0 ∙ it))

pub all_below_end : (object : Object) (m : Machine) (name at : ℕ) → length m.suspended_ids.items ≤ at → NoneBelow object m name at → (s : State)
    → Simulates object m s → (this : ℕ) → name ≡ this → none_was_lent s this s.suspended ≡ true
all_below_end object m name at le none s st this same =
    subst (λ (n : ℕ). none_was_lent s n s.suspended ≡ true) same
    (none_lent object m.acts s name m.suspended_ids.items s.suspended st.suspended (λ k j act a h kept q. let less : k < length m.suspended_ids.items =
    nth_in m.suspended_ids.items k act h in none s st k j act a (omega (arith, less, le)) h kept q))
