-- Places of which a flow state says that they are set: what is read there is, and each store and each value that is taken keeps what is known.
use Rattle.std.proofs.Common.{◌≡◌, ◌≢◌, ℕ, zero, suc, ◌<◌, Bool, true, false, nat_lt, List, [], ◌∷◌, ◌++◌, length}
use Rattle.std.proofs.Common.{Option, Some, None, refl, sym, ap, ◌∙◌, subst, append_assoc, append-nil}
use Rattle.hy_base.specs.declared.numbers.IntegerType.TheVariants.{Int}
use Rattle.std.specs.Prelude.{ℤ}
use Rattle.std.proofs.lemmas.Bool.{ltb-true}
use Rattle.hy_types.specs.declared.kinds.TyId.{TyId}
use Rattle.hy_core.specs.Plain.{Step, Part, Index, Place}
use Rattle.hy_core.specs.Plain.{lent_types}
use Rattle.hy_core.specs.Values.{Val, Unset, Number, Truth, Tuple, Product, Array, Vals, Path, many, nth, get, put, shape, Has, IsThere, is_whole}
use Rattle.hy_core.specs.Values.{all_whole, holds_array, Selector, PartAt, ElementAt}
use Rattle.hy_core.specs.Memory.{Key, Spot, whole, Way, Reads, Writes, Copies, copying, set_at}
use Rattle.hy_core.specs.Runs as effect
use Rattle.hy_core.specs.Runs.{Interaction, Fetch, Inspect, Perform, Return, apply, interpret}
use Rattle.hy_core.specs.Dropped.{LosesNone}
use Rattle.hy_core.specs.Calm.{IsKept, MayWrite}
use Rattle.hy_core.specs.Operators.{index_in, blanks}
use Rattle.hy_core.specs.Control.{Form, Numbers, Flags, Arrays, form, parts_of, part_type, element_type, blank_of, local_type, Stuck}
use Rattle.hy_core.specs.Control.{Control, Setting, key, count_one, with_array, take_as}
use Rattle.hy_core.specs.Control.{ToWrite, at_part, at_element, walk, spot, read, write, read_array, Tuples}
use Rattle.hy_core.specs.Control.{Products, Unknown}
use Rattle.hy_core.specs.Typing.{all, type_at, steps_type, still, IsLeaf, IsSmall}
use Rattle.hy_core.specs.Shaped.{HasForm, IsStep, IsOf}
use Rattle.hy_core.specs.Flow.{Param, InitState, IsUnset, IsEmpty, Counts}
use Rattle.hy_core.specs.Flow.{changed, is_whole_local, HasNoElements, still_map}
use Rattle.hy_core.specs.Flow.{IsSetSo, IsUntied, InitMap, all_set, none_set, map_at, with_map, FlowState}
use Rattle.hy_core.specs.Flow.{Signature, Context, with_init, is_exact, IndexesOk, IsSetAt, IsEntered, NoArray, ReadOk, StoreOk, TakeOk}
use Rattle.hy_core.specs.Flow.{given, stored_as, stored_if, stored}
use Rattle.hy_core.proofs.Keys.{set_same, set_other}
use Rattle.hy_core.proofs.Values.{get_get}
use Rattle.hy_core.proofs.Values.{get_unset}
use Rattle.hy_core.proofs.OpenPlaces.{Sound, sound_apply}
use Rattle.hy_core.proofs.Typed.{form_at, sub, form_on, form_append, Fits, FitsEach, typed_read}
use Rattle.hy_core.proofs.TypedWalks.{has_blank, sub_part, is_arrays}
use Rattle.hy_core.proofs.CalmWalks.{Slots, at, aim_for, exact_indexes, index_has}
use Rattle.hy_core.proofs.CalmFrames.{context}
use Rattle.hy_core.proofs.CalmSteps.{Like, like_count, like_id}
use Rattle.hy_core.proofs.FlowStates.{Tells, tells_set, tells_counts}
use Rattle.hy_core.proofs.SetValues.{none_nested, meets_counts}
use Rattle.hy_core.proofs.SetValues.{Meets, meets_set, no_array, leaf_above, whole_get, whole_unset, map_below}
use Rattle.hy_core.proofs.SetValues.{type_append, form_type}
use Rattle.hy_core.proofs.SetValues.{leaf_below, Sets, sets_exact, sets_inner, sets_blank}
use Rattle.hy_core.proofs.SetValues.{sets_whole, sets_none, sets_part, all_sets, small_part}
use Rattle.hy_core.proofs.SetMemories.{InitMaps, kept_here, Holds, holds_store}
use Rattle.hy_core.proofs.SetGood.{Sure, good_array, good_if, good_index, good_number, good_set, good_some, over}
use Rattle.hy_core.proofs.SetTies.{AllBound, AllTell, EndsAt, Extends, Tie, extends_more, none_tells, one_type, set_tells, still_array, still_exact}
use Rattle.hy_core.proofs.SetTies.{still_there, tells_change, tells_set_local, wholes, with_rel}

-- Of what is given up, each array whose elements hold arrays is known to have no element.
abbrev pub MayLeave : Context → effect.Fate → FlowState → Place → Type 0
MayLeave x effect.Moved g place = Unit {0}
MayLeave x effect.Deinitialised g place = Unit {0}
MayLeave x effect.Discarded g place = HasNoElements x g place

-- WALKS of an activation

-- The activation that runs, in a step that is to lead to states of which `S` holds. Its function has that number, each local that
-- type, and n activations have been started. `first` says what was set when the step began, and `P` what is to be when something
-- closes; `slots` is what is open, and `k₀` the control when the step began.
pub record Acting : Type 1 where
  pub p : Setting
  pub S : Control → Copies → Type 0
  pub signatures : ℕ → Signature
  pub number : ℕ
  pub ty : Key → Option TyId
  pub n : ℕ
  pub P : InitMaps
  pub first : InitMaps
  pub slots : Slots
  pub k₀ : Control
  pub local : (l : ℕ) → ty (at k₀.now.id l) ≡ local_type k₀.now.fun l
  pub below_n : k₀.now.id < n
  pub small : (l : ℕ) (t : TyId) → local_type k₀.now.fun l ≡ Some t → IsSmall p.core.types t

module _ (acting : Acting) where
  open acting use {p, S, signatures, number, ty, n, P, first, slots, k₀, local, below_n, small}

  abbrev pub x : Context
  x = context p signatures number k₀.now.fun

  abbrev pub mine : ℕ → Key
  mine l = at k₀.now.id l

  abbrev pub Agrees : FlowState → InitMaps → Type 0
  Agrees g E = (l : ℕ) (t : TyId) (q : Path) → local_type k₀.now.fun l ≡ Some t → IsLeaf p.core.types t q
      → Tells (wholes E k₀.now.id) (g.init l q) (E (at k₀.now.id l) q)

  -- what a flow state says is so in the memory
  pub record Now (g : FlowState) (m : Copies) : Type 0 where
    pub maps : InitMaps
    pub holds : Holds p.core.types ty n maps P m
    pub agrees : Agrees g maps
    pub others : (k : Key) → k.act ≢ k₀.now.id → maps k ≡ first k
    pub ties : (l : ℕ) → Tie p.core.types k₀.now.fun k₀.now.id l (g.status l) (slots (at k₀.now.id l))
    pub params : (j : ℕ) → j < length (lent_types k₀.now.fun) → (v : Way) × (g.status j ≡ Param v)
    pub bound : AllBound g.status (λ l. P (at k₀.now.id l))
    pub same : m.opened ≡ slots
    pub sound : Sound m

  module _ (g : FlowState) (m : Copies) (h : Now g m) where
    pub local_sets : (l : ℕ) (t : TyId) → local_type k₀.now.fun l ≡ Some t → IsKept m (mine l) → Sets p.core.types t (h.maps (mine l)) (m.value (mine l))
    local_sets l t e kept = h.holds.set (mine l) (kept_here m (mine l) kept) t (local l ∙ e)

    -- a number or truth value that is known to be set
    pub local_whole : (l : ℕ) (t : TyId) → local_type k₀.now.fun l ≡ Some t → parts_of (form p.core.types t) ≡ [] → IsSetSo (g.init l []) → IsKept m (mine l)
        → is_whole (m.value (mine l)) ≡ true
    local_whole l t e f s kept = meets_set (h.maps (mine l) []) (m.value (mine l))
        (tells_set (wholes h.maps k₀.now.id) (g.init l []) (h.maps (mine l) []) s (h.agrees l t [] e (t, refl, f))) (local_sets l t e kept [] (t, refl, f))

    pub typed_at : (l : ℕ) (q : Path) (a : TyId) → type_at p.core.types (local_type k₀.now.fun l) q ≡ Some a
        → form_on p.core.types (form_at p.core.types (ty (mine l))) q ≡ form p.core.types a
    typed_at l q a e = ap (λ o. form_on p.core.types (form_at p.core.types o) q) (local l) ∙ form_type p.core.types (local_type k₀.now.fun l) q a e

    pub fits_at : (l : ℕ) (q : Path) (a : TyId) → type_at p.core.types (local_type k₀.now.fun l) q ≡ Some a
        → Fits p.core.types (form p.core.types a) (get q (m.value (mine l)))
    fits_at l q a e =
        subst (λ f. Fits p.core.types f (get q (m.value (mine l)))) (typed_at l q a e)
        (typed_read p.core.types (λ k. form_at p.core.types (ty k)) n m h.holds.typed (record { key = mine l; path = q }))

    -- a place that is known to be set is whole
    pub placed : (place : Place) (t u : TyId) → local_type k₀.now.fun place.local ≡ Some t → steps_type p.core.types (Some t) place.steps ≡ Some u
        → IsSetAt x g place → IsKept m (mine place.local)
        → is_whole (get (still place.steps) (m.value (mine place.local))) ≡ true
    placed place t u e is set kept =
        let a = still_there p.core.types (Some t) place.steps u is in
        let b : type_at p.core.types (local_type k₀.now.fun place.local) (still place.steps) ≡ Some a.0 =
        ap (λ o. type_at p.core.types o (still place.steps)) e ∙ a.1 in
        all_sets p.core.types a.0 (map_at (still place.steps) (h.maps (mine place.local))) _
        (small_part p.core.types t a.0 (still place.steps) a.1 (small place.local t e)) (fits_at place.local (still place.steps) a.0 b)
        (sets_part p.core.types t a.0 _ _ (still place.steps) (local_sets place.local t e kept) a.1)
        (λ q l. subst IsSetSo (sym (map_below (still place.steps) (h.maps (mine place.local)) q))
        (tells_set (wholes h.maps k₀.now.id) (g.init place.local (still place.steps ++ q)) (h.maps (mine place.local) (still place.steps ++ q))
        (subst IsSetSo (map_below (still place.steps) (g.init place.local) q) (set a.0 b q l))
        (h.agrees place.local t (still place.steps ++ q) e (leaf_below p.core.types t a.0 (still place.steps) q a.1 l))))

  -- WALKS to what is set: nothing changes on the way

  module _ (g : FlowState) (m : Copies) (h : Now g m) (w : Way) (k : Key) (u : TyId) (go : Control → Spot → TyId → Interaction Control) where
    set_index : (c : Control) (l : ℕ) → Like k₀ c → HasForm p.core k₀.now.fun l (Numbers Int) → IsSetSo (g.init l []) → IsKept m (key c l)
        → is_whole (m.value (key c l)) ≡ true
    set_index c l like has set kept =
        subst (λ i. is_whole (m.value (at i l)) ≡ true) (sym (like_id k₀ c like))
        (local_whole g m h l has.0 has.1 (ap parts_of has.2) set (subst (λ i. IsKept m (at i l)) (like_id k₀ c like) kept))

    array_step : (c : Control) (span : ℕ) (i : ℤ) (v : Val) (on : ℕ → Interaction Control) → is_whole v ≡ true
        → ((j : ℕ) → Has (ElementAt j) (shape v) → Sure p S (on j) m) → Sure p S (at_element p (aim_for w) c span i (shape v) on) m
    array_step c span i v on e next = by w v e next
      where
        by : (w : Way) (v : Val) → is_whole v ≡ true → ((j : ℕ) → Has (ElementAt j) (shape v) → Sure p S (on j) m)
            → Sure p S (at_element p (aim_for w) c span i (shape v) on) m
        by w Unset e next calm = absurd (cc)
        by w (Number t n) e next calm = over Stuck refl (λ e. absurd (cc))
        by w (Truth b) e next calm = over Stuck refl (λ e. absurd (cc))
        by w (Tuple vs) e next calm = over Stuck refl (λ e. absurd (cc))
        by w (Product d vs) e next calm = over Stuck refl (λ e. absurd (cc))
        by w (Array vs) e next calm = good_index p S c span (index_in (many vs) i) on m (λ j e. next j (index_has (many vs) i j e)) calm

    part_step : (c : Control) (s : Spot) (f : Form) (i : ℕ) (v : Val) (t : Interaction Control) → v ≢ Unset → (Has (PartAt i) (shape v) → Sure p S t m)
        → Sure p S (at_part (aim_for w) c s f i (shape v) t) m
    part_step c s f i Unset t n next calm = absurd (n refl)
    part_step c s f i (Number l k) t n next calm = over Stuck refl (λ e. absurd (cc))
    part_step c s f i (Truth b) t n next calm = over Stuck refl (λ e. absurd (cc))
    part_step c s f i (Tuple vs) t n next calm = good_if p S (nat_lt i (many vs)) c Stuck t m (λ e. absurd (cc)) (λ e. next (ltb-true i (many vs) e)) calm
    part_step c s f i (Product d vs) t n next calm = good_if p S (nat_lt i (many vs)) c Stuck t m (λ e. absurd (cc)) (λ e. next (ltb-true i (many vs) e)) calm
    part_step c s f i (Array vs) t n next calm = over Stuck refl (λ e. absurd (cc))

    part_form : (q : Path) (t y : TyId) (i : ℕ) → form_on p.core.types (form_at p.core.types (ty k)) q ≡ form p.core.types t
        → part_type (form p.core.types t) i ≡ Some y
        → form_on p.core.types (form_at p.core.types (ty k)) (q ++ PartAt i ∷ []) ≡ form p.core.types y
    part_form q t y i e is = form_append p.core.types (form_at p.core.types (ty k)) q (PartAt i ∷ []) ∙ ap (λ f. sub p.core.types f (PartAt i)) e
        ∙ sub_part p.core.types (form p.core.types t) i y is

    element_form : (q : Path) (t y : TyId) (j : ℕ) → form_on p.core.types (form_at p.core.types (ty k)) q ≡ form p.core.types t
        → element_type (form p.core.types t) ≡ Some y
        → form_on p.core.types (form_at p.core.types (ty k)) (q ++ ElementAt j ∷ []) ≡ form p.core.types y
    element_form q t y j e is = form_append p.core.types (form_at p.core.types (ty k)) q (ElementAt j ∷ [])
        ∙ ap (λ f. sub p.core.types f (ElementAt j)) (e ∙ is_arrays (form p.core.types t) y is)

    -- a value that is whole where the local is kept
    abbrev Whole : Path → Type 0
    Whole q = IsKept m k → is_whole (get q (m.value k)) ≡ true

    not_unset : (q : Path) (r : Path) → is_whole (get r (get q (m.value k))) ≡ true → get q (m.value k) ≢ Unset
    not_unset q r h e = whole_unset r (ap (λ v. is_whole (get r v)) (sym e) ∙ h)

    -- inside a whole value
    walk_whole : (steps : List Step) (c : Control) (q : Path) (t : TyId) → Like k₀ c → all (IsStep p.core k₀.now.fun) steps → IndexesOk g steps → Whole q
        → form_on p.core.types (form_at p.core.types (ty k)) q ≡ form p.core.types t → steps_type p.core.types (Some t) steps ≡ Some u
        → ((c : Control) (r : Path) → Like k₀ c → Extends steps q r → Whole r → form_on p.core.types (form_at p.core.types (ty k)) r ≡ form p.core.types u
        → Sure p S (go c (record { key = k; path = r }) u) m)
        → Sure p S (walk p (aim_for w) c k q t steps go) m
    walk_whole [] c q t like ok idx wh e is next =
        let z : t ≡ u = cc in subst (λ t. Sure p S (go c (record { key = k; path = q }) t) m) (sym z) (next c q like refl wh (e ∙ ap (form p.core.types) z))
    walk_whole (Part i ∷ steps) c q t like ok idx wh e is next = good_some p S c (part_type (form p.core.types t) i) _ m (λ y found calm.
        part_step c _ _ i (get q (m.value k)) _ (not_unset q [] (wh calm.0.kept)) (λ has.
        walk_whole steps c (q ++ PartAt i ∷ []) y like ok.1 idx (λ kept. ap is_whole (get_get q (PartAt i ∷ []) (m.value k))
        ∙ whole_get (PartAt i ∷ []) (get q (m.value k)) (has, tt) (wh kept))
        (part_form q t y i e found) (ap (λ o. steps_type p.core.types o steps) (sym found)
        ∙ is) (λ c r like x wh e. next c r like (extends_more (Part i) steps q r (PartAt i) x) wh e)) calm.1)
    walk_whole (Index l s ∷ steps) c q t like ok idx wh e is next = good_some p S c (element_type (form p.core.types t)) _ m (λ y found calm.
        good_number p S c (m.value (key c l)) _ m (set_index c l like ok.0.0 idx.1 calm.0.kept) (λ i calm.
        array_step c s i (get q (m.value k)) _ (wh calm.0.kept) (λ j has.
        walk_whole steps (count_one c) (q ++ ElementAt j ∷ []) y (like_count k₀ c like) ok.1 idx.2
        (λ kept. ap is_whole (get_get q (ElementAt j ∷ []) (m.value k)) ∙ whole_get (ElementAt j ∷ []) (get q (m.value k)) (has, tt) (wh kept))
        (element_form q t y j e found) (ap (λ o. steps_type p.core.types o steps) (sym found)
        ∙ is) (λ c r like x wh e. next c r like (extends_more (Index l s) steps q r (ElementAt j) x) wh e)) calm.1) calm.1)

    walk_still : (steps : List Step) (c : Control) (q : Path) (t : TyId) → Like k₀ c → all (IsStep p.core k₀.now.fun) steps → IndexesOk g steps
        → Whole (q ++ still steps)
        → form_on p.core.types (form_at p.core.types (ty k)) q ≡ form p.core.types t → steps_type p.core.types (Some t) steps ≡ Some u
        → ((c : Control) (r : Path) → Like k₀ c → EndsAt (is_exact steps) (q ++ still steps) r → Whole r
        → form_on p.core.types (form_at p.core.types (ty k)) r ≡ form p.core.types u → Sure p S (go c (record { key = k; path = r }) u) m)
        → Sure p S (walk p (aim_for w) c k q t steps go) m
    walk_still [] c q t like ok idx wh e is next = let z : t ≡ u = cc in
        subst (λ t. Sure p S (go c (record { key = k; path = q }) t) m) (sym z) (next c q like (sym (append-nil q)) (subst Whole (append-nil q) wh) (e
        ∙ ap (form p.core.types) z))
    walk_still (Part i ∷ steps) c q t like ok idx wh e is next = good_some p S c (part_type (form p.core.types t) i) _ m (λ y found calm.
        part_step c _ _ i (get q (m.value k)) _ (not_unset q (PartAt i ∷ still steps) (ap is_whole (sym (get_get q (PartAt i ∷ still steps) (m.value k)))
        ∙ wh calm.0.kept)) (λ has.
        walk_still steps c (q ++ PartAt i ∷ []) y like ok.1 idx (subst Whole (sym (append_assoc q (PartAt i ∷ []) (still steps))) wh)
        (part_form q t y i e found) (ap (λ o. steps_type p.core.types o steps) (sym found) ∙ is)
        (λ c r like x wh e. next c r like (subst (λ h. EndsAt (is_exact steps) h r) (append_assoc q (PartAt i ∷ []) (still steps)) x) wh e)) calm.1)
    walk_still (Index l s ∷ steps) c q t like ok idx wh e is next = walk_whole (Index l s ∷ steps) c q t like ok idx (subst Whole (append-nil q) wh) e is
        (λ c r like x wh e. next c r like (subst (λ h. EndsAt false h r) (sym (append-nil q)) x) wh e)

  -- CHANGES of a local

  pub mine_act : (l : ℕ) (k : Key) → k.act ≢ k₀.now.id → k ≢ mine l
  mine_act l k n e = n (ap (λ k. k.act) e)

  pub local_is : (l : ℕ) (t : TyId) → ty (mine l) ≡ Some t → local_type k₀.now.fun l ≡ Some t
  local_is l t y = sym (local l) ∙ y

  -- a value is stored at a place of the type, and its state is d
  pub covered_holds : (g : FlowState) (m : Copies) (h : Now g m) (l : ℕ) (q : Path) (u : TyId) (d : InitMap) (v : Val)
      → type_at p.core.types (local_type k₀.now.fun l) q ≡ Some u → MayWrite m (record { key = mine l; path = q })
      → Fits p.core.types (form p.core.types u) v → Sets p.core.types u d v
      → Holds p.core.types ty n (set_at h.maps (mine l) (with_map q d (h.maps (mine l)))) P (copying.store m (record { key = mine l; path = q }) v)
  covered_holds g m h l q u d v is may fits new =
      holds_store p.core.types ty n h.maps _ P m (record { key = mine l; path = q }) v h.holds may below_n
      (subst (λ f. Fits p.core.types f v) (sym (typed_at g m h l q u is)) fits)
      (λ k n. set_other h.maps (mine l) (with_map q d (h.maps (mine l))) k n)
      (λ t y st. subst (λ c. Sets p.core.types t c (put q v (m.value (mine l)))) (sym (set_same h.maps (mine l) (with_map q d (h.maps (mine l)))))
      (sets_exact p.core.types t u (h.maps (mine l)) d (m.value (mine l)) q v st may.there (ap (λ o. type_at p.core.types o q) (sym (local_is l t y))
      ∙ is) new))

  -- and what is known then says so
  pub covered_as : (init : ℕ → InitMap) (g : FlowState) (m : Copies) (h : Now g m) (l : ℕ) (q : Path) (u : TyId) (d : InitMap) (v : Val)
      → type_at p.core.types (local_type k₀.now.fun l) q ≡ Some u → MayWrite m (record { key = mine l; path = q })
      → Fits p.core.types (form p.core.types u) v → Sets p.core.types u d v
      → Agrees (record g { init = init }) (set_at h.maps (mine l) (with_map q d (h.maps (mine l))))
      → Now (record g { init = init }) (copying.store m (record { key = mine l; path = q }) v)
  covered_as init g m h l q u d v is may fits new agrees = record {
    maps = set_at h.maps (mine l) (with_map q d (h.maps (mine l)));
    holds = covered_holds g m h l q u d v is may fits new;
    agrees = agrees;
    others = λ k n. set_other h.maps (mine l) (with_map q d (h.maps (mine l))) k (mine_act l k n) ∙ h.others k n;
    ties = h.ties;
    params = h.params;
    bound = h.bound;
    same = h.same;
    sound = sound_apply (effect.Store (record { key = mine l; path = q }) v) m may h.sound;
  }

  -- the flow state tells d of it
  pub covered_agrees : (g : FlowState) (m : Copies) (h : Now g m) (l : ℕ) (q : Path) (d d' : InitMap) → AllTell d d' → IsUntied x g l
      → Agrees (with_init g l q d) (set_at h.maps (mine l) (with_map q d' (h.maps (mine l))))
  covered_agrees g m h l q d d' tell untied j t r e leaf =
      tells_set_local h.maps k₀.now.id l g.init (with_map q d (g.init l)) (with_map q d' (h.maps (mine l))) j r
      (untied j t r e leaf) (h.agrees j t r e leaf) (λ y. with_rel (Tells (wholes (set_at h.maps (mine l) (with_map q d' (h.maps (mine l)))) k₀.now.id)) q d d'
      (g.init l) (h.maps (mine l)) r (λ b _. tell _ b)
      (let f : local_type k₀.now.fun l ≡ Some t = ap (local_type k₀.now.fun) (sym y) ∙ e in
      tells_change h.maps k₀.now.id l _ (g.init l r) (h.maps (mine l) r) (untied l t r f leaf) (h.agrees l t r f leaf)))

  pub covered : (g : FlowState) (m : Copies) (h : Now g m) (l : ℕ) (q : Path) (u : TyId) (d d' : InitMap) (v : Val)
      → type_at p.core.types (local_type k₀.now.fun l) q ≡ Some u → MayWrite m (record { key = mine l; path = q })
      → Fits p.core.types (form p.core.types u) v → Sets p.core.types u d' v → AllTell d d' → IsUntied x g l
      → Now (with_init g l q d) (copying.store m (record { key = mine l; path = q }) v)
  covered g m h l q u d d' v is may fits new tell untied =
      covered_as (with_init g l q d).init g m h l q u d' v is may fits new (covered_agrees g m h l q d d' tell untied)

  -- a value is stored, and all that was set in the local still is
  pub uncovered : (g : FlowState) (m : Copies) (h : Now g m) (l : ℕ) (q : Path) (v : Val) → MayWrite m (record { key = mine l; path = q })
      → Fits p.core.types (form_on p.core.types (form_at p.core.types (ty (mine l))) q) v
      → ((t : TyId) → local_type k₀.now.fun l ≡ Some t → Sets p.core.types t (h.maps (mine l)) (m.value (mine l))
      → Sets p.core.types t (h.maps (mine l)) (put q v (m.value (mine l))))
      → Now g (copying.store m (record { key = mine l; path = q }) v)
  uncovered g m h l q v may fits keeps = record {
    maps = h.maps;
    holds = holds_store p.core.types ty n h.maps h.maps P m (record { key = mine l; path = q }) v h.holds may below_n fits (λ k n. refl)
        (λ t y st. keeps t (local_is l t y) st);
    agrees = h.agrees;
    others = h.others;
    ties = h.ties;
    params = h.params;
    bound = h.bound;
    same = h.same;
    sound = sound_apply (effect.Store (record { key = mine l; path = q }) v) m may h.sound;
  }

  -- WALKS to what is stored: what is unset on the way becomes parts that are unset

  module _ (g : FlowState) (l : ℕ) (u : TyId) (go : Control → Spot → TyId → Interaction Control) where
    blank_step : (c : Control) (m : Copies) (q : Path) (t y : TyId) (i : ℕ) (v : Val) (on : Interaction Control) → Now g m → get q (m.value (mine l)) ≡ v
        → type_at p.core.types (local_type k₀.now.fun l) q ≡ Some t
        → part_type (form p.core.types t) i ≡ Some y → ((m : Copies) → Now g m → Sure p S on m)
        → Sure p S (at_part ToWrite c (record { key = mine l; path = q }) (form p.core.types t) i (shape v) on) m
    blank_step c m q t y i Unset on h e is found next =
        let b = has_blank p.core.types (form p.core.types t) t y i refl found in
        good_some p S c (blank_of (form p.core.types t)) _ m (λ v is_b calm. (
          ap holds_array e,
          next _ (uncovered g m h l q v calm.0
              (subst (λ f. Fits p.core.types f v) (sym (typed_at g m h l q t is)) (let z : b.0 ≡ v = some_val b.0 v (sym b.1 ∙ is_b) in
              subst (Fits p.core.types (form p.core.types t)) z b.2))
              (λ t' q' st. sets_blank p.core.types t' (h.maps (mine l)) (m.value (mine l)) q v st calm.0.there e
              (λ r leaf. blank_there (form p.core.types t) v is_b r
              (λ n. leaf_above p.core.types t' y q (PartAt i) [] (subst (IsLeaf p.core.types t') (ap (λ r. q ++ r) n ∙ append-nil q) leaf)
              (type_append p.core.types (Some t') q (PartAt i ∷ [])
              ∙ ap (λ o. type_at p.core.types o (PartAt i ∷ [])) (ap (λ o. type_at p.core.types o q) (sym q') ∙ is)
              ∙ one_type p.core.types (part_type (form p.core.types t) i) y found))))) calm.1,
        ))
      where
        some_val : (a b : Val) → Some a ≡ Some b → a ≡ b
        some_val a b e = cc

        unset_nth : (ts : List TyId) (j : ℕ) (r : Path) → get r (nth j (blanks ts)) ≡ Unset
        unset_nth [] j r = get_unset r
        unset_nth (t ∷ ts) zero r = get_unset r
        unset_nth (t ∷ ts) (suc j) r = unset_nth ts j r

        blank_there : (f : Form) (v : Val) → blank_of f ≡ Some v → (r : Path) → (r ≡ [] → ⊥) → get r v ≡ Unset
        blank_there f v e [] n = absurd (n refl)
        blank_there (Numbers k) v e (j ∷ r) n = absurd (cc)
        blank_there Flags v e (j ∷ r) n = absurd (cc)
        blank_there (Tuples ts) v e (PartAt j ∷ r) n = ap (get (PartAt j ∷ r)) (sym (some_val (Tuple (blanks ts)) v e)) ∙ unset_nth ts j r
        blank_there (Tuples ts) v e (ElementAt j ∷ r) n = ap (get (ElementAt j ∷ r)) (sym (some_val (Tuple (blanks ts)) v e)) ∙ get_unset r
        blank_there (Products d ts) v e (PartAt j ∷ r) n = ap (get (PartAt j ∷ r)) (sym (some_val (Product d (blanks ts)) v e)) ∙ unset_nth ts j r
        blank_there (Products d ts) v e (ElementAt j ∷ r) n = ap (get (ElementAt j ∷ r)) (sym (some_val (Product d (blanks ts)) v e)) ∙ get_unset r
        blank_there (Arrays t) v e (j ∷ r) n = absurd (cc)
        blank_there Unknown v e (j ∷ r) n = absurd (cc)
    blank_step c m q t y i (Number l k) on h e is found next = λ calm. over Stuck refl (λ e. absurd (cc))
    blank_step c m q t y i (Truth b) on h e is found next = λ calm. over Stuck refl (λ e. absurd (cc))
    blank_step c m q t y i (Tuple vs) on h e is found next = good_if p S (nat_lt i (many vs)) c Stuck on m (λ e. absurd (cc)) (λ _. next m h)
    blank_step c m q t y i (Product d vs) on h e is found next = good_if p S (nat_lt i (many vs)) c Stuck on m (λ e. absurd (cc)) (λ _. next m h)
    blank_step c m q t y i (Array vs) on h e is found next = λ calm. over Stuck refl (λ e. absurd (cc))

    walk_blank : (steps : List Step) (c : Control) (m : Copies) (q : Path) (t : TyId) → is_exact steps ≡ true → Like k₀ c → Now g m
        → type_at p.core.types (local_type k₀.now.fun l) q ≡ Some t → steps_type p.core.types (Some t) steps ≡ Some u
        → ((c : Control) (m : Copies) → Like k₀ c → Now g m → type_at p.core.types (local_type k₀.now.fun l) (q ++ still steps) ≡ Some u
        → Sure p S (go c (record { key = mine l; path = q ++ still steps }) u) m)
        → Sure p S (walk p ToWrite c (mine l) q t steps go) m
    walk_blank [] c m q t exact like h is e next = let z : t ≡ u = cc in
        subst (λ r. Sure p S (go c (record { key = mine l; path = r }) t) m) (append-nil q)
        (subst (λ t. Sure p S (go c (record { key = mine l; path = q ++ [] }) t) m) (sym z)
        (next c m like h (ap (type_at p.core.types (local_type k₀.now.fun l)) (append-nil q) ∙ is ∙ ap Some z)))
    walk_blank (Part i ∷ steps) c m q t exact like h is e next = good_some p S c (part_type (form p.core.types t) i) _ m (λ y found calm.
        blank_step c m q t y i (get q (m.value (mine l))) _ h refl is found (λ m h.
        walk_blank steps c m (q ++ PartAt i ∷ []) y exact like h (type_append p.core.types (local_type k₀.now.fun l) q (PartAt i ∷ [])
        ∙ ap (λ o. type_at p.core.types o (PartAt i ∷ [])) is ∙ one_type p.core.types (part_type (form p.core.types t) i) y found)
        (ap (λ o. steps_type p.core.types o steps) (sym found) ∙ e)
        (λ c m like h is. subst (λ r. Sure p S (go c (record { key = mine l; path = r }) u) m) (sym (append_assoc q (PartAt i ∷ []) (still steps)))
        (next c m like h (ap (type_at p.core.types (local_type k₀.now.fun l)) (sym (append_assoc q (PartAt i ∷ []) (still steps))) ∙ is)))) calm.1)
    walk_blank (Index j s ∷ steps) c m q t exact like h is e next = absurd (cc)

  -- what stands at a part of a place is as the flow state says
  part_meets : (g : FlowState) (m : Copies) (h : Now g m) (place : Place) (u : TyId) (s : InitState)
      → type_at p.core.types (local_type k₀.now.fun place.local) (still place.steps) ≡ Some u → IsKept m (mine place.local) → (q : Path)
      → IsLeaf p.core.types u q → Counts s (still_map x g place q) → Meets s (get q (get (still place.steps) (m.value (mine place.local))))
  part_meets g m h place u s is kept q leaf counts = by (local_type k₀.now.fun place.local) refl is
    where
      by : (o : Option TyId) → local_type k₀.now.fun place.local ≡ o → type_at p.core.types o (still place.steps) ≡ Some u
          → Meets s (get q (get (still place.steps) (m.value (mine place.local))))
      by None e is = absurd (cc)
      by (Some t) e is = let inner = leaf_below p.core.types t u (still place.steps) q is leaf in
          subst (Meets s) (get_get (still place.steps) q (m.value (mine place.local)))
          (meets_counts s (h.maps (mine place.local) (still place.steps ++ q)) (get (still place.steps ++ q) (m.value (mine place.local)))
          (tells_counts (wholes h.maps k₀.now.id) s (g.init place.local (still place.steps ++ q)) (h.maps (mine place.local) (still place.steps ++ q))
          (subst (Counts s) (map_below (still place.steps) (g.init place.local) q) counts)
          (h.agrees place.local t (still place.steps ++ q) e inner)) (local_sets g m h place.local t e kept (still place.steps ++ q) inner))

  -- no array is set where none is known to be
  unset_over : (g : FlowState) (m : Copies) (h : Now g m) (place : Place) (u : TyId) → IsOf p.core k₀.now.fun u place
      → type_at p.core.types (local_type k₀.now.fun place.local) (still place.steps) ≡ Some u → NoArray x g place true → IsKept m (mine place.local)
      → holds_array (get (still place.steps) (m.value (mine place.local))) ≡ false
  unset_over g m h place u of is none_there kept = no_array p.core.types u _ (fits_at g m h place.local (still place.steps) u is) (λ q arr.
      part_meets g m h place u IsUnset is kept q (arr.0, arr.2, ap parts_of arr.3) (none_there u of.0 q arr))

  -- no array is in one that is given up where none is known to have an element
  pub loses_none : (fate : effect.Fate) (g : FlowState) (m : Copies) (h : Now g m) (place : Place) (u : TyId) → IsOf p.core k₀.now.fun u place
      → type_at p.core.types (local_type k₀.now.fun place.local) (still place.steps) ≡ Some u → MayLeave x fate g place → IsKept m (mine place.local)
      → LosesNone fate (get (still place.steps) (m.value (mine place.local)))
  loses_none effect.Moved g m h place u of is none kept = tt
  loses_none effect.Deinitialised g m h place u of is none kept = tt
  loses_none effect.Discarded g m h place u of is none kept = none_nested p.core.types u _ (fits_at g m h place.local (still place.steps) u is)
      (λ q arr. part_meets g m h place u IsEmpty is kept q (arr.0, arr.2, ap parts_of arr.3) (none u of.0 q arr))

  -- PLACES

  module _ (g : FlowState) (m : Copies) (h : Now g m) where
    -- what stands at the place, before and past an index
    abbrev pub OnPlace : Place → TyId → (Control → Spot → TyId → Interaction Control) → Type 0
    OnPlace place u go = (c : Control) (r : Path) → Like k₀ c → EndsAt (is_exact place.steps) (still place.steps) r
        → (IsKept m (mine place.local) → is_whole (get r (m.value (mine place.local))) ≡ true)
        → form_on p.core.types (form_at p.core.types (ty (mine place.local))) r ≡ form p.core.types u
        → Sure p S (go c (record { key = mine place.local; path = r }) u) m

    pub spot_set : (w : Way) (place : Place) (u : TyId) (go : Control → Spot → TyId → Interaction Control) → IsOf p.core k₀.now.fun u place
        → IndexesOk g place.steps → IsSetAt x g place → OnPlace place u go
        → (c : Control) → Like k₀ c → Sure p S (spot p (aim_for w) c place go) m
    spot_set w place u go of idx set next c like = subst (λ c. Sure p S (spot p (aim_for w) c place go) m) (sym like.is)
        (good_some p S (record k₀ { turns = like.turns; opened = like.opened; input = like.input; output = like.output })
        (local_type k₀.now.fun place.local) _ m (λ t found.
        let is : steps_type p.core.types (Some t) place.steps ≡ Some u = ap (λ o. steps_type p.core.types o place.steps) (sym found) ∙ of.0 in
        walk_still g m h w (mine place.local) u go place.steps _ [] t (record {
          turns = like.turns;
          opened = like.opened;
          input = like.input;
          output =
              like.output;
          is = refl;
        }) of.1 idx
        (λ kept. placed g m h place t u found is set kept) (ap (form_at p.core.types) (local place.local ∙ found)) is
        (λ c r like ends wh e. next c r like ends wh e)))

    pub spot_blank : (place : Place) (u : TyId) (go : Control → Spot → TyId → Interaction Control) → IsOf p.core k₀.now.fun u place
        → is_exact place.steps ≡ true
        → ((c : Control) (m : Copies) → Like k₀ c → Now g m → type_at p.core.types (local_type k₀.now.fun place.local) (still place.steps) ≡ Some u
        → Sure p S (go c (record { key = mine place.local; path = still place.steps }) u) m)
        → (c : Control) → Like k₀ c → Sure p S (spot p ToWrite c place go) m
    spot_blank place u go of exact next c like = subst (λ c. Sure p S (spot p ToWrite c place go) m) (sym like.is)
        (good_some p S (record k₀ { turns = like.turns; opened = like.opened; input = like.input; output = like.output })
        (local_type k₀.now.fun place.local) _ m (λ t found.
        walk_blank g place.local u go place.steps _ m [] t exact (record {
          turns = like.turns;
          opened = like.opened;
          input = like.input;
          output =
              like.output;
          is = refl;
        }) h
        (one_type p.core.types (local_type k₀.now.fun place.local) t found) (ap (λ o. steps_type p.core.types o place.steps) (sym found) ∙ of.0) next))

    pub fits_there : (l : ℕ) (r : Path) (f : Form) → form_on p.core.types (form_at p.core.types (ty (mine l))) r ≡ f
        → Fits p.core.types f (get r (m.value (mine l)))
    fits_there l r f e =
        subst (λ f. Fits p.core.types f (get r (m.value (mine l)))) e
        (typed_read p.core.types (λ k. form_at p.core.types (ty k)) n m h.holds.typed (record { key = mine l; path = r }))

    pub exact_type : (place : Place) (u : TyId) → IsOf p.core k₀.now.fun u place → is_exact place.steps ≡ true
        → type_at p.core.types (local_type k₀.now.fun place.local) (still place.steps) ≡ Some u
    exact_type place u of e = still_exact p.core.types (local_type k₀.now.fun place.local) place.steps u e of.0

    pub good_read : (place : Place) (u : TyId) (go : Control → Val → Interaction Control) → IsOf p.core k₀.now.fun u place → ReadOk x g place
        → ((c : Control) (v : Val) → Like k₀ c → Fits p.core.types (form p.core.types u) v → is_whole v ≡ true → Sure p S (go c v) m) → (c : Control)
        → Like k₀ c → Sure p S (read p c place go) m
    good_read place u go of ok next = spot_set Reads place u _ of ok.indexes ok.set (λ c r like ends wh e calm.
        let v = get r (m.value (mine place.local)) in
        good_set p S c v (go c v) m (wh calm.0.kept) (next c v like (fits_there place.local r (form p.core.types u) e) (wh calm.0.kept)) calm.1)

    pub no_steps : (steps : List Step) → is_whole_local x steps ≡ true → steps ≡ []
    no_steps [] e = refl
    no_steps (s ∷ steps) e = absurd (cc)

    -- a whole local is read
    pub whole_read : (place : Place) (u : TyId) (go : Control → Val → Interaction Control) → IsOf p.core k₀.now.fun u place → ReadOk x g place
        → is_whole_local x place.steps ≡ true
        → ((c : Control) → Like k₀ c → IsKept m (mine place.local) → Sure p S (go c (m.value (mine place.local))) m) → (c : Control)
        → Like k₀ c → Sure p S (read p c place go) m
    whole_read place u go of ok whole next = spot_set Reads place u _ of ok.indexes ok.set (λ c r like ends wh e calm.
        let is : place.steps ≡ [] = no_steps place.steps whole in
        let z : r ≡ [] = subst (λ steps. EndsAt (is_exact steps) (still steps) r → r ≡ []) (sym is) (λ z. z) ends in
        good_set p S c (get r (m.value (mine place.local))) (go c (get r (m.value (mine place.local)))) m (wh calm.0.kept)
        (subst (λ r. Sure p S (go c (get r (m.value (mine place.local)))) m) (sym z) (next c like calm.0.kept)) calm.1)

    -- and stored to; no array is set there
    pub whole_write : (place : Place) (u : TyId) (v : Val) (go : Control → Interaction Control) → IsOf p.core k₀.now.fun u place → StoreOk x g place
        → is_whole_local x place.steps ≡ true
        → ((c : Control) → Like k₀ c → MayWrite m (whole (mine place.local)) → type_at p.core.types (local_type k₀.now.fun place.local) [] ≡ Some u
        → Sure p S (go c) (copying.store m (whole (mine place.local)) v))
        → (c : Control) → Like k₀ c → Sure p S (write p c place v go) m
    whole_write place u v go of ok is_whole next c like = subst (λ c. Sure p S (write p c place v go) m) (sym like.is)
        (good_some p S c' (local_type k₀.now.fun place.local) _ m (λ t found.
        subst (λ steps. Sure p S (walk p ToWrite c' (mine place.local) [] t steps (λ c s t. Perform (effect.Store s v) (go c))) m) (sym is)
        (λ calm. (
          subst (λ q. holds_array (get q (m.value (mine place.local))) ≡ false) (ap still is)
              (unset_over g m h place u of (exact_type place u of exact) (subst (NoArray x g place) exact ok.over) calm.0.kept),
          next c' (record { turns = like.turns; opened = like.opened; input = like.input; output = like.output; is = refl }) calm.0
              (ap (type_at p.core.types (local_type k₀.now.fun place.local)) (sym (ap still is)) ∙ exact_type place u of exact) calm.1,
        ))))
      where
        c' : Control
        c' = record k₀ { turns = like.turns; opened = like.opened; input = like.input; output = like.output }

        is : place.steps ≡ []
        is = no_steps place.steps is_whole

        exact : is_exact place.steps ≡ true
        exact = ap is_exact is

    -- what stands at a place of the type is given up
    pub gave : (place : Place) (u : TyId) → IsOf p.core k₀.now.fun u place → is_exact place.steps ≡ true → (r : Path) → r ≡ still place.steps
        → IsUntied x g place.local → MayWrite m (record { key = mine place.local; path = r })
        → Now (given x g place) (copying.store m (record { key = mine place.local; path = r }) Unset)
    gave place u of exact r z untied may = subst (λ r. MayWrite m (record { key = mine place.local; path = r })
        → Now (given x g place) (copying.store m (record { key = mine place.local; path = r }) Unset)) (sym z)
        (λ may. covered g m h place.local (still place.steps) u none_set none_set Unset (exact_type place u of exact) may tt
        (sets_none p.core.types u) none_tells untied) may

    pub good_take : (fate : effect.Fate) (place : Place) (u : TyId) (go : Control → Val → Interaction Control) → IsOf p.core k₀.now.fun u place
        → TakeOk x g place → MayLeave x fate g place
        → ((c : Control) (v : Val) (m : Copies) → Like k₀ c → Fits p.core.types (form p.core.types u) v → is_whole v ≡ true → Now (given x g place) m
        → Sure p S (go c v) m) → (c : Control) → Like k₀ c → Sure p S (take_as fate p c place go) m
    good_take fate place u go of ok leave next = spot_set Reads place u _ of (exact_indexes g place.steps ok.give.exact) ok.set (λ c r like ends wh e calm.
        let v = get r (m.value (mine place.local)) in
        let z : r ≡ still place.steps = subst (λ b. EndsAt b (still place.steps) r) ok.give.exact ends in
        let whole : is_whole (get r (m.value (mine place.local))) ≡ true = wh calm.0.kept in
        let fits = fits_there place.local r (form p.core.types u) e in
        let keeps = subst (λ r. LosesNone fate (get r (m.value (mine place.local)))) (sym z)
        (loses_none fate g m h place u of (exact_type place u of ok.give.exact) leave calm.0.kept) in
        good_set p S c v (Perform (effect.Clear (record { key = mine place.local; path = r }) fate) (go c v)) m whole
        (λ calm. (keeps, next c v _ like fits whole (gave place u of ok.give.exact r z ok.give.untied calm.0) calm.1)) calm.1)

    -- a walk to a place that is stored to, which makes it so; no array is set there
    pub spot_store : (place : Place) (u : TyId) (go : Control → Spot → TyId → Interaction Control) → IsOf p.core k₀.now.fun u place → StoreOk x g place
        → ((c : Control) (m : Copies) (s : Spot) → Like k₀ c
        → ((v : Val) (d : InitMap) → AllTell d d → Sets p.core.types u d v → Fits p.core.types (form p.core.types u) v → is_whole v ≡ true → MayWrite m s
        → (holds_array (get s.path (m.value s.key)) ≡ false)
        × Now (stored_as x d g place (is_exact place.steps)) (copying.store m s v)) → Sure p S (go c s u) m)
        → (c : Control) → Like k₀ c → Sure p S (spot p ToWrite c place go) m
    spot_store place u go of ok next = by (is_exact place.steps) refl ok.entered ok.over next
      where
        by : (b : Bool) → is_exact place.steps ≡ b → IsEntered x g place b → NoArray x g place b
            → ((c : Control) (m : Copies) (s : Spot) → Like k₀ c
            → ((v : Val) (d : InitMap) → AllTell d d → Sets p.core.types u d v → Fits p.core.types (form p.core.types u) v → is_whole v ≡ true → MayWrite m s
            → (holds_array (get s.path (m.value s.key)) ≡ false) × Now (stored_as x d g place b) (copying.store m s v)) → Sure p S (go c s u) m)
            → (c : Control) → Like k₀ c → Sure p S (spot p ToWrite c place go) m
        by true exact entered none_there next = spot_blank place u _ of exact (λ c m like h is. next c m _ like (λ v d tell sets fits whole may. (
          unset_over g m h place u of is none_there may.kept,
          covered g m h place.local (still place.steps) u d d v is may fits sets tell ok.untied,
        )))
        by false exact entered none_there next = spot_set Writes place u _ of ok.indexes entered (λ c r like ends wh e.
            let z : (j : Selector) × (rest : Path) × (r ≡ still place.steps ++ j ∷ rest) = subst (λ b. EndsAt b (still place.steps) r) exact ends in
            let a = still_array p.core.types (local_type k₀.now.fun place.local) place.steps u exact of.0 in
            next c m _ like (λ v d tell sets fits whole may. (
              no_array p.core.types u (get r (m.value (mine place.local))) (fits_there place.local r (form p.core.types u) e)
                  (λ q arr. absurd (none_there u of.0 q arr)),
              uncovered g m h place.local r v may (subst (λ f. Fits p.core.types f v) (sym e) fits) (λ t y st.
                  subst (λ r. IsThere r (m.value (mine place.local))
                  → Sets p.core.types t (h.maps (mine place.local)) (put r v (m.value (mine place.local)))) (sym z.2)
                  (λ there. sets_inner p.core.types t a.0 a.1 (h.maps (mine place.local)) (m.value (mine place.local)) (still place.steps) z.0 z.1 v st
                  there (ap (λ o. type_at p.core.types o (still place.steps)) (sym y) ∙ a.2) a.3 whole) may.there),
            )))

    pub good_write : (place : Place) (u : TyId) (v : Val) (go : Control → Interaction Control) → IsOf p.core k₀.now.fun u place → StoreOk x g place
        → Fits p.core.types (form p.core.types u) v → is_whole v ≡ true
        → ((c : Control) (m : Copies) → Like k₀ c → Now (stored x g place) m → Sure p S (go c) m)
        → (c : Control) → Like k₀ c → Sure p S (write p c place v go) m
    good_write place u v go of ok fits whole next =
        spot_store place u _ of ok (λ c m s like store calm. let z = store v all_set set_tells (sets_whole p.core.types u v fits whole) fits whole calm.0 in
        (z.0, next c _ like z.1 calm.1))

    -- ARRAYS

    pub good_arrays : (place : Place) (u t : TyId) (go : Control → Spot → Vals → Interaction Control) → IsOf p.core k₀.now.fun u place
        → form p.core.types u ≡ Arrays t → IndexesOk g place.steps → IsSetAt x g place
        → ((c : Control) (r : Path) (vs : Vals) → Like k₀ c → EndsAt (is_exact place.steps) (still place.steps) r
        → form_on p.core.types (form_at p.core.types (ty (mine place.local))) r ≡ form p.core.types u
        → FitsEach p.core.types t vs → all_whole vs ≡ true → IsKept m (mine place.local) → get r (m.value (mine place.local)) ≡ Array vs
        → Sure p S (go c (record { key = mine place.local; path = r }) vs) m)
        → (c : Control) → Like k₀ c → Sure p S (read_array p c place go) m
    good_arrays place u t go of is idx set next = spot_set Reads place u _ of idx set (λ c r like ends wh e calm.
        let v = get r (m.value (mine place.local)) in
        good_set p S c v (with_array c v (go c (record { key = mine place.local; path = r }))) m (wh calm.0.kept)
        (good_array p S c v (go c (record { key = mine place.local; path = r })) m (wh calm.0.kept) (λ vs q. next c r vs like ends e
        (each_of (Arrays t) vs
        (subst (λ f. Fits p.core.types f (Array vs)) is (subst (Fits p.core.types (form p.core.types u)) q
        (fits_there place.local r (form p.core.types u) e))) refl)
        (ap is_whole (sym q) ∙ wh calm.0.kept) calm.0.kept q)) calm.1)
      where
        each_of : (f : Form) (vs : Vals) → Fits p.core.types f (Array vs) → f ≡ Arrays t → FitsEach p.core.types t vs
        each_of f vs h e = let q : f ≡ Arrays h.0 = h.1 in let s : h.0 ≡ t = cc in subst (λ t. FitsEach p.core.types t vs) s h.2

    -- an array is changed where it stands
    pub array_changed : (place : Place) (u t : TyId) (r : Path) (vs : Vals) → IsOf p.core k₀.now.fun u place → form p.core.types u ≡ Arrays t
        → EndsAt (is_exact place.steps) (still place.steps) r
        → form_on p.core.types (form_at p.core.types (ty (mine place.local))) r ≡ form p.core.types u → FitsEach p.core.types t vs → all_whole vs ≡ true
        → IsUntied x g place.local → MayWrite m (record { key = mine place.local; path = r })
        → Now (changed x g place) (copying.store m (record { key = mine place.local; path = r }) (Array vs))
    array_changed place u t r vs of is ends e each whole untied may = by (is_exact place.steps) refl ends
      where
        fits : Fits p.core.types (form p.core.types u) (Array vs)
        fits = (t, is, each)

        by : (b : Bool) → is_exact place.steps ≡ b → EndsAt b (still place.steps) r
            → Now (stored_if x g place b) (copying.store m (record { key = mine place.local; path = r }) (Array vs))
        by true exact z = subst (λ r. MayWrite m (record { key = mine place.local; path = r })
            → Now (stored_if x g place true) (copying.store m (record { key = mine place.local; path = r }) (Array vs))) (sym z)
            (λ may. covered g m h place.local (still place.steps) u all_set all_set (Array vs) (exact_type place u of exact) may fits
            (sets_whole p.core.types u (Array vs) fits whole) set_tells untied) may
        by false exact z =
            let a = still_array p.core.types (local_type k₀.now.fun place.local) place.steps u exact of.0 in
            uncovered g m h place.local r (Array vs) may (subst (λ f. Fits p.core.types f (Array vs)) (sym e) fits) (λ y q st.
            subst (λ r. IsThere r (m.value (mine place.local))
            → Sets p.core.types y (h.maps (mine place.local)) (put r (Array vs) (m.value (mine place.local)))) (sym z.2)
            (λ there. sets_inner p.core.types y a.0 a.1 (h.maps (mine place.local)) (m.value (mine place.local)) (still place.steps) z.0 z.1 (Array vs) st
            there (ap (λ o. type_at p.core.types o (still place.steps)) (sym q) ∙ a.2) a.3 whole) may.there)
