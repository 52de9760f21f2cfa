-- Deinitialisations of a core that has a flow: the body of each is lent a whole product, and what a `Drop` leaves is unset.
use Rattle.std.proofs.Common.{◌≡◌, ◌≢◌, ◌⊎◌, inl, inr, ℕ, zero, suc, ◌<◌, ◌≤◌, ◌==◌, ◌&&◌, Bool, true, false, cond, nat_lt, List, [], ◌∷◌}
use Rattle.std.proofs.Common.{◌++◌, length, Option, Some, None, slice_get, refl, sym, ap, ◌∙◌, subst, append_assoc, append-nil, arith}
use Rattle.std.proofs.lemmas.Bool.Decides.{eqb_tells}
use Rattle.hy_types.specs.declared.kinds.TyId.{TyId}
use Rattle.hy_types.specs.Types.{declared}
use Rattle.hy_core.specs.Plain.{Step, Part, Index, Place, Fun, ByInout, lent_types, types_of}
use Rattle.hy_core.specs.Values.{Val, Unset, Number, Truth, Tuple, Product, Array, Vals, Selector, PartAt, ElementAt, Path, many, get, shape}
use Rattle.hy_core.specs.Values.{is_whole, all_whole, is_blank, all_blank, No, And, nth, part}
use Rattle.hy_core.specs.Memory.{Key, Spot, below, set_at, Writes, Origin, Copies, lend_copy}
use Rattle.hy_core.specs.Runs as effect
use Rattle.hy_core.specs.Runs.{Interaction, Fetch, Inspect, Perform, Return, apply}
use Rattle.hy_core.specs.Calm.{IsKept, MayLend}
use Rattle.hy_core.specs.Control.{Products, form, part_type, local_type, Deed, Body, EachOf, Element, Task, Do, Value, PartsOf, Unsets, Work, Drops}
use Rattle.hy_core.specs.Control.{Nowhere, Stuck, Deinitialises, Control, Setting, with_work, ToDrop, at_part, walk}
use Rattle.hy_core.specs.Statements.{begun, deinit_of, deeds, part_deeds, elements, doing, is_whole_product, does_deed, first_deed, clears}
use Rattle.hy_core.specs.Statements.{does_tasks, drop}
use Rattle.hy_core.specs.Typing.{all, type_at, still, IsLeaf}
use Rattle.hy_core.specs.Shaped.{IsOf, IsDeinit, Shaped}
use Rattle.hy_core.specs.Flow.{InitState, IsSet, IsUnset, all_set, none_set, with_map, FlowState, Signature, signature_of, terms_at, Context, with_init}
use Rattle.hy_core.specs.Flow.{is_exact, GiveOk, given, FlowsInto, BodyFlows, context_of}
use Rattle.std.proofs.Common.{⊎_elim}
use Rattle.hy_core.specs.Flow.{InitMap, IsKnown, IsEmpty, IsEmptyWithout, IsDoubtful, IsSetWith, Becomes, set_local}
use Rattle.hy_core.proofs.FlowStates.{SignsSet, Tells, tells_same, tells_doubtful, becomes_self, becomes_on}
use Rattle.hy_core.proofs.SetFrames.{SpotSet, SameInit}
use Rattle.hy_core.proofs.Keys.{set_same, set_other}
use Rattle.hy_core.proofs.Values.{get_get, get_unset}
use Rattle.hy_core.proofs.OpenPlaces.{sound_apply}
use Rattle.hy_core.proofs.Typed.{form_at, form_on, declared_with, Fits, typed_read}
use Rattle.hy_core.proofs.CalmWalks.{at}
use Rattle.hy_core.proofs.CalmFrames.{context, some_is, DeedOn}
use Rattle.hy_core.proofs.CalmDrops.{deeds_on, part_deeds_on}
use Rattle.hy_core.proofs.CalmSteps.{Like, like_self}
use Rattle.hy_core.proofs.Stuck.{deinit_found}
use Rattle.hy_core.proofs.SetValues.{truth_of, Meets, meets_set, split, with_map_below, with_map_apart, with_map_above, whole_unset, sets_none}
use Rattle.hy_core.proofs.SetMemories.{InitMaps, holds_lent, kept_here}
use Rattle.hy_core.proofs.SetGood.{Fine, over, stands, Sure, good_some, good_if, good_turn}
use Rattle.hy_core.proofs.SetTies.{still_exact, wholes, with_rel, tells_change, tells_set_local, untied_with, none_tells, Tie, IsForeign}
use Rattle.hy_core.proofs.SetWalks.{covered}
use Rattle.hy_core.proofs.SetFrames.{flows_less, TasksSet, WorkSet, Stands}
use Rattle.hy_core.proofs.SetSteps.{small_of, Here, here_work, here_less, here_stands, here_now, now_here, like_stands, acting}
use Rattle.hy_core.proofs.SetEntries.{Handing, begins, ty', maps₀, promised', holds₀, ty_new, maps_old, maps_new, at_new, at_old, not_started}

-- a whole product of a declaration
product_is : (d : ℕ) (v : Val) → is_whole_product d v ≡ true → (vs : Vals) × (v ≡ Product d vs) × (all_whole vs ≡ true)
product_is d Unset e = absurd (cc)
product_is d (Number t n) e = absurd (cc)
product_is d (Truth b) e = absurd (cc)
product_is d (Tuple vs) e = absurd (cc)
product_is d (Product k vs) e = by (k == d) (eqb_tells k d) e
  where
    by : (b : Bool) → ((b ≡ true) × (k ≡ d)) ⊎ ((b ≡ false) × (k ≢ d)) → (b && all_whole vs) ≡ true → (ws : Vals) × (Product k vs ≡ Product d ws)
        × (all_whole ws ≡ true)
    by true (inl x) e = (vs, ap (λ k. Product k vs) x.1, e)
    by true (inr x) e = absurd (let z = x.0 in cc)
    by false x e = absurd (cc)
product_is d (Array vs) e = absurd (cc)

unset_state : (s : InitState) (v : Val) → Meets s v → v ≡ Unset → s ≡ IsUnset
unset_state IsSet v m e = absurd (whole_unset [] (ap is_whole (sym e) ∙ m))
unset_state IsUnset v m e = refl
unset_state (IsKnown b) v m e = absurd (let z : None ≡ Some b = ap truth_of (sym e) ∙ m in cc)
unset_state IsEmpty v m e = absurd (let z : Array No ≡ Unset = sym m ∙ e in cc)
unset_state (IsEmptyWithout l) v m e = absurd m
unset_state IsDoubtful v m e = absurd m
unset_state (IsSetWith f) v m e = absurd m

-- what has nothing set in it has no whole part
and_two : (a b : Bool) → (a && b) ≡ true → (a ≡ true) × (b ≡ true)
and_two true b e = (refl, e)
and_two false b e = absurd (cc)

blank_nth : (k : ℕ) (vs : Vals) → all_blank vs ≡ true → is_blank (nth k vs) ≡ true
blank_nth k No e = refl
blank_nth zero (And v vs) e = (and_two (is_blank v) (all_blank vs) e).0
blank_nth (suc k) (And v vs) e = blank_nth k vs (and_two (is_blank v) (all_blank vs) e).1

some_all : (vs : Vals) → is_blank (Tuple vs) ≡ true → all_blank vs ≡ true
some_all No e = refl
some_all (And v vs) e = e

blank_part : (i : Selector) (v : Val) → is_blank v ≡ true → is_blank (part i v) ≡ true
blank_part i Unset e = refl
blank_part i (Number t n) e = refl
blank_part i (Truth b) e = refl
blank_part (PartAt k) (Tuple vs) e = blank_nth k vs (some_all vs e)
blank_part (ElementAt k) (Tuple vs) e = refl
blank_part (PartAt k) (Product d vs) e = blank_nth k vs (some_all vs e)
blank_part (ElementAt k) (Product d vs) e = refl
blank_part (PartAt k) (Array vs) e = refl
blank_part (ElementAt k) (Array vs) e = absurd (cc)

blank_get : (q : Path) (v : Val) → is_blank v ≡ true → is_blank (get q v) ≡ true
blank_get [] v e = e
blank_get (i ∷ q) v e = blank_get q (part i v) (blank_part i v e)

mutual
  not_both : (v : Val) → is_blank v ≡ true → is_whole v ≡ true → ⊥
  not_both Unset b w = absurd (cc)
  not_both (Number t n) b w = absurd (cc)
  not_both (Truth k) b w = absurd (cc)
  not_both (Tuple vs) b w = not_some vs b w
  not_both (Product d vs) b w = not_some vs b w
  not_both (Array vs) b w = absurd (cc)

  not_some : (vs : Vals) → is_blank (Tuple vs) ≡ true → all_whole vs ≡ true → ⊥
  not_some No b w = absurd (cc)
  not_some (And v vs) b w = not_both v (and_two (is_blank v) (all_blank vs) b).0 (and_two (is_whole v) (all_whole vs) w).0

blank_state : (s : InitState) (v : Val) → Meets s v → is_blank v ≡ true → s ≡ IsUnset
blank_state IsSet v m b = absurd (not_both v b m)
blank_state IsUnset v m b = refl
blank_state (IsKnown c) v m b = absurd (not_both v b (meets_set (IsKnown c) v tt m))
blank_state IsEmpty v m b = absurd (let z : false ≡ true = sym (ap is_blank m) ∙ b in cc)
blank_state (IsEmptyWithout l) v m b = absurd m
blank_state IsDoubtful v m b = absurd m
blank_state (IsSetWith f) v m b = absurd m

-- a map under one that is put over it
map_over : (p : Path) (d d' c : InitMap) (q : Path) → with_map p d (with_map p d' c) q ≡ with_map p d c q
map_over p d d' c q = ⊎_elim
    (λ a. with_map_apart p d (with_map p d' c) q a ∙ with_map_apart p d' c q a ∙ sym (with_map_apart p d c q a))
    (λ b. ⊎_elim
    (λ x. ap (with_map p d (with_map p d' c)) x.1 ∙ with_map_below p d (with_map p d' c) x.0 ∙ sym (ap (with_map p d c) x.1 ∙ with_map_below p d c x.0))
    (λ x. ap (λ p. with_map p d (with_map p d' c) q) x.2 ∙ with_map_above q x.0 x.1 d (with_map (q ++ x.0 ∷ x.1) d' c) ∙ with_map_above q x.0 x.1 d' c
    ∙ sym (ap (λ p. with_map p d c q) x.2 ∙ with_map_above q x.0 x.1 d c)) b) (split p q)

module _ (p : Setting) (signatures : ℕ → Signature) (sh : Shaped p.core) (c : Control) (m : Copies) (number : ℕ) (g : FlowState)
    (here : Here p signatures c m number g) where
  abbrev x : Context
  x = context p signatures number c.now.fun

  abbrev S : Control → Copies → Type 0
  S = Stands p signatures

  abbrev Left : FlowState → Type 0
  Left d = WorkSet (context p signatures number c.now.fun) c.now.id c.now.work d

  abbrev mine : ℕ → Key
  mine l = at c.now.id l

  -- with other maps that tell the same
  here_init : (d : FlowState) → d.status ≡ g.status
      → ((l : ℕ) (t : TyId) (q : Path) → local_type c.now.fun l ≡ Some t → IsLeaf p.core.types t q
      → Tells (wholes here.maps c.now.id) (d.init l q) (here.maps (mine l) q)) → Here p signatures c m number d
  here_init d status init = record {
    none = here.none;
    ty = here.ty;
    maps = here.maps;
    promised = here.promised;
    holds = here.holds;
    sound = here.sound;
    found = here.found;
    below = here.below;
    locals = here.locals;
    agrees = init;
    ties = λ l. subst (λ s. Tie p.core.types c.now.fun c.now.id l (s l) (m.opened (at c.now.id l))) (sym status) (here.ties l);
    params = λ j lt. let r = here.params j lt in (r.0, ap (λ s. s j) status ∙ r.1);
    bound = λ l w e q. here.bound l w (ap (λ s. s l) (sym status) ∙ e) q;
    promises = here.promises;
    callers = here.callers;
    asleep = here.asleep;
    ids = here.ids;
  }

  -- a part of a local that is told in another way
  pub here_told : (l : ℕ) (path : Path) (map : InitMap) → ((t : TyId) (b : Path) → local_type c.now.fun l ≡ Some t → IsLeaf p.core.types t (path ++ b)
      → Tells (wholes here.maps c.now.id) (map b) (here.maps (mine l) (path ++ b))) → Here p signatures c m number (with_init g l path map)
  here_told l path map told = here_init (with_init g l path map) refl (λ j t q y leaf. by j t q y leaf (eqb_tells j l))
    where
      F : ℕ → InitState
      F = wholes here.maps c.now.id

      by : (j : ℕ) (t : TyId) (q : Path) → local_type c.now.fun j ≡ Some t → IsLeaf p.core.types t q
          → (((j == l) ≡ true) × (j ≡ l)) ⊎ (((j == l) ≡ false) × (j ≢ l)) → Tells F ((with_init g l path map).init j q) (here.maps (mine j) q)
      by j t q y leaf (inr z) = subst (λ s. Tells F s (here.maps (mine j) q))
          (sym (ap (λ b. cond b (with_map path map (g.init l)) (g.init j) q) z.0)) (here.agrees j t q y leaf)
      by j t q y leaf (inl z) = subst (λ s. Tells F s (here.maps (mine j) q))
          (sym (ap (λ b. cond b (with_map path map (g.init l)) (g.init j) q) z.0))
          (subst (λ j. Tells F (with_map path map (g.init l) q) (here.maps (mine j) q))
          (sym z.1) (with_rel (λ s _. Tells F s (here.maps (mine l) q)) path map map (g.init l) (g.init l) q
          (λ b is. subst (λ q. Tells F (map b) (here.maps (mine l) q)) (sym is)
          (told t b (ap (local_type c.now.fun) (sym z.1) ∙ y) (subst (IsLeaf p.core.types t) is leaf)))
          (here.agrees l t q (ap (local_type c.now.fun) (sym z.1) ∙ y) leaf)))

  -- THE DROP of a place whose way is unset does nothing

  module _ (place : Place) (u : TyId) (d : FlowState) (is_of : IsOf p.core c.now.fun u place) (ok : GiveOk x g place)
      (flows : FlowsInto x (given x g place) d) (left : Left d) where
    there : type_at p.core.types (local_type c.now.fun place.local) (still place.steps) ≡ Some u
    there = still_exact p.core.types (local_type c.now.fun place.local) place.steps u ok.exact is_of.0

    nothing : (q r : Path) → still place.steps ≡ q ++ r → IsKept m (mine place.local) → get q (m.value (mine place.local)) ≡ Unset
        → Here p signatures c m number (given x g place)
    nothing q r e kept unset = here_told place.local (still place.steps) none_set (λ t b y leaf.
        unset_state (here.maps (mine place.local) (still place.steps ++ b)) (get (still place.steps ++ b) (m.value (mine place.local)))
        (here.holds.set (mine place.local) (kept_here m (mine place.local) kept) t (here.locals place.local ∙ y) (still place.steps ++ b) leaf)
        (ap (λ s. get (s ++ b) (m.value (mine place.local))) e ∙ ap (λ s. get s (m.value (mine place.local))) (append_assoc q r b)
        ∙ get_get q (r ++ b) (m.value (mine place.local)) ∙ ap (get (r ++ b)) unset ∙ get_unset (r ++ b)))

    -- what stands at the place may be set or not while it is deinitialised
    abbrev doubted : FlowState
    doubted = with_init g place.local (still place.steps) (λ q. IsDoubtful)

    here_doubted : Here p signatures c m number doubted
    here_doubted = here_told place.local (still place.steps) (λ q. IsDoubtful) (λ t b y leaf. tells_doubtful (wholes here.maps c.now.id)
        (g.init place.local (still place.steps ++ b)) (here.maps (mine place.local) (still place.steps ++ b))
        (here.agrees place.local t (still place.steps ++ b) y leaf))

    spot_set : SpotSet (context p signatures number c.now.fun) c.now.id doubted (record { key = mine place.local; path = still place.steps })
    spot_set = record {
      own = refl;
      untied = untied_with (context p signatures number c.now.fun) g place.local (still place.steps) (λ q. IsDoubtful) place.local
          (λ t r e leaf. tt) ok.untied;
      doubtful = λ r. ⊎_elim
          (λ a. ap (λ b. cond b (with_map (still place.steps) (λ q. IsDoubtful) (g.init place.local)) (g.init place.local) (still place.steps ++ r)) a.0
          ∙ with_map_below (still place.steps) (λ q. IsDoubtful) (g.init place.local) r)
          (λ a. absurd (a.1 refl)) (eqb_tells place.local place.local);
    }

    -- what is unset at the end is so in the flow state
    ends_so : SameInit (context p signatures number c.now.fun) (with_init doubted place.local (still place.steps) none_set) d
    ends_so = record {
      status = flows.status;
      init = λ l t q y leaf. subst (λ s. Becomes (context p signatures number c.now.fun)
          (with_init doubted place.local (still place.steps) none_set) s (d.init l q))
          (sym (same l q)) (becomes_on (context p signatures number c.now.fun) (with_init doubted place.local (still place.steps) none_set) (given x g place)
          (λ l t q y leaf. subst (Becomes (context p signatures number c.now.fun) (with_init doubted place.local (still place.steps) none_set)
          ((with_init doubted place.local (still place.steps) none_set).init l q)) (same l q)
          (becomes_self (context p signatures number c.now.fun) (with_init doubted place.local (still place.steps) none_set)
          ((with_init doubted place.local (still place.steps) none_set).init l q)))
          ((given x g place).init l q) ((given x g place).init l q) (d.init l q)
          (becomes_self (context p signatures number c.now.fun) (with_init doubted place.local (still place.steps) none_set) ((given x g place).init l q))
          (flows.init l t q y leaf));
    }
      where
        same : (l : ℕ) (q : Path) → (with_init doubted place.local (still place.steps) none_set).init l q ≡ (given x g place).init l q
        same l q = ⊎_elim
            (λ a. ap (λ b. cond b (with_map (still place.steps) none_set (doubted.init place.local)) (doubted.init l) q) a.0
            ∙ ap (λ c. with_map (still place.steps) none_set c q) (λ i r. mine_init r i)
            ∙ map_over (still place.steps) none_set (λ q. IsDoubtful) (g.init place.local) q
            ∙ sym (ap (λ b. cond b (with_map (still place.steps) none_set (g.init place.local)) (g.init l) q) a.0))
            (λ a. ap (λ b. cond b (with_map (still place.steps) none_set (doubted.init place.local)) (doubted.init l) q) a.0
            ∙ ap (λ b. cond b (with_map (still place.steps) (λ q. IsDoubtful) (g.init place.local)) (g.init l) q) a.0
            ∙ sym (ap (λ b. cond b (with_map (still place.steps) none_set (g.init place.local)) (g.init l) q) a.0)) (eqb_tells l place.local)
          where
            mine_init : (r : Path) → doubted.init place.local r ≡ with_map (still place.steps) (λ q. IsDoubtful) (g.init place.local) r
            mine_init r = ⊎_elim
                (λ a. ap (λ b. cond b (with_map (still place.steps) (λ q. IsDoubtful) (g.init place.local)) (g.init place.local) r) a.0)
                (λ a. absurd (a.1 refl)) (eqb_tells place.local place.local)

    abbrev on : Control → Spot → TyId → Interaction Control
    on e s t = Return (with_work e (Drops (Value s ∷ Unsets s ∷ []) e.now.work))

    abbrev at_place : Spot
    at_place = record { key = mine place.local; path = still place.steps }

    begun_so : (e : Control) → Like c e → Fine S (with_work e (Drops (Value at_place ∷ Unsets at_place ∷ []) e.now.work)) m
    begun_so e like = subst (λ (e : Control). Fine S (with_work e (Drops (Value at_place ∷ Unsets at_place ∷ []) e.now.work)) m) (sym like.is)
        (stands (like_stands p signatures sh k m number doubted
        (here_work p signatures c m number doubted (Drops (Value at_place ∷ Unsets at_place ∷ []) c.now.work) c.turns here_doubted)
        (record k { turns = like.turns; opened = like.opened; input = like.input; output = like.output }) m doubted
        (record { turns = like.turns; opened = like.opened; input = like.input; output = like.output; is = refl })
        (here_work p signatures c m number doubted (Drops (Value at_place ∷ Unsets at_place ∷ []) c.now.work) c.turns here_doubted)
        (spot_set, (spot_set, (u, there), (d, ends_so, left)))))
      where
        k : Control
        k = with_work c (Drops (Value at_place ∷ Unsets at_place ∷ []) c.now.work)

    quits : (e : Control) → Like c e → Here p signatures c m number (given x g place) → Fine S e m
    quits e like h = stands (like_stands p signatures sh c m number g here e m d like
        (here_less p signatures c m number (given x g place) d (flows_less x (given x g place) d flows) h) left)

    walk_drop : (steps : List Step) (e : Control) (q : Path) (t : TyId) → is_exact steps ≡ true → Like c e → still place.steps ≡ q ++ still steps
        → Sure p S (walk p ToDrop e (mine place.local) q t steps on) m
    walk_drop [] e q t exact like at_end = λ quiet. subst (λ r. Fine S (with_work e
        (Drops (Value (record { key = mine place.local; path = r }) ∷ Unsets (record { key = mine place.local; path = r }) ∷ []) e.now.work)) m)
        (at_end ∙ append-nil q) (begun_so e like)
    walk_drop (Part i ∷ steps) e q t exact like at_end = good_some p S e (part_type (form p.core.types t) i) _ m (λ y found quiet.
        by y (get q (m.value (mine place.local))) (λ unset. quits e like (nothing q (PartAt i ∷ still steps) at_end quiet.0.kept unset)) refl
        (walk_drop steps e (q ++ PartAt i ∷ []) y exact like (at_end ∙ sym (append_assoc q (PartAt i ∷ []) (still steps)))) quiet.1)
      where
        by : (y : TyId) (v : Val) → (get q (m.value (mine place.local)) ≡ Unset → Fine S e m) → get q (m.value (mine place.local)) ≡ v
            → Sure p S (walk p ToDrop e (mine place.local) (q ++ PartAt i ∷ []) y steps on) m
            → Sure p S (at_part ToDrop e (record { key = mine place.local; path = q }) (form p.core.types t) i (shape v)
            (walk p ToDrop e (mine place.local) (q ++ PartAt i ∷ []) y steps on)) m
        by y Unset quits is next quiet = quits is
        by y (Number k n) quits is next quiet = over Stuck refl (λ e. absurd (cc))
        by y (Truth b) quits is next quiet = over Stuck refl (λ e. absurd (cc))
        by y (Tuple vs) quits is next quiet = good_if p S (nat_lt i (many vs)) e Stuck _ m (λ e. absurd (cc)) (λ _. next) quiet
        by y (Product k vs) quits is next quiet = good_if p S (nat_lt i (many vs)) e Stuck _ m (λ e. absurd (cc)) (λ _. next) quiet
        by y (Array vs) quits is next quiet = over Stuck refl (λ e. absurd (cc))
    walk_drop (Index l s ∷ steps) e q t exact like at_end = absurd (cc)

    pub drop_begins : Sure p S (drop p Deinitialises c place) m
    drop_begins = good_some p S c (local_type c.now.fun place.local) _ m
        (λ t found. walk_drop place.steps c [] t ok.exact (like_self c) refl)

  -- THE BODY of a deinitialiser begins

  module _ (signs : (n : ℕ) → signatures n ≡ signature_of (slice_get p.core.funs n)) (reads : SignsSet signatures)
      (each : (n : ℕ) (f : Fun) → slice_get p.core.funs n ≡ Some f → BodyFlows (context_of p.stage p.core signatures n f))
      (d : ℕ) (s : Spot) (spot : SpotSet (context p signatures number c.now.fun) c.now.id g s) (left : Left g) (n : ℕ)
      (deinit : deinit_of p.core.deinits d ≡ Some n) (f : Fun) (found : slice_get p.core.funs n ≡ Some f)
      (vs : Vals) (is : get s.path (m.value s.key) ≡ Product d vs) (whole : all_whole vs ≡ true) (may : MayLend m (at c.started zero) s Writes) where
    abbrev new : Origin
    new = record { base = s.key; path = s.path; way = Writes }

    abbrev types' : Key → Option TyId
    types' = ty' p signatures sh reads each c m number g here n f found

    abbrev maps' : InitMaps
    maps' = set_at (set_at (maps₀ p signatures sh reads each c m number g here n f found) s.key
        (with_map s.path all_set (maps₀ p signatures sh reads each c m number g here n f found s.key))) (at c.started zero) all_set

    abbrev maps₁ : InitMaps
    maps₁ = set_at (maps₀ p signatures sh reads each c m number g here n f found) s.key
        (with_map s.path all_set (maps₀ p signatures sh reads each c m number g here n f found s.key))

    own : s.key.act ≡ c.now.id
    own = spot.own

    abbrev after : InitMaps
    after = promised' p signatures sh reads each c m number g here n f found

    abbrev Terms_are : Fun → Type 0
    Terms_are f = (t : TyId) × (f.lent ≡ record { type = t; convention = ByInout } ∷ []) × (f.owned ≡ []) × (form_on p.core.types
        (form_at p.core.types (here.ty s.key)) s.path ≡ form p.core.types t)

    terms : Terms_are f
    terms =
        let y = deinit_found p sh p.core.deinits d n deinit sh.deinits in
        let e : IsDeinit p.core y.0 = y.3 in
        let z : Some e.fun ≡ Some f = sym e.there ∙ ap (slice_get p.core.funs) y.2 ∙ found in
        let same : e.fun ≡ f = cc in
        let fits : Fits p.core.types (form_on p.core.types (form_at p.core.types (here.ty s.key)) s.path) (Product d vs) =
        subst (Fits p.core.types (form_on p.core.types (form_at p.core.types (here.ty s.key)) s.path)) is
        (typed_read p.core.types (λ k. form_at p.core.types (here.ty k)) c.started m here.holds.typed s) in
        let parts : Some e.parts ≡ Some fits.0 = sym (declared_with p.core.types e.type y.0.product e.parts e.product) ∙ ap (declared p.core.types) y.1
        ∙ fits.2 in
        let same_parts : e.parts ≡ fits.0 = cc in (
          e.type,
          ap (λ f. f.lent) (sym same) ∙ e.lent,
          ap (λ f. f.owned) (sym same) ∙ e.owned,
          fits.1 ∙ (λ i. Products (sym y.1 i) (sym same_parts i)) ∙ sym e.product,
        )

    lent_is : lent_types f ≡ terms.0 ∷ []
    lent_is = ap types_of terms.1

    one_lent : length (lent_types f) ≡ 1
    one_lent = ap (λ us. length us) lent_is

    none_owned : length f.owned ≡ 0
    none_owned = ap (λ us. length us) terms.2

    sign : (signatures n).lent 0 ≡ terms_at (Some (record { type = terms.0; convention = ByInout }))
    sign = ap (λ s. s.lent 0) (signs n ∙ ap signature_of found) ∙ ap (λ ps. terms_at (slice_get ps 0)) terms.1

    first_type : local_type f 0 ≡ Some terms.0
    first_type = ap (λ us. slice_get (us ++ (f.owned ++ f.locals)) 0) lent_is

    new_type : types' (at c.started zero) ≡ Some terms.0
    new_type = ty_new p signatures sh reads each c m number g here n f found zero ∙ first_type

    not_first : (k : Key) → k.act < c.started → k ≢ at c.started zero
    not_first k lt e = let z : k.act ≡ c.started = ap (λ k. k.act) e in absurd (omega arith)

    s_below : s.key.act < c.started
    s_below = let lt = here.below in subst (λ a. a < c.started) (sym own) lt

    old_type : types' s.key ≡ here.ty s.key
    old_type = at_old p signatures sh reads each c m number g here n f found here.ty (local_type f) s.key (λ e. let lt = s_below in omega arith)

    later : (j : ℕ) → 1 ≤ j → at c.started j ≢ at c.started zero
    later j le e = let z : j ≡ zero = ap (λ k. k.local) e in absurd (omega arith)

    first_one : (j : ℕ) → j < length (lent_types f) → j ≡ zero
    first_one j lt = let z = one_lent in omega arith

    none_opened : (j : ℕ) → m.opened (at c.started j) ≡ None
    none_opened j = by (m.opened (at c.started j)) refl
      where
        by : (o : Option Origin) → m.opened (at c.started j) ≡ o → o ≡ None
        by None e = refl
        by (Some o) e = let lt = (here.holds.typed.origin (at c.started j) o e).0 in absurd (omega arith)

    handing : Handing p signatures sh reads each c m number g here n f found g here.ties (length (lent_types f)) g (lend_copy m (at c.started zero) s Writes)
    handing = record {
      maps = maps';
      holds = holds_lent p.core.types types' (suc c.started) (maps₀ p signatures sh reads each c m number g here n f found) maps' after after m
          (at c.started zero) s terms.0 (holds₀ p signatures sh reads each c m number g here n f found) may
          (λ e. let lt = s_below in omega arith) (omega arith) (let lt = s_below in omega arith)
          (ap (form_at p.core.types) new_type ∙ sym terms.3 ∙ ap (λ o. form_on p.core.types (form_at p.core.types o) s.path) (sym old_type))
          new_type (small_of p.core sh n f found 0 terms.0 first_type) (ap is_whole is ∙ whole)
          (λ k ne ns. set_other maps₁ (at c.started zero) all_set k ne ∙ set_other (maps₀ p signatures sh reads each c m number g here n f found) s.key _ k ns)
          (set_other maps₁ (at c.started zero) all_set s.key (not_first s.key s_below)
          ∙ set_same (maps₀ p signatures sh reads each c m number g here n f found) s.key _)
          (set_same maps₁ (at c.started zero) all_set) (λ k ne. refl)
          (at_new p signatures sh reads each c m number g here n f found here.promised (λ l. ((signatures n).lent l).after) zero ∙ ap (λ t. t.after) sign);
      sound = sound_apply (effect.Lend (at c.started zero) s Writes) m may here.sound;
      agrees = λ l t q e leaf. tells_same (wholes maps₁ c.now.id) (wholes maps' c.now.id) (g.init l q) (maps' (mine l) q)
          (λ k. ap (λ c. c []) (set_other maps₁ (at c.started zero) all_set (mine k) (not_first (mine k) here.below)))
          (subst (Tells (wholes maps₁ c.now.id) (g.init l q))
          (ap (λ c. c q) (sym (set_other maps₁ (at c.started zero) all_set (mine l) (not_first (mine l) here.below)))) (told l t q e leaf));
      others = λ k lt ne. set_other maps₁ (at c.started zero) all_set k (not_first k lt)
          ∙ set_other (maps₀ p signatures sh reads each c m number g here n f found) s.key _ k (λ e. ne (ap (λ k. k.act) e ∙ own))
          ∙ maps_old p signatures sh reads each c m number g here n f found k lt;
      slots = λ k ne. set_other m.opened (at c.started zero) (Some new) k (λ e. ne (ap (λ k. k.act) e));
      owned = λ j le lt. let z = one_lent in let y = none_owned in absurd (omega arith);
      rest = λ j le. let z = one_lent in
          set_other maps₁ (at c.started zero) all_set (at c.started j) (later j (omega arith))
          ∙ set_other (maps₀ p signatures sh reads each c m number g here n f found) s.key _ (at c.started j)
          (λ e. let lt = s_below in let z : c.started ≡ s.key.act = ap (λ k. k.act) e in absurd (omega arith))
          ∙ maps_new p signatures sh reads each c m number g here n f found (at c.started j) (omega arith);
      lent = λ j lt. subst (λ j. maps' (at c.started j) ≡ ((signatures n).lent j).before) (sym (first_one j lt))
          (set_same maps₁ (at c.started zero) all_set ∙ sym (ap (λ t. t.before) sign));
      unopened = λ j le. let z = one_lent in set_other m.opened (at c.started zero) (Some new) (at c.started j) (later j (omega arith)) ∙ none_opened j;
      foreign = λ j lt. subst (λ j. IsForeign c.started ((signatures n).lent j).way (set_at m.opened (at c.started zero) (Some new) (at c.started j)))
          (sym (first_one j lt)) (λ o e. let z = some_is new o (sym (set_same m.opened (at c.started zero) (Some new)) ∙ e) in (
            (λ q. let lt = s_below in let y : s.key.act ≡ c.started = ap (λ o. o.base.act) z ∙ q in omega arith),
            ap (λ o. o.way) (sym z) ∙ sym (ap (λ t. t.way) sign),
          ));
    }
      where
        s_is : mine s.key.local ≡ s.key
        s_is = ap (λ a. at a s.key.local) (sym own)

        old : (l : ℕ) (t : TyId) (q : Path) → local_type c.now.fun l ≡ Some t → IsLeaf p.core.types t q
            → Tells (wholes (maps₀ p signatures sh reads each c m number g here n f found) c.now.id) (g.init l q)
            (maps₀ p signatures sh reads each c m number g here n f found (mine l) q)
        old l t q e leaf = tells_same (wholes here.maps c.now.id) (wholes (maps₀ p signatures sh reads each c m number g here n f found) c.now.id) (g.init l q)
            (maps₀ p signatures sh reads each c m number g here n f found (mine l) q)
            (λ k. ap (λ c. c []) (maps_old p signatures sh reads each c m number g here n f found (mine k) here.below))
            (subst (Tells (wholes here.maps c.now.id) (g.init l q))
            (ap (λ c. c q) (sym (maps_old p signatures sh reads each c m number g here n f found (mine l) here.below))) (here.agrees l t q e leaf))

        -- of what is lent the flow state says nothing
        told : (l : ℕ) (t : TyId) (q : Path) → local_type c.now.fun l ≡ Some t → IsLeaf p.core.types t q
            → Tells (wholes maps₁ c.now.id) (g.init l q) (maps₁ (mine l) q)
        told l t q e leaf = subst (λ k. Tells (wholes (changed k) c.now.id) (g.init l q) (changed k (mine l) q)) s_is
            (subst (λ v. Tells (wholes (changed (mine s.key.local)) c.now.id) v (changed (mine s.key.local) (mine l) q)) (init_same (eqb_tells l s.key.local))
            (tells_set_local (maps₀ p signatures sh reads each c m number g here n f found) c.now.id s.key.local g.init (g.init s.key.local)
            (with_map s.path all_set (maps₀ p signatures sh reads each c m number g here n f found (mine s.key.local))) l q
            (spot.untied l t q e leaf) (old l t q e leaf)
            (λ z. let there : local_type c.now.fun s.key.local ≡ Some t = ap (local_type c.now.fun) (sym z) ∙ e in
            with_rel (λ _ e'. Tells (wholes (changed (mine s.key.local)) c.now.id) (g.init s.key.local q) e') s.path all_set all_set
            (maps₀ p signatures sh reads each c m number g here n f found (mine s.key.local))
            (maps₀ p signatures sh reads each c m number g here n f found (mine s.key.local)) q
            (λ r is'. subst (λ v. Tells (wholes (changed (mine s.key.local)) c.now.id) v IsSet)
            (sym (ap (g.init s.key.local) is' ∙ spot.doubtful r)) (inl tt))
            (tells_change (maps₀ p signatures sh reads each c m number g here n f found) c.now.id s.key.local _ (g.init s.key.local q)
            (maps₀ p signatures sh reads each c m number g here n f found (mine s.key.local) q) (spot.untied s.key.local t q there leaf)
            (old s.key.local t q there leaf)))))
          where
            changed : Key → InitMaps
            changed k = set_at (maps₀ p signatures sh reads each c m number g here n f found) k
                (with_map s.path all_set (maps₀ p signatures sh reads each c m number g here n f found k))

            init_same : (((l == s.key.local) ≡ true) × (l ≡ s.key.local)) ⊎ (((l == s.key.local) ≡ false) × (l ≢ s.key.local))
                → set_local g.init s.key.local (g.init s.key.local) l q ≡ g.init l q
            init_same (inl a) = ap (λ b. cond b (g.init s.key.local) (g.init l) q) a.0 ∙ ap (λ l. g.init l q) (sym a.1)
            init_same (inr a) = ap (λ b. cond b (g.init s.key.local) (g.init l) q) a.0

    pub body_begins : (turns n_opened : ℕ)
        → Stands p signatures (begun (record c { turns = turns; opened = n_opened }) f Nowhere) (lend_copy m (at c.started zero) s Writes)
    body_begins turns n_opened = begins p signatures sh reads each c m number g here n f found g here.ties turns n_opened c.input c.output g g
        (lend_copy m (at c.started zero) s Writes) Nowhere turns handing (λ l. refl) (λ l q. refl) here.params
        (λ l w e q. ap (λ c. c q) (at_old p signatures sh reads each c m number g here n f found here.promised (λ l. ((signatures n).lent l).after) (mine l)
        (not_started p signatures sh reads each c m number g here n f found)) ∙ here.bound l w e q) left

-- TASKS

module _ (p : Setting) (signatures : ℕ → Signature) (signs : (n : ℕ) → signatures n ≡ signature_of (slice_get p.core.funs n)) (sh : Shaped p.core)
    (reads : SignsSet signatures)
    (each : (n : ℕ) (f : Fun) → slice_get p.core.funs n ≡ Some f → BodyFlows (context_of p.stage p.core signatures n f))
    (c : Control) (number : ℕ) (w : Work) where
  abbrev X : Context
  X = context p signatures number c.now.fun

  abbrev TS : Control → Copies → Type 0
  TS = Stands p signatures

  -- what is left once the tasks are done
  abbrev Tasks : List Task → FlowState → Type 0
  Tasks ts g = TasksSet (context p signatures number c.now.fun) c.now.id ts g (WorkSet (context p signatures number c.now.fun) c.now.id w)

  abbrev On : FlowState → Spot → Type 0
  On g = SpotSet (context p signatures number c.now.fun) c.now.id g

  on_below : (g : FlowState) (s : Spot) (i : Selector) → On g s → On g (below s (i ∷ []))
  on_below g s i on = record {
    own = on.own;
    untied = on.untied;
    doubtful = λ r. ap (g.init s.key.local) (append_assoc s.path (i ∷ []) r) ∙ on.doubtful (i ∷ r);
  }

  doing_set : (ds : List Deed) (ts : List Task) (g : FlowState) → all (DeedOn (On g)) ds → Tasks ts g → Tasks (doing ds ts) g
  doing_set [] ts g on t = t
  doing_set (d ∷ ds) ts g on t = (on.0, doing_set ds ts g on.1 t)

  elements_set : (s : Spot) (k : ℕ) (ts : List Task) (g : FlowState) → On g s → Tasks ts g → Tasks (elements s k ts) g
  elements_set s zero ts g on t = t
  elements_set s (suc i) ts g on t = elements_set s i _ g on (on_below g s (ElementAt i) on, t)

  module _ (m : Copies) (g : FlowState) (here : Here p signatures c m number g) where
    -- with these tasks
    goes : (ts : List Task) (turns n_opened : ℕ) → Tasks ts g → Fine TS (with_work (record c { turns = turns; opened = n_opened }) (Drops ts w)) m
    goes ts turns n_opened t = stands (like_stands p signatures sh k m number g (here_work p signatures c m number g (Drops ts w) c.turns here)
        (record k { turns = turns; opened = n_opened }) m g
        (record { turns = turns; opened = n_opened; input = c.input; output = c.output; is = refl })
        (here_work p signatures c m number g (Drops ts w) c.turns here) t)
      where
        k : Control
        k = with_work c (Drops ts w)

    body_set : (d : ℕ) (s : Spot) (ts : List Task) (own : On g s) (t : Tasks ts g) (n : ℕ) (deinit : deinit_of p.core.deinits d ≡ Some n) (f : Fun)
        (found : slice_get p.core.funs n ≡ Some f) (turns n_opened : ℕ) (b : Bool) → is_whole_product d (get s.path (m.value s.key)) ≡ b
        → Sure p TS (cond b (Perform (effect.Lend (at c.started zero) s Writes)
        (Return (begun (record c { now = record (c.now) { work = Drops (PartsOf s ∷ ts) w }; turns = turns; opened = n_opened }) f Nowhere)))
        (Return (record c { now = record (c.now) { work = Drops (PartsOf s ∷ ts) w }; turns = turns; opened = n_opened }))) m
    body_set d s ts own t n deinit f found turns n_opened true e quiet =
        let v = product_is d (get s.path (m.value s.key)) e in (
          tt,
          stands (body_begins p signatures sh (with_work c (Drops (PartsOf s ∷ ts) w)) m number g
              (here_work p signatures c m number g (Drops (PartsOf s ∷ ts) w) c.turns here)
              signs reads each d s own (own, t) n deinit f found v.0 v.1 v.2 quiet.0 turns n_opened),
        )
    body_set d s ts own t n deinit f found turns n_opened false e quiet = goes (PartsOf s ∷ ts) turns n_opened (own, t)

    deed_set : (d : Deed) (ts : List Task) → DeedOn (On g) d → Tasks ts g → Sure p TS (does_deed p c w d ts) m
    deed_set (Body d s) ts own t = good_some p TS c (deinit_of p.core.deinits d) _ m (λ n deinit.
        good_some p TS (with_work c (Drops (PartsOf s ∷ ts) w)) (slice_get p.core.funs n) _ m (λ f found.
        good_turn p TS (record c { now = record (c.now) { work = Drops (PartsOf s ∷ ts) w }; opened = suc c.opened }) c.turns _ m (λ j quiet.
        body_set d s ts own t n deinit f found j (suc c.opened) (is_whole_product d (get s.path (m.value s.key))) refl quiet.1)))
    deed_set (EachOf k s) ts own t = good_turn p TS (record c { opened = suc c.opened }) c.turns _ m (λ j quiet.
        goes (elements s k ts) j (suc c.opened) (elements_set s k ts g own t))
    deed_set (Element s) ts own t = good_turn p TS c c.turns _ m (λ j quiet. goes (Value s ∷ ts) j (suc c.opened) (own, t))

    first_set : (ds : List Deed) (ts : List Task) (t : Interaction Control) → all (DeedOn (On g)) ds → Tasks ts g → Sure p TS t m
        → Sure p TS (first_deed p c w ds ts t) m
    first_set [] ts t on tasks h = h
    first_set (d ∷ ds) ts t on tasks h = deed_set d (doing ds ts) on.0 (doing_set ds ts g on.1 tasks)

    -- a place is left unset
    cleared : (s : Spot) (spot : On g s) (u : TyId)
        → type_at p.core.types (local_type c.now.fun s.key.local) s.path ≡ Some u → (t : Interaction Control) → IsKept m s.key
        → ((m' : Copies) → Here p signatures c m' number (with_init g s.key.local s.path none_set) → Sure p TS t m')
        → (b : Bool) → is_blank (get s.path (m.value s.key)) ≡ b → Sure p TS (clears s b t) m
    cleared s spot u is t kept next b e = subst (λ k. is_blank (get s.path (m.value k)) ≡ b → IsKept m k
        → Sure p TS (clears (record { key = k; path = s.path }) b t) m) (ap (λ a. at a s.key.local) (sym spot.own))
        (λ e kept. by b e kept) e kept
      where
        by : (b : Bool) → is_blank (get s.path (m.value (at c.now.id s.key.local))) ≡ b → IsKept m (at c.now.id s.key.local)
            → Sure p TS (clears (record { key = at c.now.id s.key.local; path = s.path }) b t) m
        by true e kept = next m (here_told p signatures sh c m number g here s.key.local s.path none_set (λ t b y leaf.
            blank_state (here.maps (at c.now.id s.key.local) (s.path ++ b)) (get (s.path ++ b) (m.value (at c.now.id s.key.local)))
            (here.holds.set (at c.now.id s.key.local) (kept_here m (at c.now.id s.key.local) kept) t (here.locals s.key.local ∙ y) (s.path ++ b) leaf)
            (ap is_blank (get_get s.path b (m.value (at c.now.id s.key.local)))
            ∙ blank_get b (get s.path (m.value (at c.now.id s.key.local))) e)))
        by false e kept = λ quiet. (
          tt,
          next _ (here_now p signatures sh c m number g here (with_init g s.key.local s.path none_set) _
              (covered (acting p signatures sh c m number g here) g m (now_here p signatures sh c m number g here) s.key.local s.path u none_set none_set Unset
              is quiet.0 tt (sets_none p.core.types u) none_tells spot.untied)) quiet.1,
        )

  pub tasks_set : (ts : List Task) (m : Copies) (g : FlowState) → Here p signatures c m number g → Tasks ts g → Sure p TS (does_tasks p c w ts) m
  tasks_set [] m g here t = λ quiet. stands (here_stands p signatures (with_work c w) m number t.0
      (here_work p signatures c m number t.0 w c.turns (here_less p signatures c m number g t.0 t.1 here)) t.2)
  tasks_set (Do d ∷ ts) m g here t = deed_set m g here d ts t.0 t.1
  tasks_set (Value s ∷ ts) m g here t = λ quiet. first_set m g here (deeds p.core.deinits s (get s.path (m.value s.key))) ts _
      (deeds_on (On g) (on_below g) p.core.deinits s (get s.path (m.value s.key)) t.0) t.1 (tasks_set ts m g here t.1) quiet.1
  tasks_set (PartsOf s ∷ ts) m g here t = λ quiet. first_set m g here (part_deeds p.core.deinits s (get s.path (m.value s.key))) ts _
      (part_deeds_on (On g) (on_below g) p.core.deinits s (get s.path (m.value s.key)) t.0) t.1 (tasks_set ts m g here t.1) quiet.1
  tasks_set (Unsets s ∷ ts) m g here t = λ quiet. cleared m g here s t.0 t.1.0 t.1.1 (does_tasks p c w ts) quiet.0.kept
      (λ m' here'. tasks_set ts m' (with_init g s.key.local s.path none_set) here' t.2) (is_blank (get s.path (m.value s.key))) refl quiet.1
