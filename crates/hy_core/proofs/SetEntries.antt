-- Calls and projections of a core that has a flow: a body begins with what is set where it is known so.
use Rattle.std.proofs.lemmas.Option.{slice_get_within}
use Rattle.std.proofs.Common.{◌≡◌, ◌≢◌, ◌⊎◌, inl, inr, ⊎_elim, ℕ, zero, suc, ◌+◌, ◌<◌, ◌≤◌, ◌==◌, Bool, true, false, cond, nat_lt, List, [], ◌∷◌, ◌++◌}
use Rattle.std.proofs.Common.{length, Option, Some, None, slice_get, refl, sym, ap, ◌∙◌, subst, arith}
use Rattle.std.proofs.lemmas.Bool.{ltb-true, lt-ltb}
use Rattle.std.proofs.lemmas.Bool.Decides.{eqb_tells}
use Rattle.hy_types.specs.declared.kinds.TyId.{TyId}
use Rattle.hy_core.specs.Plain.{Place, Fun, is_ramp, lent_types}
use Rattle.hy_core.specs.Values.{Val, Path, is_whole, get, holds_array}
use Rattle.hy_core.specs.Memory.{Key, whole, set_at, Way, Origin, Copies, way_of, copying}
use Rattle.hy_core.specs.Runs as effect
use Rattle.hy_core.specs.Operators.{same_flags}
use Rattle.hy_core.specs.Runs.{Interaction, Fetch, Inspect, Perform, Return, apply}
use Rattle.hy_core.specs.Calm.{MayWrite, MayHand}
use Rattle.hy_core.specs.Control as control
use Rattle.hy_core.specs.Control.{Form, Numbers, Flags, Tuples, Products, Arrays, Unknown, form, local_type, Work, Idle, Rest, Loop, Test, Drops, Dest}
use Rattle.hy_core.specs.Control.{Opens, Nowhere, Activation, Nap, Halt, Ends, Stuck, NotSet, NotOpened, Control, Stage, Deinitialises, GivesUp, Setting}
use Rattle.hy_core.specs.Control.{stop, with_work, key, with_some, turn, spot, read, take, write, sleeper_of, wake, parts_of}
use Rattle.hy_core.specs.Statements.{begun, hand_all, move_all, enter}
use Rattle.hy_core.specs.Typing.{Among, Distinct, IsLeaf}
use Rattle.hy_core.specs.Shaped.{IsOf, AreOf, LocalsAre, Shaped}
use Rattle.hy_core.specs.Flow.{InSubscript, Param, IsNotTied, IsUntied, Counts, InitMap, all_set, none_set}
use Rattle.hy_core.specs.Flow.{with_map, FlowState, Signature, Context, set_local, with_init}
use Rattle.hy_core.specs.Flow.{with_open_place, IsOpen, HandsOk, TakesOk, given, all_given, come_from, held_by, Stores, Calls, Projects, first_status}
use Rattle.hy_core.specs.Flow.{first_map, first, BodyFlows, context_of, NoLoop, Bound}
use Rattle.hy_core.proofs.Keys.{set_same, set_other, at_key}
use Rattle.hy_core.proofs.OpenPlaces.{Sound, sound_apply}
use Rattle.hy_core.proofs.Typed.{form_at, Fits}
use Rattle.hy_core.proofs.CalmWalks.{at}
use Rattle.hy_core.proofs.CalmFrames.{context, some_is}
use Rattle.hy_core.proofs.CalmStatements.{come_from_back}
use Rattle.hy_core.proofs.CalmSteps.{Like, like_self}
use Rattle.hy_core.proofs.SetValues.{Sets, sets_whole, Meets, no_array, sets_counts}
use Rattle.hy_core.proofs.FlowStates.{SignsSet, Tells, tells_counts, tells_same}
use Rattle.hy_core.proofs.SetMemories.{InitMaps, side, at_two, Holds, holds_store, holds_hand, holds_new, kept_here}
use Rattle.hy_core.proofs.SetGood.{over, stands, Sure, good_if, good_turn}
use Rattle.hy_core.proofs.SetTies.{wholes, tells_set_local, untied_with, IsForeign, Tie, AllBound}
use Rattle.hy_core.proofs.SetWalks.{Now, good_take, Acting}
use Rattle.hy_core.proofs.SetFrames.{WorkSet, WaitsFor, Runs_on, Stands, Changes, frame_keep, callers_keep}
use Rattle.hy_core.proofs.SetSteps.{small_of, Here}
use Rattle.hy_core.proofs.SetBodies.{slice_front, way_tied}
use Rattle.hy_core.proofs.FlowIsCalm.{held_status}

-- what the moves and hands of a call need of lists
slice_none : {A : Type 0} (xs : List A) (i : ℕ) → slice_get xs i ≡ None → length xs ≤ i
slice_none [] i e = omega arith
slice_none (y ∷ ys) zero e = absurd (cc)
slice_none (y ∷ ys) (suc i) e = let le = slice_none ys i e in omega arith

slice_behind : {A : Type 0} (xs ys : List A) (j : ℕ) → slice_get (xs ++ ys) (length xs + j) ≡ slice_get ys j
slice_behind [] ys j = let z : 0 + j ≡ j = omega arith in ap (slice_get ys) z
slice_behind (x ∷ xs) ys j = let z : suc (length xs) + j ≡ suc (length xs + j) = omega arith in ap (slice_get (x ∷ (xs ++ ys))) z ∙ slice_behind xs ys j

both_length : {A : Type 0} (xs ys : List A) → length (xs ++ ys) ≡ length xs + length ys
both_length [] ys = omega arith
both_length (x ∷ xs) ys = let z = both_length xs ys in omega arith

same_type : (a b : TyId) → Some a ≡ Some b → a ≡ b
same_type a b e = cc

module _ (p : Setting) (signatures : ℕ → Signature) (sh : Shaped p.core) (reads : SignsSet signatures)
    (each : (n : ℕ) (f : Fun) → slice_get p.core.funs n ≡ Some f → BodyFlows (context_of p.stage p.core signatures n f)) (c : Control) (m : Copies)
    (number : ℕ) (g : FlowState) (here : Here p signatures c m number g)
    (n : ℕ) (f : Fun) (found : slice_get p.core.funs n ≡ Some f) where
  abbrev x : Context
  x = context p signatures number c.now.fun

  abbrev S : Control → Copies → Type 0
  S = Stands p signatures

  abbrev mine : ℕ → Key
  mine l = at c.now.id l

  abbrev new : ℕ → Key
  new l = at c.started l

  abbrev with_new : {A : Type 0} → (Key → A) → (ℕ → A) → Key → A
  with_new old fresh k = cond (k.act == c.started) (fresh k.local) (old k)

  pub at_new : {A : Type 0} (old : Key → A) (fresh : ℕ → A) (l : ℕ) → with_new old fresh (at c.started l) ≡ fresh l
  at_new old fresh l = ⊎_elim (λ e. ap (λ b. cond b (fresh l) (old (at c.started l))) e.0) (λ e. absurd (e.1 refl)) (eqb_tells c.started c.started)

  pub at_old : {A : Type 0} (old : Key → A) (fresh : ℕ → A) (k : Key) → k.act ≢ c.started → with_new old fresh k ≡ old k
  at_old old fresh k ne = ⊎_elim (λ e. absurd (ne e.1)) (λ e. ap (λ b. cond b (fresh k.local) (old k)) e.0) (eqb_tells k.act c.started)

  below_old : (k : Key) → k.act < c.started → k.act ≢ c.started
  below_old k lt e = absurd (omega arith)

  pub not_started : c.now.id ≢ c.started
  not_started e = let lt = here.below in absurd (omega arith)

  abbrev pub ty' : Key → Option TyId
  ty' = λ k. cond (k.act == c.started) (local_type f k.local) (here.ty k)

  abbrev pub maps₀ : InitMaps
  maps₀ = λ k. cond (nat_lt k.act c.started) (here.maps k) none_set

  pub maps_old : (k : Key) → k.act < c.started → maps₀ k ≡ here.maps k
  maps_old k lt = ap (λ b. cond b (here.maps k) none_set) (lt-ltb k.act c.started lt)

  pub maps_new : (k : Key) → c.started ≤ k.act → maps₀ k ≡ none_set
  maps_new k le = by (nat_lt k.act c.started) refl
    where
      by : (b : Bool) → nat_lt k.act c.started ≡ b → cond b (here.maps k) none_set ≡ none_set
      by true e = let lt = ltb-true k.act c.started e in absurd (omega arith)
      by false e = refl

  abbrev pub promised' : InitMaps
  promised' = λ k. cond (k.act == c.started) ((signatures n).lent k.local).after (here.promised k)

  pub ty_new : (l : ℕ) → ty' (at c.started l) ≡ local_type f l
  ty_new l = at_new here.ty (local_type f) l

  pub ty_mine : (l : ℕ) → ty' (at c.now.id l) ≡ local_type c.now.fun l
  ty_mine l = at_old here.ty (local_type f) (at c.now.id l) not_started ∙ here.locals l

  less_more : {a b : ℕ} → a < b → a < suc b
  less_more lt = omega arith

  pub holds₀ : Holds p.core.types ty' (suc c.started) maps₀ promised' m
  holds₀ = holds_new p.core.types here.ty ty' c.started here.maps maps₀ here.promised promised' m here.holds
      (λ k lt. (at_old here.ty (local_type f) k (below_old k lt), maps_old k lt, at_old here.promised (λ l. ((signatures n).lent l).after) k (below_old k lt)))
      maps_new

  -- the activation that moves its owned arguments to the new one
  abbrev moving : InitMaps → Acting
  moving first = record {
    p = p;
    S = Stands p signatures;
    signatures = signatures;
    number = number;
    ty = ty';
    n = suc c.started;
    P = promised';
    first = first;
    slots = m.opened;
    k₀ = c;
    local = ty_mine;
    below_n = less_more here.below;
    small = small_of p.core sh number c.now.fun here.found;
  }

  abbrev NowOf : InitMaps → FlowState → Copies → Type 0
  NowOf first = Now (moving first)

  now_here : NowOf maps₀ g m
  now_here = record {
    maps = maps₀;
    holds = holds₀;
    agrees = λ l t q e leaf. tells_same (wholes here.maps c.now.id) (wholes maps₀ c.now.id) (g.init l q) (maps₀ (mine l) q)
        (λ k. ap (λ c. c []) (maps_old (mine k) here.below))
        (subst (Tells (wholes here.maps c.now.id) (g.init l q)) (ap (λ c. c q) (sym (maps_old (mine l) here.below))) (here.agrees l t q e leaf));
    others = λ k ne. refl;
    ties = here.ties;
    params = here.params;
    bound = λ l w e q. ap (λ c. c q) (at_old here.promised (λ l. ((signatures n).lent l).after) (mine l) not_started) ∙ here.bound l w e q;
    same = refl;
    sound = here.sound;
  }

  -- OWNED ARGUMENTS are moved to the locals of the new body

  -- the types of those that are still to come
  abbrev TypesFrom : ℕ → List TyId → Type 0
  TypesFrom i us = (j : ℕ) (u : TyId) → slice_get us j ≡ Some u → local_type f (i + j) ≡ Some u

  types_next : (i : ℕ) (u : TyId) (us : List TyId) → TypesFrom i (u ∷ us) → TypesFrom (suc i) us
  types_next i u us h j w e = let z : suc i + j ≡ i + suc j = omega arith in ap (local_type f) z ∙ h (suc j) w e

  types_first : (i : ℕ) (u : TyId) (us : List TyId) → TypesFrom i (u ∷ us) → local_type f i ≡ Some u
  types_first i u us h = let z : i ≡ i + 0 = omega arith in ap (local_type f) z ∙ h 0 u refl

  -- what is set besides, from the local k to the local i, and nothing after
  abbrev Moved : ℕ → ℕ → InitMaps → Type 0
  Moved k i first = ((j : ℕ) → k ≤ j → j < i → first (at c.started j) ≡ all_set) × ((y : Key) → y.act < c.started → first y ≡ here.maps y)
      × ((j : ℕ) → i ≤ j → first (at c.started j) ≡ none_set)

  moved : (h : FlowState) (m' : Copies) (first : InitMaps) (i : ℕ) (u : TyId) (v : Val) → NowOf first h m' → local_type f i ≡ Some u
      → Fits p.core.types (form p.core.types u) v → is_whole v ≡ true → MayWrite m' (whole (at c.started i))
      → NowOf (set_at first (at c.started i) all_set) h (copying.store m' (whole (at c.started i)) v)
  moved h m' first i u v now type fits is may = record {
    maps = set_at now.maps (at c.started i) all_set;
    holds = holds_store p.core.types ty' (suc c.started) now.maps (set_at now.maps (at c.started i) all_set) promised' m' (whole (at c.started i)) v
        now.holds may (omega arith)
        (subst (λ t. Fits p.core.types (form_at p.core.types t) v) (sym (ty_new i ∙ type)) fits) (λ k ne. set_other now.maps (at c.started i) all_set k ne)
        (λ t y st. subst (λ c. Sets p.core.types t c v) (sym (set_same now.maps (at c.started i) all_set))
        (let z : u ≡ t = same_type u t (sym type ∙ sym (ty_new i) ∙ y) in subst (λ t. Sets p.core.types t all_set v) z (sets_whole p.core.types u v fits is)));
    agrees = λ l t q e leaf. tells_same (wholes now.maps c.now.id) (wholes (set_at now.maps (at c.started i) all_set) c.now.id) (h.init l q)
        (set_at now.maps (at c.started i) all_set (mine l) q)
        (λ k. ap (λ c. c []) (set_other now.maps (at c.started i) all_set (mine k) (λ z. not_started (ap (λ k. k.act) z))))
        (subst (Tells (wholes now.maps c.now.id) (h.init l q))
        (ap (λ c. c q) (sym (set_other now.maps (at c.started i) all_set (mine l) (λ z. not_started (ap (λ k. k.act) z))))) (now.agrees l t q e leaf));
    others = λ k ne. at_two now.maps first (at c.started i) all_set all_set k (λ a b. a ≡ b) (λ e. refl) (λ e. now.others k ne);
    ties = now.ties;
    params = now.params;
    bound = now.bound;
    same = now.same;
    sound = sound_apply (effect.Store (whole (at c.started i)) v) m' may now.sound;
  }

  -- nothing is set in a local that none was moved to
  nothing_there : (h : FlowState) (m' : Copies) (first : InitMaps) (i : ℕ) (u : TyId) → NowOf first h m' → local_type f i ≡ Some u
      → first (at c.started i) ≡ none_set → MayWrite m' (whole (at c.started i)) → holds_array (m'.value (at c.started i)) ≡ false
  nothing_there h m' moved_maps i u now type none may = no_array p.core.types u (m'.value (at c.started i))
      (subst (λ f. Fits p.core.types f (m'.value (at c.started i))) (ap (form_at p.core.types) (ty_new i ∙ type)) (now.holds.typed.value (at c.started i)))
      (λ q arr. subst (λ z. Meets z (get q (m'.value (at c.started i)))) (ap (λ c. c q) (now.others (at c.started i) (λ z. not_started (sym z)) ∙ none))
      (now.holds.set (at c.started i) (kept_here m' (at c.started i) may.kept) u (ty_new i ∙ type) q (arr.0, arr.2, ap parts_of arr.3)))

  moves_set : (go : Control → Interaction Control) (k : ℕ) (qs : List Place) (us : List TyId) (i : ℕ) (first : InitMaps) (h : FlowState) (m' : Copies)
      → NowOf first h m' → TakesOk (context p signatures number c.now.fun) h qs → AreOf p.core c.now.fun us qs → TypesFrom i us
      → Moved k i first → k ≤ i
      → ((e : Control) (first : InitMaps) (m' : Copies) → Like c e → NowOf first (all_given (context p signatures number c.now.fun) h qs) m'
      → Moved k (i + length us) first → Sure p S (go e) m')
      → (e : Control) → Like c e → Sure p S (move_all p e c.started i qs us go) m'
  moves_set go k [] [] i first h m' now ok are types mv le next e like = let z : i ≡ i + 0 = omega arith in
      next e first m' like now (subst (λ n. Moved k n first) z mv)
  moves_set go k [] (u ∷ us) i first h m' now ok are types mv le next e like = λ calm. over Stuck refl (λ e. absurd (cc))
  moves_set go k (q ∷ qs) [] i first h m' now ok are types mv le next e like = λ calm. over Stuck refl (λ e. absurd (cc))
  moves_set go k (q ∷ qs) (u ∷ us) i first h m' now ok are types mv le next e like =
      good_take (moving first) h m' now effect.Moved q u _ are.0 ok.0 tt (λ e v m' like fits is now calm. (
        nothing_there (given (context p signatures number c.now.fun) h q) m' first i u now (types_first i u us types) (mv.2 i (omega arith)) calm.0,
        moves_set go k qs us (suc i) (set_at first (at c.started i) all_set) (given (context p signatures number c.now.fun) h q) _
            (moved (given (context p signatures number c.now.fun) h q) m' first i u v now (types_first i u us types) fits is calm.0) ok.1 are.1
            (types_next i u us types) (
              (λ j l r. at_key first (at c.started i) all_set (at c.started j) (λ c. c ≡ all_set) (λ _. refl)
                  (λ ne. mv.0 j l (lower j i r (λ z. ne (ap (at c.started) z))))),
              (λ y lt. set_other first (at c.started i) all_set y (λ z. below_old y lt (ap (λ k. k.act) z)) ∙ mv.1 y lt),
              (λ j le. set_other first (at c.started i) all_set (at c.started j) (λ z. above j i le (ap (λ k. k.local) z)) ∙ mv.2 j (omega arith)),
            ) (omega arith)
            (λ e first m' like now mv. let z : suc i + length us ≡ i + suc (length us) = omega arith in
            next e first m' like now (subst (λ n. Moved k n first) z mv)) e like calm.1,
      )) e like
    where
      above : (j i : ℕ) → suc i ≤ j → j ≡ i → ⊥
      above j i le e = absurd (omega arith)

      lower : (j i : ℕ) → j < suc i → j ≢ i → j < i
      lower j i lt ne = ⊎_elim (λ e. absurd (ne e.1)) (λ _. by (side j i)) (eqb_tells j i)
        where
          by : (j < i) ⊎ (i ≤ j) → j < i
          by (inl l) = l
          by (inr l) = absurd (ne (let z : j ≡ i = omega arith in z))

  -- LENT LOCALS are handed to the new body

  -- what was handed over is set
  handed_untied : (i l : ℕ) (d : FlowState) (k : ℕ) → IsUntied (context p signatures number c.now.fun) d k
      → IsUntied (context p signatures number c.now.fun) (with_init d l [] ((signatures n).lent i).after) k
  handed_untied i l d k untied = untied_with (context p signatures number c.now.fun) d l [] ((signatures n).lent i).after k
      (λ t r e leaf. subst (IsNotTied k) (sym (reads.set n i r)) tt) untied

  come_untied : (d : FlowState) (i : ℕ) (ls : List ℕ) (k : ℕ) → IsUntied (context p signatures number c.now.fun) d k
      → IsUntied (context p signatures number c.now.fun) (come_from (context p signatures number c.now.fun) d (signatures n) i ls) k
  come_untied d i [] k untied = untied
  come_untied d i (l ∷ ls) k untied = come_untied (with_init d l [] ((signatures n).lent i).after) (suc i) ls k (handed_untied i l d k untied)

  -- what is known of the activation that calls, once its owned arguments are moved
  module _ (h : FlowState) (ties : (l : ℕ) → Tie p.core.types c.now.fun c.now.id l (h.status l) (m.opened (at c.now.id l))) where
    pub record Handing (i : ℕ) (d : FlowState) (m' : Copies) : Type 0 where
      pub maps : InitMaps
      pub holds : Holds p.core.types ty' (suc c.started) maps promised' m'
      pub sound : Sound m'
      pub agrees : (l : ℕ) (t : TyId) (q : Path) → local_type c.now.fun l ≡ Some t → IsLeaf p.core.types t q
          → Tells (wholes maps c.now.id) (d.init l q) (maps (at c.now.id l) q)
      pub others : (k : Key) → k.act < c.started → k.act ≢ c.now.id → maps k ≡ here.maps k
      pub slots : (k : Key) → k.act ≢ c.started → m'.opened k ≡ m.opened k
      pub owned : (j : ℕ) → length (lent_types f) ≤ j → j < length (lent_types f) + length f.owned → maps (at c.started j) ≡ all_set
      pub rest : (j : ℕ) → length (lent_types f) + length f.owned ≤ j → maps (at c.started j) ≡ none_set
      pub lent : (j : ℕ) → j < i → maps (at c.started j) ≡ ((signatures n).lent j).before
      pub unopened : (j : ℕ) → i ≤ j → m'.opened (at c.started j) ≡ None
      pub foreign : (j : ℕ) → j < i → IsForeign c.started ((signatures n).lent j).way (m'.opened (at c.started j))

    hand_one : (i l : ℕ) (u : TyId) (d : FlowState) (m' : Copies) → Handing i d m' → i < length (lent_types f) → local_type f i ≡ Some u
        → local_type c.now.fun l ≡ Some u → IsOpen (h.status l) ((signatures n).lent i).way
        → ((t : TyId) → local_type c.now.fun l ≡ Some t → (q : Path) → IsLeaf p.core.types t q → Counts (((signatures n).lent i).before q) (h.init l q))
        → d.init l ≡ h.init l → IsUntied (context p signatures number c.now.fun) d l → MayHand m' (at c.started i) (mine l)
        → Handing (suc i) (with_init d l [] ((signatures n).lent i).after) (copying.hand m' (at c.started i) (mine l))
    hand_one i l u d m' H lt type mine_type open_so before same untied may = record {
      maps = set_at (set_at H.maps (mine l) behind) (at c.started i) ((signatures n).lent i).before;
      holds = holds_hand p.core.types ty' (suc c.started) H.maps (set_at (set_at H.maps (mine l) behind) (at c.started i) ((signatures n).lent i).before)
          promised' promised' m' (at c.started i) (mine l) H.holds may
          (λ e. not_started (sym e)) (omega arith) (less_more here.below) (ty_new i ∙ type ∙ sym (ty_mine l ∙ mine_type))
          (λ k a b. set_other (set_at H.maps (mine l) behind) (at c.started i) ((signatures n).lent i).before k a
          ∙ set_other H.maps (mine l) behind k b) (λ k _. refl)
          (λ y is st. (
            subst (λ c. Sets p.core.types y c (m'.value (mine l)))
                (sym (set_same (set_at H.maps (mine l) behind) (at c.started i) ((signatures n).lent i).before))
                (sets_counts p.core.types y (H.maps (mine l)) ((signatures n).lent i).before (m'.value (mine l)) (λ q leaf. was_set y is q leaf) st),
            λ reading. subst (λ c. Sets p.core.types y c (m'.value (mine l))) (sym mine_maps)
                (sets_counts p.core.types y (H.maps (mine l)) behind (m'.value (mine l)) (λ q leaf.
                subst (λ w. Counts w (H.maps (mine l) q)) (sym (reads.same n i (sym way_is ∙ reading) q)) (was_set y is q leaf)) st),
          ))
          (λ w y q is leaf. ap (λ c. c q) mine_maps ∙ ap (λ c. c q) (sym (at_new here.promised (λ l. ((signatures n).lent l).after) i)));
      sound = sound_apply (effect.Hand (at c.started i) (mine l)) m' may H.sound;
      agrees = λ j y q e leaf. handed_agrees j y q e leaf;
      others = λ k b ne. set_other (set_at H.maps (mine l) behind) (at c.started i) ((signatures n).lent i).before k
          (λ z. below_old k b (ap (λ k. k.act) z)) ∙ set_other H.maps (mine l) behind k (λ z. ne (ap (λ k. k.act) z)) ∙ H.others k b ne;
      slots = λ k ne. set_other m'.opened (at c.started i) (Some new_one) k (λ z. ne (ap (λ k. k.act) z)) ∙ H.slots k ne;
      owned = λ j le jt. set_other (set_at H.maps (mine l) behind) (at c.started i) ((signatures n).lent i).before (at c.started j)
          (λ z. later j le (ap (λ k. k.local) z))
          ∙ set_other H.maps (mine l) behind (at c.started j) (λ z. not_started (sym (ap (λ k. k.act) z))) ∙ H.owned j le jt;
      rest = λ j le. set_other (set_at H.maps (mine l) behind) (at c.started i) ((signatures n).lent i).before (at c.started j)
          (λ z. last j le (ap (λ k. k.local) z))
          ∙ set_other H.maps (mine l) behind (at c.started j) (λ z. not_started (sym (ap (λ k. k.act) z))) ∙ H.rest j le;
      unopened = λ j le. set_other m'.opened (at c.started i) (Some new_one) (at c.started j) (λ z. next_one j le (ap (λ k. k.local) z))
          ∙ H.unopened j (omega arith);
      lent = λ j jt. at_key (set_at H.maps (mine l) behind) (at c.started i) ((signatures n).lent i).before (at c.started j)
          (λ c. c ≡ ((signatures n).lent j).before)
          (λ z. ap (λ j. ((signatures n).lent j).before) (sym (ap (λ k. k.local) z)))
          (λ ne. set_other H.maps (mine l) behind (at c.started j) (λ z. not_started (sym (ap (λ k. k.act) z)))
          ∙ H.lent j (earlier j jt (λ z. ne (ap (at c.started) z))));
      foreign = λ j jt. at_key m'.opened (at c.started i) (Some new_one) (at c.started j) (λ y. IsForeign c.started ((signatures n).lent j).way y)
          (λ z o e. let y = some_is new_one o e in (
            (λ q. not_started (ap (λ o. o.base.act) y ∙ q)),
            ap (λ o. o.way) (sym y) ∙ way_is
                ∙ ap (λ j. ((signatures n).lent j).way) (sym (ap (λ k. k.local) z)),
          ))
          (λ ne. H.foreign j (earlier j jt (λ z. ne (ap (at c.started) z))));
    }
      where
        behind : InitMap
        behind = ((signatures n).lent i).after

        new_one : Origin
        new_one = record { base = mine l; path = []; way = way_of (m'.opened (mine l)) }

        last : (j : ℕ) → length (lent_types f) + length f.owned ≤ j → j ≡ i → ⊥
        last j le e = absurd (omega arith)

        next_one : (j : ℕ) → suc i ≤ j → j ≡ i → ⊥
        next_one j le e = absurd (omega arith)

        later : (j : ℕ) → length (lent_types f) ≤ j → j ≡ i → ⊥
        later j le e = absurd (omega arith)

        earlier : (j : ℕ) → j < suc i → j ≢ i → j < i
        earlier j jt ne = by (side j i)
          where
            by : (j < i) ⊎ (i ≤ j) → j < i
            by (inl lt) = lt
            by (inr le) = absurd (ne (let z : j ≡ i = omega arith in z))

        mine_maps : set_at (set_at H.maps (mine l) behind) (at c.started i) ((signatures n).lent i).before (mine l) ≡ behind
        mine_maps = set_other (set_at H.maps (mine l) behind) (at c.started i) ((signatures n).lent i).before (mine l)
            (λ z. not_started (ap (λ k. k.act) z)) ∙ set_same H.maps (mine l) behind

        way_is : way_of (m'.opened (mine l)) ≡ ((signatures n).lent i).way
        way_is = ap way_of may.opened
            ∙ way_tied p.core.types c.now.fun c.now.id l (h.status l) ((signatures n).lent i).way (m.opened (mine l)) (ties l) open_so may.origin
            (sym (H.slots (mine l) not_started) ∙ may.opened)

        was_set : (y : TyId) → ty' (mine l) ≡ Some y → (q : Path) → IsLeaf p.core.types y q → Counts (((signatures n).lent i).before q) (H.maps (mine l) q)
        was_set y is q leaf = tells_counts (wholes H.maps c.now.id) (((signatures n).lent i).before q) (d.init l q) (H.maps (mine l) q)
            (subst (λ c. Counts (((signatures n).lent i).before q) (c q)) (sym same) (before y (sym (ty_mine l) ∙ is) q leaf))
            (H.agrees l y q (sym (ty_mine l) ∙ is) leaf)

        handed_agrees : (j : ℕ) (y : TyId) (q : Path) → local_type c.now.fun j ≡ Some y → IsLeaf p.core.types y q
            → Tells (wholes (set_at (set_at H.maps (mine l) behind) (at c.started i) ((signatures n).lent i).before) c.now.id)
            (set_local d.init l (with_map [] behind (d.init l)) j q)
            (set_at (set_at H.maps (mine l) behind) (at c.started i) ((signatures n).lent i).before (mine j) q)
        handed_agrees j y q e leaf =
            let M : InitMaps = set_at H.maps (mine l) behind in
            let M' : InitMaps = set_at M (at c.started i) ((signatures n).lent i).before in
            let same_maps : (k : ℕ) → M' (mine k) ≡ M (mine k) =
            λ k. set_other M (at c.started i) ((signatures n).lent i).before (mine k) (λ a. not_started (ap (λ k. k.act) a)) in
            tells_same (wholes M c.now.id) (wholes M' c.now.id) (set_local d.init l (with_map [] behind (d.init l)) j q) (M' (mine j) q)
            (λ k. ap (λ c. c []) (same_maps k)) (subst (Tells (wholes M c.now.id) (set_local d.init l (with_map [] behind (d.init l)) j q))
            (ap (λ c. c q) (sym (same_maps j))) (tells_set_local H.maps c.now.id l d.init (with_map [] behind (d.init l)) behind j q
            (untied j y q e leaf) (H.agrees j y q e leaf) (λ _. subst (λ s. Tells (wholes M c.now.id) s s) (sym (reads.set n i q)) tt)))

    hands_set : (turns n_opened : ℕ) (input output : List ℕ) (t : Interaction Control) (ls : List ℕ) (us : List TyId) (i : ℕ) (d : FlowState) (m' : Copies)
        → Handing i d m' → i + length us ≤ length (lent_types f) → TypesFrom i us → LocalsAre p.core c.now.fun us ls
        → HandsOk (context p signatures number c.now.fun) h (signatures n) i ls → Distinct ls
        → ((l : ℕ) → Among l ls → d.init l ≡ h.init l) → ((l : ℕ) → Among l ls → IsUntied (context p signatures number c.now.fun) d l)
        → ((m' : Copies) → Handing (i + length us) (come_from (context p signatures number c.now.fun) d (signatures n) i ls) m' → Sure p S t m')
        → Sure p S (hand_all (record c { turns = turns; opened = n_opened; input = input; output = output }) c.started i ls us t) m'
    hands_set turns n_opened input output t [] [] i d m' H le types are ok dist same untied next = let z : i ≡ i + 0 = omega arith in
        next m' (subst (λ i. Handing i d m') z H)
    hands_set turns n_opened input output t [] (u ∷ us) i d m' H le types are ok dist same untied next = λ calm. over Stuck refl (λ e. absurd (cc))
    hands_set turns n_opened input output t (l ∷ ls) [] i d m' H le types are ok dist same untied next = λ calm. over Stuck refl (λ e. absurd (cc))
    hands_set turns n_opened input output t (l ∷ ls) (u ∷ us) i d m' H le types are ok dist same untied next = λ calm. (
      tt,
      hands_set turns n_opened input output t ls us (suc i) (with_init d l [] ((signatures n).lent i).after) _
          (hand_one i l u d m' H (omega arith) (types_first i u us types) are.0 ok.0.status ok.0.init
          (same l (inl refl)) (untied l (inl refl)) calm.0) (omega arith)
          (types_next i u us types) are.1 ok.1 dist.1
          (λ k a. ⊎_elim (λ z. absurd (dist.0 (subst (λ k. Among k ls) z.1 a)))
          (λ z. ap (λ b. cond b (with_map [] ((signatures n).lent i).after (d.init l)) (d.init k)) z.0 ∙ same k (inr a)) (eqb_tells k l))
          (λ k a. handed_untied i l d k (untied k (inr a)))
          (λ m' H. let z : suc i + length us ≡ i + suc (length us) = omega arith in
          next m' (subst
          (λ n'. Handing n' (come_from (context p signatures number c.now.fun) (with_init d l [] ((signatures n).lent i).after) (signatures n) (suc i)
          ls) m') z H)) calm.1,
    )

    -- THE NEW BODY BEGINS, and the one that calls waits

    params_first : (us : List TyId) (j k : ℕ) → j < length us → (v : Way) × (first_status (context p signatures n f) (slice_get us j) k ≡ Param v)
    params_first [] j k lt = absurd (omega arith)
    params_first (u ∷ us) zero k lt = (((signatures n).lent k).way, refl)
    params_first (u ∷ us) (suc j) k lt = params_first us j k (omega arith)

    pub begins : (turns n_opened : ℕ) (input output : List ℕ) (d w : FlowState) (m' : Copies) (dest : Dest) (j : ℕ) → Handing (length (lent_types f)) d m'
        → ((l : ℕ) → w.status l ≡ h.status l) → ((l : ℕ) (q : Path) → w.init l q ≡ d.init l q)
        → ((j : ℕ) → j < length (lent_types c.now.fun) → (v : Way) × (h.status j ≡ Param v)) → AllBound h.status (λ l. promised' (at c.now.id l))
        → WaitsFor p signatures c.now (is_ramp f) f.result (signatures n).yields dest number w
        → S (begun (record c { turns = j; opened = n_opened; input = input; output = output }) f dest) m'
    begins turns n_opened input output d w m' dest j H status init params bound goes = record {
      none = here.none;
      ty = ty';
      maps = H.maps;
      promised = promised';
      holds = H.holds;
      sound = H.sound;
      now = record {
        number = n;
        found = found;
        below = omega arith;
        locals = ty_new;
        flow = first (context p signatures n f);
        agrees = λ l t q e leaf. subst (Tells (wholes H.maps c.started) (first_map (context p signatures n f) (slice_get (lent_types f) l)
            (slice_get ((lent_types f) ++ f.owned) l) l q))
            (first_agrees l q (slice_get (lent_types f) l) (slice_get ((lent_types f) ++ f.owned) l) refl refl)
            (first_plain l q (slice_get (lent_types f) l) (slice_get ((lent_types f) ++ f.owned) l));
        ties = λ l. first_ties l (slice_get (lent_types f) l) refl;
        params = λ j lt. params_first (lent_types f) j j lt;
        bound = λ l w e q. absurd (not_bound l (slice_get (lent_types f) l) w e);
        promises = λ j lt q. ap (λ c. c q) (at_new here.promised (λ l. ((signatures n).lent l).after) j);
        goes = let b = each n f found in record { around = NoLoop; last = b.0; transfers = b.1; shaped = (sh.funs n f found).body; outer = tt; next = tt };
      };
      callers = (
        record {
          number = number;
          found = here.found;
          below = less_more here.below;
          locals = ty_mine;
          flow = w;
          agrees = λ l t q e leaf. subst (λ s. Tells (wholes H.maps c.now.id) s (H.maps (at c.now.id l) q)) (sym (init l q)) (H.agrees l t q e leaf);
          ties = λ l. subst (λ s. Tie p.core.types c.now.fun c.now.id l s (m'.opened (at c.now.id l))) (sym (status l))
              (subst (Tie p.core.types c.now.fun c.now.id l (h.status l)) (sym (H.slots (at c.now.id l) not_started)) (ties l));
          params = λ j lt. let r = params j lt in (r.0, status j ∙ r.1);
          bound = λ l w' e q. bound l w' (sym (status l) ∙ e) q;
          promises = λ j lt q. ap (λ c. c q) (at_old here.promised (λ l. ((signatures n).lent l).after) (at c.now.id j) not_started) ∙ here.promises j lt q;
          goes = goes;
        },
        callers_keep p signatures c.now.id c.now.id c.started (suc c.started) _ _ ch (is_ramp c.now.fun) c.now.fun.result (signatures number).yields
            c.now.dest c.callers here.ids.not_now here.ids.not_now here.callers,
      );
      asleep = λ k b e. frame_keep p signatures c.now.id c.now.id c.started (suc c.started) _ _ ch b.id b.fun (Runs_on p signatures b)
          (here.ids.other k b e) (here.ids.other k b e) (here.asleep k b e);
    }
      where
        ch : Changes p signatures c.now.id c.now.id c.started (suc c.started) (record {
          ty = here.ty;
          maps = here.maps;
          promised = here.promised;
          slots =
              m.opened;
        }) (record { ty = ty'; maps = H.maps; promised = promised'; slots = m'.opened })
        ch = record {
          more = omega arith;
          ty = λ k b i j. at_old here.ty (local_type f) k (below_old k b);
          maps = λ k b i j. H.others k b i;
          promised = λ k b i j. at_old here.promised (λ l. ((signatures n).lent l).after) k (below_old k b);
          slots = λ k b i j. H.slots k (below_old k b);
        }

        first_plain : (l : ℕ) (q : Path) (a b : Option TyId)
            → Tells (wholes H.maps c.started) (first_map (context p signatures n f) a b l q) (first_map (context p signatures n f) a b l q)
        first_plain l q (Some t) b = reads.plain n l (wholes H.maps c.started) q
        first_plain l q None (Some t) = tt
        first_plain l q None None = refl

        first_agrees : (l : ℕ) (q : Path) (a b : Option TyId) → slice_get (lent_types f) l ≡ a → slice_get ((lent_types f) ++ f.owned) l ≡ b
            → first_map (context p signatures n f) a b l q ≡ H.maps (at c.started l) q
        first_agrees l q (Some t) b ea eb = ap (λ c. c q) (sym (H.lent l (slice_get_within (lent_types f) l t ea)))
        first_agrees l q None (Some t) ea eb =
            ap (λ c. c q)
            (sym (H.owned l (slice_none (lent_types f) l ea)
            (subst (λ k. l < k) (both_length (lent_types f) f.owned) (slice_get_within ((lent_types f) ++ f.owned) l t eb))))
        first_agrees l q None None ea eb =
            ap (λ c. c q) (sym (H.rest l (subst (λ k. k ≤ l) (both_length (lent_types f) f.owned) (slice_none ((lent_types f) ++ f.owned) l eb))))

        not_bound : (l : ℕ) (a : Option TyId) (w : Way) → first_status (context p signatures n f) a l ≡ Bound w → ⊥
        not_bound l None w e = absurd (cc)
        not_bound l (Some t) w e = absurd (cc)

        first_ties : (l : ℕ) (a : Option TyId) → slice_get (lent_types f) l ≡ a
            → Tie p.core.types f c.started l (first_status (context p signatures n f) a l) (m'.opened (at c.started l))
        first_ties l None e = H.unopened l (slice_none (lent_types f) l e)
        first_ties l (Some t) e = H.foreign l (slice_get_within (lent_types f) l t e)

  enter_set : (ramp : Bool) (lent : List ℕ) (owned : List Place) (dest : Dest) → LocalsAre p.core c.now.fun (lent_types f) lent
      → AreOf p.core c.now.fun f.owned owned → Distinct lent → TakesOk (context p signatures number c.now.fun) g owned
      → HandsOk (context p signatures number c.now.fun) (all_given (context p signatures number c.now.fun) g owned) (signatures n) 0 lent → (w : FlowState)
      → ((l : ℕ) → w.status l ≡ (all_given (context p signatures number c.now.fun) g owned).status l)
      → ((l : ℕ) (q : Path)
      → w.init l q ≡ (come_from (context p signatures number c.now.fun) (all_given (context p signatures number c.now.fun) g owned) (signatures n) 0
      lent).init l q) → WaitsFor p signatures c.now (is_ramp f) f.result (signatures n).yields dest number w
      → Sure p S (enter p c ramp (slice_get p.core.funs n) lent owned dest) m
  enter_set ramp lent owned dest locals are dist takes hands w status init goes = subst (λ o. Sure p S (enter p c ramp o lent owned dest) m) (sym found)
      (good_if p S (same_flags (is_ramp f) ramp) c Stuck _ m (λ e. absurd (cc)) (λ _.
      moves_set _ (length (lent_types f)) owned f.owned (length (lent_types f)) maps₀ g m now_here takes are owned_types (
        (λ j le lt. absurd (omega arith)),
        maps_old,
        (λ j le. maps_new (at c.started j) (omega arith)),
      ) (omega arith)
      (λ e first m' like now mv. after e first m' like now mv) c (like_self c)))
    where
      owned_types : (j : ℕ) (u : TyId) → slice_get f.owned j ≡ Some u → local_type f (length (lent_types f) + j) ≡ Some u
      owned_types j u e = slice_behind (lent_types f) (f.owned ++ f.locals) j ∙ slice_front f.owned f.locals j (slice_get_within f.owned j u e) ∙ e

      hands_untied : (i : ℕ) (ls : List ℕ) (l : ℕ)
          → HandsOk (context p signatures number c.now.fun) (all_given (context p signatures number c.now.fun) g owned) (signatures n) i ls → Among l ls
          → IsUntied (context p signatures number c.now.fun) (all_given (context p signatures number c.now.fun) g owned) l
      hands_untied i [] l ok a = absurd a
      hands_untied i (k ∷ ks) l ok (inl z) =
          subst (IsUntied (context p signatures number c.now.fun) (all_given (context p signatures number c.now.fun) g owned)) (sym z) ok.0.untied
      hands_untied i (k ∷ ks) l ok (inr a) = hands_untied (suc i) ks l ok.1 a

      types_lent : (j : ℕ) (u : TyId) → slice_get (lent_types f) j ≡ Some u → local_type f (0 + j) ≡ Some u
      types_lent j u e = let z : 0 + j ≡ j = omega arith in ap (local_type f) z
          ∙ slice_front (lent_types f) (f.owned ++ f.locals) j (slice_get_within (lent_types f) j u e) ∙ e

      none_opened : (j : ℕ) → m.opened (at c.started j) ≡ None
      none_opened j = by (m.opened (at c.started j)) refl
        where
          by : (o : Option Origin) → m.opened (at c.started j) ≡ o → o ≡ None
          by None e = refl
          by (Some o) e = let lt = (here.holds.typed.origin (at c.started j) o e).0 in absurd (omega arith)

      after : (e : Control) (first : InitMaps) (m' : Copies) → Like c e → NowOf first (all_given (context p signatures number c.now.fun) g owned) m'
          → Moved (length (lent_types f)) (length (lent_types f) + length f.owned) first
          → Sure p S (hand_all e e.started zero lent (lent_types f) (turn e e.turns (λ c. Return (begun c f dest)))) m'
      after e first m' like now mv =
          subst (λ e. Sure p S (hand_all e e.started zero lent (lent_types f) (turn e e.turns (λ c. Return (begun c f dest)))) m') (sym like.is)
          (hands_set (all_given (context p signatures number c.now.fun) g owned) now.ties like.turns like.opened like.input like.output _ lent
          (lent_types f) 0 (all_given (context p signatures number c.now.fun) g owned) m'
          (record {
            maps = now.maps;
            holds = now.holds;
            sound = now.sound;
            agrees = now.agrees;
            others = λ k lt ne. now.others k ne ∙ mv.1 k lt;
            slots = λ k ne. ap (λ s. s k) now.same;
            owned = λ j le lt. now.others (at c.started j) (λ z. not_started (sym z)) ∙ mv.0 j le lt;
            rest = λ j le. now.others (at c.started j) (λ z. not_started (sym z)) ∙ mv.2 j le;
            unopened = λ j le. ap (λ s. s (at c.started j)) now.same ∙ none_opened j;
            lent = λ j lt. absurd (omega arith);
            foreign = λ j lt. absurd (omega arith);
          }) (omega arith) types_lent locals hands dist (λ l a. refl)
          (λ l a. hands_untied 0 lent l hands a)
          (λ m'' H. good_turn p S (record c { turns = like.turns; opened = like.opened; input = like.input; output = like.output }) like.turns _ m'' (λ j calm.
          let z : 0 + length (lent_types f) ≡ length (lent_types f) = omega arith in
          stands (begins (all_given (context p signatures number c.now.fun) g owned) now.ties like.turns like.opened like.input like.output
          (come_from (context p signatures number c.now.fun) (all_given (context p signatures number c.now.fun) g owned) (signatures n) 0 lent) w m'' dest j
          (subst (λ i. Handing (all_given (context p signatures number c.now.fun) g owned) now.ties i
          (come_from (context p signatures number c.now.fun) (all_given (context p signatures number c.now.fun) g owned) (signatures n) 0 lent) m'') z
          H) status init now.params now.bound goes))))

  -- STATEMENTS

  held_init : (to : ℕ) (d : FlowState) (s : Signature) (i : ℕ) (ls : List ℕ) → (held_by (context p signatures number c.now.fun) to d s i ls).init ≡ d.init
  held_init to d s i [] = refl
  held_init to d s i (l ∷ ls) = held_init to (with_open_place d (record { holder = InSubscript to; base = l; path = []; way = (s.lent i).way })) s (suc i) ls

  pub call_set : (lent : List ℕ) (owned : List Place) (to : Place) (d : FlowState) → (is_ramp f) ≡ false → LocalsAre p.core c.now.fun (lent_types f) lent
      → AreOf p.core c.now.fun f.owned owned → IsOf p.core c.now.fun f.result to → Distinct lent
      → Calls (context p signatures number c.now.fun) g n lent owned to d → WorkSet (context p signatures number c.now.fun) c.now.id c.now.work d
      → Sure p S (enter p c false (slice_get p.core.funs n) lent owned (control.Result to)) m
  call_set lent owned to d ramp locals are of dist t w =
      let st : Stores (context p signatures number c.now.fun)
      (come_from (context p signatures number c.now.fun) (all_given (context p signatures number c.now.fun) g owned) (signatures n) 0 lent) (Some to)
      d = t.2 in
      enter_set false lent owned (control.Result to) locals are dist t.0 t.1
      (come_from (context p signatures number c.now.fun) (all_given (context p signatures number c.now.fun) g owned) (signatures n) 0 lent)
      (come_from_back (context p signatures number c.now.fun) (all_given (context p signatures number c.now.fun) g owned) (signatures n) 0 lent).status
      (λ l q. refl)
      (ramp, of, record { store = st.0; next = d; flows = st.1; work = w })

  pub project_set : (lent : List ℕ) (owned : List Place) (to : ℕ) (d : FlowState) → LocalsAre p.core c.now.fun (lent_types f) lent
      → AreOf p.core c.now.fun f.owned owned → local_type c.now.fun to ≡ Some f.result → Distinct lent
      → Projects (context p signatures number c.now.fun) g n lent owned to d → WorkSet (context p signatures number c.now.fun) c.now.id c.now.work d
      → Sure p S (enter p c true (slice_get p.core.funs n) lent owned (Opens to)) m
  project_set lent owned to d locals are type dist t w =
      let h = all_given (context p signatures number c.now.fun) g owned in
      let back = come_from_back (context p signatures number c.now.fun) h (signatures n) 0 lent in
      let come : FlowState = come_from (context p signatures number c.now.fun) h (signatures n) 0 lent in
      let held_untied : IsUntied (context p signatures number c.now.fun) (held_by (context p signatures number c.now.fun) to come (signatures n) 0 lent) to =
      λ l y q e leaf. subst (λ init. IsNotTied to (init l q)) (sym (held_init to come (signatures n) 0 lent))
      (come_untied h 0 lent to t.2.untied l y q e leaf) in
      let same : (l : ℕ)
      → (held_by (context p signatures number c.now.fun) to (come_from (context p signatures number c.now.fun) h (signatures n) 0 lent) (signatures n) 0
      lent).status l ≡ h.status l =
      λ l. ap (λ s. s l) (held_status (context p signatures number c.now.fun) to (come_from (context p signatures number c.now.fun) h (signatures n) 0 lent)
      (signatures n) 0 lent) ∙ back.status l in
      enter_set true lent owned (Opens to) locals are dist t.0 t.1
      (held_by (context p signatures number c.now.fun) to (come_from (context p signatures number c.now.fun) h (signatures n) 0 lent) (signatures n) 0
      lent)
      same (λ l q. ap (λ s. s l q) (held_init to (come_from (context p signatures number c.now.fun) h (signatures n) 0 lent) (signatures n) 0 lent))
      (type, record { own = same to ∙ t.2.own; untied = held_untied; next = d; flows = t.3; work = w })
