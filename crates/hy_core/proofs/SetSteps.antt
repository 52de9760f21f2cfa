-- Statements of a core that has a flow: none of them reads what is unset, and what is known to be set after each of them is.
use Rattle.std.proofs.Common.{◌≡◌, ◌≢◌, ⊎_elim, ℕ, zero, suc, ◌<◌, Bool, true, false, cond, nat_lt, List, [], ◌∷◌, ◌++◌, length, Option, Some, None}
use Rattle.std.proofs.Common.{slice_get, refl, sym, ap, ◌∙◌, subst, append_assoc, arith}
use Rattle.std.specs.Prelude.{ℤ, pos, negsuc}
use Rattle.std.proofs.lemmas.Bool.Decides.{eqb_tells}
use Rattle.hy_base.specs.declared.run.End.TheVariants as end
use Rattle.hy_types.specs.declared.kinds.TyId.{TyId}
use Rattle.hy_core.specs.Plain.{Place, Operator, Set, Lend, Move, Copy, Fun, Core, is_ramp, lent_types}
use Rattle.hy_core.specs.Values.{Val, Number, Truth, Tuple, Product, No, Path, get, put, IsThere, is_whole, Selector, Diverge}
use Rattle.hy_core.specs.Memory.{Key, whole, set_at, Way, Reads, Writes, Origin, Copies, close_copy, copying}
use Rattle.hy_core.specs.Runs as effect
use Rattle.hy_core.specs.Runs.{Interaction, Fetch, Inspect, Perform, Return, apply}
use Rattle.hy_core.specs.Calm.{IsKept, MayOpen, MayClose}
use Rattle.hy_core.specs.Control.{Form, Numbers, Flags, Tuples, Products, Arrays, Unknown, form, parts_of, take_as}
use Rattle.hy_core.specs.Control.{local_type, Work, Nowhere, Activation, Ends, NotOpened}
use Rattle.hy_core.specs.Control.{Control, GivesUp, Setting, stop, with_work, key, write, sleeper_of}
use Rattle.hy_core.specs.Statements.{built, constant, Charge, Paid, Unpaid, charge, charged, close_of, is_counted, count_if, way, drop, does}
use Rattle.hy_core.specs.Typing.{all, place_type, type_at, still, IsLeaf, IsSmall}
use Rattle.hy_core.specs.Shaped.{IsOf, IsConstant, IsBuilt, Shaped}
use Rattle.hy_core.specs.Flow.{Loan, Status, Own, Param, Opened, Bound, InitState, IsSet, IsUnset, IsKnown, IsNotTied, HasNoElements}
use Rattle.hy_core.specs.Flow.{IsUntied, InitMap, all_set, none_set, map_at, with_map, FlowState}
use Rattle.hy_core.specs.Flow.{Signature, Context, set_local, with_init, with_status, is_exact, IsEntered, IsSetAt, IsLocalSet, ReadOk, StoreOk, GiveOk}
use Rattle.hy_core.specs.Flow.{TakeOk, given, stored, FlowsInto, IsLendable, opened_map, opened, LendOk, come_back, ComesBack, Without, Closes}
use Rattle.hy_core.specs.Flow.{TransfersBuilt, set_to, constant_state, form_or_unknown}
use Rattle.hy_types.specs.Types.{Table}
use Rattle.hy_core.specs.Flow as transfer
use Rattle.hy_core.proofs.Keys.{set_same, set_other, at_key}
use Rattle.hy_core.proofs.OpenPlaces.{Sound, sound_apply}
use Rattle.hy_core.proofs.Typed.{form_at, form_on, Fits, typed_read}
use Rattle.hy_core.proofs.TypedOperations.{has_constant}
use Rattle.hy_core.proofs.CalmWalks.{at}
use Rattle.hy_core.proofs.CalmFrames.{Sleeping, NotIn, Distinct_ids, context}
use Rattle.hy_core.proofs.CalmStatements.{Ended, closes_end}
use Rattle.hy_core.proofs.CalmSteps.{Like, like_self, like_with, like_count, like_id}
use Rattle.hy_core.proofs.SetValues.{truth_of, with_map_apart, map_below, leaf_below, leaf_back, Sets}
use Rattle.hy_core.proofs.SetValues.{sets_exact, sets_inner, sets_part, sets_single, sets_whole, all_sets}
use Rattle.hy_core.proofs.FlowStates.{Tells, tells_set, tells_same, tells_less}
use Rattle.hy_core.proofs.SetMemories.{InitMaps, NotAway, Holds, holds_lend, holds_closed, BackOk}
use Rattle.hy_core.proofs.SetGood.{Fine, over, stands, Sure, good_some}
use Rattle.hy_core.proofs.SetTies.{with_rel, wholes, tells_change, tells_set_local, untied_with, EndsAt, still_exact, still_array, LoanTie, LoanType, Tie}
use Rattle.hy_core.proofs.SetTies.{AllBound}
use Rattle.hy_core.proofs.SetWalks.{MayLeave, Acting, Now, typed_at, local_sets, fits_there, spot_set, spot_blank, spot_store, good_read, good_take}
use Rattle.hy_core.proofs.SetWalks.{good_write}
use Rattle.hy_core.proofs.SetOperations.{built_good}
use Rattle.hy_core.proofs.SetFrames.{SameInit, flows_less, WorkSet, Runs_on, CallersSet, AsleepSet, Stands, Changes, frame_keep, callers_keep}

all_get : {A : Type 0} (P : A → Type 0) (xs : List A) (l : ℕ) (t : A) → all P xs → slice_get xs l ≡ Some t → P t
all_get P [] l t h e = absurd (cc)
all_get P (x ∷ xs) zero t h e = let z : x ≡ t = cc in subst P z h.0
all_get P (x ∷ xs) (suc l) t h e = all_get P xs l t h.1 e

all_front : {A : Type 0} (P : A → Type 0) (xs ys : List A) → all P (xs ++ ys) → all P xs
all_front P [] ys h = tt
all_front P (x ∷ xs) ys h = (h.0, all_front P xs ys h.1)

-- the types of locals are small
pub small_of : (core : Core) (sh : Shaped core) (n : ℕ) (f : Fun) → slice_get core.funs n ≡ Some f → (l : ℕ) (t : TyId) → local_type f l ≡ Some t
    → IsSmall core.types t
small_of core sh n f e l t is = all_get (IsSmall core.types) ((lent_types f) ++ (f.owned ++ f.locals)) l t
    (all_front (IsSmall core.types) ((lent_types f) ++ (f.owned ++ f.locals)) (f.result ∷ [])
    (subst (all (IsSmall core.types)) (sym (append_assoc (lent_types f) (f.owned ++ f.locals) (f.result ∷ [])
    ∙ ap (λ r. (lent_types f) ++ r) (append_assoc f.owned f.locals (f.result ∷ [])))) (sh.funs n f e).small)) is

-- what a `Set` stores is whole
whole_constant : (f : Form) (n : ℤ) (v : Val) → constant f n ≡ Some v → is_whole v ≡ true
whole_constant (Numbers k) n v e = let z : Number k n ≡ v = cc in ap is_whole (sym z)
whole_constant Flags (pos zero) v e = let z : Truth false ≡ v = cc in ap is_whole (sym z)
whole_constant Flags (pos (suc n)) v e = let z : Truth true ≡ v = cc in ap is_whole (sym z)
whole_constant Flags (negsuc n) v e = absurd (cc)
whole_constant (Tuples []) n v e = let z : Tuple No ≡ v = cc in ap is_whole (sym z)
whole_constant (Tuples (t ∷ ts)) n v e = absurd (cc)
whole_constant (Products d []) n v e = let z : Product d No ≡ v = cc in ap is_whole (sym z)
whole_constant (Products d (t ∷ ts)) n v e = absurd (cc)
whole_constant (Arrays t) n v e = absurd (cc)
whole_constant Unknown n v e = absurd (cc)

-- and its state is so
plain_constant : (F : ℕ → InitState) (f : Form) (n : ℤ) → Tells F (constant_state f n) (constant_state f n)
plain_constant F (Numbers t) (pos zero) = refl
plain_constant F (Numbers t) (pos (suc n)) = refl
plain_constant F (Numbers t) (negsuc n) = tt
plain_constant F Flags (pos zero) = refl
plain_constant F Flags (pos (suc n)) = refl
plain_constant F Flags (negsuc n) = tt
plain_constant F (Tuples ts) n = tt
plain_constant F (Products d ts) n = tt
plain_constant F (Arrays t) n = tt
plain_constant F Unknown n = tt

constant_sets : (types : Table) (u : TyId) (f : Form) (n : ℤ) (v : Val) → form types u ≡ f → constant f n ≡ Some v → Fits types (form types u) v
    → is_whole v ≡ true → Sets types u (λ q. constant_state f n) v
constant_sets types u (Numbers t) (pos zero) v f e fits whole =
    sets_single types u (IsKnown false) v (ap parts_of f) (let z : Number t (pos zero) ≡ v = cc in ap truth_of (sym z))
constant_sets types u (Numbers t) (pos (suc n)) v f e fits whole =
    sets_single types u (IsKnown true) v (ap parts_of f) (let z : Number t (pos (suc n)) ≡ v = cc in ap truth_of (sym z))
constant_sets types u (Numbers t) (negsuc n) v f e fits whole = sets_whole types u v fits whole
constant_sets types u Flags (pos zero) v f e fits whole =
    sets_single types u (IsKnown false) v (ap parts_of f) (let z : Truth false ≡ v = cc in ap truth_of (sym z))
constant_sets types u Flags (pos (suc n)) v f e fits whole =
    sets_single types u (IsKnown true) v (ap parts_of f) (let z : Truth true ≡ v = cc in ap truth_of (sym z))
constant_sets types u Flags (negsuc n) v f e fits whole = absurd (cc)
constant_sets types u (Tuples ts) n v f e fits whole = sets_whole types u v fits whole
constant_sets types u (Products d ts) n v f e fits whole = sets_whole types u v fits whole
constant_sets types u (Arrays t) n v f e fits whole = sets_whole types u v fits whole
constant_sets types u Unknown n v f e fits whole = sets_whole types u v fits whole

-- those who wait and sleep are others than who runs
pub record Ids (id : ℕ) (callers : List Activation) (asl : Sleeping) : Type 0 where
  pub not_now : NotIn id callers
  pub distinct : Distinct_ids callers
  pub nowhere : (k : Key) (b : Activation) → asl k ≡ Some b → b.dest ≡ Nowhere
  pub other : (k : Key) (b : Activation) → asl k ≡ Some b → b.id ≢ id
  pub apart : (k : Key) (b : Activation) → asl k ≡ Some b → NotIn b.id callers
  pub alone : (k l : Key) (b d : Activation) → asl k ≡ Some b → asl l ≡ Some d → b.id ≡ d.id → k ≡ l

module _ (p : Setting) (signatures : ℕ → Signature) where
  -- all that is known of a state but for what is left to do
  pub record Here (c : Control) (m : Copies) (number : ℕ) (g : FlowState) : Type 0 where
    pub none : c.halt ≡ None
    pub ty : Key → Option TyId
    pub maps : InitMaps
    pub promised : InitMaps
    pub holds : Holds p.core.types ty c.started maps promised m
    pub sound : Sound m
    pub found : slice_get p.core.funs number ≡ Some c.now.fun
    pub below : c.now.id < c.started
    pub locals : (l : ℕ) → ty (at c.now.id l) ≡ local_type c.now.fun l
    pub agrees : (l : ℕ) (t : TyId) (q : Path) → local_type c.now.fun l ≡ Some t → IsLeaf p.core.types t q
        → Tells (wholes maps c.now.id) (g.init l q) (maps (at c.now.id l) q)
    pub ties : (l : ℕ) → Tie p.core.types c.now.fun c.now.id l (g.status l) (m.opened (at c.now.id l))
    pub params : (j : ℕ) → j < length (lent_types c.now.fun) → (v : Way) × (g.status j ≡ Param v)
    pub bound : AllBound g.status (λ l. promised (at c.now.id l))
    pub promises : (j : ℕ) → j < length (lent_types c.now.fun) → (q : Path) → promised (at c.now.id j) q ≡ ((signatures number).lent j).after q
    pub callers : CallersSet p signatures c.started (record { ty = ty; maps = maps; promised = promised; slots = m.opened }) (is_ramp c.now.fun)
        c.now.fun.result (signatures number).yields c.now.dest c.callers
    pub asleep : AsleepSet p signatures c.started (record { ty = ty; maps = maps; promised = promised; slots = m.opened }) (sleeper_of c.asleep)
    pub ids : Ids c.now.id c.callers (sleeper_of c.asleep)

  pub here_work : (c : Control) (m : Copies) (number : ℕ) (g : FlowState) (w : Work) (turns : ℕ) → Here c m number g
      → Here (with_work (record c { turns = turns }) w) m number g
  here_work c m number g w turns h = record {
    none = h.none;
    ty = h.ty;
    maps = h.maps;
    promised = h.promised;
    holds = h.holds;
    sound = h.sound;
    found = h.found;
    below = h.below;
    locals = h.locals;
    agrees = h.agrees;
    ties = h.ties;
    params = h.params;
    bound = h.bound;
    promises = h.promises;
    callers = h.callers;
    asleep = h.asleep;
    ids = h.ids;
  }

  pub here_less : (c : Control) (m : Copies) (number : ℕ) (g d : FlowState) → SameInit (context p signatures number c.now.fun) g d → Here c m number g
      → Here c m number d
  here_less c m number g d l h = record {
    none = h.none;
    ty = h.ty;
    maps = h.maps;
    promised = h.promised;
    holds = h.holds;
    sound = h.sound;
    found = h.found;
    below = h.below;
    locals = h.locals;
    agrees = tells_less (context p signatures number c.now.fun) g d (λ l. h.maps (at c.now.id l)) h.agrees l.init;
    ties = λ j. subst (λ s. Tie p.core.types c.now.fun c.now.id j s (m.opened (at c.now.id j))) (l.status j) (h.ties j);
    params = λ j lt. let r = h.params j lt in (r.0, sym (l.status j) ∙ r.1);
    bound = λ j w e q. h.bound j w (l.status j ∙ e) q;
    promises = h.promises;
    callers = h.callers;
    asleep = h.asleep;
    ids = h.ids;
  }

  -- what is left to do has a flow
  pub here_stands : (c : Control) (m : Copies) (number : ℕ) (g : FlowState) → Here c m number g
      → WorkSet (context p signatures number c.now.fun) c.now.id c.now.work g → Stands p signatures c m
  here_stands c m number g h w = record {
    none = h.none;
    ty = h.ty;
    maps = h.maps;
    promised = h.promised;
    holds = h.holds;
    sound = h.sound;
    now = record {
      number = number;
      found = h.found;
      below = h.below;
      locals = h.locals;
      flow = g;
      agrees = h.agrees;
      ties = h.ties;
      params =
          h.params;
      bound = h.bound;
      promises = h.promises;
      goes = w;
    };
    callers = h.callers;
    asleep = h.asleep;
  }

  module _ (sh : Shaped p.core) (c : Control) (m : Copies) (number : ℕ) (g : FlowState) (here : Here c m number g) where
    abbrev pub x : Context
    x = context p signatures number c.now.fun

    abbrev pub S : Control → Copies → Type 0
    S = Stands p signatures

    abbrev pub Left : FlowState → Type 0
    Left d = WorkSet (context p signatures number c.now.fun) c.now.id c.now.work d

    abbrev pub mine : ℕ → Key
    mine l = at c.now.id l

    pub small : (l : ℕ) (t : TyId) → local_type c.now.fun l ≡ Some t → IsSmall p.core.types t
    small = small_of p.core sh number c.now.fun here.found

    -- the activation that runs
    abbrev pub acting : Acting
    acting = record {
      p = p;
      S = Stands p signatures;
      signatures = signatures;
      number = number;
      ty = here.ty;
      n = c.started;
      P = here.promised;
      first = here.maps;
      slots = m.opened;
      k₀ = c;
      local = here.locals;
      below_n = here.below;
      small = small_of p.core sh number c.now.fun here.found;
    }

    abbrev pub NowOf : FlowState → Copies → Type 0
    NowOf = Now acting

    pub now_here : NowOf g m
    now_here = record {
      maps = here.maps;
      holds = here.holds;
      agrees = here.agrees;
      others = λ k n. refl;
      ties = here.ties;
      params = here.params;
      bound =
          here.bound;
      same = refl;
      sound = here.sound;
    }

    -- a change at what is the body's own leaves all others
    module _ (m' : Copies) (d : FlowState) (maps' : InitMaps) (holds' : Holds p.core.types here.ty c.started maps' here.promised m') (sound' : Sound m')
        (agrees' : (l : ℕ) (t : TyId) (q : Path) → local_type c.now.fun l ≡ Some t → IsLeaf p.core.types t q
        → Tells (wholes maps' c.now.id) (d.init l q) (maps' (at c.now.id l) q))
        (others : (k : Key) → k.act ≢ c.now.id → maps' k ≡ here.maps k) (slots' : (k : Key) → k.act ≢ c.now.id → m'.opened k ≡ m.opened k)
        (ties' : (l : ℕ) → Tie p.core.types c.now.fun c.now.id l (d.status l) (m'.opened (at c.now.id l))) (params' : (j : ℕ)
        → j < length (lent_types c.now.fun) → (v : Way) × (d.status j ≡ Param v))
        (bound' : AllBound d.status (λ l. here.promised (at c.now.id l))) where
      own_changes : Changes p signatures c.now.id c.now.id c.started c.started (record {
        ty = here.ty;
        maps = here.maps;
        promised = here.promised;
        slots =
            m.opened;
      }) (record { ty = here.ty; maps = maps'; promised = here.promised; slots = m'.opened })
      own_changes = record {
        more = omega arith;
        ty = λ k b i j. refl;
        maps = λ k b i j. others k i;
        promised = λ k b i j. refl;
        slots = λ k b i j. slots' k i;
      }

      pub here_after : Here c m' number d
      here_after = record {
        none = here.none;
        ty = here.ty;
        maps = maps';
        promised = here.promised;
        holds = holds';
        sound = sound';
        found = here.found;
        below = here.below;
        locals = here.locals;
        agrees = agrees';
        ties = ties';
        params = params';
        bound = bound';
        promises = here.promises;
        callers = callers_keep p signatures c.now.id c.now.id c.started c.started _ _ own_changes (is_ramp c.now.fun) c.now.fun.result
            (signatures number).yields c.now.dest c.callers here.ids.not_now here.ids.not_now here.callers;
        asleep = λ k b e. frame_keep p signatures c.now.id c.now.id c.started c.started _ _ own_changes b.id b.fun (Runs_on p signatures b)
            (here.ids.other k b e) (here.ids.other k b e) (here.asleep k b e);
        ids = here.ids;
      }

    pub like_stands : (e : Control) (m' : Copies) (d : FlowState) → Like c e → Here c m' number d → Left d → Stands p signatures e m'
    like_stands e m' d like h w = subst (λ e. Stands p signatures e m') (sym like.is) (record {
      none = h.none;
      ty = h.ty;
      maps = h.maps;
      promised = h.promised;
      holds = h.holds;
      sound = h.sound;
      now = record {
        number = number;
        found = h.found;
        below = h.below;
        locals = h.locals;
        flow = d;
        agrees = h.agrees;
        ties = h.ties;
        params =
            h.params;
        bound = h.bound;
        promises = h.promises;
        goes = w;
      };
      callers = h.callers;
      asleep = h.asleep;
    })

    pub here_now : (h : FlowState) (m' : Copies) → NowOf h m' → Here c m' number h
    here_now h m' now = here_after m' h now.maps now.holds now.sound now.agrees now.others (λ k n. ap (λ s. s k) now.same)
        (λ l. subst (λ s. Tie p.core.types c.now.fun c.now.id l (h.status l) (s (at c.now.id l))) (sym now.same) (now.ties l)) now.params now.bound

    pub done_less : (d : FlowState) → Left d → (h : FlowState) (e : Control) (m' : Copies) → Like c e → NowOf h m' → SameInit x h d
        → Fine (Stands p signatures) e m'
    done_less d w h e m' like now less = stands (like_stands e m' d like (here_less c m' number h d less (here_now h m' now)) w)

    pub done : (d : FlowState) → Left d → (h : FlowState) (e : Control) (m' : Copies) → Like c e → NowOf h m' → FlowsInto x h d
        → Fine (Stands p signatures) e m'
    done d w h e m' like now flows = done_less d w h e m' like now (flows_less x h d flows)

    -- TALKS of this activation

    pub takes : (fate : effect.Fate) (h : FlowState) (m' : Copies) → NowOf h m' → (place : Place) (u : TyId) (go : Control → Val → Interaction Control)
        → IsOf p.core c.now.fun u place → TakeOk x h place → MayLeave x fate h place
        → ((e : Control) (v : Val) (m' : Copies) → Like c e → Fits p.core.types (form p.core.types u) v → is_whole v ≡ true → NowOf (given x h place) m'
        → Sure p S (go e v) m') → (e : Control) → Like c e → Sure p S (take_as fate p e place go) m'
    takes fate h m' now place u go of ok leave next e like =
        good_take acting h m' now fate place u go of ok leave next e like

    pub writes : (h : FlowState) (m' : Copies) → NowOf h m' → (place : Place) (u : TyId) (v : Val) (go : Control → Interaction Control)
        → IsOf p.core c.now.fun u place → StoreOk x h place → Fits p.core.types (form p.core.types u) v → is_whole v ≡ true
        → ((e : Control) (m' : Copies) → Like c e → NowOf (stored x h place) m' → Sure p S (go e) m') → (e : Control) → Like c e
        → Sure p S (write p e place v go) m'
    writes h m' now place u v go of ok fits whole next e like =
        good_write acting h m' now place u v go of ok fits whole next e like

    -- STATEMENTS that open and close nothing

    pub built_set : (o : Operator) (to : Option Place) (from : List Place) (spans : List ℕ) (d : FlowState) → TransfersBuilt x o to from g d
        → IsBuilt p.core c.now.fun o to from spans → Left d → Sure p S (built p c o to from spans) m
    built_set o to from spans d t is w =
        built_good acting d (λ h e m' like now flows. done d w h e m' like now flows) g m now_here o to from spans t is c
        (like_self c)

    pub set_set : (to : Place) (k : ℤ) (u : TyId) (d : FlowState) → IsOf p.core c.now.fun u to → IsConstant p.core c.now.fun (form p.core.types u) k
        → StoreOk x g to → FlowsInto x (set_to x g to k) d → Left d → Sure p S (does p c (Set to k)) m
    set_set to k u d of con ok flows w =
        spot_store acting g m now_here to u _ of ok (λ e m' s like store.
        good_some p S e (constant (form p.core.types u) k) _ m' (λ v is calm.
        let f = has_constant p.core c.now.fun (form p.core.types u) u k refl con in
        let z : f.0 ≡ v = some_val f.0 v (sym f.1 ∙ is) in
        let fits : Fits p.core.types (form p.core.types u) v = subst (Fits p.core.types (form p.core.types u)) z f.2 in
        let whole = whole_constant (form p.core.types u) k v is in
        let known : form_or_unknown x (place_type p.core.types c.now.fun to) ≡ form p.core.types u = ap (form_or_unknown x) of.0 in
        let y = store v (λ q. constant_state (form_or_unknown x (place_type p.core.types c.now.fun to)) k)
        (λ F q. plain_constant F (form_or_unknown x (place_type p.core.types c.now.fun to)) k)
        (subst (λ a. Sets p.core.types u (λ q. constant_state a k) v) (sym known) (constant_sets p.core.types u (form p.core.types u) k v refl is fits whole))
        fits whole calm.0 in
        (y.0, done d w (set_to x g to k) e _ like y.1 flows))) c (like_self c)
      where
        some_val : (a b : Val) → Some a ≡ Some b → a ≡ b
        some_val a b e = cc

    pub move_set : (to from : Place) (u : TyId) (d : FlowState) → IsOf p.core c.now.fun u to → IsOf p.core c.now.fun u from → TakeOk x g from
        → StoreOk x (given x g from) to → FlowsInto x (stored x (given x g from) to) d → Left d → Sure p S (does p c (Move to from)) m
    move_set to from u d to_of from_of ok store flows w = takes effect.Moved g m now_here from u _ from_of ok tt (λ e v m' like fits whole now.
        writes (given x g from) m' now to u v Return to_of store fits whole
        (λ e m' like now calm. done d w (stored x (given x g from) to) e m' like now flows) e like) c (like_self c)

    pub copy_set : (to from : Place) (u : TyId) (d : FlowState) → IsOf p.core c.now.fun u to → IsOf p.core c.now.fun u from → ReadOk x g from
        → StoreOk x g to → FlowsInto x (stored x g to) d → Left d → Sure p S (does p c (Copy to from)) m
    copy_set to from u d to_of from_of ok store flows w =
        good_read acting g m now_here from u _ from_of ok
        (λ e v like fits whole. by e v (charge v e.turns e.opened) like fits whole) c (like_self c)
      where
        by : (e : Control) (v : Val) (y : Charge) → Like c e → Fits p.core.types (form p.core.types u) v → is_whole v ≡ true
            → Sure p S (charged e y (λ e. write p e to v Return)) m
        by e v (Paid k o) like fits whole =
            writes g m now_here to u v Return to_of store fits whole (λ e m' like now calm. done d w (stored x g to) e m' like now flows)
            (record e { turns = k; opened = o }) (like_with c e k o e.input e.output like)
        by e v (Unpaid o) like fits whole = λ calm. over (Ends end.Spent) refl (λ e. absurd (cc))

    pub drop_set : (place : Place) (u : TyId) (d : FlowState) → IsOf p.core c.now.fun u place → TakeOk x g place → HasNoElements x g place
        → FlowsInto x (given x g place) d → Left d → Sure p S (drop p GivesUp c place) m
    drop_set place u d of ok none flows w =
        takes effect.Discarded g m now_here place u _ of ok none
        (λ e v m' like fits whole now calm. done d w (given x g place) e m' like now flows) c (like_self c)

    -- LENDING a place of one's own

    module _ (to : ℕ) (place : Place) (w : Way) (u : TyId) (local : local_type c.now.fun to ≡ Some u) (of : IsOf p.core c.now.fun u place)
        (ok : LendOk x g to place w) (d : FlowState) (flows : FlowsInto x (opened x g to place w) d) (left : Left d) (b : Bool) where
      abbrev loan : Loan
      loan = record { base = place.local; path = still place.steps; exact = is_exact place.steps; way = w }

      count_like : (b : Bool) (e : Control) → Like c e → Like c (count_if b e)
      count_like true e like = like_count c e like
      count_like false e like = like

      no_own : (s : Status) → s ≡ Own → ((v : Way) × (s ≡ Param v)) → ⊥
      no_own s e r = let z = r.1 in absurd (cc)

      -- once it is open
      lent : (m' : Copies) (now : NowOf g m') (r : Path) (init_map : InitMap) → EndsAt (is_exact place.steps) (still place.steps) r
          → form_on p.core.types (form_at p.core.types (here.ty (mine place.local))) r ≡ form p.core.types u
          → ((q : Path) → IsLeaf p.core.types u q → Tells (wholes (set_at now.maps (mine to) init_map) c.now.id)
          (opened_map x g place (is_exact place.steps) q) (init_map q))
          → (IsKept m' (mine place.local) → Sets p.core.types u init_map (get r (m'.value (mine place.local))))
          → LoanType p.core.types c.now.fun to loan (is_exact place.steps)
          → (e : Control) → Like c e → Sure p S (Perform (effect.Lend (key e to) (record { key = mine place.local; path = r }) w) (Return (count_if b e))) m'
      lent m' now r init_map ends form_is covered sets type e like =
          subst (λ k. Sure p S (Perform (effect.Lend k (record { key = mine place.local; path = r }) w) (Return (count_if b e))) m')
          (sym (ap (λ i. at i to) (like_id c e like))) (λ calm.
          let may = calm.0 in (
            tt,
            stands (like_stands (count_if b e) _ d (count_like b e like)
                (here_less c _ number (opened x g to place w) d (flows_less x (opened x g to place w) d flows)
                (here_after (copying.lend m' (mine to) (record { key = mine place.local; path = r }) w) (opened x g to place w)
                (set_at now.maps (mine to) init_map)
                (holds_lend p.core.types here.ty c.started now.maps (set_at now.maps (mine to) init_map) here.promised m' (mine to)
                (record { key = mine place.local; path = r }) w now.holds may refl here.below here.below
                (ap (form_at p.core.types) (here.locals to ∙ local) ∙ sym form_is) (λ k n. set_other now.maps (mine to) init_map k n)
                (λ t y. subst (λ c. Sets p.core.types t c (get r (m'.value (mine place.local)))) (sym (set_same now.maps (mine to) init_map))
                (let z : u ≡ t = same_type (sym local ∙ sym (here.locals to) ∙ y) in
                subst (λ t. Sets p.core.types t init_map (get r (m'.value (mine place.local)))) z (sets (kept_of w may.free)))))
                (sound_apply (effect.Lend (mine to) (record { key = mine place.local; path = r }) w) m' may now.sound)
                (λ j t q e leaf. tells_set_local now.maps c.now.id to g.init (opened_map x g place (is_exact place.steps)) init_map j q
                (ok.free.untied j t q e leaf) (now.agrees j t q e leaf) (λ y. covered q (let z : t ≡ u =
                same_type (sym e ∙ ap (local_type c.now.fun) y ∙ local) in subst (λ t. IsLeaf p.core.types t q) z leaf)))
                (λ k n. set_other now.maps (mine to) init_map k (λ z. n (ap (λ k. k.act) z)) ∙ now.others k n)
                (λ k n. set_other m'.opened (mine to) _ k (λ z. n (ap (λ k. k.act) z)) ∙ ap (λ s. s k) now.same)
                (λ j. ⊎_elim
                (λ y. subst (λ s. Tie p.core.types c.now.fun c.now.id j s (set_at m'.opened (mine to) (Some new) (mine j)))
                (sym (ap (λ b. cond b (Opened loan) (g.status j)) y.0))
                (λ o is. subst (λ j. LoanTie p.core.types c.now.fun c.now.id j loan o) (sym y.1)
                (let z : new ≡ o = some_origin new o (sym (set_same m'.opened (mine to) (Some new))
                ∙ ap (λ j. set_at m'.opened (mine to) (Some new) (mine j)) (sym y.1) ∙ is) in
                subst (λ o. LoanTie p.core.types c.now.fun c.now.id to loan o) z (record { base = refl; way = refl; ends = ends; type = type }))))
                (λ y. subst (λ s. Tie p.core.types c.now.fun c.now.id j s (set_at m'.opened (mine to) (Some new) (mine j)))
                (sym (ap (λ b. cond b (Opened loan) (g.status j)) y.0))
                (subst (Tie p.core.types c.now.fun c.now.id j (g.status j))
                (sym (set_other m'.opened (mine to) (Some new) (mine j) (λ z. y.1 (ap (λ k. k.local) z)) ∙ ap (λ s. s (mine j)) now.same))
                (here.ties j))) (eqb_tells j to))
                (λ j lt. ⊎_elim (λ y. absurd (no_own (g.status j) (ap g.status y.1 ∙ ok.free.own) (here.params j lt)))
                (λ y. let r = here.params j lt in (r.0, ap (λ b. cond b (Opened loan) (g.status j)) y.0 ∙ r.1)) (eqb_tells j to))
                (λ j v e q. ⊎_elim (λ y. absurd (let z : Opened loan ≡ Bound v = sym (ap (λ b. cond b (Opened loan) (g.status j)) y.0) ∙ e in cc))
                (λ y. here.bound j v (sym (ap (λ b. cond b (Opened loan) (g.status j)) y.0) ∙ e) q) (eqb_tells j to))))
                left),
          ))
        where
          new : Origin
          new = record { base = mine place.local; path = r; way = w }

          some_origin : (a b : Origin) → Some a ≡ Some b → a ≡ b
          some_origin a b e = cc

          same_type : {a b : TyId} → Some a ≡ Some b → a ≡ b
          same_type e = cc

          kept_of : (w : Way) → MayOpen m' (record { key = mine place.local; path = r }) w → IsKept m' (mine place.local)
          kept_of Reads may = may.kept
          kept_of Writes may = may.kept

      lent_part : (m' : Copies) (now : NowOf g m') → is_exact place.steps ≡ true → (e : Control) → Like c e
          → Sure p S (Perform (effect.Lend (key e to) (record { key = mine place.local; path = still place.steps }) w) (Return (count_if b e))) m'
      lent_part m' now exact e like =
          let is : type_at p.core.types (local_type c.now.fun place.local) (still place.steps) ≡ Some u =
          still_exact p.core.types (local_type c.now.fun place.local) place.steps u exact of.0 in
          lent m' now (still place.steps) (map_at (still place.steps) (now.maps (mine place.local)))
          (subst (λ b. EndsAt b (still place.steps) (still place.steps)) (sym exact) refl)
          (typed_at acting g m' now place.local (still place.steps) u is)
          (λ q leaf. subst (λ s. Tells (after m' now) s (map_at (still place.steps) (now.maps (mine place.local)) q))
          (sym (ap (λ b. opened_map x g place b q) exact ∙ map_below (still place.steps) (g.init place.local) q))
          (part_covered (local_type c.now.fun place.local) refl is q leaf))
          (λ kept. part_sets (local_type c.now.fun place.local) refl is kept)
          (subst (LoanType p.core.types c.now.fun to loan) (sym exact) (is ∙ sym local)) e like
        where
          after : (m' : Copies) (now : NowOf g m') → ℕ → InitState
          after m' now = wholes (set_at now.maps (mine to) (map_at (still place.steps) (now.maps (mine place.local)))) c.now.id

          part_covered : (o : Option TyId) → local_type c.now.fun place.local ≡ o → type_at p.core.types o (still place.steps) ≡ Some u → (q : Path)
              → IsLeaf p.core.types u q
              → Tells (after m' now) (g.init place.local (still place.steps ++ q)) (map_at (still place.steps) (now.maps (mine place.local)) q)
          part_covered None e is q leaf = absurd (cc)
          part_covered (Some t) e is q leaf =
              let below : IsLeaf p.core.types t (still place.steps ++ q) = leaf_below p.core.types t u (still place.steps) q is leaf in
              subst (Tells (after m' now) (g.init place.local (still place.steps ++ q)))
              (sym (map_below (still place.steps) (now.maps (mine place.local)) q))
              (tells_change now.maps c.now.id to (map_at (still place.steps) (now.maps (mine place.local))) (g.init place.local (still place.steps ++ q))
              (now.maps (mine place.local) (still place.steps ++ q)) (ok.free.untied place.local t (still place.steps ++ q) e below)
              (now.agrees place.local t (still place.steps ++ q) e below))

          part_sets : (o : Option TyId) → local_type c.now.fun place.local ≡ o → type_at p.core.types o (still place.steps) ≡ Some u
              → IsKept m' (mine place.local)
              → Sets p.core.types u (map_at (still place.steps) (now.maps (mine place.local))) (get (still place.steps) (m'.value (mine place.local)))
          part_sets None e is kept = absurd (cc)
          part_sets (Some t) e is kept =
              sets_part p.core.types t u (now.maps (mine place.local)) (m'.value (mine place.local)) (still place.steps)
              (local_sets acting g m' now place.local t e kept) is

      lent_element : is_exact place.steps ≡ false → (r : Path) → EndsAt (is_exact place.steps) (still place.steps) r
          → (IsKept m (mine place.local) → is_whole (get r (m.value (mine place.local))) ≡ true)
          → form_on p.core.types (form_at p.core.types (here.ty (mine place.local))) r ≡ form p.core.types u → (e : Control) → Like c e
          → Sure p S (Perform (effect.Lend (key e to) (record { key = mine place.local; path = r }) w) (Return (count_if b e))) m
      unfolding now_here
      lent_element exact r ends wh form_is e like =
          let a = still_array p.core.types (local_type c.now.fun place.local) place.steps u exact of.0 in
          lent m now_here r all_set ends form_is (λ q leaf. subst (λ b. Tells (wholes (set_at here.maps (mine to) all_set) c.now.id)
          (opened_map x g place b q) IsSet) (sym exact) tt)
          (λ kept. sets_whole p.core.types u (get r (m.value (mine place.local)))
          (fits_there acting g m now_here place.local r (form p.core.types u) form_is) (wh kept))
          (subst (LoanType p.core.types c.now.fun to loan) (sym exact) a) e like

    pub lend_set : (to : ℕ) (place : Place) (w : Bool) (u : TyId) (d : FlowState) → local_type c.now.fun to ≡ Some u → IsOf p.core c.now.fun u place
        → LendOk x g to place (way w) → FlowsInto x (opened x g to place (way w)) d → Left d
        → Sure p S (does p c (Lend to place w)) m
    lend_set to place true u d local of ok flows left = by (is_exact place.steps) refl ok.lendable
      where
        by : (b : Bool) → is_exact place.steps ≡ b → IsEntered x g place b → Sure p S (does p c (Lend to place true)) m
        by true exact entered =
            spot_blank acting g m now_here place u _ of exact
            (λ e m' like now is. lent_part to place Writes u local of ok d flows left (is_counted place.steps) m' now exact e like) c (like_self c)
        by false exact entered =
            spot_set acting g m now_here Writes place u _ of ok.indexes entered
            (λ e r like ends wh form_is. lent_element to place Writes u local of ok d flows left (is_counted place.steps) exact r ends wh form_is e like) c
            (like_self c)
    lend_set to place false u d local of ok flows left =
        spot_set acting g m now_here Reads place u _ of ok.indexes ok.lendable
        (λ e r like ends wh form_is. by (is_exact place.steps) refl e r like ends wh form_is) c (like_self c)
      where
        by : (b : Bool) → is_exact place.steps ≡ b → (e : Control) (r : Path) → Like c e → EndsAt (is_exact place.steps) (still place.steps) r
            → (IsKept m (mine place.local) → is_whole (get r (m.value (mine place.local))) ≡ true)
            → form_on p.core.types (form_at p.core.types (here.ty (mine place.local))) r ≡ form p.core.types u
            → Sure p S (Perform (effect.Lend (key e to) (record { key = mine place.local; path = r }) Reads)
            (Return (count_if (is_counted place.steps) e))) m
        by true exact e r like ends wh form_is = let z : r ≡ still place.steps = subst (λ b. EndsAt b (still place.steps) r) exact ends in
            subst (λ r. Sure p S (Perform (effect.Lend (key e to) (record { key = mine place.local; path = r }) Reads)
            (Return (count_if (is_counted place.steps) e))) m) (sym z)
            (lent_part to place Reads u local of ok d flows left (is_counted place.steps) m now_here exact e like)
        by false exact e r like ends wh form_is = lent_element to place Reads u local of ok d flows left
            (is_counted place.steps) exact r ends wh form_is e like

    -- a local that is known to be set is whole, where no other activation may change it
    pub whole_local : (l : ℕ) (u : TyId) → local_type c.now.fun l ≡ Some u → IsLocalSet x g l → NotAway m.opened (mine l) → is_whole (m.value (mine l)) ≡ true
    whole_local l u local set here_only = all_sets p.core.types u (here.maps (mine l)) (m.value (mine l)) (small l u local)
        (subst (λ f. Fits p.core.types f (m.value (mine l))) (ap (form_at p.core.types) (here.locals l ∙ local))
        (typed_read p.core.types (λ k. form_at p.core.types (here.ty k)) c.started m here.holds.typed (whole (mine l))))
        (here.holds.set (mine l) here_only u (here.locals l ∙ local)) (λ q leaf. tells_set (wholes here.maps c.now.id) (g.init l q) (here.maps (mine l) q)
        (set u local q leaf) (here.agrees l u q local leaf))

    -- CLOSING what one lent to oneself

    module _ (l : ℕ) (o : Loan) (u : TyId) (local : local_type c.now.fun l ≡ Some u) (st : g.status l ≡ Opened o) (d : FlowState) (t : Closes x g l o d)
        (left : Left d) (may : MayClose m (mine l)) where
      tie : LoanTie p.core.types c.now.fun c.now.id l o may.origin
      tie = let f = here.ties l in subst (λ s. Tie p.core.types c.now.fun c.now.id l s (m.opened (mine l))) st f may.origin may.opened

      not_base : mine o.base ≢ mine l
      not_base e = may.shut (mine l) may.origin may.opened (tie.base ∙ e)

      unaway : NotAway m.opened (mine l)
      unaway j i e b n w = may.shut j i e b

      sets_here : Sets p.core.types u (here.maps (mine l)) (m.value (mine l))
      sets_here = here.holds.set (mine l) unaway u (here.locals l ∙ local)

      there_base : IsThere may.origin.path (m.value (mine o.base))
      there_base = subst (λ k. IsThere may.origin.path (m.value k)) tie.base (here.sound.there (mine l) may.origin may.opened)

      -- with what is set then in the local that it comes back to
      abbrev maps_with : InitMap → InitMaps
      maps_with B = set_at (set_at here.maps (mine o.base) B) (mine l) none_set

      base_maps : (B : InitMap) → maps_with B (mine o.base) ≡ B
      base_maps B = set_other (set_at here.maps (mine o.base) B) (mine l) none_set (mine o.base) not_base ∙ set_same here.maps (mine o.base) B

      other_maps : (B : InitMap) (k : Key) → k ≢ mine l → k ≢ mine o.base → maps_with B k ≡ here.maps k
      other_maps B k n n' = set_other (set_at here.maps (mine o.base) B) (mine l) none_set k n ∙ set_other here.maps (mine o.base) B k n'

      ended : Ended (transfer.InLocal l) l g d
      ended = closes_end x g l o d t.2

      -- what is known of each local once it has come back
      abbrev Back : InitMap → Type 0
      Back B = (j : ℕ) (y : TyId) (q : Path) → local_type c.now.fun j ≡ Some y → IsLeaf p.core.types y q → j ≢ l
          → Tells (wholes (maps_with B) c.now.id) ((come_back x g l o o.way o.exact).init j q) (maps_with B (mine j) q)

      closed_agrees : (B : InitMap) → Back B → (j : ℕ) (y : TyId) (q : Path) → local_type c.now.fun j ≡ Some y → IsLeaf p.core.types y q
          → Tells (wholes (maps_with B) c.now.id) (d.init j q) (maps_with B (mine j) q)
      closed_agrees B agree = tells_less x t.2.0 d (λ l. maps_with B (at c.now.id l)) (λ j y q e leaf.
          subst (λ init. Tells (wholes (maps_with B) c.now.id) (init j q) (maps_with B (mine j) q)) (sym t.2.1.init) (⊎_elim
          (λ a. subst (λ s. Tells (wholes (maps_with B) c.now.id) s (maps_with B (mine j) q))
          (sym (ap (λ b. cond b none_set ((come_back x g l o o.way o.exact).init j) q) a.0))
          (ap (λ j. maps_with B (mine j) q) a.1 ∙ ap (λ c. c q) (set_same (set_at here.maps (mine o.base) B) (mine l) none_set)))
          (λ a. subst (λ s. Tells (wholes (maps_with B) c.now.id) s (maps_with B (mine j) q))
          (sym (ap (λ b. cond b none_set ((come_back x g l o o.way o.exact).init j) q) a.0)) (agree j y q e leaf a.1)) (eqb_tells j l))) t.2.2.init

      -- of a local that nothing came back from
      off : (B : InitMap) (j : ℕ) (q : Path) (s : InitState) → j ≢ l → IsNotTied l s
          → Tells (wholes (set_at here.maps (mine o.base) B) c.now.id) s (set_at here.maps (mine o.base) B (mine j) q)
          → Tells (wholes (maps_with B) c.now.id) s (maps_with B (mine j) q)
      off B j q s n free told = subst (Tells (wholes (maps_with B) c.now.id) s)
          (ap (λ c. c q) (sym (set_other (set_at here.maps (mine o.base) B) (mine l) none_set (mine j) (λ z. n (ap (λ k. k.local) z)))))
          (tells_change (set_at here.maps (mine o.base) B) c.now.id l none_set s (set_at here.maps (mine o.base) B (mine j) q) free told)

      closed : (B : InitMap) → ((q : Path) → Diverge may.origin.path q → B q ≡ here.maps (mine o.base) q)
          → BackOk p.core.types here.ty c.started here.maps (maps_with B) m (mine l) may.origin may.origin.way
          → Back B → Fine S c (close_copy m (mine l) (m.opened (mine l)))
      closed B beside back agree = subst (λ y. Sound (close_copy m (mine l) y) → Fine S c (close_copy m (mine l) y)) (sym may.opened)
          (λ sound. stands (here_stands c _ number d (here_after (close_copy m (mine l) (Some may.origin)) d (maps_with B)
          (holds_closed p.core.types here.ty c.started here.maps (maps_with B) here.promised m (mine l) may.origin here.holds here.sound may.opened may
          (sym (ap (λ k. k.act) tie.base))
          (set_same (set_at here.maps (mine o.base) B) (mine l) none_set) (λ k n n'. other_maps B k n (λ e. n' (e ∙ sym tie.base)))
          (λ q a. ap (λ k. maps_with B k q) tie.base ∙ ap (λ c. c q) (base_maps B) ∙ beside q a ∙ ap (λ k. here.maps k q) (sym tie.base)) back)
          sound
          (λ j y q e leaf. closed_agrees B agree j y q e leaf)
          (λ k n. other_maps B k (λ z. n (ap (λ k. k.act) z)) (λ z. n (ap (λ k. k.act) z)))
          (λ k n. set_other m.opened (mine l) None k (λ z. n (ap (λ k. k.act) z)))
          (λ j. subst (λ s. Tie p.core.types c.now.fun c.now.id j s (set_at m.opened (mine l) None (mine j))) (ended.status j)
          (⊎_elim
          (λ y. subst (λ s. Tie p.core.types c.now.fun c.now.id j s (set_at m.opened (mine l) None (mine j))) (sym (ap (λ b. cond b Own (g.status j)) y.0))
          (ap (λ j. set_at m.opened (mine l) None (mine j)) y.1 ∙ set_same m.opened (mine l) None))
          (λ y. subst (λ s. Tie p.core.types c.now.fun c.now.id j s (set_at m.opened (mine l) None (mine j))) (sym (ap (λ b. cond b Own (g.status j)) y.0))
          (subst (Tie p.core.types c.now.fun c.now.id j (g.status j)) (sym (set_other m.opened (mine l) None (mine j) (λ z. y.1 (ap (λ k. k.local) z))))
          (here.ties j))) (eqb_tells j l)))
          (λ j lt. let r = here.params j lt in ⊎_elim (λ y. absurd (let z : Param r.0 ≡ Opened o = sym r.1 ∙ ap g.status y.1 ∙ st in cc))
          (λ y. (r.0, sym (ended.status j) ∙ ap (λ b. cond b Own (g.status j)) y.0 ∙ r.1)) (eqb_tells j l))
          (λ j v e q. ⊎_elim (λ y. absurd (let z : Own ≡ Bound v = sym (ap (λ b. cond b Own (g.status j)) y.0) ∙ ended.status j ∙ e in cc))
          (λ y. here.bound j v (sym (ap (λ b. cond b Own (g.status j)) y.0) ∙ ended.status j ∙ e) q) (eqb_tells j l))) left))
          (sound_apply (effect.Close (mine l)) m may here.sound)

      -- what did not come back, or came back into a whole, leaves what was known
      same_agrees : (g' : FlowState) → g'.init ≡ g.init → (j : ℕ) (y : TyId) (q : Path) → local_type c.now.fun j ≡ Some y → IsLeaf p.core.types y q → j ≢ l
          → Tells (wholes (maps_with (here.maps (mine o.base))) c.now.id) (g'.init j q) (maps_with (here.maps (mine o.base)) (mine j) q)
      same_agrees g' same j y q e leaf n = subst (λ init. Tells (wholes (maps_with (here.maps (mine o.base))) c.now.id) (init j q)
          (maps_with (here.maps (mine o.base)) (mine j) q)) (sym same) (off (here.maps (mine o.base)) j q (g.init j q) n (t.3 j y q e leaf)
          (tells_same (wholes here.maps c.now.id) (wholes (set_at here.maps (mine o.base) (here.maps (mine o.base))) c.now.id) (g.init j q)
          (set_at here.maps (mine o.base) (here.maps (mine o.base)) (mine j) q) (λ k. ap (λ c. c []) (same_set (mine k)))
          (subst (Tells (wholes here.maps c.now.id) (g.init j q)) (ap (λ c. c q) (sym (same_set (mine j)))) (here.agrees j y q e leaf))))
        where
          same_set : (k : Key) → set_at here.maps (mine o.base) (here.maps (mine o.base)) k ≡ here.maps k
          same_set k = at_key here.maps (mine o.base) (here.maps (mine o.base)) k (λ c. c ≡ here.maps k) (λ e. ap here.maps (sym e)) (λ n. refl)

      close_by : (w : Way) (b : Bool) → o.way ≡ w → o.exact ≡ b → Fine S c (close_copy m (mine l) (m.opened (mine l)))
      close_by Reads b ew eb = closed (here.maps (mine o.base)) (λ q a. refl)
          (subst (BackOk p.core.types here.ty c.started here.maps (maps_with (here.maps (mine o.base))) m (mine l) may.origin) (sym (tie.way ∙ ew))
          (ap (maps_with (here.maps (mine o.base))) tie.base ∙ base_maps (here.maps (mine o.base)) ∙ ap here.maps (sym tie.base)))
          (same_agrees (come_back x g l o o.way o.exact) (ap (λ w. (come_back x g l o w o.exact).init) ew))
      close_by Writes true ew eb =
          let type : type_at p.core.types (local_type c.now.fun o.base) o.path ≡ Some u =
          (let f = tie.type in subst (LoanType p.core.types c.now.fun l o) eb f) ∙ local in
          let path : may.origin.path ≡ o.path = let f = tie.ends in subst (λ b. EndsAt b o.path may.origin.path) eb f in
          let B : InitMap = with_map o.path (here.maps (mine l)) (here.maps (mine o.base)) in
          closed B (λ q a. with_map_apart o.path (here.maps (mine l)) (here.maps (mine o.base)) q (subst (λ r. Diverge r q) path a))
          (subst (BackOk p.core.types here.ty c.started here.maps (maps_with B) m (mine l) may.origin) (sym (tie.way ∙ ew)) (λ y is st.
          subst (λ k. Sets p.core.types y (here.maps k) (m.value k)
          → Sets p.core.types y (maps_with B k) (put may.origin.path (m.value (mine l)) (m.value k))) (sym tie.base)
          (λ st. subst (λ c. Sets p.core.types y c (put may.origin.path (m.value (mine l)) (m.value (mine o.base)))) (sym (base_maps B))
          (subst (λ r. IsThere r (m.value (mine o.base)) → Sets p.core.types y B (put r (m.value (mine l)) (m.value (mine o.base)))) (sym path)
          (λ there. sets_exact p.core.types y u (here.maps (mine o.base)) (here.maps (mine l)) (m.value (mine o.base)) o.path (m.value (mine l)) st there
          (ap (λ z. type_at p.core.types z o.path) (sym (sym (here.locals o.base) ∙ ap here.ty (sym tie.base) ∙ is)) ∙ type) sets_here) there_base)) st))
          (λ j y q e leaf n. subst (λ w. Tells (wholes (maps_with B) c.now.id) ((come_back x g l o w o.exact).init j q) (maps_with B (mine j) q)) (sym ew)
          (subst (λ b. Tells (wholes (maps_with B) c.now.id) ((come_back x g l o Writes b).init j q) (maps_with B (mine j) q)) (sym eb)
          (back_agrees type j y q e leaf n)))
        where
          back_agrees : type_at p.core.types (local_type c.now.fun o.base) o.path ≡ Some u → (j : ℕ) (y : TyId) (q : Path) → local_type c.now.fun j ≡ Some y
              → IsLeaf p.core.types y q → j ≢ l
              → Tells (wholes (maps_with (with_map o.path (here.maps (mine l)) (here.maps (mine o.base)))) c.now.id)
              ((come_back x g l o Writes true).init j q) (maps_with (with_map o.path (here.maps (mine l)) (here.maps (mine o.base))) (mine j) q)
          back_agrees type j y q e leaf n =
              let B : InitMap = with_map o.path (here.maps (mine l)) (here.maps (mine o.base)) in
              off B j q (set_local g.init o.base (with_map o.path (g.init l) (g.init o.base)) j q) n untied_back
              (tells_set_local here.maps c.now.id o.base g.init (with_map o.path (g.init l) (g.init o.base)) B j q (t.4 j y q e leaf)
              (here.agrees j y q e leaf) (λ z. with_rel (Tells (wholes (set_at here.maps (mine o.base) B) c.now.id)) o.path (g.init l) (here.maps (mine l))
              (g.init o.base) (here.maps (mine o.base)) q
              (λ r is. let inner : IsLeaf p.core.types u r = inside z r is in
              tells_change here.maps c.now.id o.base B (g.init l r) (here.maps (mine l) r) (t.4 l u r local inner) (here.agrees l u r local inner))
              (tells_change here.maps c.now.id o.base B (g.init o.base q) (here.maps (mine o.base) q) (t.4 o.base y q (based z) leaf)
              (here.agrees o.base y q (based z) leaf))))
            where
              based : j ≡ o.base → local_type c.now.fun o.base ≡ Some y
              based z = ap (local_type c.now.fun) (sym z) ∙ e

              inside : j ≡ o.base → (r : Path) → q ≡ o.path ++ r → IsLeaf p.core.types u r
              inside z r is = leaf_back p.core.types y u o.path r (ap (λ z. type_at p.core.types z o.path) (sym (based z)) ∙ type)
                  (subst (IsLeaf p.core.types y) is leaf)

              untied_back : IsNotTied l (set_local g.init o.base (with_map o.path (g.init l) (g.init o.base)) j q)
              untied_back = untied_with x g o.base o.path (g.init l) l (λ y r e leaf. t.3 l u r local (leaf_back p.core.types y u o.path r
                  (ap (λ z. type_at p.core.types z o.path) (sym e) ∙ type) leaf)) t.3 j y q e leaf
      close_by Writes false ew eb =
          let type : (a e : TyId) × (type_at p.core.types (local_type c.now.fun o.base) o.path ≡ Some a) × (form p.core.types a ≡ Arrays e) = let f =
          tie.type in subst (LoanType p.core.types c.now.fun l o) eb f in
          let path : (j : Selector) × (r : Path) × (may.origin.path ≡ o.path ++ j ∷ r) = let f = tie.ends in
          subst (λ b. EndsAt b o.path may.origin.path) eb f in
          let back : IsLocalSet x g l = let f = t.1 in subst (ComesBack x g l Writes) eb (subst (λ w. ComesBack x g l w o.exact) ew f) in
          closed (here.maps (mine o.base)) (λ q a. refl)
          (subst (BackOk p.core.types here.ty c.started here.maps (maps_with (here.maps (mine o.base))) m (mine l) may.origin) (sym (tie.way ∙ ew)) (λ y is st.
          subst (λ k. Sets p.core.types y (here.maps k) (m.value k)
          → Sets p.core.types y (maps_with (here.maps (mine o.base)) k) (put may.origin.path (m.value (mine l)) (m.value k))) (sym tie.base)
          (λ st. subst (λ c. Sets p.core.types y c (put may.origin.path (m.value (mine l)) (m.value (mine o.base))))
          (sym (base_maps (here.maps (mine o.base))))
          (subst (λ r. IsThere r (m.value (mine o.base)) → Sets p.core.types y (here.maps (mine o.base)) (put r (m.value (mine l)) (m.value (mine o.base))))
          (sym path.2)
          (λ there. sets_inner p.core.types y type.0 type.1 (here.maps (mine o.base)) (m.value (mine o.base)) o.path path.0 path.1 (m.value (mine l)) st there
          (ap (λ z. type_at p.core.types z o.path) (sym (sym (here.locals o.base) ∙ ap here.ty (sym tie.base) ∙ is))
          ∙ type.2) type.3 (whole_local l u local back unaway)) there_base)) st))
          (same_agrees (come_back x g l o o.way o.exact) (λ i. (come_back x g l o (ew i) (eb i)).init))

      pub close_fine : Fine S c (close_copy m (mine l) (m.opened (mine l)))
      close_fine = close_by o.way o.exact refl refl

    pub close_set : (l : ℕ) (o : Loan) (u : TyId) (d : FlowState) (y : Option Activation) → local_type c.now.fun l ≡ Some u → g.status l ≡ Opened o
        → Closes x g l o d → Left d → Sure p S (close_of c l y) m
    close_set l o u d (Some b) local st t left = λ calm. over NotOpened refl (λ e. absurd (cc))
    close_set l o u d None local st t left = by (nat_lt l (length (lent_types c.now.fun)))
      where
        by : (b : Bool) → Sure p S (cond b (stop c NotOpened) (Perform (effect.Close (key c l)) (Return c))) m
        by true calm = over NotOpened refl (λ e. absurd (cc))
        by false calm = (tt, close_fine l o u local st d t left calm.0)
