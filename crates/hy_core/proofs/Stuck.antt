-- A core of the right shape never gets stuck: each activation has what is left of its body in shape, each local a value of its
-- type, and who waits can take what it gets.
use Rattle.std.proofs.Common.{◌≡◌, ◌≢◌, ◌⊎◌, inl, inr, ℕ, zero, suc, ◌+◌, ◌<◌, ◌==◌, Bool, true, false, cond, nat_lt, ◌&&◌, List, [], ◌∷◌}
use Rattle.std.proofs.Common.{◌++◌, length, Option, Some, None, slice_get, refl, sym, ap, ◌∙◌, subst, arith}
use Rattle.std.proofs.lemmas.Bool.Decides.{eqb_tells}
use Rattle.hy_base.specs.declared.run.End.TheVariants as end
use Rattle.hy_types.specs.declared.kinds.TyId.{TyId}
use Rattle.hy_types.specs.Types.{declared}
use Rattle.hy_core.specs.Plain.{Place, Done, Then, Stmt, Built, Set, Lend, Close, Move, Copy, Drop, Call, Project, Slide, Yield, If, While, Break, Continue}
use Rattle.hy_core.specs.Plain.{Leave, Fun, Deinit, is_ramp, lent_types, types_of}
use Rattle.hy_core.specs.Values.{Val, Unset, Number, Truth, Tuple, Product, Array, Vals, No, And, nth, get, all_whole, is_blank, Selector, PartAt}
use Rattle.hy_core.specs.Memory.{Key, Spot, whole, below, Writes, Copies, copying, no_copies}
use Rattle.hy_core.specs.Runs as effect
use Rattle.hy_core.specs.Runs.{Interaction, Fetch, Inspect, Perform, Return, interpret, steps}
use Rattle.hy_core.specs.Operators.{same_flags}
use Rattle.hy_core.specs.Control.{Form, Flags, Products, Unknown, form, local_type, Deed, Body, EachOf, Element, Task, Do, Value, PartsOf, Unsets, Work}
use Rattle.hy_core.specs.Control.{Idle, Rest, Loop, Test, Drops, Dest, Opens, Nowhere, Activation, Nap, Halt, Ends, Stuck, NotOpened, Control, Stage}
use Rattle.hy_core.specs.Control.{Deinitialises, GivesUp, Setting, stop, with_work, key, count_one, with_some, turn, with_flag, spot, take, write, read}
use Rattle.hy_core.specs.Control.{Aim, ToRead, ToWrite, ToDrop, sleeper_of, wake}
use Rattle.hy_core.specs.Control as control
use Rattle.hy_core.specs.Statements.{charge, begun, hand_all, move_all, enter, back, yield_to, slide_of, close_of, is_counted, count_if, way}
use Rattle.hy_core.specs.Statements.{aim, deinit_of, is_there, deeds, deeds_from, part_deeds, elements, doing, deinit_body, does_deed, first_deed}
use Rattle.hy_core.specs.Statements.{is_whole_product, clears}
use Rattle.hy_core.specs.Statements.{does_tasks, drop, broken, continued, does, tested, goes_on, interaction_of, interaction, begins_with, start}
use Rattle.hy_core.specs.Meaning.{setting}
use Rattle.hy_core.specs.Typing.{all}
use Rattle.hy_core.specs.Shaped.{Goes, HasForm, IsOf, AreOf, LocalsAre, Leaves, ShapedAll, IsShaped, IsShapedFun, IsMain, IsDeinit, Shaped}
use Rattle.hy_core.specs.Ranges.{IntegersStayInRange}
use Rattle.hy_core.specs.Ready.{ShapedIsNeverStuck}
use Rattle.hy_core.proofs.Keys.{at_key}
use Rattle.hy_core.proofs.Typed.{form_at, form_on, form_append, declared_with, Fits, fits_get, IsTyped, typed_read, typed_store, typed_lend, typed_close}
use Rattle.hy_core.proofs.TypedWalks.{Fine, over, stands, Good, good_next, good_some, good_turn, good_flag, Quits, good_spot, good_read, good_take}
use Rattle.hy_core.proofs.TypedWalks.{good_write}
use Rattle.hy_core.proofs.TypedOperations.{good_built, good_constant, good_charged}
use Rattle.hy_core.proofs.Paths.{WorkGoes, BreakGoes, AgainGoes, head_goes, pass_goes, break_goes, again_goes}
use Rattle.hy_core.proofs.TypedFrames.{Awaits, BaseOf, CallersOk, DeedOk, DestOk, Frame, Goes_on, IsBody, IsOpening, NapsOk, Q, Stands, TaskOk}
use Rattle.hy_core.proofs.TypedFrames.{WorkOk, at, behind, closes, goes, hands, locals_from, moves, new_forms, old_forms, q_count, q_done, q_frame}
use Rattle.hy_core.proofs.TypedFrames.{q_keep, q_local, q_up, typed_new, with_forms}

module _ (p : Setting) where
  module _ (sh : Shaped p.core) where
    begins : (forms : Key → Form) (n : ℕ) (f : Fun) (y : Bool) (c : Control) (m : Copies) (g : Fun) (dest : Dest) → IsShapedFun p.core g
        → Q p forms (suc n) n f y c
        → Awaits p f dest g.result → DestOk (is_ramp g) false dest → ((l : ℕ) → forms (at n l) ≡ form_at p.core.types (local_type g l))
        → IsTyped p.core.types forms (suc n) m → Fine (Stands p) (begun c g dest) m
    begins forms n f y c m g dest shaped q awaits d locals h = stands (record {
      forms = forms;
      count = suc n;
      fun = g;
      base = record {
        none = q.base.none;
        count = ap suc q.base.count;
        same = refl;
        below = let e = q.base.count in omega arith;
        locals = λ l. ap (λ k. forms (at k l)) q.base.count ∙ locals l;
        frames = (q_frame p forms (suc n) n f y c q, awaits, q.base.frames);
        naps = q.base.naps;
      };
      yielded = false;
      on = record { work = (shaped.body, tt); paths = shaped.paths; flows = d };
      typed = h;
    })

    module _ (forms : Key → Form) (n : ℕ) (f : Fun) (y : Bool) where
      same_same : (b : Bool) → same_flags b b ≡ true
      same_same true = refl
      same_same false = refl

      good_enter : (c : Control) (m : Copies) (ramp : Bool) (k : ℕ) (lent : List ℕ) (owned : List Place) (dest : Dest) (g : Fun)
          → slice_get p.core.funs k ≡ Some g → (is_ramp g) ≡ ramp
          → LocalsAre p.core f (lent_types g) lent → AreOf p.core f g.owned owned → Awaits p f dest g.result → DestOk ramp false dest → Q p forms n n f y c
          → IsTyped p.core.types forms n m
          → Good (Stands p) (enter p c ramp (slice_get p.core.funs k) lent owned dest) m
      good_enter c m ramp k lent owned dest g found same_kind are_lent are_owned awaits d q h =
          good_some p (Stands p) c (slice_get p.core.funs k) _ m g found (subst (λ b. Good (Stands p) (cond b inner (stop c Stuck)) m) (sym is_same)
          (moves p new (suc n) f Q' (q_count p new (suc n) n f y) (q_local p new (suc n) n f y) c.started _ started then owned g.owned (length (lent_types g))
          are_owned
          (locals_from p new c.started ((lent_types g) ++ (g.owned ++ g.locals)) g.owned g.locals (length (lent_types g))
          (λ l. ap (λ k. new (at k l)) q.base.count ∙ new_forms p forms n g l) (behind p (lent_types g) (g.owned ++ g.locals)))
          c m (q_keep p forms n f y c new (suc n) (omega arith) (old_forms p forms n g) q) (typed_new p forms n g m h)))
        where
          new : Key → Form
          new = with_forms p forms n g

          Q' : Control → Type 0
          Q' = Q p new (suc n) n f y

          inner : Interaction Control
          inner = move_all p c c.started (length (lent_types g)) owned g.owned
              (λ c. hand_all c c.started zero lent (lent_types g) (turn c c.turns (λ c. Return (begun c g dest))))

          is_same : same_flags (is_ramp g) ramp ≡ true
          is_same = ap (same_flags (is_ramp g)) (sym same_kind) ∙ same_same (is_ramp g)

          started : c.started < suc n
          started = let e : c.started ≡ n = q.base.count in omega arith

          then : (c : Control) (m : Copies) → Q' c → IsTyped p.core.types new (suc n) m
              → Good (Stands p) (hand_all c c.started zero lent (lent_types g) (turn c c.turns (λ c. Return (begun c g dest)))) m
          then c m q h = hands p new (suc n) f Q' (q_count p new (suc n) n f y) (q_local p new (suc n) n f y) c.started _
              (let e : c.started ≡ n = q.base.count in
              omega arith) c q
              (λ m h. good_turn p (Stands p) c c.turns _ m (λ j. begins new n f y (record c { turns = j }) m g dest (sh.funs k g found) q awaits
              (subst (λ r. DestOk r false dest) (sym same_kind) d) (new_forms p forms n g) h))
              lent (lent_types g) zero are_lent
              (locals_from p new c.started ((lent_types g) ++ (g.owned ++ g.locals)) (lent_types g) (g.owned ++ g.locals) zero
              (λ l. ap (λ k. new (at k l)) q.base.count ∙ new_forms p forms n g l) (λ j. let z : 0 + j ≡ j = omega arith in
              ap (slice_get ((lent_types g) ++ (g.owned ++ g.locals))) z)) m h

    -- DEINITIALISING

    module _ (forms : Key → Form) (n : ℕ) where
      all_append : (xs ys : List Deed) → all (DeedOk p forms n) xs → all (DeedOk p forms n) ys → all (DeedOk p forms n) (xs ++ ys)
      all_append [] ys a b = b
      all_append (x ∷ xs) ys a b = (a.0, all_append xs ys a.1 b)

      on_part : (s : Spot) (v : Val) (i : Selector) → Fits p.core.types (form_on p.core.types (forms s.key) s.path) v
          → Fits p.core.types (form_on p.core.types (forms s.key) (s.path ++ i ∷ [])) (get (i ∷ []) v)
      on_part s v i h =
          subst (λ f. Fits p.core.types f (get (i ∷ []) v)) (sym (form_append p.core.types (forms s.key) s.path (i ∷ [])))
          (fits_get p.core.types _ (i ∷ []) v h)

      -- the parts from the one with that number on
      abbrev PartsFit : Spot → ℕ → Vals → Type 0
      PartsFit s i vs = (j : ℕ) → Fits p.core.types (form_on p.core.types (forms s.key) (s.path ++ PartAt (i + j) ∷ [])) (nth j vs)

      parts_first : (s : Spot) (vs : Vals) → ((j : ℕ) → Fits p.core.types (form_on p.core.types (forms s.key) (s.path ++ PartAt j ∷ [])) (nth j vs))
          → PartsFit s zero vs
      parts_first s vs h j = let z : 0 + j ≡ j = omega arith in
          subst (λ k. Fits p.core.types (form_on p.core.types (forms s.key) (s.path ++ PartAt k ∷ [])) (nth j vs)) (sym z) (h j)

      product_ok : (s : Spot) (d : ℕ) (parts : List TyId) → s.key.act < n → form_on p.core.types (forms s.key) s.path ≡ Products d parts
          → declared p.core.types d ≡ Some parts
          → (o : Option ℕ) → deinit_of p.core.deinits d ≡ o → (b : Bool) (ds : List Deed) → all (DeedOk p forms n) ds
          → all (DeedOk p forms n) (cond (is_there o && b) (Body d s ∷ []) ds)
      product_ok s d parts lt e g None q b ds h = h
      product_ok s d parts lt e g (Some k) q true ds h = (record { below = lt; fun = k; found = q; parts = parts; product = e; declared = g }, tt)
      product_ok s d parts lt e g (Some k) q false ds h = h

      mutual
        deeds_ok : (s : Spot) (v : Val) → s.key.act < n → Fits p.core.types (form_on p.core.types (forms s.key) s.path) v
            → all (DeedOk p forms n) (deeds p.core.deinits s v)
        deeds_ok s Unset lt h = tt
        deeds_ok s (Number u k) lt h = tt
        deeds_ok s (Truth b) lt h = tt
        deeds_ok s (Tuple vs) lt h = parts_ok s vs zero lt (parts_first s vs (λ j. on_part s (Tuple vs) (PartAt j) h))
        deeds_ok s (Product d vs) lt h =
            product_ok s d h.0 lt h.1 h.2 (deinit_of p.core.deinits d) refl (all_whole vs) _
            (parts_ok s vs zero lt (parts_first s vs (λ j. on_part s (Product d vs) (PartAt j) h)))
        deeds_ok s (Array vs) lt h = (lt, tt)

        parts_ok : (s : Spot) (vs : Vals) (i : ℕ) → s.key.act < n → PartsFit s i vs → all (DeedOk p forms n) (deeds_from p.core.deinits s i vs)
        parts_ok s No i lt h = tt
        parts_ok s (And v vs) i lt h =
            let z : i + 0 ≡ i = omega arith in
            all_append _ _
            (deeds_ok (below s (PartAt i ∷ [])) v lt (subst (λ k. Fits p.core.types (form_on p.core.types (forms s.key) (s.path ++ PartAt k ∷ [])) v) z
            (h 0)))
            (parts_ok s vs (suc i) lt (λ j. let z : i + suc j ≡ suc i + j = omega arith in
            subst (λ k. Fits p.core.types (form_on p.core.types (forms s.key) (s.path ++ PartAt k ∷ [])) (nth j vs)) z (h (suc j))))

      part_deeds_ok : (s : Spot) (v : Val) → s.key.act < n → Fits p.core.types (form_on p.core.types (forms s.key) s.path) v
          → all (DeedOk p forms n) (part_deeds p.core.deinits s v)
      part_deeds_ok s Unset lt h = tt
      part_deeds_ok s (Number u k) lt h = tt
      part_deeds_ok s (Truth b) lt h = tt
      part_deeds_ok s (Tuple vs) lt h = parts_ok s vs zero lt (parts_first s vs (λ j. on_part s (Tuple vs) (PartAt j) h))
      part_deeds_ok s (Product d vs) lt h = parts_ok s vs zero lt (parts_first s vs (λ j. on_part s (Product d vs) (PartAt j) h))
      part_deeds_ok s (Array vs) lt h = tt

      doing_ok : (ds : List Deed) (ts : List Task) → all (DeedOk p forms n) ds → all (TaskOk p forms n) ts → all (TaskOk p forms n) (doing ds ts)
      doing_ok [] ts a b = b
      doing_ok (d ∷ ds) ts a b = (a.0, doing_ok ds ts a.1 b)

      elements_ok : (s : Spot) (k : ℕ) (ts : List Task) → s.key.act < n → all (TaskOk p forms n) ts → all (TaskOk p forms n) (elements s k ts)
      elements_ok s zero ts lt h = h
      elements_ok s (suc i) ts lt h = elements_ok s i _ lt (lt, h)

    -- the deinitialiser that a product has
    pub deinit_found : (ds : List Deinit) (d k : ℕ) → deinit_of ds d ≡ Some k → all (IsDeinit p.core) ds → (x : Deinit) × (x.product ≡ d) × (x.fun ≡ k)
        × IsDeinit p.core x
    deinit_found [] d k e h = absurd (cc)
    deinit_found (x ∷ xs) d k e h = go (x.product == d) (eqb_tells x.product d) e (λ e. deinit_found xs d k e h.1)
      where
        go : (b : Bool) → ((b ≡ true) × (x.product ≡ d)) ⊎ ((b ≡ false) × (x.product ≢ d)) → cond b (Some x.fun) (deinit_of xs d) ≡ Some k
            → (deinit_of xs d ≡ Some k → (x : Deinit) × (x.product ≡ d) × (x.fun ≡ k) × IsDeinit p.core x) → (x : Deinit) × (x.product ≡ d) × (x.fun ≡ k)
            × IsDeinit p.core x
        go true (inl a) e on = (x, a.1, (let f : x.fun ≡ k = cc in f), h.0)
        go true (inr a) e on = absurd (let f = a.0 in cc)
        go false a e on = on e

    module _ (forms : Key → Form) (n : ℕ) (f : Fun) (y : Bool) where
      good_body : (c : Control) (m : Copies) (d : ℕ) (s : Spot) (k : ℕ) → Q p forms n n f y c → IsBody p forms n d s → deinit_of p.core.deinits d ≡ Some k
          → IsTyped p.core.types forms n m
          → Good (Stands p) (deinit_body c d s (slice_get p.core.funs k)) m
      good_body c m d s k q b found h =
          let x = deinit_found p.core.deinits d k found sh.deinits in
          let is : IsDeinit p.core x.0 = x.3 in
          let g : Fun = is.fun in
          let new = with_forms p forms n g in
          let at_fun : slice_get p.core.funs k ≡ Some g = ap (slice_get p.core.funs) (sym x.2) ∙ is.there in
          let started = q.base.count in
          let lt = b.below in
          let parts_is : is.parts ≡ b.parts =
          (let e : declared p.core.types x.0.product ≡ Some is.parts = declared_with p.core.types is.type x.0.product is.parts is.product in
          let z : Some is.parts ≡ Some b.parts = sym e ∙ ap (declared p.core.types) x.1 ∙ b.declared in cc) in
          let first : new (at n zero) ≡ form p.core.types is.type = new_forms p forms n g zero
          ∙ ap (λ ts. form_at p.core.types (slice_get (ts ++ (g.owned ++ g.locals)) zero)) (ap types_of is.lent) in
          let same : new (at c.started zero) ≡ form_on p.core.types (new s.key) s.path =
          ap (λ k. new (at k zero)) started ∙ first ∙ is.product ∙ (λ i. Products (x.1 i) (parts_is i)) ∙ sym b.product
          ∙ ap (λ f. form_on p.core.types f s.path) (sym (old_forms p forms n g s.key lt)) in
          good_some p (Stands p) c (slice_get p.core.funs k) _ m g at_fun
          (good_turn p (Stands p) (count_one c) c.turns _ m (λ j. by (is_whole_product d (get s.path (m.value s.key))) j g
          (begins new n f y (record c { opened = suc c.opened; turns = j }) _ g Nowhere (sh.funs k g at_fun)
          (q_keep p forms n f y c new (suc n) (omega arith) (old_forms p forms n g) q) tt (subst (λ r. DestOk r false Nowhere) (sym is.ramp) tt)
          (new_forms p forms n g)
          (typed_lend p.core.types new (suc n) m (typed_new p forms n g m h) (at c.started zero) s Writes (omega arith) (omega arith) same))))
        where
          by : (b : Bool) (j : ℕ) (g : Fun)
              → Fine (Stands p) (begun (record c { opened = suc c.opened; turns = j }) g Nowhere) (copying.lend m (at c.started zero) s Writes)
              → Good (Stands p) (cond b (Perform (effect.Lend (at c.started zero) s Writes)
              (Return (begun (record c { opened = suc c.opened; turns = j }) g Nowhere)))
              (Return (record c { opened = suc c.opened; turns = j }))) m
          by true j g begins = begins
          by false j g begins = q_done p forms n f y (record c { opened = suc c.opened; turns = j }) m q h

      -- with what is left after the deinitialisation
      abbrev OnOk : Control → Work → Type 0
      OnOk c w = BaseOf p forms n n f c × Goes_on p forms n f y w c.now.dest

      drops : (c : Control) (w : Work) (ts : List Task) → all (TaskOk p forms n) ts → Goes_on p forms n f y w c.now.dest
          → Goes_on p forms n f y (Drops ts w) c.now.dest
      drops c w ts h on = record { work = (h, on.work); paths = on.paths; flows = on.flows }

      good_deed : (c : Control) (m : Copies) (w : Work) (d : Deed) (ts : List Task) → BaseOf p forms n n f c → Goes_on p forms n f y w c.now.dest
          → DeedOk p forms n d → all (TaskOk p forms n) ts
          → IsTyped p.core.types forms n m → Good (Stands p) (does_deed p c w d ts) m
      good_deed c m w (Body d s) ts base on b h typed =
          good_some p (Stands p) c (deinit_of p.core.deinits d) _ m b.fun b.found
          (good_body (with_work c (Drops (PartsOf s ∷ ts) w)) m d s b.fun (record { base = base; on = drops c w (PartsOf s ∷ ts) (b.below, h) on }) b
          b.found typed)
      good_deed c m w (EachOf k s) ts base on b h typed =
          good_turn p (Stands p) (count_one c) c.turns _ m (λ j. goes p forms n f y (record c { opened = suc c.opened; turns = j }) m (Drops
          (elements s k ts) w)
          base (drops c w (elements s k ts) (elements_ok forms n s k ts b h) on) typed)
      good_deed c m w (Element s) ts base on b h typed =
          good_turn p (Stands p) c c.turns _ m (λ j. goes p forms n f y (record (record c { turns = j }) { opened = suc c.opened }) m (Drops (Value s ∷ ts) w)
          base (drops c w (Value s ∷ ts) (b, h) on) typed)

      good_first : (c : Control) (m : Copies) (w : Work) (ds : List Deed) (ts : List Task) (t : Interaction Control) → BaseOf p forms n n f c
          → Goes_on p forms n f y w c.now.dest → all (DeedOk p forms n) ds → all (TaskOk p forms n) ts
          → IsTyped p.core.types forms n m → Good (Stands p) t m → Good (Stands p) (first_deed p c w ds ts t) m
      good_first c m w [] ts t base on a b typed h = h
      good_first c m w (d ∷ ds) ts t base on a b typed h = good_deed c m w d (doing ds ts) base on a.0 (doing_ok forms n ds ts a.1 b) typed

      good_clears : (b : Bool) (s : Spot) (t : Interaction Control) (m : Copies) → Good (Stands p) t m → Good (Stands p) t (copying.store m s Unset)
          → Good (Stands p) (clears s b t) m
      good_clears true s t m kept cleared = kept
      good_clears false s t m kept cleared = cleared

      good_tasks : (c : Control) (w : Work) (ts : List Task) (m : Copies) → BaseOf p forms n n f c → Goes_on p forms n f y w c.now.dest
          → all (TaskOk p forms n) ts → IsTyped p.core.types forms n m → Good (Stands p) (does_tasks p c w ts) m
      good_tasks c w [] m base on h typed = goes p forms n f y c m w base on typed
      good_tasks c w (Do d ∷ ts) m base on h typed = good_deed c m w d ts base on h.0 h.1 typed
      good_tasks c w (Value s ∷ ts) m base on h typed =
          let v = get s.path (m.value s.key) in
          good_first c m w (deeds p.core.deinits s v) ts _ base on (deeds_ok forms n s v h.0 (typed_read p.core.types forms n m typed s)) h.1 typed
          (good_tasks c w ts m base on h.1 typed)
      good_tasks c w (PartsOf s ∷ ts) m base on h typed =
          let v = get s.path (m.value s.key) in
          good_first c m w (part_deeds p.core.deinits s v) ts _ base on (part_deeds_ok forms n s v h.0 (typed_read p.core.types forms n m typed s)) h.1
          typed (good_tasks c w ts m base on h.1 typed)
      good_tasks c w (Unsets s ∷ ts) m base on h typed = good_clears (is_blank (get s.path (m.value s.key))) s _ m (good_tasks c w ts m base on h.1 typed)
          (good_tasks c w ts _ base on h.1 (typed_store p.core.types forms n m typed s Unset h.0 tt))

    -- STATEMENTS

    nap_found : (forms : Key → Form) (n : ℕ) (xs : List Nap) (k : Key) (b : Activation) → sleeper_of xs k ≡ Some b → NapsOk p forms n xs → Frame p forms n b
        × (b.dest ≡ Nowhere)
    nap_found forms n [] k b e h = absurd (cc)
    nap_found forms n (x ∷ xs) k b e h = at_key (sleeper_of xs) x.key (Some x.act) k (λ o. o ≡ Some b → Frame p forms n b × (b.dest ≡ Nowhere))
        (λ _ e. let z : x.act ≡ b = cc in subst (λ b. Frame p forms n b × (b.dest ≡ Nowhere)) z (h.0, h.1)) (λ _ e. nap_found forms n xs k b e h.2) e

    wake_ok : (forms : Key → Form) (n : ℕ) (xs : List Nap) (k : Key) → NapsOk p forms n xs → NapsOk p forms n (wake xs k)
    wake_ok forms n [] k h = tt
    wake_ok forms n (x ∷ xs) k h =
        at_key {A = List Nap} (λ _. x ∷ wake xs k) k (wake xs k) x.key (NapsOk p forms n) (λ _. wake_ok forms n xs k h.2)
        (λ _. (h.0, h.1, wake_ok forms n xs k h.2))

    -- an activation goes on where it waited
    resumes : (forms : Key → Form) (n : ℕ) (a : Activation) (c : Control) (callers : List Activation) (asleep : List Nap) (x : Frame p forms n a)
        → c.halt ≡ None → c.started ≡ n → CallersOk p forms n a.dest x.fun.result callers → NapsOk p forms n asleep
        → Q p forms n n x.fun x.yielded (record c { now = a; callers = callers; asleep = asleep })
    resumes forms n a c callers asleep x none count frames naps = record {
      base = record { none = none; count = count; same = x.same; below = x.below; locals = x.locals; frames = frames; naps = naps };
      on = record { work = x.work; paths = x.paths; flows = x.dest };
    }

    broken_ok : (forms : Key → Form) (n : ℕ) (f : Fun) (w v : Work) → broken w ≡ Some v → WorkOk p forms n f w → WorkOk p forms n f v
    broken_ok forms n f Idle v e h = absurd (cc)
    broken_ok forms n f (Rest ss w) v e h = broken_ok forms n f w v e h.1
    broken_ok forms n f (Loop head on body w) v e h = let z : w ≡ v = cc in subst (WorkOk p forms n f) z h.3
    broken_ok forms n f (Test head on body w) v e h = absurd (cc)
    broken_ok forms n f (Drops ts w) v e h = absurd (cc)

    continued_ok : (forms : Key → Form) (n : ℕ) (f : Fun) (w v : Work) → continued w ≡ Some v → WorkOk p forms n f w → WorkOk p forms n f v
    continued_ok forms n f Idle v e h = absurd (cc)
    continued_ok forms n f (Rest ss w) v e h = continued_ok forms n f w v e h.1
    continued_ok forms n f (Loop head on body w) v e h = let z : Loop head on body w ≡ v = cc in subst (WorkOk p forms n f) z h
    continued_ok forms n f (Test head on body w) v e h = absurd (cc)
    continued_ok forms n f (Drops ts w) v e h = absurd (cc)

    -- what the activation gives is of the type that is awaited
    abbrev GivesBack : Dest → Val → TyId → Type 0
    GivesBack (control.Result place) v t = Fits p.core.types (form p.core.types t) v
    GivesBack (Opens l) v t = ⊥
    GivesBack Nowhere v t = Unit {0}

    gives_back : (f : Fun) (ramp y : Bool) (dest : Dest) (v : Val) (t : TyId) → DestOk ramp y dest → y ≡ ramp → Leaves p.core f ramp t
        → Fits p.core.types (form p.core.types t) v → GivesBack dest v f.result
    gives_back f false false (control.Result place) v t d e is h = subst (λ t. Fits p.core.types (form p.core.types t) v) is h
    gives_back f false false (Opens l) v t d e is h = absurd d
    gives_back f false false Nowhere v t d e is h = tt
    gives_back f false true dest v t d e is h = absurd d
    gives_back f true false dest v t d e is h = absurd (cc)
    gives_back f true true dest v t d e is h = subst (λ d. GivesBack d v f.result) (sym d) tt

    module _ (forms : Key → Form) (n : ℕ) where
      good_back : (c : Control) (m : Copies) (callers : List Activation) (v : Val) (dest : Dest) (t : TyId) → c.halt ≡ None → c.started ≡ n
          → NapsOk p forms n c.asleep → CallersOk p forms n dest t callers → GivesBack dest v t
          → IsTyped p.core.types forms n m → Good (Stands p) (back p c callers v dest) m
      good_back c m [] v dest t none count naps frames gives h = over (Ends end.Done) refl (λ e. absurd (cc))
      good_back c m (a ∷ rest) v (control.Result place) t none count naps frames gives h =
          let x : Frame p forms n a = frames.0 in
          good_write p (Stands p) forms n x.fun (Q p forms n n x.fun x.yielded) (q_count p forms n n x.fun x.yielded)
          (q_local p forms n n x.fun x.yielded) place t v
          Return frames.1 gives (q_done p forms n x.fun x.yielded)
          (record c { now = a; callers = rest }) m (resumes forms n a c rest c.asleep x none count frames.2 naps) h
      good_back c m (a ∷ rest) v (Opens l) t none count naps frames gives h = absurd gives
      good_back c m (a ∷ rest) v Nowhere t none count naps frames gives h =
          let x : Frame p forms n a = frames.0 in
          q_done p forms n x.fun x.yielded (record c { now = a; callers = rest }) m (resumes forms n a c rest c.asleep x none count frames.2 naps) h

      good_yield : (c : Control) (m : Copies) (f : Fun) (of : ℕ) (callers : List Activation) (dest : Dest) → BaseOf p forms n n f c
          → WorkOk p forms n f c.now.work → (is_ramp f) ≡ true → WorkGoes (is_ramp f) c.now.work true
          → local_type f of ≡ Some f.result → IsOpening dest → CallersOk p forms n dest f.result callers → IsTyped p.core.types forms n m
          → Good (Stands p) (yield_to c of callers dest) m
      good_yield c m f of [] (control.Result place) base work ramp paths is opens frames h = absurd opens
      good_yield c m f of [] (Opens l) base work ramp paths is opens frames h = absurd frames
      good_yield c m f of [] Nowhere base work ramp paths is opens frames h = absurd opens
      good_yield c m f of (a ∷ rest) (control.Result place) base work ramp paths is opens frames h = absurd opens
      good_yield c m f of (a ∷ rest) Nowhere base work ramp paths is opens frames h = absurd opens
      good_yield c m f of (a ∷ rest) (Opens l) base work ramp paths is opens frames h =
          let x : Frame p forms n a = frames.0 in
          let k : Key = at a.id l in
          let nap : Nap = record { key = k; act = record (c.now) { dest = Nowhere } } in
          let frame : Frame p forms n (record (c.now) { dest = Nowhere }) = record {
            fun = f;
            same = base.same;
            below = base.below;
            locals = base.locals;
            work = work;
            yielded = true;
            paths = paths;
            dest = subst (λ r. DestOk r true Nowhere) (sym ramp) refl;
          } in
          q_done p forms n x.fun x.yielded (record c { now = a; callers = rest; asleep = nap ∷ c.asleep }) _
          (resumes forms n a c rest (nap ∷ c.asleep) x base.none base.count frames.2 (frame, refl, base.naps))
          (typed_lend p.core.types forms n m h k (whole (key c of)) _ x.below base.below (x.locals l ∙ ap (form_at p.core.types) frames.1
          ∙ sym (base.locals of ∙ ap (form_at p.core.types) is)))

    module _ (forms : Key → Form) (n : ℕ) (f : Fun) (y : Bool) where
      abbrev Now : Control → Type 0
      Now c = Q p forms n n f y c

      abbrev Types : Copies → Type 0
      Types m = IsTyped p.core.types forms n m

      abbrev Always_good : (Control → Interaction Control) → Type 0
      Always_good go = (c : Control) (m : Copies) → Now c → Types m → Good (Stands p) (go c) m

      good_slide : (c : Control) (m : Copies) (k : Key) (o : Option Activation) → Now c
          → ((b : Activation) → o ≡ Some b → Frame p forms n b × (b.dest ≡ Nowhere)) → Types m → Good (Stands p) (slide_of c k o) m
      good_slide c m k None q nap h = over NotOpened refl (λ e. absurd (cc))
      good_slide c m k (Some b) q nap h =
          let at_nap = nap b refl in
          let x : Frame p forms n b = at_nap.0 in
          q_done p forms n x.fun x.yielded (record c { now = b; callers = c.now ∷ c.callers; asleep = wake c.asleep k }) _
          (resumes forms n b c (c.now ∷ c.callers) (wake c.asleep k) x q.base.none q.base.count
          (q_frame p forms n n f y c q, subst (λ d. Awaits p f d x.fun.result) (sym at_nap.1) tt, q.base.frames) (wake_ok forms n c.asleep k q.base.naps))
          (typed_close p.core.types forms n m h k)

      good_close : (c : Control) (m : Copies) (l : ℕ) (o : Option Activation) → Now c → Types m → Good (Stands p) (close_of c l o) m
      good_close c m l (Some b) q h = over NotOpened refl (λ e. absurd (cc))
      good_close c m l None q h = go (nat_lt l (length (lent_types c.now.fun)))
        where
          go : (b : Bool) → Good (Stands p) (cond b (stop c NotOpened) (Perform (effect.Close (key c l)) (Return c))) m
          go true = over NotOpened refl (λ e. absurd (cc))
          go false = q_done p forms n f y c _ q (typed_close p.core.types forms n m h (key c l))

      good_lend : (to : ℕ) (place : Place) (w : Bool) (t : TyId) → local_type f to ≡ Some t → IsOf p.core f t place
          → Always_good (λ c. does p c (Lend to place w))
      good_lend to place w t local is =
          good_spot p (Stands p) forms n f Now (q_count p forms n n f y) (q_local p forms n n f y) (aim w) place t _ (quits w) is (λ c m s q h lt e.
          last (is_counted place.steps) c _ q (typed_lend p.core.types forms n m h (key c to) s (way w) q.base.below lt (q.base.locals to
          ∙ ap (form_at p.core.types) local ∙ sym e)))
        where
          quits : (w : Bool) → Quits p (Stands p) forms n f Now (q_count p forms n n f y) (q_local p forms n n f y) (aim w)
          quits true = tt
          quits false = tt

          last : (b : Bool) (c : Control) (m : Copies) → Now c → Types m → Fine (Stands p) (count_if b c) m
          last true c m q h = q_done p forms n f y (count_one c) m q h
          last false c m q h = q_done p forms n f y c m q h

      good_drop : (stage : Stage) (place : Place) (t : TyId) → IsOf p.core f t place → Always_good (λ c. drop p stage c place)
      good_drop Deinitialises place t is =
          good_spot p (Stands p) forms n f Now (q_count p forms n n f y) (q_local p forms n n f y) ToDrop place t _ (q_done p forms n f y) is
          (λ c m s q h lt e.
          goes p forms n f y c m (Drops (Value s ∷ Unsets s ∷ []) c.now.work) q.base (record {
            work = ((lt, (lt, tt)), q.on.work);
            paths = q.on.paths;
            flows =
                q.on.flows;
          }) h)
      good_drop GivesUp place t is =
          good_take p (Stands p) forms n f Now (q_count p forms n n f y) (q_local p forms n n f y) effect.Discarded place t _ is
          (λ c m v q h fits. q_done p forms n f y c m q h)

      good_leave : (c : Control) (m : Copies) (from : Place) (t : TyId) → IsOf p.core f t from → Leaves p.core f (is_ramp f) t → y ≡ (is_ramp f)
          → BaseOf p forms n n f c → DestOk (is_ramp f) y c.now.dest → Types m → Good (Stands p) (does p c (Leave from)) m
      good_leave c m from t is leaves e base d h =
          let k = length (lent_types c.now.fun) in
          good_take p (Stands p) forms n f (λ c. BaseOf p forms n n f c × DestOk (is_ramp f) y c.now.dest) (λ c q. q) (λ c q. let b = q.0 in
          record { fun = b.same; below = b.below; locals = b.locals }) effect.Moved from t _ is
          (λ c m v q h fits. closes p forms n c (back p c c.callers v c.now.dest)
          (λ m h. good_back forms n c m c.callers v c.now.dest f.result q.0.none q.0.count q.0.naps q.0.frames
          (gives_back f (is_ramp f) y c.now.dest v t q.1 e leaves fits) h) k m h)
          c m (base, d) h

      good_if : (c : Control) (m : Copies) (on : ℕ) (go : Bool → Interaction Control) → BaseOf p forms n n f c → HasForm p.core f on Flags → Types m
          → ((b : Bool) → Good (Stands p) (go b) m) → Good (Stands p) (with_flag c (m.value (key c on)) go) m
      good_if c m on go base is h next = good_flag p (Stands p) p.core.types (forms (key c on)) c (m.value (key c on)) go m (h.value (key c on))
          (base.locals on
          ∙ ap (form_at p.core.types) is.1 ∙ is.2) next

      -- c has what is left after the statement
      good_does : (c : Control) (m : Copies) (s : Stmt) → BaseOf p forms n n f c → WorkOk p forms n f c.now.work → DestOk (is_ramp f) y c.now.dest
          → IsShaped p.core f s
          → Goes (is_ramp f) s y (WorkGoes (is_ramp f) c.now.work) (BreakGoes (is_ramp f) c.now.work) (AgainGoes (is_ramp f) c.now.work) → Types m
          → Good (Stands p) (does p c s) m
      good_does c m (Built o to from spans) base work d is paths h =
          good_built p (Stands p) forms n f Now (q_up p forms n n f y) (q_local p forms n n f y) (q_done p forms n f y) o to from spans is c m
          (record { base = base; on = record { work = work; paths = paths; flows = d } }) h
      good_does c m (Set to k) base work d is paths h =
          let ok : IsOf p.core f is.0 to = is.1 in
          good_constant p (Stands p) forms n f Now (q_up p forms n n f y) (q_local p forms n n f y) (q_done p forms n f y) to is.0 k ok is.2 c m
          (record { base = base; on = record { work = work; paths = paths; flows = d } }) h
      good_does c m (Lend to place w) base work d is paths h =
          let ok : IsOf p.core f is.0 place = is.2 in
          good_lend to place w is.0 is.1 ok c m (record { base = base; on = record { work = work; paths = paths; flows = d } }) h
      good_does c m (Close l) base work d is paths h =
          good_close c m l (sleeper_of c.asleep (key c l)) (record { base = base; on = record { work = work; paths = paths; flows = d } }) h
      good_does c m (Move to from) base work d is paths h =
          let from_ok : IsOf p.core f is.0 from = is.2 in
          good_take p (Stands p) forms n f Now (q_count p forms n n f y) (q_local p forms n n f y) effect.Moved from is.0 _ from_ok (λ c m v q h fits.
          good_write p (Stands p) forms n f Now (q_count p forms n n f y) (q_local p forms n n f y) to is.0 v Return is.1 fits
          (q_done p forms n f y) c m q h) c m
          (record { base = base; on = record { work = work; paths = paths; flows = d } }) h
      good_does c m (Copy to from) base work d is paths h =
          let from_ok : IsOf p.core f is.0 from = is.2 in
          good_read p (Stands p) forms n f Now (q_count p forms n n f y) (q_local p forms n n f y) from is.0 _ from_ok (λ c m v q h fits whole.
          good_charged p (Stands p) forms n f Now (q_up p forms n n f y) (q_local p forms n n f y) (q_done p forms n f y) (charge v c.turns c.opened) _
          (good_write p (Stands p) forms n f Now (q_count p forms n n f y) (q_local p forms n n f y) to is.0 v Return is.1 fits
          (q_done p forms n f y)) c m q h) c m
          (record { base = base; on = record { work = work; paths = paths; flows = d } }) h
      good_does c m (Drop place) base work d is paths h = let ok : IsOf p.core f is.0 place = is.1 in
          good_drop p.stage place is.0 ok c m (record { base = base; on = record { work = work; paths = paths; flows = d } }) h
      good_does c m (Call k lent owned to) base work d is paths h =
          good_enter forms n f y c m false k lent owned (control.Result to) is.0 is.1 is.2 is.3 is.4 is.5 tt
          (record { base = base; on = record { work = work; paths = paths; flows = d } }) h
      good_does c m (Project k lent owned to) base work d is paths h =
          good_enter forms n f y c m true k lent owned (Opens to) is.0 is.1 is.2 is.3 is.4 is.5 tt
          (record { base = base; on = record { work = work; paths = paths; flows = d } }) h
      good_does c m (Slide l) base work d is paths h =
          good_slide c m (key c l) (sleeper_of c.asleep (key c l)) (record { base = base; on = record { work = work; paths = paths; flows = d } })
          (λ b e. nap_found forms n c.asleep (key c l) b e base.naps) h
      good_does c m (Yield l) base work d is paths h =
          good_yield forms n c m f l c.callers c.now.dest base work paths.0 paths.2 is
          (subst (λ r. DestOk r false c.now.dest) paths.0 (subst (λ z. DestOk (is_ramp f) z c.now.dest) paths.1 d)) base.frames h
      good_does c m (If on a b) base work d is paths h = good_if c m on _ base is.0 h branch
        where
          branch : (x : Bool) → Fine (Stands p) (with_work c (Rest (cond x a b) c.now.work)) m
          branch true = goes p forms n f y c m (Rest a c.now.work) base (record { work = (is.1, work); paths = paths.0; flows = d }) h
          branch false = goes p forms n f y c m (Rest b c.now.work) base (record { work = (is.2, work); paths = paths.1; flows = d }) h
      good_does c m (While head on body) base work d is paths h =
          goes p forms n f y c m (Loop head on body c.now.work) base (record { work = (is.0, is.1, is.2, work); paths = paths; flows = d }) h
      good_does c m Break base work d is paths h =
          let v = break_goes (is_ramp f) c.now.work y paths in
          good_some p (Stands p) c (broken c.now.work) _ m v.0 v.1
          (goes p forms n f y c m v.0 base (record { work = broken_ok forms n f c.now.work v.0 v.1 work; paths = v.2; flows = d }) h)
      good_does c m Continue base work d is paths h =
          let v = again_goes (is_ramp f) c.now.work y paths in
          good_some p (Stands p) c (continued c.now.work) _ m v.0 v.1
          (goes p forms n f y c m v.0 base (record { work = continued_ok forms n f c.now.work v.0 v.1 work; paths = v.2; flows = d }) h)
      good_does c m (Leave from) base work d is paths h = let ok : IsOf p.core f is.0 from = is.1 in good_leave c m from is.0 ok is.2 paths base d h

      good_goes : (c : Control) (m : Copies) (w : Work) → BaseOf p forms n n f c → Goes_on p forms n f y w c.now.dest → Types m → Good (Stands p)
          (goes_on p c w) m
      good_goes c m Idle base on h = absurd on.paths
      good_goes c m (Rest Done w) base on h = goes p forms n f y c m w base (record { work = on.work.1; paths = on.paths; flows = on.flows }) h
      good_goes c m (Rest (Then s ss) w) base on h =
          let work : (IsShaped p.core f s × ShapedAll p.core f ss) × WorkOk p forms n f w = on.work in
          good_does (with_work c (Rest ss w)) m s base (work.0.1, work.1) on.flows work.0.0 on.paths h
      good_goes c m (Loop head on body w) base x h =
          goes p forms n f y c m (Rest head (Test head on body w)) base (record {
            work = (x.work.0, x.work);
            paths =
                head_goes (is_ramp f) head on body w y x.paths;
            flows = x.flows;
          }) h
      good_goes c m (Test head on body w) base x h = good_if c m on _ base x.work.1 h branch
        where
          branch : (b : Bool) → Good (Stands p) (tested c head on body w b) m
          branch false = goes p forms n f y c m w base (record { work = x.work.3; paths = x.paths.1; flows = x.flows }) h
          branch true = good_turn p (Stands p) c c.turns _ m (λ j.
              goes p forms n f y (record c { turns = j }) m (Rest body (Loop head on body w)) base
              (record { work = (x.work.2, x.work); paths = pass_goes (is_ramp f) head on body w y x.paths; flows = x.flows }) h)
      good_goes c m (Drops ts w) base on h = good_tasks forms n f y c w ts m base (record { work = on.work.1; paths = on.paths; flows = on.flows }) on.work.0 h

    -- RUNS

    good_step : (c : Control) (m : Copies) → Stands p c m
        → Fine (Stands p) (interpret copying (interaction p c) m).control (interpret copying (interaction p c) m).memory
    good_step c m x =
        subst (λ (o : Option Halt). Fine (Stands p) (interpret copying (interaction_of p c o) m).control (interpret copying (interaction_of p c o) m).memory)
        (sym x.base.none)
        (good_next (Stands p) (goes_on p c c.now.work) m (good_goes x.forms x.count x.fun x.yielded c m c.now.work x.base x.on x.typed))

    pub halted : (k : ℕ) (c : Control) (m : Copies) (h : Halt) → c.halt ≡ Some h → (steps copying (interaction p) k c m).control.halt ≡ Some h
    halted zero c m h e = e
    halted (suc k) c m h e =
        subst (λ (o : Option Halt). (steps copying (interaction p) k (interpret copying (interaction_of p c o) m).control
        (interpret copying (interaction_of p c o) m).memory).control.halt ≡ Some h) (sym e) (halted k c m h e)

    halts_so : (k : ℕ) (c : Control) (m : Copies) (h : Halt) → h ≢ Stuck → c.halt ≡ Some h → (steps copying (interaction p) k c m).control.halt ≢ Some Stuck
    halts_so k c m h n e q = let z : Some h ≡ Some Stuck = sym (halted k c m h e) ∙ q in n (let f : h ≡ Stuck = cc in f)

    never : (k : ℕ) (c : Control) (m : Copies) → Stands p c m → (steps copying (interaction p) k c m).control.halt ≢ Some Stuck
    never zero c m x e = let z : None ≡ Some Stuck = sym x.base.none ∙ e in absurd (cc)
    never (suc k) c m x e = go _ _ (good_step c m x) (λ c m x. never k c m x) e
      where
        go : (c : Control) (m : Copies) → Fine (Stands p) c m → ((c : Control) (m : Copies) → Stands p c m
            → (steps copying (interaction p) k c m).control.halt ≢ Some Stuck) → (steps copying (interaction p) k c m).control.halt ≢ Some Stuck
        go c m (over h e n) on = halts_so k c m h n e
        go c m (stands x) on = on c m x

    -- what stands at a place in a run that goes on has a type
    abbrev HasForm_at : ℕ → Control → Copies → Type 0
    HasForm_at k c m = let x = steps copying (interaction p) k c m in
        x.control.halt ≡ None → (s : Spot) → (f : Form) × Fits p.core.types f (get s.path (x.memory.value s.key))

    typed_at : (k : ℕ) (c : Control) (m : Copies) → Stands p c m → HasForm_at k c m
    typed_at zero c m x = λ none s. (form_on p.core.types (x.forms s.key) s.path, typed_read p.core.types x.forms x.count m x.typed s)
    typed_at (suc k) c m x = go _ _ (good_step c m x) (λ c m x. typed_at k c m x)
      where
        go : (c : Control) (m : Copies) → Fine (Stands p) c m → ((c : Control) (m : Copies) → Stands p c m → HasForm_at k c m) → HasForm_at k c m
        go c m (over h e n) on = λ none s. absurd (let z : Some h ≡ None = sym (halted k c m h e) ∙ none in cc)
        go c m (stands x) on = on c m x

    first : (f : Fun) (input : List ℕ) (turns : ℕ) → slice_get p.core.funs 0 ≡ Some f → IsMain p.core f
        → Stands p (begins_with (Some f) input turns None) no_copies
    first f input turns e is =
        let shaped = sh.funs 0 f e in
        let new = with_forms p (λ _. Unknown) 0 f in
        record {
          forms = new;
          count = 1;
          fun = f;
          base = record { none = refl; count = refl; same = refl; below = omega arith; locals = new_forms p (λ _. Unknown) 0 f; frames = tt; naps = tt };
          yielded = false;
          on = record { work = (shaped.body, tt); paths = shaped.paths; flows = subst (λ r. DestOk r false Nowhere) (sym is.ramp) tt };
          typed = record { value = λ k. tt; origin = λ k o e. absurd (cc); fresh = λ k le. refl };
        }

    from_start : (k : ℕ) (input : List ℕ) (turns : ℕ) → (steps copying (interaction p) k (start p.core input turns) no_copies).control.halt ≢ Some Stuck
    from_start k input zero =
        let main = sh.main in
        subst (λ (o : Option Fun). (steps copying (interaction p) k (begins_with o input zero (Some (Ends end.Spent))) no_copies).control.halt ≢ Some Stuck)
        (sym main.1)
        (halts_so k (begins_with (Some main.0) input zero (Some (Ends end.Spent))) no_copies (Ends end.Spent) (λ e. absurd (cc)) refl)
    from_start k input (suc n) =
        let main = sh.main in
        subst (λ (o : Option Fun). (steps copying (interaction p) k (begins_with o input n None) no_copies).control.halt ≢ Some Stuck) (sym main.1)
        (never k (begins_with (Some main.0) input n None) no_copies (first main.0 input n main.1 main.2))

    typed_from_start : (k : ℕ) (input : List ℕ) (turns : ℕ) → HasForm_at k (start p.core input turns) no_copies
    typed_from_start k input zero =
        let main = sh.main in
        subst (λ (o : Option Fun). HasForm_at k (begins_with o input zero (Some (Ends end.Spent))) no_copies) (sym main.1)
        (λ none s. absurd (let z : Some (Ends end.Spent) ≡ None =
        sym (halted k (begins_with (Some main.0) input zero (Some (Ends end.Spent))) no_copies (Ends end.Spent) refl) ∙ none in cc))
    typed_from_start k input (suc n) =
        let main = sh.main in
        subst (λ (o : Option Fun). HasForm_at k (begins_with o input n None) no_copies) (sym main.1)
        (typed_at k (begins_with (Some main.0) input n None) no_copies (first main.0 input n main.1 main.2))

pub stay_in_range : IntegersStayInRange
stay_in_range r sh k none l q t n e =
    let x = typed_from_start (setting r) sh k r.input r.turns none (record { key = l; path = q }) in
    let fits : Fits r.core.types x.0 (Number t n) = subst (Fits r.core.types x.0) e x.1 in
    fits.1

pub never_stuck : ShapedIsNeverStuck
never_stuck r sh k = from_start (setting r) sh k r.input r.turns
