-- Deinitialisations of a core that has a flow are calm.
use Rattle.std.proofs.Common.{◌≡◌, ◌≢◌, inl, inr, ⊎_elim, ℕ, zero, suc, ◌<◌, ◌≤◌, Bool, true, false, cond, List, [], ◌∷◌, ◌++◌, length}
use Rattle.std.proofs.Common.{Some, slice_get, refl, sym, ap, ◌∙◌, subst, append-nil, arith}
use Rattle.std.proofs.lemmas.Bool.Decides.{eqb_tells}
use Rattle.hy_types.specs.declared.kinds.TyId.{TyId}
use Rattle.hy_core.specs.Plain.{Fun, ByInout, Deinit, lent_types, types_of}
use Rattle.hy_core.specs.Values.{Val, Unset, Number, Truth, Tuple, Product, Array, Vals, No, And, Selector, PartAt, ElementAt, Path, many, nth, part, get}
use Rattle.hy_core.specs.Values.{Apart, shape, Has, IsThere, is_blank}
use Rattle.hy_core.specs.Memory.{Key, Spot, below, set_at, Writes, Origin}
use Rattle.hy_core.specs.Runs as effect
use Rattle.hy_core.specs.Runs.{Interaction, Fetch, Inspect, Perform, Return, apply}
use Rattle.hy_core.specs.Calm.{MayRead, MayWrite, MayLend}
use Rattle.hy_core.specs.Control.{Deed, Body, EachOf, Element, Task, Do, Value, PartsOf, Unsets, Work, Drops, Nowhere, Control, Setting, with_work, sleeper_of}
use Rattle.hy_core.specs.Statements.{begun, deinit_of, deeds, deeds_from, part_deeds, elements, doing, is_whole_product, does_deed}
use Rattle.hy_core.specs.Statements.{first_deed, clears, does_tasks}
use Rattle.hy_core.specs.Typing.{all}
use Rattle.hy_core.specs.Shaped.{IsDeinit, Shaped}
use Rattle.hy_core.specs.Flow.{Holder, InLocal, InSubscript, FlowState, Signature, signature_of, terms_at, MayWriteAt, BodyFlows, context_of}
use Rattle.hy_core.proofs.Keys.{set_same, set_other, at_key}
use Rattle.hy_core.proofs.Values.{get_unset}
use Rattle.hy_core.proofs.OpenPlaces.{Sound}
use Rattle.hy_core.proofs.CalmWalks.{Slots, at, mem, stands, Good, GoodAt, Begins, View, good_tell, good_some, good_turn, may_read, may_write, read_at}
use Rattle.hy_core.proofs.CalmWalks.{apart_more}
use Rattle.hy_core.proofs.CalmFrames.{SpotFree, DeedOn, TaskOn, WorkFlows, Passes, passes_self, Runs, Waits, Half, Fits, listed_map, context, waits}
use Rattle.hy_core.proofs.CalmFrames.{Others, Stands, some_is, view}
use Rattle.hy_core.proofs.CalmSteps.{Like, like_count, like_id}
use Rattle.hy_core.proofs.CalmStatements.{fine_work}
use Rattle.hy_core.proofs.CalmRuns.{Handing, Lent, none_new, now_fresh, are_lent, waiting_half, begins_so}
use Rattle.hy_core.proofs.Stuck.{deinit_found}

-- WHAT IS THERE

has_nth : (k : ℕ) (vs : Vals) → nth k vs ≢ Unset → k < many vs
has_nth k No n = absurd (n refl)
has_nth zero (And v vs) n = omega arith
has_nth (suc k) (And v vs) n = let lt = has_nth k vs n in omega arith

-- what is set somewhere is there
has_part : (s : Selector) (u : Val) → part s u ≢ Unset → Has s (shape u)
has_part s Unset n = absurd (n refl)
has_part s (Number t k) n = absurd (n refl)
has_part s (Truth b) n = absurd (n refl)
has_part (PartAt k) (Tuple vs) n = has_nth k vs n
has_part (ElementAt k) (Tuple vs) n = absurd (n refl)
has_part (PartAt k) (Product d vs) n = has_nth k vs n
has_part (ElementAt k) (Product d vs) n = absurd (n refl)
has_part (PartAt k) (Array vs) n = absurd (n refl)
has_part (ElementAt k) (Array vs) n = has_nth k vs n

pub there_set : (p : Path) (u : Val) → get p u ≢ Unset → IsThere p u
there_set [] u n = tt
there_set (s ∷ p) u n = (has_part s u (λ e. n (ap (get p) e ∙ get_unset p)), there_set p (part s u) n)

pub set_product : (d : ℕ) (v : Val) → is_whole_product d v ≡ true → v ≢ Unset
set_product d v e n = let z : false ≡ true = ap (is_whole_product d) (sym n) ∙ e in absurd (cc)

pub set_blank : (v : Val) → is_blank v ≡ false → v ≢ Unset
set_blank v e n = let z : true ≡ false = ap is_blank (sym n) ∙ e in absurd (cc)

-- WHAT IS LEFT OF A DEINITIALISATION

pub may_more : (g : FlowState) (l : ℕ) (q u : Path) → Begins q u → MayWriteAt g l q → MayWriteAt g l u
may_more g l q u b may = record {
  writable = may.writable;
  free = λ e i x. let f = may.free e i x in (f.0, subst (Apart e.path) (sym b.1) (apart_more e.path q b.0 f.1));
}

module _ (P : Spot → Type 0) (down : (s : Spot) (i : Selector) → P s → P (below s (i ∷ []))) (deinits : List Deinit) where
  all_append : (xs ys : List Deed) → all (DeedOn P) xs → all (DeedOn P) ys → all (DeedOn P) (xs ++ ys)
  all_append [] ys a b = b
  all_append (x ∷ xs) ys a b = (a.0, all_append xs ys a.1 b)

  product_on : (b : Bool) (d : ℕ) (s : Spot) (ds : List Deed) → P s → all (DeedOn P) ds → all (DeedOn P) (cond b (Body d s ∷ []) ds)
  product_on true d s ds on h = (on, tt)
  product_on false d s ds on h = h

  mutual
    pub deeds_on : (s : Spot) (v : Val) → P s → all (DeedOn P) (deeds deinits s v)
    deeds_on s Unset on = tt
    deeds_on s (Number t n) on = tt
    deeds_on s (Truth b) on = tt
    deeds_on s (Tuple vs) on = from_on s zero vs on
    deeds_on s (Product d vs) on = product_on _ d s _ on (from_on s zero vs on)
    deeds_on s (Array vs) on = (on, tt)

    from_on : (s : Spot) (i : ℕ) (vs : Vals) → P s → all (DeedOn P) (deeds_from deinits s i vs)
    from_on s i No on = tt
    from_on s i (And v vs) on = all_append _ _ (deeds_on (below s (PartAt i ∷ [])) v (down s (PartAt i) on)) (from_on s (suc i) vs on)

  pub part_deeds_on : (s : Spot) (v : Val) → P s → all (DeedOn P) (part_deeds deinits s v)
  part_deeds_on s Unset on = tt
  part_deeds_on s (Number t n) on = tt
  part_deeds_on s (Truth b) on = tt
  part_deeds_on s (Tuple vs) on = from_on s zero vs on
  part_deeds_on s (Product d vs) on = from_on s zero vs on
  part_deeds_on s (Array vs) on = tt

doing_on : (P : Spot → Type 0) (ds : List Deed) (ts : List Task) → all (DeedOn P) ds → all (TaskOn P) ts → all (TaskOn P) (doing ds ts)
doing_on P [] ts a b = b
doing_on P (d ∷ ds) ts a b = (a.0, doing_on P ds ts a.1 b)

elements_on : (P : Spot → Type 0) (down : (s : Spot) (i : Selector) → P s → P (below s (i ∷ []))) (s : Spot) (k : ℕ) (ts : List Task) → P s → all (TaskOn P) ts
    → all (TaskOn P) (elements s k ts)
elements_on P down s zero ts on h = h
elements_on P down s (suc i) ts on h = elements_on P down s i _ on (down s (ElementAt i) on, h)

free_below : (id : ℕ) (g : FlowState) (s : Spot) (i : Selector) → SpotFree id g s → SpotFree id g (below s (i ∷ []))
free_below id g s i free = (free.0, may_more g s.key.local s.path (s.path ++ i ∷ []) (i ∷ [], refl) free.1)

-- STEPS of it

module _ (p : Setting) (signatures : ℕ → Signature) (signs : (n : ℕ) → signatures n ≡ signature_of (slice_get p.core.funs n)) (sh : Shaped p.core)
    (each : (n : ℕ) (f : Fun) → slice_get p.core.funs n ≡ Some f → BodyFlows (context_of p.stage p.core signatures n f))
    (c : Control) (slots : Slots) (number : ℕ) (g : FlowState)
    (half : Half slots (sleeper_of c.asleep) Runs c.now.id (length (lent_types c.now.fun)) g)
    (others : Others p signatures slots (sleeper_of c.asleep) c.now.id c.started (waits p signatures c.now number) c.callers) where
  abbrev TS : Control → Slots → Type 0
  TS = Stands p signatures c.halt

  now_view : View slots c.now.id g
  now_view = view slots (sleeper_of c.asleep) c.now.id (length (lent_types c.now.fun)) g half

  -- what follows the deinitialisation
  abbrev After : Work → Type 0
  After w = (d : FlowState) × Passes g d × WorkFlows (context p signatures number c.now.fun) c.now.id w d

  own_key : (s : Spot) → SpotFree c.now.id g s → at c.now.id s.key.local ≡ s.key
  own_key s free = ap (λ a. at a s.key.local) (sym free.0)

  spot_read : (s : Spot) (vals : Key → Val) → SpotFree c.now.id g s → MayRead (mem slots vals) s
  spot_read s vals free = subst (λ k. MayRead (mem slots vals) (record { key = k; path = s.path })) (own_key s free)
      (may_read p TS slots g c.now.id now_view (Like c) (like_count c) (like_id c) vals s.key.local s.path s.path (read_at g s.key.local s.path free.1)
      ([], sym (append-nil s.path)))

  spot_write : (s : Spot) (vals : Key → Val) → SpotFree c.now.id g s → IsThere s.path (vals s.key) → MayWrite (mem slots vals) s
  spot_write s vals free = subst (λ k. IsThere s.path (vals k) → MayWrite (mem slots vals) (record { key = k; path = s.path })) (own_key s free)
      (λ there. may_write p TS slots g c.now.id now_view (Like c) (like_count c) (like_id c) vals s.key.local s.path s.path free.1
      ([], sym (append-nil s.path)) there)

  -- the body of a deinitialiser begins
  module _ (w : Work) (d : ℕ) (s : Spot) (ts : List Task) (free : SpotFree c.now.id g s)
      (tasks : all (TaskOn (SpotFree c.now.id g)) ts) (after : After w) (n : ℕ)
      (found : deinit_of p.core.deinits d ≡ Some n) (f : Fun) (is_fun : slice_get p.core.funs n ≡ Some f) where
    abbrev K : Control
    K = with_work c (Drops (PartsOf s ∷ ts) w)

    abbrev new : Origin
    new = record { base = s.key; path = s.path; way = Writes }

    abbrev new_slots : Slots
    new_slots = set_at slots (at c.started zero) (Some new)

    is_deinit : (t : TyId) × (f.lent ≡ record { type = t; convention = ByInout } ∷ [])
    is_deinit = let x = deinit_found p sh p.core.deinits d n found sh.deinits in let is : IsDeinit p.core x.0 = x.3 in
        let z : Some is.fun ≡ Some f = sym is.there ∙ ap (slice_get p.core.funs) x.2 ∙ is_fun in
        let same : is.fun ≡ f = cc in (is.type, ap (λ f. f.lent) (sym same) ∙ is.lent)

    lent_is : lent_types f ≡ is_deinit.0 ∷ []
    lent_is = ap types_of is_deinit.1

    one_lent : length (lent_types f) ≡ 1
    one_lent = ap (λ us. length us) lent_is

    writes : ((signatures n).lent 0).way ≡ Writes
    writes = ap (λ s. (s.lent 0).way) (signs n ∙ ap signature_of is_fun) ∙ ap (λ ps. (terms_at (slice_get ps 0)).way) is_deinit.1

    not_own : (k : Key) → k.act ≡ c.now.id → k ≢ at c.started zero
    not_own k e q = now_fresh p signatures K slots number g half others (sym e ∙ ap (λ k. k.act) q)

    handing : Handing p signatures K slots number g half others new_slots (length (lent_types f)) []
    handing = record {
      other = λ k ne. set_other slots (at c.started zero) (Some new) k (λ q. ne (ap (λ k. k.act) q));
      later = λ j le. set_other slots (at c.started zero) (Some new) (at c.started j) (λ q. not_first j le (ap (λ k. k.local) q))
          ∙ none_new p signatures K slots number g half others j;
      unbased = λ k o. at_key slots (at c.started zero) (Some new) k (λ y. y ≡ Some o → o.base.act ≢ c.started)
          (λ _ y q. now_fresh p signatures K slots number g half others (sym free.0 ∙ ap (λ o. o.base.act) (some_is new o y) ∙ q))
          (λ _ y q. let lt = (others.inside k o y).1 in omega arith);
      own = λ k o. at_key slots (at c.started zero) (Some new) k (λ y. y ≡ Some o → k.act ≡ c.started → o.base.act ≡ c.now.id)
          (λ _ y _. ap (λ o. o.base.act) (sym (some_is new o y)) ∙ free.0)
          (λ _ y q. let lt = (others.inside k o y).0 in absurd (omega arith));
      rest = λ k o y e m. m;
    }
      where
        not_first : (j : ℕ) → length (lent_types f) ≤ j → j ≡ zero → ⊥
        not_first j le e = let z = one_lent in absurd (omega arith)

    lent : Lent p signatures K slots number g half others new_slots (signatures n) 0 (lent_types f)
    lent = subst (Lent p signatures K slots number g half others new_slots (signatures n) 0) (sym lent_is)
        ((new, set_same slots (at c.started zero) (Some new), sym writes), tt)

    may_lend : (vals : Key → Val) → IsThere s.path (vals s.key) → MayLend (mem slots vals) (at c.started zero) s Writes
    may_lend vals there = record {
      closed = none_new p signatures K slots number g half others zero;
      shut = λ k o y b. let lt = (others.inside k o y).1 in let z : o.base.act ≡ c.started = ap (λ k. k.act) b in omega arith;
      other = λ q. not_own s.key free.0 (sym q);
      there = there;
      free = spot_write s vals free there;
    }

    wait : (holder : Holder) (q : Key) → Fits (sleeper_of c.asleep) Runs c.now.id holder q
        → Fits (sleeper_of c.asleep) (Waits c.started (length (lent_types f)) (signatures n).yields Nowhere) c.now.id holder q
    wait (InLocal j) q u = u
    wait (InSubscript t) q u = u

    begins : (turns n_opened : ℕ) → TS (begun (record K { turns = turns; opened = n_opened }) f Nowhere) new_slots
    begins turns n_opened = begins_so p signatures K slots number g half others sh each n f is_fun
        Nowhere new_slots handing lent turns n_opened c.input c.output g
        (waiting_half p signatures K slots number g half others sh each n f is_fun Nowhere new_slots handing lent g (passes_self g) (λ q o y b. ⊎_elim
        (λ e. inl (are_lent p signatures K slots number g half others sh each n f is_fun Nowhere new_slots handing lent q o y e.1))
        (λ e. ⊎_elim (λ z. absurd z) (λ l. inr (listed_map _ _ g g q o (λ en i u. (i, wait en.holder q u)) l))
        (half.all_listed q o (sym (handing.other q e.1) ∙ y) b))
        (eqb_tells q.act c.started)))
        ((free, tasks), after)

    body_good : (turns n_opened : ℕ) (vals : Key → Val) → Sound (mem slots vals) → (b : Bool) → is_whole_product d (get s.path (vals s.key)) ≡ b
        → Good TS (cond b (Perform (effect.Lend (at c.started zero) s Writes) (Return (begun (record K { turns = turns; opened = n_opened }) f Nowhere)))
        (Return (record K { turns = turns; opened = n_opened }))) (mem slots vals)
    body_good turns n_opened vals sound true e =
        good_tell p TS (effect.Lend (at c.started zero) s Writes) (Return (begun (record K { turns = turns; opened = n_opened }) f Nowhere)) (mem slots vals)
        sound (may_lend vals (there_set s.path (vals s.key) (set_product d _ e))) (λ _. stands (begins turns n_opened))
    body_good turns n_opened vals sound false e =
        fine_work p signatures (record c { turns = turns; opened = n_opened }) slots number g half others g (Drops (PartsOf s ∷ ts) w) (passes_self g)
        ((free, tasks), after) vals sound

  deed_good : (w : Work) (d : Deed) (ts : List Task) → DeedOn (SpotFree c.now.id g) d → all (TaskOn (SpotFree c.now.id g)) ts → After w
      → GoodAt TS (does_deed p c w d ts) slots
  deed_good w (Body d s) ts free tasks after vals sound = good_some p TS c (deinit_of p.core.deinits d) _ (mem slots vals) (λ n found.
      good_some p TS (with_work c (Drops (PartsOf s ∷ ts) w)) (slice_get p.core.funs n) _ (mem slots vals) (λ f is_fun.
      good_turn p TS (record c { now = record (c.now) { work = Drops (PartsOf s ∷ ts) w }; opened = suc c.opened }) c.turns _ (mem slots vals) (λ j. (
        spot_read s vals free,
        body_good w d s ts free tasks after n found f is_fun j (suc c.opened) vals sound (is_whole_product d (get s.path (vals s.key))) refl,
      ))))
  deed_good w (EachOf k s) ts free tasks after vals sound = good_turn p TS (record c { opened = suc c.opened }) c.turns _ (mem slots vals) (λ j.
      fine_work p signatures (record c { turns = j; opened = suc c.opened }) slots number g half others g (Drops (elements s k ts) w) (passes_self g)
      (elements_on (SpotFree c.now.id g) (free_below c.now.id g) s k ts free tasks, after) vals sound)
  deed_good w (Element s) ts free tasks after vals sound = good_turn p TS c c.turns _ (mem slots vals) (λ j.
      fine_work p signatures (record c { turns = j; opened = suc c.opened }) slots number g half others g (Drops (Value s ∷ ts) w) (passes_self g)
      ((free, tasks), after) vals sound)

  first_good : (w : Work) (ds : List Deed) (ts : List Task) (t : Interaction Control)
      → all (DeedOn (SpotFree c.now.id g)) ds → all (TaskOn (SpotFree c.now.id g)) ts → After w
      → (vals : Key → Val) → Sound (mem slots vals) → Good TS t (mem slots vals) → Good TS (first_deed p c w ds ts t) (mem slots vals)
  first_good w [] ts t a tasks after vals sound h = h
  first_good w (d ∷ ds) ts t a tasks after vals sound h =
      deed_good w d (doing ds ts) a.0 (doing_on (SpotFree c.now.id g) ds ts a.1 tasks) after vals sound

  clears_good : (s : Spot) (t : Interaction Control) (vals : Key → Val) → Sound (mem slots vals) → SpotFree c.now.id g s → GoodAt TS t slots
      → (b : Bool) → is_blank (get s.path (vals s.key)) ≡ b → Good TS (clears s b t) (mem slots vals)
  clears_good s t vals sound free next true e = next vals sound
  clears_good s t vals sound free next false e = good_tell p TS (effect.Clear s effect.Deinitialised) t (mem slots vals) sound
      (spot_write s vals free (there_set s.path (vals s.key) (set_blank _ e))) (λ sound. next _ sound)

  pub tasks_good : (w : Work) (ts : List Task) → all (TaskOn (SpotFree c.now.id g)) ts → After w → GoodAt TS (does_tasks p c w ts) slots
  tasks_good w [] tasks after vals sound = fine_work p signatures c slots number g half others after.0 w after.1 after.2 vals sound
  tasks_good w (Do d ∷ ts) tasks after vals sound = deed_good w d ts tasks.0 tasks.1 after vals sound
  tasks_good w (Value s ∷ ts) tasks after vals sound = (
    spot_read s vals tasks.0,
    first_good w (deeds p.core.deinits s (get s.path (vals s.key))) ts _
        (deeds_on (SpotFree c.now.id g) (free_below c.now.id g) p.core.deinits s (get s.path (vals s.key)) tasks.0) tasks.1 after vals sound
        (tasks_good w ts tasks.1 after vals sound),
  )
  tasks_good w (PartsOf s ∷ ts) tasks after vals sound = (
    spot_read s vals tasks.0,
    first_good w (part_deeds p.core.deinits s (get s.path (vals s.key))) ts _
        (part_deeds_on (SpotFree c.now.id g) (free_below c.now.id g) p.core.deinits s (get s.path (vals s.key)) tasks.0) tasks.1 after vals sound
        (tasks_good w ts tasks.1 after vals sound),
  )
  tasks_good w (Unsets s ∷ ts) tasks after vals sound = (
    spot_read s vals tasks.0,
    clears_good s (does_tasks p c w ts) vals sound tasks.0 (tasks_good w ts tasks.1 after) (is_blank (get s.path (vals s.key))) refl,
  )
