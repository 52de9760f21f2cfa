-- Calls, projections and loops of a core that has a flow: each step is calm, and so is each run.
use Rattle.std.proofs.Common.{◌≡◌, ◌≢◌, ◌⊎◌, inl, inr, ⊎_elim, ℕ, ◌<◌, Bool, true, false, cond, nat_lt, List, ◌∷◌, length, Option, Some, None, refl, sym}
use Rattle.std.proofs.Common.{ap, ◌∙◌, subst}
use Rattle.std.proofs.lemmas.Bool.{ltb-true}
use Rattle.hy_core.specs.Plain.{Place, Leave, lent_types}
use Rattle.hy_core.specs.Values.{Val, Path, IsThere}
use Rattle.hy_core.specs.Memory.{Key, set_at, Way, Reads, Writes, Origin}
use Rattle.hy_core.specs.Runs as effect
use Rattle.hy_core.specs.Runs.{Interaction, Fetch, Inspect, Perform, Return, apply, interpret, steps}
use Rattle.hy_core.specs.Calm.{MayOpen, MayLend}
use Rattle.hy_core.specs.Control.{Nowhere, Activation, NotOpened, Control, Setting, stop, key, spot, sleeper_of, wake}
use Rattle.hy_core.specs.Statements.{close_all, back, slide_of, close_of, count_if, way, does}
use Rattle.hy_core.specs.Typing.{still}
use Rattle.hy_core.specs.Flow.{Holder, InLocal, InSubscript, OpenPlace, Loan, Status, Own, Param, Opened, Bound, FlowState, Signature, Context, set_local}
use Rattle.hy_core.specs.Flow.{with_init, with_status, with_open_place, IsOpen, none_set, all_set, is_exact, IsShutAt, MayReadAt, MayWriteAt, MayOpenAt}
use Rattle.hy_core.specs.Flow.{IndexesOk, ReadOk, ChangeOk, StoreOk, GiveOk, TakeOk, given, stored_if, stored, FlowsInto, Stores, Computes, opened, LendOk}
use Rattle.hy_core.specs.Flow.{come_back, Without, Closes, Slides, HandOk, HandsOk, come_from, held_by, TakesOk, all_given, Calls, Projects, IsLast}
use Rattle.hy_core.specs.Flow.{TransfersBuilt, Around, NoLoop, InLoop, TransfersAll, Transfers, first_status, first, BodyFlows, HasFlow}
use Rattle.hy_core.specs.Flow as transfer
use Rattle.hy_core.proofs.Keys.{key_dec, set_other, at_key}
use Rattle.hy_core.proofs.CalmWalks.{Slots, at, mem, stands, Good, GoodAt, IsOpenSo, Is, Listed, View, Begins, aim_for, shut_at, good_tell, MayAt, may_read}
use Rattle.hy_core.proofs.CalmWalks.{may_write, good_spot, good_take}
use Rattle.hy_core.proofs.CalmFrames.{Sleeping, flows_pass, WorkFlows, Sl, Runs, Sleeps, ParamOf, ExtraBy, Extra, HeldIn, Fits, Half, listed_map, half_pass}
use Rattle.hy_core.proofs.CalmFrames.{GoesBy, Change, half_keep, context, waits, Others, Stands, framed_keep, callers_keep, others_keep, some_is, at_local}
use Rattle.hy_core.proofs.CalmFrames.{at_both, other_act, still_open, open_change, close_change, wake_is, view}
use Rattle.hy_core.proofs.CalmSteps.{Like, like_self, like_count, like_id, like_stands, good_close, good_close_all, good_back}
use Rattle.hy_core.proofs.CalmStatements.{Ended}

module _ (p : Setting) (signatures : ℕ → Signature) (c : Control) (slots : Slots) (number : ℕ) (g : FlowState)
    (half : Half slots (sleeper_of c.asleep) Runs c.now.id (length (lent_types c.now.fun)) g)
    (others : Others p signatures slots (sleeper_of c.asleep) c.now.id c.started (waits p signatures c.now number) c.callers) where
  abbrev pub x : Context
  x = context p signatures number c.now.fun

  abbrev pub TS : Control → Slots → Type 0
  TS = Stands p signatures c.halt

  abbrev pub Left : FlowState → Type 0
  Left d = WorkFlows (context p signatures number c.now.fun) c.now.id c.now.work d

  abbrev pub asl : Sleeping
  asl = sleeper_of c.asleep

  pub now_view : View slots c.now.id g
  now_view = view slots (sleeper_of c.asleep) c.now.id (length (lent_types c.now.fun)) g half

  -- LENDING a place of one's own

  opens_half : (to : ℕ) (new : Origin) (open_place : OpenPlace) (loan : Loan) (init_map : ℕ → transfer.InitMap) (y : Bool) → loan.way ≡ new.way
      → g.status to ≡ Own → open_place.holder ≡ InLocal to → open_place.base ≡ new.base.local → open_place.way ≡ new.way → Begins open_place.path new.path
      → Half (set_at slots (at c.now.id to) (Some new)) (sleeper_of c.asleep) Runs c.now.id (length (lent_types c.now.fun))
      (record { status = set_local g.status to (Opened loan); init = init_map; open_places = open_place ∷ g.open_places; yielded = y })
  opens_half to new open_place loan init_map y lw own holder base way path = record {
    status = λ j. at_both g.status to (Opened loan) slots c.now.id (Some new) j Is (λ e. (new, refl, sym lw)) (λ n. half.status j);
    slept = λ j. at_local g.status to (Opened loan) j (λ s. Sl s (sleeper_of c.asleep (at c.now.id j)))
        (λ e. subst (λ s. Sl s (sleeper_of c.asleep (at c.now.id j))) (ap g.status e ∙ own) (half.slept j)) (λ n. half.slept j);
    params = λ j lt. at_local g.status to (Opened loan) j (λ s. (v : Way) × (s ≡ Param v)) (λ e. no_own j (half.params j lt) (ap g.status e ∙ own))
        (λ n. half.params j lt);
    all_listed = λ k o q b. at_key slots (at c.now.id to) (Some new) k (λ y'. y' ≡ Some o → Extra Runs k
        ⊎ Listed (Fits (sleeper_of c.asleep) Runs c.now.id) (record {
          status = set_local g.status to (Opened loan);
          init = init_map;
          open_places =
              open_place ∷ g.open_places;
          yielded = y;
        }) k o)
        (λ e y'. let z = some_is new o y' in inr (record {
          open_place = open_place;
          among = inl refl;
          base = base ∙ ap (λ o. o.base.local) z;
          way = way ∙ ap (λ o. o.way) z;
          rest = path.0;
          path = sym (ap (λ o. o.path) z) ∙ path.1;
          fits = subst (λ w. Fits (sleeper_of c.asleep) Runs c.now.id w k) (sym holder) e;
        }))
        (λ n y'. ⊎_elim inl (λ l. inr (listed_map _ _ g _ k o (λ en i t. (inr i, t)) l)) (half.all_listed k o y' b)) q;
  }
    where
      no_own : (j : ℕ) → ((v : Way) × (g.status j ≡ Param v)) → g.status j ≡ Own → (v : Way) × (Opened loan ≡ Param v)
      no_own j h e = let e' = h.1 in absurd (cc)

  opens_others : (to : ℕ) (new : Origin) → new.base.act ≡ c.now.id
      → Others p signatures (set_at slots (at c.now.id to) (Some new)) (sleeper_of c.asleep) c.now.id c.started (waits p signatures c.now number) c.callers
  opens_others to new b = others_keep p signatures slots _ (sleeper_of c.asleep) c.now.id c.started (waits p signatures c.now number) c.callers
      (subst (λ e. Change c.now.id e slots (set_at slots (at c.now.id to) (Some new)) (sleeper_of c.asleep) (sleeper_of c.asleep)) b
      (open_change slots (sleeper_of c.asleep) c.now.id to new))
      (λ k o. at_key slots (at c.now.id to) (Some new) k (λ y. y ≡ Some o → (k.act < c.started) × (o.base.act < c.started))
      (λ e y. (
        subst (λ k. k.act < c.started) (sym e) others.now_below,
        subst (λ i. i < c.started) (sym b
            ∙ ap (λ o. o.base.act) (some_is new o y)) others.now_below,
      ))
      (λ n y. others.inside k o y)) others

  like_if : (b : Bool) (e : Control) → Like c e → Like c (count_if b e)
  like_if true e l = like_count c e l
  like_if false e l = l

  pub lend_good : (to : ℕ) (place : Place) (w : Way) (b : Bool) (d : FlowState) → LendOk x g to place w → FlowsInto x (opened x g to place w) d → Left d
      → GoodAt TS (spot p (aim_for w) c place (λ c s t. Perform (effect.Lend (key c to) s w) (Return (count_if b c)))) slots
  lend_good to place w b d ok flows left vals s =
      good_spot p TS slots g c.now.id now_view (Like c) (like_count c) (like_id c) w place _ ok.indexes (to_may w ok.may) (λ e vals u t l s begins there.
      subst (λ k. Good TS (Perform (effect.Lend k (record { key = at c.now.id place.local; path = u }) w) (Return (count_if b e))) (mem slots vals))
      (sym (ap (λ i. at i to) (like_id c e l)))
      (good_tell p TS (effect.Lend (at c.now.id to) (record { key = at c.now.id place.local; path = u }) w) (Return (count_if b e)) (mem slots vals) s
      (may vals u begins there) (λ s.
      stands (like_stands p signatures c.halt c (count_if b e) _ (like_if b e l) (record {
        same = refl;
        number = number;
        flow = d;
        half = half_pass _ (sleeper_of c.asleep) Runs c.now.id (length (lent_types c.now.fun)) (opened x g to place w) d (flows_pass x _ d flows)
            (opens_half to (new u) (record { holder = InLocal to; base = place.local; path = still place.steps; way = w })
            (record { base = place.local; path = still place.steps; exact = is_exact place.steps; way = w }) _ g.yielded refl ok.free.own refl refl refl
            begins);
        goes = left;
        others = opens_others to (new u) refl;
      }))))) c (like_self c) vals s
    where
      new : Path → Origin
      new u = record { base = at c.now.id place.local; path = u; way = w }

      to_may : (w : Way) → MayOpenAt g place.local (still place.steps) w
          → MayAt p TS slots g c.now.id now_view (Like c) (like_count c) (like_id c) place.local (still place.steps) w
      to_may Reads m = m
      to_may Writes m = m

      may_open : (w : Way) → MayOpenAt g place.local (still place.steps) w → (vals : Key → Val) (u : Path) → Begins (still place.steps) u
          → IsThere u (vals (at c.now.id place.local)) → MayOpen (mem slots vals) (record { key = at c.now.id place.local; path = u }) w
      may_open Reads m vals u begins there =
          may_read p TS slots g c.now.id now_view (Like c) (like_count c) (like_id c) vals place.local (still place.steps) u m begins
      may_open Writes m vals u begins there =
          may_write p TS slots g c.now.id now_view (Like c) (like_count c) (like_id c) vals place.local (still place.steps) u m begins there

      may : (vals : Key → Val) (u : Path) → Begins (still place.steps) u → IsThere u (vals (at c.now.id place.local))
          → MayLend (mem slots vals) (at c.now.id to) (record { key = at c.now.id place.local; path = u }) w
      may vals u begins there = record {
        closed = let e = half.status to in subst (λ s. Is s (slots (at c.now.id to))) ok.free.own e;
        shut = shut_at slots c.now.id g now_view to ok.free.shut;
        other = λ e. ok.other (ap (λ k. k.local) e);
        there = there;
        free = may_open w ok.may vals u begins there;
      }

  -- CLOSING what one lent to oneself

  ends_half : (of : ℕ) (o : Loan) (d : FlowState) → g.status of ≡ Opened o → Ended (InLocal of) of g d
      → Half (set_at slots (at c.now.id of) None) (sleeper_of c.asleep) Runs c.now.id (length (lent_types c.now.fun)) d
  ends_half of o d st e = record {
    status = λ j. subst (λ s. Is s (set_at slots (at c.now.id of) None (at c.now.id j))) (e.status j)
        (at_both g.status of Own slots c.now.id None j Is (λ _. refl) (λ n. half.status j));
    slept = λ j. subst (λ s. Sl s (sleeper_of c.asleep (at c.now.id j))) (e.status j)
        (at_local g.status of Own j (λ s. Sl s (sleeper_of c.asleep (at c.now.id j)))
        (λ q. subst (λ s. Sl s (sleeper_of c.asleep (at c.now.id j))) (ap g.status q ∙ st) (half.slept j)) (λ n. half.slept j));
    params = λ j lt. let r =
        at_local g.status of Own j (λ s. (v : Way) × (s ≡ Param v)) (λ q. no_param j (half.params j lt) (ap g.status q ∙ st)) (λ n. half.params j lt) in
        (r.0, sym (e.status j) ∙ r.1);
    all_listed = λ k o q b. let y = still_open slots (at c.now.id of) k o q in
        ⊎_elim inl (λ l. inr
        (listed_map _ _ g d k o (λ en i t. (e.open_places en i (λ w. y.0 (subst (λ w. Fits (sleeper_of c.asleep) Runs c.now.id w k) w t)), t)) l))
        (half.all_listed k o y.1 b);
  }
    where
      no_param : (j : ℕ) → ((v : Way) × (g.status j ≡ Param v)) → g.status j ≡ Opened o → (v : Way) × (Own ≡ Param v)
      no_param j h e = let e' = h.1 in absurd (cc)

  ends_others : (of : ℕ)
      → Others p signatures (set_at slots (at c.now.id of) None) (sleeper_of c.asleep) c.now.id c.started (waits p signatures c.now number) c.callers
  ends_others of =
      others_keep p signatures slots _ (sleeper_of c.asleep) c.now.id c.started (waits p signatures c.now number) c.callers
      (close_change slots (sleeper_of c.asleep) c.now.id of c.now.id)
      (λ k o q. others.inside k o (still_open slots (at c.now.id of) k o q).1) others

  pub close_good : (of : ℕ) (o : Loan) (d : FlowState) → g.status of ≡ Opened o → IsShutAt g of → Ended (InLocal of) of g d → Left d
      → GoodAt TS (close_of c of (sleeper_of c.asleep (key c of))) slots
  close_good of o d st shut e w =
      subst (λ y. GoodAt TS (close_of c of y) slots) (sym (subst (λ s. Sl s (sleeper_of c.asleep (at c.now.id of))) st (half.slept of)))
      (go (nat_lt of (length (lent_types c.now.fun))) refl)
    where
      i : IsOpenSo o.way (slots (at c.now.id of))
      i = subst (λ s. Is s (slots (at c.now.id of))) st (half.status of)

      go : (b : Bool) → nat_lt of (length (lent_types c.now.fun)) ≡ b
          → GoodAt TS (cond b (stop c NotOpened) (Perform (effect.Close (key c of)) (Return c))) slots
      go true q = let r = half.params of (ltb-true of (length (lent_types c.now.fun)) q) in let f = r.1 in absurd (cc)
      go false q = good_close p signatures c.halt slots (at c.now.id of) i.0 (Return c) i.1 (shut_at slots c.now.id g now_view of shut)
          (λ vals s. stands (record { same = refl; number = number; flow = d; half = ends_half of o d st e; goes = w; others = ends_others of }))

  -- LEAVING

  pub leave_good : (from : Place) → TakeOk x g from → IsLast x (given x g from) → GoodAt TS (does p c (Leave from)) slots
  leave_good from ok last = good_take p TS slots g c.now.id now_view (Like c) (like_count c) (like_id c) effect.Moved from _ ok.give.exact ok.give.free
      (λ e v l. subst
      (λ e. GoodAt TS
      (Perform (effect.Quit e.now.id (length (lent_types c.now.fun))) (close_all e (length (lent_types c.now.fun)) (back p e e.callers v e.now.dest)))
      slots) (sym l.is)
      (closing l.turns l.opened l.input l.output v)) c (like_self c)
    where
      params : (j : ℕ) → j < length (lent_types c.now.fun) → (o : Origin) × (slots (at c.now.id j) ≡ Some o)
      params j lt = let r = half.params j lt in let i : IsOpenSo r.0 (slots (at c.now.id j)) =
          subst (λ s. Is s (slots (at c.now.id j))) r.1 (half.status j) in (i.0, i.1)

      unbased : (k : Key) (o : Origin) → slots k ≡ Some o → o.base.act ≢ c.now.id
      unbased k o y b = let e = now_view.listed k o y b in last.open_places e.open_place e.among

      closing : (turns opened : ℕ) (input output : List ℕ) (v : Val)
          → GoodAt TS (Perform (effect.Quit c.now.id (length (lent_types c.now.fun)))
          (close_all (record c { turns = turns; opened = opened; input = input; output = output }) (length (lent_types c.now.fun))
          (back p (record c { turns = turns; opened = opened; input = input; output = output }) c.callers v c.now.dest))) slots
      closing turns opened input output v vals s =
          let e : Control = record c { turns = turns; opened = opened; input = input; output = output } in (
            unbased,
            good_close_all p signatures c.halt e (back p e c.callers v c.now.dest) (length (lent_types c.now.fun)) slots params unbased
                (λ slots' C. good_back p signatures c.halt e refl number slots slots' C v c.callers c.now.dest others) vals s,
          )

  -- SLIDING: the sleeper of a bound local runs, and what ran waits for it

  slide_half : (of : ℕ) (v : Way) (d : FlowState) (b : Activation) (n : ℕ) → g.status of ≡ Bound v → Ended (InSubscript of) of g d
      → asl (at c.now.id of) ≡ Some b → b.dest ≡ Nowhere
      → Half (set_at slots (at c.now.id of) None) (set_at (sleeper_of c.asleep) (at c.now.id of) None) (waits p signatures b n) c.now.id
      (length (lent_types c.now.fun)) d
  slide_half of v d b n' st e sl nw = record {
    status = λ j. subst (λ s. Is s (set_at slots (at c.now.id of) None (at c.now.id j))) (e.status j)
        (at_both g.status of Own slots c.now.id None j Is (λ _. refl) (λ n. half.status j));
    slept = λ j. subst (λ s. Sl s (set_at (sleeper_of c.asleep) (at c.now.id of) None (at c.now.id j))) (e.status j)
        (at_both g.status of Own (sleeper_of c.asleep) c.now.id None j Sl (λ _. refl) (λ n. half.slept j));
    params = λ j lt. let r =
        at_local g.status of Own j (λ s. (v : Way) × (s ≡ Param v)) (λ q. no_param j (half.params j lt) (ap g.status q ∙ st)) (λ n. half.params j lt) in
        (r.0, sym (e.status j) ∙ r.1);
    all_listed = λ k o q b'. let y = still_open slots (at c.now.id of) k o q in
        ⊎_elim (λ z. absurd z) (λ l. open_place k o y.0 l l.open_place.holder refl) (half.all_listed k o y.1 b');
  }
    where
      no_param : (j : ℕ) → ((v : Way) × (g.status j ≡ Param v)) → g.status j ≡ Bound v → (v : Way) × (Own ≡ Param v)
      no_param j h e = let e' = h.1 in absurd (cc)

      -- the parameters of the sleeper are now its own to end
      extra : (k : Key) (y : Option Activation) → y ≡ Some b → HeldIn y k → ExtraBy b.id (length (lent_types b.fun)) b.dest k
      extra k None q h = absurd h
      extra k (Some b') q h = let q' : b' ≡ b = cc in
          subst (λ dest. ExtraBy b.id (length (lent_types b.fun)) dest k) (sym nw) (subst (λ b. ParamOf b.id (length (lent_types b.fun)) k) q' h)

      open_place : (k : Key) (o : Origin) → k ≢ at c.now.id of → (l : Listed (Fits (sleeper_of c.asleep) Runs c.now.id) g k o) (holder : Holder)
          → l.open_place.holder ≡ holder
          → Extra (waits p signatures b n') k ⊎ Listed (Fits (set_at (sleeper_of c.asleep) (at c.now.id of) None) (waits p signatures b n') c.now.id) d k o
      open_place k o n l (InLocal j) q = inr (record {
        open_place = l.open_place;
        among = e.open_places l.open_place l.among (λ r. absurd (let r' = r in cc));
        base = l.base;
        way = l.way;
        rest = l.rest;
        path = l.path;
        fits = subst (λ w. Fits (set_at (sleeper_of c.asleep) (at c.now.id of) None) (waits p signatures b n') c.now.id w k) (sym q)
            (subst (λ w. Fits (sleeper_of c.asleep) Runs c.now.id w k) q l.fits);
      })
      open_place k o n l (InSubscript t) q =
          ⊎_elim (λ h. held h (key_dec (at c.now.id t) (at c.now.id of))) (λ z. absurd z)
          (subst (λ w. Fits (sleeper_of c.asleep) Runs c.now.id w k) q l.fits)
        where
          held : HeldIn (sleeper_of c.asleep (at c.now.id t)) k → (at c.now.id t ≡ at c.now.id of) ⊎ (at c.now.id t ≢ at c.now.id of)
              → Extra (waits p signatures b n') k ⊎ Listed (Fits (set_at (sleeper_of c.asleep) (at c.now.id of) None) (waits p signatures b n') c.now.id) d k o
          held h (inl r) = inl (extra k (sleeper_of c.asleep (at c.now.id t)) (ap (sleeper_of c.asleep) r ∙ sl) h)
          held h (inr r) = inr (record {
            open_place = l.open_place;
            among = e.open_places l.open_place l.among (λ z. r (same_held z));
            base = l.base;
            way = l.way;
            rest = l.rest;
            path = l.path;
            fits = subst (λ w. Fits (set_at (sleeper_of c.asleep) (at c.now.id of) None) (waits p signatures b n') c.now.id w k) (sym q)
                (inl (subst (λ y. HeldIn y k) (sym (set_other (sleeper_of c.asleep) (at c.now.id of) None (at c.now.id t) r)) h));
          })
            where
              same_held : l.open_place.holder ≡ InSubscript of → at c.now.id t ≡ at c.now.id of
              same_held z = let z' : InSubscript t ≡ InSubscript of = sym q ∙ z in let y : t ≡ of = cc in ap (at c.now.id) y

  pub slide_good : (of : ℕ) (v : Way) (d : FlowState) → g.status of ≡ Bound v → IsShutAt g of → Ended (InSubscript of) of g d → Left d
      → GoodAt TS (slide_of c (key c of) (sleeper_of c.asleep (key c of))) slots
  slide_good of v d st shut ended w =
      let found = subst (λ s. Sl s (sleeper_of c.asleep (at c.now.id of))) st (half.slept of) in
      let i : IsOpenSo v (slots (at c.now.id of)) = subst (λ s. Is s (slots (at c.now.id of))) st (half.status of) in
      let b = found.0 in
      subst (λ y. GoodAt TS (slide_of c (key c of) y) slots) (sym found.1)
      (good_close p signatures c.halt slots (at c.now.id of) i.0
      (Return (record c { now = b; callers = c.now ∷ c.callers; asleep = wake c.asleep (key c of) })) i.1 (shut_at slots c.now.id g now_view of shut)
      (λ vals s. stands (go b found.1)))
    where
      go : (b : Activation) → (sleeper_of c.asleep) (at c.now.id of) ≡ Some b
          → TS (record c { now = b; callers = c.now ∷ c.callers; asleep = wake c.asleep (at c.now.id of) }) (set_at slots (at c.now.id of) None)
      go b sl =
          let s = others.sleepers (at c.now.id of) b sl in
          let ch : Change c.now.id c.now.id slots (set_at slots (at c.now.id of) None) (sleeper_of c.asleep)
          (set_at (sleeper_of c.asleep) (at c.now.id of) None) = record {
            own = λ x j n. set_other slots (at c.now.id of) None (at x j) (other_act x j c.now.id of n);
            base = λ k o h n. (still_open slots (at c.now.id of) k o h).1;
            sleep = λ x j n. set_other (sleeper_of c.asleep) (at c.now.id of) None (at x j) (other_act x j c.now.id of n);
          } in
          record {
            same = refl;
            number = s.frame.number;
            flow = s.frame.flow;
            half = subst (λ a. Half (set_at slots (at c.now.id of) None) a Runs b.id (length (lent_types b.fun)) s.frame.flow)
                (sym (wake_is c.asleep (at c.now.id of)))
                (let k = half_keep slots _ (sleeper_of c.asleep) _ c.now.id c.now.id (Sleeps (at c.now.id of)) b.id (length (lent_types b.fun)) s.frame.flow
                ch s.not_now s.not_now s.frame.half in record {
                  status = k.status;
                  slept = k.slept;
                  params = k.params;
                  all_listed = λ k' o q b'. ⊎_elim (λ e. absurd ((still_open slots (at c.now.id of) k' o q).0 e))
                      (λ l. inr (listed_map _ _ _ _ k' o (λ en i u. (i, awake en.holder k' u)) l)) (k.all_listed k' o q b');
                });
            goes = s.frame.goes;
            others = subst (λ a. Others p signatures (set_at slots (at c.now.id of) None) a b.id c.started (waits p signatures b s.frame.number) (c.now ∷
                c.callers)) (sym (wake_is c.asleep (at c.now.id of))) (record {
                  frames = (
                    record {
                      number = number;
                      flow = d;
                      half = slide_half of v d b s.frame.number st ended sl s.nowhere;
                      goes = subst (λ dest. GoesBy (context p signatures number c.now.fun) c.now.id d c.now.work (signatures s.frame.number).yields dest)
                          (sym s.nowhere) w;
                    },
                    callers_keep p signatures slots _ (sleeper_of c.asleep) _ c.now.id c.now.id ch (waits p signatures c.now number) c.callers others.not_now
                        others.not_now others.frames,
                  );
                  sleepers = λ k b' e. let y = still_asleep k b' e in let z = others.sleepers k b' y.1 in record {
                    nowhere = z.nowhere;
                    frame = framed_keep p signatures slots _ (sleeper_of c.asleep) _ c.now.id c.now.id ch (Sleeps k) b' z.not_now z.not_now z.frame;
                    not_now = λ q. y.0 (others.alone k (at c.now.id of) b' b y.1 sl q);
                    apart = (z.not_now, z.apart);
                    below = z.below;
                    home = z.home;
                  };
                  alone = λ k l b1 b2 e1 e2 q. others.alone k l b1 b2 (still_asleep k b1 e1).1 (still_asleep l b2 e2).1 q;
                  not_now = (s.not_now, s.apart);
                  distinct = (others.not_now, others.distinct);
                  now_below = s.below;
                  below = (others.now_below, others.below);
                  inside = λ k o q. others.inside k o (still_open slots (at c.now.id of) k o q).1;
                });
          }
        where
          still_asleep : (k : Key) (b' : Activation) → set_at (sleeper_of c.asleep) (at c.now.id of) None k ≡ Some b' → (k ≢ at c.now.id of)
              × ((sleeper_of c.asleep) k ≡ Some b')
          still_asleep k b' = at_key (sleeper_of c.asleep) (at c.now.id of) None k (λ y. y ≡ Some b' → (k ≢ at c.now.id of)
              × ((sleeper_of c.asleep) k ≡ Some b')) (λ e y. absurd (cc)) (λ n y. (n, y))

          awake : (holder : Holder) (k : Key) → Fits (set_at (sleeper_of c.asleep) (at c.now.id of) None) (Sleeps (at c.now.id of)) b.id holder k
              → Fits (set_at (sleeper_of c.asleep) (at c.now.id of) None) Runs b.id holder k
          awake (InLocal j) k u = u
          awake (InSubscript t) k u = ⊎_elim inl (λ z. absurd z) u
