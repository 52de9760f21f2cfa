-- Yields, calls, projections and loops of a core that has a flow are calm, and so is each run of it.
use Rattle.std.proofs.Common.{◌≡◌, ◌≢◌, ◌⊎◌, inl, inr, ⊎_elim, ℕ, zero, suc, ◌+◌, ◌<◌, ◌≤◌, List, [], ◌∷◌, length, Option, Some, None, slice_get, refl, sym}
use Rattle.std.proofs.Common.{ap, ◌∙◌, subst, arith}
use Rattle.std.proofs.lemmas.Bool.Decides.{eqb_tells}
use Rattle.hy_types.specs.declared.kinds.TyId.{TyId}
use Rattle.hy_core.specs.Plain.{Place, Fun, lent_types}
use Rattle.hy_core.specs.Values.{Val}
use Rattle.hy_core.specs.Memory.{Key, Spot, whole, set_at, Way, Reads, Writes, Origin, Copies, close_copy, copying, no_copies}
use Rattle.hy_core.specs.Memory as memory
use Rattle.hy_core.specs.Runs as effect
use Rattle.hy_core.specs.Runs.{Interaction, Fetch, Inspect, Perform, Return, apply, interpret, steps}
use Rattle.hy_core.specs.Calm.{MayHand}
use Rattle.hy_core.specs.Control.{Form, form, local_type, Work, Idle, Rest, Loop, Test, Drops, Dest, Opens, Nowhere, Activation, Nap, Halt, Ends, Stuck}
use Rattle.hy_core.specs.Control.{NotSet, NotOpened, Control, Stage, GivesUp, Setting, stop, with_work, key, count_one, with_some, trapped, turn, with_flag}
use Rattle.hy_core.specs.Control.{spot, read, take, write, read_number, read_flag, read_array, sleeper_of, wake}
use Rattle.hy_core.specs.Control as control
use Rattle.hy_core.specs.Statements.{begun, hand_all, move_all, yield_to}
use Rattle.hy_core.specs.Typing.{Among, Distinct}
use Rattle.hy_core.specs.Shaped.{Shaped}
use Rattle.hy_core.specs.Flow.{Holder, InLocal, InSubscript, Status, Own, Param, Opened, Bound, FlowState, Signature, Context, IsOpen, IsShutAt, given}
use Rattle.hy_core.specs.Flow.{HandsOk, TakesOk, NoLoop, first_status, first, BodyFlows, context_of}
use Rattle.hy_core.proofs.Keys.{set_same, set_other, at_key}
use Rattle.hy_core.proofs.CalmWalks.{Slots, at, mem, over, stands, GoodAt, IsOpenSo, Is, Listed, View, shut_at, good_tell}
use Rattle.hy_core.proofs.CalmFrames.{Sleeping, Passes, passes_on, WorkFlows, Sl, Top, Runs, Waits, Sleeps, ParamOf, Extra, HeldIn, Fits, Half, listed_map}
use Rattle.hy_core.proofs.CalmFrames.{half_pass, bind, GoesBy, below_notin, below_more, Change, context, waits, Sleeper, Others, Stands, framed_keep}
use Rattle.hy_core.proofs.CalmFrames.{callers_keep, some_is, at_local, at_both, other_act, open_change, view}
use Rattle.hy_core.proofs.CalmSteps.{Like}
use Rattle.hy_core.proofs.CalmStatements.{given_pass, takes}

module _ (p : Setting) (signatures : ℕ → Signature) (c : Control) (slots : Slots) (number : ℕ) (g : FlowState)
    (half : Half slots (sleeper_of c.asleep) Runs c.now.id (length (lent_types c.now.fun)) g)
    (others : Others p signatures slots (sleeper_of c.asleep) c.now.id c.started (waits p signatures c.now number) c.callers) where
  abbrev pub x : Context
  x = context p signatures number c.now.fun

  abbrev pub TS : Control → Slots → Type 0
  TS = Stands p signatures c.halt

  abbrev pub Left : FlowState → Type 0
  Left d = WorkFlows (context p signatures number c.now.fun) c.now.id c.now.work d

  abbrev pub asl : Sleeping
  asl = sleeper_of c.asleep

  now_view : View slots c.now.id g
  now_view = view slots (sleeper_of c.asleep) c.now.id (length (lent_types c.now.fun)) g half

  -- YIELDING: what runs sleeps, and its caller goes on with a local that stands for one of its own

  module _ (of l : ℕ) (a : Activation) (rest : List Activation)
      (X : Others p signatures slots (sleeper_of c.asleep) c.now.id c.started
      (Waits c.now.id (length (lent_types c.now.fun)) (signatures number).yields (Opens l)) (a ∷ rest))
      (is_open : IsOpenSo (signatures number).yields (slots (at c.now.id of))) (shut : IsShutAt g of) where
    abbrev new_one : Origin
    new_one = record { base = at c.now.id of; path = []; way = memory.way_of (slots (at c.now.id of)) }

    abbrev sleeping : Activation
    sleeping = record (c.now) { dest = Nowhere }

    abbrev y_slots : Slots
    y_slots = set_at slots (at a.id l) (Some new_one)

    abbrev y_asl : Sleeping
    y_asl = set_at (sleeper_of c.asleep) (at a.id l) (Some sleeping)

    yield_change : Change a.id c.now.id slots y_slots (sleeper_of c.asleep) y_asl
    yield_change = let ch = open_change slots (sleeper_of c.asleep) a.id l new_one in
        record { own = ch.own; base = ch.base; sleep = λ x j n. set_other (sleeper_of c.asleep) (at a.id l) _ (at x j) (other_act x j a.id l n) }

    no_slot : slots (at a.id l) ≡ None
    no_slot = subst (λ s. Is s (slots (at a.id l))) X.frames.0.goes.own (X.frames.0.half.status l)

    no_sleeper : (sleeper_of c.asleep) (at a.id l) ≡ None
    no_sleeper = subst (λ s. Sl s (sleeper_of c.asleep (at a.id l))) X.frames.0.goes.own (X.frames.0.half.slept l)

    new_way : new_one.way ≡ (signatures number).yields
    new_way = ap memory.way_of is_open.1 ∙ is_open.2

    yield_may : (vals : Key → Val) → MayHand (mem slots vals) (at a.id l) (key c of)
    yield_may vals = record {
      closed = no_slot;
      shut = λ k o q b. ⊎_elim (λ e. e) (λ e. X.frames.0.goes.shut e.open_place e.among (e.base ∙ ap (λ k. k.local) b))
          (X.frames.0.half.all_listed k o q (ap (λ k. k.act) b));
      other = λ e. X.not_now.0 (sym (ap (λ k. k.act) e));
      origin = is_open.0;
      opened = is_open.1;
      free = shut_at slots c.now.id g now_view of shut;
    }

    yield_half : Half y_slots y_asl Runs a.id (length (lent_types a.fun)) (bind X.frames.0.flow l (signatures number).yields)
    yield_half = let F = X.frames.0 in let h = F.half in record {
      status = λ j. at_both F.flow.status l (Bound (signatures number).yields) slots a.id
          (Some new_one) j Is (λ e. (new_one, refl, new_way)) (λ n. h.status j);
      slept = λ j. at_both F.flow.status l (Bound (signatures number).yields) (sleeper_of c.asleep) a.id (Some sleeping) j Sl (λ e. (sleeping, refl))
          (λ n. h.slept j);
      params = λ j lt. at_local F.flow.status l (Bound (signatures number).yields) j (λ s. (v : Way)
          × (s ≡ Param v)) (λ e. no_own j (h.params j lt) (ap F.flow.status e ∙ F.goes.own)) (λ n. h.params j lt);
      all_listed = λ k o q b. ⊎_elim (λ e. absurd e)
          (λ e. inr (listed_map _ _ F.flow (bind F.flow l (signatures number).yields) k o (λ en i u. (i, fits en.holder k u)) e))
          (h.all_listed k o (yield_change.base k o q (λ z. X.not_now.0 (sym z ∙ b))) b);
    }
      where
        no_own : (j : ℕ) → ((v : Way) × (X.frames.0.flow.status j ≡ Param v)) → X.frames.0.flow.status j ≡ Own → (v : Way)
            × (Bound (signatures number).yields ≡ Param v)
        no_own j h e = let e' = h.1 in absurd (cc)

        fits : (holder : Holder) (k : Key)
            → Fits (sleeper_of c.asleep) (Waits c.now.id (length (lent_types c.now.fun)) (signatures number).yields (Opens l)) a.id holder k
            → Fits y_asl Runs a.id holder k
        fits (InLocal j) k u = u
        fits (InSubscript t) k u = inl (at_key (sleeper_of c.asleep) (at a.id l) (Some sleeping) (at a.id t) (λ y. HeldIn y k)
            (λ e. ⊎_elim (λ z. absurd (subst (λ y. HeldIn y k) (ap (sleeper_of c.asleep) e ∙ no_sleeper) z)) (λ z. z.1) u)
            (λ n. ⊎_elim (λ z. z) (λ z. absurd (n (ap (at a.id) z.0))) u))

    sleeper_half : (d : FlowState) → Passes g d → Half y_slots y_asl (Sleeps (at a.id l)) c.now.id (length (lent_types c.now.fun)) d
    sleeper_half d passes = half_pass y_slots y_asl (Sleeps (at a.id l)) c.now.id (length (lent_types c.now.fun)) g d passes (record {
      status = λ j. subst (Is (g.status j)) (sym (yield_change.own c.now.id j X.not_now.0)) (half.status j);
      slept = λ j. subst (Sl (g.status j)) (sym (yield_change.sleep c.now.id j X.not_now.0)) (half.slept j);
      params = half.params;
      all_listed = λ k o q b. at_key slots (at a.id l) (Some new_one) k
          (λ y. y ≡ Some o → Extra (Sleeps (at a.id l)) k ⊎ Listed (Fits y_asl (Sleeps (at a.id l)) c.now.id) g k o)
          (λ e y. inl e)
          (λ n y. ⊎_elim (λ e. absurd e) (λ e. inr (listed_map _ _ g g k o (λ en i u. (i, fits en.holder k u)) e)) (half.all_listed k o y b)) q;
    })
      where
        fits : (holder : Holder) (k : Key) → Fits (sleeper_of c.asleep) Runs c.now.id holder k → Fits y_asl (Sleeps (at a.id l)) c.now.id holder k
        fits (InLocal j) k u = u
        fits (InSubscript t) k u = ⊎_elim (λ z. inl (subst (λ y. HeldIn y k) (sym (yield_change.sleep c.now.id t X.not_now.0)) z)) (λ z. absurd z) u

    yield_others : (d : FlowState) → Passes g d → Left d → Others p signatures y_slots y_asl a.id c.started (waits p signatures a X.frames.0.number) rest
    yield_others d passes w = record {
      frames = callers_keep p signatures slots y_slots (sleeper_of c.asleep) y_asl a.id c.now.id yield_change (waits p signatures a X.frames.0.number) rest
          X.distinct.0 X.not_now.1 X.frames.1;
      sleepers = λ k b. at_key (sleeper_of c.asleep) (at a.id l) (Some sleeping) k (λ y. y ≡ Some b
          → Sleeper p signatures y_slots y_asl a.id c.started rest k b)
          (λ e y. subst (λ k. Sleeper p signatures y_slots y_asl a.id c.started rest k b) (sym e)
          (subst (Sleeper p signatures y_slots y_asl a.id c.started rest (at a.id l)) (act_is sleeping b y) fresh))
          (λ n y. let z = X.sleepers k b y in record {
            nowhere = z.nowhere;
            frame = framed_keep p signatures slots y_slots (sleeper_of c.asleep) y_asl a.id c.now.id yield_change (Sleeps k) b z.apart.0 z.not_now z.frame;
            not_now = z.apart.0;
            apart = z.apart.1;
            below = z.below;
            home = z.home;
          });
      alone = λ k1 k2 b1 b2. at_key (sleeper_of c.asleep) (at a.id l) (Some sleeping) k1 (λ y. y ≡ Some b1 → y_asl k2 ≡ Some b2 → b1.id ≡ b2.id → k1 ≡ k2)
          (λ e y. at_key (sleeper_of c.asleep) (at a.id l) (Some sleeping) k2 (λ z. z ≡ Some b2 → b1.id ≡ b2.id → k1 ≡ k2)
          (λ e' z q. e ∙ sym e')
          (λ n' z q. absurd ((X.sleepers k2 b2 z).not_now (sym q ∙ sym (ap (λ b. b.id) (act_is sleeping b1 y))))))
          (λ n y. at_key (sleeper_of c.asleep) (at a.id l) (Some sleeping) k2 (λ z. z ≡ Some b2 → b1.id ≡ b2.id → k1 ≡ k2)
          (λ e' z q. absurd ((X.sleepers k1 b1 y).not_now (q ∙ sym (ap (λ b. b.id) (act_is sleeping b2 z)))))
          (λ n' z q. X.alone k1 k2 b1 b2 y z q));
      not_now = X.distinct.0;
      distinct = X.distinct.1;
      now_below = X.below.0;
      below = X.below.1;
      inside = λ k o. at_key slots (at a.id l) (Some new_one) k (λ y. y ≡ Some o → (k.act < c.started) × (o.base.act < c.started))
          (λ e y. (subst (λ k. k.act < c.started) (sym e) X.below.0, subst (λ o. o.base.act < c.started) (some_is new_one o y) X.now_below))
          (λ n y. X.inside k o y);
    }
      where
        act_is : (a b : Activation) → Some a ≡ Some b → a ≡ b
        act_is a b e = cc

        fresh : Sleeper p signatures y_slots y_asl a.id c.started rest (at a.id l) sleeping
        fresh = record {
          nowhere = refl;
          frame = record { number = number; flow = d; half = sleeper_half d passes; goes = w };
          not_now =
              X.not_now.0;
          apart = X.not_now.1;
          below = X.now_below;
          home = X.below.0;
        }

    yield_stands : (d : FlowState) → Passes g d → Left d → GoodAt TS (yield_to c of (a ∷ rest) (Opens l)) slots
    yield_stands d passes w vals s = (
      yield_may vals,
      stands (record {
        same = refl;
        number = X.frames.0.number;
        flow = X.frames.0.goes.next;
        half = half_pass y_slots y_asl Runs a.id (length (lent_types a.fun)) (bind X.frames.0.flow l (signatures number).yields) X.frames.0.goes.next
            X.frames.0.goes.passes yield_half;
        goes = X.frames.0.goes.work;
        others = yield_others d passes w;
      }),
    )

  pub yield_good : (of : ℕ) (d : FlowState) → Passes g d → Left d → IsOpenSo (signatures number).yields (slots (at c.now.id of)) → IsShutAt g of
      → (callers : List Activation) (dest : Dest)
      → Others p signatures slots (sleeper_of c.asleep) c.now.id c.started (Waits c.now.id (length (lent_types c.now.fun)) (signatures number).yields dest)
      callers → GoodAt TS (yield_to c of callers dest) slots
  yield_good of d passes w is_open shut [] dest X vals s = over Stuck refl (λ e. absurd (cc))
  yield_good of d passes w is_open shut (a ∷ rest) (control.Result q) X vals s = over Stuck refl (λ e. absurd (cc))
  yield_good of d passes w is_open shut (a ∷ rest) (Opens l) X vals s = yield_stands of l a rest X is_open shut d passes w vals s
  yield_good of d passes w is_open shut (a ∷ rest) Nowhere X vals s = over Stuck refl (λ e. absurd (cc))

  pub open_of : (s : Status) (w : Way) (o : Option Origin) → Is s o → IsOpen s w → IsOpenSo w o
  open_of Own w o i h = absurd h
  open_of (Param u) w o i h = (i.0, i.1, i.2 ∙ h)
  open_of (Opened l) w o i h = (i.0, i.1, i.2 ∙ h)
  open_of (Bound u) w o i h = (i.0, i.1, i.2 ∙ h)

  -- ENTERING a new activation

  -- what is open while locals are handed to it, from the local i on; ls are still to be handed
  pub record Handing (slots' : Slots) (i : ℕ) (ls : List ℕ) : Type 0 where
    pub other : (k : Key) → k.act ≢ c.started → slots' k ≡ slots k
    pub later : (j : ℕ) → i ≤ j → slots' (at c.started j) ≡ None
    pub unbased : (k : Key) (o : Origin) → slots' k ≡ Some o → o.base.act ≢ c.started
    pub own : (k : Key) (o : Origin) → slots' k ≡ Some o → k.act ≡ c.started → o.base.act ≡ c.now.id
    pub rest : (k : Key) (o : Origin) → slots' k ≡ Some o → k.act ≡ c.started → Among o.base.local ls → ⊥

  -- the locals that were handed over, from i on, with what stands for each
  abbrev pub Handed : Signature → ℕ → List ℕ → Key → Origin → Type 0
  Handed s i [] k o = ⊥
  Handed s i (l ∷ ls) k o = ((k.local ≡ i) × (o.base ≡ at c.now.id l) × (o.path ≡ []) × (o.way ≡ (s.lent i).way)) ⊎ Handed s (suc i) ls k o

  pub now_fresh : c.now.id ≢ c.started
  now_fresh e = let lt = others.now_below in omega arith

  pub none_new : (j : ℕ) → slots (at c.started j) ≡ None
  none_new j = go (slots (at c.started j)) refl
    where
      go : (y : Option Origin) → slots (at c.started j) ≡ y → y ≡ None
      go None e = refl
      go (Some o) e = let lt = (others.inside (at c.started j) o e).0 in absurd (omega arith)

  pub handing_first : (ls : List ℕ) → Handing slots 0 ls
  handing_first ls = record {
    other = λ k n. refl;
    later = λ j le. none_new j;
    unbased = λ k o q e. let lt = (others.inside k o q).1 in absurd (omega arith);
    own = λ k o q e. let lt = (others.inside k o q).0 in absurd (omega arith);
    rest = λ k o q e i. let lt = (others.inside k o q).0 in absurd (omega arith);
  }

  -- what stands at the first locals of the new activation, in which way
  abbrev pub Lent : Slots → Signature → ℕ → List TyId → Type 0
  Lent slots' s i [] = Unit {0}
  Lent slots' s i (u ∷ us) = IsOpenSo (s.lent i).way (slots' (at c.started i)) × Lent slots' s (suc i) us

  module _ (turns n_opened : ℕ) (input output : List ℕ) (s : Signature) (h : FlowState) (passes : Passes g h) (t : Interaction Control) where
    abbrev pub E : Control
    E = record c { turns = turns; opened = n_opened; input = input; output = output }

    -- what is known once all are handed over
    pub record AllHanded (slots' slots2 : Slots) (i : ℕ) (ls : List ℕ) (us : List TyId) : Type 0 where
      pub handing : Handing slots2 (i + length us) []
      pub handed : (k : Key) (o : Origin) → slots2 k ≡ Some o → k.act ≡ c.started → (slots' k ≡ Some o) ⊎ Handed s i ls k o
      pub lent : Lent slots2 s i us
      pub kept : (j : ℕ) → j < i → slots2 (at c.started j) ≡ slots' (at c.started j)

    pub hands_good : (ls : List ℕ) (us : List TyId) (i : ℕ) (slots' : Slots) → Handing slots' i ls → Distinct ls
        → HandsOk (context p signatures number c.now.fun) h s i ls
        → ((slots2 : Slots) → AllHanded slots' slots2 i ls us → GoodAt TS t slots2) → GoodAt TS (hand_all E c.started i ls us t) slots'
    hands_good [] [] i slots' H dist ok cont = cont slots' (record {
      handing = record { other = H.other; later = λ j le. H.later j (omega arith); unbased = H.unbased; own = H.own; rest = λ k o q e i. i };
      handed = λ k o q e. inl q;
      lent = tt;
      kept = λ j lt. refl;
    })
    hands_good [] (u ∷ us) i slots' H dist ok cont = λ vals y. over Stuck refl (λ e. absurd (cc))
    hands_good (l ∷ ls) [] i slots' H dist ok cont = λ vals y. over Stuck refl (λ e. absurd (cc))
    hands_good (l ∷ ls) (u ∷ us) i slots' H dist ok cont =
        λ vals y. good_tell p TS (effect.Hand (at c.started i) (at c.now.id l)) (hand_all E c.started (suc i) ls us t) (mem slots' vals) y (may vals) (λ y.
        hands_good ls us (suc i) slots1 next dist.1 ok.1 (λ slots2 A. cont slots2 (record {
          handing = let z : suc i + length us ≡ i + suc (length us) = omega arith in subst (λ n. Handing slots2 n []) z A.handing;
          handed = λ k o q e. ⊎_elim (λ b. at_key slots' (at c.started i) (Some new) k (λ y. y ≡ Some o → (slots' k ≡ Some o) ⊎ Handed s i (l ∷ ls) k o)
              (λ ek y. let z = some_is new o y in
              inr (inl (ap (λ k. k.local) ek, ap (λ o. o.base) (sym z), ap (λ o. o.path) (sym z), ap (λ o. o.way) (sym z) ∙ new_way)))
              (λ n y. inl y) b) (λ b. inr (inr b)) (A.handed k o q e);
          lent = ((new, A.kept i (omega arith) ∙ set_same slots' (at c.started i) (Some new), new_way), A.lent);
          kept = λ j lt. A.kept j (omega arith) ∙ set_other slots' (at c.started i) (Some new) (at c.started j) (λ e. let e' : j ≡ i =
              ap (λ k. k.local) e in absurd (omega arith));
        })) _ y)
      where
        new : Origin
        new = record { base = at c.now.id l; path = []; way = memory.way_of (slots' (at c.now.id l)) }

        slots1 : Slots
        slots1 = set_at slots' (at c.started i) (Some (record { base = at c.now.id l; path = []; way = memory.way_of (slots' (at c.now.id l)) }))

        h_half : Half slots (sleeper_of c.asleep) Runs c.now.id (length (lent_types c.now.fun)) h
        h_half = half_pass slots (sleeper_of c.asleep) Runs c.now.id (length (lent_types c.now.fun)) g h passes half

        is_open : IsOpenSo (s.lent i).way (slots' (at c.now.id l))
        is_open = subst (IsOpenSo (s.lent i).way) (sym (H.other (at c.now.id l) now_fresh))
            (open_of (h.status l) (s.lent i).way (slots (at c.now.id l)) (h_half.status l) ok.0.status)

        new_way : memory.way_of (slots' (at c.now.id l)) ≡ (s.lent i).way
        new_way = ap memory.way_of is_open.1 ∙ is_open.2

        may : (vals : Key → Val) → MayHand (mem slots' vals) (at c.started i) (at c.now.id l)
        may vals = record {
          closed = H.later i (omega arith);
          shut = λ k o q e. H.unbased k o q (ap (λ k. k.act) e);
          other = λ e. now_fresh (sym (ap (λ k. k.act) e));
          origin = is_open.0;
          opened = is_open.1;
          free = λ k o q e. ⊎_elim (λ z. H.rest k o q z.1 (inl (ap (λ k. k.local) e)))
              (λ z. shut_at slots c.now.id h (view slots (sleeper_of c.asleep) c.now.id (length (lent_types c.now.fun)) h h_half) l ok.0.shut k o
              (sym (H.other k z.1) ∙ q) e) (eqb_tells k.act c.started);
        }

        next : Handing slots1 (suc i) ls
        next = record {
          other = λ k n. set_other slots' (at c.started i) (Some new) k (λ e. n (ap (λ k. k.act) e)) ∙ H.other k n;
          later = λ j le. set_other slots' (at c.started i) (Some new) (at c.started j) (λ e. let e' : j ≡ i = ap (λ k. k.local) e in absurd (omega arith))
              ∙ H.later j (omega arith);
          unbased = λ k o q. at_key slots' (at c.started i) (Some new) k (λ y. y ≡ Some o → o.base.act ≢ c.started)
              (λ _ y e. now_fresh (ap (λ o. o.base.act) (some_is new o y) ∙ e)) (λ n y. H.unbased k o y) q;
          own = λ k o q e. at_key slots' (at c.started i) (Some new) k (λ y. y ≡ Some o → o.base.act ≡ c.now.id)
              (λ _ y. ap (λ o. o.base.act) (sym (some_is new o y))) (λ n y. H.own k o y e) q;
          rest = λ k o q e. at_key slots' (at c.started i) (Some new) k (λ y. y ≡ Some o → Among o.base.local ls → ⊥)
              (λ _ y m. dist.0 (subst (λ l. Among l ls) (sym (ap (λ o. o.base.local) (some_is new o y))) m)) (λ n y m. H.rest k o y e (inr m)) q;
        }

  -- owned arguments are moved before anything is handed over
  pub moves_good : (go : Control → Interaction Control) → ((e : Control) → Like c e → GoodAt TS (go e) slots) → (d : FlowState) → Passes g d
      → (qs : List Place) (us : List TyId) (i : ℕ) → TakesOk (context p signatures number c.now.fun) d qs
      → (e : Control) → Like c e → GoodAt TS (move_all p e c.started i qs us go) slots
  moves_good go next d l [] [] i ok e k = next e k
  moves_good go next d l [] (u ∷ us) i ok e k = λ vals s. over Stuck refl (λ e. absurd (cc))
  moves_good go next d l (q ∷ qs) [] i ok e k = λ vals s. over Stuck refl (λ e. absurd (cc))
  moves_good go next d l (q ∷ qs) (u ∷ us) i ok e k =
      takes p signatures c slots number g half others d l q (λ e v. Perform (effect.Store (whole (record { act = c.started; local = i })) v)
      (move_all p e c.started (suc i) qs us go)) ok.0 (λ v e k vals s.
      good_tell p TS (effect.Store (whole (at c.started i)) v) (move_all p e c.started (suc i) qs us go) (mem slots vals) s (record {
        kept = λ k o y b. let lt = (others.inside k o y).1 in let z : o.base.act ≡ c.started = ap (λ k. k.act) b in absurd (omega arith);
        writable = λ o y. let n = none_new i in absurd (cc);
        there = tt;
        apart = λ k o y b. let lt = (others.inside k o y).1 in let z : o.base.act ≡ c.started = ap (λ k. k.act) b in absurd (omega arith);
      }) (λ s. moves_good go next (given (context p signatures number c.now.fun) d q)
      (passes_on g d _ l (given_pass (context p signatures number c.now.fun) d q)) qs us (suc i) ok.1 e k _ s)) e k

  -- the new activation runs, and what ran waits for it
  module _ (sh : Shaped p.core) (each : (n : ℕ) (f : Fun) → slice_get p.core.funs n ≡ Some f
      → BodyFlows (context_of p.stage p.core signatures n f)) (n : ℕ) (f : Fun) (found : slice_get p.core.funs n ≡ Some f) (dest : Dest) (slots2 : Slots)
      (H : Handing slots2 (length (lent_types f)) []) (lent : Lent slots2 (signatures n) 0 (lent_types f)) where
    abbrev pub top : Top
    top = Waits c.started (length (lent_types f)) (signatures n).yields dest

    lent_is : (us : List TyId) (i : ℕ) → Lent slots2 (signatures n) i us → ((j : ℕ) → i + length us ≤ j → slots2 (at c.started j) ≡ None) → (j : ℕ)
        → Is (first_status (context p signatures n f) (slice_get us j) (i + j)) (slots2 (at c.started (i + j)))
    lent_is [] i h later j = later (i + j) (omega arith)
    lent_is (u ∷ us) i h later zero = let z : i ≡ i + 0 = omega arith in subst (λ k. IsOpenSo ((signatures n).lent k).way (slots2 (at c.started k))) z h.0
    lent_is (u ∷ us) i h later (suc j) = let z : suc i + j ≡ i + suc j = omega arith in
        subst (λ k. Is (first_status (context p signatures n f) (slice_get us j) k) (slots2 (at c.started k))) z
        (lent_is us (suc i) h.1 (λ j le. later j (omega arith)) j)

    no_asleep : (j : ℕ) → (sleeper_of c.asleep) (at c.started j) ≡ None
    no_asleep j = go (sleeper_of c.asleep (at c.started j)) refl
      where
        go : (y : Option Activation) → (sleeper_of c.asleep) (at c.started j) ≡ y → y ≡ None
        go None e = refl
        go (Some b) e = let lt = (others.sleepers (at c.started j) b e).home in absurd (omega arith)

    no_sleep : (o : Option TyId) (j : ℕ) (y : Option Activation) → y ≡ None → Sl (first_status (context p signatures n f) o j) y
    no_sleep None j y e = e
    no_sleep (Some t) j y e = e

    are_params : (us : List TyId) (j k : ℕ) → j < length us → (v : Way) × (first_status (context p signatures n f) (slice_get us j) k ≡ Param v)
    are_params [] j k lt = absurd (omega arith)
    are_params (u ∷ us) zero k lt = (((signatures n).lent k).way, refl)
    are_params (u ∷ us) (suc j) k lt = are_params us j k (omega arith)

    begun_half : Half slots2 (sleeper_of c.asleep) Runs c.started (length (lent_types f)) (first (context p signatures n f))
    begun_half = record {
      status = λ j. let z : 0 + j ≡ j = omega arith in
          subst (λ k. Is (first_status (context p signatures n f) (slice_get (lent_types f) j) k) (slots2 (at c.started k))) z
          (lent_is (lent_types f) 0 lent (λ j le. H.later j (omega arith)) j);
      slept = λ j. no_sleep (slice_get (lent_types f) j) j (sleeper_of c.asleep (at c.started j)) (no_asleep j);
      params = λ j lt. are_params (lent_types f) j j lt;
      all_listed = λ q o y b. absurd (H.unbased q o y b);
    }

    enter_change : Change c.started c.now.id slots slots2 (sleeper_of c.asleep) (sleeper_of c.asleep)
    enter_change = record {
      own = λ y j n. H.other (at y j) n;
      base = λ q o h n. ⊎_elim (λ e. absurd (n (H.own q o h e.1))) (λ e. sym (H.other q e.1) ∙ h) (eqb_tells q.act c.started);
      sleep = λ y j n. refl;
    }

    begun_others : (d : FlowState)
        → Half slots2 (sleeper_of c.asleep) (Waits c.started (length (lent_types f)) (signatures n).yields dest) c.now.id (length (lent_types c.now.fun)) d
        → GoesBy (context p signatures number c.now.fun) c.now.id d c.now.work (signatures n).yields dest
        → Others p signatures slots2 (sleeper_of c.asleep) c.started (suc c.started) (Waits c.started (length (lent_types f)) (signatures n).yields dest)
        (c.now ∷ c.callers)
    begun_others d h w = record {
      frames = (
        record { number = number; flow = d; half = h; goes = w },
        callers_keep p signatures slots slots2 (sleeper_of c.asleep) (sleeper_of c.asleep) c.started c.now.id enter_change (waits p signatures c.now number)
            c.callers (below_notin c.started c.callers others.below) others.not_now others.frames,
      );
      sleepers = λ q b e. let z = others.sleepers q b e in let ne : b.id ≢ c.started = (λ y. let lt = z.below in omega arith) in record {
        nowhere = z.nowhere;
        frame = framed_keep p signatures slots slots2 (sleeper_of c.asleep) (sleeper_of c.asleep) c.started c.now.id enter_change (Sleeps q) b ne z.not_now
            z.frame;
        not_now = ne;
        apart = (z.not_now, z.apart);
        below = (let lt = z.below in omega arith);
        home = (let lt = z.home in omega arith);
      };
      alone = others.alone;
      not_now = ((λ e. let lt = others.now_below in omega arith), below_notin c.started c.callers others.below);
      distinct = (others.not_now, others.distinct);
      now_below = omega arith;
      below = ((let lt = others.now_below in omega arith), below_more c.started c.callers others.below);
      inside = λ q o h. ⊎_elim
          (λ e. let e' = e.1 in ((omega arith), (let a = H.own q o h e' in let lt = others.now_below in omega arith)))
          (λ e. let s = others.inside q o (sym (H.other q e.1) ∙ h) in ((let y = s.0 in omega arith), (let y = s.1 in omega arith)))
          (eqb_tells q.act c.started);
    }

    pub waiting_half : (d : FlowState) → Passes g d → ((q : Key) (o : Origin) → slots2 q ≡ Some o → o.base.act ≡ c.now.id → Extra top q
        ⊎ Listed (Fits (sleeper_of c.asleep) top c.now.id) d q o)
        → Half slots2 (sleeper_of c.asleep) top c.now.id (length (lent_types c.now.fun)) d
    waiting_half d l cov = record {
      status = λ j. subst (λ s. Is s (slots2 (at c.now.id j))) (l.status j)
          (subst (Is (g.status j)) (sym (H.other (at c.now.id j) now_fresh)) (half.status j));
      slept = λ j. subst (λ s. Sl s (sleeper_of c.asleep (at c.now.id j))) (l.status j) (half.slept j);
      params = λ j lt. let r = half.params j lt in (r.0, sym (l.status j) ∙ r.1);
      all_listed = cov;
    }

    -- what is open at the new activation are its parameters
    pub are_lent : (q : Key) (o : Origin) → slots2 q ≡ Some o → q.act ≡ c.started → ParamOf c.started (length (lent_types f)) q
    are_lent q o h e = (
      e,
      ⊎_elim (λ lt. lt) (λ le. let n = H.later q.local le in let e' : slots2 (at c.started q.local) ≡ slots2 q =
          ap (λ i. slots2 (at i q.local)) (sym e) in absurd (cc)) (side q.local (length (lent_types f))),
    )
      where
        side : (a b : ℕ) → (a < b) ⊎ (b ≤ a)
        side a b = grind arith

    pub begins_so : (turns n_opened : ℕ) (input output : List ℕ) (d : FlowState)
        → Half slots2 (sleeper_of c.asleep) top c.now.id (length (lent_types c.now.fun)) d
        → GoesBy (context p signatures number c.now.fun) c.now.id d c.now.work (signatures n).yields dest
        → TS (begun (record c { turns = turns; opened = n_opened; input = input; output = output }) f dest) slots2
    begins_so turns n_opened input output d h w = record {
      same = refl;
      number = n;
      flow = first (context p signatures n f);
      half = begun_half;
      goes = let b = each n f found in record { around = NoLoop; last = b.0; transfers = b.1; shaped = (sh.funs n f found).body; outer = tt; next = tt };
      others = begun_others d h w;
    }
