-- A core that has a flow is calm in every run.
use Rattle.std.proofs.Common.{◌≡◌, ◌≢◌, ◌⊎◌, inl, inr, ⊎_elim, ℕ, zero, suc, ◌+◌, Bool, true, false, cond, List, [], ◌∷◌, length, Option, Some, None}
use Rattle.std.proofs.Common.{slice_get, refl, sym, ap, ◌∙◌, subst, arith}
use Rattle.std.proofs.lemmas.Bool.Decides.{eqb_tells}
use Rattle.hy_base.specs.declared.run.End.TheVariants as end
use Rattle.hy_core.specs.Plain.{Place, Done, Then, Stmt, Built, Set, Lend, Close, Move, Copy, Drop, Call, Project, Slide, Yield, If, While, Break, Continue}
use Rattle.hy_core.specs.Plain.{Leave, Fun, is_ramp, lent_types, types_of}
use Rattle.hy_core.specs.Values.{Val}
use Rattle.hy_core.specs.Memory.{Key, Reads, Writes, Origin, Copies, copying, no_copies}
use Rattle.hy_core.specs.Runs as effect
use Rattle.hy_core.specs.Runs.{Interaction, Fetch, Inspect, Perform, Return, apply, interpret, steps}
use Rattle.hy_core.specs.Operators.{same_flags}
use Rattle.hy_core.specs.Calm.{StaysCalm}
use Rattle.hy_core.specs.Control.{Form, form, local_type, Value, Unsets, Work, Idle, Rest, Loop, Test}
use Rattle.hy_core.specs.Control.{Drops, Dest, Opens, Nowhere, Activation, Nap, Halt, Ends, Stuck}
use Rattle.hy_core.specs.Control.{NotSet, NotOpened, Control, Stage, Deinitialises, GivesUp, Setting, stop, with_work, key, count_one, with_some, trapped}
use Rattle.hy_core.specs.Control.{turn, with_flag, spot, read, take, write, read_number, read_flag, read_array, sleeper_of, wake}
use Rattle.hy_core.specs.Control as control
use Rattle.hy_core.specs.Statements.{constant, Charge, Paid, Unpaid, charge, charged, begun, hand_all, enter, is_counted, drop, broken, continued, does}
use Rattle.hy_core.specs.Statements.{tested, goes_on, interaction_of, interaction, begins_with, start}
use Rattle.hy_core.specs.Typing.{Among, Distinct, still}
use Rattle.hy_core.specs.Shaped.{ShapedAll, IsShaped, Shaped}
use Rattle.hy_core.specs.Flow.{Holder, InLocal, InSubscript, OpenPlace, Own, FlowState, Signature, Context, with_open_place, IsOpen, IsShutAt, StoreOk}
use Rattle.hy_core.specs.Flow.{GiveOk, given, stored, FlowsInto, Stores, Closes, Slides, HandsOk, come_from, held_by, TakesOk, all_given, Calls, Projects}
use Rattle.hy_core.specs.Flow.{Around, NoLoop, InLoop, Transfers, first_status, first, BodyFlows, context_of}
use Rattle.hy_core.specs.Flow.{signatures_of, signature_of, HasFlow, where_is, set_to}
use Rattle.hy_core.proofs.OpenPlaces.{Sound, nothing_open}
use Rattle.hy_core.proofs.CalmWalks.{Slots, at, mem, Fine, over, stands, Good, good_calm, good_next, good_sound, GoodAt, Is, Listed, View, good_tell}
use Rattle.hy_core.proofs.CalmWalks.{good_some, good_turn, good_flag, good_if, good_local, may_write, good_spot, good_spot_drop, good_take}
use Rattle.hy_core.proofs.CalmFrames.{Passes, passes_self, passes_on, flows_pass, where_pass, AroundBy}
use Rattle.hy_core.proofs.CalmFrames.{WorkFlows, BreakFlows, AgainFlows, break_flows, again_flows, Sl}
use Rattle.hy_core.proofs.CalmFrames.{Runs, Waits, Fits, Half, listed_map, half_pass, context, waits, Others, Stands, view}
use Rattle.hy_core.proofs.CalmSteps.{Like, like_self, like_with, like_count, like_id, like_stands}
use Rattle.hy_core.proofs.CalmDrops.{may_more, tasks_good}
use Rattle.hy_core.proofs.CalmStatements.{given_pass, set_pass, stored_pass, all_given_pass, come_from_pass}
use Rattle.hy_core.proofs.CalmStatements.{come_from_back, closes_end, slides_end, fine, fine_work}
use Rattle.hy_core.proofs.CalmStatements.{takes, values, stores, built_good}
use Rattle.hy_core.proofs.CalmBodies.{lend_good, close_good, leave_good, slide_good}
use Rattle.hy_core.specs.Meaning.{Run, setting, TouchesCalmly, NeverHalts}
use Rattle.hy_core.specs.Ready.{FlowAgrees, ReadyCoresAgree}
use Rattle.hy_core.proofs.LockStep.{meanings_agree}
use Rattle.hy_core.proofs.CalmRuns.{Handing, Handed, handing_first, AllHanded, hands_good, moves_good, are_lent, waiting_half, begins_so, yield_good, open_of}

-- ENTRIES of what is lent to a subscript

pub held_status : (x : Context) (to : ℕ) (g : FlowState) (s : Signature) (i : ℕ) (ls : List ℕ) → (held_by x to g s i ls).status ≡ g.status
held_status x to g s i [] = refl
held_status x to g s i (l ∷ ls) =
    held_status x to (with_open_place g (record { holder = InSubscript to; base = l; path = []; way = (s.lent i).way })) s (suc i) ls

held_in : (x : Context) (to : ℕ) (g : FlowState) (s : Signature) (i : ℕ) (ls : List ℕ) (e : OpenPlace) → Among e g.open_places
    → Among e (held_by x to g s i ls).open_places
held_in x to g s i [] e h = h
held_in x to g s i (l ∷ ls) e h =
    held_in x to (with_open_place g (record { holder = InSubscript to; base = l; path = []; way = (s.lent i).way })) s (suc i) ls e (inr h)

held_shut : (x : Context) (to : ℕ) (g : FlowState) (s : Signature) (i : ℕ) (ls : List ℕ) (l : ℕ) → (Among l ls → ⊥) → IsShutAt g l
    → IsShutAt (held_by x to g s i ls) l
held_shut x to g s i [] l n h = h
held_shut x to g s i (k ∷ ls) l n h =
    held_shut x to (with_open_place g (record { holder = InSubscript to; base = k; path = []; way = (s.lent i).way })) s (suc i) ls l (λ m. n (inr m))
    (λ e m b. ⊎_elim (λ z. n (inl (sym b ∙ ap (λ e. e.base) z))) (λ z. h e z b) m)

-- a local that is handed over is open
handed_open : (x : Context) (h : FlowState) (s : Signature) (i : ℕ) (ls : List ℕ) (l : ℕ) → HandsOk x h s i ls → h.status l ≡ Own → Among l ls → ⊥
handed_open x h s i [] l ok own m = m
handed_open x h s i (k ∷ ls) l ok own (inl e) = subst (λ st. IsOpen st (s.lent i).way) (ap h.status (sym e) ∙ own) ok.0.status
handed_open x h s i (k ∷ ls) l ok own (inr m) = handed_open x h s (suc i) ls l ok.1 own m

module _ (p : Setting) (signatures : ℕ → Signature) (signs : (n : ℕ) → signatures n ≡ signature_of (slice_get p.core.funs n)) (sh : Shaped p.core)
    (each : (n : ℕ) (f : Fun) → slice_get p.core.funs n ≡ Some f → BodyFlows (context_of p.stage p.core signatures n f)) where
  abbrev pub TS : Option Halt → Control → Slots → Type 0
  TS = Stands p signatures

  module _ (c : Control) (slots : Slots) (number : ℕ) (g : FlowState) (half : Half slots (sleeper_of c.asleep) Runs c.now.id (length (lent_types c.now.fun)) g)
      (others : Others p signatures slots (sleeper_of c.asleep) c.now.id c.started (waits p signatures c.now number) c.callers) where
    abbrev x : Context
    x = context p signatures number c.now.fun

    abbrev Left : FlowState → Type 0
    Left d = WorkFlows (context p signatures number c.now.fun) c.now.id c.now.work d

    abbrev HandedTo : Signature → ℕ → List ℕ → Key → Origin → Type 0
    HandedTo s i ls k o = Handed p signatures c slots number g half others s i ls k o

    now_view : View slots c.now.id g
    now_view = view slots (sleeper_of c.asleep) c.now.id (length (lent_types c.now.fun)) g half

    -- what stands for what was handed over has an entry
    held_listed : (to n k' : ℕ) (F : Holder → Key → Type 0) (d : FlowState) (s : Signature) (i : ℕ) (ls : List ℕ) (k : Key) (o : Origin)
        → F (InSubscript to) k → HandedTo s i ls k o → Listed F (held_by (context p signatures number c.now.fun) to d s i ls) k o
    held_listed to n k' F d s i [] k o f h = absurd h
    held_listed to n k' F d s i (l ∷ ls) k o f (inl h) = record {
      open_place = record { holder = InSubscript to; base = l; path = []; way = (s.lent i).way };
      among = held_in x to (with_open_place d (record { holder = InSubscript to; base = l; path = []; way = (s.lent i).way })) s (suc i) ls _ (inl refl);
      base = ap (λ k. k.local) (sym h.1);
      way = sym h.3;
      rest = [];
      path = h.2;
      fits = f;
    }
    held_listed to n k' F d s i (l ∷ ls) k o f (inr h) =
        held_listed to n k' F (with_open_place d (record { holder = InSubscript to; base = l; path = []; way = (s.lent i).way })) s (suc i) ls k o f h

    enter_good : (ramp : Bool) (n : ℕ) (lent : List ℕ) (owned : List Place) (dest : Dest) (ok : TakesOk (context p signatures number c.now.fun) g owned)
        → Distinct lent
        → HandsOk (context p signatures number c.now.fun) (all_given (context p signatures number c.now.fun) g owned) (signatures n) 0 lent
        → ((f : Fun) (turns n_opened : ℕ) (input output : List ℕ) → slice_get p.core.funs n ≡ Some f → (slots2 : Slots)
        → AllHanded p signatures c slots number g half others turns n_opened input output (signatures n)
        (all_given (context p signatures number c.now.fun) g owned) (all_given_pass (context p signatures number c.now.fun) g owned)
        (turn (record c { turns = turns; opened = n_opened; input = input; output = output }) turns (λ c. Return (begun c f dest))) slots slots2 0 lent
        (lent_types f)
        → (j : ℕ) → TS c.halt (begun (record c { turns = j; opened = n_opened; input = input; output = output }) f dest) slots2)
        → GoodAt (TS c.halt) (enter p c ramp (slice_get p.core.funs n) lent owned dest) slots
    enter_good ramp n lent owned dest ok dist hands next = starts (slice_get p.core.funs n) refl
      where
        after : (f : Fun) → slice_get p.core.funs n ≡ Some f → (e : Control) → Like c e
            → GoodAt (TS c.halt) (hand_all e e.started zero lent (lent_types f) (turn e e.turns (λ c. Return (begun c f dest)))) slots
        after f found e l =
            subst (λ e. GoodAt (TS c.halt) (hand_all e e.started zero lent (lent_types f) (turn e e.turns (λ c. Return (begun c f dest)))) slots) (sym l.is)
            (hands_good p signatures c slots number g half others l.turns l.opened l.input l.output (signatures n)
            (all_given (context p signatures number c.now.fun) g owned) (all_given_pass (context p signatures number c.now.fun) g owned)
            (turn (record c { turns = l.turns; opened = l.opened; input = l.input; output = l.output }) l.turns (λ c. Return (begun c f dest))) lent
            (lent_types f) 0 slots
            (handing_first p signatures c slots number g half others lent) dist hands
            (λ slots2 A vals s. good_turn p (TS c.halt) (record c { turns = l.turns; opened = l.opened; input = l.input; output = l.output }) l.turns
            (λ c. Return (begun c f dest)) (mem slots2 vals) (λ j. stands (next f l.turns l.opened l.input l.output found slots2 A j))))

        starts : (o : Option Fun) → slice_get p.core.funs n ≡ o → GoodAt (TS c.halt) (enter p c ramp o lent owned dest) slots
        starts None e vals s = over Stuck refl (λ e. absurd (cc))
        starts (Some f) e vals s = good_if p (TS c.halt) (same_flags (is_ramp f) ramp) c Stuck _ (mem slots vals) (λ e. absurd (cc)) (λ _.
            moves_good p signatures c slots number g half others _ (after f e) g (passes_self g) owned f.owned (length (lent_types f)) ok c (like_self c)
            vals s)

    call_good : (n : ℕ) (lent : List ℕ) (owned : List Place) (to : Place) (d : FlowState) → Distinct lent
        → Calls (context p signatures number c.now.fun) g n lent owned to d → Left d → GoodAt (TS c.halt) (does p c (Call n lent owned to)) slots
    call_good n lent owned to d dist t w = enter_good false n lent owned (control.Result to) t.0 dist t.1 (λ f turns n_opened input output found slots2 A j.
        let z : 0 + length (lent_types f) ≡ length (lent_types f) = omega arith in
        let H = subst (λ k. Handing p signatures c slots number g half others slots2 k []) z A.handing in
        begins_so p signatures c slots number g half others sh each n f found (control.Result to) slots2 H A.lent j n_opened input output h2
        (waiting_half p signatures c slots number g half others sh each n f found (control.Result to) slots2 H A.lent h2 passes (λ q o y b. ⊎_elim
        (λ e. inl (are_lent p signatures c slots number g half others sh each n f found (control.Result to) slots2 H A.lent q o y e.1))
        (λ e. ⊎_elim (λ z. absurd z) (λ l. inr (listed_map _ _ g h2 q o (λ en i u. (passes.open_places en i, wait f en.holder q u)) l))
        (half.all_listed q o (sym (H.other q e.1) ∙ y) b))
        (eqb_tells q.act c.started)))
        (record {
          indexes = store.indexes;
          free = store.free;
          next = d;
          passes =
              passes_on h2 (stored x h2 to) d (stored_pass x h2 to) (flows_pass x _ d stores_d.1);
          work = w;
        }))
      where
        h1 : FlowState
        h1 = all_given (context p signatures number c.now.fun) g owned

        h2 : FlowState
        h2 = come_from (context p signatures number c.now.fun) (all_given (context p signatures number c.now.fun) g owned) (signatures n) 0 lent

        passes : Passes g (come_from (context p signatures number c.now.fun) (all_given (context p signatures number c.now.fun) g owned) (signatures n) 0 lent)
        passes = passes_on g (all_given (context p signatures number c.now.fun) g owned) _ (all_given_pass x g owned)
            (come_from_pass x (all_given (context p signatures number c.now.fun) g owned) (signatures n) 0 lent)

        stores_d : Stores (context p signatures number c.now.fun)
            (come_from (context p signatures number c.now.fun) (all_given (context p signatures number c.now.fun) g owned) (signatures n) 0 lent) (Some to)
            d
        stores_d = t.2

        store : StoreOk (context p signatures number c.now.fun)
            (come_from (context p signatures number c.now.fun) (all_given (context p signatures number c.now.fun) g owned) (signatures n) 0 lent) to
        store = stores_d.0

        wait : (f : Fun) (holder : Holder) (q : Key) → Fits (sleeper_of c.asleep) Runs c.now.id holder q
            → Fits (sleeper_of c.asleep) (Waits c.started (length (lent_types f)) (signatures n).yields (control.Result to)) c.now.id holder q
        wait f (InLocal j) q u = u
        wait f (InSubscript t) q u = u

    project_good : (n : ℕ) (lent : List ℕ) (owned : List Place) (to : ℕ) (d : FlowState) → Distinct lent
        → Projects (context p signatures number c.now.fun) g n lent owned to d → Left d → GoodAt (TS c.halt) (does p c (Project n lent owned to)) slots
    project_good n lent owned to d dist t w = enter_good true n lent owned (Opens to) t.0 dist t.1 (λ f turns n_opened input output found slots2 A j.
        let z : 0 + length (lent_types f) ≡ length (lent_types f) = omega arith in
        let H = subst (λ k. Handing p signatures c slots number g half others slots2 k []) z A.handing in
        begins_so p signatures c slots number g half others sh each n f found (Opens to) slots2 H A.lent j n_opened input output held
        (waiting_half p signatures c slots number g half others sh each n f found (Opens to) slots2 H A.lent held passes (λ q o y b. ⊎_elim
        (λ e. inr (held_listed to n 0 (Fits (sleeper_of c.asleep) (Waits c.started (length (lent_types f)) (signatures n).yields (Opens to)) c.now.id) h2
        (signatures n) 0 lent q o
        (inr (refl, are_lent p signatures c slots number g half others sh each n f found (Opens to) slots2 H A.lent q o y e.1))
        (new_one q o e.1 (A.handed q o y e.1))))
        (λ e. ⊎_elim (λ z. absurd z) (λ l. inr (listed_map _ _ g held q o (λ en i u. (passes.open_places en i, wait f en.holder q u)) l))
        (half.all_listed q o (sym (H.other q e.1) ∙ y) b))
        (eqb_tells q.act c.started)))
        (record { own = own; shut = shut; next = d; passes = flows_pass x _ d t.3; work = w }))
      where
        h1 : FlowState
        h1 = all_given (context p signatures number c.now.fun) g owned

        h2 : FlowState
        h2 = come_from (context p signatures number c.now.fun) (all_given (context p signatures number c.now.fun) g owned) (signatures n) 0 lent

        held : FlowState
        held = held_by (context p signatures number c.now.fun) to
            (come_from (context p signatures number c.now.fun) (all_given (context p signatures number c.now.fun) g owned) (signatures n) 0 lent)
            (signatures n) 0 lent

        to_come : Passes g (come_from (context p signatures number c.now.fun)
            (all_given (context p signatures number c.now.fun) g owned) (signatures n) 0 lent)
        to_come = passes_on g (all_given (context p signatures number c.now.fun) g owned) _ (all_given_pass x g owned)
            (come_from_pass x (all_given (context p signatures number c.now.fun) g owned) (signatures n) 0 lent)

        passes : Passes g
            (held_by (context p signatures number c.now.fun) to
            (come_from (context p signatures number c.now.fun) (all_given (context p signatures number c.now.fun) g owned) (signatures n) 0 lent)
            (signatures n) 0 lent)
        passes = passes_on g (come_from (context p signatures number c.now.fun) (all_given (context p signatures number c.now.fun) g owned) (signatures n) 0
            lent) _ to_come
            (record {
              status = λ j. ap (λ s. s j)
                  (sym (held_status x to (come_from (context p signatures number c.now.fun) (all_given (context p signatures number c.now.fun) g owned)
                  (signatures n) 0 lent) (signatures n) 0 lent));
              open_places =
                  λ e i. held_in x to (come_from (context p signatures number c.now.fun) (all_given (context p signatures number c.now.fun) g owned)
                  (signatures n) 0 lent) (signatures n) 0 lent e i;
            })

        back : Passes (come_from (context p signatures number c.now.fun) (all_given (context p signatures number c.now.fun) g owned) (signatures n) 0 lent)
            (all_given (context p signatures number c.now.fun) g owned)
        back = come_from_back x (all_given (context p signatures number c.now.fun) g owned) (signatures n) 0 lent

        own : (held_by (context p signatures number c.now.fun) to
            (come_from (context p signatures number c.now.fun) (all_given (context p signatures number c.now.fun) g owned) (signatures n) 0 lent)
            (signatures n) 0 lent).status to ≡ Own
        own = ap (λ s. s to)
            (held_status x to (come_from (context p signatures number c.now.fun) (all_given (context p signatures number c.now.fun) g owned) (signatures n)
            0 lent) (signatures n) 0 lent) ∙ back.status to ∙ t.2.own

        shut : IsShutAt
            (held_by (context p signatures number c.now.fun) to
            (come_from (context p signatures number c.now.fun) (all_given (context p signatures number c.now.fun) g owned) (signatures n) 0 lent)
            (signatures n) 0 lent) to
        shut = held_shut x to (come_from (context p signatures number c.now.fun) (all_given (context p signatures number c.now.fun) g owned) (signatures n)
            0 lent) (signatures n) 0 lent to
            (handed_open x (all_given (context p signatures number c.now.fun) g owned) (signatures n) 0 lent to t.1 t.2.own)
            (λ e m b. t.2.shut e (back.open_places e m) b)

        new_one : (q : Key) (o : Origin) → q.act ≡ c.started → (slots q ≡ Some o) ⊎ HandedTo (signatures n) 0 lent q o → HandedTo (signatures n) 0 lent q o
        new_one q o e (inl h) = let lt = (others.inside q o h).0 in absurd (omega arith)
        new_one q o e (inr h) = h

        wait : (f : Fun) (holder : Holder) (q : Key) → Fits (sleeper_of c.asleep) Runs c.now.id holder q
            → Fits (sleeper_of c.asleep) (Waits c.started (length (lent_types f)) (signatures n).yields (Opens to)) c.now.id holder q
        wait f (InLocal j) q u = u
        wait f (InSubscript t) q u = ⊎_elim inl (λ z. absurd z) u

    -- STATEMENTS

    drop_good : (place : Place) (d : FlowState) → GiveOk (context p signatures number c.now.fun) g place
        → FlowsInto (context p signatures number c.now.fun) (given (context p signatures number c.now.fun) g place) d → Left d → (s : Stage)
        → GoodAt (TS c.halt) (drop p s c place) slots
    drop_good place d ok flows w Deinitialises = good_spot_drop p (TS c.halt) slots g c.now.id now_view (Like c) (like_count c) (like_id c) place _ ok.exact
        ok.free (λ e l. stands (like_stands p signatures c.halt c e slots l (record {
          same = refl;
          number = number;
          flow = d;
          half = half_pass slots (sleeper_of c.asleep) Runs c.now.id (length (lent_types c.now.fun)) g d passes half;
          goes = w;
          others = others;
        })))
        (λ e vals u t l s begins there. subst (λ (e : Control). Good (TS c.halt)
        (Return (with_work e (Drops (Value (record { key = at c.now.id place.local; path = u }) ∷ Unsets (record { key = at c.now.id place.local; path = u })
        ∷ []) e.now.work))) (mem slots vals)) (sym l.is)
        (fine_work p signatures (record c { turns = l.turns; opened = l.opened; input = l.input; output = l.output }) slots number g half others g
        (Drops (Value (record { key = at c.now.id place.local; path = u }) ∷ Unsets (record { key = at c.now.id place.local; path = u }) ∷ []) c.now.work)
        (passes_self g) (
          (
            (refl, may_more g place.local (still place.steps) u begins ok.free),
            (
              (
                refl,
                may_more g place.local (still place.steps) u begins
                    ok.free,
              ),
              tt,
            ),
          ),
          (d, passes, w),
        ) vals s)) c (like_self c)
      where
        passes : Passes g d
        passes = passes_on g (given x g place) d (given_pass x g place) (flows_pass x _ d flows)
    drop_good place d ok flows w GivesUp =
        good_take p (TS c.halt) slots g c.now.id now_view (Like c) (like_count c) (like_id c) effect.Discarded place _ ok.exact ok.free
        (λ e v l. fine p signatures c slots number g half others d (passes_on g (given x g place) d (given_pass x g place) (flows_pass x _ d flows)) w e l)
        c (like_self c)

    copy_good : (to : Place) (d : FlowState) → Stores (context p signatures number c.now.fun) g (Some to) d → Left d → (v : Val) (y : Charge) (e : Control)
        → Like c e → GoodAt (TS c.halt) (charged e y (λ c. write p c to v Return)) slots
    copy_good to d t w v (Paid k o) e l =
        stores p signatures c slots number g half others g (passes_self g) (Some to) d t w v (record e { turns = k; opened = o })
        (like_with c e k o e.input e.output l)
    copy_good to d t w v (Unpaid o) e l = λ vals s. over (Ends end.Spent) refl (λ e. absurd (cc))

    statement_good : (a : Around (context p signatures number c.now.fun)) (s : Stmt) (d : FlowState)
        → Transfers (context p signatures number c.now.fun) a g s d → IsShaped p.core c.now.fun s → Left d
        → AroundBy (context p signatures number c.now.fun) a (BreakFlows (context p signatures number c.now.fun) c.now.id c.now.work)
        (AgainFlows (context p signatures number c.now.fun) c.now.id c.now.work) → GoodAt (TS c.halt) (does p c s) slots
    statement_good a (Built o to from spans) d t is w out = built_good p signatures c slots number g half others o to from spans d t w c (like_self c)
    statement_good a (Set to n) d t is w out =
        good_spot p (TS c.halt) slots g c.now.id now_view (Like c) (like_count c) (like_id c) Writes to _ t.0.indexes t.0.free
        (λ e vals u ty l s begins there.
        good_some p (TS c.halt) e (constant (form p.core.types ty) n) _ (mem slots vals) (λ v _.
        good_tell p (TS c.halt) (effect.Store (record { key = at c.now.id to.local; path = u }) v) (Return e) (mem slots vals) s
        (may_write p (TS c.halt) slots g c.now.id now_view (Like c) (like_count c) (like_id c) vals to.local _ u t.0.free begins there)
        (λ s. fine p signatures c slots number g half others d (passes_on g (set_to x g to n) d (set_pass x g to n) (flows_pass x _ d t.1)) w e l _ s))) c
        (like_self c)
    statement_good a (Lend to place true) d t is w out =
        lend_good p signatures c slots number g half others to place Writes (is_counted place.steps) d t.0 t.1 w
    statement_good a (Lend to place false) d t is w out =
        lend_good p signatures c slots number g half others to place Reads (is_counted place.steps) d t.0 t.1 w
    statement_good a (Close l) d t is w out = let cl : Closes (context p signatures number c.now.fun) g l t.0 d = t.2 in
        close_good p signatures c slots number g half others l t.0 d t.1 cl.0 (closes_end x g l t.0 d cl.2) w
    statement_good a (Move to from) d t is w out =
        let st : Stores (context p signatures number c.now.fun) (given (context p signatures number c.now.fun) g from) (Some to) d = t.1 in
        takes p signatures c slots number g half others g (passes_self g) from _ t.0
        (λ v. stores p signatures c slots number g half others (given x g from) (given_pass x g from) (Some to) d st w v) c (like_self c)
    statement_good a (Copy to from) d t is w out = let st : Stores (context p signatures number c.now.fun) g (Some to) d = t.2 in
        values p signatures c slots number g half others g (passes_self g) from _ t.0 (λ v e l. copy_good to d st w v (charge v e.turns e.opened) e l) c
        (like_self c)
    statement_good a (Drop place) d t is w out = drop_good place d t.0 t.2 w p.stage
    statement_good a (Call n lent owned to) d t is w out = call_good n lent owned to d is.7 t w
    statement_good a (Project n lent owned to) d t is w out = project_good n lent owned to d is.7 t w
    statement_good a (Slide l) d t is w out = let sl : Slides (context p signatures number c.now.fun) g l d = t.2 in
        slide_good p signatures c slots number g half others l t.0 d t.1 sl.0 (slides_end x g l d sl.2) w
    statement_good a (Yield l) d t is w out =
        yield_good p signatures c slots number g half others l d (record { status = t.5.status; open_places = t.5.open_places }) w
        (open_of p signatures c slots number g half others (g.status l) (signatures number).yields (slots (at c.now.id l)) (half.status l) t.2) t.3
        c.callers c.now.dest others
    statement_good a (If on u v) d t is w out =
        good_local p (TS c.halt) slots g c.now.id now_view (Like c) (like_count c) (like_id c) c on
        (λ y. with_flag c y (λ b. Return (with_work c (Rest (cond b u v) c.now.work)))) (like_self c) t.0
        (λ y vals s. good_flag p (TS c.halt) c y (λ b. Return (with_work c (Rest (cond b u v) c.now.work))) (mem slots vals) (λ b. branch b vals s))
      where
        branch : (b : Bool) → GoodAt (TS c.halt) (Return (with_work c (Rest (cond b u v) c.now.work))) slots
        branch true =
            fine_work p signatures c slots number g half others (where_is x g on true) (Rest u c.now.work) (where_pass x g on true)
            (record { around = a; last = d; transfers = t.2; shaped = is.1; outer = out; next = w })
        branch false =
            fine_work p signatures c slots number g half others (where_is x g on false) (Rest v c.now.work) (where_pass x g on false)
            (record { around = a; last = d; transfers = t.3; shaped = is.2; outer = out; next = w })
    statement_good a (While head on body) d t is w out =
        fine_work p signatures c slots number g half others g (Loop head on body c.now.work) (passes_self g) (record {
          first = t.0;
          flows = flows_pass x g t.0 t.2;
          loop = record {
            test = t.1;
            out = d;
            transfers = t.3;
            read = t.4;
            set = t.5;
            flag = is.1;
            pass = t.6;
            leaves = t.7;
            shaped_head = is.0;
            shaped_body =
                is.2;
            next = w;
          };
        })
    statement_good NoLoop Break d t is w out = absurd t
    statement_good (InLoop behind again) Break d t is w out = λ vals s. good_some p (TS c.halt) c (broken c.now.work) _ (mem slots vals) (λ v e.
        fine_work p signatures c slots number g half others behind v (flows_pass x g behind t) (break_flows x c.now.id c.now.work v behind e out.0) vals s)
    statement_good NoLoop Continue d t is w out = absurd t
    statement_good (InLoop behind again) Continue d t is w out = λ vals s. good_some p (TS c.halt) c (continued c.now.work) _ (mem slots vals) (λ v e.
        fine_work p signatures c slots number g half others again v (flows_pass x g again t) (again_flows x c.now.id c.now.work v again e out.1) vals s)
    statement_good a (Leave from) d t is w out = leave_good p signatures c slots number g half others from t.0 t.1

  -- RUNS

  goes_good : (c : Control) (slots : Slots) (number : ℕ) (g : FlowState)
      (half : Half slots (sleeper_of c.asleep) Runs c.now.id (length (lent_types c.now.fun)) g)
      (others : Others p signatures slots (sleeper_of c.asleep) c.now.id c.started (waits p signatures c.now number) c.callers) (w : Work)
      → WorkFlows (context p signatures number c.now.fun) c.now.id w g → GoodAt (TS c.halt) (goes_on p c w) slots
  goes_good c slots number g half others Idle t = λ vals s. over Stuck refl (λ e. absurd (cc))
  goes_good c slots number g half others (Rest Done w) t =
      fine_work p signatures c slots number g half others t.last w (flows_pass (context p signatures number c.now.fun) g t.last t.transfers) t.next
  goes_good c slots number g half others (Rest (Then s ss) w) t = let h = t.transfers in let is : IsShaped p.core c.now.fun s
      × ShapedAll p.core c.now.fun ss = t.shaped in
      statement_good (with_work c (Rest ss w)) slots number h.0 (half_pass slots (sleeper_of c.asleep) Runs c.now.id (length (lent_types c.now.fun)) g h.0
      (flows_pass (context p signatures number c.now.fun) g h.0 h.2) half) others t.around s h.1 h.3 is.0
      (record { around = t.around; last = t.last; transfers = h.4; shaped = is.1; outer = t.outer; next = t.next }) t.outer
  goes_good c slots number g half others (Loop head on body w) t =
      fine_work p signatures c slots number g half others t.first (Rest head (Test head on body w)) t.flows
      (record {
        around = NoLoop;
        last = t.loop.test;
        transfers = t.loop.transfers;
        shaped = t.loop.shaped_head;
        outer = tt;
        next =
            record { first = t.first; loop = t.loop; flows = passes_self t.loop.test };
      })
  goes_good c slots number g half others (Test head on body w) t =
      good_local p (TS c.halt) slots t.loop.test c.now.id (view slots (sleeper_of c.asleep) c.now.id (length (lent_types c.now.fun)) t.loop.test
      (half_pass slots (sleeper_of c.asleep) Runs c.now.id (length (lent_types c.now.fun)) g t.loop.test t.flows half))
      (Like c) (like_count c) (like_id c) c on (λ y. with_flag c y (tested c head on body w)) (like_self c) t.loop.read
      (λ y vals s. good_flag p (TS c.halt) c y (tested c head on body w) (mem slots vals) (λ b. pass b vals s))
    where
      on_turn : (j : ℕ) → GoodAt (TS c.halt) (Return (with_work (record c { turns = j }) (Rest body (Loop head on body w)))) slots
      on_turn j = fine_work p signatures (record c { turns = j }) slots number g half others
          (where_is (context p signatures number c.now.fun) t.loop.test on true)
          (Rest body (Loop head on body w))
          (passes_on g t.loop.test _ t.flows (where_pass (context p signatures number c.now.fun) t.loop.test on true))
          (record {
            around = InLoop t.loop.out t.first;
            last = t.first;
            transfers = t.loop.pass;
            shaped = t.loop.shaped_body;
            outer =
                (t.loop.next, t.loop);
            next = record { first = t.first; flows = passes_self t.first; loop = t.loop };
          })

      pass : (b : Bool) → GoodAt (TS c.halt) (tested c head on body w b) slots
      pass false = fine_work p signatures c slots number g half others t.loop.out w
          (passes_on g t.loop.test t.loop.out t.flows (passes_on t.loop.test _ t.loop.out
          (where_pass (context p signatures number c.now.fun) t.loop.test on false)
          (flows_pass (context p signatures number c.now.fun) _ t.loop.out t.loop.leaves))) t.loop.next
      pass true = λ vals s. good_turn p (TS c.halt) c c.turns _ (mem slots vals) (λ j. on_turn j vals s)
  goes_good c slots number g half others (Drops ts w) t = tasks_good p signatures signs sh each c slots number g half others w ts t.0 t.1

  pub step_good : (c : Control) (m : Copies) → Fine (TS None) c m.opened → Sound m → Good (TS None) (interaction p c) m
  step_good c m fi s = go c.halt refl fi
    where
      go : (e : Option Halt) → c.halt ≡ e → Fine (TS None) c m.opened → Good (TS None) (interaction_of p c e) m
      go None q (over e h n) = absurd (cc)
      go None q (stands x) =
          subst (λ h. Good (TS h) (goes_on p c c.now.work) m) q (goes_good c m.opened x.number x.flow x.half x.others c.now.work x.goes m.value s)
      go (Some e) q fi = fi

  stays_calm : (n : ℕ) (c : Control) (m : Copies) → Fine (TS None) c m.opened → Sound m → StaysCalm (interaction p) n c m
  stays_calm zero c m fi s = tt
  stays_calm (suc n) c m fi s =
      let h = step_good c m fi s in
      let z = interpret copying (interaction p c) m in (
        good_calm (TS None) (interaction p c) m h,
        stays_calm n z.control z.memory (good_next (TS None) (interaction p c) m h)
            (good_sound (TS None) (interaction p c) m h s),
      )

  -- what has stopped has closed only what was opened
  fine_closes : (c : Control) (slots : Slots) → Fine (TS None) c slots → c.halt ≢ Some NotOpened
  fine_closes c slots (over h e n) q = n (let z : Some h ≡ Some NotOpened = sym e ∙ q in cc)
  fine_closes c slots (stands x) q = let z : None ≡ Some NotOpened = sym x.same ∙ q in absurd (cc)

  stays_closing : (n : ℕ) (c : Control) (m : Copies) → Fine (TS None) c m.opened → Sound m
      → (steps copying (interaction p) n c m).control.halt ≢ Some NotOpened
  stays_closing zero c m fi s = fine_closes c m.opened fi
  stays_closing (suc n) c m fi s =
      let h = step_good c m fi s in
      let z = interpret copying (interaction p c) m in
      stays_closing n z.control z.memory (good_next (TS None) (interaction p c) m h) (good_sound (TS None) (interaction p c) m h s)

  first_stands : (f : Fun) (input : List ℕ) (turns : ℕ) (halt : Option Halt) → slice_get p.core.funs 0 ≡ Some f → (lent_types f) ≡ []
      → TS halt (begins_with (Some f) input turns halt) (λ _. None)
  first_stands f input turns halt e none = record {
    same = refl;
    number = 0;
    flow = first (context p signatures 0 f);
    half = record {
      status = λ j. subst (λ us. Is (first_status (context p signatures 0 f) (slice_get us j) j) None) (sym none) refl;
      slept = λ j. subst (λ us. Sl (first_status (context p signatures 0 f) (slice_get us j) j) None) (sym none) refl;
      params = λ j lt. let z : length (lent_types f) ≡ 0 = ap (λ us. length us) none in absurd (omega arith);
      all_listed = λ k o x b. absurd (cc);
    };
    goes = let b = each 0 f e in record { around = NoLoop; last = b.0; transfers = b.1; shaped = (sh.funs 0 f e).body; outer = tt; next = tt };
    others = record {
      frames = tt;
      sleepers = λ k b e. absurd (cc);
      alone = λ k l b d e. absurd (cc);
      not_now = tt;
      distinct = tt;
      now_below = omega arith;
      below = tt;
      inside = λ k o x. absurd (cc);
    };
  }

  pub start_fine : (input : List ℕ) (turns : ℕ) → Fine (TS None) (start p.core input turns) (λ _. None)
  start_fine input zero = let main = sh.main in
      subst (λ (o : Option Fun). Fine (TS None) (begins_with o input zero (Some (Ends end.Spent))) (λ _. None)) (sym main.1)
      (over (Ends end.Spent) refl (λ e. absurd (cc)))
  start_fine input (suc n) = let main = sh.main in
      subst (λ (o : Option Fun). Fine (TS None) (begins_with o input n None) (λ _. None)) (sym main.1)
      (stands (first_stands main.0 input n None main.1 (ap types_of main.2.lent)))

  pub calm_from_start : (k : ℕ) (input : List ℕ) (turns : ℕ) → StaysCalm (interaction p) k (start p.core input turns) no_copies
  calm_from_start k input turns = stays_calm k (start p.core input turns) no_copies (start_fine input turns) nothing_open

  pub closing_from_start : (k : ℕ) (input : List ℕ) (turns : ℕ)
      → (steps copying (interaction p) k (start p.core input turns) no_copies).control.halt ≢ Some NotOpened
  closing_from_start k input turns = stays_closing k (start p.core input turns) no_copies (start_fine input turns) nothing_open

-- every run of a core that has a flow touches nothing that overlaps what is open
pub flow_touches_calmly : (r : Run) → Shaped r.core → HasFlow r.stage r.core → TouchesCalmly r
flow_touches_calmly r sh flow k = calm_from_start (setting r) (signatures_of r.core) (λ n. refl) sh flow.each k r.input r.turns

pub flow_agrees : FlowAgrees
flow_agrees r sh flow = meanings_agree r (flow_touches_calmly r sh flow)

pub ready_cores_agree : ReadyCoresAgree
ready_cores_agree r e ready = flow_agrees r ready.shaped (subst (λ s. HasFlow s r.core) (sym e) ready.flow)

-- a `Close` ends only what a `Lend` of its body opened, and a `Slide` only what a `Project` of it opened
pub flow_closes_its_own : (r : Run) → Shaped r.core → HasFlow r.stage r.core → NeverHalts r NotOpened
flow_closes_its_own r sh flow k = closing_from_start (setting r) (signatures_of r.core) (λ n. refl) sh flow.each k r.input r.turns
