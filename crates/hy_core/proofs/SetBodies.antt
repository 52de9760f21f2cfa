-- Bodies of a core that has a flow: what ends, slides and yields hands on what is set.
use Rattle.std.proofs.Common.{◌≡◌, ◌≢◌, ◌⊎◌, inl, inr, ⊎_elim, ℕ, zero, suc, ◌<◌, ◌≤◌, ◌==◌, true, false, cond, List, [], ◌∷◌, ◌++◌, length, Option, Some}
use Rattle.std.proofs.Common.{None, slice_get, refl, sym, ap, ◌∙◌, subst, arith}
use Rattle.std.proofs.lemmas.Bool.Decides.{eqb_tells}
use Rattle.hy_base.specs.declared.run.End.TheVariants as end
use Rattle.hy_types.specs.declared.kinds.TyId.{TyId}
use Rattle.hy_core.specs.Plain.{Place, Leave, Fun, is_ramp, lent_types}
use Rattle.hy_core.specs.Values.{Val, Path, is_whole, Unset, Number, Truth, Tuple, Product, Array, get}
use Rattle.hy_core.specs.Memory.{Key, set_at, Way, Origin, Copies, way_of, close_copy, copying}
use Rattle.hy_core.specs.Runs as effect
use Rattle.hy_core.specs.Runs.{Interaction, Fetch, Inspect, Perform, Return, apply}
use Rattle.hy_core.specs.Calm.{MayHand, MayClose}
use Rattle.hy_core.specs.Control as control
use Rattle.hy_core.specs.Control.{Form, Numbers, Flags, Tuples, Products, Arrays, Unknown, form, parts_of}
use Rattle.hy_core.specs.Control.{local_type, Work, Idle, Rest, Loop, Test, Drops, Dest}
use Rattle.hy_core.specs.Control.{Opens, Nowhere, Activation, Nap, Halt, Ends, Stuck, NotSet, NotOpened, Control, Stage, Deinitialises, GivesUp, Setting}
use Rattle.hy_core.specs.Control.{stop, with_work, key, with_some, spot, read, take, write, sleeper_of, wake}
use Rattle.hy_core.specs.Statements.{close_all, back, yield_to, slide_of, does}
use Rattle.hy_core.specs.Typing.{IsLeaf}
use Rattle.hy_core.specs.Shaped.{IsOf, Leaves, Shaped}
use Rattle.hy_core.specs.Flow.{Loan, Status, Own, Param, Opened, Bound, InitState, IsSet, IsUnset}
use Rattle.hy_core.specs.Flow.{IsUntied, Counts, InitMap, all_set, none_set, map_at, with_map, FlowState}
use Rattle.hy_core.specs.Flow.{Signature, Context, set_local, with_init, with_status, is_exact, IsEntered, IsSetAt, IsLocalSet, ReadOk, StoreOk, GiveOk}
use Rattle.hy_core.specs.Flow.{TakeOk, given, stored, FlowsInto, IsOpen, IsLast, Slides}
use Rattle.hy_core.specs.Flow as transfer
use Rattle.hy_core.specs.Dropped.{IsGivenUp, IsGone}
use Rattle.hy_core.proofs.Keys.{set_same, set_other, at_key}
use Rattle.hy_core.proofs.OpenPlaces.{Sound, sound_apply}
use Rattle.hy_core.proofs.Typed.{form_at, Fits}
use Rattle.hy_core.proofs.CalmWalks.{at}
use Rattle.hy_core.proofs.CalmFrames.{context, wake_is, some_is}
use Rattle.hy_core.proofs.CalmStatements.{Ended, slides_end}
use Rattle.hy_core.proofs.CalmSteps.{like_self}
use Rattle.hy_core.proofs.SetValues.{Sets, sets_whole, Meets, leaves_blank, no_array}
use Rattle.hy_core.proofs.SetMemories.{InitMaps, NotAway, Holds, holds_hand, returned}
use Rattle.hy_core.proofs.FlowStates.{Tells, tells_set, tells_unset, tells_counts, tells_same, tells_less}
use Rattle.hy_core.proofs.SetGood.{Fine, over, stands, Sure}
use Rattle.hy_core.proofs.SetTies.{Tie, wholes, tells_set_local}
use Rattle.hy_core.proofs.SetFrames.{SameInit, WorkSet, World, Frame, WaitsFor, Writes_back, Runs_on, CallersSet, Stands, Changes, frame_keep, callers_keep}
use Rattle.hy_core.proofs.SetSteps.{Ids, Here, now_here, done, takes, writes, whole_local, NowOf}

-- a local among the first ones is one of them
pub slice_front : {A : Type 0} (xs ys : List A) (i : ℕ) → i < length xs → slice_get (xs ++ ys) i ≡ slice_get xs i
slice_front [] ys i lt = absurd (omega arith)
slice_front (x ∷ xs) ys zero lt = refl
slice_front (x ∷ xs) ys (suc i) lt = slice_front xs ys i (omega arith)

act_is : (a b : Activation) → Some a ≡ Some b → a ≡ b
act_is a b e = cc

-- the way in which an open local is open
pub way_tied : (types : _) (f : Fun) (id l : ℕ) (s : Status) (w : Way) (slot : Option Origin) → Tie types f id l s slot → IsOpen s w → (o : Origin)
    → slot ≡ Some o → o.way ≡ w
way_tied types f id l Own w slot t open_so o e = absurd open_so
way_tied types f id l (Param u) w slot t open_so o e = (t o e).1 ∙ open_so
way_tied types f id l (Opened loan) w slot t open_so o e = let y = t o e in y.way ∙ open_so
way_tied types f id l (Bound u) w slot t open_so o e = (t o e).1 ∙ open_so

module _ (p : Setting) (signatures : ℕ → Signature) where
  -- a frame that goes on in another way
  abbrev pub frame_with : (n : ℕ) (W : World) (id : ℕ) (fun : Fun) (G G' : ℕ → FlowState → Type 0) → (f : Frame p signatures n W id fun G)
      → G' f.number f.flow → Frame p signatures n W id fun G'
  frame_with n W id fun G G' f goes = record {
    number = f.number;
    found = f.found;
    below = f.below;
    locals = f.locals;
    flow = f.flow;
    agrees = f.agrees;
    ties = f.ties;
    params = f.params;
    bound = f.bound;
    promises = f.promises;
    goes = goes;
  }

  module _ (sh : Shaped p.core) (c : Control) (m : Copies) (number : ℕ) (g : FlowState) (here : Here p signatures c m number g) where
    abbrev x : Context
    x = context p signatures number c.now.fun

    abbrev S : Control → Copies → Type 0
    S = Stands p signatures

    abbrev Left : FlowState → Type 0
    Left d = WorkSet (context p signatures number c.now.fun) c.now.id c.now.work d

    abbrev mine : ℕ → Key
    mine l = at c.now.id l

    -- the frame of the activation, with a flow state that says the same
    own_less : (d : FlowState) → SameInit (context p signatures number c.now.fun) g d → WorkSet (context p signatures number c.now.fun) c.now.id c.now.work d
        → Frame p signatures c.started (record { ty = here.ty; maps = here.maps; promised = here.promised; slots = m.opened }) c.now.id c.now.fun
        (Runs_on p signatures (record (c.now) { dest = Nowhere }))
    own_less d less w = record {
      number = number;
      found = here.found;
      below = here.below;
      locals = here.locals;
      flow = d;
      agrees = tells_less x g d (λ l. here.maps (at c.now.id l)) here.agrees less.init;
      ties = λ j. subst (λ s. Tie p.core.types c.now.fun c.now.id j s (m.opened (at c.now.id j))) (less.status j) (here.ties j);
      params = λ j lt. let r = here.params j lt in (r.0, sym (less.status j) ∙ r.1);
      bound = λ j w e q. here.bound j w (less.status j ∙ e) q;
      promises = here.promises;
      goes = w;
    }

    -- LEAVING

    module _ (given_maps : InitMaps) (last : FlowState) (agrees : (l : ℕ) (t : TyId) (q : Path) → local_type c.now.fun l ≡ Some t → IsLeaf p.core.types t q
        → Tells (wholes given_maps c.now.id) (last.init l q) (given_maps (at c.now.id l) q))
        (leaves : (l : ℕ) (t : TyId) → slice_get (lent_types c.now.fun) l ≡ Some t → (q : Path) → IsLeaf p.core.types t q
        → Counts (((signatures number).lent l).after q) (last.init l q)) where
      -- what is known while the parameters close; those below i are still open
      record Closing (i : ℕ) (m' : Copies) : Type 0 where
        maps : InitMaps
        holds : Holds p.core.types here.ty c.started maps here.promised m'
        sound : Sound m'
        others : (k : Key) → k.act ≢ c.now.id → maps k ≡ here.maps k
        slots : (k : Key) → k.act ≢ c.now.id → m'.opened k ≡ m.opened k
        left : (j : ℕ) → j < i → (maps (at c.now.id j) ≡ given_maps (at c.now.id j)) × (m'.opened (at c.now.id j) ≡ m.opened (at c.now.id j))

      closing : (i : ℕ) (m' : Copies) → suc i ≤ length (lent_types c.now.fun) → Closing (suc i) m' → MayClose m' (mine i)
          → Closing i (close_copy m' (mine i) (m'.opened (mine i)))
      closing i m' le h may = subst (λ y. Sound (close_copy m' (mine i) y) → Closing i (close_copy m' (mine i) y)) (sym may.opened) (λ sound. record {
        maps = set_at h.maps (mine i) none_set;
        holds = returned p.core.types here.ty c.started h.maps (set_at h.maps (mine i) none_set)
            here.promised m' (mine i) may.origin h.holds h.sound may.opened may
            (λ e. foreign (sym e)) (set_same h.maps (mine i) none_set) (λ k n. set_other h.maps (mine i) none_set k n)
            (λ t q y leaf. subst (λ w. Counts w (h.maps (mine i) q)) (sym (here.promises i le q))
            (subst (Counts (((signatures number).lent i).after q)) (ap (λ c. c q) (sym (h.left i (omega arith)).0))
            (tells_counts (wholes given_maps c.now.id) (((signatures number).lent i).after q) (last.init i q) (given_maps (mine i) q)
            (leaves i t (sym (slice_front (lent_types c.now.fun) (c.now.fun.owned ++ c.now.fun.locals) i le) ∙ sym (here.locals i) ∙ y) q leaf)
            (agrees i t q (sym (here.locals i) ∙ y) leaf))));
        sound = sound;
        others = λ k n. set_other h.maps (mine i) none_set k (λ z. n (ap (λ k. k.act) z)) ∙ h.others k n;
        slots = λ k n. set_other m'.opened (mine i) None k (λ z. n (ap (λ k. k.act) z)) ∙ h.slots k n;
        left = λ j lt. let a = h.left j (omega arith) in (
          set_other h.maps (mine i) none_set (mine j) (λ z. differ j lt (ap (λ k. k.local) z))
              ∙ a.0,
          set_other m'.opened (mine i) None (mine j) (λ z. differ j lt (ap (λ k. k.local) z)) ∙ a.1,
        );
      }) (sound_apply (effect.Close (mine i)) m' may h.sound)
        where
          differ : (j : ℕ) → j < i → j ≡ i → ⊥
          differ j lt e = absurd (omega arith)

          foreign : may.origin.base.act ≢ c.now.id
          foreign = let r = here.params i le in let t = here.ties i in
              (subst (λ s. Tie p.core.types c.now.fun c.now.id i s (m.opened (mine i))) r.1 t may.origin (sym (h.left i (omega arith)).1 ∙ may.opened)).0

      close_loop : (e : Control) (t : Interaction Control) → e.now.id ≡ c.now.id → ((m' : Copies) → Closing 0 m' → Sure p S t m') → (i : ℕ) (m' : Copies)
          → i ≤ length (lent_types c.now.fun) → Closing i m' → Sure p S (close_all e i t) m'
      close_loop e t same next zero m' le h = next m' h
      close_loop e t same next (suc i) m' le h = subst (λ a. Sure p S (Perform (effect.Close (at a i)) (close_all e i t)) m') (sym same)
          (λ calm. (tt, close_loop e t same next i _ (omega arith) (closing i m' le h calm.0) calm.1))

      -- the caller goes on
      module _ (m' : Copies) (cl : Closing 0 m') (turns n_opened : ℕ) (input output : List ℕ) (v : Val) (u : TyId)
          (fits : Fits p.core.types (form p.core.types u) v) (is : is_whole v ≡ true) (result : Leaves p.core c.now.fun (is_ramp c.now.fun) u) where
        abbrev E : Control
        E = record c { turns = turns; opened = n_opened; input = input; output = output }

        changes : Changes p signatures c.now.id c.now.id c.started c.started (record {
          ty = here.ty;
          maps = here.maps;
          promised = here.promised;
          slots =
              m.opened;
        }) (record { ty = here.ty; maps = cl.maps; promised = here.promised; slots = m'.opened })
        changes = record {
          more = omega arith;
          ty = λ k b i j. refl;
          maps = λ k b i j. cl.others k i;
          promised = λ k b i j. refl;
          slots =
              λ k b i j. cl.slots k i;
        }

        back_set : (callers : List Activation) (dest : Dest)
            → CallersSet p signatures c.started (record { ty = here.ty; maps = here.maps; promised = here.promised; slots = m.opened }) (is_ramp c.now.fun)
            c.now.fun.result (signatures number).yields dest callers
            → Ids c.now.id callers (sleeper_of c.asleep)
            → Sure p S (back p (record c { turns = turns; opened = n_opened; input = input; output = output }) callers v dest) m'
        back_set [] dest h ids calm = over (Ends end.Done) refl (λ e. absurd (cc))
        back_set (a ∷ rest) (Opens l) h ids calm = over Stuck refl (λ e. absurd (cc))
        back_set (a ∷ rest) Nowhere h ids calm = let f =
            frame_keep p signatures c.now.id c.now.id c.started c.started _ _ changes a.id a.fun
            (WaitsFor p signatures a (is_ramp c.now.fun) c.now.fun.result (signatures number).yields Nowhere) (λ e. ids.not_now.0 (sym e))
            (λ e. ids.not_now.0 (sym e)) h.0 in
            stands (record {
              none = here.none;
              ty = here.ty;
              maps = cl.maps;
              promised = here.promised;
              holds = cl.holds;
              sound = cl.sound;
              now = frame_with c.started _ a.id a.fun (WaitsFor p signatures a (is_ramp c.now.fun) c.now.fun.result (signatures number).yields Nowhere)
                  (Runs_on p signatures a) f f.goes;
              callers = callers_keep p signatures c.now.id c.now.id c.started c.started _ _ changes (is_ramp a.fun) a.fun.result
                  (signatures f.number).yields a.dest rest ids.not_now.1 ids.not_now.1 h.1;
              asleep = λ k b e. frame_keep p signatures c.now.id c.now.id c.started c.started _ _ changes b.id b.fun (Runs_on p signatures b)
                  (ids.other k b e) (ids.other k b e) (here.asleep k b e);
            })
        back_set (a ∷ rest) (control.Result place) h ids calm =
            let f = frame_keep p signatures c.now.id c.now.id c.started c.started _ _ changes a.id a.fun
            (WaitsFor p signatures a (is_ramp c.now.fun) c.now.fun.result (signatures number).yields (control.Result place))
            (λ e. ids.not_now.0 (sym e)) (λ e. ids.not_now.0 (sym e)) h.0 in
            let k : Control = record c { turns = turns; opened = n_opened; input = input; output = output; now = a; callers = rest } in
            let here_a : Here p signatures k m' f.number f.flow = record {
              none = here.none;
              ty = here.ty;
              maps = cl.maps;
              promised = here.promised;
              holds = cl.holds;
              sound = cl.sound;
              found = f.found;
              below = f.below;
              locals = f.locals;
              agrees = f.agrees;
              ties = f.ties;
              params = f.params;
              bound = f.bound;
              promises = f.promises;
              callers = callers_keep p signatures c.now.id c.now.id c.started c.started _ _ changes (is_ramp a.fun) a.fun.result
                  (signatures f.number).yields a.dest rest ids.not_now.1 ids.not_now.1 h.1;
              asleep = λ k b e. frame_keep p signatures c.now.id c.now.id c.started c.started _ _ changes b.id b.fun (Runs_on p signatures b)
                  (ids.other k b e) (ids.other k b e) (here.asleep k b e);
              ids = record {
                not_now = ids.distinct.0;
                distinct = ids.distinct.1;
                nowhere = ids.nowhere;
                other = λ k b e. (ids.apart k b e).0;
                apart =
                    λ k b e. (ids.apart k b e).1;
                alone = ids.alone;
              };
            } in
            let w : Writes_back p signatures (context p signatures f.number a.fun) a.id f.flow a.work place = f.goes.2 in
            let same : u ≡ c.now.fun.result = (let r : Leaves p.core c.now.fun false u = subst (λ b. Leaves p.core c.now.fun b u) f.goes.0 result in r) in
            let of : IsOf p.core a.fun u place = subst (λ t. IsOf p.core a.fun t place) (sym same) f.goes.1 in
            writes p signatures sh k m' f.number f.flow here_a f.flow m' (now_here p signatures sh k m' f.number f.flow here_a) place u v Return of w.store
            fits is
            (λ e m'' like now calm. done p signatures sh k m' f.number f.flow here_a w.next w.work
            (stored (context p signatures f.number a.fun) f.flow place) e m'' like now w.flows) k (like_self k) calm

    -- what is owned is closed, and nothing is left in it
    gone : (h : FlowState) (m' : Copies) (now : NowOf p signatures sh c m number g here h m') → IsLast (context p signatures number c.now.fun) h
        → ((k : Key) (o : Origin) → m'.opened k ≡ Some o → o.base.act ≢ c.now.id) → (j : ℕ) → length (lent_types c.now.fun) ≤ j
        → IsGone p.stage m' (mine j)
    gone h m' now last quiet j le = record {
      closed = closed;
      given_up = by (local_type c.now.fun j) refl;
    }
      where
        closed : m'.opened (mine j) ≡ None
        closed = let t = now.ties j in ap (λ s. s (mine j)) now.same
            ∙ subst (λ s. Tie p.core.types c.now.fun c.now.id j s (m.opened (mine j))) (last.closed j le) t

        none_given : (stage : Stage) → IsGivenUp stage Unset
        none_given Deinitialises = refl
        none_given GivesUp = refl

        unknown_unset : (v : Val) → Fits p.core.types control.Unknown v → IsGivenUp p.stage v
        unknown_unset Unset fits = none_given p.stage
        unknown_unset (Number t n) fits = absurd (let z = fits.0 in cc)
        unknown_unset (Truth b) fits = absurd (cc)
        unknown_unset (Tuple vs) fits = absurd (let z = fits.1 in cc)
        unknown_unset (Product d vs) fits = absurd (let z = fits.1 in cc)
        unknown_unset (Array vs) fits = absurd (let z = fits.1 in cc)

        of_stage : (stage : Stage) → p.stage ≡ stage → (t : TyId) → local_type c.now.fun j ≡ Some t
            → transfer.IsLeft (context p signatures number c.now.fun) stage h j → Fits p.core.types (form p.core.types t) (m'.value (mine j))
            → Sets p.core.types t (now.maps (mine j)) (m'.value (mine j)) → IsGivenUp stage (m'.value (mine j))
        of_stage Deinitialises stage t e left fits sets = no_array p.core.types t (m'.value (mine j)) fits (λ q arr.
            let leaf : IsLeaf p.core.types t q = (arr.0, arr.2, ap parts_of arr.3) in
            subst (λ z. Meets z (get q (m'.value (mine j))))
            (tells_unset (wholes now.maps c.now.id) (h.init j q) (now.maps (mine j) q) (left t e q arr) (now.agrees j t q e leaf)) (sets q leaf))
        of_stage GivesUp stage t e left fits sets = leaves_blank p.core.types t (m'.value (mine j)) fits
            (λ q leaf. subst (λ z. Meets z (get q (m'.value (mine j))))
            (tells_unset (wholes now.maps c.now.id) (h.init j q) (now.maps (mine j) q) (left t e q leaf) (now.agrees j t q e leaf)) (sets q leaf))

        by : (o : Option TyId) → local_type c.now.fun j ≡ o → IsGivenUp p.stage (m'.value (mine j))
        by None e = unknown_unset (m'.value (mine j)) (subst (λ f. Fits p.core.types f (m'.value (mine j))) (ap (form_at p.core.types) (here.locals j ∙ e))
            (now.holds.typed.value (mine j)))
        by (Some t) e = of_stage p.stage refl t e (last.left j le)
            (subst (λ f. Fits p.core.types f (m'.value (mine j))) (ap (form_at p.core.types) (here.locals j ∙ e)) (now.holds.typed.value (mine j)))
            (now.holds.set (mine j) (λ k o x b n w. quiet k o x (ap (λ k. k.act) b)) t (here.locals j ∙ e))

    pub leave_set : (from : Place) (u : TyId) → IsOf p.core c.now.fun u from → Leaves p.core c.now.fun (is_ramp c.now.fun) u → TakeOk x g from
        → IsLast x (given x g from) → Sure p S (does p c (Leave from)) m
    leave_set from u of result ok last =
        takes p signatures sh c m number g here effect.Moved g m (now_here p signatures sh c m number g here) from u _ of ok tt (λ e v m' like fits is now.
        subst (λ e. Sure p S (Perform (effect.Quit e.now.id (length (lent_types c.now.fun)))
        (close_all e (length (lent_types c.now.fun)) (back p e e.callers v e.now.dest))) m') (sym like.is) (λ calm. (
          (λ j le. gone (given x g from) m' now last calm.0 j le),
          close_loop now.maps (given x g from) now.agrees last.lent (record c {
            turns = like.turns;
            opened = like.opened;
            input = like.input;
            output =
                like.output;
          }) _ refl
              (λ m'' cl. back_set now.maps (given x g from) now.agrees last.lent m'' cl like.turns like.opened like.input like.output v u fits is result
              c.callers c.now.dest here.callers here.ids)
              (length (lent_types c.now.fun)) m' (omega arith)
              (record {
                maps = now.maps;
                holds = now.holds;
                sound = now.sound;
                others = now.others;
                slots = λ k n. ap (λ s. s k) now.same;
                left =
                    λ j lt. (refl, ap (λ s. s (mine j)) now.same);
              }) calm.1,
        ))) c (like_self c)

    -- SLIDING

    pub slide_set : (l : ℕ) (v : Way) (d : FlowState) (y : Option Activation) → sleeper_of c.asleep (mine l) ≡ y → g.status l ≡ Bound v → Slides x g l d
        → Left d → Sure p S (slide_of c (mine l) y) m
    slide_set l v d None found st t left calm = over NotOpened refl (λ e. absurd (cc))
    slide_set l v d (Some b) found st t left calm = (tt, slid calm.0)
      where
        other : b.id ≢ c.now.id
        other = here.ids.other (mine l) b found

        ended : Ended (transfer.InSubscript l) l g d
        ended = slides_end x g l d t.2

        slid : (may : MayClose m (mine l))
            → Fine S (record c { now = b; callers = c.now ∷ c.callers; asleep = wake c.asleep (mine l) }) (close_copy m (mine l) (m.opened (mine l)))
        slid may = subst (λ y. Sound (close_copy m (mine l) y)
            → Fine S (record c { now = b; callers = c.now ∷ c.callers; asleep = wake c.asleep (mine l) }) (close_copy m (mine l) y)) (sym may.opened)
            (λ sound.
            let ch : Changes p signatures c.now.id c.now.id c.started c.started (record {
              ty = here.ty;
              maps = here.maps;
              promised = here.promised;
              slots =
                  m.opened;
            })
            (record { ty = here.ty; maps = set_at here.maps (mine l) none_set; promised = here.promised; slots = set_at m.opened (mine l) None }) = record {
              more = omega arith;
              ty = λ k b i j. refl;
              maps = λ k b i j. set_other here.maps (mine l) none_set k (λ z. i (ap (λ k. k.act) z));
              promised = λ k b i j. refl;
              slots = λ k b i j. set_other m.opened (mine l) None k (λ z. i (ap (λ k. k.act) z));
            } in
            let f = frame_keep p signatures c.now.id c.now.id c.started c.started _ _ ch b.id b.fun (Runs_on p signatures b) other other
            (here.asleep (mine l) b found) in
            let holds = returned p.core.types here.ty c.started here.maps (set_at here.maps (mine l) none_set) here.promised m (mine l) may.origin
            here.holds here.sound may.opened may
            (λ e. foreign may (sym e)) (set_same here.maps (mine l) none_set) (λ k n. set_other here.maps (mine l) none_set k n)
            (λ y q is leaf. subst (λ w. Counts w (here.maps (mine l) q)) (sym (here.bound l v st q))
            (tells_set (wholes here.maps c.now.id) (g.init l q) (here.maps (mine l) q) (t.1 y (sym (here.locals l) ∙ is) q leaf)
            (here.agrees l y q (sym (here.locals l) ∙ is) leaf))) in
            stands (record {
              none = here.none;
              ty = here.ty;
              maps = set_at here.maps (mine l) none_set;
              promised = here.promised;
              holds = holds;
              sound = sound;
              now = f;
              callers = (
                record {
                  number = number;
                  found = here.found;
                  below = here.below;
                  locals = here.locals;
                  flow = d;
                  agrees = λ j y q e leaf. slid_agrees j y q e leaf;
                  ties = λ j. subst (λ s. Tie p.core.types c.now.fun c.now.id j s (set_at m.opened (mine l) None (mine j))) (ended.status j)
                      (slid_ties j (eqb_tells j l));
                  params = λ j lt. let r = here.params j lt in ⊎_elim (λ y. absurd (let z : Param r.0 ≡ Bound v = sym r.1 ∙ ap g.status y.1 ∙ st in cc))
                      (λ y. (r.0, sym (ended.status j) ∙ ap (λ b. cond b Own (g.status j)) y.0 ∙ r.1)) (eqb_tells j l);
                  bound = λ j w e q. ⊎_elim (λ y. absurd (let z : Own ≡ Bound w = sym (ap (λ b. cond b Own (g.status j)) y.0) ∙ ended.status j ∙ e in cc))
                      (λ y. here.bound j w (sym (ap (λ b. cond b Own (g.status j)) y.0) ∙ ended.status j ∙ e) q) (eqb_tells j l);
                  promises = here.promises;
                  goes = subst (λ dest. WaitsFor p signatures c.now (is_ramp b.fun) b.fun.result (signatures f.number).yields dest number d)
                      (sym (here.ids.nowhere (mine l) b found)) left;
                },
                callers_keep p signatures c.now.id c.now.id c.started c.started _ _ ch (is_ramp c.now.fun) c.now.fun.result (signatures number).yields
                    c.now.dest c.callers here.ids.not_now here.ids.not_now here.callers,
              );
              asleep = λ k b' e. let y = still_asleep k b' (ap (λ s. s k) (sym (wake_is c.asleep (mine l))) ∙ e) in
                  frame_keep p signatures c.now.id c.now.id c.started c.started _ _ ch b'.id b'.fun (Runs_on p signatures b') (here.ids.other k b' y)
                  (here.ids.other k b' y) (here.asleep k b' y);
            })) (sound_apply (effect.Close (mine l)) m may here.sound)
          where
            foreign : (may : MayClose m (mine l)) → may.origin.base.act ≢ c.now.id
            foreign may = let t = here.ties l in (subst (λ s. Tie p.core.types c.now.fun c.now.id l s (m.opened (mine l))) st t may.origin may.opened).0

            slid_agrees : (j : ℕ) (y : TyId) (q : Path) → local_type c.now.fun j ≡ Some y → IsLeaf p.core.types y q
                → Tells (wholes (set_at here.maps (mine l) none_set) c.now.id) (d.init j q) (set_at here.maps (mine l) none_set (mine j) q)
            slid_agrees = tells_less x t.2.0 d (λ l'. set_at here.maps (mine l) none_set (at c.now.id l')) (λ j y q e leaf.
                subst (λ init. Tells (wholes (set_at here.maps (mine l) none_set) c.now.id) (init j q) (set_at here.maps (mine l) none_set (mine j) q))
                (sym t.2.1.init) (tells_set_local here.maps c.now.id l g.init none_set none_set j q (t.3 j y q e leaf) (here.agrees j y q e leaf) (λ _. refl)))
                t.2.2.init

            slid_ties : (j : ℕ) → (((j == l) ≡ true) × (j ≡ l)) ⊎ (((j == l) ≡ false) × (j ≢ l))
                → Tie p.core.types c.now.fun c.now.id j (set_local g.status l Own j) (set_at m.opened (mine l) None (mine j))
            slid_ties j (inl y) =
                subst (λ s. Tie p.core.types c.now.fun c.now.id j s (set_at m.opened (mine l) None (mine j))) (sym (ap (λ b. cond b Own (g.status j)) y.0))
                (ap (λ j. set_at m.opened (mine l) None (mine j)) y.1 ∙ set_same m.opened (mine l) None)
            slid_ties j (inr y) =
                subst (λ s. Tie p.core.types c.now.fun c.now.id j s (set_at m.opened (mine l) None (mine j))) (sym (ap (λ b. cond b Own (g.status j)) y.0))
                (subst (Tie p.core.types c.now.fun c.now.id j (g.status j))
                (sym (set_other m.opened (mine l) None (mine j) (λ z. y.1 (ap (λ k. k.local) z)))) (here.ties j))

            still_asleep : (k : Key) (b' : Activation) → set_at (sleeper_of c.asleep) (mine l) None k ≡ Some b' → sleeper_of c.asleep k ≡ Some b'
            still_asleep k b' = at_key (sleeper_of c.asleep) (mine l) None k (λ y. y ≡ Some b'
                → sleeper_of c.asleep k ≡ Some b') (λ e y. absurd (cc)) (λ n y. y)

    -- YIELDING: what is yielded is set, and so is the local of the caller that stands for it

    abbrev set_maps : ℕ → InitMaps
    set_maps l = set_at here.maps (mine l) all_set

    abbrev bound_maps : (l id to : ℕ) → InitMaps
    bound_maps l id to = set_at (set_at here.maps (mine l) all_set) (at id to) all_set

    pub yield_set : (l : ℕ) (d : FlowState) → local_type c.now.fun l ≡ Some c.now.fun.result → IsOpen (g.status l) (signatures number).yields
        → IsLocalSet x g l → FlowsInto x (record (with_init g l [] all_set) { yielded = true }) d → IsUntied x g l → Left d
        → (callers : List Activation) (dest : Dest)
        → CallersSet p signatures c.started (record { ty = here.ty; maps = here.maps; promised = here.promised; slots = m.opened }) (is_ramp c.now.fun)
        c.now.fun.result (signatures number).yields dest callers
        → Ids c.now.id callers (sleeper_of c.asleep) → Sure p S (yield_to c l callers dest) m
    yield_set l d local open_so set flows untied left [] dest h ids calm = over Stuck refl (λ e. absurd (cc))
    yield_set l d local open_so set flows untied left (a ∷ rest) (control.Result place) h ids calm = over Stuck refl (λ e. absurd (cc))
    yield_set l d local open_so set flows untied left (a ∷ rest) Nowhere h ids calm = over Stuck refl (λ e. absurd (cc))
    yield_set l d local open_so set flows untied left (a ∷ rest) (Opens to) h ids calm = (tt, yielded calm.0)
      where
        apart : a.id ≢ c.now.id
        apart e = ids.not_now.0 (sym e)

        not_mine : (j : ℕ) → mine j ≢ at a.id to
        not_mine j e = apart (sym (ap (λ k. k.act) e))

        mine_maps : (bound_maps l a.id to) (mine l) ≡ all_set
        mine_maps = set_other (set_maps l) (at a.id to) all_set (mine l) (not_mine l) ∙ set_same here.maps (mine l) all_set

        other_key : (k : Key) → k.act ≢ a.id → k ≢ at a.id to
        other_key k n e = n (ap (λ k. k.act) e)

        no_own : (s : Status) → s ≡ Own → ((v : Way) × (s ≡ Param v)) → ⊥
        no_own s e r = let z = r.1 in absurd (cc)

        yielded : (may : MayHand m (at a.id to) (mine l))
            → Fine S (record c { now = a; callers = rest; asleep = record { key = at a.id to; act = record (c.now) { dest = Nowhere } } ∷ c.asleep })
            (copying.hand m (at a.id to) (mine l))
        yielded may =
            let fa = h.0 in
            let new : Origin = record { base = mine l; path = []; way = way_of (m.opened (mine l)) } in
            let ch : Changes p signatures a.id c.now.id c.started c.started
            (record { ty = here.ty; maps = here.maps; promised = here.promised; slots = m.opened })
            (record {
              ty = here.ty;
              maps = bound_maps l a.id to;
              promised = set_at here.promised (at a.id to) all_set;
              slots =
                  set_at m.opened (at a.id to) (Some new);
            }) = record {
              more = omega arith;
              ty = λ k b i j. refl;
              maps = λ k b i j. set_other (set_maps l) (at a.id to) all_set k (other_key k i)
                  ∙ set_other here.maps (mine l) all_set k (λ e. j (ap (λ k. k.act) e));
              promised = λ k b i j. set_other here.promised (at a.id to) all_set k (other_key k i);
              slots = λ k b i j. set_other m.opened (at a.id to) (Some new) k (other_key k i);
            } in
            let unaway : NotAway m.opened (mine l) = λ j i e b n w. may.free j i e b in
            let is_whole_there : is_whole (m.value (mine l)) ≡ true = whole_local p signatures sh c m number g here l c.now.fun.result local set unaway in
            let same_type : here.ty (at a.id to) ≡ here.ty (mine l) = fa.locals to ∙ fa.goes.0 ∙ sym (here.locals l ∙ local) in
            let way_is : way_of (m.opened (mine l)) ≡ (signatures number).yields = ap way_of may.opened
            ∙ way_tied p.core.types c.now.fun c.now.id l (g.status l) (signatures number).yields (m.opened (mine l)) (here.ties l) open_so may.origin
            may.opened in
            stands (record {
              none = here.none;
              ty = here.ty;
              maps = bound_maps l a.id to;
              promised = set_at here.promised (at a.id to) all_set;
              holds = holds_hand p.core.types here.ty c.started here.maps (bound_maps l a.id to) here.promised
                  (set_at here.promised (at a.id to) all_set) m (at a.id to) (mine l) here.holds may
                  apart fa.below here.below same_type
                  (λ k n n'. set_other (set_maps l) (at a.id to) all_set k n ∙ set_other here.maps (mine l) all_set k n')
                  (λ k n. set_other here.promised (at a.id to) all_set k n)
                  (λ t y st. (
                    subst (λ c. Sets p.core.types t c (m.value (mine l))) (sym (set_same (set_maps l) (at a.id to) all_set)) (sets_all t y is_whole_there),
                    λ _. subst (λ c. Sets p.core.types t c (m.value (mine l))) (sym mine_maps) (sets_all t y is_whole_there),
                  ))
                  (λ w t q y leaf. ap (λ c. c q) mine_maps ∙ sym (ap (λ c. c q) (set_same here.promised (at a.id to) all_set)));
              sound = sound_apply (effect.Hand (at a.id to) (mine l)) m may here.sound;
              now = record {
                number = fa.number;
                found = fa.found;
                below = fa.below;
                locals = fa.locals;
                flow = fa.goes.1.next;
                agrees = tells_less (context p signatures fa.number a.fun) (with_status fa.flow to (Bound (signatures number).yields) all_set) fa.goes.1.next
                    (λ j. (bound_maps l a.id to) (at a.id j)) (λ j t q e leaf. bound_agrees fa j t q e leaf) (let b = fa.goes.1.flows in b.init);
                ties = λ j. let b = fa.goes.1.flows in
                    subst (λ s. Tie p.core.types a.fun a.id j s (set_at m.opened (at a.id to) (Some new) (at a.id j))) (b.status j)
                    (bound_ties way_is fa j (eqb_tells j to));
                params = λ j lt. let b = fa.goes.1.flows in let r = fa.params j lt in
                    ⊎_elim (λ y. absurd (no_own (fa.flow.status j) (ap fa.flow.status y.1 ∙ fa.goes.1.own) r))
                    (λ y. (r.0, sym (b.status j) ∙ ap (λ i. cond i (Bound (signatures number).yields) (fa.flow.status j)) y.0 ∙ r.1)) (eqb_tells j to);
                bound = λ j w e q. let b = fa.goes.1.flows in
                    ⊎_elim (λ y. ap (λ j. set_at here.promised (at a.id to) all_set (at a.id j) q) y.1
                    ∙ ap (λ c. c q) (set_same here.promised (at a.id to) all_set))
                    (λ y. ap (λ c. c q) (set_other here.promised (at a.id to) all_set (at a.id j) (λ z. y.1 (ap (λ k. k.local) z)))
                    ∙ fa.bound j w (sym (ap (λ i. cond i (Bound (signatures number).yields) (fa.flow.status j)) y.0) ∙ b.status j ∙ e) q)
                    (eqb_tells j to);
                promises = λ j lt q. ap (λ c. c q) (set_other here.promised (at a.id to) all_set (at a.id j)
                    (λ z. absurd (no_own (fa.flow.status j) (ap fa.flow.status (ap (λ k. k.local) z) ∙ fa.goes.1.own) (fa.params j lt))))
                    ∙ fa.promises j lt q;
                goes = fa.goes.1.work;
              };
              callers = callers_keep p signatures a.id c.now.id c.started c.started _ _ ch (is_ramp a.fun) a.fun.result (signatures fa.number).yields a.dest
                  rest ids.distinct.0 ids.not_now.1 h.1;
              asleep = λ k b. at_key (sleeper_of c.asleep) (at a.id to) (Some (record (c.now) { dest = Nowhere })) k (λ y. y ≡ Some b
                  → Frame p signatures c.started (record {
                    ty = here.ty;
                    maps = bound_maps l a.id to;
                    promised =
                        set_at here.promised (at a.id to) all_set;
                    slots = set_at m.opened (at a.id to) (Some new);
                  }) b.id b.fun (Runs_on p signatures b))
                  (λ _ y. subst
                  (λ b. Frame p signatures c.started (record {
                    ty = here.ty;
                    maps = bound_maps l a.id to;
                    promised =
                        set_at here.promised (at a.id to) all_set;
                    slots = set_at m.opened (at a.id to) (Some new);
                  }) b.id b.fun (Runs_on p signatures b))
                  (act_is (record (c.now) { dest = Nowhere }) b y)
                  sleeper)
                  (λ _ y. frame_keep p signatures a.id c.now.id c.started c.started _ _ ch b.id b.fun (Runs_on p signatures b) (ids.apart k b y).0
                  (ids.other k b y) (here.asleep k b y));
            })
          where
            own_maps : (j : ℕ) → (bound_maps l a.id to) (mine j) ≡ (set_maps l) (mine j)
            own_maps j = set_other (set_maps l) (at a.id to) all_set (mine j) (not_mine j)

            sleeper : Frame p signatures c.started (record {
              ty = here.ty;
              maps = bound_maps l a.id to;
              promised = set_at here.promised (at a.id to) all_set;
              slots = set_at m.opened (at a.id to) (Some (record { base = mine l; path = []; way = way_of (m.opened (mine l)) }));
            }) c.now.id c.now.fun (Runs_on p signatures (record (c.now) { dest = Nowhere }))
            sleeper = record {
              number = number;
              found = here.found;
              below = here.below;
              locals = here.locals;
              flow = d;
              agrees = tells_less x (record (with_init g l [] all_set) { yielded = true }) d (λ j. (bound_maps l a.id to) (at c.now.id j)) (λ j t q e leaf.
                  tells_same (wholes (set_maps l) c.now.id) (wholes (bound_maps l a.id to) c.now.id)
                  (set_local g.init l (with_map [] all_set (g.init l)) j q) ((bound_maps l a.id to) (mine j) q)
                  (λ k. ap (λ c. c []) (own_maps k)) (subst (Tells (wholes (set_maps l) c.now.id) (set_local g.init l (with_map [] all_set (g.init l)) j q))
                  (ap (λ c. c q) (sym (own_maps j))) (tells_set_local here.maps c.now.id l g.init (with_map [] all_set (g.init l)) all_set j q
                  (untied j t q e leaf) (here.agrees j t q e leaf) (λ _. tt)))) flows.init;
              ties = λ j. subst (λ s. Tie p.core.types c.now.fun c.now.id j s (set_at m.opened (at a.id to)
                  (Some (record { base = mine l; path = []; way = way_of (m.opened (mine l)) })) (at c.now.id j))) (flows.status j)
                  (subst (Tie p.core.types c.now.fun c.now.id j (g.status j)) (sym (set_other m.opened (at a.id to) _ (mine j) (not_mine j))) (here.ties j));
              params = λ j lt. let r = here.params j lt in (r.0, sym (flows.status j) ∙ r.1);
              bound = λ j w e q. ap (λ c. c q) (set_other here.promised (at a.id to) all_set (mine j) (not_mine j)) ∙ here.bound j w (flows.status j ∙ e) q;
              promises = λ j lt q. ap (λ c. c q) (set_other here.promised (at a.id to) all_set (mine j) (not_mine j)) ∙ here.promises j lt q;
              goes = left;
            }

            sets_all : (t : TyId) → here.ty (mine l) ≡ Some t → is_whole (m.value (mine l)) ≡ true → Sets p.core.types t all_set (m.value (mine l))
            sets_all t y w =
                sets_whole p.core.types t (m.value (mine l))
                (subst (λ f. Fits p.core.types f (m.value (mine l))) (ap (form_at p.core.types) y) (here.holds.typed.value (mine l))) w

            bound_agrees : (fa : Frame p signatures c.started (record { ty = here.ty; maps = here.maps; promised = here.promised; slots = m.opened }) a.id
                a.fun (WaitsFor p signatures a (is_ramp c.now.fun) c.now.fun.result (signatures number).yields (Opens to)))
                → (j : ℕ) (t : TyId) (q : Path) → local_type a.fun j ≡ Some t → IsLeaf p.core.types t q
                → Tells (wholes (bound_maps l a.id to) a.id) (set_local fa.flow.init to all_set j q) ((bound_maps l a.id to) (at a.id j) q)
            bound_agrees fa j t q e leaf = tells_set_local (set_maps l) a.id to fa.flow.init all_set all_set j q (fa.goes.1.untied j t q e leaf)
                (tells_same (wholes here.maps a.id) (wholes (set_maps l) a.id) (fa.flow.init j q)
                ((set_maps l) (at a.id j) q) (λ k. ap (λ c. c []) (not_here k))
                (subst (Tells (wholes here.maps a.id) (fa.flow.init j q)) (ap (λ c. c q) (sym (not_here j))) (fa.agrees j t q e leaf))) (λ _. tt)
              where
                not_here : (k : ℕ) → (set_maps l) (at a.id k) ≡ here.maps (at a.id k)
                not_here k = set_other here.maps (mine l) all_set (at a.id k) (λ z. apart (ap (λ k. k.act) z))

            bound_ties : way_of (m.opened (mine l)) ≡ (signatures number).yields
                → (fa : Frame p signatures c.started (record { ty = here.ty; maps = here.maps; promised = here.promised; slots = m.opened }) a.id a.fun
                (WaitsFor p signatures a (is_ramp c.now.fun) c.now.fun.result (signatures number).yields (Opens to)))
                → (j : ℕ) → (((j == to) ≡ true) × (j ≡ to)) ⊎ (((j == to) ≡ false) × (j ≢ to))
                → Tie p.core.types a.fun a.id j (set_local fa.flow.status to (Bound (signatures number).yields) j)
                (set_at m.opened (at a.id to) (Some (record { base = mine l; path = []; way = way_of (m.opened (mine l)) })) (at a.id j))
            bound_ties way_is fa j (inl y) =
                subst (λ s. Tie p.core.types a.fun a.id j s
                (set_at m.opened (at a.id to) (Some (record { base = mine l; path = []; way = way_of (m.opened (mine l)) })) (at a.id j)))
                (sym (ap (λ b. cond b (Bound (signatures number).yields) (fa.flow.status j)) y.0))
                (λ o e. let z =
                some_is (record { base = mine l; path = []; way = way_of (m.opened (mine l)) }) o
                (sym (set_same m.opened (at a.id to) (Some (record { base = mine l; path = []; way = way_of (m.opened (mine l)) })))
                ∙ ap (λ j. set_at m.opened (at a.id to) (Some (record { base = mine l; path = []; way = way_of (m.opened (mine l)) })) (at a.id j))
                (sym y.1) ∙ e) in
                ((λ q. apart (sym (ap (λ o. o.base.act) z ∙ q))), ap (λ o. o.way) (sym z) ∙ way_is))
            bound_ties way_is fa j (inr y) =
                subst (λ s. Tie p.core.types a.fun a.id j s
                (set_at m.opened (at a.id to) (Some (record { base = mine l; path = []; way = way_of (m.opened (mine l)) })) (at a.id j)))
                (sym (ap (λ b. cond b (Bound (signatures number).yields) (fa.flow.status j)) y.0))
                (subst (Tie p.core.types a.fun a.id j (fa.flow.status j))
                (sym (set_other m.opened (at a.id to) (Some (record { base = mine l; path = []; way = way_of (m.opened (mine l)) })) (at a.id j)
                (λ z. y.1 (ap (λ k. k.local) z)))) (fa.ties j))
