-- A core that has a flow reads, moves and gives up nothing that is unset, and gives up what it owns, in every run.
use Rattle.std.proofs.Common.{◌≡◌, ◌≢◌, ℕ, zero, suc, Bool, true, false, cond, List, [], ◌++◌, length, Option, Some, None, slice_get, refl, sym, ap, ◌∙◌}
use Rattle.std.proofs.Common.{subst, arith}
use Rattle.hy_base.specs.declared.run.End.TheVariants as end
use Rattle.hy_types.specs.declared.kinds.TyId.{TyId}
use Rattle.hy_core.specs.Plain.{Done, Then, Stmt, Built, Set, Lend, Close, Move, Copy, Drop, Call, Project, Slide, Yield, If, While, Break, Continue, Leave}
use Rattle.hy_core.specs.Plain.{Fun, Core, lent_types, Parameter, ByLet, ByInout, BySet, Convention, types_of}
use Rattle.hy_core.specs.Memory.{whole, Reads, Copies, copying, no_copies, Way}
use Rattle.hy_core.specs.Runs.{Interaction, Fetch, Return, steps, apply, Inspect, interpret, Perform}
use Rattle.hy_core.specs.Control.{Flags, parts_of, local_type, Work, Idle, Rest, Loop, Test, Drops, Halt}
use Rattle.hy_core.specs.Control.{Ends, Stuck, NotSet, Control, Stage, Deinitialises, GivesUp, Setting}
use Rattle.hy_core.specs.Control.{with_work, key, with_flag, sleeper_of}
use Rattle.hy_core.specs.Statements.{drop, broken, continued, does, tested, goes_on, interaction_of, interaction, begins_with, start}
use Rattle.hy_core.specs.Meaning.{setting}
use Rattle.hy_core.specs.Shaped.{HasForm, IsOf, ShapedAll, IsShaped, IsMain, Shaped}
use Rattle.hy_core.specs.Ready.{ReadyCoresAreCalm, ReadyCoresDropAll, FlowIsCalm, FlowIsDropped}
use Rattle.hy_core.specs.Flow.{IsSet, none_set, FlowState, Signature, Context, given, Stores, Closes, Slides, Around, NoLoop, InLoop, Transfers}
use Rattle.hy_core.specs.Flow.{IsDropped, first_status, first_map, first, BodyFlows, context_of}
use Rattle.hy_core.specs.Flow.{Bound, HasFlow, signatures_of, signature_of, terms_at, terms_of}
use Rattle.hy_core.specs.Values.{shape, Path}
use Rattle.hy_core.specs.Dropped.{KeepsAll, StaysDropped}
use Rattle.hy_core.specs.Flow.{InitState, IsUnset, IsKnown, IsSetSo, resolved, where_is}
use Rattle.hy_core.specs.Values.{Truth}
use Rattle.hy_core.specs.Memory.{set_at}
use Rattle.hy_core.specs.Control.{form}
use Rattle.hy_core.specs.Typing.{IsLeaf}
use Rattle.hy_core.specs.Calm.{IsKept}
use Rattle.hy_core.proofs.Keys.{set_other}
use Rattle.hy_core.proofs.FlowStates.{SignsSet, Tells, tells_resolved, resolved_untied}
use Rattle.hy_core.proofs.SetValues.{truth_of, Meets, Sets, sets_single}
use Rattle.hy_core.proofs.SetMemories.{kept_here, holds_told}
use Rattle.hy_core.proofs.SetGood.{good_truth, Fine, over, stands, Good, good_next, Sure, good_some, good_turn}
use Rattle.hy_core.proofs.SetTies.{wholes, tells_set_local, Tie}
use Rattle.hy_core.proofs.SetSteps.{here_after, acting}
use Rattle.hy_core.proofs.OpenPlaces.{Sound, nothing_open}
use Rattle.hy_core.proofs.CalmWalks.{at, IsQuiet, good_quiet}
use Rattle.hy_core.proofs.CalmWalks as calm
use Rattle.hy_core.proofs.CalmFrames.{AroundBy, LoopFlows, context}
use Rattle.hy_core.proofs.CalmFrames as calm_frames
use Rattle.hy_core.proofs.Stuck.{halted}
use Rattle.hy_core.proofs.FlowIsCalm.{step_good, start_fine, flow_touches_calmly, flow_closes_its_own}
use Rattle.hy_core.proofs.SetWalks.{local_whole}
use Rattle.hy_core.proofs.SetFrames.{SameInit, less_self, flows_less, WorkSet, BreakSet, AgainSet, break_set, again_set, Stands}
use Rattle.hy_core.proofs.SetSteps.{Here, here_work, here_less, here_stands, now_here, built_set, set_set, move_set, copy_set, drop_set, lend_set}
use Rattle.hy_core.proofs.SetSteps.{close_set}
use Rattle.hy_core.proofs.SetDrops.{drop_begins, tasks_set}
use Rattle.hy_core.proofs.SetBodies.{leave_set, slide_set, yield_set}
use Rattle.hy_core.proofs.SetEntries.{call_set, project_set}
use Rattle.hy_core.proofs.SetValues.{sets_none}

-- what functions want of their parameters, and leave of them
signatures_set : (core : Core) → SignsSet (signatures_of core)
signatures_set core = record {
  same = λ n l. same_fun (slice_get core.funs n) l;
  set = λ n l. set_fun (slice_get core.funs n) l;
  plain = λ n l. plain_fun (slice_get core.funs n) l;
}
  where
    same_terms : (a : Convention) → (terms_of a).way ≡ Reads → (q : Path) → (terms_of a).after q ≡ (terms_of a).before q
    same_terms ByLet e q = refl
    same_terms ByInout e q = refl
    same_terms BySet e q = absurd (cc)

    same_at : (a : Option Parameter) → (terms_at a).way ≡ Reads → (q : Path) → (terms_at a).after q ≡ (terms_at a).before q
    same_at None e q = refl
    same_at (Some a) e q = same_terms a.convention e q

    same_fun : (f : Option Fun) (l : ℕ) → ((signature_of f).lent l).way ≡ Reads → (q : Path)
        → ((signature_of f).lent l).after q ≡ ((signature_of f).lent l).before q
    same_fun None l e q = refl
    same_fun (Some f) l e q = same_at (slice_get f.lent l) e q

    set_terms : (a : Convention) (q : Path) → (terms_of a).after q ≡ IsSet
    set_terms ByLet q = refl
    set_terms ByInout q = refl
    set_terms BySet q = refl

    set_at_parameter : (a : Option Parameter) (q : Path) → (terms_at a).after q ≡ IsSet
    set_at_parameter None q = refl
    set_at_parameter (Some a) q = set_terms a.convention q

    set_fun : (f : Option Fun) (l : ℕ) (q : Path) → ((signature_of f).lent l).after q ≡ IsSet
    set_fun None l q = refl
    set_fun (Some f) l q = set_at_parameter (slice_get f.lent l) q

    plain_terms : (a : Convention) (F : ℕ → InitState) (q : Path) → Tells F ((terms_of a).before q) ((terms_of a).before q)
    plain_terms ByLet F q = tt
    plain_terms ByInout F q = tt
    plain_terms BySet F q = refl

    plain_at : (a : Option Parameter) (F : ℕ → InitState) (q : Path) → Tells F ((terms_at a).before q) ((terms_at a).before q)
    plain_at None F q = tt
    plain_at (Some a) F q = plain_terms a.convention F q

    plain_fun : (f : Option Fun) (l : ℕ) (F : ℕ → InitState) (q : Path)
        → Tells F (((signature_of f).lent l).before q) (((signature_of f).lent l).before q)
    plain_fun None l F q = tt
    plain_fun (Some f) l F q = plain_at (slice_get f.lent l) F q

module _ (p : Setting) (signatures : ℕ → Signature) (signs : (n : ℕ) → signatures n ≡ signature_of (slice_get p.core.funs n))
    (sh : Shaped p.core) (reads : SignsSet signatures)
    (each : (n : ℕ) (f : Fun) → slice_get p.core.funs n ≡ Some f → BodyFlows (context_of p.stage p.core signatures n f)) where
  abbrev S : Control → Copies → Type 0
  S = Stands p signatures

  works_at : (c : Control) (m : Copies) (number : ℕ) (d : FlowState) (here : Here p signatures c m number d) (w : Work)
      → WorkSet (context p signatures number c.now.fun) c.now.id w d → Fine S (with_work c w) m
  works_at c m number d here w t =
      stands (here_stands p signatures (with_work c w) m number d (here_work p signatures c m number d w c.turns here) t)

  module _ (c : Control) (m : Copies) (number : ℕ) (g : FlowState) (here : Here p signatures c m number g) where
    abbrev x : Context
    x = context p signatures number c.now.fun

    abbrev Left : FlowState → Type 0
    Left d = WorkSet (context p signatures number c.now.fun) c.now.id c.now.work d

    -- with other work
    works : (d : FlowState) (w : Work) (turns : ℕ) → SameInit (context p signatures number c.now.fun) g d
        → WorkSet (context p signatures number c.now.fun) c.now.id w d → Fine S (with_work (record c { turns = turns }) w) m
    works d w turns less t =
        stands (here_stands p signatures (with_work (record c { turns = turns }) w) m number d
        (here_work p signatures c m number d w turns (here_less p signatures c m number g d less here)) t)

    -- Where the truth value of a local is known to be this, its state is told so, and what is set exactly where it is true is resolved.
    here_where : (on : ℕ) (b : Bool) → HasForm p.core c.now.fun on Flags → IsKept m (at c.now.id on) → m.value (at c.now.id on) ≡ Truth b
        → Here p signatures c m number (where_is (context p signatures number c.now.fun) g on b)
    here_where on b has kept is = here_after p signatures sh c m number g here m (where_is (context p signatures number c.now.fun) g on b)
        (set_at here.maps (at c.now.id on) (λ q. IsKnown b))
        (holds_told p.core.types here.ty c.started here.maps here.promised m (at c.now.id on) (λ q. IsKnown b) here.holds kept told) here.sound agrees
        (λ k n. set_other here.maps (at c.now.id on) (λ q. IsKnown b) k (λ e. n (ap (λ k. k.act) e))) (λ k n. refl) here.ties here.params here.bound
      where
        typed : here.ty (at c.now.id on) ≡ Some has.0
        typed = here.locals on ∙ has.1

        same_type : (u t : TyId) → Some u ≡ Some t → u ≡ t
        same_type u t e = cc

        told : (t : TyId) → here.ty (at c.now.id on) ≡ Some t → Sets p.core.types t (here.maps (at c.now.id on)) (m.value (at c.now.id on))
            → Sets p.core.types t (λ q. IsKnown b) (m.value (at c.now.id on))
        told t y sets = sets_single p.core.types t (IsKnown b) (m.value (at c.now.id on))
            (ap parts_of (ap (form p.core.types) (sym (same_type has.0 t (sym typed ∙ y))) ∙ has.2)) (ap truth_of is)

        truth_is : (k : Bool) → Some k ≡ Some b → k ≡ b
        truth_is k e = cc

        -- what is known of it already
        known : (k : Bool) → here.maps (at c.now.id on) [] ≡ IsKnown k → k ≡ b
        known k e = truth_is k (sym (subst (λ s. Meets s (m.value (at c.now.id on))) e
            (here.holds.set (at c.now.id on) (kept_here m (at c.now.id on) kept) has.0 typed [] (has.0, refl, ap parts_of has.2))) ∙ ap truth_of is)

        agrees : (l : ℕ) (t : TyId) (q : Path) → local_type c.now.fun l ≡ Some t → IsLeaf p.core.types t q
            → Tells (wholes (set_at here.maps (at c.now.id on) (λ q. IsKnown b)) c.now.id)
            ((where_is (context p signatures number c.now.fun) g on b).init l q) (set_at here.maps (at c.now.id on) (λ q. IsKnown b) (at c.now.id l) q)
        agrees l t q e leaf = tells_set_local here.maps c.now.id on (λ l q. resolved on b (g.init l q)) (λ q. IsKnown b) (λ q. IsKnown b) l q
            (resolved_untied on b (g.init l q))
            (tells_resolved (wholes here.maps c.now.id) on b (g.init l q) (here.maps (at c.now.id l) q) known (here.agrees l t q e leaf)) (λ _. refl)

    -- a test of a local that is known to be set
    flag_set : (on : ℕ) (go : Bool → Interaction Control) → HasForm p.core c.now.fun on Flags → IsSetSo (g.init on [])
        → ((b : Bool) → Here p signatures c m number (where_is (context p signatures number c.now.fun) g on b) → Sure p S (go b) m)
        → Sure p S (Fetch (whole (key c on)) (λ v. with_flag c v go)) m
    flag_set on go has set next calm = good_truth p S c (m.value (key c on)) go m
        (local_whole (acting p signatures sh c m number g here) g m (now_here p signatures sh c m number g here)
        on has.0 has.1 (ap parts_of has.2) set calm.0.kept) (λ b is. next b (here_where on b has calm.0.kept is)) calm.1

    statement_set : (a : Around (context p signatures number c.now.fun)) (s : Stmt) (d : FlowState)
        → Transfers (context p signatures number c.now.fun) a g s d → IsShaped p.core c.now.fun s → Left d
        → AroundBy (context p signatures number c.now.fun) a (BreakSet (context p signatures number c.now.fun) c.now.id c.now.work)
        (AgainSet (context p signatures number c.now.fun) c.now.id c.now.work) → Sure p S (does p c s) m
    statement_set a (Built o to from spans) d t is w out = built_set p signatures sh c m number g here o to from spans d t is w
    statement_set a (Set to k) d t is w out = let of : IsOf p.core c.now.fun is.0 to = is.1 in
        set_set p signatures sh c m number g here to k is.0 d of is.2 t.0 t.1 w
    statement_set a (Lend to place true) d t is w out = let of : IsOf p.core c.now.fun is.0 place = is.2 in
        lend_set p signatures sh c m number g here to place true is.0 d is.1 of t.0 t.1 w
    statement_set a (Lend to place false) d t is w out = let of : IsOf p.core c.now.fun is.0 place = is.2 in
        lend_set p signatures sh c m number g here to place false is.0 d is.1 of t.0 t.1 w
    statement_set a (Close l) d t is w out = let cl : Closes (context p signatures number c.now.fun) g l t.0 d = t.2 in
        close_set p signatures sh c m number g here l t.0 is.0 d (sleeper_of c.asleep (key c l)) is.1 t.1 cl w
    statement_set a (Move to from) d t is w out =
        let st : Stores (context p signatures number c.now.fun) (given (context p signatures number c.now.fun) g from) (Some to) d = t.1 in
        let of : IsOf p.core c.now.fun is.0 from = is.2 in move_set p signatures sh c m number g here to from is.0 d is.1 of t.0 st.0 st.1 w
    statement_set a (Copy to from) d t is w out = let st : Stores (context p signatures number c.now.fun) g (Some to) d = t.2 in
        let of : IsOf p.core c.now.fun is.0 from = is.2 in copy_set p signatures sh c m number g here to from is.0 d is.1 of t.0 st.0 st.1 w
    statement_set a (Drop place) d t is w out = let of : IsOf p.core c.now.fun is.0 place = is.1 in
        by_stage p.stage of t.1
      where
        by_stage : (stage : Stage) → IsOf p.core c.now.fun is.0 place → IsDropped (context p signatures number c.now.fun) stage g place
            → Sure p S (drop p stage c place) m
        by_stage Deinitialises of set = drop_begins p signatures sh c m number g here place is.0 d of t.0 t.2 w
        by_stage GivesUp of set = drop_set p signatures sh c m number g here place is.0 d of (record { give = t.0; set = set.0 }) set.1 t.2 w
    statement_set a (Call n lent owned to) d t is w out =
        call_set p signatures sh reads each c m number g here n is.0 is.1 lent owned to d is.2 is.3 is.4 is.5 is.7 t w
    statement_set a (Project n lent owned to) d t is w out =
        project_set p signatures sh reads each c m number g here n is.0 is.1 lent owned to d is.3 is.4 is.5 is.7 t w
    statement_set a (Slide l) d t is w out = let sl : Slides (context p signatures number c.now.fun) g l d = t.2 in
        slide_set p signatures sh c m number g here l t.0 d (sleeper_of c.asleep (key c l)) refl t.1 sl w
    statement_set a (Yield l) d t is w out = yield_set p signatures sh c m number g here l d is t.2 t.4 t.5 t.6 w c.callers c.now.dest here.callers here.ids
    statement_set a (If on u v) d t is w out = flag_set on _ is.0 t.1 branch
      where
        branch : (b : Bool) → Here p signatures c m number (where_is (context p signatures number c.now.fun) g on b)
            → Sure p S (Return (with_work c (Rest (cond b u v) c.now.work))) m
        branch true here' calm = works_at c m number (where_is (context p signatures number c.now.fun) g on true) here' (Rest u c.now.work)
            (record { around = a; last = d; transfers = t.2; shaped = is.1; outer = out; next = w })
        branch false here' calm = works_at c m number (where_is (context p signatures number c.now.fun) g on false) here' (Rest v c.now.work)
            (record { around = a; last = d; transfers = t.3; shaped = is.2; outer = out; next = w })
    statement_set a (While head on body) d t is w out =
        λ calm. works g (Loop head on body c.now.work) c.turns (less_self (context p signatures number c.now.fun) g) (record {
          first = t.0;
          flows = flows_less (context p signatures number c.now.fun) g t.0 t.2;
          loop = record {
            test = t.1;
            out = d;
            transfers = t.3;
            read = t.4;
            set = t.5;
            flag = is.1;
            pass = t.6;
            leaves = t.7;
            shaped_head = is.0;
            shaped_body =
                is.2;
            next = w;
          };
        })
    statement_set NoLoop Break d t is w out = absurd t
    statement_set (InLoop behind again) Break d t is w out =
        good_some p S c (broken c.now.work) _ m (λ v e calm. works behind v c.turns (flows_less (context p signatures number c.now.fun) g behind t)
        (break_set (context p signatures number c.now.fun) c.now.id c.now.work v behind e out.0))
    statement_set NoLoop Continue d t is w out = absurd t
    statement_set (InLoop behind again) Continue d t is w out =
        good_some p S c (continued c.now.work) _ m (λ v e calm. works again v c.turns (flows_less (context p signatures number c.now.fun) g again t)
        (again_set (context p signatures number c.now.fun) c.now.id c.now.work v again e out.1))
    statement_set a (Leave from) d t is w out = let of : IsOf p.core c.now.fun is.0 from = is.1 in
        leave_set p signatures sh c m number g here from is.0 of is.2 t.0 t.1

  goes_set : (c : Control) (m : Copies) (number : ℕ) (g : FlowState) (here : Here p signatures c m number g) (w : Work)
      → WorkSet (context p signatures number c.now.fun) c.now.id w g → Sure p S (goes_on p c w) m
  goes_set c m number g here Idle t = λ calm. over Stuck refl (λ e. absurd (cc))
  goes_set c m number g here (Rest Done w) t =
      λ calm. works c m number g here t.last w c.turns (flows_less (context p signatures number c.now.fun) g t.last t.transfers) t.next
  goes_set c m number g here (Rest (Then s ss) w) t = let h = t.transfers in let is : IsShaped p.core c.now.fun s × ShapedAll p.core c.now.fun ss = t.shaped in
      statement_set (with_work c (Rest ss w)) m number h.0 (here_work p signatures c m number h.0 (Rest ss w) c.turns
      (here_less p signatures c m number g h.0 (flows_less (context p signatures number c.now.fun) g h.0 h.2) here)) t.around s h.1 h.3 is.0
      (record { around = t.around; last = t.last; transfers = h.4; shaped = is.1; outer = t.outer; next = t.next }) t.outer
  goes_set c m number g here (Loop head on body w) t = λ calm. works c m number g here t.first (Rest head (Test head on body w)) c.turns t.flows
      (record {
        around = NoLoop;
        last = t.loop.test;
        transfers = t.loop.transfers;
        shaped = t.loop.shaped_head;
        outer = tt;
        next =
            record { first = t.first; loop = t.loop; flows = less_self (context p signatures number c.now.fun) t.loop.test };
      })
  goes_set c m number g here (Test head on body w) t =
      flag_set c m number t.loop.test (here_less p signatures c m number g t.loop.test t.flows here) on _ t.loop.flag t.loop.set pass
    where
      pass : (b : Bool) → Here p signatures c m number (where_is (context p signatures number c.now.fun) t.loop.test on b)
          → Sure p S (tested c head on body w b) m
      pass false here' = λ calm. works c m number (where_is (context p signatures number c.now.fun) t.loop.test on false) here' t.loop.out w c.turns
          (flows_less (context p signatures number c.now.fun) (where_is (context p signatures number c.now.fun) t.loop.test on false) t.loop.out t.loop.leaves)
          t.loop.next
      pass true here' = good_turn p S c c.turns _ m (λ j calm. works c m number (where_is (context p signatures number c.now.fun) t.loop.test on true) here'
          (where_is (context p signatures number c.now.fun) t.loop.test on true) (Rest body (Loop head on body w)) j
          (less_self (context p signatures number c.now.fun) (where_is (context p signatures number c.now.fun) t.loop.test on true))
          (record {
            around = InLoop t.loop.out t.first;
            last = t.first;
            transfers = t.loop.pass;
            shaped = t.loop.shaped_body;
            outer =
                (t.loop.next, t.loop);
            next = record { first = t.first; flows = less_self (context p signatures number c.now.fun) t.first; loop = t.loop };
          }))
  goes_set c m number g here (Drops ts w) t = tasks_set p signatures signs sh reads each c number w ts m g here t

  -- RUNS

  here_of : (c : Control) (m : Copies) (s : Stands p signatures c m) → calm_frames.Stands p signatures None c m.opened
      → Here p signatures c m s.now.number s.now.flow
  here_of c m s k = record {
    none = s.none;
    ty = s.ty;
    maps = s.maps;
    promised = s.promised;
    holds = s.holds;
    sound = s.sound;
    found = s.now.found;
    below = s.now.below;
    locals = s.now.locals;
    agrees = s.now.agrees;
    ties = s.now.ties;
    params = s.now.params;
    bound = s.now.bound;
    promises = s.now.promises;
    callers = s.callers;
    asleep = s.asleep;
    ids = record {
      not_now = k.others.not_now;
      distinct = k.others.distinct;
      nowhere = λ y b e. (k.others.sleepers y b e).nowhere;
      other = λ y b e. (k.others.sleepers y b e).not_now;
      apart = λ y b e. (k.others.sleepers y b e).apart;
      alone = k.others.alone;
    };
  }

  step_set : (c : Control) (m : Copies) → Stands p signatures c m → calm.Fine (calm_frames.Stands p signatures None) c m.opened → IsQuiet (interaction p c) m
      → Good p S (interaction p c) m
  step_set c m s (calm.over h e n) calm = absurd (let z : None ≡ Some h = sym s.none ∙ e in cc)
  step_set c m s (calm.stands k) calm = subst (λ (o : Option Halt). IsQuiet (interaction_of p c o) m
      → Good p S (interaction_of p c o) m) (sym s.none) (goes_set c m s.now.number s.now.flow (here_of c m s k) c.now.work s.now.goes) calm

  never_unset : (n : ℕ) (c : Control) (m : Copies) → Stands p signatures c m → calm.Fine (calm_frames.Stands p signatures None) c m.opened → Sound m
      → (steps copying (interaction p) n c m).control.halt ≢ Some NotSet
  never_unset zero c m s k sound = λ e. let z : None ≡ Some NotSet = sym s.none ∙ e in absurd (cc)
  never_unset (suc n) c m s k sound =
      let h = step_good p signatures signs sh each c m k sound in
      on _ _ (good_next p S (interaction p c) m (step_set c m s k (good_quiet (calm_frames.Stands p signatures None) (interaction p c) m h)))
      (λ s. never_unset n _ _ s (calm.good_next (calm_frames.Stands p signatures None) (interaction p c) m h)
      (calm.good_sound (calm_frames.Stands p signatures None) (interaction p c) m h sound))
    where
      on : (c : Control) (m : Copies) → Fine S c m → (Stands p signatures c m → (steps copying (interaction p) n c m).control.halt ≢ Some NotSet)
          → (steps copying (interaction p) n c m).control.halt ≢ Some NotSet
      on c m (over h e ne) go = λ q. ne (let z : Some h ≡ Some NotSet = sym (halted p sh n c m h e) ∙ q in cc)
      on c m (stands s) go = go s

  -- THE FIRST STATE

  first_set : (f : Fun) (input : List ℕ) (turns : ℕ) → slice_get p.core.funs 0 ≡ Some f → IsMain p.core f
      → Stands p signatures (begins_with (Some f) input turns None) no_copies
  first_set f input turns e is = record {
    none = refl;
    ty = λ k. local_type f k.local;
    maps = λ k. none_set;
    promised = λ k. none_set;
    holds = record {
      typed = record { value = λ k. tt; origin = λ k o e. absurd (cc); fresh = λ k le. refl };
      set = λ k here t y. sets_none p.core.types t;
      due = λ j o e. absurd (cc);
    };
    sound = nothing_open;
    now = record {
      number = 0;
      found = e;
      below = omega arith;
      locals = λ l. refl;
      flow = first (context p signatures 0 f);
      agrees = λ l t q e leaf. subst (λ s. Tells (wholes (λ k. none_set) 0) s IsUnset) (sym (unset l q)) refl;
      ties = λ l. subst (λ us. first_tie us l) (sym (ap types_of is.lent)) refl;
      params = λ j lt. let z : length (lent_types f) ≡ 0 = ap (λ us. length us) (ap types_of is.lent) in absurd (omega arith);
      bound = λ l w e q. absurd (not_bound l (slice_get (lent_types f) l) w e);
      promises = λ j lt q. let z : length (lent_types f) ≡ 0 = ap (λ us. length us) (ap types_of is.lent) in absurd (omega arith);
      goes = let b = each 0 f e in record { around = NoLoop; last = b.0; transfers = b.1; shaped = (sh.funs 0 f e).body; outer = tt; next = tt };
    };
    callers = tt;
    asleep = λ k b e. absurd (cc);
  }
    where
      first_tie : List TyId → ℕ → Type 0
      first_tie us l = Tie p.core.types f 0 l (first_status (context p signatures 0 f) (slice_get us l) l) None

      not_bound : (l : ℕ) (a : Option TyId) (w : Way) → first_status (context p signatures 0 f) a l ≡ Bound w → ⊥
      not_bound l None w e = absurd (cc)
      not_bound l (Some t) w e = absurd (cc)

      unset : (l : ℕ) (q : _) → first_map (context p signatures 0 f) (slice_get (lent_types f) l) (slice_get ((lent_types f) ++ f.owned) l) l q ≡ none_set q
      unset l q = ap (λ us. first_map (context p signatures 0 f) (slice_get (lent_types f) l) (slice_get ((lent_types f) ++ us) l) l q) is.owned
          ∙ ap (λ us. first_map (context p signatures 0 f) (slice_get us l) (slice_get (us ++ []) l) l q) (ap types_of is.lent)

  pub unset_from_start : (k : ℕ) (input : List ℕ) (turns : ℕ)
      → (steps copying (interaction p) k (start p.core input turns) no_copies).control.halt ≢ Some NotSet
  unset_from_start k input zero = λ q.
      let main = sh.main in
      let e : (start p.core input zero).halt ≡ Some (Ends end.Spent) =
      subst (λ (o : Option Fun). (begins_with o input zero (Some (Ends end.Spent))).halt ≡ Some (Ends end.Spent)) (sym main.1) refl in
      absurd (let z : Some (Ends end.Spent) ≡ Some NotSet = sym (halted p sh k (start p.core input zero) no_copies (Ends end.Spent) e) ∙ q in cc)
  unset_from_start k input (suc n) = never_unset k _ no_copies
      (subst (λ (o : Option Fun). Stands p signatures (begins_with o input n None) no_copies) (sym (sh.main).1)
      (first_set (sh.main).0 input n (sh.main).1 (sh.main).2)) (start_fine p signatures signs sh each input (suc n)) nothing_open

  -- WHAT IS GIVEN UP

  good_keeps : (t : Interaction Control) (m : Copies) → Good p S t m → KeepsAll p.stage t m
  good_keeps (Fetch s go) m h = good_keeps (go (copying.read m s)) m h
  good_keeps (Inspect s go) m h = good_keeps (go (shape (copying.read m s))) m h
  good_keeps (Perform o t) m h = (h.0, good_keeps t (apply copying o m) h.1)
  good_keeps (Return c) m h = tt

  halted_drops : (n : ℕ) (c : Control) (m : Copies) (h : Halt) → c.halt ≡ Some h → StaysDropped p.stage (interaction p) n c m
  halted_drops zero c m h e = tt
  halted_drops (suc n) c m h e = subst (λ (o : Option Halt). KeepsAll p.stage (interaction_of p c o) m
      × StaysDropped p.stage (interaction p) n (interpret copying (interaction_of p c o) m).control
      (interpret copying (interaction_of p c o) m).memory) (sym e)
      (tt, halted_drops n c m h e)

  drops : (n : ℕ) (c : Control) (m : Copies) → Stands p signatures c m → calm.Fine (calm_frames.Stands p signatures None) c m.opened → Sound m
      → StaysDropped p.stage (interaction p) n c m
  drops zero c m s k sound = tt
  drops (suc n) c m s k sound =
      let h = step_good p signatures signs sh each c m k sound in
      let t = step_set c m s k (good_quiet (calm_frames.Stands p signatures None) (interaction p c) m h) in (
        good_keeps (interaction p c) m t,
        on _ _ (good_next p S (interaction p c) m t)
            (λ s. drops n _ _ s (calm.good_next (calm_frames.Stands p signatures None) (interaction p c) m h)
            (calm.good_sound (calm_frames.Stands p signatures None) (interaction p c) m h sound)),
      )
    where
      on : (c : Control) (m : Copies) → Fine S c m → (Stands p signatures c m → StaysDropped p.stage (interaction p) n c m)
          → StaysDropped p.stage (interaction p) n c m
      on c m (over h e ne) go = halted_drops n c m h e
      on c m (stands s) go = go s

  pub drops_from_start : (k : ℕ) (input : List ℕ) (turns : ℕ) → StaysDropped p.stage (interaction p) k (start p.core input turns) no_copies
  drops_from_start k input zero =
      let main = sh.main in
      halted_drops k (start p.core input zero) no_copies (Ends end.Spent)
      (subst (λ (o : Option Fun). (begins_with o input zero (Some (Ends end.Spent))).halt ≡ Some (Ends end.Spent)) (sym main.1) refl)
  drops_from_start k input (suc n) = drops k _ no_copies
      (subst (λ (o : Option Fun). Stands p signatures (begins_with o input n None) no_copies) (sym (sh.main).1)
      (first_set (sh.main).0 input n (sh.main).1 (sh.main).2)) (start_fine p signatures signs sh each input (suc n)) nothing_open

pub flow_is_dropped : FlowIsDropped
flow_is_dropped r sh flow k = drops_from_start (setting r) (signatures_of r.core) (λ n. refl) sh (signatures_set r.core) flow.each k r.input r.turns

pub flow_is_calm : FlowIsCalm
flow_is_calm r sh flow = record {
  touches = flow_touches_calmly r sh flow;
  reads = λ k. unset_from_start (setting r) (signatures_of r.core) (λ n. refl) sh (signatures_set r.core) flow.each k r.input r.turns;
  closes = flow_closes_its_own r sh flow;
}

pub ready_cores_are_calm : ReadyCoresAreCalm
ready_cores_are_calm r e ready = flow_is_calm r ready.shaped (subst (λ s. HasFlow s r.core) (sym e) ready.flow)

pub ready_cores_drop_all : ReadyCoresDropAll
ready_cores_drop_all r e ready = flow_is_dropped r ready.shaped (subst (λ s. HasFlow s r.core) (sym e) ready.flow)
