-- The computed flow of a body is a flow of it.
use Rattle.std.proofs.Common.{◌≡◌, ◌≢◌, inl, inr, ⊎_elim, ℕ, zero, suc, ◌<◌, ◌≤◌, ◌+◌, ◌==◌, nat_lt, Bool, true, false, not, ◌&&◌, cond, List}
use Rattle.std.proofs.Common.{[], ◌∷◌, ◌++◌, length, Option, Some, None, slice_get, refl, sym, ap, ◌∙◌, subst, arith}
use Rattle.std.proofs.lemmas.Bool.{ltb-true}
use Rattle.std.proofs.lemmas.Option.{slice_get_within}
use Rattle.hy_types.specs.declared.kinds.TyId.{TyId}
use Rattle.hy_core.specs.Plain.{Place}
use Rattle.hy_core.specs.Plain.{Stmts, Done, Then, Stmt, Built, Set, Lend, Close, Move, Copy, Drop, Call, Project}
use Rattle.hy_core.specs.Plain.{Slide, Yield, If, While, Break, Continue, Leave, Way, Reads, Writes, Fun, lent_types, is_ramp, Core}
use Rattle.hy_core.specs.Control.{local_type, Stage, Deinitialises, GivesUp}
use Rattle.hy_core.specs.Statements.{way}
use Rattle.hy_core.specs.Typing.{Among, place_type, still}
use Rattle.hy_core.specs.Flow as rule
use Rattle.hy_core.specs.Flow.{InitState, IsSet, IsUnset, IsKnown, IsDoubtful, IsSetWith, IsSetSo, IsUntied, IsFlag, Knows, Becomes, where_is, set_to}
use Rattle.hy_core.specs.Flow.{stored_as, constant_state, form_or_unknown, InitMap, all_set, none_set}
use Rattle.hy_core.specs.Flow.{Holder, InLocal, InSubscript, OpenPlace, Loan, Status, Own, Param}
use Rattle.hy_core.specs.Flow.{Opened, Bound, FlowState, Terms, Signature, Context, set_local, with_init, with_status, with_open_place, IsOpen, IsInLocal}
use Rattle.hy_core.specs.Flow.{IsShutAt, MayReadAt, MayWriteAt, MayOpenAt, IndexesOk, IsLive, still_map, IsSetAt, IsLocalSet, IsLocalUnset, IsEntered}
use Rattle.hy_core.specs.Flow.{NoArray, ReadOk, ChangeOk, StoreOk, GiveOk, TakeOk, FlowsInto, given, stored_if, stored, Stores, Computes, opened}
use Rattle.hy_core.specs.Flow.{IsLendable, IsFree, LendOk, come_back, ComesBack, Without, Closes, Slides, HandOk, HandsOk, come_from, held_by, TakesOk}
use Rattle.hy_core.specs.Flow.{all_given, Calls, Projects, IsDropped, IsCopied, Frees, IsLeft, IsLast, TransfersBuilt, Around, NoLoop, InLoop, TransfersAll}
use Rattle.hy_core.specs.Flow.{Transfers, first_status, first, BodyFlows, context_of, signatures_of, HasFlow, is_exact, way_of}
use Rattle.hy_core.specs.FlowOf.{every, bool_eq, is_unset, counts}
use Rattle.hy_core.specs.FlowOf.{holder_eq, is_own, is_open}
use Rattle.hy_core.specs.FlowOf.{if_some, every_leaf, depth_of, Exits, goes_to, and_then, is_none, locals, each_local, is_shut}
use Rattle.hy_core.specs.FlowOf.{may_read, may_open, indexes_ok, is_live, set_place, local_is, read_ok, store_ok}
use Rattle.hy_core.specs.FlowOf.{give_ok, take_ok, flows_into, flows_in, meet, meet_exits, either, stores, is_free, lendable, lend_ok, without}
use Rattle.hy_core.specs.FlowOf.{comes_back, closed, closes, slid, slides, hand_ok, hands_ok, takes_ok, calls, projects, dropped, copied, left}
use Rattle.hy_core.specs.FlowOf.{is_last, ends, condition_ok, follows, passes, loops, at_head, flow_all, flow_one, is_whole_flow, body_flows}
use Rattle.hy_core.specs.FlowOf.{each_flows, has_flow, untied, loop_from, after_pass, or_from}
use Rattle.hy_core.specs.Flow.{IsEmpty, IsEmptyWithout, changed, CountOk, CompareOk, counted, compared, retied, HasNoElements, is_whole_local}
use Rattle.hy_core.specs.FlowOf.{tried, without_ties}
use Rattle.hy_core.proofs.FlowTests.{and_l, and_r, not_is, nat_not, bool_is, set_so_is, unset_is}
use Rattle.hy_core.proofs.FlowTests.{counts_is, holder_is, status_is, open_is}
use Rattle.hy_core.proofs.FlowTests.{every_is, if_some_is, leaf_is, array_sound}
use Rattle.hy_core.proofs.FlowOperations.{Fits, Into, Outside, OutsideIn, Sound, SoundAll, all_outside, and_then_is, below_is, built_sound}
use Rattle.hy_core.proofs.FlowOperations.{come_outside, cond_false, cond_is, cond_true, empty_place, entered_by, fits_both, flows_in_is, flows_is}
use Rattle.hy_core.proofs.FlowOperations.{flows_on, flows_self, front_length, give_is, goes, held_outside, indexes_are, le_false, live_is, local_so}
use Rattle.hy_core.proofs.FlowOperations.{local_there, lt_true, meet_all, meet_is, none_is, open_at_is, own_outside, read_at_is, read_is, set_is}
use Rattle.hy_core.proofs.FlowOperations.{set_outside, shut_is, side, simple, slice_front, some_is, status_outside, store_is, stores_sound, take_is}
use Rattle.hy_core.proofs.FlowOperations.{untied_is}

module _ (x : Context) where
  -- OPENING AND CLOSING

  free_is : (g : FlowState) (to : ℕ) → is_free x g to ≡ true → IsFree x g to × (to < locals x)
  free_is g to h =
      let a = and_r (is_own (g.status to)) _ h in
      let b = and_r (local_is x g to IsUnset) _ a in (
        record {
          own = status_is (g.status to) Own (and_l (is_own (g.status to)) _ h);
          unset =
              local_so x g to IsUnset (and_l (local_is x g to IsUnset) _ a);
          shut = shut_is x g to (and_l (is_shut x g to) _ b);
          untied = untied_is x g to (and_r (nat_lt to (locals x)) _ (and_r (is_shut x g to) _ b));
        },
        ltb-true to (locals x) (and_l (nat_lt to (locals x)) _ (and_r (is_shut x g to) _ b)),
      )

  lendable_is : (g : FlowState) (p : Place) (w : Way) → lendable x g p w ≡ true → IsLendable x g p w
  lendable_is g p Reads h = set_is x g p h
  lendable_is g p Writes h = entered_by x g p (is_exact p.steps) h

  lend_is : (g : FlowState) (to : ℕ) (p : Place) (w : Way) → lend_ok x g to p w ≡ true → LendOk x g to p w × (to < locals x)
  lend_is g to p w h =
      let a = and_r (is_free x g to) _ h in
      let b = and_r (not (to == p.local)) _ a in
      let c = and_r (is_live x g p.local) _ b in
      let d = and_r (indexes_ok x g p.steps) _ c in
      let f = free_is g to (and_l (is_free x g to) _ h) in (
        record {
          free = f.0;
          other = nat_not to p.local (not_is (to == p.local) (and_l (not (to == p.local)) _ a));
          live =
              live_is x g p.local (and_l (is_live x g p.local) _ b);
          indexes = indexes_are x g p.steps (and_l (indexes_ok x g p.steps) _ c);
          may =
              open_at_is x g p.local (still p.steps) w (and_l (may_open x g p.local (still p.steps) w) _ d);
          lendable =
              lendable_is g p w (and_r (may_open x g p.local (still p.steps) w) _ d);
        },
        f.1,
      )

  kept_without : (h : Holder) (ps : List OpenPlace) (e : OpenPlace) → Among e ps → e.holder ≢ h → Among e (without h ps)
  kept_without h [] e a n = a
  kept_without h (p ∷ ps) e a n = by (holder_eq p.holder h) refl a (λ a. kept_without h ps e a n)
    where
      by : (b : Bool) → holder_eq p.holder h ≡ b → Among e (p ∷ ps) → (Among e ps → Among e (without h ps))
          → Among e (cond b (without h ps) (p ∷ without h ps))
      by true q (inl z) on = absurd (n (ap (λ e. e.holder) z ∙ holder_is p.holder h q))
      by true q (inr a) on = on a
      by false q (inl z) on = inl z
      by false q (inr a) on = inr (on a)

  comes_is : (g : FlowState) (l : ℕ) (w : Way) (b : Bool) → comes_back x g l w b ≡ true → ComesBack x g l w b
  comes_is g l Reads b h = tt
  comes_is g l Writes true h = tt
  comes_is g l Writes false h = local_so x g l IsSet h

  come_back_outside : (g : FlowState) (l : ℕ) (o : Loan) (w : Way) (b : Bool) → Outside x g → Outside x (come_back x g l o w b)
  come_back_outside g l o Reads b out = out
  come_back_outside g l o Writes true out = out
  come_back_outside g l o Writes false out = out

  close_sound : (g : FlowState) (l : ℕ) (s : Status) (e : Exits) → Outside x g → g.status l ≡ s → closes x g l s ≡ Some e → Sound x g (Close l) e
  close_sound g l Own e o is q = absurd (cc)
  close_sound g l (Param w) e o is q = absurd (cc)
  close_sound g l (Bound w) e o is q = absurd (cc)
  close_sound g l (Opened loan) e o is q = simple x g (closed x g l loan) (Close l)
      (is_shut x g l && (comes_back x g l loan.way loan.exact && (untied x g l && untied x g loan.base))) e
      (own_outside x (come_back x g l loan loan.way loan.exact) l none_set (come_back_outside g l loan loan.way loan.exact o)) q
      (λ h a d i. (
        loan,
        is,
        (
          shut_is x g l (and_l (is_shut x g l) _ h),
          comes_is g l loan.way loan.exact (and_l (comes_back x g l loan.way loan.exact) _ (and_r (is_shut x g l) _ h)),
          (
            closed x g l loan,
            record {
              status = refl;
              init = refl;
              open_places =
                  λ e m n. kept_without (InLocal l) (come_back x g l loan loan.way loan.exact).open_places e m n;
              yielded = refl;
            },
            i,
          ),
          untied_is x g l (and_l (untied x g l) _ (and_r (comes_back x g l loan.way loan.exact) _ (and_r (is_shut x g l) _ h))),
          untied_is x g loan.base (and_r (untied x g l) _ (and_r (comes_back x g l loan.way loan.exact) _ (and_r (is_shut x g l) _ h))),
        ),
      ))

  slide_sound : (g : FlowState) (l : ℕ) (s : Status) (e : Exits) → Outside x g → g.status l ≡ s → slides x g l s ≡ Some e → Sound x g (Slide l) e
  slide_sound g l Own e o is q = absurd (cc)
  slide_sound g l (Param w) e o is q = absurd (cc)
  slide_sound g l (Opened loan) e o is q = absurd (cc)
  slide_sound g l (Bound w) e o is q = simple x g (slid x g l) (Slide l)
      (is_shut x g l && (local_is x g l IsSet && untied x g l)) e (own_outside x g l none_set o) q
      (λ h a d i. (
        w,
        is,
        (
          shut_is x g l (and_l (is_shut x g l) _ h),
          local_so x g l IsSet (and_l (local_is x g l IsSet) _ (and_r (is_shut x g l) _ h)),
          (slid x g l, record { status = refl; init = refl; open_places = λ e m n. kept_without (InSubscript l) g.open_places e m n; yielded = refl }, i),
          untied_is x g l (and_r (local_is x g l IsSet) _ (and_r (is_shut x g l) _ h)),
        ),
      ))

  -- CALLS

  hand_is : (g : FlowState) (terms : Terms) (l : ℕ) → hand_ok x g terms l ≡ true → HandOk x g terms l
  hand_is g terms l h =
      let a = and_r (is_open (g.status l) terms.way) _ h in
      record {
        status = open_is (g.status l) terms.way (and_l (is_open (g.status l) terms.way) _ h);
        shut = shut_is x g l (and_l (is_shut x g l) _ a);
        init = λ t e q leaf. counts_is (terms.before q) (g.init l q)
            (leaf_is x.core.types (depth_of x.core.types) t (λ q. counts (terms.before q) (g.init l q))
            (if_some_is (local_type x.fun l) _ t (and_r (untied x g l) _ (and_r (is_shut x g l) _ a)) e) q leaf);
        untied = untied_is x g l (and_l (untied x g l) _ (and_r (is_shut x g l) _ a));
      }

  hands_are : (g : FlowState) (s : Signature) (i : ℕ) (ls : List ℕ) → hands_ok x g s i ls ≡ true → HandsOk x g s i ls
  hands_are g s i [] h = tt
  hands_are g s i (l ∷ ls) h = (hand_is g (s.lent i) l (and_l (hand_ok x g (s.lent i) l) _ h), hands_are g s (suc i) ls (and_r (hand_ok x g (s.lent i) l) _ h))

  takes_are : (g : FlowState) (ps : List Place) → takes_ok x g ps ≡ true → TakesOk x g ps
  takes_are g [] h = tt
  takes_are g (p ∷ ps) h = (take_is x g p (and_l (take_ok x g p) _ h), takes_are (given x g p) ps (and_r (take_ok x g p) _ h))

  call_sound : (g : FlowState) (n : ℕ) (lent : List ℕ) (owned : List Place) (to : Place) (e : Exits) → Outside x g → calls x g n lent owned to ≡ Some e
      → Sound x g (Call n lent owned to) e
  call_sound g n lent owned to e o q =
      let h = all_given x g owned in
      let s = x.signatures n in
      let r = cond_is (takes_ok x g owned && hands_ok x h s 0 lent) (stores x (come_from x h s 0 lent) (Some to)) e q in
      let w = stores_sound x (come_from x h s 0 lent) (Some to) e (come_outside x h s 0 lent (all_outside x g owned o)) r.1 in
      record {
        outside = w.outside;
        onward =
            λ a d i f. (takes_are g owned (and_l (takes_ok x g owned) _ r.0), hands_are h s 0 lent (and_r (takes_ok x g owned) _ r.0), w.stores_is d i);
      }

  project_sound : (g : FlowState) (n : ℕ) (lent : List ℕ) (owned : List Place) (to : ℕ) (e : Exits) → Outside x g → projects x g n lent owned to ≡ Some e
      → Sound x g (Project n lent owned to) e
  project_sound g n lent owned to e o q =
      let h = all_given x g owned in
      let s = x.signatures n in
      let held = held_by x to (come_from x h s 0 lent) s 0 lent in
      let r = cond_is (takes_ok x g owned && (hands_ok x h s 0 lent && is_free x h to)) (Some (goes_to (with_status held to (Bound s.yields) all_set))) e q in
      let c = and_r (takes_ok x g owned) _ r.0 in
      let f = free_is h to (and_r (hands_ok x h s 0 lent) _ c) in
      subst (Sound x g (Project n lent owned to)) (some_is (goes_to (with_status held to (Bound s.yields) all_set)) e r.1) (record {
        outside = goes x (with_status held to (Bound s.yields) all_set)
            (status_outside x held to (Bound s.yields) all_set f.1
            (held_outside x to (come_from x h s 0 lent) s 0 lent (come_outside x h s 0 lent (all_outside x g owned o))));
        onward = λ a d i w. (takes_are g owned (and_l (takes_ok x g owned) _ r.0), hands_are h s 0 lent (and_l (hands_ok x h s 0 lent) _ c), f.0, i);
      })

  -- STAGES, AND ENDS

  dropped_is : (s : Stage) (g : FlowState) (p : Place) → dropped x s g p ≡ true → IsDropped x s g p
  dropped_is Deinitialises g p h = tt
  dropped_is GivesUp g p h = (set_is x g p (and_l (set_place x g p) _ h), empty_place x g p (and_r (set_place x g p) _ h))

  copied_is : (s : Stage) (p : Place) → copied x s p ≡ true → IsCopied x s p
  copied_is Deinitialises p h = tt
  copied_is GivesUp p h = λ t e q a. let z : false ≡ true =
      array_sound x.core.types t (λ q. false) (if_some_is (place_type x.core.types x.fun p) _ t h e) q a in absurd (cc)

  left_is : (s : Stage) (g : FlowState) (l : ℕ) → left x s g l ≡ true → IsLeft x s g l
  left_is Deinitialises g l h =
      λ t e q a. unset_is (g.init l q) (array_sound x.core.types t (λ q. is_unset (g.init l q)) (if_some_is (local_type x.fun l) _ t h e) q a)
  left_is GivesUp g l h = local_so x g l IsUnset h

  left_outside : (s : Stage) (g : FlowState) (l : ℕ) → locals x ≤ l → IsLeft x s g l
  left_outside Deinitialises g l le = λ t e. absurd (let lt = local_there x l t e in omega arith)
  left_outside GivesUp g l le = λ t e. absurd (let lt = local_there x l t e in omega arith)

  abbrev last_local : FlowState → ℕ → Bool
  last_local g l = cond (nat_lt l (length (lent_types x.fun)))
      (if_some (local_type x.fun l) (λ t. every_leaf x.core.types (depth_of x.core.types) t (λ a q. counts ((x.signature.lent l).after q) (g.init l q))))
      (is_own (g.status l) && left x x.stage g l)

  last_is : (g : FlowState) → Outside x g → is_last x g ≡ true → IsLast x g
  last_is g o h = record {
    yielded = bool_is g.yielded (is_ramp x.fun) (and_l (bool_eq g.yielded (is_ramp x.fun)) _ h);
    open_places = λ e a. let z : false ≡ true = every_is (λ e. false) g.open_places e (and_l (every (λ e. false) g.open_places) _ rest) a in absurd (cc);
    closed = λ l le. ⊎_elim (λ lt. status_is (g.status l) Own (and_l (is_own (g.status l)) _ (after l lt le))) (λ out. o l out) (side l (locals x));
    lent = λ l t e q leaf. counts_is ((x.signature.lent l).after q) (g.init l q)
        (leaf_is x.core.types (depth_of x.core.types) t (λ q. counts ((x.signature.lent l).after q) (g.init l q))
        (if_some_is (local_type x.fun l) _ t (before l (slice_get_within (lent_types x.fun) l t e))
        (slice_front (lent_types x.fun) (x.fun.owned ++ x.fun.locals) l (slice_get_within (lent_types x.fun) l t e) ∙ e)) q leaf);
    left = λ l le. ⊎_elim (λ lt. left_is x.stage g l (and_r (is_own (g.status l)) _ (after l lt le)))
        (λ out. left_outside x.stage g l out) (side l (locals x));
  }
    where
      rest : (every (λ e. false) g.open_places && each_local x (locals x) (last_local g)) ≡ true
      rest = and_r (bool_eq g.yielded (is_ramp x.fun)) _ h

      each : (l : ℕ) → l < locals x → last_local g l ≡ true
      each l lt = below_is (locals x) (last_local g) x l (and_r (every (λ e. false) g.open_places) _ rest) lt

      shorter : length (lent_types x.fun) ≤ locals x
      shorter = front_length (lent_types x.fun) (x.fun.owned ++ x.fun.locals)

      before : (l : ℕ) → l < length (lent_types x.fun)
          → if_some (local_type x.fun l) (λ t. every_leaf x.core.types (depth_of x.core.types) t
          (λ a q. counts ((x.signature.lent l).after q) (g.init l q))) ≡ true
      before l lt = let s = shorter in cond_true (nat_lt l (length (lent_types x.fun))) _ _ (lt_true l (length (lent_types x.fun)) lt) (each l (omega arith))

      after : (l : ℕ) → l < locals x → length (lent_types x.fun) ≤ l → (is_own (g.status l) && left x x.stage g l) ≡ true
      after l lt le = cond_false (nat_lt l (length (lent_types x.fun))) _ _ (le_false l (length (lent_types x.fun)) le) (each l lt)

  opened_outside : (g : FlowState) (to : ℕ) (p : Place) (w : Way) → Outside x g → lend_ok x g to p w ≡ true → Outside x (opened x g to p w)
  opened_outside g to p w o h =
      status_outside x g to (Opened (record { base = p.local; path = still p.steps; exact = is_exact p.steps; way = w }))
      (rule.opened_map x g p (is_exact p.steps)) (lend_is g to p w h).1 o

  -- STATEMENTS

  ends_is : (ss : Stmts) (e f : Exits) → ends ss e ≡ Some f → (ss ≡ Done) × (e ≡ f)
  ends_is Done e f q = (refl, some_is e f q)
  ends_is (Then s ss) e f q = absurd (cc)

  condition_is : (g : FlowState) (on : ℕ) → condition_ok x g on ≡ true → MayReadAt g on [] × IsSetSo (g.init on []) × IsLive x g on
  condition_is g on h =
      let a = and_r (is_live x g on) _ h in (
        read_at_is x g on [] (and_l (may_read x g on []) _ a),
        set_so_is (g.init on []) (and_r (may_read x g on []) _ a),
        live_is x g on (and_l (is_live x g on) _ h),
      )

  abbrev SoundHere : Stmts → Type 0
  SoundHere ss = (g : FlowState) (e : Exits) → Outside x g → flow_all x ss g ≡ Some e → SoundAll x g ss e

  without_becomes : (g : FlowState) (s : InitState) → Becomes x g s (without_ties x s)
  without_becomes g IsSet = tt
  without_becomes g IsUnset = refl
  without_becomes g (IsKnown b) = refl
  without_becomes g IsEmpty = refl
  without_becomes g (IsEmptyWithout l) = tt
  without_becomes g IsDoubtful = inl refl
  without_becomes g (IsSetWith f) = inl refl

  -- a statement as it is, or where less is told
  tried_sound : (s : Stmt) (g : FlowState) (e : Exits) → Outside x g → ((g : FlowState) (e : Exits) → Outside x g → flow_one x s g ≡ Some e → Sound x g s e)
      → tried x (flow_one x s g) g (flow_one x s) ≡ Some e → (k : FlowState) × FlowsInto x g k × Sound x k s e
  tried_sound s g e o one q = by (flow_one x s g) refl q
    where
      by : (r : Option Exits) → flow_one x s g ≡ r → tried x r g (flow_one x s) ≡ Some e → (k : FlowState) × FlowsInto x g k × Sound x k s e
      by (Some f) is q = (g, flows_self x g, one g e o (is ∙ q))
      by None is q = (
        record g { init = λ l r. without_ties x (g.init l r) },
        record { status = λ l. refl; init = λ l t r y leaf. without_becomes g (g.init l r); open_places = λ e a. a; yielded = refl },
        one (record g { init = λ l r. without_ties x (g.init l r) }) e o q,
      )

  then_sound : (s : Stmt) (ss : Stmts) (g : FlowState) (e : Exits) → Outside x g
      → ((g : FlowState) (e : Exits) → Outside x g → flow_one x s g ≡ Some e → Sound x g s e) → SoundHere ss
      → flow_all x (Then s ss) g ≡ Some e → SoundAll x g (Then s ss) e
  then_sound s ss g e o one rest q =
      let r = and_then_is (tried x (flow_one x s g) g (flow_one x s)) (λ e. follows x e.next e ss (flow_all x ss)) e q in
      let t = tried_sound s g r.0 o one r.1 in
      by r.0 t.0 t.1 t.2 r.0.next refl r.2
    where
      by : (e1 : Exits) (k : FlowState) → FlowsInto x g k → Sound x k s e1 → (n : Option FlowState) → e1.next ≡ n
          → follows x n e1 ss (flow_all x ss) ≡ Some e → SoundAll x g (Then s ss) e
      by e1 k flows s1 None is q =
          let r = ends_is ss e1 e q in
          subst (λ ss. SoundAll x g (Then s ss) e) (sym r.0) (subst (λ e. SoundAll x g (Then s Done) e) r.1
          (record { outside = s1.outside; onward = λ a d i f. (k, d, flows, s1.onward a d (subst (λ n. Into x n d) (sym is) tt) f, flows_self x d) }))
      by e1 k flows s1 (Some h) is q =
          let r = and_then_is (flow_all x ss h) (λ f. meet_exits x f.next e1 f) e q in
          let s2 = rest h r.0 (subst (OutsideIn x) is s1.outside.next) r.1 in
          let m = meet_all x r.0.next e1 r.0 e s1.outside s2.outside r.2 in
          record {
            outside = record { next = subst (OutsideIn x) (sym m.next_is) s2.outside.next; breaks = m.breaks.outside; again = m.again.outside };
            onward = λ a d i f. let b = fits_both x a r.0.next e1 r.0 e m f in (
              k,
              h,
              flows,
              s1.onward a h (subst (λ n. Into x n h) (sym is) (flows_self x h)) b.0,
              s2.onward a d (subst (λ n. Into x n d) m.next_is i) b.1,
            );
          }

  if_sound : (on : ℕ) (u v : Stmts) (g : FlowState) (e : Exits) → Outside x g → SoundHere u → SoundHere v → flow_one x (If on u v) g ≡ Some e
      → Sound x g (If on u v) e
  if_sound on u v g e o su sv q =
      let r = cond_is (condition_ok x g on) (and_then (flow_all x u (where_is x g on true))
      (λ e. and_then (flow_all x v (where_is x g on false)) (either x e))) e q in
      let c = condition_is g on r.0 in
      let a = and_then_is (flow_all x u (where_is x g on true)) (λ e. and_then (flow_all x v (where_is x g on false)) (either x e)) e r.1 in
      let b = and_then_is (flow_all x v (where_is x g on false)) (either x a.0) e a.2 in
      let s1 = su (where_is x g on true) a.0 o a.1 in
      let s2 = sv (where_is x g on false) b.0 o b.1 in
      let n = and_then_is (meet x a.0.next b.0.next) (λ next. meet_exits x next a.0 b.0) e b.2 in
      let next = meet_is x a.0.next b.0.next n.0 s1.outside.next s2.outside.next n.1 in
      let m = meet_all x n.0 a.0 b.0 e s1.outside s2.outside n.2 in
      record {
        outside = record { next = subst (OutsideIn x) (sym m.next_is) next.outside; breaks = m.breaks.outside; again = m.again.outside };
        onward = λ k d i f. let w = next.into d (subst (λ n. Into x n d) m.next_is i) in let z = fits_both x k n.0 a.0 b.0 e m f in
            (c.0, c.1, s1.onward k d w.0 z.0, s2.onward k d w.1 z.1, c.2);
      }

  into_on : (o : Option FlowState) (t d : FlowState) → Into x o t → FlowsInto x t d → Into x o d
  into_on None t d i f = tt
  into_on (Some g) t d i f = flows_on x g t d i f

  -- a loop that begins in a state to which the one before it leads
  loop_sound : (head : Stmts) (on : ℕ) (body : Stmts) (g h : FlowState) (e : Exits) → FlowsInto x g h → Outside x h → SoundHere head → SoundHere body
      → loop_from x (flow_all x head) (flow_all x body) on h ≡ Some e → Sound x g (While head on body) e
  loop_sound head on body g0 g e enters o sh sb q =
      let r = and_then_is (flow_all x head g) (λ h. at_head x g on h (flow_all x body)) e q in
      let s1 = sh g r.0 o r.1 in
      let c = cond_is (is_none r.0.breaks && is_none r.0.again) (loops x g on r.0.next (flow_all x body)) e r.2 in
      by r.0 s1 (none_is r.0.breaks (and_l (is_none r.0.breaks) _ c.0)) (none_is r.0.again (and_r (is_none r.0.breaks) _ c.0)) r.0.next refl c.1
    where
      by : (h : Exits) → SoundAll x g head h → h.breaks ≡ None → h.again ≡ None → (n : Option FlowState) → h.next ≡ n
          → loops x g on n (flow_all x body) ≡ Some e → Sound x g0 (While head on body) e
      by h s1 nb na None is q = absurd (cc)
      by h s1 nb na (Some t) is q =
          let c = cond_is (condition_ok x t on) (and_then (flow_all x body (where_is x t on true)) (passes x g (where_is x t on false))) e q in
          let k = condition_is t on c.0 in
          let out : Outside x t = subst (OutsideIn x) is s1.outside.next in
          let b = and_then_is (flow_all x body (where_is x t on true)) (passes x g (where_is x t on false)) e c.1 in
          let s2 = sb (where_is x t on true) b.0 out b.1 in
          let p = cond_is (flows_in x b.0.next g && flows_in x b.0.again g)
          (and_then (meet x (Some (where_is x t on false)) b.0.breaks) (λ out. Some (record { next = out; breaks = None; again = None }))) e b.2 in
          let m = and_then_is (meet x (Some (where_is x t on false)) b.0.breaks) (λ out. Some (record { next = out; breaks = None; again = None })) e p.1 in
          let meets = meet_is x (Some (where_is x t on false)) b.0.breaks m.0 out s2.outside.breaks m.1 in
          let next = flows_in_is x b.0.next g s2.outside.next o (and_l (flows_in x b.0.next g) _ p.0) in
          let again = flows_in_is x b.0.again g s2.outside.again o (and_r (flows_in x b.0.next g) _ p.0) in
          subst (Sound x g0 (While head on body)) (some_is (record { next = m.0; breaks = None; again = None }) e m.2) (record {
            outside = record { next = meets.outside; breaks = tt; again = tt };
            onward = λ a d i f. let z = meets.into d i in (
              g,
              t,
              enters,
              s1.onward NoLoop t (subst (λ n. Into x n t) (sym is) (flows_self x t)) (nb, na),
              k.0,
              k.1,
              s2.onward (InLoop d g) g next (z.1, again),
              z.0,
              k.2,
            );
          })

  while_sound : (head : Stmts) (on : ℕ) (body : Stmts) (g : FlowState) (e : Exits) → Outside x g → SoundHere head → SoundHere body
      → flow_one x (While head on body) g ≡ Some e → Sound x g (While head on body) e
  while_sound head on body g e o sh sb q =
      by (loop_from x (flow_all x head) (flow_all x body) on g) refl (after_pass x (flow_all x head) (flow_all x body) on g) q
    where
      by : (first : Option Exits) → loop_from x (flow_all x head) (flow_all x body) on g ≡ first → (after : Option FlowState)
          → or_from x first g after (loop_from x (flow_all x head) (flow_all x body) on) ≡ Some e → Sound x g (While head on body) e
      by (Some f) is after q = loop_sound head on body g g e (flows_self x g) o sh sb (is ∙ q)
      by None is None q = absurd (cc)
      by None is (Some d) q =
          let h : FlowState = record g { init = d.init } in
          let c = cond_is (flows_into x g h) (loop_from x (flow_all x head) (flow_all x body) on h) e q in
          loop_sound head on body g h e (flows_is x g h o o c.0) o sh sb c.1

  mutual
    flow_sound : (ss : Stmts) (g : FlowState) (e : Exits) → Outside x g → flow_all x ss g ≡ Some e → SoundAll x g ss e
    flow_sound Done g e o q = subst (SoundAll x g Done) (some_is (goes_to g) e q) (record { outside = goes x g o; onward = λ a d i f. i })
    flow_sound (Then s ss) g e o q = then_sound s ss g e o (λ g e o q. one_sound s g e o q) (λ g e o q. flow_sound ss g e o q) q

    one_sound : (s : Stmt) (g : FlowState) (e : Exits) → Outside x g → flow_one x s g ≡ Some e → Sound x g s e
    one_sound (Built operator to from spans) g e o q = let r = built_sound x operator g o to from e q in
        record { outside = r.outside; onward = λ a d i f. r.built_is d i }
    one_sound (Set to n) g e o q = simple x g (set_to x g to n) (Set to n) (store_ok x g to) e (set_outside x g to n o) q (λ h a d i. (store_is x g to h, i))
    one_sound (Lend to place w) g e o q = simple x g (opened x g to place (way w)) (Lend to place w) (lend_ok x g to place (way w)) e
        (opened_outside g to place (way w) o (cond_is (lend_ok x g to place (way w)) (Some (goes_to (opened x g to place (way w)))) e q).0) q
        (λ h a d i. ((lend_is g to place (way w) h).0, i))
    one_sound (Close l) g e o q = close_sound g l (g.status l) e o refl q
    one_sound (Move to from) g e o q =
        let r = cond_is (take_ok x g from) (stores x (given x g from) (Some to)) e q in
        let s = stores_sound x (given x g from) (Some to) e o r.1 in
        record { outside = s.outside; onward = λ a d i f. (take_is x g from r.0, s.stores_is d i) }
    one_sound (Copy to from) g e o q =
        let r = cond_is (read_ok x g from && copied x x.stage from) (stores x g (Some to)) e q in
        let s = stores_sound x g (Some to) e o r.1 in
        record {
          outside = s.outside;
          onward =
              λ a d i f. (read_is x g from (and_l (read_ok x g from) _ r.0), copied_is x.stage from (and_r (read_ok x g from) _ r.0), s.stores_is d i);
        }
    one_sound (Drop place) g e o q = simple x g (given x g place) (Drop place) (give_ok x g place && dropped x x.stage g place) e o q
        (λ h a d i. (give_is x g place (and_l (give_ok x g place) _ h), dropped_is x.stage g place (and_r (give_ok x g place) _ h), i))
    one_sound (Call n lent owned to) g e o q = call_sound g n lent owned to e o q
    one_sound (Project n lent owned to) g e o q = project_sound g n lent owned to e o q
    one_sound (Slide l) g e o q = slide_sound g l (g.status l) e o refl q
    one_sound (Yield l) g e o q = simple x g (record (with_init g l [] all_set) { yielded = true }) (Yield l) _ e o q
        (λ h a d i. let b = and_r (is_ramp x.fun) _ h in let c = and_r (not g.yielded) _ b in let k = and_r (is_open (g.status l) x.signature.yields) _ c in (
          and_l (is_ramp x.fun) _ h,
          not_is g.yielded (and_l (not g.yielded) _ b),
          open_is (g.status l) x.signature.yields (and_l (is_open (g.status l) x.signature.yields) _ c),
          shut_is x g l (and_l (is_shut x g l) _ k),
          local_so x g l IsSet (and_l (local_is x g l IsSet) _ (and_r (is_shut x g l) _ k)),
          i,
          untied_is x g l (and_r (local_is x g l IsSet) _ (and_r (is_shut x g l) _ k)),
        ))
    one_sound (If on u v) g e o q = if_sound on u v g e o (λ g e o q. flow_sound u g e o q) (λ g e o q. flow_sound v g e o q) q
    one_sound (While head on body) g e o q = while_sound head on body g e o (λ g e o q. flow_sound head g e o q) (λ g e o q. flow_sound body g e o q) q
    one_sound Break g e o q = subst (Sound x g Break) (some_is (record { next = None; breaks = Some g; again = None }) e q)
        (record { outside = record { next = tt; breaks = o; again = tt }; onward = λ a d i f. breaks a f })
      where
        breaks : (a : Around x) → Fits x a (record { next = None; breaks = Some g; again = None }) → rule.Breaks x a g
        breaks NoLoop f = absurd (let z : Some g ≡ None = f.0 in cc)
        breaks (InLoop after again) f = f.0
    one_sound Continue g e o q = subst (Sound x g Continue) (some_is (record { next = None; breaks = None; again = Some g }) e q)
        (record { outside = record { next = tt; breaks = tt; again = o }; onward = λ a d i f. continues a f })
      where
        continues : (a : Around x) → Fits x a (record { next = None; breaks = None; again = Some g }) → rule.Continues x a g
        continues NoLoop f = absurd (let z : Some g ≡ None = f.1 in cc)
        continues (InLoop after again) f = f.1
    one_sound (Leave from) g e o q =
        let r = cond_is (take_ok x g from && is_last x (given x g from)) (Some (record { next = None; breaks = None; again = None })) e q in
        subst (Sound x g (Leave from)) (some_is (record { next = None; breaks = None; again = None }) e r.1)
        (record {
          outside = record { next = tt; breaks = tt; again = tt };
          onward =
              λ a d i f. (take_is x g from (and_l (take_ok x g from) _ r.0), last_is (given x g from) o (and_r (take_ok x g from) _ r.0));
        })

  -- BODIES

  first_outside : Outside x (first x)
  first_outside l le = by (slice_get (lent_types x.fun) l) refl
    where
      by : (o : Option TyId) → slice_get (lent_types x.fun) l ≡ o → first_status x o l ≡ Own
      by None e = refl
      by (Some t) e = let lt = slice_get_within (lent_types x.fun) l t e in let s = front_length (lent_types x.fun) (x.fun.owned ++ x.fun.locals) in
          absurd (omega arith)

  pub body_sound : body_flows x ≡ true → BodyFlows x
  body_sound h = by (flow_all x x.fun.body (first x)) refl h
    where
      last : (n : Option FlowState) → ((d : FlowState) → Into x n d → TransfersAll x NoLoop (first x) x.fun.body d) → BodyFlows x
      last None t = (first x, t (first x) tt)
      last (Some d) t = (d, t d (flows_self x d))

      by : (o : Option Exits) → flow_all x x.fun.body (first x) ≡ o → is_whole_flow o ≡ true → BodyFlows x
      by None q h = absurd (cc)
      by (Some e) q h =
          let s = flow_sound x.fun.body (first x) e first_outside q in
          let fit : Fits x NoLoop e = (none_is e.breaks (and_l (is_none e.breaks) _ h), none_is e.again (and_r (is_none e.breaks) _ h)) in
          last e.next (λ d i. s.onward NoLoop d i fit)

-- CORES

each_sound_fun : (stage : Stage) (core : Core) (k : ℕ) (fs : List Fun) → each_flows stage core k fs ≡ true → (i : ℕ) (f : Fun) → slice_get fs i ≡ Some f
    → BodyFlows (context_of stage core (signatures_of core) (k + i) f)
each_sound_fun stage core k [] h i f e = absurd (cc)
each_sound_fun stage core k (g ∷ fs) h zero f e =
    let z : g ≡ f = cc in
    let y : k ≡ k + 0 = omega arith in
    subst (λ n. BodyFlows (context_of stage core (signatures_of core) n f)) y (subst (λ f. BodyFlows (context_of stage core (signatures_of core) k f)) z
    (body_sound (context_of stage core (signatures_of core) k g) (and_l (body_flows (context_of stage core (signatures_of core) k g)) _ h)))
each_sound_fun stage core k (g ∷ fs) h (suc i) f e =
    let y : suc k + i ≡ k + suc i = omega arith in
    subst (λ n. BodyFlows (context_of stage core (signatures_of core) n f)) y
    (each_sound_fun stage core (suc k) fs (and_r (body_flows (context_of stage core (signatures_of core) k g)) _ h) i f e)

pub computed_is_flow : (stage : Stage) (core : Core) → has_flow stage core ≡ true → HasFlow stage core
computed_is_flow stage core h = record {
  each = λ n f e. let z : 0 + n ≡ n = omega arith in
      subst (λ n. BodyFlows (context_of stage core (signatures_of core) n f)) z (each_sound_fun stage core 0 core.funs h n f e);
}
