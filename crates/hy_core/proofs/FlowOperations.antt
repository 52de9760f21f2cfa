-- What the tests of a computed flow say of flow states, and that its operations are those of a flow.
use Rattle.std.proofs.Common.{◌≡◌, ◌⊎◌, inl, inr, ⊎_elim, ℕ, zero, suc, ◌<◌, ◌≤◌, ◌==◌, nat_lt, Bool, true, false, not, ◌&&◌, ◌||◌, cond, List}
use Rattle.std.specs.Prelude.{ℤ}
use Rattle.std.proofs.Common.{[], ◌∷◌, ◌++◌, length, Option, Some, None, slice_get, refl, sym, ap, ◌∙◌, subst, arith}
use Rattle.std.proofs.lemmas.Bool.Decides.{eqb_tells}
use Rattle.std.proofs.lemmas.Bool.{ltb-true, ltb-false}
use Rattle.std.proofs.lemmas.Option.{slice_get_within}
use Rattle.hy_types.specs.declared.kinds.TyId.{TyId}
use Rattle.hy_core.specs.Plain.{Step, Part, Index, Place, Operator, Add, Sub, Mul, Div, Rem, Neg, Convert, Eq, Lt, Le, Not, NewArray, Push, Pop, Swap}
use Rattle.hy_core.specs.Plain.{Count, FreeArray, Print, Read, Check, Stmts, Stmt}
use Rattle.hy_core.specs.Plain.{Way, Reads, Writes, lent_types}
use Rattle.hy_core.specs.Values.{Path}
use Rattle.hy_core.specs.Control.{Form, Numbers, Flags, Tuples, Products, Arrays, Unknown, form, local_type, Stage, Deinitialises, GivesUp}
use Rattle.hy_core.specs.Typing.{Among, place_type, still, still_type}
use Rattle.hy_core.specs.Shaped.{filled_by}
use Rattle.hy_core.specs.Flow as rule
use Rattle.hy_core.specs.Flow.{InitState, IsSet, IsUnset, IsKnown, IsDoubtful, IsSetWith, IsSetSo, IsUntied, IsFlag, Knows, Becomes, where_is, set_to}
use Rattle.hy_core.specs.Flow.{stored_as, constant_state, form_or_unknown, InitMap, all_set, none_set}
use Rattle.hy_core.specs.Flow.{Holder, InLocal, InSubscript, OpenPlace, Loan, Status, Own, Param}
use Rattle.hy_core.specs.Flow.{Opened, Bound, FlowState, Terms, Signature, Context, set_local, with_init, with_status, with_open_place, IsOpen, IsInLocal}
use Rattle.hy_core.specs.Flow.{IsShutAt, MayReadAt, MayWriteAt, MayOpenAt, IndexesOk, IsLive, still_map, IsSetAt, IsLocalSet, IsLocalUnset, IsEntered}
use Rattle.hy_core.specs.Flow.{NoArray, ReadOk, ChangeOk, StoreOk, GiveOk, TakeOk, FlowsInto, given, stored_if, stored, Stores, Computes, opened}
use Rattle.hy_core.specs.Flow.{IsLendable, IsFree, LendOk, come_back, ComesBack, Without, Closes, Slides, HandOk, HandsOk, come_from, held_by, TakesOk}
use Rattle.hy_core.specs.Flow.{all_given, Calls, Projects, IsDropped, IsCopied, Frees, IsLeft, IsLast, TransfersBuilt, Around, NoLoop, InLoop, TransfersAll}
use Rattle.hy_core.specs.Flow.{Transfers, first_status, first, BodyFlows, context_of, signatures_of, HasFlow, is_exact, way_of}
use Rattle.hy_core.specs.FlowOf.{every, member, are_apart, way_eq, bool_eq, is_set_so, is_unset, is_doubtful, is_set_with}
use Rattle.hy_core.specs.FlowOf.{is_core, is_flags, open_place_eq, status_eq, is_own, in_local, is_known}
use Rattle.hy_core.specs.FlowOf.{if_some, every_leaf, depth_of, Exits, goes_to, and_then, is_none, when, locals, each_local, each_open_place, is_shut}
use Rattle.hy_core.specs.FlowOf.{may_read, may_write, may_open, indexes_ok, is_live, set_place, local_is, entered, no_array, read_ok, change_ok, store_ok}
use Rattle.hy_core.specs.FlowOf.{give_ok, take_ok, flows_into, flows_in, meet, meet_exits, stores, computes}
use Rattle.hy_core.specs.FlowOf.{frees}
use Rattle.hy_core.specs.FlowOf.{built_flow}
use Rattle.hy_core.specs.FlowOf.{untied, is_flag, knows, becomes, joined}
use Rattle.hy_core.specs.Flow.{IsEmpty, IsEmptyWithout, changed, CountOk, CompareOk, counted, compared, retied, HasNoElements, is_whole_local}
use Rattle.hy_core.specs.FlowOf.{is_empty, is_empty_without, is_not_tied, there_and, has_no_parts, count_ok, compare_ok, has_array, is_nested, no_elements}
use Rattle.hy_core.specs.FlowOf.{each_array}
use Rattle.hy_core.specs.Typing.{IsArrayAt}
use Rattle.hy_core.specs.Control.{parts_of}
use Rattle.hy_core.proofs.FlowStates.{becomes_self, becomes_on}
use Rattle.hy_core.proofs.CalmFrames.{at_local}
use Rattle.hy_core.proofs.CalmStatements.{all_given_pass, come_from_pass}
use Rattle.hy_core.proofs.FlowTests.{and_l, and_r, or_is, not_is, nat_not, way_is, bool_is, set_so_is, unset_is, known_is, doubtful_is, set_with_is}
use Rattle.hy_core.proofs.FlowTests.{empty_is, empty_without_is, not_tied_is, leaf_form, open_place_is, status_is}
use Rattle.hy_core.proofs.FlowTests.{in_local_is, apart_is, every_is, every_all, some_passes, member_not, if_some_is, leaf_is, each_sound, array_sound}

-- CONDITIONS

pub cond_is : {A : Type 0} (b : Bool) (a : Option A) (e : A) → cond b a None ≡ Some e → (b ≡ true) × (a ≡ Some e)
cond_is true a e q = (refl, q)
cond_is false a e q = absurd (cc)

pub and_then_is : {A B : Type 0} (o : Option A) (f : A → Option B) (b : B) → and_then o f ≡ Some b → (a : A) × (o ≡ Some a) × (f a ≡ Some b)
and_then_is None f b q = absurd (cc)
and_then_is (Some a) f b q = (a, refl, q)

pub some_is : {A : Type 0} (a b : A) → Some a ≡ Some b → a ≡ b
some_is a b e = cc

pub none_is : {A : Type 0} (o : Option A) → is_none o ≡ true → o ≡ None
none_is None e = refl
none_is (Some a) e = absurd (cc)

pub side : (a b : ℕ) → (a < b) ⊎ (b ≤ a)
side a b = grind arith

pub below_is : (n : ℕ) (f : ℕ → Bool) (x : Context) (l : ℕ) → each_local x n f ≡ true → l < n → f l ≡ true
below_is zero f x l e lt = absurd (omega arith)
below_is (suc n) f x l e lt = ⊎_elim
    (λ q. ap f q.1 ∙ and_l (f n) (each_local x n f) e)
    (λ q. below_is n f x l (and_r (f n) (each_local x n f) e) (let r = q.1 in omega arith)) (eqb_tells l n)

pub cond_true : (b a c : Bool) → b ≡ true → cond b a c ≡ true → a ≡ true
cond_true true a c e h = h
cond_true false a c e h = absurd (cc)

pub cond_false : (b a c : Bool) → b ≡ false → cond b a c ≡ true → c ≡ true
cond_false true a c e h = absurd (cc)
cond_false false a c e h = h

pub lt_true : (a b : ℕ) → a < b → nat_lt a b ≡ true
lt_true a b lt = by (nat_lt a b) refl
  where
    by : (t : Bool) → nat_lt a b ≡ t → nat_lt a b ≡ true
    by true e = e
    by false e = absurd (let le = ltb-false a b e in omega arith)

pub le_false : (a b : ℕ) → b ≤ a → nat_lt a b ≡ false
le_false a b le = by (nat_lt a b) refl
  where
    by : (t : Bool) → nat_lt a b ≡ t → nat_lt a b ≡ false
    by true e = absurd (let lt = ltb-true a b e in omega arith)
    by false e = e

pub front_length : {A : Type 0} (xs ys : List A) → length xs ≤ length (xs ++ ys)
front_length [] ys = omega arith
front_length (x ∷ xs) ys = let h = front_length xs ys in omega arith

pub slice_front : {A : Type 0} (xs ys : List A) (i : ℕ) → i < length xs → slice_get (xs ++ ys) i ≡ slice_get xs i
slice_front [] ys i lt = absurd (omega arith)
slice_front (x ∷ xs) ys zero lt = refl
slice_front (x ∷ xs) ys (suc i) lt = slice_front xs ys i (omega arith)

module _ (x : Context) where
  -- WHAT TESTS SAY of a flow state

  pub local_there : (l : ℕ) (t : TyId) → local_type x.fun l ≡ Some t → l < locals x
  local_there l t e = slice_get_within (lent_types x.fun ++ (x.fun.owned ++ x.fun.locals)) l t e

  open_places_are : (g : FlowState) (l : ℕ) (f : OpenPlace → Bool) → each_open_place x g l f ≡ true → (e : OpenPlace) → Among e g.open_places → e.base ≡ l
      → f e ≡ true
  open_places_are g l f h e a b =
      let i : (not (e.base == l) || f e) ≡ true = every_is (λ e. not (e.base == l) || f e) g.open_places e h a in
      ⊎_elim (λ z. absurd (nat_not e.base l (not_is (e.base == l) z) b)) (λ z. z) (or_is (not (e.base == l)) (f e) i)

  pub shut_is : (g : FlowState) (l : ℕ) → is_shut x g l ≡ true → IsShutAt g l
  shut_is g l h e a b = let z : false ≡ true = open_places_are g l (λ e. false) h e a b in absurd (cc)

  pub read_at_is : (g : FlowState) (l : ℕ) (p : Path) → may_read x g l p ≡ true → MayReadAt g l p
  read_at_is g l p h e a b =
      let z = open_places_are g l (λ e. in_local e.holder && (way_eq e.way Reads || are_apart e.path p)) h e a b in (
        in_local_is e.holder (and_l (in_local e.holder) _ z),
        λ w. ⊎_elim (λ r. let q : e.way ≡ Reads = way_is e.way Reads r in let y : Reads ≡ Writes = sym q ∙ w in
            absurd (cc)) (λ r. apart_is e.path p r) (or_is (way_eq e.way Reads) _ (and_r (in_local e.holder) _ z)),
      )

  write_at_is : (g : FlowState) (l : ℕ) (p : Path) → may_write x g l p ≡ true → MayWriteAt g l p
  write_at_is g l p h = record {
    writable = way_is (way_of (g.status l)) Writes (and_l (way_eq (way_of (g.status l)) Writes) _ h);
    free = λ e a b. let z = open_places_are g l (λ e. in_local e.holder && are_apart e.path p) (and_r (way_eq (way_of (g.status l)) Writes) _ h) e a b in
        (in_local_is e.holder (and_l (in_local e.holder) _ z), apart_is e.path p (and_r (in_local e.holder) _ z));
  }

  pub open_at_is : (g : FlowState) (l : ℕ) (p : Path) (w : Way) → may_open x g l p w ≡ true → MayOpenAt g l p w
  open_at_is g l p Reads h = read_at_is g l p h
  open_at_is g l p Writes h = write_at_is g l p h

  pub indexes_are : (g : FlowState) (steps : List Step) → indexes_ok x g steps ≡ true → IndexesOk g steps
  indexes_are g [] h = tt
  indexes_are g (Part i ∷ steps) h = indexes_are g steps h
  indexes_are g (Index l s ∷ steps) h =
      let r = and_r (may_read x g l []) _ h in (
        read_at_is g l [] (and_l (may_read x g l []) _ h),
        set_so_is (g.init l []) (and_l (is_set_so (g.init l [])) _ r),
        indexes_are g steps (and_r (is_set_so (g.init l [])) _ r),
      )

  pub live_is : (g : FlowState) (l : ℕ) → is_live x g l ≡ true → IsLive x g l
  live_is g l h e a = ⊎_elim
      (λ z. let y : is_own (g.status l) ≡ true = ap is_own e in let w : is_own (g.status l) ≡ false = not_is (is_own (g.status l)) z in
      absurd (let v : false ≡ true = sym w ∙ y in cc))
      (λ z. member_not l (filled_by x.fun.body) (not_is (member l (filled_by x.fun.body)) z) a)
      (or_is (not (is_own (g.status l))) (not (member l (filled_by x.fun.body))) h)

  pub set_is : (g : FlowState) (p : Place) → set_place x g p ≡ true → IsSetAt x g p
  set_is g p h t e = each_sound x.core.types t (still_map x g p) IsSet (if_some_is (still_type x.core.types x.fun p) _ t h e)

  pub local_so : (g : FlowState) (l : ℕ) (s : InitState) → local_is x g l s ≡ true → (t : TyId) → local_type x.fun l ≡ Some t
      → rule.Each x.core.types t (g.init l) s
  local_so g l s h t e = each_sound x.core.types t (g.init l) s (if_some_is (local_type x.fun l) _ t h e)

  pub entered_by : (g : FlowState) (p : Place) (b : Bool) → (b || set_place x g p) ≡ true → IsEntered x g p b
  entered_by g p true h = tt
  entered_by g p false h = set_is g p h

  no_array_by : (g : FlowState) (p : Place) (b : Bool) → no_array x g p b ≡ true → NoArray x g p b
  no_array_by g p true h =
      λ t e q a. unset_is (still_map x g p q) (array_sound x.core.types t (λ q. is_unset (still_map x g p q))
      (if_some_is (place_type x.core.types x.fun p) _ t h e) q a)
  no_array_by g p false h = λ t e q a. let z : false ≡ true =
      array_sound x.core.types t (λ q. false) (if_some_is (place_type x.core.types x.fun p) _ t h e) q a in absurd (cc)

  pub untied_is : (g : FlowState) (f : ℕ) → untied x g f ≡ true → IsUntied x g f
  untied_is g f h l t q e leaf = not_tied_is f (g.init l q)
      (leaf_is x.core.types (depth_of x.core.types) t (λ q. is_not_tied f (g.init l q)) (if_some_is (local_type x.fun l) _ t
      (below_is (locals x) (λ l. if_some (local_type x.fun l) (λ t. every_leaf x.core.types (depth_of x.core.types) t (λ a q. is_not_tied f (g.init l q))))
      x l h (local_there l t e)) e) q leaf)

  pub read_is : (g : FlowState) (p : Place) → read_ok x g p ≡ true → ReadOk x g p
  read_is g p h =
      let a = and_r (is_live x g p.local) _ h in
      let b = and_r (indexes_ok x g p.steps) _ a in
      record {
        live = live_is g p.local (and_l (is_live x g p.local) _ h);
        indexes = indexes_are g p.steps (and_l (indexes_ok x g p.steps) _ a);
        free =
            read_at_is g p.local (still p.steps) (and_l (may_read x g p.local (still p.steps)) _ b);
        set =
            set_is g p (and_r (may_read x g p.local (still p.steps)) _ b);
      }

  change_is : (g : FlowState) (p : Place) → change_ok x g p ≡ true → ChangeOk x g p
  change_is g p h =
      let a = and_r (is_live x g p.local) _ h in
      let b = and_r (indexes_ok x g p.steps) _ a in
      record {
        live = live_is g p.local (and_l (is_live x g p.local) _ h);
        indexes = indexes_are g p.steps (and_l (indexes_ok x g p.steps) _ a);
        free =
            write_at_is g p.local (still p.steps) (and_l (may_write x g p.local (still p.steps)) _ b);
        set =
            set_is g p (and_l (set_place x g p) _ (and_r (may_write x g p.local (still p.steps)) _ b));
        untied = untied_is g p.local (and_r (set_place x g p) _ (and_r (may_write x g p.local (still p.steps)) _ b));
      }

  pub store_is : (g : FlowState) (p : Place) → store_ok x g p ≡ true → StoreOk x g p
  store_is g p h =
      let a = and_r (is_live x g p.local) _ h in
      let b = and_r (indexes_ok x g p.steps) _ a in
      let c = and_r (may_write x g p.local (still p.steps)) _ b in
      record {
        live = live_is g p.local (and_l (is_live x g p.local) _ h);
        indexes = indexes_are g p.steps (and_l (indexes_ok x g p.steps) _ a);
        free =
            write_at_is g p.local (still p.steps) (and_l (may_write x g p.local (still p.steps)) _ b);
        entered =
            entered_by g p (is_exact p.steps) (and_l (entered x g p) _ c);
        over = no_array_by g p (is_exact p.steps) (and_l (no_array x g p (is_exact p.steps)) _ (and_r (entered x g p) _ c));
        untied = untied_is g p.local (and_r (no_array x g p (is_exact p.steps)) _ (and_r (entered x g p) _ c));
      }

  pub give_is : (g : FlowState) (p : Place) → give_ok x g p ≡ true → GiveOk x g p
  give_is g p h =
      let a = and_r (is_live x g p.local) _ h in
      record {
        live = live_is g p.local (and_l (is_live x g p.local) _ h);
        exact = and_l (is_exact p.steps) _ a;
        free =
            write_at_is g p.local (still p.steps) (and_l (may_write x g p.local (still p.steps)) _ (and_r (is_exact p.steps) _ a));
        untied = untied_is g p.local (and_r (may_write x g p.local (still p.steps)) _ (and_r (is_exact p.steps) _ a));
      }

  pub take_is : (g : FlowState) (p : Place) → take_ok x g p ≡ true → TakeOk x g p
  take_is g p h = record { give = give_is g p (and_l (give_ok x g p) _ h); set = set_is g p (and_r (give_ok x g p) _ h) }

  -- FLOW STATES

  -- a local that is not there is the body's own
  abbrev pub Outside : FlowState → Type 0
  Outside g = (l : ℕ) → locals x ≤ l → g.status l ≡ Own

  pub flows_self : (g : FlowState) → FlowsInto x g g
  flows_self g = record { status = λ l. refl; init = λ l t q e i. becomes_self x g (g.init l q); open_places = λ e a. a; yielded = refl }

  pub flows_on : (g h d : FlowState) → FlowsInto x g h → FlowsInto x h d → FlowsInto x g d
  flows_on g h d a b = record {
    status = λ l. a.status l ∙ b.status l;
    init = λ l t q e i. becomes_on x g h a.init (g.init l q) (h.init l q) (d.init l q) (a.init l t q e i) (b.init l t q e i);
    open_places =
        λ e m. b.open_places e (a.open_places e m);
    yielded = a.yielded ∙ b.yielded;
  }

  flag_is : (f : ℕ) → is_flag x f ≡ true → IsFlag x f
  flag_is f h = by (local_type x.fun f) refl h
    where
      flags : (a : Form) → is_flags a ≡ true → a ≡ Flags
      flags (Numbers t) h = absurd (cc)
      flags Flags h = refl
      flags (Tuples parts) h = absurd (cc)
      flags (Products d parts) h = absurd (cc)
      flags (Arrays t) h = absurd (cc)
      flags Unknown h = absurd (cc)

      by : (o : Option TyId) → local_type x.fun f ≡ o → is_flags (form_or_unknown x o) ≡ true → IsFlag x f
      by None e h = absurd (cc)
      by (Some t) e h = (t, e, flags (form x.core.types t) h)

  knows_is : (g : FlowState) (l : ℕ) (b : Bool) → knows x g l b ≡ true → Knows x g l b
  knows_is g l b h = by (local_type x.fun l) refl (and_l (there_and (local_type x.fun l) (λ t. has_no_parts (parts_of (form x.core.types t)))) _ h)
    where
      none : (ts : List TyId) → has_no_parts ts ≡ true → ts ≡ []
      none [] h = refl
      none (t ∷ ts) h = absurd (cc)

      by : (o : Option TyId) → local_type x.fun l ≡ o → there_and o (λ t. has_no_parts (parts_of (form x.core.types t))) ≡ true → Knows x g l b
      by None e q = absurd (cc)
      by (Some t) e q = (
        t,
        e,
        none (parts_of (form x.core.types t)) q,
        known_is b (g.init l [])
            (and_r (there_and (local_type x.fun l) (λ t. has_no_parts (parts_of (form x.core.types t)))) _ h),
      )

  core_is : (s : Stage) → is_core s ≡ true → s ≡ Deinitialises
  core_is Deinitialises h = refl
  core_is GivesUp h = absurd (cc)

  becomes_is : (g : FlowState) (s t : InitState) → becomes x g s t ≡ true → Becomes x g s t
  becomes_is g s IsSet h = set_so_is s h
  becomes_is g s IsUnset h = unset_is s h
  becomes_is g s (IsKnown b) h = known_is b s h
  becomes_is g s IsDoubtful h = ⊎_elim (λ a. inl (doubtful_is s a)) (λ a. inr (core_is x.stage a)) (or_is (is_doubtful s) (is_core x.stage) h)
  becomes_is g s IsEmpty h = empty_is s h
  becomes_is g s (IsEmptyWithout l) h = ⊎_elim (λ a. inl (empty_without_is l s a)) (λ a. inr (⊎_elim
      (λ b. inl (knows_is g l true (and_l (knows x g l true) _ b), set_so_is s (and_r (knows x g l true) _ b)))
      (λ b. inr (knows_is g l false (and_l (knows x g l false) _ b), empty_is s (and_r (knows x g l false) _ b)))
      (or_is (knows x g l true && is_set_so s) (knows x g l false && is_empty s) a)))
      (or_is (is_empty_without l s) (knows x g l true && is_set_so s || knows x g l false && is_empty s) h)
  becomes_is g s (IsSetWith f) h = ⊎_elim (λ a. inl (set_with_is f s a)) (λ a. let k = and_r (is_flag x f) _ a in
      inr (
        flag_is f (and_l (is_flag x f) _ a),
        ⊎_elim
            (λ b. inl (knows_is g f true (and_l (knows x g f true) _ b), set_so_is s (and_r (knows x g f true) _ b)))
            (λ b. inr (knows_is g f false (and_l (knows x g f false) _ b), unset_is s (and_r (knows x g f false) _ b)))
            (or_is (knows x g f true && is_set_so s) (knows x g f false && is_unset s) k),
      ))
      (or_is (is_set_with f s) (is_flag x f && (knows x g f true && is_set_so s || knows x g f false && is_unset s)) h)

  pub flows_is : (g d : FlowState) → Outside g → Outside d → flows_into x g d ≡ true → FlowsInto x g d
  flows_is g d og od h = record {
    status = λ l. ⊎_elim (λ lt. status_is (g.status l) (d.status l) (and_l (status_eq (g.status l) (d.status l)) _ (at l lt))) (λ le. og l le
        ∙ sym (od l le)) (side l (locals x));
    init = λ l t q e leaf. becomes_is g (g.init l q) (d.init l q) (leaf_is x.core.types (depth_of x.core.types) t (λ q. becomes x g (g.init l q) (d.init l q))
        (if_some_is (local_type x.fun l) _ t (and_r (status_eq (g.status l) (d.status l)) _ (at l (local_there l t e))) e) q leaf);
    open_places = λ e m. let r =
        some_passes (open_place_eq e) d.open_places (every_is (λ e. not (every (λ f. not (open_place_eq e f)) d.open_places)) g.open_places e
        (and_l _ (bool_eq g.yielded d.yielded) rest) m) in
        subst (λ e. Among e d.open_places) (sym (open_place_is e r.0 r.2)) r.1;
    yielded = bool_is g.yielded d.yielded (and_r _ (bool_eq g.yielded d.yielded) rest);
  }
    where
      f : ℕ → Bool
      f l = status_eq (g.status l) (d.status l) && if_some (local_type x.fun l)
          (λ t. every_leaf x.core.types (depth_of x.core.types) t (λ a q. becomes x g (g.init l q) (d.init l q)))

      rest : (every (λ e. not (every (λ f. not (open_place_eq e f)) d.open_places)) g.open_places && bool_eq g.yielded d.yielded) ≡ true
      rest = and_r (each_local x (locals x) (λ l. status_eq (g.status l) (d.status l) && if_some (local_type x.fun l)
          (λ t. every_leaf x.core.types (depth_of x.core.types) t (λ a q. becomes x g (g.init l q) (d.init l q))))) _ h

      at : (l : ℕ) → l < locals x
          → (status_eq (g.status l) (d.status l) && if_some (local_type x.fun l)
          (λ t. every_leaf x.core.types (depth_of x.core.types) t (λ a q. becomes x g (g.init l q) (d.init l q)))) ≡ true
      at l lt = below_is (locals x) (λ l. status_eq (g.status l) (d.status l) && if_some (local_type x.fun l)
          (λ t. every_leaf x.core.types (depth_of x.core.types) t (λ a q. becomes x g (g.init l q) (d.init l q)))) x l (and_l _ _ h) lt

  -- where a body goes on leads to a state, if a path leads there
  abbrev pub Into : Option FlowState → FlowState → Type 0
  Into None d = Unit {0}
  Into (Some g) d = FlowsInto x g d

  abbrev pub OutsideIn : Option FlowState → Type 0
  OutsideIn None = Unit {0}
  OutsideIn (Some g) = Outside g

  abbrev pub Fits : Around x → Exits → Type 0
  Fits NoLoop e = (e.breaks ≡ None) × (e.again ≡ None)
  Fits (InLoop after again) e = Into e.breaks after × Into e.again again

  pub record OutsideExits (e : Exits) : Type 0 where
    pub next : OutsideIn e.next
    pub breaks : OutsideIn e.breaks
    pub again : OutsideIn e.again

  pub flows_in_is : (o : Option FlowState) (d : FlowState) → OutsideIn o → Outside d → flows_in x o d ≡ true → Into o d
  flows_in_is None d oo od h = tt
  flows_in_is (Some g) d oo od h = flows_is g d oo od h

  pub record Meets (a b c : Option FlowState) : Type 0 where
    pub outside : OutsideIn c
    pub into : (d : FlowState) → Into c d → Into a d × Into b d
    pub none : c ≡ None → (a ≡ None) × (b ≡ None)

  pub meet_is : (a b c : Option FlowState) → OutsideIn a → OutsideIn b → meet x a b ≡ Some c → Meets a b c
  meet_is None b c oa ob h = let z : b ≡ c = some_is b c h in
      subst (λ c. Meets None b c) z (record { outside = ob; into = λ d i. (tt, i); none = λ e. (refl, e) })
  meet_is (Some a) None c oa ob h = let z : Some a ≡ c = some_is (Some a) c h in
      subst (λ c. Meets (Some a) None c) z (record { outside = oa; into = λ d i. (i, tt); none = λ e. absurd (cc) })
  meet_is (Some a) (Some b) c oa ob h =
      let m = joined x a b in
      let r = cond_is (flows_into x a m && flows_into x b m) (Some (Some m)) c h in
      let z : Some m ≡ c = some_is (Some m) c r.1 in
      subst (λ c. Meets (Some a) (Some b) c) z (record {
        outside = oa;
        into = λ d i. (
          flows_on a m d (flows_is a m oa oa (and_l (flows_into x a m) _ r.0)) i,
          flows_on b m d (flows_is b m ob oa (and_r (flows_into x a m) _ r.0)) i,
        );
        none = λ e. absurd (cc);
      })

  pub record MeetsAll (next : Option FlowState) (a b e : Exits) : Type 0 where
    pub next_is : e.next ≡ next
    pub breaks : Meets a.breaks b.breaks e.breaks
    pub again : Meets a.again b.again e.again

  pub meet_all : (next : Option FlowState) (a b e : Exits) → OutsideExits a → OutsideExits b → meet_exits x next a b ≡ Some e → MeetsAll next a b e
  meet_all next a b e oa ob h =
      let r = and_then_is (meet x a.breaks b.breaks) (λ breaks. and_then (meet x a.again b.again)
      (λ again. Some (record { next = next; breaks = breaks; again = again }))) e h in
      let q = and_then_is (meet x a.again b.again) (λ again. Some (record { next = next; breaks = r.0; again = again })) e r.2 in
      let made : Exits = record { next = next; breaks = r.0; again = q.0 } in
      let z : made ≡ e = some_is made e q.2 in
      subst (MeetsAll next a b) z (record {
        next_is = refl;
        breaks = meet_is a.breaks b.breaks r.0 oa.breaks ob.breaks r.1;
        again =
            meet_is a.again b.again q.0 oa.again ob.again q.1;
      })

  pub fits_both : (a : Around x) (next : Option FlowState) (e f m : Exits) → MeetsAll next e f m → Fits a m → Fits a e × Fits a f
  fits_both NoLoop next e f m h i = let b = h.breaks.none i.0 in let c = h.again.none i.1 in ((b.0, c.0), (b.1, c.1))
  fits_both (InLoop after again) next e f m h i = let b = h.breaks.into after i.0 in let c = h.again.into again i.1 in ((b.0, c.0), (b.1, c.1))

  -- where a test holds, a statement goes on so
  abbrev Onward : (g : FlowState) (s : Stmt) (e : Exits) → Type 0
  Onward g s e = (a : Around x) (d : FlowState) → Into e.next d → Fits a e → Transfers x a g s d

  pub record Sound (g : FlowState) (s : Stmt) (e : Exits) : Type 0 where
    pub outside : OutsideExits e
    pub onward : (a : Around x) (d : FlowState) → Into e.next d → Fits a e → Transfers x a g s d

  pub record SoundAll (g : FlowState) (ss : Stmts) (e : Exits) : Type 0 where
    pub outside : OutsideExits e
    pub onward : (a : Around x) (d : FlowState) → Into e.next d → Fits a e → TransfersAll x a g ss d

  pub goes : (h : FlowState) → Outside h → OutsideExits (goes_to h)
  goes h o = record { next = o; breaks = tt; again = tt }

  -- a statement that has one next state
  pub simple : (g h : FlowState) (s : Stmt) (b : Bool) (e : Exits) → Outside h → when b h ≡ Some e
      → (b ≡ true → (a : Around x) (d : FlowState) → FlowsInto x h d → Transfers x a g s d) → Sound g s e
  simple g h s b e o q t =
      let r = cond_is b (Some (goes_to h)) e q in
      subst (Sound g s) (some_is (goes_to h) e r.1) (record { outside = goes h o; onward = λ a d i f. t r.0 a d i })

  -- STORES AND OPERATIONS

  stored_outside : (g : FlowState) (p : Place) → Outside g → Outside (stored x g p)
  stored_outside g p o = by (is_exact p.steps)
    where
      by : (b : Bool) → Outside (stored_if x g p b)
      by true = o
      by false = o

  pub set_outside : (g : FlowState) (p : Place) (n : ℤ) → Outside g → Outside (set_to x g p n)
  set_outside g p n o = by (is_exact p.steps)
    where
      by : (b : Bool) → Outside (stored_as x (λ q. constant_state (form_or_unknown x (place_type x.core.types x.fun p)) n) g p b)
      by true = o
      by false = o

  pub all_outside : (g : FlowState) (ps : List Place) → Outside g → Outside (all_given x g ps)
  all_outside g ps o l le = sym ((all_given_pass x g ps).status l) ∙ o l le

  pub come_outside : (g : FlowState) (s : Signature) (i : ℕ) (ls : List ℕ) → Outside g → Outside (come_from x g s i ls)
  come_outside g s i ls o l le = sym ((come_from_pass x g s i ls).status l) ∙ o l le

  pub held_outside : (to : ℕ) (g : FlowState) (s : Signature) (i : ℕ) (ls : List ℕ) → Outside g → Outside (held_by x to g s i ls)
  held_outside to g s i [] o = o
  held_outside to g s i (l ∷ ls) o =
      held_outside to (with_open_place g (record { holder = InSubscript to; base = l; path = []; way = (s.lent i).way })) s (suc i) ls o

  pub status_outside : (g : FlowState) (l : ℕ) (s : Status) (c : InitMap) → l < locals x → Outside g → Outside (with_status g l s c)
  status_outside g l s c lt o j le = at_local g.status l s j (λ s. s ≡ Own) (λ e. absurd (omega arith)) (λ n. o j le)

  pub own_outside : (g : FlowState) (l : ℕ) (c : InitMap) → Outside g → Outside (with_status g l Own c)
  own_outside g l c o j le = at_local g.status l Own j (λ s. s ≡ Own) (λ e. refl) (λ n. o j le)

  pub record StoresSound (g : FlowState) (to : Option Place) (e : Exits) : Type 0 where
    pub outside : OutsideExits e
    pub stores_is : (d : FlowState) → Into e.next d → Stores x g to d

  pub stores_sound : (g : FlowState) (to : Option Place) (e : Exits) → Outside g → stores x g to ≡ Some e → StoresSound g to e
  stores_sound g None e o q = absurd (cc)
  stores_sound g (Some to) e o q =
      let r = cond_is (store_ok x g to) (Some (goes_to (stored x g to))) e q in
      subst (StoresSound g (Some to)) (some_is (goes_to (stored x g to)) e r.1) (record {
        outside =
            goes (stored x g to) (stored_outside g to o);
        stores_is = λ d i. (store_is g to r.0, i);
      })

  record ComputesSound (g : FlowState) (to : Option Place) (from : List Place) (e : Exits) : Type 0 where
    outside : OutsideExits e
    computes_is : (d : FlowState) → Into e.next d → Computes x g to from d

  computes_sound : (g : FlowState) (to : Option Place) (from : List Place) (e : Exits) → Outside g → computes x g to from ≡ Some e → ComputesSound g to from e
  computes_sound g None from e o q =
      let r = cond_is (every (read_ok x g) from) (Some (goes_to g)) e q in
      subst (ComputesSound g None from) (some_is (goes_to g) e r.1) (record {
        outside = goes g o;
        computes_is =
            λ d i. (every_all (ReadOk x g) (read_ok x g) from (read_is g) r.0, i);
      })
  computes_sound g (Some to) from e o q =
      let r = cond_is (every (read_ok x g) from) (stores x g (Some to)) e q in
      let s = stores_sound g (Some to) e o r.1 in
      record { outside = s.outside; computes_is = λ d i. (every_all (ReadOk x g) (read_ok x g) from (read_is g) r.0, s.stores_is d i) }

  pub record BuiltSound (g : FlowState) (operator : Operator) (to : Option Place) (from : List Place) (e : Exits) : Type 0 where
    pub outside : OutsideExits e
    pub built_is : (d : FlowState) → Into e.next d → TransfersBuilt x operator to from g d

  module _ (g : FlowState) (o : Outside g) (to : Option Place) (from : List Place) (e : Exits) where
    plainly : (operator : Operator) → computes x g to from ≡ Some e → ((d : FlowState) → Computes x g to from d → TransfersBuilt x operator to from g d)
        → BuiltSound g operator to from e
    plainly operator q t = let s = computes_sound g to from e o q in record { outside = s.outside; built_is = λ d i. t d (s.computes_is d i) }

  push_sound : (g : FlowState) → Outside g → (to : Option Place) (from : List Place) (e : Exits) → built_flow x Push to from g ≡ Some e
      → BuiltSound g Push to from e
  push_sound g o to [] e q = absurd (cc)
  push_sound g o to (array ∷ []) e q = absurd (cc)
  push_sound g o to (array ∷ (a ∷ from)) e q =
      let r = cond_is (take_ok x g a && change_ok x (given x g a) array) (Some (goes_to (changed x (given x g a) array))) e q in
      subst (BuiltSound g Push to (array ∷ (a ∷ from))) (some_is (goes_to (changed x (given x g a) array)) e r.1)
      (record {
        outside = goes (changed x (given x g a) array) (stored_outside (given x g a) array o);
        built_is =
            λ d i. (take_is g a (and_l (take_ok x g a) _ r.0), change_is (given x g a) array (and_r (take_ok x g a) _ r.0), i);
      })

  pop_sound : (g : FlowState) → Outside g → (to : Option Place) (from : List Place) (e : Exits) → built_flow x Pop to from g ≡ Some e
      → BuiltSound g Pop to from e
  pop_sound g o to [] e q = absurd (cc)
  pop_sound g o to (array ∷ from) e q =
      let r = cond_is (change_ok x g array) (stores x (changed x g array) to) e q in
      let s = stores_sound (changed x g array) to e (stored_outside g array o) r.1 in
      record { outside = s.outside; built_is = λ d i. (change_is g array r.0, s.stores_is d i) }

  swap_sound : (g : FlowState) → Outside g → (to : Option Place) (from : List Place) (e : Exits) → built_flow x Swap to from g ≡ Some e
      → BuiltSound g Swap to from e
  swap_sound g o to [] e q = absurd (cc)
  swap_sound g o to (array ∷ []) e q = absurd (cc)
  swap_sound g o to (array ∷ (a ∷ [])) e q = absurd (cc)
  swap_sound g o to (array ∷ (a ∷ (b ∷ from))) e q =
      let r = cond_is (read_ok x g a && (read_ok x g b && change_ok x g array)) (Some (goes_to (changed x g array))) e q in
      let s = and_r (read_ok x g a) _ r.0 in
      subst (BuiltSound g Swap to (array ∷ (a ∷ (b ∷ from)))) (some_is (goes_to (changed x g array)) e r.1)
      (record {
        outside = goes (changed x g array) (stored_outside g array o);
        built_is =
            λ d i. (read_is g a (and_l (read_ok x g a) _ r.0), read_is g b (and_l (read_ok x g b) _ s), change_is g array (and_r (read_ok x g b) _ s), i);
      })

  frees_is : (s : Stage) → frees s ≡ true → Frees x s
  frees_is Deinitialises h = absurd (cc)
  frees_is GivesUp h = tt

  -- a type that holds an array is found to hold one
  nested_is : (e : TyId) (r : Path) → IsArrayAt x.core.types e r → has_array x e ≡ true
  nested_is e r arr = by (each_array x.core.types e (λ q. false)) refl
    where
      by : (b : Bool) → each_array x.core.types e (λ q. false) ≡ b → not b ≡ true
      by true q = absurd (let z : false ≡ true = array_sound x.core.types e (λ q. false) q r arr in cc)
      by false q = refl

  pub empty_place : (g : FlowState) (p : Place) → no_elements x g p ≡ true → HasNoElements x g p
  empty_place g p h t e q (u, a, is, arr, inner) = empty_is (still_map x g p q) (⊎_elim
      (λ z. absurd (let y : is_nested x (form x.core.types u) ≡ true = ap (is_nested x) arr ∙ nested_is a inner.0 inner.1 in
      let w : is_nested x (form x.core.types u) ≡ false = not_is (is_nested x (form x.core.types u)) z in let v : false ≡ true = sym w ∙ y in cc)) (λ z. z)
      (or_is (not (is_nested x (form x.core.types u))) (is_empty (still_map x g p q))
      (leaf_form x.core.types (depth_of x.core.types) t (λ a q. not (is_nested x a) || is_empty (still_map x g p q))
      (if_some_is (place_type x.core.types x.fun p) _ t h e) q u is (ap parts_of arr))))

  -- where what is stored tells whether an array has an element
  count_is : (g : FlowState) (to a : Place) → count_ok x g to a ≡ true → CountOk x g to a
  count_is g to a h =
      let b = and_r (read_ok x g a) _ h in
      let c = and_r (is_exact a.steps) _ b in
      let d = and_r (store_ok x g to) _ c in
      let e = and_r (is_whole_local x to.steps) _ d in
      let f = and_r (not (to.local == a.local)) _ e in
      record {
        read = read_is g a (and_l (read_ok x g a) _ h);
        exact = and_l (is_exact a.steps) _ b;
        store = store_is g to (and_l (store_ok x g to) _ c);
        whole = and_l (is_whole_local x to.steps) _ d;
        other = nat_not to.local a.local (not_is (to.local == a.local) (and_l (not (to.local == a.local)) _ e));
        untied = untied_is g a.local (and_l (untied x g a.local) _ f);
      }

  compare_is : (g : FlowState) (to z n : Place) → compare_ok x g to z n ≡ true → CompareOk x g to z n
  compare_is g to z n h =
      let a = and_r (read_ok x g z) _ h in
      let b = and_r (is_whole_local x z.steps) _ a in
      let c = and_r (is_known false (g.init z.local [])) _ b in
      let d = and_r (read_ok x g n) _ c in
      let e = and_r (is_whole_local x n.steps) _ d in
      let f = and_r (store_ok x g to) _ e in
      let k = and_r (is_whole_local x to.steps) _ f in
      record {
        read_zero = read_is g z (and_l (read_ok x g z) _ h);
        whole_zero = and_l (is_whole_local x z.steps) _ a;
        known = known_is false (g.init z.local []) (and_l (is_known false (g.init z.local [])) _ b);
        read = read_is g n (and_l (read_ok x g n) _ c);
        whole_read = and_l (is_whole_local x n.steps) _ d;
        store = store_is g to (and_l (store_ok x g to) _ e);
        whole = and_l (is_whole_local x to.steps) _ f;
        other = nat_not to.local n.local (not_is (to.local == n.local) (and_l (not (to.local == n.local)) _ k));
        other_zero = nat_not to.local z.local (not_is (to.local == z.local) (and_r (not (to.local == n.local)) _ k));
      }

  cond_two : {A : Type 0} (b : Bool) (a c : Option A) (e : A) → cond b a c ≡ Some e → ((b ≡ true) × (a ≡ Some e)) ⊎ (c ≡ Some e)
  cond_two true a c e q = inl (refl, q)
  cond_two false a c e q = inr q

  count_sound : (g : FlowState) → Outside g → (to : Option Place) (from : List Place) (e : Exits) → built_flow x Count to from g ≡ Some e
      → BuiltSound g Count to from e
  count_sound g o None from e q = plainly g o None from e Count q (λ d t. inl t)
  count_sound g o (Some to) [] e q = plainly g o (Some to) [] e Count q (λ d t. inl t)
  count_sound g o (Some to) (a ∷ from) e q = ⊎_elim
      (λ r. subst (BuiltSound g Count (Some to) (a ∷ from)) (some_is (goes_to (counted x g to a)) e r.1) (record {
        outside = goes (counted x g to a) o;
        built_is = λ d i. inr (count_is g to a r.0, i);
      }))
      (λ q. plainly g o (Some to) (a ∷ from) e Count q (λ d t. inl t))
      (cond_two (count_ok x g to a) (Some (goes_to (counted x g to a))) (computes x g (Some to) (a ∷ from)) e q)

  less_sound : (g : FlowState) → Outside g → (to : Option Place) (from : List Place) (e : Exits) → built_flow x Lt to from g ≡ Some e
      → BuiltSound g Lt to from e
  less_sound g o None from e q = plainly g o None from e Lt q (λ d t. inl t)
  less_sound g o (Some to) [] e q = plainly g o (Some to) [] e Lt q (λ d t. inl t)
  less_sound g o (Some to) (a ∷ []) e q = plainly g o (Some to) (a ∷ []) e Lt q (λ d t. inl t)
  less_sound g o (Some to) (a ∷ (b ∷ from)) e q = ⊎_elim
      (λ r. subst (BuiltSound g Lt (Some to) (a ∷ (b ∷ from))) (some_is (goes_to (compared x g to b)) e r.1) (record {
        outside = goes (compared x g to b) o;
        built_is = λ d i. inr (compare_is g to a b r.0, i);
      }))
      (λ q. plainly g o (Some to) (a ∷ (b ∷ from)) e Lt q (λ d t. inl t))
      (cond_two (compare_ok x g to a b) (Some (goes_to (compared x g to b))) (computes x g (Some to) (a ∷ (b ∷ from))) e q)

  new_sound : (g : FlowState) → Outside g → (to : Option Place) (from : List Place) (e : Exits) → built_flow x NewArray to from g ≡ Some e
      → BuiltSound g NewArray to from e
  new_sound g o None from e q = absurd (cc)
  new_sound g o (Some to) from e q =
      let r = cond_is (store_ok x g to) (Some (goes_to (stored_as x (λ q. IsEmpty) g to (is_exact to.steps)))) e q in
      subst (BuiltSound g NewArray (Some to) from) (some_is (goes_to (stored_as x (λ q. IsEmpty) g to (is_exact to.steps))) e r.1) (record {
        outside = goes (stored_as x (λ q. IsEmpty) g to (is_exact to.steps)) (as_outside (is_exact to.steps));
        built_is = λ d i. (store_is g to r.0, i);
      })
    where
      as_outside : (b : Bool) → Outside (stored_as x (λ q. IsEmpty) g to b)
      as_outside true = o
      as_outside false = o

  free_sound : (g : FlowState) → Outside g → (to : Option Place) (from : List Place) (e : Exits) → built_flow x FreeArray to from g ≡ Some e
      → BuiltSound g FreeArray to from e
  free_sound g o to [] e q = absurd (cc)
  free_sound g o to (array ∷ from) e q =
      let r = cond_is (frees x.stage && (take_ok x g array && no_elements x g array)) (Some (goes_to (given x g array))) e q in
      subst (BuiltSound g FreeArray to (array ∷ from)) (some_is (goes_to (given x g array)) e r.1)
      (record {
        outside = goes (given x g array) o;
        built_is =
            λ d i. (
              frees_is x.stage (and_l (frees x.stage) _ r.0),
              (
                take_is g array (and_l (take_ok x g array) _ (and_r (frees x.stage) _ r.0)),
                i,
                empty_place g array (and_r (take_ok x g array) _ (and_r (frees x.stage) _ r.0)),
              ),
            );
      })

  pub built_sound : (operator : Operator) (g : FlowState) → Outside g → (to : Option Place) (from : List Place) (e : Exits)
      → built_flow x operator to from g ≡ Some e → BuiltSound g operator to from e
  built_sound Push g o to from e q = push_sound g o to from e q
  built_sound Pop g o to from e q = pop_sound g o to from e q
  built_sound Swap g o to from e q = swap_sound g o to from e q
  built_sound FreeArray g o to from e q = free_sound g o to from e q
  built_sound Add g o to from e q = plainly g o to from e Add q (λ d t. t)
  built_sound Sub g o to from e q = plainly g o to from e Sub q (λ d t. t)
  built_sound Mul g o to from e q = plainly g o to from e Mul q (λ d t. t)
  built_sound Div g o to from e q = plainly g o to from e Div q (λ d t. t)
  built_sound Rem g o to from e q = plainly g o to from e Rem q (λ d t. t)
  built_sound Neg g o to from e q = plainly g o to from e Neg q (λ d t. t)
  built_sound (Convert u) g o to from e q = plainly g o to from e (Convert u) q (λ d t. t)
  built_sound Eq g o to from e q = plainly g o to from e Eq q (λ d t. t)
  built_sound Lt g o to from e q = less_sound g o to from e q
  built_sound Le g o to from e q = plainly g o to from e Le q (λ d t. t)
  built_sound Not g o to from e q = plainly g o to from e Not q (λ d t. t)
  built_sound NewArray g o to from e q = new_sound g o to from e q
  built_sound Count g o to from e q = count_sound g o to from e q
  built_sound Print g o to from e q = plainly g o to from e Print q (λ d t. t)
  built_sound Read g o to from e q = plainly g o to from e Read q (λ d t. t)
  built_sound Check g o to from e q = plainly g o to from e Check q (λ d t. t)
