-- Built operations of a core that has a flow: none of them reads what is unset, and what is known after them holds.
use Rattle.std.proofs.Common.{◌≡◌, ◌≢◌, inl, inr, ℕ, Bool, true, false, cond, List, [], ◌∷◌, ◌++◌}
use Rattle.std.proofs.Common.{Option, Some, None, refl, sym, ap, ◌∙◌, subst}
use Rattle.hy_base.specs.declared.numbers.IntegerType.{IntegerType}
use Rattle.hy_base.specs.declared.numbers.IntegerType.TheVariants.{Int}
use Rattle.hy_base.specs.declared.numbers.Operation.TheVariants as operation
use Rattle.hy_core.proofs.Arithmetic.{IsProper, proper_fits, GivesOfOne, GivesOfTwo, negated_gives, converted_gives, operated_gives, one_gives, two_give}
use Rattle.std.specs.Prelude.{Result, Ok, Err, ℤ, pos, not, int_lt}
use Rattle.hy_base.specs.declared.run.End.TheVariants as end
use Rattle.hy_base.specs.declared.run.TrapKind.{TrapKind}
use Rattle.hy_base.specs.declared.run.TrapKind.TheVariants as trap
use Rattle.hy_types.specs.declared.kinds.TyId.{TyId}
use Rattle.hy_base.specs.Lines.{Got, read_line}
use Rattle.hy_base.specs.Lines as lines
use Rattle.hy_core.specs.Plain.{Place, Operator, Add, Sub, Mul, Div, Rem, Neg, Convert, Eq, Lt, Le, Not, NewArray, Push, Pop, Swap}
use Rattle.hy_core.specs.Plain.{Count, FreeArray, Print, Read, Check}
use Rattle.hy_core.specs.Values.{Val, Number, Truth, Array, Vals, No, And, Path, many, get, is_whole}
use Rattle.hy_core.specs.Values.{all_whole}
use Rattle.hy_core.specs.Memory.{Key, whole, Copies, copying, set_at}
use Rattle.hy_core.specs.Runs as effect
use Rattle.hy_core.specs.Runs.{Interaction, Fetch, Inspect, Perform, Return, apply, interpret}
use Rattle.hy_core.specs.Dropped.{LosesNone}
use Rattle.hy_core.specs.Calm.{IsKept, MayWrite}
use Rattle.hy_core.specs.Operators.{negated, converted, equal, line_of, index_in, at_end, popped, ordered}
use Rattle.hy_core.specs.Control.{Form, Numbers, Flags, Arrays, form, parts_of, local_type, Ends}
use Rattle.hy_core.specs.Control.{Control, with_some, trapped}
use Rattle.hy_core.specs.Control.{read, take, read_number, read_flag, read_array}
use Rattle.hy_core.specs.Typing.{all, type_at, steps_type, still}
use Rattle.hy_core.specs.Statements.{changes_one, with_one, with_two, with_three, store_to, give, arithmetic, compares, pop, swapped, swap, prints, reads}
use Rattle.hy_core.specs.Statements.{built}
use Rattle.hy_core.specs.Shaped.{HasForm, IsStep, IsOf, IsOfForm, IsPlain, IsBuilt}
use Rattle.hy_core.specs.Shaped as shaped
use Rattle.hy_core.specs.Flow as transfer
use Rattle.hy_core.specs.Flow.{Loan, Status, Own, Param, Opened, Bound, InitState, IsSet, IsUnset, IsKnown, IsEmpty, IsEmptyWithout, IsNotTied, Counts}
use Rattle.hy_core.specs.Flow.{retied, changed, counted, CountOk, compared, CompareOk, is_whole_local, HasNoElements, still_map}
use Rattle.hy_core.specs.Flow.{IsSetSo, IsUntied, InitMap, all_set, none_set, map_at, with_map, FlowState}
use Rattle.hy_core.specs.Flow.{Signature, Context, with_init, is_exact, IndexesOk, IsSetAt, IsEntered, NoArray, ReadOk, ChangeOk, StoreOk, GiveOk, TakeOk}
use Rattle.hy_core.specs.Flow.{set_local, given, stored_as, stored_if, stored, FlowsInto, Computes, TransfersBuilt}
use Rattle.hy_core.proofs.Keys.{set_same, set_other}
use Rattle.hy_core.proofs.OpenPlaces.{sound_apply}
use Rattle.hy_core.proofs.Typed.{form_at, form_on, Fits, FitsEach, each_end, each_popped, each_swapped}
use Rattle.hy_core.proofs.CalmWalks.{at, exact_indexes, index_has}
use Rattle.hy_core.proofs.CalmFrames.{context}
use Rattle.hy_core.proofs.CalmSteps.{Like, like_with}
use Rattle.hy_core.proofs.FlowStates.{Tells, tells_counts, tells_retied}
use Rattle.hy_core.proofs.SetValues.{array_state, is_filled, array_meets, count_meets, zero_below, sets_told, sets_single}
use Rattle.hy_core.proofs.SetValues.{Meets, whole_end, whole_popped, whole_swapped}
use Rattle.hy_core.proofs.SetMemories.{InitMaps, holds_told}
use Rattle.hy_core.proofs.SetGood.{Fine, Sure, any_one, any_two, good_flag, good_index, good_number, good_some, good_trap, over}
use Rattle.hy_core.proofs.SetTies.{EndsAt, array_tells, tells_change, tells_in, tells_set_local, untied_with, wholes, with_rel}
use Rattle.hy_core.proofs.SetWalks.{Acting, Agrees, Now, array_changed, covered_agrees, covered_as, covered_holds, exact_type, gave, good_arrays}
use Rattle.hy_core.proofs.SetWalks.{good_read, good_take, good_write, local_is, local_sets, loses_none, mine_act, no_steps, spot_store, whole_read}
use Rattle.hy_core.proofs.SetWalks.{whole_write}

module _ (acting : Acting) where
  open acting use {p, S, signatures, number, ty, n, P, first, slots, k₀, local, below_n, small}

  abbrev x : Context
  x = context p signatures number k₀.now.fun

  abbrev mine : ℕ → Key
  mine l = at k₀.now.id l

  -- OPERATIONS, with what is known after them

  module _ (d : FlowState) (done : (g : FlowState) (c : Control) (m : Copies) → Like k₀ c → Now acting g m → FlowsInto x g d → Fine S c m) where
    store_good : (g : FlowState) (m : Copies) → Now acting g m → (to : Option Place) (u : TyId) (v : Val)
        → shaped.Stores p.core k₀.now.fun to (IsOf p.core k₀.now.fun u) → transfer.Stores x g to d → Fits p.core.types (form p.core.types u) v
        → is_whole v ≡ true
        → (c : Control) → Like k₀ c → Sure p S (store_to p c to v) m
    store_good g m h None u v of t fits whole c like = absurd t
    store_good g m h (Some place) u v of t fits whole c like =
        good_write acting g m h place u v Return of t.0 fits whole (λ c m like now calm. done (stored x g place) c m like now t.1) c like

    -- OPERATIONS that read what is known, and store what they compute

    module _ (g : FlowState) (m : Copies) (h : Now acting g m) (to : Option Place) (from : List Place) (t : Computes x g to from d) where
      are_read : (to : Option Place) → Computes x g to from d → all (ReadOk x g) from
      are_read None t = t.0
      are_read (Some to) t = t.0

      are_done : (c : Control) → Like k₀ c → shaped.StoresNothing p.core k₀.now.fun to → Fine S c m
      are_done c like n = by to n t
        where
          by : (to : Option Place) → shaped.StoresNothing p.core k₀.now.fun to → Computes x g to from d → Fine S c m
          by None n t = done g c m like h t.1
          by (Some to) n t = absurd n

      computed : (y : Form) (v : Val) → shaped.Stores p.core k₀.now.fun to (IsOfForm p.core k₀.now.fun y) → Fits p.core.types y v → is_whole v ≡ true
          → (c : Control) → Like k₀ c → Sure p S (store_to p c to v) m
      computed y v of fits whole c like = by to of t
        where
          by : (to : Option Place) → shaped.Stores p.core k₀.now.fun to (IsOfForm p.core k₀.now.fun y)
              → Computes x g to from d → Sure p S (store_to p c to v) m
          by None of t = absurd of
          by (Some place) of t = store_good g m h (Some place) of.0 v of.1 t.1 (subst (λ f. Fits p.core.types f v) (sym of.2) fits) whole c like

      one_from : (Q : Place → Type 0) (go : Place → Interaction Control) (c : Control) → shaped.One p.core k₀.now.fun from Q
          → ((a : Place) → Q a → ReadOk x g a → Sure p S (go a) m) → Sure p S (with_one c from go) m
      one_from Q go c is next = by from is (are_read to t)
        where
          by : (from : List Place) → shaped.One p.core k₀.now.fun from Q → all (ReadOk x g) from → Sure p S (with_one c from go) m
          by [] is ok = absurd is
          by (a ∷ []) is ok = next a is ok.0
          by (a ∷ (b ∷ more)) is ok = absurd is

      two_from : (Q : Place → Place → Type 0) (go : Place → Place → Interaction Control) (c : Control) → shaped.Two p.core k₀.now.fun from Q
          → ((a b : Place) → Q a b → ReadOk x g a → ReadOk x g b → Sure p S (go a b) m) → Sure p S (with_two c from go) m
      two_from Q go c is next = by from is (are_read to t)
        where
          by : (from : List Place) → shaped.Two p.core k₀.now.fun from Q → all (ReadOk x g) from → Sure p S (with_two c from go) m
          by [] is ok = absurd is
          by (a ∷ []) is ok = absurd is
          by (a ∷ (b ∷ [])) is ok = next a b is ok.0 ok.1.0
          by (a ∷ (b ∷ (z ∷ more))) is ok = absurd is

      number_of : (place : Place) (go : Control → ℤ → Interaction Control) → IsOfForm p.core k₀.now.fun (Numbers Int) place → ReadOk x g place
          → ((c : Control) (i : ℤ) → Like k₀ c → Sure p S (go c i) m) → (c : Control) → Like k₀ c → Sure p S (read_number p c place go) m
      number_of place go of ok next c like =
          good_read acting g m h place of.0 _ of.1 ok (λ c v like fits whole. good_number p S c v (go c) m whole (λ i. next c i like)) c like

      flag_of : (place : Place) (go : Control → Bool → Interaction Control) → IsOfForm p.core k₀.now.fun Flags place → ReadOk x g place
          → ((c : Control) (i : Bool) → Like k₀ c → Sure p S (go c i) m) → (c : Control) → Like k₀ c → Sure p S (read_flag p c place go) m
      flag_of place go of ok next c like =
          good_read acting g m h place of.0 _ of.1 ok (λ c v like fits whole. good_flag p S c v (go c) m whole (λ i. next c i like)) c like

      value_of : (place : Place) (y : Form) (go : Control → Val → Interaction Control) → IsOfForm p.core k₀.now.fun y place → ReadOk x g place
          → ((c : Control) (v : Val) → Like k₀ c → Fits p.core.types y v → is_whole v ≡ true → Sure p S (go c v) m)
          → (c : Control) → Like k₀ c → Sure p S (read p c place go) m
      value_of place y go of ok next c like = good_read acting g m h place of.0 _ of.1 ok
          (λ c v like fits whole. next c v like (subst (λ y. Fits p.core.types y v) of.2 fits) whole) c like

      gives : (s : ℕ) (t : IntegerType) (r : Result Val TrapKind) → IsProper t r
          → shaped.Stores p.core k₀.now.fun to (IsOfForm p.core k₀.now.fun (Numbers t)) → (c : Control) → Like k₀ c → Sure p S (give p c to s r) m
      gives s t (Ok v) proper of c like = let y = proper_fits p.core.types t v proper in computed (Numbers t) v of y.0 y.1 c like
      gives s t (Err kind) proper of c like = good_trap p S c kind s m

      changes : (spans : List ℕ) (t : IntegerType) (f : Val → Option (Result Val TrapKind))
          → shaped.Stores p.core k₀.now.fun to (IsOfForm p.core k₀.now.fun (Numbers t)) → (Q : Place → Type 0) → shaped.One p.core k₀.now.fun from Q
          → ((a : Place) → Q a → (u : IntegerType) × IsOfForm p.core k₀.now.fun (Numbers u) a × GivesOfOne t u f)
          → (c : Control) → Like k₀ c → Sure p S (changes_one p c to from spans f) m
      changes spans t f of Q is which c like = one_from Q _ c is (λ a ia ok. any_one p S c spans _ m (λ s.
          let u = which a ia in
          let wa : IsOfForm p.core k₀.now.fun (Numbers u.0) a = u.1 in
          value_of a (Numbers u.0) _ wa ok (λ c v like fits whole.
          let r = one_gives p.core.types t u.0 f u.2 v fits whole in
          subst (λ o. Sure p S (with_some c o (λ r. give p c to s r)) m) (sym r.1) (gives s t r.0 r.2 of c like)) c like))

      calculates : (spans : List ℕ) (f : Val → Val → Option (Result Val TrapKind)) → GivesOfTwo f
          → shaped.Arithmetic p.core k₀.now.fun to from spans → (c : Control) → Like k₀ c → Sure p S (arithmetic p c to from spans f) m
      calculates spans f gives_two is c like = two_from _ _ c is.2 (λ a b ab oka okb. any_one p S c spans _ m (λ s.
          value_of a (Numbers is.0) _ ab.0 oka (λ c v like fv vw. value_of b (Numbers is.0) _ ab.1 okb (λ c w like fw ww.
          let r = two_give p.core.types is.0 f gives_two v w fv vw fw ww in
          subst (λ o. Sure p S (with_some c o (λ r. give p c to s r)) m) (sym r.1) (gives s is.0 r.0 r.2 is.1 c like)) c like) c like))

      comparing : (spans : List ℕ) (f : Val → Val → Option Bool) → shaped.Compares p.core k₀.now.fun to from spans
          → (c : Control) → Like k₀ c → Sure p S (compares p c to from f) m
      comparing spans f is c like = two_from _ _ c is.1 (λ a b ab oka okb.
          let wa : IsOfForm p.core k₀.now.fun (Numbers ab.0) a = ab.1 in
          let wb : IsOfForm p.core k₀.now.fun (Numbers ab.0) b = ab.2 in
          good_read acting g m h a wa.0 _ wa.1 oka (λ c v like _ _. good_read acting g m h b wb.0 _ wb.1 okb (λ c w like _ _.
          good_some p S c (f v w) _ m (λ e _. computed Flags (Truth e) is.0 refl refl c like)) c like) c like)

      equating : shaped.Stores p.core k₀.now.fun to (IsOfForm p.core k₀.now.fun Flags)
          → shaped.Two p.core k₀.now.fun from (λ a b. (y : Form) × IsPlain p.core k₀.now.fun y × IsOfForm p.core k₀.now.fun y a
          × IsOfForm p.core k₀.now.fun y b)
          → (c : Control) → Like k₀ c → Sure p S (compares p c to from equal) m
      equating stores is c like = two_from _ _ c is (λ a b ab oka okb.
          let wa : IsOfForm p.core k₀.now.fun ab.0 a = ab.2 in
          let wb : IsOfForm p.core k₀.now.fun ab.0 b = ab.3 in
          good_read acting g m h a wa.0 _ wa.1 oka (λ c v like _ _. good_read acting g m h b wb.0 _ wb.1 okb
          (λ c w like _ _. good_some p S c (equal v w) _ m (λ e _. computed Flags (Truth e) stores refl refl c like)) c like) c like)

      printing : shaped.StoresNothing p.core k₀.now.fun to → shaped.One p.core k₀.now.fun from (λ a. (y : Form) × IsPlain p.core k₀.now.fun y
          × IsOfForm p.core k₀.now.fun y a) → (c : Control) → Like k₀ c
          → Sure p S (with_one c from (λ a. read p c a (λ c v. prints c (line_of v)))) m
      printing none is c like = one_from _ _ c is (λ a ia ok.
          let wa : IsOfForm p.core k₀.now.fun ia.0 a = ia.2 in
          good_read acting g m h a wa.0 _ wa.1 ok (λ c v like _ _. good_some p S c (line_of v) _ m
          (λ bytes _ calm. are_done (record c { output = c.output ++ bytes }) (like_with k₀ c c.turns c.opened c.input (c.output ++ bytes) like) none))
          c like)

      counting : shaped.Stores p.core k₀.now.fun to (IsOfForm p.core k₀.now.fun (Numbers Int))
          → shaped.One p.core k₀.now.fun from (λ array. (t : TyId) × IsOfForm p.core k₀.now.fun (Arrays t) array) → (c : Control) → Like k₀ c
          → Sure p S (with_one c from (λ array. read_array p c array (λ c at vs. store_to p c to (Number Int (pos (many vs)))))) m
      counting stores is c like = one_from _ _ c is (λ a ia ok.
          let wa : IsOfForm p.core k₀.now.fun (Arrays ia.0) a = ia.1 in
          good_arrays acting g m h a wa.0 ia.0 _ wa.1 wa.2 ok.indexes ok.set
          (λ c r vs like _ _ _ _ _ _. computed (Numbers Int) (Number Int (pos (many vs))) stores (refl, tt) refl c like) c like)

      reading : (s : ℕ) (got : Got) → shaped.Stores p.core k₀.now.fun to (IsOfForm p.core k₀.now.fun (Numbers Int)) → (c : Control) → Like k₀ c
          → Sure p S (reads p c to s got) m
      reading s (lines.Gives i rest) of c like =
          computed (Numbers Int) (Number Int i) of (refl, tt) refl (record c { input = rest }) (like_with k₀ c c.turns c.opened rest c.output like)
      reading s (lines.Fails rest) of c like = good_trap p S (record c { input = rest }) trap.Input s m
      reading s lines.Wants of c like = λ calm. over (Ends end.Asks) refl (λ e. absurd (cc))

      checking : (s : ℕ) (b : Bool) → shaped.StoresNothing p.core k₀.now.fun to → (c : Control) → Like k₀ c
          → Sure p S (cond b (Return c) (trapped p c trap.Precondition s)) m
      checking s true none c like calm = are_done c like none
      checking s false none c like calm = good_trap p S c trap.Precondition s m calm

    -- OPERATIONS of which it is known whether an array has an element after them

    new_array : (g : FlowState) (m : Copies) → Now acting g m → (to : Option Place) → transfer.StoresAs x (λ q. IsEmpty) g to d
        → shaped.Stores p.core k₀.now.fun to (λ place. (t : TyId) × IsOfForm p.core k₀.now.fun (Arrays t) place) → (c : Control) → Like k₀ c
        → Sure p S (store_to p c to (Array No)) m
    new_array g m h None t of c like = absurd of
    new_array g m h (Some place) t of c like = let w : IsOfForm p.core k₀.now.fun (Arrays of.0) place = of.1 in
        spot_store acting g m h place w.0 _ w.1 t.0 (λ c m s like store calm.
        let z = store (Array No) (λ q. IsEmpty) (λ F q. refl) (sets_single p.core.types w.0 IsEmpty (Array No) (ap parts_of w.2) refl) (of.0, w.2, tt) refl
        calm.0 in
        (z.0, done (stored_as x (λ q. IsEmpty) g place (is_exact place.steps)) c _ like z.1 t.1)) c like

    -- a count is stored in a local
    now_counted : (g : FlowState) (m : Copies) (h : Now acting g m) (to array : Place) (u a : TyId) (vs : Vals) → CountOk x g to array
        → type_at p.core.types (local_type k₀.now.fun to.local) [] ≡ Some u → form p.core.types u ≡ Numbers Int
        → type_at p.core.types (local_type k₀.now.fun array.local) (still array.steps) ≡ Some a → parts_of (form p.core.types a) ≡ []
        → MayWrite m (whole (mine to.local)) → IsKept m (mine array.local) → get (still array.steps) (m.value (mine array.local)) ≡ Array vs
        → all_whole vs ≡ true → Now acting (counted x g to array) (copying.store m (whole (mine to.local)) (Number Int (pos (many vs))))
    now_counted g m h to array u a vs ok is is_number is_array leaf may kept there ws = record {
      maps = E';
      holds = holds_told p.core.types ty n E P after (mine array.local) (with_map (still array.steps) (λ q. array_state vs) (E (mine array.local)))
          (covered_holds acting g m h to.local [] u (λ q. IsKnown (is_filled vs)) (Number Int (pos (many vs))) is may
          (subst (λ f. Fits p.core.types f (Number Int (pos (many vs)))) (sym is_number) (refl, tt))
          (sets_single p.core.types u (IsKnown (is_filled vs)) (Number Int (pos (many vs))) (ap parts_of is_number) (count_meets vs))) kept
          (λ t y st. sets_told p.core.types t a (E (mine array.local)) (λ q. array_state vs) (after.value (mine array.local)) (still array.steps) st
          (ap (λ o. type_at p.core.types o (still array.steps)) (sym (local_is acting array.local t y)) ∙ is_array)
          (sets_single p.core.types a (array_state vs) _ leaf (subst (Meets (array_state vs)) (sym there') (array_meets vs ws))));
      agrees = agrees;
      others = λ k n. set_other E (mine array.local) _ k (mine_act acting array.local k n) ∙ set_other h.maps (mine to.local) _ k
          (mine_act acting to.local k n)
          ∙ h.others k n;
      ties = h.ties;
      params = h.params;
      bound = h.bound;
      same = h.same;
      sound = sound_apply (effect.Store (whole (mine to.local)) (Number Int (pos (many vs)))) m may h.sound;
    }
      where
        -- once the count is stored
        mid : FlowState
        mid = with_init g to.local [] all_set

        after : Copies
        after = copying.store m (whole (mine to.local)) (Number Int (pos (many vs)))

        E : InitMaps
        E = set_at h.maps (mine to.local) (with_map [] (λ q. IsKnown (is_filled vs)) (h.maps (mine to.local)))

        E' : InitMaps
        E' = set_at E (mine array.local) (with_map (still array.steps) (λ q. array_state vs) (E (mine array.local)))

        other : mine array.local ≢ mine to.local
        other e = ok.other (sym (ap (λ k. k.local) e))

        there' : get (still array.steps) (after.value (mine array.local)) ≡ Array vs
        there' = ap (get (still array.steps)) (set_other m.value (mine to.local) _ (mine array.local) other) ∙ there

        untied : IsUntied x mid array.local
        untied = untied_with x g to.local [] all_set array.local (λ t r e leaf. tt) ok.untied

        old : Agrees acting mid E
        old = covered_agrees acting g m h to.local [] all_set (λ q. IsKnown (is_filled vs)) (λ F q. tt) ok.store.untied

        known : wholes E' k₀.now.id to.local ≡ IsKnown (is_filled vs)
        known = ap (λ c. c []) (set_other E (mine array.local) _ (mine to.local) (λ e. other (sym e))
            ∙ set_same h.maps (mine to.local) (with_map [] (λ q. IsKnown (is_filled vs)) (h.maps (mine to.local))))

        agrees : Agrees acting (counted x g to array) E'
        agrees j t r e leaf = tells_set_local E k₀.now.id array.local mid.init
            (with_map (still array.steps) (λ q. IsEmptyWithout to.local) (mid.init array.local))
            (with_map (still array.steps) (λ q. array_state vs) (E (mine array.local))) j r (untied j t r e leaf) (old j t r e leaf) (λ y.
            with_rel (Tells (wholes E' k₀.now.id)) (still array.steps) (λ q. IsEmptyWithout to.local) (λ q. array_state vs) (mid.init array.local)
            (E (mine array.local)) r (λ b _. array_tells (wholes E' k₀.now.id) to.local vs known)
            (let f : local_type k₀.now.fun array.local ≡ Some t = ap (local_type k₀.now.fun) (sym y) ∙ e in
            tells_change E k₀.now.id array.local _ (mid.init array.local r) (E (mine array.local) r) (untied array.local t r f leaf)
            (old array.local t r f leaf)))

    counting_to : (g : FlowState) (m : Copies) → Now acting g m → (to : Place) (from : List Place)
        → transfer.One x from (λ a. CountOk x g to a × FlowsInto x (counted x g to a) d) → IsOfForm p.core k₀.now.fun (Numbers Int) to
        → shaped.One p.core k₀.now.fun from (λ array. (t : TyId) × IsOfForm p.core k₀.now.fun (Arrays t) array) → (c : Control) → Like k₀ c
        → Sure p S (with_one c from (λ array. read_array p c array (λ c at vs. store_to p c (Some to) (Number Int (pos (many vs)))))) m
    counting_to g m h to [] t wt is c like = absurd t
    counting_to g m h to (array ∷ (b ∷ more)) t wt is c like = absurd is
    counting_to g m h to (array ∷ []) t wt is c like =
        let wa : IsOfForm p.core k₀.now.fun (Arrays is.0) array = is.1 in
        let ok : CountOk x g to array = t.0 in
        let is_array = exact_type acting g m h array wa.0 wa.1 ok.exact in
        good_arrays acting g m h array wa.0 is.0 _ wa.1 wa.2 ok.read.indexes ok.read.set (λ c r vs like ends e each ws kept there.
        let z : r ≡ still array.steps = subst (λ b. EndsAt b (still array.steps) r) ok.exact ends in
        whole_write acting g m h to wt.0 (Number Int (pos (many vs))) Return wt.1 ok.store ok.whole (λ c like may is calm. done (counted x g to array) c _ like
        (now_counted g m h to array wt.0 wa.0 vs ok is wt.2 is_array (ap parts_of wa.2) may kept
        (ap (λ r. get r (m.value (mine array.local))) (sym z) ∙ there) ws) t.1) c like) c like

    -- whether 0 is below a number is stored in a local
    now_compared : (g : FlowState) (m : Copies) (h : Now acting g m) (to a n : Place) (u ta tn : TyId) (e : Bool) → CompareOk x g to a n
        → type_at p.core.types (local_type k₀.now.fun to.local) [] ≡ Some u → form p.core.types u ≡ Flags
        → local_type k₀.now.fun a.local ≡ Some ta → parts_of (form p.core.types ta) ≡ []
        → local_type k₀.now.fun n.local ≡ Some tn → parts_of (form p.core.types tn) ≡ []
        → MayWrite m (whole (mine to.local)) → IsKept m (mine a.local) → IsKept m (mine n.local)
        → ordered int_lt (m.value (mine a.local)) (m.value (mine n.local)) ≡ Some e
        → Now acting (compared x g to n) (copying.store m (whole (mine to.local)) (Truth e))
    now_compared g m h to a n u ta tn e ok is is_flag type_a leaf_a type_n leaf_n may kept_a kept_n below =
        covered_as acting (compared x g to n).init g m h to.local [] u (λ q. IsKnown e) (Truth e) is may
        (subst (λ f. Fits p.core.types f (Truth e)) (sym is_flag) refl) (sets_single p.core.types u (IsKnown e) (Truth e) (ap parts_of is_flag) refl) agrees
      where
        E : InitMaps
        E = set_at h.maps (mine to.local) (with_map [] (λ q. IsKnown e) (h.maps (mine to.local)))

        others : (k : ℕ) → k ≢ to.local → wholes E k₀.now.id k ≡ wholes h.maps k₀.now.id k
        others k n = ap (λ c. c []) (set_other h.maps (mine to.local) _ (mine k) (λ z. n (ap (λ k. k.local) z)))

        known : wholes E k₀.now.id to.local ≡ IsKnown e
        known = ap (λ c. c []) (set_same h.maps (mine to.local) (with_map [] (λ q. IsKnown e) (h.maps (mine to.local))))

        zero_is : Meets (IsKnown false) (m.value (mine a.local))
        zero_is = subst (λ s. Meets s (m.value (mine a.local))) (tells_counts (wholes h.maps k₀.now.id) (IsKnown false) (g.init a.local [])
            (h.maps (mine a.local) []) ok.known (h.agrees a.local ta [] type_a (ta, refl, leaf_a)))
            (local_sets acting g m h a.local ta type_a kept_a [] (ta, refl, leaf_a))

        same : (b : Bool) → wholes h.maps k₀.now.id n.local ≡ IsKnown b → wholes E k₀.now.id to.local ≡ IsKnown b
        same b w = known ∙ ap IsKnown (zero_below (m.value (mine a.local)) (m.value (mine n.local)) b e zero_is
            (subst (λ s. Meets s (m.value (mine n.local))) w (local_sets acting g m h n.local tn type_n kept_n [] (tn, refl, leaf_n))) below)

        agrees : Agrees acting (compared x g to n) E
        agrees j t r f leaf = tells_in h.maps k₀.now.id to.local (λ l q. retied n.local to.local (g.init l q)) (with_map [] all_set (λ q.
            retied n.local to.local (g.init to.local q))) (with_map [] (λ q. IsKnown e) (h.maps (mine to.local))) j r
            (λ _. tells_retied (wholes h.maps k₀.now.id) (wholes E k₀.now.id) n.local to.local (g.init j r) (h.maps (mine j) r) others
            (ok.store.untied j t r f leaf) same (h.agrees j t r f leaf)) (λ _. tt)

    comparing_to : (g : FlowState) (m : Copies) → Now acting g m → (to : Place) (from : List Place) (spans : List ℕ)
        → transfer.Two x from (λ a b. CompareOk x g to a b × FlowsInto x (compared x g to b) d) → shaped.Compares p.core k₀.now.fun (Some to) from spans
        → (c : Control) → Like k₀ c → Sure p S (compares p c (Some to) from (ordered int_lt)) m
    comparing_to g m h to [] spans t is c like = absurd t
    comparing_to g m h to (a ∷ []) spans t is c like = absurd t
    comparing_to g m h to (a ∷ (b ∷ (z ∷ more))) spans t is c like = let y = is.1 in absurd y
    comparing_to g m h to (a ∷ (b ∷ [])) spans t is c like =
        let ok : CompareOk x g to a b = t.0 in
        let ab = is.1 in
        let wt : IsOfForm p.core k₀.now.fun Flags to = is.0 in
        let wa : IsOfForm p.core k₀.now.fun (Numbers ab.0) a = ab.1 in
        let wb : IsOfForm p.core k₀.now.fun (Numbers ab.0) b = ab.2 in
        whole_read acting g m h a wa.0 _ wa.1 ok.read_zero ok.whole_zero (λ c like kept_a.
        whole_read acting g m h b wb.0 _ wb.1 ok.read ok.whole_read (λ c like kept_b.
        good_some p S c (ordered int_lt (m.value (mine a.local)) (m.value (mine b.local))) _ m (λ e below.
        whole_write acting g m h to wt.0 (Truth e) Return wt.1 ok.store ok.whole (λ c like may is calm. done (compared x g to b) c _ like
        (now_compared g m h to a b wt.0 wa.0 wb.0 e ok is wt.2 (whole_type a wa.0 wa.1 ok.whole_zero) (ap parts_of wa.2) (whole_type b wb.0 wb.1 ok.whole_read)
        (ap parts_of wb.2) may kept_a kept_b below) t.1) c like)) c like) c like
      where
        whole_type : (place : Place) (u : TyId) → IsOf p.core k₀.now.fun u place → is_whole_local x place.steps ≡ true
            → local_type k₀.now.fun place.local ≡ Some u
        whole_type place u of whole = none (local_type k₀.now.fun place.local)
            (subst (λ steps. steps_type p.core.types (local_type k₀.now.fun place.local) steps ≡ Some u) (no_steps acting g m h place.steps whole) of.0)
          where
            none : (o : Option TyId) → steps_type p.core.types o [] ≡ Some u → o ≡ Some u
            none None e = absurd (cc)
            none (Some t) e = e

    -- OPERATIONS on an array where it stands

    push_good : (g : FlowState) (m : Copies) → Now acting g m → (from : List Place)
        → transfer.Two x from (λ array a. TakeOk x g a × ChangeOk x (given x g a) array × FlowsInto x (changed x (given x g a) array) d)
        → shaped.Two p.core k₀.now.fun from (λ array a. (t : TyId) × IsOfForm p.core k₀.now.fun (Arrays t) array × IsOf p.core k₀.now.fun t a)
        → (c : Control) → Like k₀ c
        → Sure p S (with_two c from
        (λ array a. take p c a (λ c v. read_array p c array (λ c at vs. Perform (effect.Change at (Array (at_end vs v))) (Return c))))) m
    push_good g m h [] t is c like = absurd t
    push_good g m h (array ∷ []) t is c like = absurd t
    push_good g m h (array ∷ (a ∷ (b ∷ more))) t is c like = absurd is
    push_good g m h (array ∷ (a ∷ [])) t is c like =
        let wa : IsOf p.core k₀.now.fun is.0 a = is.2 in
        let w : IsOfForm p.core k₀.now.fun (Arrays is.0) array = is.1 in
        good_take acting g m h effect.Moved a is.0 _ wa t.0 tt (λ c v m like fits whole now.
        good_arrays acting (given x g a) m now array w.0 is.0 _ w.1 w.2 t.1.indexes t.1.set
        (λ c r vs like ends e each ws _ _ calm. (
          tt,
          done (changed x (given x g a) array) c _ like (array_changed acting (given x g a) m now array w.0 is.0 r (at_end vs v) w.1 w.2 ends e
              (each_end p.core.types is.0 vs v each fits) (whole_end vs v ws whole) t.1.untied calm.0) t.2,
        )) c like) c like

    pop_good : (g : FlowState) (m : Copies) → Now acting g m → (to : Option Place) (from : List Place) (spans : List ℕ)
        → transfer.One x from (λ array. ChangeOk x g array × transfer.Stores x (changed x g array) to d)
        → shaped.One p.core k₀.now.fun from (λ array. (t : TyId) × IsOfForm p.core k₀.now.fun (Arrays t) array
        × shaped.Stores p.core k₀.now.fun to (IsOf p.core k₀.now.fun t)) → (c : Control) → Like k₀ c
        → Sure p S (with_one c from (λ array. with_one c spans (λ s. read_array p c array (λ c at vs. pop p c to s at vs)))) m
    pop_good g m h to [] spans t is c like = absurd t
    pop_good g m h to (array ∷ (b ∷ more)) spans t is c like = absurd is
    pop_good g m h to (array ∷ []) spans t is c like =
        any_one p S c spans _ m (λ s. good_arrays acting g m h array is.1.0 is.0 _ is.1.1 is.1.2 t.0.indexes t.0.set
        (λ c r vs like ends e each ws _ _. by s r vs ends e each ws c like) c like)
      where
        by : (s : ℕ) (r : Path) (vs : Vals) → EndsAt (is_exact array.steps) (still array.steps) r
            → form_on p.core.types (form_at p.core.types (ty (mine array.local))) r ≡ form p.core.types is.1.0
            → FitsEach p.core.types is.0 vs → all_whole vs ≡ true
            → (c : Control) → Like k₀ c → Sure p S (pop p c to s (record { key = mine array.local; path = r }) vs) m
        by s r No ends e each ws c like calm = good_trap p S c trap.Empty s m calm
        by s r (And v vs) ends e each ws c like calm =
            let y = each_popped p.core.types is.0 v vs each.0 each.1 in
            let z = whole_popped v vs ws in (
              tt,
              store_good (changed x g array) _
                  (array_changed acting g m h array is.1.0 is.0 r (popped v vs).rest is.1.1 is.1.2 ends e y.0 z.0 t.0.untied calm.0) to
                  is.0 (popped v vs).last is.2 t.1 y.1 z.1 c like calm.1,
            )

    swap_good : (g : FlowState) (m : Copies) → Now acting g m → (from : List Place) (spans : List ℕ)
        → transfer.Three x from (λ array a b. ReadOk x g a × ReadOk x g b × ChangeOk x g array × FlowsInto x (changed x g array) d)
        → shaped.Three p.core k₀.now.fun from (λ array a b. (t : TyId) × IsOfForm p.core k₀.now.fun (Arrays t) array
        × IsOfForm p.core k₀.now.fun (Numbers Int) a × IsOfForm p.core k₀.now.fun (Numbers Int) b) → (c : Control) → Like k₀ c
        → Sure p S (with_three c from (λ array a b. with_two c spans (λ s t. swap p c array a b s t))) m
    swap_good g m h [] spans t is c like = absurd t
    swap_good g m h (array ∷ []) spans t is c like = absurd t
    swap_good g m h (array ∷ (a ∷ [])) spans t is c like = absurd t
    swap_good g m h (array ∷ (a ∷ (b ∷ (z ∷ more)))) spans t is c like = absurd is
    swap_good g m h (array ∷ (y ∷ (z ∷ []))) spans t is c like =
        let w : IsOfForm p.core k₀.now.fun (Arrays is.0) array = is.1 in
        let wa : IsOfForm p.core k₀.now.fun (Numbers Int) y = is.2 in
        let wb : IsOfForm p.core k₀.now.fun (Numbers Int) z = is.3 in
        any_two p S c spans _ m
        (λ s s'. good_read acting g m h y wa.0 _ wa.1 t.0 (λ c v like _ whole. good_number p S c v _ m whole
        (λ i. good_read acting g m h z wb.0 _ wb.1 t.1 (λ c v like _ whole. good_number p S c v _ m whole (λ j.
        good_arrays acting g m h array w.0 is.0 _ w.1 w.2 t.2.indexes t.2.set (λ c r vs like ends e each ws _ _.
        good_index p S c s (index_in (many vs) i) _ m (λ a ea. good_index p S c s' (index_in (many vs) j) _ m (λ b eb calm. (
          tt,
          done (changed x g array) c _ like
              (array_changed acting g m h array w.0 is.0 r (swapped a b vs) w.1 w.2 ends e (each_swapped p.core.types is.0 a b vs each)
              (whole_swapped a b vs (index_has (many vs) i a ea) (index_has (many vs) j b eb) ws) t.2.untied calm.0) t.3,
        )))) c like)) c like)) c like)

    free_good : (g : FlowState) (m : Copies) → Now acting g m → (from : List Place)
        → transfer.One x from (λ array. TakeOk x g array × FlowsInto x (given x g array) d × HasNoElements x g array)
        → shaped.One p.core k₀.now.fun from (λ array. (t : TyId) × IsOfForm p.core k₀.now.fun (Arrays t) array)
        → (c : Control) → Like k₀ c
        → Sure p S (with_one c from (λ array. read_array p c array (λ c at vs. Perform (effect.Clear at effect.Discarded) (Return c)))) m
    free_good g m h [] t is c like = absurd t
    free_good g m h (array ∷ (b ∷ more)) t is c like = absurd is
    free_good g m h (array ∷ []) t is c like =
        let w : IsOfForm p.core k₀.now.fun (Arrays is.0) array = is.1 in
        good_arrays acting g m h array w.0 is.0 _ w.1 w.2 (exact_indexes g array.steps t.0.give.exact) t.0.set (λ c r vs like ends e each ws kept _ calm. (
          subst (λ r. LosesNone effect.Discarded (get r (m.value (mine array.local))))
              (sym (subst (λ b. EndsAt b (still array.steps) r) t.0.give.exact ends))
              (loses_none acting effect.Discarded g m h array w.0 w.1 (exact_type acting g m h array w.0 w.1 t.0.give.exact) t.2 kept),
          done (given x g array) c _ like (gave acting g m h array w.0 w.1 t.0.give.exact r (subst (λ b. EndsAt b (still array.steps) r) t.0.give.exact ends)
              t.0.give.untied calm.0) t.1,
        )) c like

    pub built_good : (g : FlowState) (m : Copies) → Now acting g m → (o : Operator) (to : Option Place) (from : List Place) (spans : List ℕ)
        → TransfersBuilt x o to from g d → IsBuilt p.core k₀.now.fun o to from spans → (c : Control) → Like k₀ c
        → Sure p S (built p c o to from spans) m
    built_good g m h Add to from spans t is c like = calculates g m h to from t spans _ (operated_gives operation.Add) is c like
    built_good g m h Sub to from spans t is c like = calculates g m h to from t spans _ (operated_gives operation.Sub) is c like
    built_good g m h Mul to from spans t is c like = calculates g m h to from t spans _ (operated_gives operation.Mul) is c like
    built_good g m h Div to from spans t is c like = calculates g m h to from t spans _ (operated_gives operation.Div) is c like
    built_good g m h Rem to from spans t is c like = calculates g m h to from t spans _ (operated_gives operation.Rem) is c like
    built_good g m h Neg to from spans t is c like =
        changes g m h to from t spans is.0 negated is.2 _ is.3 (λ a ia. (is.0, ia, negated_gives is.0)) c like
    built_good g m h (Convert u) to from spans t is c like =
        changes g m h to from t spans u (converted u) is.0 _ is.1 (λ a ia. (ia.0, ia.1, converted_gives u ia.0)) c like
    built_good g m h Eq to from spans t is c like = equating g m h to from t is.0 is.1 c like
    built_good g m h Lt to from spans (inl t) is c like = comparing g m h to from t spans _ is c like
    built_good g m h Lt None from spans (inr t) is c like = absurd t
    built_good g m h Lt (Some to) from spans (inr t) is c like = comparing_to g m h to from spans t is c like
    built_good g m h Le to from spans t is c like = comparing g m h to from t spans _ is c like
    built_good g m h Not to from spans t is c like =
        one_from g m h to from t _ _ c is.1
        (λ a ia ok. flag_of g m h to from t a _ ia ok (λ c b like. computed g m h to from t Flags (Truth (not b)) is.0 refl refl c like) c like)
    built_good g m h NewArray to from spans t is c like = new_array g m h to t is.0 c like
    built_good g m h Push to from spans t is c like = push_good g m h from t is.1 c like
    built_good g m h Pop to from spans t is c like = pop_good g m h to from spans t is.0 c like
    built_good g m h Swap to from spans t is c like = swap_good g m h from spans t is.1 c like
    built_good g m h Count to from spans (inl t) is c like = counting g m h to from t is.0 is.1 c like
    built_good g m h Count None from spans (inr t) is c like = absurd t
    built_good g m h Count (Some to) from spans (inr t) is c like = counting_to g m h to from t is.0 is.1 c like
    built_good g m h FreeArray to from spans t is c like = free_good g m h from t.1 is.1 c like
    built_good g m h Print to from spans t is c like = printing g m h to from t is.0 is.1 c like
    built_good g m h Read to from spans t is c like = any_one p S c spans _ m (λ s. reading g m h to from t s (read_line p.cut c.input) is.0 c like)
    built_good g m h Check to from spans t is c like =
        one_from g m h to from t _ _ c is.1
        (λ a ia ok. any_one p S c spans _ m (λ s. flag_of g m h to from t a _ ia ok (λ c b like. checking g m h to from t s b is.0 c like) c like))
