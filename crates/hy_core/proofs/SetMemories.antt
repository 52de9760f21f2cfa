-- The memory that copies, where maps call set what is set in each local, and unset what is not: what each change of it keeps.
use Rattle.std.proofs.Common.{◌≡◌, ◌≢◌, ◌⊎◌, inl, inr, ⊎_elim, ℕ, suc, ◌<◌, ◌≤◌, true, [], ◌∷◌, ◌++◌, Option, Some, None, refl, sym, ap, ◌∙◌, subst, arith}
use Rattle.hy_types.specs.declared.kinds.TyId.{TyId}
use Rattle.hy_types.specs.Types.{Table}
use Rattle.hy_core.specs.Values.{Val, Unset, Path, get, put, Apart, Diverge, is_whole}
use Rattle.hy_core.specs.Memory.{Key, Spot, whole, Way, Reads, Writes, Origin, Copies, set_at, put_back, way_of, close_copy, lend_copy, copying}
use Rattle.hy_core.specs.Calm.{IsKept, MayWrite, MayLend, MayHand, MayClose}
use Rattle.hy_core.specs.Control.{Form, form}
use Rattle.hy_core.specs.Typing.{IsLeaf, IsSmall}
use Rattle.hy_core.specs.Flow.{InitMap, IsSet, Counts, none_set, all_set, with_map}
use Rattle.hy_core.proofs.Keys.{key_dec, set_same, set_other, at_key}
use Rattle.hy_core.proofs.OpenPlaces.{Sound}
use Rattle.hy_core.proofs.Values.{apart_diverge}
use Rattle.hy_core.proofs.Typed.{form_at, form_on, Fits, IsTyped, typed_read, typed_store, typed_lend, typed_close}
use Rattle.hy_core.proofs.CalmWalks.{apart_more}
use Rattle.hy_core.proofs.SetValues.{Sets, sets_none, sets_counts, sets_whole, all_sets}
use Rattle.hy_core.proofs.SetParts.{LeadsTo, leads_same, leads_to, sets_lent, keeps_lent}
use Rattle.hy_core.proofs.CalmFrames.{some_is}

abbrev pub InitMaps : Type 0
InitMaps = Key → InitMap

-- two functions that change at one key
pub at_two : {A B : Type 0} (f : Key → A) (g : Key → B) (k : Key) (a : A) (b : B) (j : Key) (P : A → B → Type 0) → (j ≡ k → P a b) → (j ≢ k → P (f j) (g j))
    → P (set_at f k a j) (set_at g k b j)
at_two f g k a b j P here there = at_key f k a j (λ x. P x (set_at g k b j))
    (λ e. at_key g k b j (P a) (λ _. here e) (λ n. absurd (n e)))
    (λ n. at_key g k b j (P (f j)) (λ e. absurd (n e)) (λ _. there n))

-- no local of another activation stands for a place of it for change
abbrev pub NotAway : (Key → Option Origin) → Key → Type 0
NotAway opened k = (j : Key) (o : Origin) → opened j ≡ Some o → o.base ≡ k → j.act ≢ k.act → o.way ≡ Writes → ⊥

pub kept_here : (m : Copies) (k : Key) → IsKept m k → NotAway m.opened k
kept_here m k kept j o e b n w = n (kept j o e b)

apart_nil : (p : Path) → Apart p [] → ⊥
apart_nil [] a = a
apart_nil (s ∷ p) a = a

module _ (types : Table) (ty : Key → Option TyId) (n : ℕ) where
  abbrev pub forms_of : Key → Form
  forms_of k = form_at types (ty k)

  -- A local that stands for a place of another activation was handed over, for the whole of a local: what comes back to that is as
  -- it is called there. Or it is the parameter of a deinitialiser, lent a whole part: it comes back whole, and till then the
  -- base is as it is called.
  pub data Due (m : Copies) (E P : InitMaps) (j : Key) (o : Origin) : Type 0 where
    handed : o.path ≡ [] → ty j ≡ ty o.base → (o.way ≡ Writes → (t : TyId) (q : Path) → ty o.base ≡ Some t → IsLeaf types t q → E o.base q ≡ P j q)
        → Due m E P j o
    lent : (u : TyId) → ty j ≡ Some u → IsSmall types u → ((q : Path) → P j q ≡ IsSet) → ((t : TyId) → ty o.base ≡ Some t → LeadsTo types t (E o.base) o.path)
        → ((t : TyId) → ty o.base ≡ Some t → Sets types t (E o.base) (m.value o.base)) → Due m E P j o

  -- E says of each local what is set in it, or will be when it has come back from another activation; P says of each local
  -- what will be set in it when it closes.
  pub record Holds (E P : InitMaps) (m : Copies) : Type 0 where
    pub typed : IsTyped types forms_of n m
    pub set : (k : Key) → NotAway m.opened k → (t : TyId) → ty k ≡ Some t → Sets types t (E k) (m.value k)
    pub due : (j : Key) (o : Origin) → m.opened j ≡ Some o → j.act ≢ o.base.act → Due m E P j o

  abbrev KeepsSet : (c c' : InitMap) (k : Key) (v v' : Val) → Type 0
  KeepsSet c c' k v v' = (t : TyId) → ty k ≡ Some t → Sets types t c v → Sets types t c' v'

  -- the base is as it was
  due_same : (m m' : Copies) (E E' P P' : InitMaps) (j : Key) (o : Origin) → m'.value o.base ≡ m.value o.base → E' o.base ≡ E o.base → P' j ≡ P j
      → Due m E P j o → Due m' E' P' j o
  due_same m m' E E' P P' j o v e p (handed path type meets) = handed path type (λ w t q y l. ap (λ c. c q) e ∙ meets w t q y l ∙ ap (λ c. c q) (sym p))
  due_same m m' E E' P P' j o v e p (lent u type small set leads base) = lent u type small (λ q. ap (λ c. c q) p ∙ set q)
      (λ t y. subst (λ c. LeadsTo types t c o.path) (sym e) (leads t y))
      (λ t y. subst (λ c. Sets types t c (m'.value o.base)) (sym e) (subst (Sets types t (E o.base)) (sym v) (base t y)))

  -- STORING

  pub holds_store : (E E' P : InitMaps) (m : Copies) (s : Spot) (v : Val) → Holds E P m → MayWrite m s → s.key.act < n
      → Fits types (form_on types (forms_of s.key) s.path) v
      → ((k : Key) → k ≢ s.key → E' k ≡ E k) → KeepsSet (E s.key) (E' s.key) s.key (m.value s.key) (put s.path v (m.value s.key))
      → Holds E' P (copying.store m s v)
  holds_store E E' P m s v h may lt fits other keeps = record {
    typed = typed_store types forms_of n m h.typed s v lt fits;
    set = λ k here t y. at_key m.value s.key (put s.path v (m.value s.key)) k (Sets types t (E' k))
        (λ e. subst (λ k. Sets types t (E' k) (put s.path v (m.value s.key))) (sym e) (keeps t (ap ty (sym e)
        ∙ y) (h.set s.key (kept_here m s.key may.kept) t (ap ty (sym e) ∙ y))))
        (λ n. subst (λ c. Sets types t c (m.value k)) (sym (other k n)) (h.set k here t y));
    due = λ j o e n. let ne : o.base ≢ s.key = λ b. n (may.kept j o e b ∙ ap (λ k. k.act) (sym b)) in
        due_same m (copying.store m s v) E E' P P j o (set_other m.value s.key _ o.base ne) (other o.base ne) refl (h.due j o e n);
  }

  -- the states of one local are told in another way
  pub holds_told : (E P : InitMaps) (m : Copies) (k : Key) (c : InitMap) → Holds E P m → IsKept m k
      → ((t : TyId) → ty k ≡ Some t → Sets types t (E k) (m.value k) → Sets types t c (m.value k)) → Holds (set_at E k c) P m
  holds_told E P m k c h kept told = record {
    typed = h.typed;
    set = λ j here t y. at_key E k c j (λ c. Sets types t c (m.value j))
        (λ e. subst (λ j. Sets types t c (m.value j)) (sym e)
        (told t (ap ty (sym e) ∙ y) (h.set k (kept_here m k kept) t (ap ty (sym e) ∙ y)))) (λ n. h.set j here t y);
    due = λ j o e n. due_same m m E (set_at E k c) P P j o refl (set_other E k c o.base (λ b. n (kept j o e b ∙ ap (λ k. k.act) (sym b)))) refl
        (h.due j o e n);
  }

  -- LENDING in one activation

  pub holds_lend : (E E' P : InitMaps) (m : Copies) (k : Key) (s : Spot) (w : Way) → Holds E P m → MayLend m k s w → k.act ≡ s.key.act → k.act < n
      → s.key.act < n
      → forms_of k ≡ form_on types (forms_of s.key) s.path → ((j : Key) → j ≢ k → E' j ≡ E j)
      → ((t : TyId) → ty k ≡ Some t → Sets types t (E' k) (get s.path (m.value s.key)))
      → Holds E' P (lend_copy m k s w)
  holds_lend E E' P m k s w h may own lt ls f other new = record {
    typed = typed_lend types forms_of n m h.typed k s w lt ls f;
    set = λ j here t y. at_key m.value k (get s.path (m.value s.key)) j (Sets types t (E' j))
        (λ e. subst (λ j. Sets types t (E' j) (get s.path (m.value s.key))) (sym e) (new t (ap ty (sym e) ∙ y)))
        (λ n. subst (λ c. Sets types t c (m.value j)) (sym (other j n)) (h.set j (λ i o e. here i o (before i o e)) t y));
    due = λ j o. at_key m.opened k (Some (record { base = s.key; path = s.path; way = w })) j (λ x. x ≡ Some o → j.act ≢ o.base.act
        → Due (lend_copy m k s w) E' P j o)
        (λ e x n. absurd (n (ap (λ k. k.act) e ∙ own ∙ ap (λ o. o.base.act) (some_is _ o x))))
        (λ _ x n. due_same m (lend_copy m k s w) E E' P P j o (set_other m.value k _ o.base (λ b. may.shut j o x b))
        (other o.base (λ b. may.shut j o x b)) refl (h.due j o x n));
  }
    where
      before : (i : Key) (o : Origin) → m.opened i ≡ Some o → set_at m.opened k (Some (record { base = s.key; path = s.path; way = w })) i ≡ Some o
      before i o e = set_other m.opened k _ i (λ q. absurd (let z : None ≡ Some o = sym may.closed ∙ ap m.opened (sym q) ∙ e in cc)) ∙ e

  -- HANDING to another activation

  pub holds_hand : (E E' P P' : InitMaps) (m : Copies) (k l : Key) → Holds E P m → MayHand m k l → k.act ≢ l.act → k.act < n → l.act < n → ty k ≡ ty l
      → ((j : Key) → j ≢ k → j ≢ l → E' j ≡ E j) → ((j : Key) → j ≢ k → P' j ≡ P j)
      → ((t : TyId) → ty l ≡ Some t → Sets types t (E l) (m.value l) → Sets types t (E' k) (m.value l)
      × (way_of (m.opened l) ≡ Reads → Sets types t (E' l) (m.value l)))
      → (way_of (m.opened l) ≡ Writes → (t : TyId) (q : Path) → ty l ≡ Some t → IsLeaf types t q → E' l q ≡ P' k q)
      → Holds E' P' (copying.hand m k l)
  holds_hand E E' P P' m k l h may apart lt ll same other other_due new meets = record {
    typed = typed_lend types forms_of n m h.typed k (whole l) (way_of (m.opened l)) lt ll (ap (form_at types) same);
    set = λ j here t y. at_key m.value k (m.value l) j (Sets types t (E' j))
        (λ e. subst (λ j. Sets types t (E' j) (m.value l)) (sym e)
        ((new t (sym same ∙ ap ty (sym e) ∙ y) (h.set l unlent t (sym same ∙ ap ty (sym e) ∙ y))).0))
        (λ n. ⊎_elim (λ e. subst (λ j. Sets types t (E' j) (m.value j)) (sym e) (lender (way_of (m.opened l)) refl t (ap ty (sym e)
        ∙ y) (subst (NotAway (copying.hand m k l).opened) e here)))
        (λ z. subst (λ c. Sets types t c (m.value j)) (sym (other j n z)) (h.set j (λ i o e. here i o (before i o e)) t y)) (key_dec j l));
    due = λ j o. at_key m.opened k (Some new_one) j (λ x. x ≡ Some o → j.act ≢ o.base.act → Due (copying.hand m k l) E' P' j o)
        (λ e x n. subst (λ o. Due (copying.hand m k l) E' P' j o) (some_is new_one o x)
        (subst (λ j. Due (copying.hand m k l) E' P' j new_one) (sym e) (handed refl same meets)))
        (λ q x n. due_same m (copying.hand m k l) E E' P P' j o (set_other m.value k _ o.base (λ b. may.shut j o x b))
        (other o.base (λ b. may.shut j o x b) (λ b. may.free j o x b)) (other_due j q) (h.due j o x n));
  }
    where
      new_one : Origin
      new_one = record { base = l; path = []; way = way_of (m.opened l) }

      unlent : NotAway m.opened l
      unlent j o e b n w = may.free j o e b

      before : (i : Key) (o : Origin) → m.opened i ≡ Some o → set_at m.opened k (Some new_one) i ≡ Some o
      before i o e = set_other m.opened k _ i (λ q. absurd (let z : None ≡ Some o = sym may.closed ∙ ap m.opened (sym q) ∙ e in cc)) ∙ e

      lender : (w : Way) → way_of (m.opened l) ≡ w → (t : TyId) → ty l ≡ Some t → NotAway (copying.hand m k l).opened l → Sets types t (E' l) (m.value l)
      lender Reads e t y here = (new t y (h.set l unlent t y)).1 e
      lender Writes e t y here = absurd (here k new_one (set_same m.opened k (Some new_one)) refl apart e)

  -- CLOSING

  still : (m : Copies) (k j : Key) (o : Origin) → set_at m.opened k None j ≡ Some o → (j ≢ k) × (m.opened j ≡ Some o)
  still m k j o = at_key m.opened k None j (λ y. y ≡ Some o → (j ≢ k) × (m.opened j ≡ Some o)) (λ e y. absurd (cc)) (λ n y. (n, y))

  typed_closed : (m : Copies) (k : Key) (o : Origin) → m.opened k ≡ Some o → IsTyped types forms_of n m → IsTyped types forms_of n (close_copy m k (Some o))
  typed_closed m k o e h = subst (λ x. IsTyped types forms_of n (close_copy m k x)) e (typed_close types forms_of n m h k)

  -- what comes back to the place
  abbrev pub BackOk : (E E' : InitMaps) → Copies → Key → Origin → Way → Type 0
  BackOk E E' m k o Reads = E' o.base ≡ E o.base
  BackOk E E' m k o Writes = KeepsSet (E o.base) (E' o.base) o.base (m.value o.base) (put o.path (m.value k) (m.value o.base))

  -- a local that one opened oneself
  pub holds_closed : (E E' P : InitMaps) (m : Copies) (k : Key) (o : Origin) → Holds E P m → Sound m → m.opened k ≡ Some o → MayClose m k → k.act ≡ o.base.act
      → E' k ≡ none_set → ((j : Key) → j ≢ k → j ≢ o.base → E' j ≡ E j) → ((q : Path) → Diverge o.path q → E' o.base q ≡ E o.base q)
      → BackOk E E' m k o o.way → Holds E' P (close_copy m k (Some o))
  holds_closed E E' P m k o h sound opened may own none other beside back = record {
    typed = typed_closed m k o opened h.typed;
    set = λ j here t y. at_key (put_back m.value k o o.way) k Unset j (Sets types t (E' j))
        (λ e. subst (λ c. Sets types t c Unset) (sym (ap E' e ∙ none)) (sets_none types t))
        (λ n. set_of o.way back j n here t y);
    due = λ j i e n. let b = still m k j i e in due_of o.way refl back j i b.0 b.1 (key_dec i.base o.base) (h.due j i b.1 n);
  }
    where
      closed_value : (w : Way) (j : Key) → j ≢ k → set_at (put_back m.value k o w) k Unset j ≡ put_back m.value k o w j
      closed_value w j n = set_other (put_back m.value k o w) k Unset j n

      -- what another activation has of the base lies beside what comes back
      due_of : (w : Way) → o.way ≡ w → BackOk E E' m k o w → (j : Key) (i : Origin) → j ≢ k → m.opened j ≡ Some i → (i.base ≡ o.base) ⊎ (i.base ≢ o.base)
          → Due m E P j i → Due (close_copy m k (Some o)) E' P j i
      due_of w ew back j i n e (inr q) d = due_same m (close_copy m k (Some o)) E E' P P j i
          (closed_value o.way i.base (λ z. may.shut j i e z) ∙ put_other o.way i.base q) (other i.base (λ z. may.shut j i e z) q) refl d
        where
          put_other : (w : Way) (l : Key) → l ≢ o.base → put_back m.value k o w l ≡ m.value l
          put_other Reads l q = refl
          put_other Writes l q = set_other m.value o.base _ l q
      due_of Reads ew back j i n e (inl q) d = due_same m (close_copy m k (Some o)) E E' P P j i
          (closed_value o.way i.base (λ z. may.shut j i e z) ∙ ap (λ w. put_back m.value k o w i.base) ew) (ap E' q ∙ back ∙ ap E (sym q)) refl d
      due_of Writes ew back j i n e (inl q) (handed path type meets) =
          absurd (apart_nil o.path (subst (Apart o.path) path (sound.apart k j o i opened e (λ z. n (sym z)) (sym q) ew)))
      due_of Writes ew back j i n e (inl q) (lent u type small set leads base) = lent u type small set
          (λ t y. leads_same types t (E i.base) (E' i.base) i.path (λ r. ap (λ b. E' b (i.path ++ r)) q
          ∙ beside (i.path ++ r) (apart_diverge o.path (i.path ++ r) (apart_more o.path i.path r
          (sound.apart k j o i opened e (λ z. n (sym z)) (sym q) ew))) ∙ ap (λ b. E b (i.path ++ r)) (sym q)) (leads t y))
          (λ t y. subst (Sets types t (E' i.base)) (sym (closed_value o.way i.base (λ z. may.shut j i e z) ∙ ap (λ w. put_back m.value k o w i.base) ew
          ∙ ap (λ b. put_back m.value k o Writes b) q ∙ set_same m.value o.base _))
          (subst (λ b. Sets types t (E' b) (put o.path (m.value k) (m.value o.base))) (sym q)
          (back t (ap ty (sym q) ∙ y) (subst (λ b. Sets types t (E b) (m.value b)) q (base t y)))))

      unaway : (j : Key) → NotAway (set_at m.opened k None) j → NotAway m.opened j
      unaway j here i x e b n w =
          here i x (set_other m.opened k None i (λ q. n (ap (λ k. k.act) q ∙ own ∙ ap (λ o. o.base.act) (some_is o x (sym opened ∙ ap m.opened (sym q) ∙ e))
          ∙ ap (λ k. k.act) b)) ∙ e) b n w

      set_of : (w : Way) → BackOk E E' m k o w → (j : Key) → j ≢ k → NotAway (set_at m.opened k None) j → (t : TyId) → ty j ≡ Some t
          → Sets types t (E' j) (put_back m.value k o w j)
      set_of Reads back j n here t y =
          subst (λ c. Sets types t c (m.value j)) (sym (⊎_elim (λ e. ap E' e ∙ back ∙ ap E (sym e)) (λ q. other j n q) (key_dec j o.base)))
          (h.set j (unaway j here) t y)
      set_of Writes back j n here t y = at_key m.value o.base (put o.path (m.value k) (m.value o.base)) j (Sets types t (E' j))
          (λ e. subst (λ j. Sets types t (E' j) (put o.path (m.value k) (m.value o.base))) (sym e)
          (back t (ap ty (sym e) ∙ y) (h.set o.base (subst (NotAway m.opened) e (unaway j here)) t (ap ty (sym e) ∙ y))))
          (λ q. subst (λ c. Sets types t c (m.value j)) (sym (other j n q)) (h.set j (unaway j here) t y))

  -- a local that another activation handed over or lent: it is as it was promised
  pub returned : (E E' P : InitMaps) (m : Copies) (k : Key) (o : Origin) → Holds E P m → Sound m → m.opened k ≡ Some o → MayClose m k → k.act ≢ o.base.act
      → E' k ≡ none_set → ((j : Key) → j ≢ k → E' j ≡ E j) → ((t : TyId) (q : Path) → ty k ≡ Some t → IsLeaf types t q → Counts (P k q) (E k q))
      → Holds E' P (close_copy m k (Some o))
  returned E E' P m k o h sound opened may apart none other promised = record {
    typed = typed_closed m k o opened h.typed;
    set = λ j here t y. at_key (put_back m.value k o o.way) k Unset j (Sets types t (E' j))
        (λ e. subst (λ c. Sets types t c Unset) (sym (ap E' e ∙ none)) (sets_none types t))
        (λ n. subst (λ c. Sets types t c (put_back m.value k o o.way j)) (sym (other j n)) (set_of o.way refl j n here t y));
    due = λ j i e n. let b = still m k j i e in due_of o.way refl j i b.0 b.1 (key_dec i.base o.base) (h.due j i b.1 n);
  }
    where
      d : Due m E P k o
      d = h.due k o opened apart

      unaway : (j : Key) → (j ≡ o.base → o.way ≢ Writes) → NotAway (set_at m.opened k None) j → NotAway m.opened j
      unaway j nb here i x e b n w = ⊎_elim
          (λ q. let z = some_is o x (sym opened ∙ ap m.opened (sym q) ∙ e) in nb (sym b ∙ ap (λ o. o.base) (sym z)) (ap (λ o. o.way) z ∙ w))
          (λ q. here i x (set_other m.opened k None i q ∙ e) b n w) (key_dec i k)

      own_set : (t : TyId) → ty k ≡ Some t → Sets types t (E k) (m.value k)
      own_set t y = h.set k (λ i x e b n w. may.shut i x e b) t y

      -- what comes back to the base
      base_set : Due m E P k o → o.way ≡ Writes → (t : TyId) → ty o.base ≡ Some t → Sets types t (E o.base) (put o.path (m.value k) (m.value o.base))
      base_set (handed path type meets) w t y = subst (λ p. Sets types t (E o.base) (put p (m.value k) (m.value o.base))) (sym path)
          (sets_counts types t (E k) (E o.base) (m.value k) (λ q l. subst (λ z. Counts z (E k q)) (sym (meets w t q y l)) (promised t q (type ∙ y) l))
          (own_set t (type ∙ y)))
      base_set (lent u type small set leads base) w t y = keeps_lent types t (E o.base) o.path (m.value o.base) (m.value k) (leads t y) (base t y)
          (sound.there k o opened)
          (subst (λ f. Fits types f (m.value k)) ((h.typed.origin k o opened).2 ∙ ap (λ b. form_on types (form_at types b) o.path) y) (h.typed.value k))
          (all_sets types u (E k) (m.value k) small (subst (λ b. Fits types (form_at types b) (m.value k)) type (h.typed.value k)) (own_set u type)
          (λ q leaf. subst (λ z. Counts z (E k q)) (set q) (promised u q type leaf)))

      set_of : (w : Way) → o.way ≡ w → (j : Key) → j ≢ k → NotAway (set_at m.opened k None) j → (t : TyId) → ty j ≡ Some t
          → Sets types t (E j) (put_back m.value k o w j)
      set_of Reads w j n here t y = h.set j (unaway j (λ b z. absurd (let x : Reads ≡ Writes = sym w ∙ z in cc)) here) t y
      set_of Writes w j n here t y = at_key m.value o.base (put o.path (m.value k) (m.value o.base)) j (Sets types t (E j))
          (λ e. subst (λ b. Sets types t (E b) (put o.path (m.value k) (m.value o.base))) (sym e) (base_set d w t (ap ty (sym e) ∙ y)))
          (λ q. h.set j (unaway j (λ b. absurd (q b)) here) t y)

      closed_value : (w : Way) (j : Key) → j ≢ k → set_at (put_back m.value k o w) k Unset j ≡ put_back m.value k o w j
      closed_value w j n = set_other (put_back m.value k o w) k Unset j n

      due_of : (w : Way) → o.way ≡ w → (j : Key) (i : Origin) → j ≢ k → m.opened j ≡ Some i → (i.base ≡ o.base) ⊎ (i.base ≢ o.base)
          → Due m E P j i → Due (close_copy m k (Some o)) E' P j i
      due_of w ew j i n e (inr q) due = due_same m (close_copy m k (Some o)) E E' P P j i
          (closed_value o.way i.base (λ z. may.shut j i e z) ∙ put_other o.way i.base q) (other i.base (λ z. may.shut j i e z)) refl due
        where
          put_other : (w : Way) (l : Key) → l ≢ o.base → put_back m.value k o w l ≡ m.value l
          put_other Reads l q = refl
          put_other Writes l q = set_other m.value o.base _ l q
      due_of Reads ew j i n e (inl q) due = due_same m (close_copy m k (Some o)) E E' P P j i
          (closed_value o.way i.base (λ z. may.shut j i e z) ∙ ap (λ w. put_back m.value k o w i.base) ew) (other i.base (λ z. may.shut j i e z)) refl due
      due_of Writes ew j i n e (inl q) (handed path type meets) =
          absurd (apart_nil o.path (subst (Apart o.path) path (sound.apart k j o i opened e (λ z. n (sym z)) (sym q) ew)))
      due_of Writes ew j i n e (inl q) (lent u type small set leads base) = lent u type small set
          (λ t y. subst (λ c. LeadsTo types t c i.path) (sym (other i.base (λ z. may.shut j i e z))) (leads t y))
          (λ t y. subst (λ c. Sets types t c ((close_copy m k (Some o)).value i.base)) (sym (other i.base (λ z. may.shut j i e z)))
          (subst (Sets types t (E i.base)) (sym (closed_value o.way i.base (λ z. may.shut j i e z) ∙ ap (λ w. put_back m.value k o w i.base) ew
          ∙ ap (λ b. put_back m.value k o Writes b) q ∙ set_same m.value o.base _))
          (subst (λ b. Sets types t (E b) (put o.path (m.value k) (m.value o.base))) (sym q) (base_set d ew t (ap ty (sym q) ∙ y)))))

  -- LENDING a whole part to the parameter of a deinitialiser

  pub holds_lent : (E E' P P' : InitMaps) (m : Copies) (k : Key) (s : Spot) (u : TyId) → Holds E P m → MayLend m k s Writes → k.act ≢ s.key.act → k.act < n
      → s.key.act < n → forms_of k ≡ form_on types (forms_of s.key) s.path → ty k ≡ Some u → IsSmall types u → is_whole (get s.path (m.value s.key)) ≡ true
      → ((j : Key) → j ≢ k → j ≢ s.key → E' j ≡ E j) → E' s.key ≡ with_map s.path all_set (E s.key) → E' k ≡ all_set
      → ((j : Key) → j ≢ k → P' j ≡ P j) → P' k ≡ all_set → Holds E' P' (lend_copy m k s Writes)
  holds_lent E E' P P' m k s u h may apart lt ls f type small whole other lender new other_due new_due = record {
    typed = typed_lend types forms_of n m h.typed k s Writes lt ls f;
    set = λ j here t y. at_key m.value k (get s.path (m.value s.key)) j (Sets types t (E' j))
        (λ e. subst (λ c. Sets types t c (get s.path (m.value s.key))) (sym (ap E' e ∙ new))
        (sets_whole types t (get s.path (m.value s.key)) (subst (λ g. Fits types g (get s.path (m.value s.key)))
        (sym f ∙ ap (form_at types) (ap ty (sym e) ∙ y)) (typed_read types forms_of n m h.typed s)) whole))
        (λ n. ⊎_elim
        (λ e. subst (λ j. Sets types t (E' j) (m.value j)) (sym e) (subst (λ c. Sets types t c (m.value s.key)) (sym lender) (is_so t (ap ty (sym e) ∙ y))))
        (λ n'. subst (λ c. Sets types t c (m.value j)) (sym (other j n n')) (h.set j (λ i o e. here i o (before i o e)) t y)) (key_dec j s.key));
    due = λ j o. at_key m.opened k (Some new_one) j (λ x. x ≡ Some o → j.act ≢ o.base.act → Due (lend_copy m k s Writes) E' P' j o)
        (λ e x n. subst (λ o. Due (lend_copy m k s Writes) E' P' j o) (some_is new_one o x)
        (subst (λ j. Due (lend_copy m k s Writes) E' P' j new_one) (sym e) (lent u type small (λ q. ap (λ c. c q) new_due)
        (λ t y. subst (λ c. LeadsTo types t c s.path) (sym lender) (leads_to types t (E s.key) s.path (m.value s.key) (fits t y) may.there))
        (λ t y. subst (λ c. Sets types t c ((lend_copy m k s Writes).value s.key)) (sym lender)
        (subst (Sets types t (with_map s.path all_set (E s.key))) (sym (set_other m.value k _ s.key (λ z. may.other (sym z)))) (is_so t y))))))
        (λ q x n. due_same m (lend_copy m k s Writes) E E' P P' j o (set_other m.value k _ o.base (λ b. may.shut j o x b))
        (other o.base (λ b. may.shut j o x b) (λ b. n (may.free.kept j o x b ∙ ap (λ k. k.act) (sym b)))) (other_due j q) (h.due j o x n));
  }
    where
      new_one : Origin
      new_one = record { base = s.key; path = s.path; way = Writes }

      fits : (t : TyId) → ty s.key ≡ Some t → Fits types (form types t) (m.value s.key)
      fits t y = subst (λ b. Fits types (form_at types b) (m.value s.key)) y (h.typed.value s.key)

      is_so : (t : TyId) → ty s.key ≡ Some t → Sets types t (with_map s.path all_set (E s.key)) (m.value s.key)
      is_so t y =
          sets_lent types t (E s.key) s.path (m.value s.key) (fits t y) (h.set s.key (kept_here m s.key may.free.kept) t y) may.there whole

      before : (i : Key) (o : Origin) → m.opened i ≡ Some o → set_at m.opened k (Some new_one) i ≡ Some o
      before i o e = set_other m.opened k _ i (λ q. absurd (let z : None ≡ Some o = sym may.closed ∙ ap m.opened (sym q) ∙ e in cc)) ∙ e

-- ONE MORE ACTIVATION

pub side : (a b : ℕ) → (a < b) ⊎ (b ≤ a)
side a b = grind arith

module _ (types : Table) (ty ty' : Key → Option TyId) (n : ℕ) (E E' P P' : InitMaps) (m : Copies) (h : Holds types ty n E P m)
    (old : (k : Key) → k.act < n → (ty' k ≡ ty k) × (E' k ≡ E k) × (P' k ≡ P k)) (new : (k : Key) → n ≤ k.act → E' k ≡ none_set) where
  new_value : (k : Key) → (k.act < n) ⊎ (n ≤ k.act) → Fits types (form_at types (ty' k)) (m.value k)
  new_value k (inl lt) = subst (λ o. Fits types (form_at types o) (m.value k)) (sym (old k lt).0) (h.typed.value k)
  new_value k (inr le) = subst (Fits types (form_at types (ty' k))) (sym (h.typed.fresh k le)) tt

  new_set : (k : Key) → (k.act < n) ⊎ (n ≤ k.act) → NotAway m.opened k → (t : TyId) → ty' k ≡ Some t → Sets types t (E' k) (m.value k)
  new_set k (inl lt) here t y = subst (λ c. Sets types t c (m.value k)) (sym (old k lt).1) (h.set k here t (sym (old k lt).0 ∙ y))
  new_set k (inr le) here t y =
      subst (λ c. Sets types t c (m.value k)) (sym (new k le)) (subst (Sets types t none_set) (sym (h.typed.fresh k le)) (sets_none types t))

  pub holds_new : Holds types ty' (suc n) E' P' m
  holds_new = record {
    typed = record {
      value = λ k. new_value k (side k.act n);
      origin = λ k o e. let a = h.typed.origin k o e in let lk = a.0 in let lb = a.1 in
          (omega arith, omega arith, ap (form_at types) (old k lk).0 ∙ a.2 ∙ ap (λ t. form_on types (form_at types t) o.path) (sym (old o.base lb).0));
      fresh = λ k le. h.typed.fresh k (omega arith);
    };
    set = λ k here t y. new_set k (side k.act n) here t y;
    due = λ j o e a. new_due j o (h.typed.origin j o e) (h.due j o e a);
  }
    where
      new_due : (j : Key) (o : Origin) → (j.act < n) × (o.base.act < n) × (form_at types (ty j) ≡ form_on types (form_at types (ty o.base)) o.path)
          → Due types ty n m E P j o → Due types ty' (suc n) m E' P' j o
      new_due j o i (handed path type meets) = handed path ((old j i.0).0 ∙ type ∙ sym (old o.base i.1).0)
          (λ w t q y leaf. ap (λ c. c q) (old o.base i.1).1 ∙ meets w t q (sym (old o.base i.1).0 ∙ y) leaf ∙ ap (λ c. c q) (sym (old j i.0).2))
      new_due j o i (lent u type small set leads base) = lent u ((old j i.0).0 ∙ type) small (λ q. ap (λ c. c q) (old j i.0).2 ∙ set q)
          (λ t y. subst (λ c. LeadsTo types t c o.path) (sym (old o.base i.1).1) (leads t (sym (old o.base i.1).0 ∙ y)))
          (λ t y. subst (λ c. Sets types t c (m.value o.base)) (sym (old o.base i.1).1) (base t (sym (old o.base i.1).0 ∙ y)))
