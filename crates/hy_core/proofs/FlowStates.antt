-- States of parts in flow states: how they follow one another, and what they tell of the states that parts have in a run.
use Rattle.std.proofs.Common.{◌≡◌, ◌≢◌, ◌⊎◌, inl, inr, ⊎_elim, ℕ, ◌==◌, Bool, true, false, cond, [], Some, refl, sym, ap, ◌∙◌}
use Rattle.std.proofs.Common.{subst}
use Rattle.std.proofs.lemmas.Bool.Decides.{eqb_tells}
use Rattle.hy_types.specs.declared.kinds.TyId.{TyId}
use Rattle.hy_core.specs.Values.{Path}
use Rattle.hy_core.specs.Control.{local_type}
use Rattle.hy_core.specs.Typing.{IsLeaf}
use Rattle.hy_core.specs.Flow.{InitState, IsSet, IsUnset, IsKnown, IsEmpty, IsEmptyWithout, IsNotTied, retied, IsDoubtful}
use Rattle.hy_core.specs.Flow.{IsSetWith, IsSetSo, Counts, InitMap, FlowState, Context, Becomes, Knows}
use Rattle.hy_core.specs.Flow.{resolved, Signature}
use Rattle.hy_core.specs.Plain.{Reads}

-- ORDER

module _ (x : Context) where
  pub becomes_self : (g : FlowState) (s : InitState) → Becomes x g s s
  becomes_self g IsSet = tt
  becomes_self g IsUnset = refl
  becomes_self g (IsKnown b) = refl
  becomes_self g IsEmpty = refl
  becomes_self g (IsEmptyWithout l) = inl refl
  becomes_self g IsDoubtful = inl refl
  becomes_self g (IsSetWith f) = inl refl

  -- the first flow state tells of each part what the second does
  abbrev pub Leads : FlowState → FlowState → Type 0
  Leads g h = (l : ℕ) (t : TyId) (q : Path) → local_type x.fun l ≡ Some t → IsLeaf x.core.types t q → Becomes x g (g.init l q) (h.init l q)

  set_on : (g : FlowState) (s m : InitState) → Becomes x g s m → IsSetSo m → IsSetSo s
  set_on g s IsSet a h = a
  set_on g s IsUnset a h = absurd h
  set_on g s (IsKnown b) a h = subst IsSetSo (sym a) tt
  set_on g s IsEmpty a h = subst IsSetSo (sym a) tt
  set_on g s (IsEmptyWithout l) (inl a) h = subst IsSetSo (sym a) tt
  set_on g s (IsEmptyWithout l) (inr (inl a)) h = a.1
  set_on g s (IsEmptyWithout l) (inr (inr a)) h = subst IsSetSo (sym a.1) tt
  set_on g s IsDoubtful a h = absurd h
  set_on g s (IsSetWith f) a h = absurd h

  knows_on : (g h : FlowState) (f : ℕ) (b : Bool) → Leads g h → Knows x h f b → Knows x g f b
  knows_on g h f b leads k = (k.0, k.1, k.2, (let a = leads f k.0 [] k.1 (k.0, refl, k.2) in subst (Becomes x g (g.init f [])) k.3 a))

  pub becomes_on : (g h : FlowState) → Leads g h → (s m t : InitState) → Becomes x g s m → Becomes x h m t → Becomes x g s t
  becomes_on g h leads s m IsSet a b = set_on g s m a b
  becomes_on g h leads s m IsUnset a b = subst (Becomes x g s) b a
  becomes_on g h leads s m (IsKnown c) a b = subst (Becomes x g s) b a
  becomes_on g h leads s m IsEmpty a b = subst (Becomes x g s) b a
  becomes_on g h leads s m (IsEmptyWithout l) a (inl b) = subst (Becomes x g s) b a
  becomes_on g h leads s m (IsEmptyWithout l) a (inr (inl b)) = inr (inl (knows_on g h l true leads b.0, set_on g s m a b.1))
  becomes_on g h leads s m (IsEmptyWithout l) a (inr (inr b)) =
      let z : s ≡ IsEmpty = subst (Becomes x g s) b.1 a in inr (inr (knows_on g h l false leads b.0, z))
  becomes_on g h leads s m IsDoubtful a (inl b) = subst (Becomes x g s) b a
  becomes_on g h leads s m IsDoubtful a (inr b) = inr b
  becomes_on g h leads s m (IsSetWith f) a (inl b) = subst (Becomes x g s) b a
  becomes_on g h leads s m (IsSetWith f) a (inr (flag, inl b)) = inr (flag, inl (knows_on g h f true leads b.0, set_on g s m a b.1))
  becomes_on g h leads s m (IsSetWith f) a (inr (flag, inr b)) =
      let z : s ≡ IsUnset = subst (Becomes x g s) b.1 a in inr (flag, inr (knows_on g h f false leads b.0, z))

-- WHAT A STATE TELLS of the one that the part has in a run, which is set, unset, a truth value or empty; F has those of whole locals

abbrev pub Tells : (F : ℕ → InitState) → InitState → InitState → Type 0
Tells F IsSet e = IsSetSo e
Tells F IsUnset e = e ≡ IsUnset
Tells F (IsKnown b) e = e ≡ IsKnown b
Tells F IsEmpty e = e ≡ IsEmpty
Tells F (IsEmptyWithout l) e = ((F l ≡ IsKnown true) × IsSetSo e) ⊎ ((F l ≡ IsKnown false) × (e ≡ IsEmpty))
Tells F IsDoubtful e = IsSetSo e ⊎ (e ≡ IsUnset)
Tells F (IsSetWith f) e = ((F f ≡ IsKnown true) × IsSetSo e) ⊎ ((F f ≡ IsKnown false) × (e ≡ IsUnset))

pub tells_set : (F : ℕ → InitState) (s e : InitState) → IsSetSo s → Tells F s e → IsSetSo e
tells_set F IsSet e h t = t
tells_set F IsUnset e h t = absurd h
tells_set F (IsKnown b) e h t = subst IsSetSo (sym t) tt
tells_set F IsEmpty e h t = subst IsSetSo (sym t) tt
tells_set F (IsEmptyWithout l) e h (inl t) = t.1
tells_set F (IsEmptyWithout l) e h (inr t) = subst IsSetSo (sym t.1) tt
tells_set F IsDoubtful e h t = absurd h
tells_set F (IsSetWith f) e h t = absurd h

pub tells_unset : (F : ℕ → InitState) (s e : InitState) → s ≡ IsUnset → Tells F s e → e ≡ IsUnset
tells_unset F s e h t = subst (λ s. Tells F s e → e ≡ IsUnset) (sym h) (λ t. t) t

pub tells_counts : (F : ℕ → InitState) (w s e : InitState) → Counts w s → Tells F s e → Counts w e
tells_counts F IsSet s e h t = tells_set F s e h t
tells_counts F IsUnset s e h t = tells_unset F s e h t
tells_counts F (IsKnown b) s e h t = subst (λ s. Tells F s e → e ≡ IsKnown b) (sym h) (λ t. t) t
tells_counts F IsEmpty s e h t = subst (λ s. Tells F s e → e ≡ IsEmpty) (sym h) (λ t. t) t
tells_counts F (IsEmptyWithout l) s e h t = absurd h
tells_counts F IsDoubtful s e h t = absurd h
tells_counts F (IsSetWith f) s e h t = absurd h

-- of other states of whole locals, but for one to which the state is not tied
pub tells_other : (F F' : ℕ → InitState) (l : ℕ) (s e : InitState) → ((k : ℕ) → k ≢ l → F' k ≡ F k) → IsNotTied l s → Tells F s e → Tells F' s e
tells_other F F' l IsSet e same free t = t
tells_other F F' l IsUnset e same free t = t
tells_other F F' l (IsKnown b) e same free t = t
tells_other F F' l IsEmpty e same free t = t
tells_other F F' l (IsEmptyWithout k) e same free t =
    let z : F' k ≡ F k = same k free in ⊎_elim (λ a. inl (z ∙ a.0, a.1)) (λ a. inr (z ∙ a.0, a.1)) t
tells_other F F' l IsDoubtful e same free t = t
tells_other F F' l (IsSetWith f) e same free t =
    let z : F' f ≡ F f = same f free in ⊎_elim (λ a. inl (z ∙ a.0, a.1)) (λ a. inr (z ∙ a.0, a.1)) t

pub tells_same : (F F' : ℕ → InitState) (s e : InitState) → ((k : ℕ) → F' k ≡ F k) → Tells F s e → Tells F' s e
tells_same F F' IsSet e same t = t
tells_same F F' IsUnset e same t = t
tells_same F F' (IsKnown b) e same t = t
tells_same F F' IsEmpty e same t = t
tells_same F F' (IsEmptyWithout l) e same t = ⊎_elim (λ a. inl (same l ∙ a.0, a.1)) (λ a. inr (same l ∙ a.0, a.1)) t
tells_same F F' IsDoubtful e same t = t
tells_same F F' (IsSetWith f) e same t = ⊎_elim (λ a. inl (same f ∙ a.0, a.1)) (λ a. inr (same f ∙ a.0, a.1)) t

-- what rests on one local rests on another of which the same is known
pub tells_retied : (F F' : ℕ → InitState) (n c : ℕ) (s e : InitState) → ((k : ℕ) → k ≢ c → F' k ≡ F k) → IsNotTied c s
    → ((b : Bool) → F n ≡ IsKnown b → F' c ≡ IsKnown b) → Tells F s e → Tells F' (retied n c s) e
tells_retied F F' n c IsSet e same free is t = t
tells_retied F F' n c IsUnset e same free is t = t
tells_retied F F' n c (IsKnown b) e same free is t = t
tells_retied F F' n c IsEmpty e same free is t = t
tells_retied F F' n c (IsEmptyWithout k) e same free is t = by (k == n) (eqb_tells k n)
  where
    by : (b : Bool) → ((b ≡ true) × (k ≡ n)) ⊎ ((b ≡ false) × (k ≢ n)) → Tells F' (IsEmptyWithout (cond b c k)) e
    by true (inl q) = ⊎_elim (λ a. inl (is true (ap F (sym q.1) ∙ a.0), a.1)) (λ a. inr (is false (ap F (sym q.1) ∙ a.0), a.1)) t
    by true (inr q) = absurd (let z = q.0 in cc)
    by false q = tells_other F F' c (IsEmptyWithout k) e same free t
tells_retied F F' n c IsDoubtful e same free is t = t
tells_retied F F' n c (IsSetWith f) e same free is t = tells_other F F' c (IsSetWith f) e same free t

-- what a part is in a run is doubtful at most
pub tells_doubtful : (F : ℕ → InitState) (s e : InitState) → Tells F s e → Tells F IsDoubtful e
tells_doubtful F IsSet e t = inl t
tells_doubtful F IsUnset e t = inr t
tells_doubtful F (IsKnown b) e t = inl (subst IsSetSo (sym t) tt)
tells_doubtful F IsEmpty e t = inl (subst IsSetSo (sym t) tt)
tells_doubtful F (IsEmptyWithout l) e (inl t) = inl t.1
tells_doubtful F (IsEmptyWithout l) e (inr t) = inl (subst IsSetSo (sym t.1) tt)
tells_doubtful F IsDoubtful e t = t
tells_doubtful F (IsSetWith f) e (inl t) = inl t.1
tells_doubtful F (IsSetWith f) e (inr t) = inr t.1

-- what follows tells what is so
pub tells_becomes : (x : Context) (g : FlowState) (F : ℕ → InitState) → ((f : ℕ) (b : Bool) → Knows x g f b → F f ≡ IsKnown b) → (s s' e : InitState)
    → Becomes x g s s' → Tells F s e → Tells F s' e
tells_becomes x g F flags s IsSet e b t = tells_set F s e b t
tells_becomes x g F flags s IsUnset e b t = tells_unset F s e b t
tells_becomes x g F flags s (IsKnown c) e b t = subst (λ s. Tells F s e → e ≡ IsKnown c) (sym b) (λ t. t) t
tells_becomes x g F flags s IsEmpty e b t = subst (λ s. Tells F s e → e ≡ IsEmpty) (sym b) (λ t. t) t
tells_becomes x g F flags s (IsEmptyWithout l) e (inl b) t = subst (λ s. Tells F s e) b t
tells_becomes x g F flags s (IsEmptyWithout l) e (inr (inl b)) t = inl (flags l true b.0, tells_set F s e b.1 t)
tells_becomes x g F flags s (IsEmptyWithout l) e (inr (inr b)) t = inr (flags l false b.0, subst (λ s. Tells F s e → e ≡ IsEmpty) (sym b.1) (λ t. t) t)
tells_becomes x g F flags s IsDoubtful e b t = tells_doubtful F s e t
tells_becomes x g F flags s (IsSetWith f) e (inl b) t = subst (λ s. Tells F s e) b t
tells_becomes x g F flags s (IsSetWith f) e (inr (flag, inl b)) t = inl (flags f true b.0, tells_set F s e b.1 t)
tells_becomes x g F flags s (IsSetWith f) e (inr (flag, inr b)) t = inr (flags f false b.0, tells_unset F s e b.1 t)

-- where the local is known; what rests on it is set where it is true, and else is the other state
pub tells_resolved : (F : ℕ → InitState) (f : ℕ) (b : Bool) (s e : InitState)
    → ((c : Bool) → F f ≡ IsKnown c → c ≡ b) → Tells F s e → Tells F (resolved f b s) e
tells_resolved F f b IsSet e is t = t
tells_resolved F f b IsUnset e is t = t
tells_resolved F f b (IsKnown c) e is t = t
tells_resolved F f b IsEmpty e is t = t
tells_resolved F f b IsDoubtful e is t = t
tells_resolved F f b (IsEmptyWithout k) e is t = by (k == f) (eqb_tells k f)
  where
    found : k ≡ f → (b : Bool) → ((c : Bool) → F f ≡ IsKnown c → c ≡ b) → ((F k ≡ IsKnown true) × IsSetSo e) ⊎ ((F k ≡ IsKnown false) × (e ≡ IsEmpty))
        → Tells F (cond b IsSet IsEmpty) e
    found q true is (inl t) = t.1
    found q true is (inr t) = absurd (let z : false ≡ true = is false (ap F (sym q) ∙ t.0) in cc)
    found q false is (inl t) = absurd (let z : true ≡ false = is true (ap F (sym q) ∙ t.0) in cc)
    found q false is (inr t) = t.1

    by : (c : Bool) → ((c ≡ true) × (k ≡ f)) ⊎ ((c ≡ false) × (k ≢ f)) → Tells F (cond c (cond b IsSet IsEmpty) (IsEmptyWithout k)) e
    by true (inl q) = found q.1 b is t
    by true (inr q) = absurd (let z = q.0 in cc)
    by false q = t
tells_resolved F f b (IsSetWith k) e is t = by (k == f) (eqb_tells k f)
  where
    found : k ≡ f → (b : Bool) → ((c : Bool) → F f ≡ IsKnown c → c ≡ b) → ((F k ≡ IsKnown true) × IsSetSo e) ⊎ ((F k ≡ IsKnown false) × (e ≡ IsUnset))
        → Tells F (cond b IsSet IsUnset) e
    found q true is (inl t) = t.1
    found q true is (inr t) = absurd (let z : false ≡ true = is false (ap F (sym q) ∙ t.0) in cc)
    found q false is (inl t) = absurd (let z : true ≡ false = is true (ap F (sym q) ∙ t.0) in cc)
    found q false is (inr t) = t.1

    by : (c : Bool) → ((c ≡ true) × (k ≡ f)) ⊎ ((c ≡ false) × (k ≢ f)) → Tells F (cond c (cond b IsSet IsUnset) (IsSetWith k)) e
    by true (inl q) = found q.1 b is t
    by true (inr q) = absurd (let z = q.0 in cc)
    by false q = t

pub resolved_untied : (f : ℕ) (b : Bool) (s : InitState) → IsNotTied f (resolved f b s)
resolved_untied f b IsSet = tt
resolved_untied f b IsUnset = tt
resolved_untied f b (IsKnown c) = tt
resolved_untied f b IsEmpty = tt
resolved_untied f b IsDoubtful = tt
resolved_untied f b (IsEmptyWithout k) = by (k == f) (eqb_tells k f) b
  where
    by : (c : Bool) → ((c ≡ true) × (k ≡ f)) ⊎ ((c ≡ false) × (k ≢ f)) → (b : Bool) → IsNotTied f (cond c (cond b IsSet IsEmpty) (IsEmptyWithout k))
    by true q true = tt
    by true q false = tt
    by false (inl q) b = absurd (let z = q.0 in cc)
    by false (inr q) b = q.1
resolved_untied f b (IsSetWith k) = by (k == f) (eqb_tells k f) b
  where
    by : (c : Bool) → ((c ≡ true) × (k ≡ f)) ⊎ ((c ≡ false) × (k ≢ f)) → (b : Bool) → IsNotTied f (cond c (cond b IsSet IsUnset) (IsSetWith k))
    by true q true = tt
    by true q false = tt
    by false (inl q) b = absurd (let z = q.0 in cc)
    by false (inr q) b = q.1

-- what signatures leave is set, and what they want is set or unset; what is lent for reading is after as it was before
pub record SignsSet (signatures : ℕ → Signature) : Type 0 where
  pub same : (n l : ℕ) → ((signatures n).lent l).way ≡ Reads → (q : Path) → ((signatures n).lent l).after q ≡ ((signatures n).lent l).before q
  pub set : (n l : ℕ) (q : Path) → ((signatures n).lent l).after q ≡ IsSet
  pub plain : (n l : ℕ) (F : ℕ → InitState) (q : Path) → Tells F (((signatures n).lent l).before q) (((signatures n).lent l).before q)

-- what leads to a flow state tells what is so
pub tells_less : (x : Context) (g d : FlowState) (E : ℕ → InitMap)
    → ((l : ℕ) (t : TyId) (q : Path) → local_type x.fun l ≡ Some t → IsLeaf x.core.types t q → Tells (λ f. E f []) (g.init l q) (E l q)) → Leads x g d
    → (l : ℕ) (t : TyId) (q : Path) → local_type x.fun l ≡ Some t → IsLeaf x.core.types t q → Tells (λ f. E f []) (d.init l q) (E l q)
tells_less x g d E tells leads l t q e leaf = tells_becomes x g (λ f. E f [])
    (λ f b k. let a = tells f k.0 [] k.1 (k.0, refl, k.2) in subst (λ s. Tells (λ f. E f []) s (E f [])) k.3 a)
    (g.init l q) (d.init l q) (E l q) (leads l t q e leaf) (tells l t q e leaf)
