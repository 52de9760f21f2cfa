-- What the tests of the computed flow say.
use Rattle.std.proofs.Common.{◌≡◌, ◌≢◌, ◌⊎◌, inl, inr, ⊎_elim, ℕ, zero, suc, ◌+◌, ◌==◌, Bool, true, false, not, ◌&&◌, ◌||◌, List, [], ◌∷◌, Option, Some}
use Rattle.std.proofs.Common.{None, slice_get, refl, sym, ap, ◌∙◌, subst, arith}
use Rattle.std.proofs.lemmas.Bool.Decides.{eqb_tells}
use Rattle.hy_types.specs.declared.kinds.TyId.{TyId}
use Rattle.hy_types.specs.Types.{Table}
use Rattle.hy_core.specs.Plain.{Way, Reads, Writes}
use Rattle.hy_core.specs.Values.{Selector, PartAt, ElementAt, selector_eq, Path, Apart}
use Rattle.hy_core.specs.Control.{Form, form, parts_of}
use Rattle.hy_core.specs.Typing.{Among, all, type_at, IsLeaf, IsArrayAt}
use Rattle.hy_core.specs.Flow.{InitState, IsSet, IsUnset, IsKnown, IsEmpty, IsEmptyWithout, IsDoubtful, IsSetWith, IsSetSo, IsNotTied, Counts}
use Rattle.hy_core.specs.Flow.{InitMap, Holder, InLocal, InSubscript, OpenPlace, Loan, Status, Own, Param, Opened, Bound, IsOpen}
use Rattle.hy_core.specs.Flow.{IsInLocal, Each}
use Rattle.hy_core.specs.FlowOf.{every, member, way_eq, bool_eq, path_eq, are_apart, is_set_so, is_unset, is_known, is_doubtful, is_set_with}
use Rattle.hy_core.specs.FlowOf.{is_empty, is_empty_without, is_not_tied, counts, holder_eq, open_place_eq, loan_eq, status_eq, is_open}
use Rattle.hy_core.specs.FlowOf.{in_local, if_some, every_part, own_or_parts, every_leaf, depth_of, each_is, is_array, each_array}
use Rattle.hy_core.proofs.Values.{selector_tells}

-- TRUTH VALUES

pub and_l : (a b : Bool) → (a && b) ≡ true → a ≡ true
and_l true b e = refl
and_l false b e = e

pub and_r : (a b : Bool) → (a && b) ≡ true → b ≡ true
and_r true b e = e
and_r false b e = absurd (cc)

pub or_is : (a b : Bool) → (a || b) ≡ true → (a ≡ true) ⊎ (b ≡ true)
or_is true b e = inl refl
or_is false b e = inr e

pub not_is : (a : Bool) → not a ≡ true → a ≡ false
not_is true e = absurd (cc)
not_is false e = refl

differ : {A : Type 0} (b : Bool) → b ≡ false → b ≡ true → A
differ true e f = absurd (cc)
differ false e f = absurd (cc)

pub nat_is : (i j : ℕ) → (i == j) ≡ true → i ≡ j
nat_is i j e = ⊎_elim (λ a. a.1) (λ a. differ (i == j) a.0 e) (eqb_tells i j)

pub nat_not : (i j : ℕ) → (i == j) ≡ false → i ≢ j
nat_not i j e = ⊎_elim (λ a. differ (i == j) e a.0) (λ a. a.1) (eqb_tells i j)

selector_is : (s t : Selector) → selector_eq s t ≡ true → s ≡ t
selector_is s t e = ⊎_elim (λ a. a.1) (λ a. differ (selector_eq s t) a.0 e) (selector_tells s t)

-- EQUAL PARTS OF FLOW STATES

pub way_is : (w v : Way) → way_eq w v ≡ true → w ≡ v
way_is Reads Reads e = refl
way_is Reads Writes e = absurd (cc)
way_is Writes Reads e = absurd (cc)
way_is Writes Writes e = refl

pub bool_is : (a b : Bool) → bool_eq a b ≡ true → a ≡ b
bool_is true b e = sym e
bool_is false b e = sym (not_is b e)

pub path_is : (p q : Path) → path_eq p q ≡ true → p ≡ q
path_is [] [] e = refl
path_is [] (t ∷ q) e = absurd (cc)
path_is (s ∷ p) [] e = absurd (cc)
path_is (s ∷ p) (t ∷ q) e = λ i. selector_is s t (and_l (selector_eq s t) (path_eq p q) e) i ∷ path_is p q (and_r (selector_eq s t) (path_eq p q) e) i

pub set_so_is : (s : InitState) → is_set_so s ≡ true → IsSetSo s
set_so_is IsSet e = tt
set_so_is IsUnset e = absurd (cc)
set_so_is (IsKnown b) e = tt
set_so_is IsEmpty e = tt
set_so_is (IsEmptyWithout l) e = tt
set_so_is IsDoubtful e = absurd (cc)
set_so_is (IsSetWith f) e = absurd (cc)

pub unset_is : (s : InitState) → is_unset s ≡ true → s ≡ IsUnset
unset_is IsSet e = absurd (cc)
unset_is IsUnset e = refl
unset_is (IsKnown b) e = absurd (cc)
unset_is IsEmpty e = absurd (cc)
unset_is (IsEmptyWithout l) e = absurd (cc)
unset_is IsDoubtful e = absurd (cc)
unset_is (IsSetWith f) e = absurd (cc)

pub known_is : (b : Bool) (s : InitState) → is_known b s ≡ true → s ≡ IsKnown b
known_is b IsSet e = absurd (cc)
known_is b IsUnset e = absurd (cc)
known_is b (IsKnown c) e = ap IsKnown (bool_is c b e)
known_is b IsEmpty e = absurd (cc)
known_is b (IsEmptyWithout l) e = absurd (cc)
known_is b IsDoubtful e = absurd (cc)
known_is b (IsSetWith f) e = absurd (cc)

pub doubtful_is : (s : InitState) → is_doubtful s ≡ true → s ≡ IsDoubtful
doubtful_is IsSet e = absurd (cc)
doubtful_is IsUnset e = absurd (cc)
doubtful_is (IsKnown b) e = absurd (cc)
doubtful_is IsEmpty e = absurd (cc)
doubtful_is (IsEmptyWithout l) e = absurd (cc)
doubtful_is IsDoubtful e = refl
doubtful_is (IsSetWith f) e = absurd (cc)

pub set_with_is : (f : ℕ) (s : InitState) → is_set_with f s ≡ true → s ≡ IsSetWith f
set_with_is f IsSet e = absurd (cc)
set_with_is f IsUnset e = absurd (cc)
set_with_is f (IsKnown b) e = absurd (cc)
set_with_is f IsEmpty e = absurd (cc)
set_with_is f (IsEmptyWithout l) e = absurd (cc)
set_with_is f IsDoubtful e = absurd (cc)
set_with_is f (IsSetWith k) e = ap IsSetWith (nat_is k f e)

pub empty_is : (s : InitState) → is_empty s ≡ true → s ≡ IsEmpty
empty_is IsSet e = absurd (cc)
empty_is IsUnset e = absurd (cc)
empty_is (IsKnown b) e = absurd (cc)
empty_is IsEmpty e = refl
empty_is (IsEmptyWithout l) e = absurd (cc)
empty_is IsDoubtful e = absurd (cc)
empty_is (IsSetWith f) e = absurd (cc)

pub empty_without_is : (l : ℕ) (s : InitState) → is_empty_without l s ≡ true → s ≡ IsEmptyWithout l
empty_without_is l IsSet e = absurd (cc)
empty_without_is l IsUnset e = absurd (cc)
empty_without_is l (IsKnown b) e = absurd (cc)
empty_without_is l IsEmpty e = absurd (cc)
empty_without_is l (IsEmptyWithout k) e = ap IsEmptyWithout (nat_is k l e)
empty_without_is l IsDoubtful e = absurd (cc)
empty_without_is l (IsSetWith f) e = absurd (cc)

pub not_tied_is : (l : ℕ) (s : InitState) → is_not_tied l s ≡ true → IsNotTied l s
not_tied_is l IsSet e = tt
not_tied_is l IsUnset e = tt
not_tied_is l (IsKnown b) e = tt
not_tied_is l IsEmpty e = tt
not_tied_is l (IsEmptyWithout k) e = nat_not k l (not_is (k == l) (and_l (not (k == l)) true e))
not_tied_is l IsDoubtful e = tt
not_tied_is l (IsSetWith k) e = nat_not k l (not_is (k == l) e)

pub counts_is : (w s : InitState) → counts w s ≡ true → Counts w s
counts_is IsSet s e = set_so_is s e
counts_is IsUnset s e = unset_is s e
counts_is (IsKnown b) s e = known_is b s e
counts_is IsEmpty s e = empty_is s e
counts_is (IsEmptyWithout l) s e = absurd (cc)
counts_is IsDoubtful s e = absurd (cc)
counts_is (IsSetWith f) s e = absurd (cc)

pub holder_is : (h k : Holder) → holder_eq h k ≡ true → h ≡ k
holder_is (InLocal l) (InLocal k) e = ap InLocal (nat_is l k e)
holder_is (InLocal l) (InSubscript k) e = absurd (cc)
holder_is (InSubscript l) (InLocal k) e = absurd (cc)
holder_is (InSubscript l) (InSubscript k) e = ap InSubscript (nat_is l k e)

pub open_place_is : (e f : OpenPlace) → open_place_eq e f ≡ true → e ≡ f
open_place_is e f h =
    let a = and_l (holder_eq e.holder f.holder) _ h in
    let b = and_r (holder_eq e.holder f.holder) _ h in
    let c = and_r (e.base == f.base) _ b in
    let holder = holder_is e.holder f.holder a in
    let base = nat_is e.base f.base (and_l (e.base == f.base) _ b) in
    let path = path_is e.path f.path (and_l (path_eq e.path f.path) _ c) in
    let way = way_is e.way f.way (and_r (path_eq e.path f.path) _ c) in
    λ i. record { holder = holder i; base = base i; path = path i; way = way i }

loan_is : (o p : Loan) → loan_eq o p ≡ true → o ≡ p
loan_is o p h =
    let b = and_r (o.base == p.base) _ h in
    let c = and_r (path_eq o.path p.path) _ b in
    let base = nat_is o.base p.base (and_l (o.base == p.base) _ h) in
    let path = path_is o.path p.path (and_l (path_eq o.path p.path) _ b) in
    let exact = bool_is o.exact p.exact (and_l (bool_eq o.exact p.exact) _ c) in
    let way = way_is o.way p.way (and_r (bool_eq o.exact p.exact) _ c) in
    λ i. record { base = base i; path = path i; exact = exact i; way = way i }

pub status_is : (s t : Status) → status_eq s t ≡ true → s ≡ t
status_is Own Own e = refl
status_is Own (Param w) e = absurd (cc)
status_is Own (Opened o) e = absurd (cc)
status_is Own (Bound w) e = absurd (cc)
status_is (Param w) Own e = absurd (cc)
status_is (Param w) (Param v) e = ap Param (way_is w v e)
status_is (Param w) (Opened o) e = absurd (cc)
status_is (Param w) (Bound v) e = absurd (cc)
status_is (Opened o) Own e = absurd (cc)
status_is (Opened o) (Param w) e = absurd (cc)
status_is (Opened o) (Opened p) e = ap Opened (loan_is o p e)
status_is (Opened o) (Bound w) e = absurd (cc)
status_is (Bound w) Own e = absurd (cc)
status_is (Bound w) (Param v) e = absurd (cc)
status_is (Bound w) (Opened o) e = absurd (cc)
status_is (Bound w) (Bound v) e = ap Bound (way_is w v e)

pub open_is : (s : Status) (w : Way) → is_open s w ≡ true → IsOpen s w
open_is Own w e = absurd (cc)
open_is (Param v) w e = way_is v w e
open_is (Opened o) w e = way_is o.way w e
open_is (Bound v) w e = way_is v w e

pub in_local_is : (h : Holder) → in_local h ≡ true → IsInLocal h
in_local_is (InLocal l) e = tt
in_local_is (InSubscript l) e = absurd (cc)

pub apart_is : (p q : Path) → are_apart p q ≡ true → Apart p q
apart_is [] q e = absurd (cc)
apart_is (s ∷ p) [] e = absurd (cc)
apart_is (PartAt i ∷ p) (PartAt j ∷ q) e =
    ⊎_elim (λ a. inl (nat_not i j (not_is (i == j) a))) (λ a. inr (apart_is p q a)) (or_is (not (i == j)) (are_apart p q) e)
apart_is (PartAt i ∷ p) (ElementAt j ∷ q) e = absurd (cc)
apart_is (ElementAt i ∷ p) (PartAt j ∷ q) e = absurd (cc)
apart_is (ElementAt i ∷ p) (ElementAt j ∷ q) e = absurd (cc)

-- LISTS

pub every_is : {A : Type 0} (f : A → Bool) (xs : List A) (a : A) → every f xs ≡ true → Among a xs → f a ≡ true
every_is f [] a e h = absurd h
every_is f (x ∷ xs) a e (inl h) = ap f h ∙ and_l (f x) (every f xs) e
every_is f (x ∷ xs) a e (inr h) = every_is f xs a (and_r (f x) (every f xs) e) h

pub every_all : {A : Type 0} (P : A → Type 0) (f : A → Bool) (xs : List A) → ((a : A) → f a ≡ true → P a) → every f xs ≡ true → all P xs
every_all P f [] h e = tt
every_all P f (x ∷ xs) h e = (h x (and_l (f x) (every f xs) e), every_all P f xs h (and_r (f x) (every f xs) e))

-- where not all fail a test, one passes it
pub some_passes : {A : Type 0} (f : A → Bool) (xs : List A) → not (every (λ a. not (f a)) xs) ≡ true → (a : A) × Among a xs × (f a ≡ true)
some_passes f [] e = absurd (cc)
some_passes f (x ∷ xs) e = go (f x) refl e (λ e. some_passes f xs e)
  where
    go : (b : Bool) → f x ≡ b → not (not b && every (λ a. not (f a)) xs) ≡ true
        → (not (every (λ a. not (f a)) xs) ≡ true → (a : _) × Among a xs × (f a ≡ true)) → (a : _) × Among a (x ∷ xs) × (f a ≡ true)
    go true q e on = (x, inl refl, q)
    go false q e on = let r = on e in (r.0, inr r.1, r.2)

pub member_not : (l : ℕ) (xs : List ℕ) → member l xs ≡ false → Among l xs → ⊥
member_not l [] e h = h
member_not l (k ∷ xs) e h = go (l == k) refl e h (λ e h. member_not l xs e h)
  where
    go : (b : Bool) → (l == k) ≡ b → (b || member l xs) ≡ false → Among l (k ∷ xs) → (member l xs ≡ false → Among l xs → ⊥) → ⊥
    go true q e h on = absurd (cc)
    go false q e (inl z) on = nat_not l k q z
    go false q e (inr h) on = on e h

pub if_some_is : {A : Type 0} (o : Option A) (f : A → Bool) (a : A) → if_some o f ≡ true → o ≡ Some a → f a ≡ true
if_some_is None f a e q = absurd (cc)
if_some_is (Some b) f a e q = let z : b ≡ a = cc in subst (λ a. f a ≡ true) z e

-- PARTS WITHOUT PARTS

module _ (types : Table) where
  abbrev IsFound : (TyId → (Form → Path → Bool) → Bool) → Type 0
  IsFound on = (t : TyId) (f : Form → Path → Bool) → on t f ≡ true → (q : Path) (u : TyId) → type_at types (Some t) q ≡ Some u
      → parts_of (form types u) ≡ [] → f (form types u) q ≡ true

  found_part : (on : TyId → (Form → Path → Bool) → Bool) → IsFound on → (f : Form → Path → Bool) (ts : List TyId) (k i : ℕ) → every_part on k ts f ≡ true
      → (q : Path) (u : TyId) → type_at types (slice_get ts i) q ≡ Some u → parts_of (form types u) ≡ [] → f (form types u) (PartAt (k + i) ∷ q) ≡ true
  found_part on found f [] k i e q u is none = absurd (cc)
  found_part on found f (t ∷ ts) k zero e q u is none =
      let z : k ≡ k + 0 = omega arith in
      subst (λ j. f (form types u) (PartAt j ∷ q) ≡ true) z (found t (λ a q. f a (PartAt k ∷ q))
      (and_l (on t (λ a q. f a (PartAt k ∷ q))) (every_part on (suc k) ts f) e) q u is none)
  found_part on found f (t ∷ ts) k (suc i) e q u is none =
      let z : suc k + i ≡ k + suc i = omega arith in
      subst (λ j. f (form types u) (PartAt j ∷ q) ≡ true) z (found_part on found f ts (suc k) i
      (and_r (on t (λ a q. f a (PartAt k ∷ q))) (every_part on (suc k) ts f) e) q u is none)

  found_own : (on : TyId → (Form → Path → Bool) → Bool) → IsFound on → (t : TyId) (f : Form → Path → Bool) (ts : List TyId) → parts_of (form types t) ≡ ts
      → own_or_parts on (form types t) ts f ≡ true
      → (q : Path) (u : TyId) → type_at types (Some t) q ≡ Some u → parts_of (form types u) ≡ [] → f (form types u) q ≡ true
  found_own on found t f [] p e [] u is none = let z : t ≡ u = cc in subst (λ u. f (form types u) [] ≡ true) z e
  found_own on found t f [] p e (PartAt i ∷ q) u is none = let x : type_at types (slice_get [] i) q ≡ Some u =
      ap (λ ts. type_at types (slice_get ts i) q) (sym p) ∙ is in absurd (cc)
  found_own on found t f ts p e (ElementAt i ∷ q) u is none = absurd (cc)
  found_own on found t f (s ∷ ts) p e [] u is none = let z : t ≡ u = cc in let y : s ∷ ts ≡ [] = sym p ∙ ap (λ t. parts_of (form types t)) z ∙ none in
      absurd (cc)
  found_own on found t f (s ∷ ts) p e (PartAt i ∷ q) u is none = let z : 0 + i ≡ i = omega arith in
      subst (λ j. f (form types u) (PartAt j ∷ q) ≡ true) z (found_part on found f (s ∷ ts) zero i e q u
      (ap (λ ts. type_at types (slice_get ts i) q) (sym p) ∙ is) none)

  leaf_found : (n : ℕ) → IsFound (every_leaf types n)
  leaf_found zero t f e q u is none = absurd (cc)
  leaf_found (suc n) t f e q u is none = found_own (every_leaf types n) (leaf_found n) t f (parts_of (form types t)) refl e q u is none

  pub leaf_is : (n : ℕ) (t : TyId) (f : Path → Bool) → every_leaf types n t (λ a q. f q) ≡ true → (q : Path) → IsLeaf types t q → f q ≡ true
  leaf_is n t f e q l = leaf_found n t (λ a q. f q) e q l.0 l.1 l.2

  pub each_sound : (t : TyId) (c : InitMap) (s : InitState) → each_is types t c s ≡ true → Each types t c s
  each_sound t c s e q l = counts_is s (c q) (leaf_is (depth_of types) t (λ q. counts s (c q)) e q l)

  pub leaf_form : (n : ℕ) (t : TyId) (f : Form → Path → Bool) → every_leaf types n t f ≡ true → (q : Path) (u : TyId) → type_at types (Some t) q ≡ Some u
      → parts_of (form types u) ≡ [] → f (form types u) q ≡ true
  leaf_form n t f e q u is none = leaf_found n t f e q u is none

  pub array_sound : (t : TyId) (f : Path → Bool) → each_array types t f ≡ true → (q : Path) → IsArrayAt types t q → f q ≡ true
  array_sound t f e q (u, a, is, arr) =
      let g : (not (is_array (form types u)) || f q) ≡ true = leaf_found (depth_of types) t (λ a q. not (is_array a) || f q) e q u is (ap parts_of arr) in
      sym (ap (λ a. not (is_array a) || f q) arr) ∙ g
