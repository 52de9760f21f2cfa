-- What flow states tell of the locals of an activation, and which slot goes with what is known of a local.
use Rattle.std.proofs.Common.{◌≡◌, ◌≢◌, inl, inr, ⊎_elim, ℕ, Bool, true, false, cond, List, [], ◌∷◌, ◌++◌}
use Rattle.std.proofs.Common.{Option, Some, None, refl, sym, ap, ◌∙◌, subst, append_assoc}
use Rattle.std.proofs.lemmas.Bool.Decides.{eqb_tells}
use Rattle.hy_types.specs.declared.kinds.TyId.{TyId}
use Rattle.hy_types.specs.Types.{Table}
use Rattle.hy_core.specs.Plain.{Step, Part, Index}
use Rattle.hy_core.specs.Plain.{Fun}
use Rattle.hy_core.specs.Values.{Vals, No, And, Path}
use Rattle.hy_core.specs.Values.{Selector}
use Rattle.hy_core.specs.Memory.{Way, Origin, set_at}
use Rattle.hy_core.specs.Control.{Arrays, form, part_type, element_type, local_type}
use Rattle.hy_core.specs.Typing.{type_at, steps_type, still, IsLeaf}
use Rattle.hy_core.specs.Flow.{Loan, Status, Own, Param, Opened, Bound, InitState, IsSet, IsKnown, IsEmptyWithout, IsNotTied}
use Rattle.hy_core.specs.Flow.{IsUntied, InitMap, all_set, none_set, with_map, FlowState}
use Rattle.hy_core.specs.Flow.{Context, with_init, is_exact}
use Rattle.hy_core.specs.Flow.{set_local}
use Rattle.hy_core.proofs.Keys.{set_same, set_other}
use Rattle.hy_core.proofs.TypedWalks.{is_arrays}
use Rattle.hy_core.proofs.CalmWalks.{at}
use Rattle.hy_core.proofs.FlowStates.{Tells, tells_other}
use Rattle.hy_core.proofs.SetValues.{array_state, is_filled}
use Rattle.hy_core.proofs.SetValues.{split}
use Rattle.hy_core.proofs.SetValues.{with_map_above, with_map_below, with_map_apart}
use Rattle.hy_core.proofs.SetMemories.{InitMaps}

-- MAPS that tell the same

pub with_rel : (R : InitState → InitState → Type 0) (p : Path) (d d' c c' : InitMap) (q : Path) → ((r : Path) → q ≡ p ++ r → R (d r) (d' r)) → R (c q) (c' q)
    → R (with_map p d c q) (with_map p d' c' q)
with_rel R p d d' c c' q below beside = ⊎_elim
    (λ a. two (c q) _ (c' q) _ (sym (with_map_apart p d c q a)) (sym (with_map_apart p d' c' q a)) beside)
    (λ b. ⊎_elim
    (λ x. two (d x.0) _ (d' x.0) _ (sym (ap (with_map p d c) x.1 ∙ with_map_below p d c x.0)) (sym (ap (with_map p d' c') x.1 ∙ with_map_below p d' c' x.0))
    (below x.0 x.1))
    (λ x. two (c q) _ (c' q) _ (sym (ap (λ p. with_map p d c q) x.2 ∙ with_map_above q x.0 x.1 d c))
    (sym (ap (λ p. with_map p d' c' q) x.2 ∙ with_map_above q x.0 x.1 d' c')) beside) b)
    (split p q)
  where
    two : (a a' b b' : InitState) → a ≡ a' → b ≡ b' → R a b → R a' b'
    two a a' b b' e f h = subst (λ a. R a b') e (subst (R a) f h)

-- the states of whole locals of an activation
abbrev pub wholes : InitMaps → ℕ → ℕ → InitState
wholes E id f = E (at id f) []

-- where one local changes, what is not tied to it tells what it told
pub tells_change : (E : InitMaps) (id l : ℕ) (c : InitMap) (s e : InitState) → IsNotTied l s → Tells (wholes E id) s e
    → Tells (wholes (set_at E (at id l) c) id) s e
tells_change E id l c s e free t = tells_other (wholes E id) (wholes (set_at E (at id l) c) id) l s e
    (λ k n. ap (λ c. c []) (set_other E (at id l) c (at id k) (λ z. n (ap (λ k. k.local) z)))) free t

-- the same of one local and of the others
pub tells_in : (E : InitMaps) (id l : ℕ) (init : ℕ → InitMap) (c c' : InitMap) (j : ℕ) (r : Path)
    → (j ≢ l → Tells (wholes (set_at E (at id l) c') id) (init j r) (E (at id j) r)) → (j ≡ l → Tells (wholes (set_at E (at id l) c') id) (c r) (c' r))
    → Tells (wholes (set_at E (at id l) c') id) (set_local init l c j r) (set_at E (at id l) c' (at id j) r)
tells_in E id l init c c' j r old new = ⊎_elim
    (λ y. subst (λ s. Tells F s (set_at E (at id l) c' (at id j) r)) (sym (ap (λ b. cond b c (init j) r) y.0))
    (subst (λ e. Tells F (c r) e) (sym (ap (λ j. set_at E (at id l) c' (at id j) r) y.1 ∙ ap (λ c. c r) (set_same E (at id l) c'))) (new y.1)))
    (λ y. subst (λ s. Tells F s (set_at E (at id l) c' (at id j) r)) (sym (ap (λ b. cond b c (init j) r) y.0))
    (subst (λ e. Tells F (init j r) e) (sym (ap (λ c. c r) (set_other E (at id l) c' (at id j) (λ z. y.1 (ap (λ k. k.local) z)))))
    (old y.1))) (eqb_tells j l)
  where
    F : ℕ → InitState
    F = wholes (set_at E (at id l) c') id

pub tells_set_local : (E : InitMaps) (id l : ℕ) (init : ℕ → InitMap) (c c' : InitMap) (j : ℕ) (r : Path) → IsNotTied l (init j r)
    → Tells (wholes E id) (init j r) (E (at id j) r) → (j ≡ l → Tells (wholes (set_at E (at id l) c') id) (c r) (c' r))
    → Tells (wholes (set_at E (at id l) c') id) (set_local init l c j r) (set_at E (at id l) c' (at id j) r)
tells_set_local E id l init c c' j r free old new = tells_in E id l init c c' j r (λ n. tells_change E id l c' (init j r) (E (at id j) r) free old) new

-- whatever is known of whole locals, the first states tell of the second
abbrev pub AllTell : InitMap → InitMap → Type 0
AllTell d d' = (F : ℕ → InitState) (q : Path) → Tells F (d q) (d' q)

pub set_tells : AllTell all_set all_set
set_tells F q = tt

pub none_tells : AllTell none_set none_set
none_tells F q = refl

-- no state of a place that is changed rests on the local
pub untied_with : (x : Context) (g : FlowState) (l : ℕ) (p : Path) (d : InitMap) (k : ℕ) → ((t : TyId) (r : Path) → local_type x.fun l ≡ Some t
    → IsLeaf x.core.types t (p ++ r) → IsNotTied k (d r)) → IsUntied x g k → IsUntied x (with_init g l p d) k
untied_with x g l p d k free untied j t q e leaf = ⊎_elim
    (λ a. subst (IsNotTied k) (sym (ap (λ b. cond b (with_map p d (g.init l)) (g.init j) q) a.0))
    (let f : local_type x.fun l ≡ Some t = ap (local_type x.fun) (sym a.1) ∙ e in
    with_rel (λ s _. IsNotTied k s) p d d (g.init l) (g.init l) q (λ r is. free t r f (subst (IsLeaf x.core.types t) is leaf)) (untied l t q f leaf)))
    (λ a. subst (IsNotTied k) (sym (ap (λ b. cond b (with_map p d (g.init l)) (g.init j) q) a.0)) (untied j t q e leaf)) (eqb_tells j l)

-- what is known of an array once its count is stored in a local
pub array_tells : (F : ℕ → InitState) (l : ℕ) (vs : Vals) → F l ≡ IsKnown (is_filled vs) → Tells F (IsEmptyWithout l) (array_state vs)
array_tells F l No e = inr (e, refl)
array_tells F l (And v vs) e = inl (e, tt)

-- PATHS of steps

-- q is where steps lead from p
abbrev pub Extends : List Step → Path → Path → Type 0
Extends [] p q = q ≡ p
Extends (s ∷ steps) p q = (j : Selector) × (r : Path) × (q ≡ p ++ j ∷ r)

pub extends_more : (s : Step) (steps : List Step) (p q : Path) (i : Selector) → Extends steps (p ++ i ∷ []) q → Extends (s ∷ steps) p q
extends_more s [] p q i e = (i, [], e)
extends_more s (x ∷ steps) p q i e = (i, e.0 ∷ e.1, e.2 ∙ append_assoc p (i ∷ []) (e.0 ∷ e.1))

-- q is at the place before the first index, or past an index from there
abbrev pub EndsAt : Bool → Path → Path → Type 0
EndsAt true p q = q ≡ p
EndsAt false p q = (j : Selector) × (r : Path) × (q ≡ p ++ j ∷ r)

pub one_type : (types : Table) (o : Option TyId) (y : TyId) → o ≡ Some y → type_at types o [] ≡ Some y
one_type types o y e = subst (λ o. type_at types o [] ≡ Some y) (sym e) refl

-- the type before the first index of a place
pub still_there : (types : Table) (o : Option TyId) (steps : List Step) (u : TyId) → steps_type types o steps ≡ Some u → (a : TyId)
    × (type_at types o (still steps) ≡ Some a)
still_there types None steps u e = absurd (cc)
still_there types (Some t) [] u e = (t, refl)
still_there types (Some t) (Part i ∷ steps) u e = still_there types (part_type (form types t) i) steps u e
still_there types (Some t) (Index l s ∷ steps) u e = (t, refl)

pub still_exact : (types : Table) (o : Option TyId) (steps : List Step) (u : TyId) → is_exact steps ≡ true → steps_type types o steps ≡ Some u
    → type_at types o (still steps) ≡ Some u
still_exact types None steps u x e = absurd (cc)
still_exact types (Some t) [] u x e = e
still_exact types (Some t) (Part i ∷ steps) u x e = still_exact types (part_type (form types t) i) steps u x e
still_exact types (Some t) (Index l s ∷ steps) u x e = absurd (cc)

pub still_array : (types : Table) (o : Option TyId) (steps : List Step) (u : TyId) → is_exact steps ≡ false → steps_type types o steps ≡ Some u
    → (a e : TyId) × (type_at types o (still steps) ≡ Some a) × (form types a ≡ Arrays e)
still_array types None steps u x e = absurd (cc)
still_array types (Some t) [] u x e = absurd (cc)
still_array types (Some t) (Part i ∷ steps) u x e = still_array types (part_type (form types t) i) steps u x e
still_array types (Some t) (Index l s ∷ steps) u x e = go (element_type (form types t)) refl e
  where
    go : (o : Option TyId) → element_type (form types t) ≡ o → steps_type types o steps ≡ Some u → (a e : TyId) × (type_at types (Some t) [] ≡ Some a)
        × (form types a ≡ Arrays e)
    go None q e = absurd (cc)
    go (Some w) q e = (t, w, refl, is_arrays (form types t) w q)

-- WHAT STANDS FOR WHAT: how the slot of a local goes with what is known of the local

abbrev pub LoanType : Table → Fun → ℕ → Loan → Bool → Type 0
LoanType types f l loan true = type_at types (local_type f loan.base) loan.path ≡ local_type f l
LoanType types f l loan false = (a e : TyId) × (type_at types (local_type f loan.base) loan.path ≡ Some a) × (form types a ≡ Arrays e)

pub record LoanTie (types : Table) (f : Fun) (id l : ℕ) (loan : Loan) (o : Origin) : Type 0 where
  pub base : o.base ≡ at id loan.base
  pub way : o.way ≡ loan.way
  pub ends : EndsAt loan.exact loan.path o.path
  pub type : LoanType types f l loan loan.exact

abbrev pub IsForeign : ℕ → Way → Option Origin → Type 0
IsForeign id w slot = (o : Origin) → slot ≡ Some o → (o.base.act ≢ id) × (o.way ≡ w)

abbrev pub Tie : Table → Fun → ℕ → ℕ → Status → Option Origin → Type 0
Tie types f id l Own slot = slot ≡ None
Tie types f id l (Param w) slot = IsForeign id w slot
Tie types f id l (Opened loan) slot = (o : Origin) → slot ≡ Some o → LoanTie types f id l loan o
Tie types f id l (Bound w) slot = IsForeign id w slot

-- what is promised of each local that a `Project` opened: all is set when it closes
abbrev pub AllBound : (ℕ → Status) → (ℕ → InitMap) → Type 0
AllBound status promised = (l : ℕ) (w : Way) → status l ≡ Bound w → (q : Path) → promised l q ≡ IsSet
