-- Interactions with a memory of typed values: what each question gets has the type that is wanted, and what is stored has it too.
use Rattle.std.proofs.Common.{◌≡◌, ◌≢◌, ℕ, zero, suc, ◌<◌, Bool, true, false, cond, nat_lt, List, [], ◌∷◌, ◌++◌, length, Option, Some, None, slice_get}
use Rattle.std.proofs.Common.{refl, sym, ap, ◌∙◌, subst, arith}
use Rattle.hy_base.specs.declared.numbers.IntegerType.TheVariants.{Int, Sized}
use Rattle.std.specs.Prelude.{ℤ}
use Rattle.std.proofs.lemmas.Bool.{lt-ltb}
use Rattle.std.proofs.lemmas.Option.{slice_get_within}
use Rattle.hy_base.specs.declared.run.End.TheVariants as end
use Rattle.hy_base.specs.declared.run.TrapKind.{TrapKind}
use Rattle.hy_base.specs.declared.run.TrapKind.TheVariants as trap
use Rattle.hy_types.specs.declared.kinds.TyId.{TyId}
use Rattle.hy_types.specs.Types.{Table}
use Rattle.hy_core.specs.Plain.{Step, Part, Index, Place, Fun}
use Rattle.hy_core.specs.Values.{Val, Unset, Number, Truth, Tuple, Product, Array, Vals, Path, many, get, shape, is_whole, Selector, PartAt, ElementAt}
use Rattle.hy_core.specs.Memory.{Key, Spot, whole, Copies, copying}
use Rattle.hy_core.specs.Runs as effect
use Rattle.hy_core.specs.Runs.{Interaction, Fetch, Inspect, Perform, Return, apply, interpret}
use Rattle.hy_core.specs.Operators.{index_in, blanks}
use Rattle.hy_core.specs.Control.{Form, Numbers, Flags, Tuples, Products, Arrays, Unknown, form, part_type, element_type, blank_of, local_type, Halt, Ends}
use Rattle.hy_core.specs.Control.{Stuck, NotSet, Control, Setting, stop, key, count_one, with_some, trapped, turn, with_number, with_flag, with_array}
use Rattle.hy_core.specs.Control.{with_set, with_index, Aim, ToRead, ToWrite, ToDrop, at_unset, at_part, at_element, walk, spot, read, write, take_as}
use Rattle.hy_core.specs.Control.{read_number, read_flag, read_array}
use Rattle.hy_core.specs.Typing.{all, steps_type, selected_type}
use Rattle.hy_core.specs.Shaped.{HasForm, IsStep, IsOf}
use Rattle.hy_core.proofs.Typed.{form_at, sub, form_on, form_append, declared_with, Fits, FitsAll, FitsEach, fits_many, fits_blanks, IsTyped, typed_read}
use Rattle.hy_core.proofs.Typed.{typed_store}

-- A step leads to a state that stands, or that has halted and is not stuck.
pub data Fine (S : Control → Copies → Type 0) (c : Control) (m : Copies) : Type 0 where
  over : (h : Halt) → c.halt ≡ Some h → h ≢ Stuck → Fine S c m
  stands : S c m → Fine S c m

abbrev pub Good : (Control → Copies → Type 0) → Interaction Control → Copies → Type 0
Good S (Fetch s go) m = Good S (go (copying.read m s)) m
Good S (Inspect s go) m = Good S (go (shape (copying.read m s))) m
Good S (Perform o t) m = Good S t (apply copying o m)
Good S (Return c) m = Fine S c m

pub good_next : (S : Control → Copies → Type 0) (t : Interaction Control) (m : Copies) → Good S t m
    → Fine S (interpret copying t m).control (interpret copying t m).memory
good_next S (Fetch s go) m h = good_next S (go (copying.read m s)) m h
good_next S (Inspect s go) m h = good_next S (go (shape (copying.read m s))) m h
good_next S (Perform o t) m h = good_next S t (apply copying o m) h
good_next S (Return c) m h = h

-- FORMS

pub has_blank : (types : Table) (f : Form) (t u : TyId) (i : ℕ) → f ≡ form types t → part_type f i ≡ Some u
    → (v : Val) × (blank_of f ≡ Some v) × Fits types f v
has_blank types (Numbers k) t u i q e = absurd (cc)
has_blank types Flags t u i q e = absurd (cc)
has_blank types (Tuples parts) t u i q e = (Tuple (blanks parts), refl, (parts, refl, fits_blanks types parts))
has_blank types (Products d parts) t u i q e = (Product d (blanks parts), refl, (parts, refl, declared_with types t d parts (sym q), fits_blanks types parts))
has_blank types (Arrays a) t u i q e = absurd (cc)
has_blank types Unknown t u i q e = absurd (cc)

pub sub_part : (types : Table) (f : Form) (i : ℕ) (u : TyId) → part_type f i ≡ Some u → sub types f (PartAt i) ≡ form types u
sub_part types (Numbers k) i u e = absurd (cc)
sub_part types Flags i u e = absurd (cc)
sub_part types (Tuples parts) i u e = ap (form_at types) e
sub_part types (Products d parts) i u e = ap (form_at types) e
sub_part types (Arrays a) i u e = absurd (cc)
sub_part types Unknown i u e = absurd (cc)

pub sub_selected : (types : Table) (f : Form) (s : Selector) (u : TyId) → selected_type f s ≡ Some u → sub types f s ≡ form types u
sub_selected types f (PartAt i) u e = sub_part types f i u e
sub_selected types f (ElementAt i) u e = absurd (cc)

pub is_arrays : (f : Form) (u : TyId) → element_type f ≡ Some u → f ≡ Arrays u
is_arrays (Numbers k) u e = absurd (cc)
is_arrays Flags u e = absurd (cc)
is_arrays (Tuples parts) u e = absurd (cc)
is_arrays (Products d parts) u e = absurd (cc)
is_arrays (Arrays a) u e = ap Arrays (let f : a ≡ u = cc in f)
is_arrays Unknown u e = absurd (cc)

some_span : {A : Type 0} (xs : List A) (i : ℕ) → i < length xs → (x : A) × (slice_get xs i ≡ Some x)
some_span [] i lt = absurd (omega arith)
some_span (x ∷ xs) zero lt = (x, refl)
some_span (x ∷ xs) (suc i) lt = some_span xs i (omega arith)

-- the local types of the running activation are the forms of its keys
pub record IsLocal (types : Table) (forms : Key → Form) (n : ℕ) (f : Fun) (c : Control) : Type 0 where
  pub fun : c.now.fun ≡ f
  pub below : c.now.id < n
  pub locals : (l : ℕ) → forms (key c l) ≡ form_at types (local_type f l)

module _ (p : Setting) (S : Control → Copies → Type 0) where
  pub good_some : {A : Type 0} (c : Control) (o : Option A) (go : A → Interaction Control) (m : Copies) (a : A) → o ≡ Some a → Good S (go a) m
      → Good S (with_some c o go) m
  good_some {A} c o go m a e h = subst (λ o. Good S (with_some c o go) m) (sym e) h

  pub good_trap : (c : Control) (kind : TrapKind) (s : ℕ) (m : Copies) → s < length p.core.spans → Good S (trapped p c kind s) m
  good_trap c kind s m lt = let x = some_span p.core.spans s lt in
      good_some c (slice_get p.core.spans s) _ m x.0 x.1 (over (Ends (end.Trap kind x.0)) refl (λ e. absurd (cc)))

  pub good_turn : (c : Control) (k : ℕ) (go : Control → Interaction Control) (m : Copies) → ((j : ℕ) → Good S (go (record c { turns = j })) m)
      → Good S (turn c k go) m
  good_turn c zero go m h = over (Ends end.Spent) refl (λ e. absurd (cc))
  good_turn c (suc k) go m h = h k

  pub good_number : (types : Table) (f : Form) (c : Control) (v : Val) (go : ℤ → Interaction Control) (m : Copies) → Fits types f v → f ≡ Numbers Int
      → ((i : ℤ) → Good S (go i) m) → Good S (with_number c v go) m
  good_number types f c Unset go m h e next = over NotSet refl (λ e. absurd (cc))
  good_number types f c (Number Int n) go m h e next = next n
  good_number types f c (Number (Sized num) n) go m h e next = absurd (let q = h.0 in cc)
  good_number types f c (Truth b) go m h e next = absurd (cc)
  good_number types f c (Tuple vs) go m h e next = absurd (let q = h.1 in cc)
  good_number types f c (Product d vs) go m h e next = absurd (let q = h.1 in cc)
  good_number types f c (Array vs) go m h e next = absurd (let q = h.1 in cc)

  pub good_flag : (types : Table) (f : Form) (c : Control) (v : Val) (go : Bool → Interaction Control) (m : Copies) → Fits types f v → f ≡ Flags
      → ((i : Bool) → Good S (go i) m) → Good S (with_flag c v go) m
  good_flag types f c Unset go m h e next = over NotSet refl (λ e. absurd (cc))
  good_flag types f c (Number t n) go m h e next = absurd (let q = h.0 in cc)
  good_flag types f c (Truth b) go m h e next = next b
  good_flag types f c (Tuple vs) go m h e next = absurd (let q = h.1 in cc)
  good_flag types f c (Product d vs) go m h e next = absurd (let q = h.1 in cc)
  good_flag types f c (Array vs) go m h e next = absurd (let q = h.1 in cc)

  pub good_array : (types : Table) (f : Form) (t : TyId) (c : Control) (v : Val) (go : Vals → Interaction Control) (m : Copies) → Fits types f v → f ≡ Arrays t
      → ((vs : Vals) → FitsEach types t vs → Good S (go vs) m) → Good S (with_array c v go) m
  good_array types f t c Unset go m h e next = over NotSet refl (λ e. absurd (cc))
  good_array types f t c (Number k n) go m h e next = absurd (let q = h.0 in cc)
  good_array types f t c (Truth b) go m h e next = absurd (cc)
  good_array types f t c (Tuple vs) go m h e next = absurd (let q = h.1 in cc)
  good_array types f t c (Product d vs) go m h e next = absurd (let q = h.1 in cc)
  good_array types f t c (Array vs) go m h e next = next vs (let q = h.1 in let s : h.0 ≡ t = cc in subst (λ t. FitsEach types t vs) s h.2)

  pub good_set : (c : Control) (v : Val) (t : Interaction Control) (m : Copies) → (is_whole v ≡ true → Good S t m) → Good S (with_set c v t) m
  good_set c v t m h = go (is_whole v) h
    where
      go : (b : Bool) → (b ≡ true → Good S t m) → Good S (cond b t (stop c NotSet)) m
      go true h = h refl
      go false h = over NotSet refl (λ e. absurd (cc))

  pub good_index : (c : Control) (s : ℕ) (o : Option ℕ) (go : ℕ → Interaction Control) (m : Copies) → s < length p.core.spans → ((i : ℕ) → Good S (go i) m)
      → Good S (with_index p c s o go) m
  good_index c s None go m lt h = good_trap c trap.Index s m lt
  good_index c s (Some i) go m lt h = h i

-- Within a module of an activation: what stands between two statements is kept by reading, counting and taking turns.
module _ (p : Setting) (S : Control → Copies → Type 0) (forms : Key → Form) (n : ℕ) (f : Fun) (Q : Control → Type 0)
    (up : (c : Control) → Q c → Q (count_one c)) (local : (c : Control) → Q c → IsLocal p.core.types forms n f c) where
  abbrev pub Typed : Copies → Type 0
  Typed m = IsTyped p.core.types forms n m

  -- what a `Drop` does at an unset place
  abbrev pub Quits : Aim → Type 0
  Quits ToRead = Unit {0}
  Quits ToWrite = Unit {0}
  Quits ToDrop = (c : Control) (m : Copies) → Q c → Typed m → Fine S c m

  good_unset : (aim : Aim) (c : Control) (m : Copies) (s : Spot) (t u : TyId) (i : ℕ) (go : Interaction Control) → Quits aim → Q c → Typed m → s.key.act < n
      → form_on p.core.types (forms s.key) s.path ≡ form p.core.types t → part_type (form p.core.types t) i ≡ Some u
      → ((m : Copies) → Typed m → Good S go m) → Good S (at_unset aim c s (form p.core.types t) go) m
  good_unset ToRead c m s t u i go quits q h lt e part next = over NotSet refl (λ e. absurd (cc))
  good_unset ToWrite c m s t u i go quits q h lt e part next =
      let b = has_blank p.core.types (form p.core.types t) t u i refl part in
      good_some p S c (blank_of (form p.core.types t)) _ m b.0 b.1
      (next _ (typed_store p.core.types forms n m h s b.0 lt (subst (λ f. Fits p.core.types f b.0) (sym e) b.2)))
  good_unset ToDrop c m s t u i go quits q h lt e part next = quits c m q h

  good_counted : (c : Control) (ts : List TyId) (vs : Vals) (u : TyId) (i : ℕ) (go : Interaction Control) (m : Copies) → FitsAll p.core.types ts vs
      → slice_get ts i ≡ Some u → Good S go m
      → Good S (cond (nat_lt i (many vs)) go (stop c Stuck)) m
  good_counted c ts vs u i go m h e next =
      let lt : i < many vs = subst (λ k. i < k) (sym (fits_many p.core.types ts vs h)) (slice_get_within ts i u e) in
      subst (λ b. Good S (cond b go (stop c Stuck)) m) (sym (lt-ltb i (many vs) lt)) next

  good_part : (aim : Aim) (c : Control) (m : Copies) (s : Spot) (t u : TyId) (i : ℕ) (v : Val) (go : Interaction Control) → Quits aim → Q c → Typed m
      → s.key.act < n
      → form_on p.core.types (forms s.key) s.path ≡ form p.core.types t → part_type (form p.core.types t) i ≡ Some u
      → Fits p.core.types (form p.core.types t) v
      → ((m : Copies) → Typed m → Good S go m) → Good S (at_part aim c s (form p.core.types t) i (shape v) go) m
  good_part aim c m s t u i Unset go quits q h lt e part fits next = good_unset aim c m s t u i go quits q h lt e part next
  good_part aim c m s t u i (Number k j) go quits q h lt e part fits next =
      absurd (let x : part_type (Numbers k) i ≡ Some u = subst (λ f. part_type f i ≡ Some u) fits.0 part in cc)
  good_part aim c m s t u i (Truth b) go quits q h lt e part fits next =
      absurd (let x : part_type Flags i ≡ Some u = subst (λ f. part_type f i ≡ Some u) fits part in cc)
  good_part aim c m s t u i (Tuple vs) go quits q h lt e part fits next =
      good_counted c fits.0 vs u i go m fits.2 (subst (λ f. part_type f i ≡ Some u) fits.1 part) (next m h)
  good_part aim c m s t u i (Product d vs) go quits q h lt e part fits next =
      good_counted c fits.0 vs u i go m fits.3 (subst (λ f. part_type f i ≡ Some u) fits.1 part) (next m h)
  good_part aim c m s t u i (Array vs) go quits q h lt e part fits next =
      absurd (let x : part_type (Arrays fits.0) i ≡ Some u = subst (λ f. part_type f i ≡ Some u) fits.1 part in cc)

  good_element : (aim : Aim) (c : Control) (m : Copies) (span : ℕ) (i : ℤ) (v : Val) (u : TyId) (go : ℕ → Interaction Control) (x : Form) → Quits aim → Q c
      → Typed m → span < length p.core.spans
      → x ≡ Arrays u → Fits p.core.types x v → ((j : ℕ) → Good S (go j) m) → Good S (at_element p aim c span i (shape v) go) m
  good_element ToRead c m span i Unset u go x quits q h lt e fits next = over NotSet refl (λ e. absurd (cc))
  good_element ToWrite c m span i Unset u go x quits q h lt e fits next = over NotSet refl (λ e. absurd (cc))
  good_element ToDrop c m span i Unset u go x quits q h lt e fits next = quits c m q h
  good_element aim c m span i (Number k j) u go x quits q h lt e fits next = absurd (let z = fits.0 in cc)
  good_element aim c m span i (Truth b) u go x quits q h lt e fits next = absurd (cc)
  good_element aim c m span i (Tuple vs) u go x quits q h lt e fits next = absurd (let y = fits.1 in cc)
  good_element aim c m span i (Product d vs) u go x quits q h lt e fits next = absurd (let y = fits.1 in cc)
  good_element aim c m span i (Array vs) u go x quits q h lt e fits next = good_index p S c span (index_in (many vs) i) go m lt next

  abbrev pub Goes_to : (Control → Spot → TyId → Interaction Control) → TyId → Type 0
  Goes_to go u = (c : Control) (m : Copies) (s : Spot) → Q c → Typed m → s.key.act < n → form_on p.core.types (forms s.key) s.path ≡ form p.core.types u
      → Good S (go c s u) m

  good_walk : (aim : Aim) (k : Key) (u : TyId) (go : Control → Spot → TyId → Interaction Control) → Quits aim → k.act < n → Goes_to go u
      → (steps : List Step) (c : Control) (m : Copies) (q : Path) (t : TyId) → Q c → Typed m → form_on p.core.types (forms k) q ≡ form p.core.types t
      → all (IsStep p.core f) steps → steps_type p.core.types (Some t) steps ≡ Some u → Good S (walk p aim c k q t steps go) m
  good_walk aim k u go quits lt next [] c m q t x h e ok is = let z : t ≡ u = cc in
      subst (λ t. Good S (go c (record { key = k; path = q }) t) m) (sym z) (next c m (record { key = k; path = q }) x h lt (e ∙ ap (form p.core.types) z))
  good_walk aim k u go quits lt next (Part i ∷ steps) c m q t x h e ok is =
      found (part_type (form p.core.types t) i) refl is (λ c m q t x h e is. good_walk aim k u go quits lt next steps c m q t x h e ok.1 is)
    where
      s : Spot
      s = record { key = k; path = q }

      found : (o : Option TyId) → part_type (form p.core.types t) i ≡ o → steps_type p.core.types o steps ≡ Some u
          → ((c : Control) (m : Copies) (q : Path) (t : TyId) → Q c → Typed m → form_on p.core.types (forms k) q ≡ form p.core.types t
          → steps_type p.core.types (Some t) steps ≡ Some u → Good S (walk p aim c k q t steps go) m)
          → Good S (with_some c (part_type (form p.core.types t) i)
          (λ w. Inspect s (λ a. at_part aim c s (form p.core.types t) i a (walk p aim c k (q ++ PartAt i ∷ []) w steps go)))) m
      found None y is on = absurd (cc)
      found (Some w) y is on = good_some p S c (part_type (form p.core.types t) i) _ m w y
          (good_part aim c m s t w i (get q (m.value k)) _ quits x h lt e y
          (subst (λ f. Fits p.core.types f (get q (m.value k))) e (typed_read p.core.types forms n m h s))
          (λ m h. on c m (q ++ PartAt i ∷ []) w x h (form_append p.core.types (forms k) q (PartAt i ∷ []) ∙ ap (λ f. sub p.core.types f (PartAt i)) e
          ∙ sub_part p.core.types (form p.core.types t) i w y) is))
  good_walk aim k u go quits lt next (Index l span ∷ steps) c m q t x h e ok is =
      found (element_type (form p.core.types t)) refl is (λ c m q t x h e is. good_walk aim k u go quits lt next steps c m q t x h e ok.1 is)
    where
      s : Spot
      s = record { key = k; path = q }

      number : HasForm p.core f l (Numbers Int)
      number = ok.0.0

      lo : IsLocal p.core.types forms n f c
      lo = local c x

      found : (o : Option TyId) → element_type (form p.core.types t) ≡ o → steps_type p.core.types o steps ≡ Some u
          → ((c : Control) (m : Copies) (q : Path) (t : TyId) → Q c → Typed m → form_on p.core.types (forms k) q ≡ form p.core.types t
          → steps_type p.core.types (Some t) steps ≡ Some u → Good S (walk p aim c k q t steps go) m)
          → Good S (with_some c (element_type (form p.core.types t))
          (λ w. Fetch (whole (key c l))
          (λ v. with_number c v
          (λ i. Inspect s (λ a. at_element p aim c span i a (λ j. walk p aim (count_one c) k (q ++ ElementAt j ∷ []) w steps go)))))) m
      found None y is on = absurd (cc)
      found (Some w) y is on = good_some p S c (element_type (form p.core.types t)) _ m w y
          (good_number p S p.core.types (forms (key c l)) c (m.value (key c l)) _ m (h.value (key c l)) (lo.locals l ∙ ap (form_at p.core.types) number.1
          ∙ number.2)
          (λ i. good_element aim c m span i (get q (m.value k)) w _ (form p.core.types t) quits x h ok.0.3 (is_arrays (form p.core.types t) w y)
          (subst (λ f. Fits p.core.types f (get q (m.value k))) e (typed_read p.core.types forms n m h s))
          (λ j. on (count_one c) m (q ++ ElementAt j ∷ []) w (up c x) h (form_append p.core.types (forms k) q (ElementAt j ∷ [])
          ∙ ap (λ f. sub p.core.types f (ElementAt j)) (e ∙ is_arrays (form p.core.types t) w y)) is)))

  pub good_spot : (aim : Aim) (place : Place) (u : TyId) (go : Control → Spot → TyId → Interaction Control) → Quits aim → IsOf p.core f u place → Goes_to go u
      → (c : Control) (m : Copies) → Q c → Typed m → Good S (spot p aim c place go) m
  good_spot aim place u go quits is next c m x h = found (local_type f place.local) refl is.0
    where
      lo : IsLocal p.core.types forms n f c
      lo = local c x

      found : (o : Option TyId) → local_type f place.local ≡ o → steps_type p.core.types o place.steps ≡ Some u → Good S (spot p aim c place go) m
      found None y e = absurd (cc)
      found (Some t) y e = good_some p S c (local_type c.now.fun place.local) _ m t (ap (λ g. local_type g place.local) lo.fun ∙ y)
          (good_walk aim (key c place.local) u go quits lo.below next place.steps c m [] t x h (lo.locals place.local ∙ ap (form_at p.core.types) y) is.1 e)

  pub good_read : (place : Place) (u : TyId) (go : Control → Val → Interaction Control) → IsOf p.core f u place
      → ((c : Control) (m : Copies) (v : Val) → Q c → Typed m → Fits p.core.types (form p.core.types u) v → is_whole v ≡ true → Good S (go c v) m)
      → (c : Control) (m : Copies) → Q c → Typed m → Good S (read p c place go) m
  good_read place u go is next = good_spot ToRead place u _ tt is (λ c m s x h lt e.
      let v = get s.path (m.value s.key) in
      good_set p S c v (go c v) m (λ whole. next c m v x h (subst (λ f. Fits p.core.types f v) e (typed_read p.core.types forms n m h s)) whole))

  pub good_take : (fate : effect.Fate) (place : Place) (u : TyId) (go : Control → Val → Interaction Control) → IsOf p.core f u place
      → ((c : Control) (m : Copies) (v : Val) → Q c → Typed m → Fits p.core.types (form p.core.types u) v → Good S (go c v) m)
      → (c : Control) (m : Copies) → Q c → Typed m → Good S (take_as fate p c place go) m
  good_take fate place u go is next = good_spot ToRead place u _ tt is (λ c m s x h lt e.
      let v = get s.path (m.value s.key) in
      good_set p S c v (Perform (effect.Clear s fate) (go c v)) m
      (λ whole. next c _ v x (typed_store p.core.types forms n m h s Unset lt tt)
      (subst (λ f. Fits p.core.types f v) e (typed_read p.core.types forms n m h s))))

  pub good_write : (place : Place) (u : TyId) (v : Val) (go : Control → Interaction Control)
      → IsOf p.core f u place → Fits p.core.types (form p.core.types u) v
      → ((c : Control) (m : Copies) → Q c → Typed m → Good S (go c) m)
      → (c : Control) (m : Copies) → Q c → Typed m → Good S (write p c place v go) m
  good_write place u v go is fits next = good_spot ToWrite place u _ tt is (λ c m s x h lt e.
      next c _ x (typed_store p.core.types forms n m h s v lt (subst (λ f. Fits p.core.types f v) (sym e) fits)))

  pub good_read_number : (place : Place) (u : TyId) (go : Control → ℤ → Interaction Control) → IsOf p.core f u place → form p.core.types u ≡ Numbers Int
      → ((c : Control) (m : Copies) (i : ℤ) → Q c → Typed m → Good S (go c i) m)
      → (c : Control) (m : Copies) → Q c → Typed m → Good S (read_number p c place go) m
  good_read_number place u go is e next =
      good_read place u _ is (λ c m v x h fits whole. good_number p S p.core.types (form p.core.types u) c v (go c) m fits e (λ i. next c m i x h))

  pub good_read_flag : (place : Place) (u : TyId) (go : Control → Bool → Interaction Control) → IsOf p.core f u place → form p.core.types u ≡ Flags
      → ((c : Control) (m : Copies) (i : Bool) → Q c → Typed m → Good S (go c i) m)
      → (c : Control) (m : Copies) → Q c → Typed m → Good S (read_flag p c place go) m
  good_read_flag place u go is e next =
      good_read place u _ is (λ c m v x h fits whole. good_flag p S p.core.types (form p.core.types u) c v (go c) m fits e (λ i. next c m i x h))

  pub good_read_array : (place : Place) (u t : TyId) (go : Control → Spot → Vals → Interaction Control)
      → IsOf p.core f u place → form p.core.types u ≡ Arrays t
      → ((c : Control) (m : Copies) (s : Spot) (vs : Vals) → Q c → Typed m → s.key.act < n → form_on p.core.types (forms s.key) s.path ≡ Arrays t
      → FitsEach p.core.types t vs → Good S (go c s vs) m)
      → (c : Control) (m : Copies) → Q c → Typed m → Good S (read_array p c place go) m
  good_read_array place u t go is e next = good_spot ToRead place u _ tt is (λ c m s x h lt q.
      let v = get s.path (m.value s.key) in
      good_set p S c v (with_array c v (go c s)) m
      (λ whole. good_array p S p.core.types (form p.core.types u) t c v (go c s) m
      (subst (λ f. Fits p.core.types f v) q (typed_read p.core.types forms n m h s)) e (λ vs each. next c m s vs x h lt (q ∙ e) each)))
