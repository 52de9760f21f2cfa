-- Operations on values of the types that they want give what they are to give, and are never stuck.
use Rattle.std.proofs.Common.{◌≡◌, ⊎_elim, inl, inr, ℕ, suc, ◌<◌, Bool, true, false, cond, not, List, [], ◌∷◌, ◌++◌, length, Option, Some, None, refl, sym}
use Rattle.std.proofs.Common.{ap, ◌∙◌, subst}
use Rattle.hy_base.specs.declared.numbers.IntegerType.{IntegerType}
use Rattle.hy_base.specs.declared.numbers.IntegerType.TheVariants.{Int}
use Rattle.hy_base.specs.declared.numbers.Operation.TheVariants as operation
use Rattle.hy_base.specs.declared.run.TrapKind.{TrapKind}
use Rattle.hy_core.proofs.Arithmetic.{same_types, in_range, IsProper, proper_fits, GivesOfOne, GivesOfTwo, TellsOfTwo, negated_gives, converted_gives}
use Rattle.hy_core.proofs.Arithmetic.{operated_gives, ordered_tells, one_gives, two_give, two_tell}
use Rattle.std.specs.Prelude.{ℤ, pos, int_lt, int_le, codes, if◌then◌else◌, Result, Ok, Err}
use Rattle.std.specs.Fmt.{signed_decimal}
use Rattle.hy_base.specs.declared.run.End.TheVariants as end
use Rattle.hy_base.specs.declared.run.TrapKind.TheVariants as trap
use Rattle.hy_types.specs.declared.kinds.TyId.{TyId}
use Rattle.hy_core.specs.Plain.{Place, Operator, Add, Sub, Mul, Div, Rem, Neg, Convert, Eq, Lt, Le, Not, NewArray, Push, Pop, Swap, Count, FreeArray, Print}
use Rattle.hy_core.specs.Plain.{Read, Check, Fun, Core}
use Rattle.hy_core.specs.Values.{Val, Unset, Number, Truth, Tuple, Product, Array, Vals, No, And, many, is_whole}
use Rattle.hy_core.specs.Memory.{Key, Spot, Copies, copying}
use Rattle.hy_core.specs.Runs as effect
use Rattle.hy_core.specs.Runs.{Interaction, Fetch, Inspect, Perform, Return}
use Rattle.hy_base.specs.Lines.{Got, read_line}
use Rattle.hy_base.specs.Lines as lines
use Rattle.hy_core.specs.Operators.{negated, converted, same_flags, same_numbers, equal, line_of, index_in, at_end, popped}
use Rattle.hy_core.specs.Control.{Form, Numbers, Flags, Tuples, Products, Arrays, Unknown, form, Ends, Control, Setting, count_one, with_some, trapped}
use Rattle.hy_core.specs.Control.{spot, read, take, read_number, read_flag, read_array, ToWrite}
use Rattle.hy_core.specs.Statements.{with_one, with_two, with_three, store_to, give, changes_one, arithmetic, compares, pop, swapped, swap, prints, reads}
use Rattle.hy_core.specs.Statements.{built, constant, Charge, Paid, Unpaid, charged}
use Rattle.hy_core.specs.Shaped.{IsOf, IsOfForm, Stores, One, Two, Three, Arithmetic, Compares, IsPlain, IsBuilt, IsConstant}
use Rattle.hy_core.proofs.Typed.{form_on, declared_with, Fits, FitsEach, each_end, each_popped, each_swapped, IsTyped, typed_store}
use Rattle.hy_core.proofs.TypedWalks.{Fine, over, Good, IsLocal, good_some, good_trap, good_index, good_spot, good_read, good_take, good_write}
use Rattle.hy_core.proofs.TypedWalks.{good_read_number, good_read_flag, good_read_array}

-- VALUES

-- a whole number or truth value
data Plain (x : Form) (v : Val) : Type 0 where
  number : (t : IntegerType) → x ≡ Numbers t → (i : ℤ) → v ≡ Number t i → Plain x v
  truth : x ≡ Flags → (b : Bool) → v ≡ Truth b → Plain x v

module _ (core : Core) (f : Fun) where
  plain : (x : Form) (v : Val) → IsPlain core f x → Fits core.types x v → is_whole v ≡ true → Plain x v
  plain x Unset is h w = absurd (cc)
  plain x (Number t i) is h w = number t h.0 i refl
  plain x (Truth b) is h w = truth h b refl
  plain x (Tuple vs) is h w = absurd (let e = h.1 in ⊎_elim (λ a. let g : x ≡ Numbers a.0 = a.1 in cc) (λ a. let g : x ≡ Flags = a in cc) is)
  plain x (Product d vs) is h w = absurd (let e = h.1 in ⊎_elim (λ a. let g : x ≡ Numbers a.0 = a.1 in cc) (λ a. let g : x ≡ Flags = a in cc) is)
  plain x (Array vs) is h w = absurd (let e = h.1 in ⊎_elim (λ a. let g : x ≡ Numbers a.0 = a.1 in cc) (λ a. let g : x ≡ Flags = a in cc) is)

  pub has_constant : (x : Form) (t : TyId) (n : ℤ) → x ≡ form core.types t → IsConstant core f x n → (v : Val) × (constant x n ≡ Some v) × Fits core.types x v
  has_constant (Numbers k) t n e is = (Number k n, refl, (refl, in_range k n is))
  has_constant Flags t n e (inl is) = (Truth false, ap (constant Flags) is, refl)
  has_constant Flags t n e (inr is) = (Truth true, ap (constant Flags) is, refl)
  has_constant (Tuples []) t n e is = (Tuple No, refl, ([], refl, tt))
  has_constant (Tuples (u ∷ us)) t n e is = absurd (let q = is.0 in cc)
  has_constant (Products d []) t n e is = (Product d No, refl, ([], refl, declared_with core.types t d [] (sym e), tt))
  has_constant (Products d (u ∷ us)) t n e is = absurd (let q = is.0 in cc)
  has_constant (Arrays u) t n e is = absurd is
  has_constant Unknown t n e is = absurd is

has_equal : (x : Form) (v w : Val) → Plain x v → Plain x w → (e : Bool) × (equal v w ≡ Some e)
has_equal x v w (number t a i e) (number u b j g) =
    let same : t ≡ u = cc in
    (same_numbers i j, (λ k. equal (e k) (g k)) ∙ ap (λ b. if b then Some (same_numbers i j) else None) (same_types t u same))
has_equal x v w (number t a i e) (truth b j g) = absurd (cc)
has_equal x v w (truth a i e) (number t b j g) = absurd (cc)
has_equal x v w (truth a i e) (truth b j g) = (same_flags i j, λ k. equal (e k) (g k))

has_line : (x : Form) (v : Val) → Plain x v → (line : List ℕ) × (line_of v ≡ Some line)
has_line x v (number t a i e) = (signed_decimal i ++ 10 ∷ [], ap line_of e)
has_line x v (truth a true e) = (codes "true" ++ 10 ∷ [], ap line_of e)
has_line x v (truth a false e) = (codes "false" ++ 10 ∷ [], ap line_of e)

-- ARGUMENTS

module _ (S : Control → Copies → Type 0) (core : Core) (f : Fun) where
  good_one : {A : Type 0} (c : Control) (xs : List A) (P : A → Type 0) (go : A → Interaction Control) (m : Copies) → One core f xs P
      → ((a : A) → P a → Good S (go a) m) → Good S (with_one c xs go) m
  good_one c [] P go m is h = absurd is
  good_one c (x ∷ []) P go m is h = h x is
  good_one c (x ∷ (y ∷ ys)) P go m is h = absurd is

  good_two : {A : Type 0} (c : Control) (xs : List A) (P : A → A → Type 0) (go : A → A → Interaction Control) (m : Copies) → Two core f xs P
      → ((a b : A) → P a b → Good S (go a b) m) → Good S (with_two c xs go) m
  good_two c [] P go m is h = absurd is
  good_two c (x ∷ xs) P go m is h = good_one c xs (P x) (go x) m is (h x)

  good_three : {A : Type 0} (c : Control) (xs : List A) (P : A → A → A → Type 0) (go : A → A → A → Interaction Control) (m : Copies) → Three core f xs P
      → ((a b d : A) → P a b d → Good S (go a b d) m) → Good S (with_three c xs go) m
  good_three c [] P go m is h = absurd is
  good_three c (x ∷ xs) P go m is h = good_two c xs (P x) (go x) m is (h x)

module _ (p : Setting) (S : Control → Copies → Type 0) (forms : Key → Form) (n : ℕ) (f : Fun) (Q : Control → Type 0)
    (up : (c : Control) (turns opened : ℕ) (input output : List ℕ) → Q c → Q (record c { turns = turns; opened = opened; input = input; output = output }))
    (local : (c : Control) → Q c → IsLocal p.core.types forms n f c)
    (done : (c : Control) (m : Copies) → Q c → IsTyped p.core.types forms n m → Fine S c m) where
  abbrev Typed : Copies → Type 0
  Typed m = IsTyped p.core.types forms n m

  -- for each state that stands there
  abbrev pub Always : (Control → Interaction Control) → Type 0
  Always go = (c : Control) (m : Copies) → Q c → Typed m → Good S (go c) m

  pub counts : (c : Control) → Q c → Q (count_one c)
  counts c x = up c c.turns (suc c.opened) c.input c.output x

  good_store : (to : Option Place) (u : TyId) (v : Val) → Stores p.core f to (IsOf p.core f u) → Fits p.core.types (form p.core.types u) v
      → Always (λ c. store_to p c to v)
  good_store None u v is fits c m x h = absurd is
  good_store (Some place) u v is fits c m x h = good_write p S forms n f Q counts local place u v Return is fits done c m x h

  store_form : (to : Option Place) (y : Form) (v : Val) → Stores p.core f to (IsOfForm p.core f y) → Fits p.core.types y v → Always (λ c. store_to p c to v)
  store_form None y v is fits c m x h = absurd is
  store_form (Some place) y v is fits c m x h =
      good_write p S forms n f Q counts local place is.0 v Return is.1 (subst (λ y. Fits p.core.types y v) (sym is.2) fits) done c m x h

  store_array : (to : Option Place) → Stores p.core f to (λ place. (t : TyId) × IsOfForm p.core f (Arrays t) place) → Always (λ c. store_to p c to (Array No))
  store_array None is c m x h = absurd is
  store_array (Some place) is c m x h = store_form (Some place) (Arrays is.0) (Array No) is.1 (is.0, refl, tt) c m x h

  good_give : (to : Option Place) (s : ℕ) (t : IntegerType) (r : Result Val TrapKind) → IsProper t r
      → Stores p.core f to (IsOfForm p.core f (Numbers t)) → s < length p.core.spans → Always (λ c. give p c to s r)
  good_give to s t (Ok v) proper is lt c m x h = store_form to (Numbers t) v is (proper_fits p.core.types t v proper).0 c m x h
  good_give to s t (Err kind) proper is lt c m x h = good_trap p S c kind s m lt

  number_of : (place : Place) (go : Control → ℤ → Interaction Control) → IsOfForm p.core f (Numbers Int) place → ((i : ℤ) → Always (λ c. go c i))
      → Always (λ c. read_number p c place go)
  number_of place go is next c m x h = good_read_number p S forms n f Q counts local place is.0 go is.1 is.2 (λ c m i x h. next i c m x h) c m x h

  flag_of : (place : Place) (go : Control → Bool → Interaction Control) → IsOfForm p.core f Flags place → ((b : Bool) → Always (λ c. go c b))
      → Always (λ c. read_flag p c place go)
  flag_of place go is next c m x h = good_read_flag p S forms n f Q counts local place is.0 go is.1 is.2 (λ c m i x h. next i c m x h) c m x h

  array_of : (place : Place) (t : TyId) (go : Control → Spot → Vals → Interaction Control) → IsOfForm p.core f (Arrays t) place
      → ((s : Spot) (vs : Vals) → s.key.act < n → form_on p.core.types (forms s.key) s.path ≡ Arrays t → FitsEach p.core.types t vs
      → Always (λ c. go c s vs)) → Always (λ c. read_array p c place go)
  array_of place t go is next c m x h =
      good_read_array p S forms n f Q counts local place is.0 t go is.1 is.2 (λ c m s vs x h lt e each. next s vs lt e each c m x h) c m x h

  changed : (s : Spot) (t : TyId) (vs : Vals) (m : Copies) → s.key.act < n → form_on p.core.types (forms s.key) s.path ≡ Arrays t
      → FitsEach p.core.types t vs → Typed m
      → Typed (copying.store m s (Array vs))
  changed s t vs m lt e each h = typed_store p.core.types forms n m h s (Array vs) lt (t, e, each)

  -- the value of a place of that form
  value_of : (place : Place) (y : Form) (go : Control → Val → Interaction Control) → IsOfForm p.core f y place
      → ((v : Val) → Fits p.core.types y v → is_whole v ≡ true → Always (λ c. go c v)) → Always (λ c. read p c place go)
  value_of place y go is next c m x h =
      good_read p S forms n f Q counts local place is.0 go is.1
      (λ c m v x h fits whole. next v (subst (λ y. Fits p.core.types y v) is.2 fits) whole c m x h) c m x h

  good_change : (to : Option Place) (a : Place) (spans : List ℕ) (t u : IntegerType) (g : Val → Option (Result Val TrapKind))
      → GivesOfOne t u g → Stores p.core f to (IsOfForm p.core f (Numbers t)) → IsOfForm p.core f (Numbers u) a
      → One p.core f spans (λ s. s < length p.core.spans) → Always (λ c. with_one c spans (λ s. read p c a (λ c v. with_some c (g v) (λ r. give p c to s r))))
  good_change to a spans t u g gives stores ia is c m x h = good_one S p.core f c spans _ _ m is (λ s lt.
      value_of a (Numbers u) _ ia (λ v fv vw c m x h.
      let r = one_gives p.core.types t u g gives v fv vw in
      good_some p S c (g v) _ m r.0 r.1 (good_give to s t r.0 r.2 stores lt c m x h)) c m x h)

  good_negates : (to : Option Place) (from : List Place) (spans : List ℕ) (t : IntegerType) → Stores p.core f to (IsOfForm p.core f (Numbers t))
      → One p.core f from (IsOfForm p.core f (Numbers t)) → One p.core f spans (λ s. s < length p.core.spans)
      → Always (λ c. changes_one p c to from spans negated)
  good_negates to from spans t stores is at c m x h = good_one S p.core f c from _ _ m is (λ a ia.
      good_change to a spans t t negated (negated_gives t) stores ia at c m x h)

  good_converts : (to : Option Place) (from : List Place) (spans : List ℕ) (t : IntegerType) → Stores p.core f to (IsOfForm p.core f (Numbers t))
      → One p.core f from (λ a. (u : IntegerType) × IsOfForm p.core f (Numbers u) a) → One p.core f spans (λ s. s < length p.core.spans)
      → Always (λ c. changes_one p c to from spans (converted t))
  good_converts to from spans t stores is at c m x h = good_one S p.core f c from _ _ m is (λ a ia.
      let wa : IsOfForm p.core f (Numbers ia.0) a = ia.1 in
      good_change to a spans t ia.0 (converted t) (converted_gives t ia.0) stores wa at c m x h)

  good_arithmetic : (to : Option Place) (from : List Place) (spans : List ℕ) (g : Val → Val → Option (Result Val TrapKind)) → GivesOfTwo g
      → Arithmetic p.core f to from spans → Always (λ c. arithmetic p c to from spans g)
  good_arithmetic to from spans g gives is c m x h = good_two S p.core f c from _ _ m is.2 (λ a b ab.
      good_one S p.core f c spans _ _ m is.3 (λ s lt.
      value_of a (Numbers is.0) _ ab.0 (λ v fv vw. value_of b (Numbers is.0) _ ab.1 (λ w fw ww c m x h.
      let r = two_give p.core.types is.0 g gives v w fv vw fw ww in
      good_some p S c (g v w) _ m r.0 r.1 (good_give to s is.0 r.0 r.2 is.1 lt c m x h))) c m x h))

  good_compares : (to : Option Place) (from : List Place) (spans : List ℕ) (g : Val → Val → Option Bool) → TellsOfTwo g
      → Compares p.core f to from spans → Always (λ c. compares p c to from g)
  good_compares to from spans g tells is c m x h = good_two S p.core f c from _ _ m is.1 (λ a b ab.
      let wa : IsOfForm p.core f (Numbers ab.0) a = ab.1 in
      let wb : IsOfForm p.core f (Numbers ab.0) b = ab.2 in
      value_of a (Numbers ab.0) _ wa (λ v fv vw. value_of b (Numbers ab.0) _ wb (λ w fw ww c m x h.
      let e = two_tell p.core.types ab.0 g tells v w fv vw fw ww in
      good_some p S c (g v w) _ m e.0 e.1 (store_form to Flags (Truth e.0) is.0 refl c m x h))) c m x h)

  good_pop : (to : Option Place) (s : ℕ) (at : Spot) (t : TyId) (vs : Vals) → Stores p.core f to (IsOf p.core f t) → s < length p.core.spans → at.key.act < n
      → form_on p.core.types (forms at.key) at.path ≡ Arrays t → FitsEach p.core.types t vs → Always (λ c. pop p c to s at vs)
  good_pop to s at t No is lt la e each c m x h = good_trap p S c trap.Empty s m lt
  good_pop to s at t (And v vs) is lt la e each c m x h =
      let r = each_popped p.core.types t v vs each.0 each.1 in
      good_store to t (popped v vs).last is r.1 c _ x (changed at t (popped v vs).rest m la e r.0 h)

  good_swap : (array a b : Place) (s t : ℕ) (u : TyId) → IsOfForm p.core f (Arrays u) array → IsOfForm p.core f (Numbers Int) a
      → IsOfForm p.core f (Numbers Int) b → s < length p.core.spans → t < length p.core.spans
      → Always (λ c. swap p c array a b s t)
  good_swap array a b s t u is na nb ls lt = number_of a _ na (λ i. number_of b _ nb (λ j. array_of array u _ is (λ at vs la e each c m x h.
      good_index p S c s (index_in (many vs) i) _ m ls (λ i. good_index p S c t (index_in (many vs) j) _ m lt (λ j.
      done c _ x (changed at u (swapped i j vs) m la e (each_swapped p.core.types u i j vs each) h))))))

  good_prints : (line : List ℕ) → Always (λ c. prints c (Some line))
  good_prints line c m x h = done (record c { output = c.output ++ line }) m (up c c.turns c.opened c.input (c.output ++ line) x) h

  good_reads : (to : Option Place) (s : ℕ) (got : Got) → Stores p.core f to (IsOfForm p.core f (Numbers Int)) → s < length p.core.spans
      → Always (λ c. reads p c to s got)
  good_reads to s (lines.Gives k rest) is lt c m x h =
      store_form to (Numbers Int) (Number Int k) is (refl, tt) (record c { input = rest }) m (up c c.turns c.opened rest c.output x) h
  good_reads to s (lines.Fails rest) is lt c m x h = good_trap p S (record c { input = rest }) trap.Input s m lt
  good_reads to s lines.Wants is lt c m x h = over (Ends end.Asks) refl (λ e. absurd (cc))

  good_check : (s : ℕ) (b : Bool) → s < length p.core.spans → Always (λ c. cond b (Return c) (trapped p c trap.Precondition s))
  good_check s true lt c m x h = done c m x h
  good_check s false lt c m x h = good_trap p S c trap.Precondition s m lt

  good_equal : (to : Option Place) (from : List Place) → Stores p.core f to (IsOfForm p.core f Flags)
      → Two p.core f from (λ a b. (x : Form) × IsPlain p.core f x × IsOfForm p.core f x a × IsOfForm p.core f x b)
      → Always (λ c. compares p c to from equal)
  good_equal to from stores is c m x h = good_two S p.core f c from _ _ m is (λ a b ab.
      let wa : IsOfForm p.core f ab.0 a = ab.2 in
      let wb : IsOfForm p.core f ab.0 b = ab.3 in
      good_read p S forms n f Q counts local a wa.0 _ wa.1 (λ c m v x h fv vw. good_read p S forms n f Q counts local b wb.0 _ wb.1 (λ c m w x h fw ww.
      let e = has_equal ab.0 v w (plain p.core f ab.0 v ab.1 (subst (λ y. Fits p.core.types y v) wa.2 fv) vw)
      (plain p.core f ab.0 w ab.1 (subst (λ y. Fits p.core.types y w) wb.2 fw) ww) in
      good_some p S c (equal v w) _ m e.0 e.1 (store_form to Flags (Truth e.0) stores refl c m x h)) c m x h) c m x h)

  good_print : (from : List Place) → One p.core f from (λ a. (x : Form) × IsPlain p.core f x × IsOfForm p.core f x a)
      → Always (λ c. with_one c from (λ a. read p c a (λ c v. prints c (line_of v))))
  good_print from is c m x h = good_one S p.core f c from _ _ m is (λ a ia.
      let wa : IsOfForm p.core f ia.0 a = ia.2 in
      good_read p S forms n f Q counts local a wa.0 _ wa.1 (λ c m v x h fv vw.
      let e = has_line ia.0 v (plain p.core f ia.0 v ia.1 (subst (λ y. Fits p.core.types y v) wa.2 fv) vw) in
      subst (λ line. Good S (prints c line) m) (sym e.1) (good_prints e.0 c m x h)) c m x h)

  good_push : (from : List Place) → Two p.core f from (λ array a. (t : TyId) × IsOfForm p.core f (Arrays t) array × IsOf p.core f t a)
      → Always (λ c. with_two c from
      (λ array a. take p c a (λ c v. read_array p c array (λ c at vs. Perform (effect.Change at (Array (at_end vs v))) (Return c)))))
  good_push from is c m x h = good_two S p.core f c from _ _ m is (λ array a ab.
      let wa : IsOf p.core f ab.0 a = ab.2 in
      good_take p S forms n f Q counts local effect.Moved a ab.0 _ wa (λ c m v x h fv. array_of array ab.0 _ ab.1 (λ at vs la e each c m x h.
      done c _ x (changed at ab.0 (at_end vs v) m la e (each_end p.core.types ab.0 vs v each fv) h)) c m x h) c m x h)

  pub good_built : (o : Operator) (to : Option Place) (from : List Place) (spans : List ℕ) → IsBuilt p.core f o to from spans
      → Always (λ c. built p c o to from spans)
  good_built Add to from spans is = good_arithmetic to from spans _ (operated_gives operation.Add) is
  good_built Sub to from spans is = good_arithmetic to from spans _ (operated_gives operation.Sub) is
  good_built Mul to from spans is = good_arithmetic to from spans _ (operated_gives operation.Mul) is
  good_built Div to from spans is = good_arithmetic to from spans _ (operated_gives operation.Div) is
  good_built Rem to from spans is = good_arithmetic to from spans _ (operated_gives operation.Rem) is
  good_built Neg to from spans is = good_negates to from spans is.0 is.2 is.3 is.4
  good_built (Convert t) to from spans is = good_converts to from spans t is.0 is.1 is.2
  good_built Eq to from spans is = good_equal to from is.0 is.1
  good_built Lt to from spans is = good_compares to from spans _ (ordered_tells int_lt) is
  good_built Le to from spans is = good_compares to from spans _ (ordered_tells int_le) is
  good_built Not to from spans is =
      λ c m x h. good_one S p.core f c from _ _ m is.1 (λ a ia. flag_of a _ ia (λ b. store_form to Flags (Truth (not b)) is.0 refl) c m x h)
  good_built NewArray to from spans is = store_array to is.0
  good_built Push to from spans is = good_push from is.1
  good_built Pop to from spans is = λ c m x h. good_one S p.core f c from _ _ m is.0 (λ array ia. good_one S p.core f c spans _ _ m is.1 (λ s lt.
      array_of array ia.0 _ ia.1 (λ at vs la e each. good_pop to s at ia.0 vs ia.2 lt la e each) c m x h))
  good_built Swap to from spans is = λ c m x h. good_three S p.core f c from _ _ m is.1 (λ array a b is3. good_two S p.core f c spans _ _ m is.2 (λ s t st.
      let wb : IsOfForm p.core f (Numbers Int) b = is3.3 in
      good_swap array a b s t is3.0 is3.1 is3.2 wb st.0 st.1 c m x h))
  good_built Count to from spans is = λ c m x h. good_one S p.core f c from _ _ m is.1 (λ array ia.
      let wa : IsOfForm p.core f (Arrays ia.0) array = ia.1 in
      array_of array ia.0 _ wa (λ at vs la e each. store_form to (Numbers Int) (Number Int (pos (many vs))) is.0 (refl, tt)) c m x h)
  good_built FreeArray to from spans is = λ c m x h. good_one S p.core f c from _ _ m is.1 (λ array ia.
      let wa : IsOfForm p.core f (Arrays ia.0) array = ia.1 in
      array_of array ia.0 _ wa (λ at vs la e each c m x h. done c _ x (typed_store p.core.types forms n m h at Unset la tt)) c m x h)
  good_built Print to from spans is = good_print from is.1
  good_built Read to from spans is = λ c m x h. good_one S p.core f c spans _ _ m is.2 (λ s lt. good_reads to s (read_line p.cut c.input) is.0 lt c m x h)
  good_built Check to from spans is = λ c m x h. good_one S p.core f c from _ _ m is.1 (λ a ia. good_one S p.core f c spans _ _ m is.2 (λ s lt.
      flag_of a _ ia (λ b. good_check s b lt) c m x h))

  pub good_constant : (place : Place) (t : TyId) (k : ℤ) → IsOf p.core f t place → IsConstant p.core f (form p.core.types t) k
      → Always (λ c. spot p ToWrite c place (λ c s t. with_some c (constant (form p.core.types t) k) (λ v. Perform (effect.Store s v) (Return c))))
  good_constant place t k is con = good_spot p S forms n f Q counts local ToWrite place t _ tt is (λ c m s x h lt e.
      let v = has_constant p.core f (form p.core.types t) t k refl con in
      good_some p S c (constant (form p.core.types t) k) _ m v.0 v.1
      (done c _ x (typed_store p.core.types forms n m h s v.0 lt (subst (λ y. Fits p.core.types y v.0) (sym e) v.2))))

  pub good_charged : (x : Charge) (go : Control → Interaction Control) → Always go → Always (λ c. charged c x go)
  good_charged (Paid k o) go next c m x h = next (record c { turns = k; opened = o }) m (up c k o c.input c.output x) h
  good_charged (Unpaid o) go next c m x h = over (Ends end.Spent) refl (λ e. absurd (cc))
