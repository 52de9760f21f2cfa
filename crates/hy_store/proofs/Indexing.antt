-- Checks that may trap, and the ranges of elements.
use Rattle.std.proofs.Common.{◌≡◌, ◌≤◌, ◌+◌, ◌-◌, ◌*◌, ◌<◌, ◌&&◌, not, ◌⊎◌, inl, inr, ℕ, zero, suc, ℤ, pos, negsuc, Bool, true, false, cond, nat_le, nat_lt}
use Rattle.std.proofs.Common.{List, Option, Some, None, IsErrAnd, Result, Ok, Err, refl, sym, ap, subst, ◌∙◌, arith}
use Rattle.std.specs.Bool.{Decides}
use Rattle.std.proofs.lemmas.Bool.Decides.{nat_tests}
use Rattle.std.proofs.lemmas.Nat.{mul-le}
use Rattle.hy_access.specs.declared.access.AccId.{AccId}
use Rattle.hy_access.specs.declared.access.Range.{Range}
use Rattle.hy_access.specs.Accesses.{IsLiveIfGiven, Meets}
use Rattle.hy_base.specs.declared.run.End.TheVariants as end
use Rattle.hy_base.specs.declared.run.TrapKind.{TrapKind}
use Rattle.hy_base.specs.declared.run.TrapKind.TheVariants as trap
use Rattle.hy_object.specs.declared.object.Fun.{Fun}
use Rattle.hy_object.specs.declared.object.Object.{Object}
use Rattle.hy_object.specs.declared.stuck.Kind.TheVariants as kind
use Rattle.hy_object.specs.Arrays.{is_apart, is_inside}
use Rattle.hy_object.specs.Checks.{Reach, check, span_of, stuck, traps}
use Rattle.hy_object.specs.Elements.{element, index_in, room, with_some_index}
use Rattle.hy_object.specs.States as machine
use Rattle.hy_object.specs.States.{State, nth}
use Rattle.hy_store.specs.declared.halt.Halt.{Halt}
use Rattle.hy_store.specs.declared.halt.Halt.TheVariants as halt
use Rattle.hy_store.specs.declared.store.Store.{Store}
use Rattle.hy_store.specs.Cells.{Cell}
use Rattle.hy_store.specs.Elements.{Follows, Halts, after_last, clear, element_of, indexed, last, last_number, natural, range_in}
use Rattle.hy_store.specs.Memory.{live, HasCells}
use Rattle.hy_store.specs.Opened.{abstract_range}
use Rattle.hy_store.specs.Executes.{MemoryUse, StoreExecutes}
use Rattle.hy_store.specs.Represents.{Ghosts, RepresentsSome, Reaches, Represents}
use Rattle.hy_store.proofs.Counted.{meets_is}

-- CHECKS THAT MAY TRAP

replied : (memory : MemoryUse) (h : Halt) (fun : Fun) (old new : Store) (step : State → State) → RepresentsSome old fun
    → ((g : Ghosts) (s : State) → Represents g old fun s → Halts s h (step s)) → StoreExecutes memory fun old new (Err h) step
replied memory (halt.Stuck why) fun old new step represented f = f
replied memory (halt.Ended e) fun old new step represented f = (λ g s represents. (f g s represents).0, (f represented.0 represented.1 represented.2).1)
replied memory (halt.Cut c) fun old new step represented f = absurd (f represented.0 represented.1 represented.2)

-- a halt that is handed on as it is
pub told_halts : (memory : MemoryUse) (r : Result (Unit {0}) Halt) (h : Halt) (fun : Fun) (old new : Store) (step : State → State) → RepresentsSome old fun
    → IsErrAnd r (λ x. x ≡ h) → ((g : Ghosts) (s : State) → Represents g old fun s → Halts s h (step s)) → StoreExecutes memory fun old new r step
told_halts memory (Ok done) h fun old new step represented e f = absurd e
told_halts memory (Err x) h fun old new step represented e f =
    subst (λ y. StoreExecutes memory fun old new (Err y) step) (sym e) (replied memory h fun old new step represented f)

pub halted : (s : State) (h : Halt) (t u : State) → t ≡ u → Halts s h u → Halts s h t
halted s h t u e is = subst (Halts s h) (sym e) is

-- a halt that is handed on as it is
pub handed_halt : {A : Type 0} (s : State) (r : Result A Halt) (h : Halt) (go : A → State) (t : State) → IsErrAnd r (λ x. x ≡ h) → Halts s h t
    → Follows s r go t
handed_halt s (Ok a) h go t e is = absurd e
handed_halt s (Err x) h go t e is = subst (λ y. Halts s y t) (sym e) is

-- RANGES OF ELEMENTS

chosen : {A : Type 0} (b : Bool) (x y : A) → cond b (Some x) None ≡ Some y → (b ≡ true) × (x ≡ y)
chosen true x y h = (refl, cc)
chosen false x y h = absurd (cc)

not_chosen : {A : Type 0} (b : Bool) (x : A) → cond b (Some x) None ≡ None → b ≡ false
not_chosen true x h = absurd (cc)
not_chosen false x h = refl

clear_some : (o : Option Range) (a b : machine.Range) (r : Range) → clear o a b ≡ Some r → (o ≡ Some r) × (is_apart (abstract_range r) a b ≡ true)
clear_some None a b r h = absurd (cc)
clear_some (Some q) a b r h =
    let p = chosen (is_apart (abstract_range q) a b) q r h in
    (ap (λ (x : Range). Some x) p.1, ap (λ (x : Range). is_apart (abstract_range x) a b) (sym p.1) ∙ p.0)

clear_none : (o : Option Range) (a b : machine.Range) → clear o a b ≡ None → (o ≡ None)
    ⊎ ((q : Range) × (o ≡ Some q) × (is_apart (abstract_range q) a b ≡ false))
clear_none None a b h = inl refl
clear_none (Some q) a b h = inr (q, refl, not_chosen (is_apart (abstract_range q) a b) q h)

le_then : (a b : ℕ) → nat_le a b ≡ true → a ≤ b
le_then a b h = grind (arith, nat_tests)

lt_then : (a b : ℕ) → nat_lt a b ≡ true → a < b
lt_then a b h = grind (arith, nat_tests)

lt_so : (a b : ℕ) → a < b → nat_lt a b ≡ true
lt_so a b h = grind (arith, nat_tests)

le_so : (a b : ℕ) → a ≤ b → nat_le a b ≡ true
le_so a b h = grind (arith, nat_tests)

module _ (block k width words : ℕ) (r : Range) (is : range_in block k width words ≡ Some r) where
  pub range_fits : nat_le (k * width + width) words ≡ true
  range_fits = (chosen {A = Range} (nat_le (k * width + width) words) (record { block = block; from = k * width; len = width }) r is).0

  range_is : record { block = block; from = k * width; len = width } ≡ r
  range_is = (chosen {A = Range} (nat_le (k * width + width) words) (record { block = block; from = k * width; len = width }) r is).1

  pub range_told : element block k width ≡ abstract_range r
  range_told = ap abstract_range range_is

  -- the cells of the element exist
  pub range_reached : (store : Store) (through : Option AccId) → IsLiveIfGiven through store.opened.accesses → HasCells (live store.blocks block) 0 words
      → Reaches store width (record { range = r; through = through })
  range_reached store through lives size =
      subst (λ (q : Range). Reaches store width (record { range = q; through = through })) range_is
      (record { through = lives; cells = there (live store.blocks block) size; len = refl })
    where
      there : (found : Option (List Cell)) → HasCells found 0 words → HasCells found (k * width) width
      there None h = absurd h
      there (Some cells) h = let le = le_then (k * width + width) words range_fits in omega (arith, le, h)

pub range_none : (block k width words : ℕ) → range_in block k width words ≡ None → nat_le (k * width + width) words ≡ false
range_none block k width words h = not_chosen {A = Range} (nat_le (k * width + width) words) (record { block = block; from = k * width; len = width }) h

-- ELEMENTS BY THEIR INDEX

module _ (object : Object) (s : State) (span : ℕ) (x : Reach) (block : ℕ) (index count : ℤ) (width : ℕ) (go : Reach → State) where
  abbrev rest : ℕ → State
  rest k = check s kind.Range (is_inside s (element block k width)) (go (element_of x block k width))

  pub not_indexed : index_in index count ≡ None → indexed object s span x block index count width go ≡ traps object s trap.Index span
  not_indexed h = ap (λ o. with_some_index object s span o rest) h

  module _ (k words : ℕ) (is : index_in index count ≡ Some k) (size : s.words block ≡ words) where
    numbered : indexed object s span x block index count width go ≡ check s kind.Range (nat_le (k * width + width) words) (go (element_of x block k width))
    numbered = ap (λ o. with_some_index object s span o rest) is
        ∙ ap (λ n. check s kind.Range (nat_le (k * width + width) n) (go (element_of x block k width))) size

    pub indexed_outside : range_in block k width words ≡ None → indexed object s span x block index count width go ≡ stuck s kind.Range
    indexed_outside h = numbered ∙ ap (λ t. check s kind.Range t (go (element_of x block k width))) (range_none block k width words h)

    pub indexed_is : (r : Range) → range_in block k width words ≡ Some r
        → indexed object s span x block index count width go ≡ go (record { range = abstract_range r; way = x.way; chain = x.chain })
    indexed_is r h =
        numbered ∙ ap (λ t. check s kind.Range t (go (element_of x block k width))) (range_fits block k width words r h)
        ∙ ap (λ (q : machine.Range). go (record { range = q; way = x.way; chain = x.chain })) (range_told block k width words r h)

-- ELEMENTS THAT MOVE

module _ (s : State) (x y : Reach) (block k width words : ℕ) (size : s.words block ≡ words) where
  abbrev apart : Bool
  apart = is_apart (element block k width) x.range y.range

  abbrev found : Option Range
  found = clear (range_in block k width words) x.range y.range

  pub found_range : (r : Range) → found ≡ Some r → range_in block k width words ≡ Some r
  found_range r h = (clear_some (range_in block k width words) x.range y.range r h).0

  found_apart : (r : Range) → found ≡ Some r → apart ≡ true
  found_apart r h =
      let p = clear_some (range_in block k width words) x.range y.range r h in
      ap (λ (q : machine.Range). is_apart q x.range y.range) (range_told block k width words r p.0) ∙ p.1

  not_found : found ≡ None → (nat_le (k * width + width) words && apart) ≡ false
  not_found h = elim (clear_none (range_in block k width words) x.range y.range h) [
    | inl none ↦ ap (λ t. t && apart) (range_none block k width words none)
    | inr p ↦
        let inside = range_fits block k width words p.0 p.1 in
        let meeting : apart ≡ false = ap (λ (q : machine.Range). is_apart q x.range y.range) (range_told block k width words p.0 p.1) ∙ p.2 in
        λ i. inside i && meeting i
  ]

  wide : width ≤ room width
  wide = wider width
    where
      wider : (n : ℕ) → n ≤ room n
      wider zero = omega arith
      wider (suc n) = omega arith

  below_room : nat_le (suc k * room width) words ≡ true → nat_le (k * width + width) words ≡ true
  below_room h = under k width (room width) words wide h
    where
      under : (k m n words : ℕ) → m ≤ n → nat_le (suc k * n) words ≡ true → nat_le (k * m + m) words ≡ true
      under k m n words le h =
          let a : suc k * m ≤ suc k * n = mul-le (suc k) m (suc k) n (omega arith) le in
          let b = le_then (suc k * n) words h in
          le_so (k * m + m) words (omega (arith, a, b))

  module _ (go : machine.Range → ℤ → State) where
    behind_tested : (b c : Bool) → nat_le (suc k * room width) words ≡ b → apart ≡ c
        → after_last s x block (pos k) y width go ≡ check s kind.Range (b && c) (go (element block k width) (pos (suc k)))
    behind_tested b c h e =
        let r : nat_le (suc k * room width) (s.words block) ≡ b = ap (λ n. nat_le (suc k * room width) n) size ∙ h in
        λ i. check s kind.Range (r i && e i) (go (element block k width) (pos (suc k)))

    pub no_room : nat_le (suc k * room width) words ≡ false → after_last s x block (pos k) y width go ≡ stuck s kind.Range
    no_room h = behind_tested false apart h refl

    module _ (roomy : nat_le (suc k * room width) words ≡ true) where
      pub not_behind : found ≡ None → after_last s x block (pos k) y width go ≡ stuck s kind.Range
      not_behind h = behind_tested true false roomy (second (nat_le (k * width + width) words) apart (below_room roomy) (not_found h))
        where
          second : (a b : Bool) → a ≡ true → (a && b) ≡ false → b ≡ false
          second a b h e = sym (ap (λ t. t && b) h) ∙ e

      pub behind_is : (r : Range) → found ≡ Some r → after_last s x block (pos k) y width go ≡ go (abstract_range r) (pos (suc k))
      behind_is r h = behind_tested true true roomy (found_apart r h)
          ∙ ap (λ (q : machine.Range). go q (pos (suc k))) (range_told block k width words r (found_range r h))

    module _ (object : Object) (span : ℕ) where
      last_tested : (b c : Bool) → nat_le (k * width + width) words ≡ b → apart ≡ c
          → last object s x block (pos (suc k)) y width span go ≡ check s kind.Range (b && c) (go (element block k width) (pos k))
      last_tested b c h e =
          let r : nat_le (k * width + width) (s.words block) ≡ b = ap (λ n. nat_le (k * width + width) n) size ∙ h in
          λ i. check s kind.Range (r i && e i) (go (element block k width) (pos k))

      pub not_last : found ≡ None → last object s x block (pos (suc k)) y width span go ≡ stuck s kind.Range
      not_last h = last_tested (nat_le (k * width + width) words) apart refl refl
          ∙ ap (λ t. check s kind.Range t (go (element block k width) (pos k))) (not_found h)

      pub last_is : (r : Range) → found ≡ Some r → last object s x block (pos (suc k)) y width span go ≡ go (abstract_range r) (pos k)
      last_is r h = last_tested true true (range_fits block k width words r (found_range r h)) (found_apart r h)
          ∙ ap (λ (q : machine.Range). go q (pos k)) (range_told block k width words r (found_range r h))

-- COUNTS

pub natural_is : (z : ℤ) (n : ℕ) → natural z ≡ Some n → z ≡ pos n
natural_is (pos m) n h = let e : m ≡ n = cc in ap (λ k. pos k) e
natural_is (negsuc m) n h = absurd (cc)

pub no_count : (s : State) (x : Reach) (block : ℕ) (z : ℤ) (y : Reach) (width : ℕ) (go : machine.Range → ℤ → State) → natural z ≡ None
    → after_last s x block z y width go ≡ stuck s kind.Range
no_count s x block (pos n) y width go h = absurd (cc)
no_count s x block (negsuc n) y width go h = refl

pub last_number_is : (z : ℤ) (k : ℕ) → last_number z ≡ Some k → z ≡ pos (suc k)
last_number_is (pos n) k h =
    let p = chosen (nat_lt 0 n) (n - 1) k h in
    let less = lt_then 0 n p.0 in
    let e : n ≡ suc k = omega (arith, less, p.1) in
    ap (λ m. pos m) e
last_number_is (negsuc n) k h = absurd (cc)

pub no_last : (object : Object) (s : State) (x : Reach) (block : ℕ) (z : ℤ) (y : Reach) (width span : ℕ) (go : machine.Range → ℤ → State)
    → last_number z ≡ None → last object s x block z y width span go ≡ traps object s trap.Empty span
no_last object s x block (negsuc n) y width span go h = refl
no_last object s x block (pos zero) y width span go h = refl
no_last object s x block (pos (suc k)) y width span go h =
    let no = not_chosen (nat_lt 0 (suc k)) (suc k - 1) h in
    absurd (differ (sym (lt_so 0 (suc k) (omega arith)) ∙ no))
  where
    differ : true ≡ false → ⊥
    differ h = cc

pub room_tested : (n each width words : ℕ) (result : Bool) → each ≡ room width → result ≡ nat_le ((n + 1) * each) words
    → nat_le (suc n * room width) words ≡ result
room_tested n each width words result e is = sym (is ∙ ap (λ m. nat_le (m * each) words) (one_more n) ∙ ap (λ m. nat_le (suc n * m) words) e)
  where
    one_more : (m : ℕ) → m + 1 ≡ suc m
    one_more m = omega arith

-- an array with room for one more has fewer elements than its block has words
pub few : (n width words : ℕ) → nat_le (suc n * room width) words ≡ true → n < words
few n zero words h = let le = le_then (suc n * 1) words h in omega (arith, le)
few n (suc m) words h =
    let le = le_then (suc n * suc m) words h in
    let a : suc n * 1 ≤ suc n * suc m = mul-le (suc n) 1 (suc n) (suc m) (omega arith) (omega arith) in
    omega (arith, le, a)

-- TRAPS

pub trapped : (object : Object) (s : State) (why : TrapKind) (span : ℕ) (h : Halt) (t : State)
    → h ≡ halt.Ended (end.Trap why (span_of (nth object.spans span))) → t ≡ traps object s why span → Halts s h t
trapped object s why span h t e is = subst (λ (x : Halt). Halts s x t) (sym e) (is, λ h. cc)

-- a range that meets neither of two others, by the program's tests
pub apart_is : (r a b : Range) (x y : Bool) → Decides x (Meets r a) → Decides y (Meets r b)
    → is_apart (abstract_range r) (abstract_range a) (abstract_range b) ≡ (not x && not y)
apart_is r a b x y one other =
    let first = meets_is r a x one in
    let second = meets_is r b y other in
    λ i. not (first i) && not (second i)
