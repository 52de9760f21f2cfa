-- What the table of names has at each node.
use Rattle.std.proofs.Common.{◌≡◌, ◌<◌, ◌≤◌, ◌+◌, ◌⊎◌, inl, inr, ⊎_elim, ℕ, zero, suc, List, [], ◌∷◌, Some, length, get_or, min, ◌^◌, ◌-◌, refl, sym, ap}
use Rattle.std.proofs.Common.{subst, ◌∙◌, arith, Contains, replicate, slice_get, slice_set}
use Rattle.std.specs.List.{range_with_len}
use Rattle.hy_base.specs.declared.position.Span.{Span}
use Rattle.hy_base.specs.declared.refusal.Rule.{Rule}
use Rattle.hy_tree.specs.Findings.{Finding, Stands, Broken, findings, meanings, nodes, stood}
use Rattle.hy_tree.specs.Numbers.{count_program, nodes_program}
use Rattle.hy_tree.specs.Preorder.{IsNumbered}
use Rattle.hy_tree.specs.Tree.{Program}
use Rattle.hy_tree.specs.declared.meant.Meant.{Meant}
use Rattle.hy_tree.specs.declared.meant.Meant.TheVariants as meant
use Rattle.hy_scope.specs.FoundNames.{HasFoundNames}
use Rattle.hy_scope.proofs.NodesFound.{StandAt, nothing, skipped, broken, stands, program_at}

-- LISTS

module _ {A : Type 0} where
  set_size : (xs : List A) (i : ℕ) (a : A) → length (slice_set xs i a) ≡ length xs
  set_size [] i a = refl
  set_size (x ∷ xs) zero a = refl
  set_size (x ∷ xs) (suc i) a = ap suc (set_size xs i a)

  set_here : (xs : List A) (i : ℕ) (a : A) → i < length xs → slice_get (slice_set xs i a) i ≡ Some a
  set_here [] i a l = absurd (omega (arith, l))
  set_here (x ∷ xs) zero a l = refl
  set_here (x ∷ xs) (suc i) a l = set_here xs i a (omega (arith, l))

  set_elsewhere : (xs : List A) (i k : ℕ) (a : A) → (i ≡ k → ⊥) → slice_get (slice_set xs i a) k ≡ slice_get xs k
  set_elsewhere [] i k a other = refl
  set_elsewhere (x ∷ xs) zero zero a other = absurd (other refl)
  set_elsewhere (x ∷ xs) zero (suc k) a other = refl
  set_elsewhere (x ∷ xs) (suc i) zero a other = refl
  set_elsewhere (x ∷ xs) (suc i) (suc k) a other = set_elsewhere xs i k a (λ e. other (ap suc e))

  repeated_size : (n : ℕ) (a : A) → length (replicate n a) ≡ n
  repeated_size zero a = refl
  repeated_size (suc n) a = ap suc (repeated_size n a)

  repeated : (n k : ℕ) (a : A) → k < n → slice_get (replicate n a) k ≡ Some a
  repeated zero k a l = absurd (omega (arith, l))
  repeated (suc n) zero a l = refl
  repeated (suc n) (suc k) a l = repeated n k a (omega (arith, l))

-- numbers that rise, from a on and below b
abbrev Rise : ℕ → ℕ → List ℕ → Type 0
Rise a b [] = Unit {0}
Rise a b (n ∷ ns) = (a ≤ n) × (n < b) × Rise (suc n) b ns

range_rises : (n a b : ℕ) → a + n ≤ b → Rise a b (range_with_len a n)
range_rises zero a b l = tt
range_rises (suc n) a b l = let next : suc a ≡ a + 1 = omega arith in
    (omega arith, omega (arith, l), subst (λ c. Rise c b (range_with_len (a + 1) n)) (sym next) (range_rises n (a + 1) b (omega (arith, l))))

-- THE TABLE

abbrev In : Finding → List Finding → Type 0
In f [] = ⊥
In f (g ∷ gs) = (g ≡ f) ⊎ In f gs

inside : (fs : List Finding) (f : Finding) → Contains fs f → In f fs
inside fs f h = at fs h.0 h.1 h.2
  where
    at : (fs : List Finding) (k : ℕ) → k < length fs → get_or fs k f ≡ f → In f fs
    at [] k l e = absurd (omega (arith, l))
    at (g ∷ gs) zero l e = inl e
    at (g ∷ gs) (suc k) l e = inr (at gs k (omega arith) e)

contained : (fs : List Finding) (f : Finding) → In f fs → Contains fs f
contained [] f h = absurd h
contained (g ∷ gs) f h = ⊎_elim (λ e. (0, omega arith, e)) (λ k. let c = contained gs f k in let l = c.1 in (suc c.0, omega (arith, l), c.2)) h

stood_size : (fs : List Finding) (table : List Meant) → length (stood fs table) ≡ length table
stood_size [] table = refl
stood_size (Stands node meaning ∷ fs) table = stood_size fs (slice_set table node meaning) ∙ set_size table node meaning
stood_size (Broken rule span ∷ fs) table = stood_size fs table

-- at nodes before those where something is found
kept : {fs : List Finding} {ns : List ℕ} → StandAt fs ns → (a b : ℕ) → Rise a b ns → (table : List Meant) (k : ℕ) → k < a → slice_get (stood fs table) k
    ≡ slice_get table k
kept nothing a b rise table k l = refl
kept (skipped {n} h) a b rise table k l = let from = rise.0 in kept h (suc n) b rise.2 table k (omega (arith, from, l))
kept (broken h) a b rise table k l = kept h a b rise table k l
kept (stands {n} {meaning} h) a b rise table k l =
    let from = rise.0 in
    kept h (suc n) b rise.2 (slice_set table n meaning) k (omega (arith, from, l)) ∙ set_elsewhere table n k meaning (λ e. omega (arith, from, l, e))

same_node : (n k : ℕ) (m o : Meant) → Stands n m ≡ Stands k o → n ≡ k
same_node n k m o h = cc

same_meaning : (n k : ℕ) (m o : Meant) → Stands n m ≡ Stands k o → m ≡ o
same_meaning n k m o h = cc

-- at a node where something is found
found : {fs : List Finding} {ns : List ℕ} → StandAt fs ns → (a b : ℕ) → Rise a b ns → (table : List Meant) → b ≤ length table → (k : ℕ) (m : Meant)
    → In (Stands k m) fs → slice_get (stood fs table) k ≡ Some m
found nothing a b rise table size k m h = absurd h
found (skipped {n} h) a b rise table size k m i = found h (suc n) b rise.2 table size k m i
found (broken {rule} {span} h) a b rise table size k m i = ⊎_elim (λ (e : Broken rule span ≡ Stands k m). absurd (cc))
    (λ i. found h a b rise table size k m i) i
found (stands {fs} {n} {meaning} h) a b rise table size k m i =
    let below = rise.1 in
    let there = set_size table n meaning in
    ⊎_elim (λ e.
    subst (λ k. slice_get (stood fs (slice_set table n meaning)) k ≡ Some m) (same_node n k meaning m e)
    (kept h (suc n) b rise.2 (slice_set table n meaning) n (omega arith) ∙ set_here table n meaning (omega (arith, below, size))
    ∙ ap Some (same_meaning n k meaning m e)))
    (λ i. found h (suc n) b rise.2 (slice_set table n meaning) (omega (arith, size, there)) k m i) i

-- at a node where nothing is found
other : (fs : List Finding) (table : List Meant) (k : ℕ) → ((m : Meant) → In (Stands k m) fs → ⊥) → slice_get (stood fs table) k ≡ slice_get table k
other [] table k none = refl
other (Stands node meaning ∷ fs) table k none =
    other fs (slice_set table node meaning) k (λ m i. none m (inr i))
    ∙ set_elsewhere table node k meaning (λ e. none meaning (inl (λ i. Stands (e i) meaning)))
other (Broken rule span ∷ fs) table k none = other fs table k (λ m i. none m (inr i))

pub has_found_names : (p : Program) → IsNumbered p → HasFoundNames p (meanings p)
has_found_names p numbered =
    let small = numbered.small in
    let size = count_program p in
    let all : nodes p ≡ size = omega (arith, small) in
    let table : List Meant = replicate (nodes p) meant.Nothing in
    let length_is : length table ≡ size = repeated_size (nodes p) meant.Nothing ∙ all in
    let at : StandAt (findings p) (range_with_len 0 size) = subst (StandAt (findings p)) numbered.preorder (program_at p) in
    record {
      size = stood_size (findings p) table ∙ length_is;
      found = λ k m h. found at 0 size (range_rises size 0 size (omega arith)) table (omega (arith, length_is)) k m (inside (findings p) (Stands k m) h);
      others = λ k l none. other (findings p) table k (λ m i. none m (contained (findings p) (Stands k m) i)) ∙ repeated (nodes p) k meant.Nothing
          (omega (arith, l, all));
    }
