-- What is found in a part of a tree, and what the table of meanings says of its nodes.
use Rattle.std.proofs.Common.{◌≡◌, ◌<◌, ◌≤◌, ◌+◌, ◌⊎◌, inl, inr, ⊎_elim, ℕ, zero, suc, List, [], ◌∷◌, ◌++◌, Option, Some, None, Bool, true, false}
use Rattle.std.proofs.Common.{not, refl, ap, arith, Contains, replicate, slice_get, slice_set}
use Rattle.hy_base.specs.declared.position.Span.{Span}
use Rattle.hy_base.specs.declared.refusal.Rule.{Rule}
use Rattle.hy_base.specs.declared.refusal.Rule.TheVariants.{N1}
use Rattle.hy_tree.specs.Findings.{Finding, Stands, Broken, when, found_name, stood}
use Rattle.hy_tree.specs.FileNames.{File}
use Rattle.hy_tree.specs.Names.{is_there}
use Rattle.hy_tree.specs.declared.meant.Meant.{Meant}
use Rattle.hy_tree.specs.declared.meant.Meant.TheVariants as meaning
use Rattle.hy_tree.specs.declared.name.Name.{Name}
use Rattle.hy_front.specs.Unbuilt.{Table}

-- LISTS OF FINDINGS

abbrev pub In : Finding → List Finding → Type 0
In f [] = ⊥
In f (g ∷ gs) = (g ≡ f) ⊎ In f gs

parted : (f : Finding) (xs ys : List Finding) → In f (xs ++ ys) → In f xs ⊎ In f ys
parted f [] ys h = inr h
parted f (x ∷ xs) ys h = ⊎_elim (λ e. inl (inl e)) (λ k. ⊎_elim (λ l. inl (inr l)) (λ r. inr r) (parted f xs ys k)) h

first_of_two : (f : Finding) (xs ys : List Finding) → In f xs → In f (xs ++ ys)
first_of_two f [] ys h = absurd h
first_of_two f (x ∷ xs) ys h = ⊎_elim (λ e. inl e) (λ k. inr (first_of_two f xs ys k)) h

last_of_two : (f : Finding) (xs ys : List Finding) → In f ys → In f (xs ++ ys)
last_of_two f [] ys h = h
last_of_two f (x ∷ xs) ys h = inr (last_of_two f xs ys h)

pub contained : (f : Finding) (xs : List Finding) → In f xs → Contains xs f
contained f [] h = absurd h
contained f (x ∷ xs) h = ⊎_elim (λ e. (0, omega arith, e)) (λ k. let c = contained f xs k in let l = c.1 in (suc c.0, omega (arith, l), c.2)) h

-- NODES

-- what is found stands at nodes from a on and below b
abbrev pub Within : ℕ → ℕ → List Finding → Type 0
Within a b fs = (n : ℕ) (m : Meant) → In (Stands n m) fs → (a ≤ n) × (n < b)

pub within_none : (a b : ℕ) → Within a b []
within_none a b n m h = absurd h

pub wider : (a b c d : ℕ) (fs : List Finding) → c ≤ a → b ≤ d → Within a b fs → Within c d fs
wider a b c d fs low high h n m k = let w = h n m k in let from = w.0 in let to = w.1 in (omega (arith, low, from), omega (arith, high, to))

pub within_both : (a b : ℕ) (xs ys : List Finding) → Within a b xs → Within a b ys → Within a b (xs ++ ys)
within_both a b xs ys h k n m i = ⊎_elim (λ l. h n m l) (λ r. k n m r) (parted (Stands n m) xs ys i)

-- a rule that is broken stands at no node
pub within_broken : (a b : ℕ) (t : Bool) (rule : Rule) (span : Span) → Within a b (when t (Broken rule span))
within_broken a b true rule span n m h = absurd (⊎_elim (λ (e : Broken rule span ≡ Stands n m). cc) (λ k. k) h)
within_broken a b false rule span n m h = absurd h

same_node : (n k : ℕ) (m o : Meant) → Stands n m ≡ Stands k o → n ≡ k
same_node n k m o h = cc

same_meaning : (n k : ℕ) (m o : Meant) → Stands n m ≡ Stands k o → m ≡ o
same_meaning n k m o h = cc

pub within_name : (file : File) (name : Name) (n : ℕ) (o : Option Meant) → Within n (n + 1) (found_name file name n o)
within_name file name n (Some m) k x h = ⊎_elim (λ e. let s : n ≡ k = same_node n k m x e in (omega (arith, s), omega (arith, s))) (λ none. absurd none) h
within_name file name n None k x h = within_broken n (n + 1) (not (is_there (file.bases name.text))) N1 name.span k x h

-- the meaning that a name was found to have
pub meant_there : (file : File) (name : Name) (n k : ℕ) (m : Meant) (o : Option Meant) → In (Stands k m) (found_name file name n o) → o ≡ Some m
meant_there file name n k m (Some x) h = ⊎_elim (λ e. ap Some (same_meaning n k x m e)) (λ none. absurd none) h
meant_there file name n k m None h = absurd (by (not (is_there (file.bases name.text))) h)
  where
    by : (t : Bool) → In (Stands k m) (when t (Broken N1 name.span)) → ⊥
    by true h = ⊎_elim (λ (e : Broken N1 name.span ≡ Stands k m). cc) (λ k. k) h
    by false h = h

-- PARTS OF A TREE

-- These are found in the part of the tree whose nodes are those from a on and below b: where the table has a variable at one
-- of them, that was found here; and no rule is broken.
pub record Part (meant : Table) (a b : ℕ) (fs : List Finding) : Type 0 where
  pub found : (n k : ℕ) → a ≤ n → n < b → slice_get meant n ≡ Some (meaning.Local k) → In (Stands n (meaning.Local k)) fs
  pub sound : (rule : Rule) (span : Span) → In (Broken rule span) fs → ⊥

pub narrow : {meant : Table} {fs : List Finding} (a b c d : ℕ) → a ≤ c → d ≤ b → Part meant a b fs → Part meant c d fs
narrow a b c d low high p = record { found = λ n k from to at. p.found n k (omega (arith, low, from)) (omega (arith, high, to)) at; sound = p.sound }

-- the first part of what is found, and the later part
pub before : {meant : Table} (a b c : ℕ) (xs ys : List Finding) → b ≤ c → Within b c ys → Part meant a c (xs ++ ys) → Part meant a b xs
before a b c xs ys le w p = record {
  found = λ n k from to at. ⊎_elim (λ i. i) (λ i. let there = (w n (meaning.Local k) i).0 in absurd (omega (arith, there, to)))
      (parted (Stands n (meaning.Local k)) xs ys (p.found n k from (omega (arith, le, to)) at));
  sound = λ rule span i. p.sound rule span (first_of_two (Broken rule span) xs ys i);
}

pub later_part : {meant : Table} (a b c : ℕ) (xs ys : List Finding) → a ≤ b → Within a b xs → Part meant a c (xs ++ ys) → Part meant b c ys
later_part a b c xs ys le w p = record {
  found = λ n k from to at. ⊎_elim (λ i. let there = (w n (meaning.Local k) i).1 in absurd (omega (arith, there, from))) (λ i.
      i) (parted (Stands n (meaning.Local k)) xs ys (p.found n k (omega (arith, le, from)) to at));
  sound = λ rule span i. p.sound rule span (last_of_two (Broken rule span) xs ys i);
}

-- THE TABLE

set_got : {A : Type 0} (xs : List A) (i n : ℕ) (a x : A) → slice_get (slice_set xs i a) n ≡ Some x → ((i ≡ n) × (a ≡ x)) ⊎ (slice_get xs n ≡ Some x)
set_got [] i n a x h = absurd (cc)
set_got (y ∷ ys) zero zero a x h = inl (refl, cc)
set_got (y ∷ ys) zero (suc n) a x h = inr h
set_got (y ∷ ys) (suc i) zero a x h = inr h
set_got (y ∷ ys) (suc i) (suc n) a x h = ⊎_elim (λ e. inl (ap suc e.0, e.1)) (λ g. inr g) (set_got ys i n a x h)

-- what the table has was there, or is found
stood_found : (fs : List Finding) (table : List Meant) (n : ℕ) (m : Meant) → slice_get (stood fs table) n ≡ Some m → In (Stands n m) fs
    ⊎ (slice_get table n ≡ Some m)
stood_found [] table n m h = inr h
stood_found (Stands node x ∷ fs) table n m h =
    ⊎_elim (λ i. inl (inr i)) (λ g. ⊎_elim (λ e. inl (inl (λ i. Stands (e.0 i) (e.1 i)))) (λ g. inr g) (set_got table node n x m g))
    (stood_found fs (slice_set table node x) n m h)
stood_found (Broken rule span ∷ fs) table n m h = ⊎_elim (λ i. inl (inr i)) (λ g. inr g) (stood_found fs table n m h)

no_variable : (size n k : ℕ) → slice_get (replicate size meaning.Nothing) n ≡ Some (meaning.Local k) → ⊥
no_variable zero n k h = cc
no_variable (suc size) zero k h = cc
no_variable (suc size) (suc n) k h = no_variable size n k h

-- all that is found in a tree
pub whole : (fs : List Finding) (size a b : ℕ) → ((rule : Rule) (span : Span) → Contains fs (Broken rule span) → ⊥)
    → Part (stood fs (replicate size meaning.Nothing)) a b fs
whole fs size a b sound = record {
  found = λ n k from to at. ⊎_elim (λ i. i) (λ g. absurd (no_variable size n k g)) (stood_found fs (replicate size meaning.Nothing) n (meaning.Local k) at);
  sound = λ rule span i. sound rule span (contained (Broken rule span) fs i);
}
