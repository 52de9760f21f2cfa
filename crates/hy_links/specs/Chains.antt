-- Lists linked by index.
use Rattle.std.specs.Prelude.{◌≡◌, ◌≢◌, ◌≤◌, ◌==◌, ℕ, zero, suc, if◌then◌else◌, List, [], ◌∷◌, Option, Some, None}

-- the first of a list
abbrev pub head : List ℕ → Option ℕ
head [] = None
head (i ∷ rest) = Some i

-- Whoever goes from `at` along `next` meets just these, and each of them has the one met before it as its `back`; the
-- first has `from`.
abbrev pub Chain : (ℕ → Option ℕ) → (ℕ → Option ℕ) → Option ℕ → Option ℕ → List ℕ → Type 0
Chain next back from at [] = at ≡ None
Chain next back from at (i ∷ rest) = (at ≡ Some i) × (back i ≡ from) × Chain next back (Some i) (next i) rest

-- the members that are met from `at` along `next`, of which there are at most so many
abbrev pub chain_from : (ℕ → Option ℕ) → ℕ → Option ℕ → List ℕ
chain_from next zero at = []
chain_from next (suc most) None = []
chain_from next (suc most) (Some i) = i ∷ chain_from next most (next i)

-- the first list from its end on, and then the second
abbrev pub onto : List ℕ → List ℕ → List ℕ
onto [] ys = ys
onto (x ∷ xs) ys = onto xs (x ∷ ys)

-- how often a list has this
abbrev pub times : ℕ → List ℕ → ℕ
times x [] = 0
times x (i ∷ rest) = if i == x then suc (times x rest) else times x rest

-- the list without this
abbrev pub dropped : ℕ → List ℕ → List ℕ
dropped x [] = []
dropped x (i ∷ rest) = if i == x then dropped x rest else i ∷ dropped x rest

-- no two members are the same
abbrev pub AreApart : List ℕ → Type 0
AreApart xs = (x : ℕ) → times x xs ≤ 1

-- x is taken out of its chain: its two neighbours are joined, and all others keep their links
pub record Unlinks (next back new_next new_back : ℕ → Option ℕ) (x : ℕ) : Type 0 where
  pub next_joined : (i : ℕ) → back x ≡ Some i → new_next i ≡ next x
  pub next_kept : (i : ℕ) → i ≢ x → back x ≢ Some i → new_next i ≡ next i
  pub back_joined : (i : ℕ) → next x ≡ Some i → new_back i ≡ back x
  pub back_kept : (i : ℕ) → i ≢ x → next x ≢ Some i → new_back i ≡ back i

-- x is put in front of the chain that begins at `at`
pub record PutsInFront (next back new_next new_back : ℕ → Option ℕ) (at : Option ℕ) (x : ℕ) : Type 0 where
  pub next_new : new_next x ≡ at
  pub next_kept : (i : ℕ) → i ≢ x → new_next i ≡ next i
  pub back_new : new_back x ≡ None
  pub back_joined : (i : ℕ) → i ≢ x → at ≡ Some i → new_back i ≡ Some x
  pub back_kept : (i : ℕ) → i ≢ x → at ≢ Some i → new_back i ≡ back i
