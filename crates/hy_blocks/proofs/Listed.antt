-- The list of all blocks, from what is found at each name.
use Rattle.std.proofs.Common.{◌≡◌, ◌<◌, ◌≤◌, ◌+◌, ◌++◌, ℤ, ℕ, List, [], ◌∷◌, length, get_or, slice_set, Option, Some, None, refl, sym, ap, ◌∙◌, subst}
use Rattle.std.proofs.Common.{inl, inr, arith, IsSomeAnd}
use Rattle.std.specs.Option.{option_map}
use Rattle.std.proofs.lemmas.Bool.Decides.{eqb_tells}
use Rattle.std.proofs.lemmas.Bool.{cases_lt}
use Rattle.std.proofs.lemmas.List.{get_or_past, get_or-set_same, get_or-set_other, length-set}
use Rattle.std.proofs.lemmas.List.FromFn.{length-map-range_with_len, get_or-map-range_with_len, map-range_with_len_more, fill_by_all}
use Rattle.hy_blocks.specs.Blocks.{Block, cell_in, cells_of, with_cells}
use Rattle.hy_blocks.specs.Tables.{Becomes, Same, all}

some_path : {A : Type 0} {x y : A} → Some x ≡ Some y → x ≡ y
some_path {x = x} e = ap (λ o. value_or x o) e
  where
    value_or : {A : Type 0} → A → Option A → A
    value_or d None = d
    value_or d (Some v) = v

module _ (f : ℕ → Block) (n : ℕ) where
  pub taken : length (all f n) ≡ n
  taken = length-map-range_with_len f 0 n

  pub found : (name : ℕ) → name < n → cells_of (all f n) name ≡ f name
  found name lt = get_or-map-range_with_len f 0 n name name None lt (omega arith)

  pub past : (name : ℕ) → n ≤ name → cells_of (all f n) name ≡ None
  past name le = get_or_past (all f n) name None (subst (λ k. k ≤ name) (sym taken) le)

  -- a block that is live has its name below the number of those that were taken
  pub below : (name : ℕ) (P : List (Option ℤ) → Type 0) → IsSomeAnd (cells_of (all f n) name) P → name < n
  below name P live = elim (cases_lt name n) [
    | inl h ↦ h
    | inr h ↦ absurd (subst (λ b. IsSomeAnd b P) (past name h) live)
  ]

  -- the list is that of the blocks at these names
  module _ (now : List Block) (is : all f n ≡ now) where
    pub below_in : (name : ℕ) (P : List (Option ℤ) → Type 0) → IsSomeAnd (cells_of now name) P → name < n
    below_in name P live = below name P (subst (λ l. IsSomeAnd (cells_of l name) P) (sym is) live)

    pub at : (name : ℕ) (P : List (Option ℤ) → Type 0) → IsSomeAnd (cells_of now name) P → cells_of now name ≡ f name
    at name P live = ap (λ l. cells_of l name) (sym is) ∙ found name (below_in name P live)

    pub known : (name : ℕ) (P : List (Option ℤ) → Type 0) → IsSomeAnd (cells_of now name) P → IsSomeAnd (f name) P
    known name P live = subst (λ b. IsSomeAnd b P) (at name P live) live

module _ (old new : ℕ → Block) where
  pub all_same : Same old new → (n : ℕ) → all new n ≡ all old n
  all_same same n = sym (fill_by_all new (all old n) n None (taken old n) (λ k lt. found old n k lt ∙ sym (same k)))

  pub all_more : (n : ℕ) (b : Block) → Becomes old new n b → all new (n + 1) ≡ all old n ++ b ∷ []
  all_more n b becomes =
      map-range_with_len_more new 0 n n (omega arith)
      ∙ ap (λ l. l ++ new n ∷ []) (sym (fill_by_all new (all old n) n None (taken old n) (λ k lt. found old n k lt ∙ sym (becomes.others k (λ e.
      absurd (omega (arith, lt, e)))))))
      ∙ ap (λ c. all old n ++ c ∷ []) becomes.here

  pub all_set : (n name : ℕ) (b : Block) → Becomes old new name b → all new n ≡ slice_set (all old n) name b
  all_set n name b becomes = sym (fill_by_all new (slice_set (all old n) name b) n None (length-set (all old n) name b ∙ taken old n) (λ k lt. elim
      (eqb_tells k name) [
        | inl same ↦ ap (λ m. get_or (slice_set (all old n) name b) m None) same.1
            ∙ get_or-set_same (all old n) name b None (subst (λ m. name < m) (sym (taken old n)) (omega (arith, same.1, lt)))
            ∙ sym becomes.here ∙ ap new (sym same.1)
        | inr other ↦ get_or-set_other (all old n) name k b None other.1 ∙ found old n k lt ∙ sym (becomes.others k other.1)
      ]))

some_is : (o : Option ℤ) → IsSomeAnd o (λ n. Unit {0}) → (x : ℤ) × (o ≡ Some x)
some_is None live = absurd live
some_is (Some x) live = (x, refl)

-- a cell that is set is one of a live block
pub set_in : (b : Block) (at : ℕ) → IsSomeAnd (cell_in b at) (λ n. Unit {0}) → IsSomeAnd b (λ cells. (x : ℤ) × (get_or cells at None ≡ Some x))
set_in None at live = absurd live
set_in (Some cells) at live = some_is (get_or cells at None) live

-- what holds of the cells of a block
pub holds : (b : Block) (P : List (Option ℤ) → Type 0) (cells : List (Option ℤ)) → b ≡ Some cells → IsSomeAnd b P → P cells
holds None P cells is live = absurd live
holds (Some found) P cells is live = subst P (some_path is) live

pub live_and : (b : Block) (P Q : List (Option ℤ) → Type 0) → ((cells : List (Option ℤ)) → P cells → Q cells) → IsSomeAnd b P → IsSomeAnd b Q
live_and None P Q go live = absurd live
live_and (Some cells) P Q go live = go cells live

mapped : (b : Block) (f : List (Option ℤ) → List (Option ℤ)) (P : Block → Type 0) → IsSomeAnd b (λ cells. P (Some (f cells))) → P (option_map f b)
mapped None f P live = absurd live
mapped (Some cells) f P live = live

-- the cells of a live block are changed
pub changed : (old new : ℕ → Block) (n : ℕ) (now : List Block) → all old n ≡ now → (name : ℕ) (f : List (Option ℤ) →
    List (Option ℤ)) (P : List (Option ℤ) → Type 0)
    → IsSomeAnd (cells_of now name) P → IsSomeAnd (old name) (λ cells. Becomes old new name (Some (f cells))) → all new n ≡ with_cells now name f
changed old new n now is name f P live becomes =
    all_set old new n name (option_map f (old name)) (mapped (old name) f (λ b. Becomes old new name b) becomes)
    ∙ (λ i. slice_set (is i) name (option_map f (sym (at old n now is name P live) i)))

pub live_below : (now : List Block) (name : ℕ) (P : List (Option ℤ) → Type 0) → IsSomeAnd (cells_of now name) P → name < length now
live_below now name P live = elim (cases_lt name (length now)) [
  | inl h ↦ h
  | inr h ↦ absurd (subst (λ b. IsSomeAnd b P) (get_or_past now name None h) live)
]
