-- Cells that are moved one by one.
use Rattle.std.proofs.Common.{◌≡◌, ◌≢◌, ◌<◌, ◌≤◌, ◌+◌, ℕ, List, length, get_or, slice_set, Option, Some, None, refl, sym, ap, ◌∙◌, inl, inr, arith, IsSomeAnd}
use Rattle.std.specs.Option.{option_map}
use Rattle.std.proofs.lemmas.Bool.{cases_lt}
use Rattle.std.proofs.lemmas.Bool.Decides.{eqb_tells}
use Rattle.std.proofs.lemmas.List.{get_or-set_same, get_or-set_other, length-set}
use Rattle.hy_blocks.specs.Blocks.{Block, Cell, AreApart, IsMoved, Moves, cell_in}
use Rattle.hy_blocks.specs.Tables.{Becomes, all}
use Rattle.hy_blocks.proofs.Listed.{found, past, taken}

-- one cell is another, all else is equal
pub record ChangesCell (old new : ℕ → Block) (name at : ℕ) (c : Cell) : Type 0 where
  pub sizes : (b : ℕ) → option_map length (new b) ≡ option_map length (old b)
  pub here : cell_in (new name) at ≡ c
  pub others : (b k : ℕ) → (b ≡ name → k ≢ at) → cell_in (new b) k ≡ cell_in (old b) k

one_cell : (old new : ℕ → Block) (name at : ℕ) (c : Cell) (cells : List Cell) → old name ≡ Some cells → at < length cells →
    Becomes old new name (Some (slice_set cells at c)) → ChangesCell old new name at c
one_cell old new name at c cells was within becomes = record {
  sizes = λ b. elim (eqb_tells b name) [
    | inl same ↦ ap (λ k. option_map length (new k)) same.1 ∙ ap (option_map length) becomes.here ∙ ap Some (length-set cells at c) ∙ sym (ap
        (option_map length) was) ∙ ap (λ k. option_map length (old k)) (sym same.1)
    | inr other ↦ ap (option_map length) (becomes.others b other.1)
  ];
  here = ap (λ b. cell_in b at) becomes.here ∙ get_or-set_same cells at c None within;
  others = λ b k apart. elim (eqb_tells b name) [
    | inl same ↦ ap (λ j. cell_in (new j) k) same.1 ∙ ap (λ d. cell_in d k) becomes.here ∙ get_or-set_other cells at k c None (apart same.1) ∙ sym
        (ap (λ d. cell_in d k) was) ∙ ap (λ j. cell_in (old j) k) (sym same.1)
    | inr other ↦ ap (λ d. cell_in d k) (becomes.others b other.1)
  ];
}

pub cell_changed : (old new : ℕ → Block) (name at : ℕ) (c : Cell) → IsSomeAnd (old name) (λ cells. at < length cells)
    → IsSomeAnd (old name) (λ cells. Becomes old new name (Some (slice_set cells at c))) → ChangesCell old new name at c
cell_changed old new name at c within becomes = go (old name) refl within becomes
  where
    go : (b : Block) → old name ≡ b → IsSomeAnd b (λ cells. at < length cells) →
        IsSomeAnd b (λ cells. Becomes old new name (Some (slice_set cells at c))) → ChangesCell old new name at c
    go None is within becomes = absurd within
    go (Some cells) is within becomes = one_cell old new name at c cells is within becomes

pub fits_as : (a b : Block) (m k : ℕ) → option_map length b ≡ option_map length a → k < m → IsSomeAnd a (λ cells. m ≤ length cells) →
    IsSomeAnd b (λ cells. k < length cells)
fits_as None b m k e lt fits = absurd fits
fits_as (Some cells) None m k e lt fits = cc
fits_as (Some cells) (Some found) m k e lt fits = let same : length found ≡ length cells = some_path e in omega (arith, same, lt, fits)
  where
    value_or : ℕ → Option ℕ → ℕ
    value_or d None = d
    value_or d (Some v) = v

    some_path : {x y : ℕ} → Some x ≡ Some y → x ≡ y
    some_path {x = x} e = ap (value_or x) e

pub cell_is : (b : Block) (at : ℕ) (c : Cell) → IsSomeAnd b (λ cells. c ≡ get_or cells at None) → c ≡ cell_in b at
cell_is None at c is = absurd is
cell_is (Some cells) at c is = is

module _ (f : ℕ → Block) (to ta from fa : ℕ) where
  pub none_moved : Moves f f to ta from fa 0
  none_moved = record {
    sizes = λ name. refl;
    moved = λ k lt. absurd (omega (arith, lt));
    left = λ k lt. absurd (omega (arith, lt));
    others = λ name at out far. refl;
  }

  module _ (words i : ℕ) (g h k : ℕ → Block) (apart : AreApart to ta from fa words) (lt : i < words) (so_far : Moves f g to ta from fa i) (c : Cell)
      (takes : ChangesCell g h from (fa + i) None) (c_is : c ≡ cell_in (g from) (fa + i)) (puts : ChangesCell h k to (ta + i) c) where
    -- no cell of the one range is a cell of the other
    differ : (p q : ℕ) → p < words → q < words → to ≡ from → ta + p ≢ fa + q
    differ p q lp lq same e = elim (apart same) [ inl before ↦ absurd (omega (arith, lp, e, before)) | inr after ↦ absurd (omega (arith, lq, e, after)) ]

    c_was : c ≡ cell_in (f from) (fa + i)
    c_was = c_is ∙ so_far.others from (fa + i)
        (λ same. elim (apart (sym same)) [ inl before ↦ inr (omega (arith, before, lt)) | inr after ↦ inl (omega (arith, after, lt)) ])
        (λ same. inr (omega arith))

    pub one_more : Moves f k to ta from fa (i + 1)
    one_more = record {
      sizes = λ name. puts.sizes name ∙ takes.sizes name ∙ so_far.sizes name;
      moved = λ j less. elim (eqb_tells j i) [
        | inl same ↦ ap (λ m. cell_in (k to) (ta + m)) same.1 ∙ puts.here ∙ c_was ∙ ap (λ m. cell_in (f from) (fa + m)) (sym same.1)
        | inr other ↦ puts.others to (ta + j) (λ same e. other.1 (omega (arith, e)))
            ∙ takes.others to (ta + j) (λ same. differ j i (omega (arith, less, lt)) lt same)
            ∙ so_far.moved j (omega (arith, less, other.1))
      ];
      left = λ j less. puts.others from (fa + j) (λ same e. differ i j lt (omega (arith, less, lt)) (sym same) (sym e))
          ∙ elim (eqb_tells j i) [
            | inl same ↦ ap (λ m. cell_in (h from) (fa + m)) same.1 ∙ takes.here
            | inr other ↦ takes.others from (fa + j) (λ same e. other.1 (omega (arith, e))) ∙ so_far.left j (omega (arith, less, other.1))
          ];
      others = λ name at out far.
          puts.others name at (λ same e. elim (out same) [ inl before ↦ absurd (omega (arith, before, e)) | inr after ↦ absurd (omega (arith, after, e)) ])
          ∙ takes.others name at (λ same e. elim (far same) [ inl before ↦ absurd (omega (arith, before, e)) | inr after ↦ absurd (omega (arith, after, e)) ])
          ∙ so_far.others name at
          (λ same. elim (out same) [ inl before ↦ inl before | inr after ↦ inr (omega (arith, after)) ])
          (λ same. elim (far same) [ inl before ↦ inl before | inr after ↦ inr (omega (arith, after)) ]);
    }

-- the same of the list of all blocks
pub listed : (f g : ℕ → Block) (n to ta from fa words : ℕ) → to < n → from < n → Moves f g to ta from fa words →
    IsMoved (all f n) (all g n) to ta from fa words
listed f g n to ta from fa words low_to low_from moves = record {
  taken = taken g n ∙ sym (taken f n);
  moves = record {
    sizes = λ name. elim (cases_lt name n) [
      | inl lt ↦ ap (option_map length) (found g n name lt) ∙ moves.sizes name ∙ ap (option_map length) (sym (found f n name lt))
      | inr le ↦ ap (option_map length) (past g n name le ∙ sym (past f n name le))
    ];
    moved = λ k lt. ap (λ b. cell_in b (ta + k)) (found g n to low_to) ∙ moves.moved k lt ∙ ap (λ b. cell_in b (fa + k)) (sym (found f n from low_from));
    left = λ k lt. ap (λ b. cell_in b (fa + k)) (found g n from low_from) ∙ moves.left k lt;
    others = λ name at out far. elim (cases_lt name n) [
      | inl lt ↦ ap (λ b. cell_in b at) (found g n name lt) ∙ moves.others name at out far ∙ ap (λ b. cell_in b at) (sym (found f n name lt))
      | inr le ↦ ap (λ b. cell_in b at) (past g n name le ∙ sym (past f n name le))
    ];
  };
}
