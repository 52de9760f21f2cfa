-- The program's frame, as the cells of a block.
use Rattle.std.proofs.Common.{◌≡◌, ◌≤◌, ◌<◌, ℕ, zero, suc, ◌+◌, ◌-◌, ◌==◌, ◌&&◌, Bool, true, false, cond, List, [], ◌∷◌, length, take, drop, replicate}
use Rattle.std.proofs.Common.{get_or, refl, ap, sym, ◌∙◌, ⊎_elim, arith}
use Rattle.std.proofs.lemmas.Bool.{cases_lt}
use Rattle.std.proofs.lemmas.Bool.Decides.{nat_tests}
use Rattle.std.proofs.lemmas.List.{places, length-replicate, get_or-replicate, get_or_past, get_or-drop}
use Rattle.hy_object.specs.Checks as big
use Rattle.hy_object.specs.States as big_states
use Rattle.hy_object.specs.States.{Cells, Range, all_below, within, with_cells}
use Rattle.hy_machine.specs.Machine.{Cell, Unset, Word, is_set, all_set, overlap, window, with_window}

-- CELLS

abbrev pub cell : Cell → big_states.Cell
cell Unset = big_states.Unset
cell (Word n) = big_states.Word n

-- block 0 is the frame; all other cells are unset
abbrev pub cells_of : List Cell → ℕ → Cells
cells_of frame block at = cond (block == 0) (cell (get_or frame at Unset)) big_states.Unset

-- words of the frame
abbrev pub range : (from words : ℕ) → Range
range from words = record { block = 0; from = from; words = words }

pub no_name : (c : Cell) → big.is_name (cell c) ≡ false
no_name Unset = refl
no_name (Word n) = refl

set_alike : (c : Cell) → big.is_set (cell c) ≡ is_set c
set_alike Unset = refl
set_alike (Word n) = refl

-- TESTS OF MANY CELLS

pub all_true : (n : ℕ) (f : ℕ → Bool) → ((i : ℕ) → f i ≡ true) → all_below n f ≡ true
all_true zero f h = refl
all_true (suc n) f h = rw (h n, all_true n f h) refl

and_swap : (a b c : Bool) → (a && (b && c)) ≡ (b && (a && c))
and_swap true b c = refl
and_swap false true c = refl
and_swap false false c = refl

-- the first one by itself
all_front : (n : ℕ) (f : ℕ → Bool) → all_below (suc n) f ≡ (f 0 && all_below n (λ i. f (suc i)))
all_front zero f = refl
all_front (suc n) f = ap (λ b. f (suc n) && b) (all_front n f) ∙ and_swap (f (suc n)) (f 0) (all_below n (λ i. f (suc i)))

first_are_set : (n : ℕ) (xs : List Cell) → n ≤ length xs → all_below n (λ i. big.is_set (cell (get_or xs i Unset))) ≡ all_set (take n xs)
first_are_set zero xs h = refl
first_are_set (suc n) [] h = absurd (omega arith)
first_are_set (suc n) (x ∷ xs) h =
    all_front n (λ i. big.is_set (cell (get_or (x ∷ xs) i Unset))) ∙ (λ j. set_alike x j && first_are_set n xs (omega arith) j)

-- the cells of a range are set where those of the window are
pub are_set : (frame : List Cell) (from words : ℕ) → from + words ≤ length frame →
    all_below words (λ i. big.is_set (cell (get_or frame (from + i) Unset))) ≡ all_set (window frame from words)
are_set frame from words h =
    let room : words ≤ length (drop from frame) = grind (arith, places) in
    ap (all_below words) (λ j i. big.is_set (cell (sym (get_or-drop from frame i Unset) j))) ∙ first_are_set words (drop from frame) room

-- STORES

inside_tells : (to words at : ℕ) → to ≤ at → at < to + words → within to words at ≡ true
inside_tells to words at l h = grind (arith, nat_tests)

before_tells : (to words at : ℕ) → at < to → within to words at ≡ false
before_tells to words at h = grind (arith, nat_tests)

behind_tells : (to words at : ℕ) → to + words ≤ at → within to words at ≡ false
behind_tells to words at h = grind (arith, nat_tests)

module _ (frame new : List Cell) (to words : ℕ) (size : length new ≡ words) (room : to + words ≤ length frame) where
  get_before : (at : ℕ) → at < to → get_or (with_window frame to new) at Unset ≡ get_or frame at Unset
  get_before at h = grind (arith, places)

  get_inside : (at : ℕ) → to ≤ at → at < to + words → get_or (with_window frame to new) at Unset ≡ get_or new (at - to) Unset
  get_inside at l h = grind (arith, places)

  get_behind : (at : ℕ) → to + words ≤ at → get_or (with_window frame to new) at Unset ≡ get_or frame at Unset
  get_behind at h = grind (arith, places)

  module _ (f : Cells) (same : (i : ℕ) → i < words → f i ≡ cell (get_or new i Unset)) where
    stored_at : (at : ℕ) → cond (within to words at) (f (at - to)) (cell (get_or frame at Unset)) ≡ cell (get_or (with_window frame to new) at Unset)
    stored_at at =
        ⊎_elim (λ lt. rw (before_tells to words at lt) (ap cell (sym (get_before at lt))))
        (λ le. ⊎_elim (λ lt. rw (inside_tells to words at le lt) (same (at - to) (omega arith) ∙ ap cell (sym (get_inside at le lt))))
        (λ past. rw (behind_tells to words at past) (ap cell (sym (get_behind at past)))) (cases_lt at (to + words)))
        (cases_lt at to)

    stored_in : (block at : ℕ) → with_cells (cells_of frame) (range to words) f block at ≡ cells_of (with_window frame to new) block at
    stored_in block at =
        elim (block == 0) as (λ b. cond (b && within to words at) (f (at - to)) (cond b (cell (get_or frame at Unset)) big_states.Unset)
        ≡ cond b (cell (get_or (with_window frame to new) at Unset)) big_states.Unset)
        [ true ↦ stored_at at | false ↦ refl ]

    pub stored : with_cells (cells_of frame) (range to words) f ≡ cells_of (with_window frame to new)
    stored = λ j block at. stored_in block at j

-- an unset frame
unset_at : (n at : ℕ) → get_or (replicate n Unset) at Unset ≡ Unset
unset_at n at =
    ⊎_elim (λ lt. get_or-replicate n at Unset Unset lt) (λ le. get_or_past (replicate n Unset) at Unset (let e = length-replicate n Unset in omega arith))
    (cases_lt at n)

unset_in : (n block at : ℕ) → cells_of (replicate n Unset) block at ≡ big_states.Unset
unset_in n block at =
    elim (block == 0) as (λ b. cond b (cell (get_or (replicate n Unset) at Unset)) big_states.Unset ≡ big_states.Unset)
    [ true ↦ ap cell (unset_at n at) | false ↦ refl ]

pub none_set : (n : ℕ) → (λ (block at : ℕ). big_states.Unset) ≡ cells_of (replicate n Unset)
none_set n = λ j block at. sym (unset_in n block at) j

-- two ranges of the frame with as many words
pub meets_alike : (to from words : ℕ) → big.meets (range to words) (range from words) ≡ overlap to from words
meets_alike to from words = grind (arith, nat_tests)
