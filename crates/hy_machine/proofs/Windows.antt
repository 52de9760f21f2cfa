-- Writes to ranges of words that have none in common.
use Rattle.std.proofs.Common.{◌≡◌, ◌≤◌, ℕ, ◌+◌, true, false, nat_le, nat_eq, List, length, replicate, Ok, refl, ap, sym, ◌∙◌, ◌⊎◌, ⊎_elim, arith, rules}
use Rattle.std.proofs.lemmas.List.{same_lists, places, length-replicate}
use Rattle.std.proofs.lemmas.Bool.Decides.{nat_tests}
use Rattle.hy_object.specs.declared.object.Object.{Object}
use Rattle.hy_object.specs.declared.instr.Place.{Place}
use Rattle.hy_object.specs.declared.instr.Instr.TheVariants as instr
use Rattle.hy_machine.specs.Machine.{Cell, Unset, all_set, overlap, with_window, window}
use Rattle.hy_machine.specs.Frames.{reached, Takes}

comm_below : (xs ns ms : List Cell) (a b k : ℕ) → length ns ≡ k → length ms ≡ k → a + k ≤ b → b + k ≤ length xs →
    with_window (with_window xs a ns) b ms ≡ with_window (with_window xs b ms) a ns
comm_below xs ns ms a b k n m le fits = same_lists _ _ (search (rules, places)) (λ k d h. grind (arith, places))

pub length_window : (xs : List Cell) (at k : ℕ) → at + k ≤ length xs → length (window xs at k) ≡ k
length_window xs at k h = search (rules, places)

apart : (a b k : ℕ) → overlap a b k ≡ false → (a + k ≤ b) ⊎ (b + k ≤ a)
apart a b k h = grind (arith, nat_tests)

pub move_is : (xs : List Cell) (to from k : ℕ) → to + k ≤ length xs → from + k ≤ length xs → overlap to from k ≡ false →
    with_window (with_window xs to (window xs from k)) from (replicate k Unset) ≡ with_window (with_window xs from (replicate k Unset)) to (window xs from k)
move_is xs to from k t f h =
    let w = length_window xs from k f in
    ⊎_elim (λ le. comm_below xs (window xs from k) (replicate k Unset) to from k w (length-replicate k Unset) le f)
    (λ le. sym (comm_below xs (replicate k Unset) (window xs from k) from to k (length-replicate k Unset) w le t))
    (apart to from k h)

-- a place that is reached lies in the frame
reached_in : (xs : List Cell) (p : Place) (k : ℕ) → reached xs p k ≡ Ok tt → (nat_eq p.base 0 ≡ true) × (nat_le (p.offset + k) (length xs) ≡ true)
    × (p.offset + k ≤ length xs)
reached_in xs p k h = grind (arith, nat_tests)

-- the words are moved: the answer of the instruction
pub moves : (object : Object) (to from : Place) (k : ℕ) (xs mid new : List Cell) → reached xs to k ≡ Ok tt → reached xs from k ≡ Ok tt →
    overlap to.offset from.offset k ≡ false → all_set (window xs from.offset k) ≡ true → mid ≡ with_window xs to.offset (window xs from.offset k) →
    new ≡ with_window mid from.offset (replicate k Unset) → Takes object (instr.Move to from k) xs new (Ok tt)
moves object to from k xs mid new t f apart set m n s e =
    let a = reached_in xs to k t in
    let b = reached_in xs from k f in
    let same : new ≡ with_window (with_window xs from.offset (replicate k Unset)) to.offset (window xs from.offset k) =
    n ∙ ap (λ ys. with_window ys from.offset (replicate k Unset)) m ∙ move_is xs to.offset from.offset k a.2 b.2 apart in
    rw (e, same, a.0, b.0, a.1, b.1, apart, set) refl
