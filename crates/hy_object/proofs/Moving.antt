-- How often a name stands in memory, where cells are stored over or move.
use Rattle.std.proofs.Common.{◌≡◌, ℕ, zero, suc, ◌+◌, ◌-◌, ◌<◌, ◌≤◌, Bool, true, false, cond, not}
use Rattle.std.proofs.Common.{nat_lt, ◌&&◌, ◌==◌, refl, sym, ap, ◌∙◌, ⊎_elim, subst, arith}
use Rattle.std.proofs.lemmas.Bool.{cases_lt, cases_Bool, lt-ltb, le-ltb, ltb-true, eq-eqb, ne_eqb, eqb-true}
use Rattle.hy_object.specs.Checks.{meets, is_name}
use Rattle.hy_object.specs.Names.{times_at, times_in, times, InBlock, NamesAreCounted}
use Rattle.hy_object.specs.States.{Cell, Unset, Word, Name, Cells, Range, with_at, with_cells, window, within, unset, moved, moved_to_new, first_cells}
use Rattle.hy_object.specs.States.{all_below}
use Rattle.hy_object.proofs.Counting.{above, taken_block}

-- TRUTH VALUES

and_true : (x y : Bool) → (x && y) ≡ true → (x ≡ true) × (y ≡ true)
and_true true y q = (refl, q)
and_true false y q = absurd (cc)

all_true : (n : ℕ) (f : ℕ → Bool) → all_below n f ≡ true → (i : ℕ) → i < n → f i ≡ true
all_true zero f q i l = absurd (omega (arith, l))
all_true (suc n) f q i l =
    let both = and_true (f n) (all_below n f) q in
    ⊎_elim (λ lt. all_true n f both.1 i lt) (λ le. let same : i ≡ n = omega (arith, le, l) in ap f same ∙ both.0) (cases_lt i n)

-- CELLS OF A RANGE

same_in : (n : ℕ) (f g : Cells) (name : ℕ) → ((at : ℕ) → at < n → times_at (f at) name ≡ times_at (g at) name) → times_in n f name ≡ times_in n g name
same_in zero f g name h = refl
same_in (suc n) f g name h =
    let rest = same_in n f g name (λ at l. h at (omega (arith, l))) in
    let cell = h n (omega arith) in
    omega (arith, rest, cell)

none_in : (n : ℕ) (f : Cells) (name : ℕ) → ((at : ℕ) → at < n → times_at (f at) name ≡ 0) → times_in n f name ≡ 0
none_in zero f name h = refl
none_in (suc n) f name h =
    let rest = none_in n f name (λ at l. h at (omega (arith, l))) in
    let cell = h n (omega arith) in
    omega (arith, rest, cell)

no_name : (c : Cell) (name : ℕ) → not (is_name c) ≡ true → times_at c name ≡ 0
no_name Unset name q = refl
no_name (Word n) name q = refl
no_name (Name b) name q = absurd (cc)

nameless : (n : ℕ) (f : Cells) (name : ℕ) → all_below n (λ i. not (is_name (f i))) ≡ true → times_in n f name ≡ 0
nameless n f name q = none_in n f name (λ at l. no_name (f at) name (all_true n (λ i. not (is_name (f i))) q at l))

none_unset : (n : ℕ) (name : ℕ) → times_in n unset name ≡ 0
none_unset n name = none_in n unset name (λ at l. refl)

-- a store outside leaves the cell
outside : (cells : ℕ → Cells) (a b : Range) (new : Cells) (i : ℕ) → meets a b ≡ false → i < b.words
    → with_cells cells a new b.block (b.from + i) ≡ cells b.block (b.from + i)
outside cells a b new i apart l =
    let here : Bool = (b.block == a.block) && within a.from a.words (b.from + i) in
    ⊎_elim
    (λ yes.
    let both = and_true (b.block == a.block) (within a.from a.words (b.from + i)) yes in
    let ends = and_true (nat_lt a.from (suc (b.from + i))) (nat_lt (b.from + i) (a.from + a.words)) both.1 in
    let block = eqb-true b.block a.block both.0 in
    let low = ltb-true a.from (suc (b.from + i)) ends.0 in
    let high = ltb-true (b.from + i) (a.from + a.words) ends.1 in
    let e1 = eq-eqb a.block b.block (sym block) in
    let e2 = lt-ltb 0 a.words (omega (arith, low, high)) in
    let e3 = lt-ltb 0 b.words (omega (arith, l)) in
    let e4 = lt-ltb a.from (b.from + b.words) (omega (arith, low, l)) in
    let e5 = lt-ltb b.from (a.from + a.words) (omega (arith, high)) in
    let met : meets a b ≡ true =
    ap (λ x. x && nat_lt 0 a.words && nat_lt 0 b.words && nat_lt a.from (b.from + b.words) && nat_lt b.from (a.from + a.words)) e1
    ∙ ap (λ x. x && nat_lt 0 b.words && nat_lt a.from (b.from + b.words) && nat_lt b.from (a.from + a.words)) e2
    ∙ ap (λ x. x && nat_lt a.from (b.from + b.words) && nat_lt b.from (a.from + a.words)) e3
    ∙ ap (λ x. x && nat_lt b.from (a.from + a.words)) e4
    ∙ e5 in
    absurd (cc))
    (λ no'. ap (λ x. cond x (new ((b.from + i) - a.from)) (cells b.block (b.from + i))) no')
    (cases_Bool here)

-- the names in a range that a store does not meet
outside_in : (cells : ℕ → Cells) (a b : Range) (new : Cells) (name : ℕ) → meets a b ≡ false
    → times_in b.words (window (with_cells cells a new) b) name ≡ times_in b.words (window cells b) name
outside_in cells a b new name apart =
    same_in b.words (window (with_cells cells a new) b) (window cells b) name (λ i l. ap (λ c. times_at c name) (outside cells a b new i apart l))

module _ (blocks : ℕ) (words : ℕ → ℕ) (name : ℕ) where
  -- a store over a range
  stored : (cells : ℕ → Cells) (range : Range) (new : Cells) → InBlock blocks words range →
      times blocks words (with_cells cells range new) name + times_in range.words (window cells range) name ≡ times blocks words cells name + times_in
      range.words new name
  stored cells range new h = above words cells range new name blocks h.block h.cells

  -- what one range holds goes to another
  moved_times : (cells : ℕ → Cells) (from to : Range) → InBlock blocks words from → InBlock blocks words to → to.words ≡ from.words → meets to from ≡ false →
      times blocks words (moved cells from to) name + times_in to.words (window cells to) name ≡ times blocks words cells name
  moved_times cells from to hf ht same apart =
      let one = stored cells to (window cells from) ht in
      let two = stored (with_cells cells to (window cells from)) from unset hf in
      let gone = none_unset from.words name in
      let left = outside_in cells to from (window cells from) name apart in
      let width : times_in to.words (window cells from) name ≡ times_in from.words (window cells from) name =
      ap (λ k. times_in k (window cells from) name) same in
      omega (arith, one, two, gone, left, width)

-- the cells that move to the front of a new block
first_in : (cells : ℕ → Cells) (range : Range) (name n : ℕ) → n ≤ range.words
    → times_in n (first_cells cells range) name ≡ times_in n (window cells range) name
first_in cells range name n l =
    same_in n (first_cells cells range) (window cells range) name
    (λ at m. ap (λ b. times_at (cond b (window cells range at) Unset) name) (lt-ltb at range.words (omega (arith, l, m))))

first_times : (cells : ℕ → Cells) (range : Range) (name more : ℕ)
    → times_in (range.words + more) (first_cells cells range) name ≡ times_in range.words (window cells range) name
first_times cells range name zero = let same : range.words + 0 ≡ range.words = omega arith in rw same (first_in cells range name range.words (omega arith))
first_times cells range name (suc more) =
    let same : range.words + suc more ≡ suc (range.words + more) = omega arith in
    let rest = first_times cells range name more in
    let cell : times_at (first_cells cells range (range.words + more)) name ≡ 0 =
    ap (λ b. times_at (cond b (window cells range (range.words + more)) Unset) name) (le-ltb (range.words + more) range.words (omega arith)) in
    rw same (omega (arith, rest, cell))

still_in : (n size : ℕ) (words : ℕ → ℕ) (range : Range) → InBlock n words range → InBlock (suc n) (with_at words n size) range
still_in n size words range h =
    let same : with_at words n size range.block ≡ words range.block =
    ap (λ b. cond b size (words range.block)) (ne_eqb range.block n (λ e. let l = h.block in omega (arith, e, l))) in
    record { block = let l = h.block in omega (arith, l); cells = subst (λ k. range.from + range.words ≤ k) (sym same) h.cells }

moved_away : (n : ℕ) (words : ℕ → ℕ) (cells : ℕ → Cells) (range : Range) (size : ℕ) (name : ℕ) → InBlock n words range → range.words ≤ size →
    times (suc n) (with_at words n size) (moved_to_new cells range n) name ≡ times n words cells name
moved_away n words cells range size name h l =
    let there = with_at cells n (first_cells cells range) in
    let one = taken_block n words cells size (first_cells cells range) name in
    let two = stored (suc n) (with_at words n size) name there range unset (still_in n size words range h) in
    let gone = none_unset range.words name in
    let sizes : size ≡ range.words + (size - range.words) = omega (arith, l) in
    let first : times_in size (first_cells cells range) name ≡ times_in range.words (window cells range) name =
    ap (λ k. times_in k (first_cells cells range) name) sizes ∙ first_times cells range name (size - range.words) in
    let left : times_in range.words (window there range) name ≡ times_in range.words (window cells range) name =
    same_in range.words (window there range) (window cells range) name
    (λ i m. ap (λ b. times_at (cond b (first_cells cells range) (cells range.block) (range.from + i)) name)
    (ne_eqb range.block n (λ e. let k = h.block in omega (arith, e, k)))) in
    omega (arith, one, two, gone, first, left)

pub names_are_counted : NamesAreCounted
names_are_counted = record {
  stored = λ n words cells range new name h. stored n words name cells range new h;
  moved_over = λ n words cells from to name hf ht same apart. moved_times n words name cells from to hf ht same apart;
  taken = taken_block;
  moved_away = moved_away;
  nameless = λ s range name none. nameless range.words (window s.cells range) name none;
}
