-- What a store, or a new block, changes in how often a name stands in memory.
use Rattle.std.proofs.Common.{◌≡◌, ◌≢◌, ℕ, zero, suc, ◌+◌, ◌-◌, ◌<◌, ◌≤◌, true, false, cond, nat_lt, ◌&&◌, refl, ap, ◌∙◌, ⊎_elim, arith}
use Rattle.std.proofs.lemmas.Bool.{cases_lt, lt-ltb, le-ltb, eq-eqb, ne_eqb}
use Rattle.hy_object.specs.Names.{times_at, times_in, times}
use Rattle.hy_object.specs.States.{Cells, Range, with_at, with_cells, window, within}

-- A RANGE OF ONE BLOCK

before : (from words at : ℕ) → at < from → within from words at ≡ false
before from words at l = ap (λ b. b && nat_lt at (from + words)) (le-ltb from (suc at) (omega (arith, l)))

inside : (from words at : ℕ) → from ≤ at → at < from + words → within from words at ≡ true
inside from words at l m = ap (λ b. b && nat_lt at (from + words)) (lt-ltb from (suc at) (omega (arith, l))) ∙ lt-ltb at (from + words) m

behind : (from words at : ℕ) → from + words ≤ at → within from words at ≡ false
behind from words at l =
    ap (λ b. b && nat_lt at (from + words)) (lt-ltb from (suc at) (omega (arith, l))) ∙ le-ltb at (from + words) l

module _ (f new : Cells) (from words name : ℕ) where
  abbrev g : Cells
  g at = cond (within from words at) (new (at - from)) (f at)

  abbrev moved : Cells
  moved i = f (from + i)

  up_to : (n : ℕ) → n ≤ from → times_in n g name ≡ times_in n f name
  up_to zero l = refl
  up_to (suc n) l =
      let cell : times_at (g n) name ≡ times_at (f n) name =
      ap (λ b. times_at (cond b (new (n - from)) (f n)) name) (before from words n (omega (arith, l))) in
      let rest = up_to n (omega (arith, l)) in
      omega (arith, cell, rest)

  at_new : (j : ℕ) → j < words → times_at (g (from + j)) name ≡ times_at (new j) name
  at_new j l =
      ap (λ b. times_at (cond b (new ((from + j) - from)) (f (from + j))) name) (inside from words (from + j) (omega arith) (omega (arith, l)))
      ∙ ap (λ i. times_at (new i) name) (omega arith)

  up_through : (j : ℕ) → j ≤ words → times_in (from + j) g name + times_in j moved name ≡ times_in (from + j) f name + times_in j new name
  up_through zero l =
      let same : from + 0 ≡ from = omega arith in
      rw same (let rest = up_to from (omega arith) in omega (arith, rest))
  up_through (suc j) l =
      let same : from + suc j ≡ suc (from + j) = omega arith in
      rw same (let rest = up_through j (omega (arith, l)) in let cell = at_new j (omega (arith, l)) in omega (arith, rest, cell))

  at_old : (j : ℕ) → times_at (g (from + words + j)) name ≡ times_at (f (from + words + j)) name
  at_old j = ap (λ b. times_at (cond b (new ((from + words + j) - from)) (f (from + words + j))) name) (behind from words (from + words + j) (omega arith))

  up_behind : (j : ℕ) → times_in (from + words + j) g name + times_in words moved name ≡ times_in (from + words + j) f name + times_in words new name
  up_behind zero =
      let same : from + words + 0 ≡ from + words = omega arith in
      rw same (up_through words (omega arith))
  up_behind (suc j) =
      let same : from + words + suc j ≡ suc (from + words + j) = omega arith in
      rw same (let rest = up_behind j in let cell = at_old j in omega (arith, rest, cell))

  whole : (n : ℕ) → from + words ≤ n → times_in n g name + times_in words moved name ≡ times_in n f name + times_in words new name
  whole n l =
      let same : n ≡ from + words + (n - (from + words)) = omega (arith, l) in
      rw same (up_behind (n - (from + words)))

-- ALL BLOCKS

same_cells : (n : ℕ) (f g : Cells) (name : ℕ) → ((at : ℕ) → f at ≡ g at) → times_in n f name ≡ times_in n g name
same_cells zero f g name h = refl
same_cells (suc n) f g name h =
    let rest = same_cells n f g name h in
    let cell : times_at (f n) name ≡ times_at (g n) name = ap (λ c. times_at c name) (h n) in
    omega (arith, rest, cell)

module _ (words : ℕ → ℕ) (cells : ℕ → Cells) (range : Range) (new : Cells) (name : ℕ) where
  abbrev stored : ℕ → Cells
  stored = with_cells cells range new

  elsewhere : (b : ℕ) → b ≢ range.block → times_in (words b) (stored b) name ≡ times_in (words b) (cells b) name
  elsewhere b h =
      same_cells (words b) (stored b) (cells b) name
      (λ at. ap (λ e. cond (e && within range.from range.words at) (new (at - range.from)) (cells b at)) (ne_eqb b range.block h))

  here : range.from + range.words ≤ words range.block →
      times_in (words range.block) (stored range.block) name + times_in range.words (window cells range) name ≡ times_in (words range.block)
      (cells range.block) name + times_in range.words new name
  here l =
      let as_one = same_cells (words range.block) (stored range.block)
      (λ at. cond (within range.from range.words at) (new (at - range.from)) (cells range.block at)) name
      (λ at. ap (λ e. cond (e && within range.from range.words at) (new (at - range.from)) (cells range.block at)) (eq-eqb range.block range.block refl)) in
      let sum = whole (cells range.block) new range.from range.words name (words range.block) l in
      omega (arith, as_one, sum)

  below : (n : ℕ) → n ≤ range.block → times n words stored name ≡ times n words cells name
  below zero l = refl
  below (suc n) l =
      let rest = below n (omega (arith, l)) in
      let block = elsewhere n (λ e. omega (arith, e, l)) in
      omega (arith, rest, block)

  pub above : (n : ℕ) → range.block < n → range.from + range.words ≤ words range.block →
      times n words stored name + times_in range.words (window cells range) name ≡ times n words cells name + times_in range.words new name
  above zero l m = absurd (omega (arith, l))
  above (suc n) l m = ⊎_elim
      (λ lt.
      let rest = above n lt m in
      let block = elsewhere n (λ e. omega (arith, e, lt)) in
      omega (arith, rest, block))
      (λ le.
      let same : n ≡ range.block = omega (arith, le, l) in
      let rest = below n (omega (arith, same)) in
      let block : times_in (words n) (stored n) name + times_in range.words (window cells range) name ≡ times_in (words n) (cells n) name + times_in
      range.words new name = rw same (here m) in
      omega (arith, rest, block))
      (cases_lt range.block n)

untouched : (n m : ℕ) (words : ℕ → ℕ) (cells : ℕ → Cells) (size : ℕ) (first : Cells) (name : ℕ) → n ≤ m
    → times n (with_at words m size) (with_at cells m first) name ≡ times n words cells name
untouched zero m words cells size first name l = refl
untouched (suc n) m words cells size first name l =
    let rest = untouched n m words cells size first name (omega (arith, l)) in
    let block : times_in (with_at words m size n) (with_at cells m first n) name ≡ times_in (words n) (cells n) name =
    ap (λ e. times_in (cond e size (words n)) (cond e first (cells n)) name) (ne_eqb n m (λ e. omega (arith, e, l))) in
    omega (arith, rest, block)

pub taken_block : (n : ℕ) (words : ℕ → ℕ) (cells : ℕ → Cells) (size : ℕ) (first : Cells) (name : ℕ)
    → times (suc n) (with_at words n size) (with_at cells n first) name ≡ times n words cells name + times_in size first name
taken_block n words cells size first name =
    let rest = untouched n n words cells size first name (omega arith) in
    let block : times_in (with_at words n size n) (with_at cells n first n) name ≡ times_in size first name =
    ap (λ e. times_in (cond e size (words n)) (cond e first (cells n)) name) (eq-eqb n n refl) in
    omega (arith, rest, block)
