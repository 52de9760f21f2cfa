-- What is represented after an array's cells move to a larger block.
use Rattle.std.proofs.Common.{◌≡◌, ◌<◌, ◌≤◌, ◌+◌, ◌-◌, ◌*◌, ◌^◌, ◌&&◌, ℕ, suc, Bool, true, false, nat_eq, nat_lt, cond, max, ℤ, pos, negsuc, List, ◌++◌}
use Rattle.std.proofs.Common.{length, replicate, Option, Some, None, refl, sym, ap, subst, ◌∙◌, arith, length-append}
use Rattle.std.proofs.lemmas.Bool.Decides.{nat_tests}
use Rattle.std.proofs.lemmas.List.{length-replicate}
use Rattle.hy_base.specs.declared.run.Counts.{Counts}
use Rattle.hy_access.specs.declared.access.Range.{Range}
use Rattle.hy_object.specs.declared.object.Fun.{Fun}
use Rattle.hy_object.specs.Arrays.{grows, moves_to}
use Rattle.hy_object.specs.Checks as checks
use Rattle.hy_object.specs.Checks.{frees, next, puts, takes}
use Rattle.hy_object.specs.Elements.{all_of, header}
use Rattle.hy_object.specs.States as machine
use Rattle.hy_object.specs.States.{State, first_cells, moved_to_new, with_at, with_cells, within}
use Rattle.hy_store.specs.declared.reach.Reach.{Reach}
use Rattle.hy_store.specs.declared.store.Store.{Store}
use Rattle.hy_store.specs.Allots.{Regrows, larger}
use Rattle.hy_store.specs.Cells.{Cell, Unset}
use Rattle.hy_store.specs.Memory.{live, HasCells}
use Rattle.hy_store.specs.Opened.{abstract_range}
use Rattle.hy_store.specs.Executes.{Goes}
use Rattle.hy_store.specs.Represents.{Ghosts, Represents, represented}
use Rattle.hy_store.proofs.Allotting.{allotted_seen, freed_seen, goes_so, padded_tells}
use Rattle.hy_store.proofs.Order.{less_before}
use Rattle.hy_store.proofs.Storing.{seen_at}
use Rattle.hy_store.proofs.Wholes.{row_size}

-- ROOM

test_none : (b : Bool) (m : ℕ) → cond b (Some m) None ≡ None → b ≡ false
test_none true m h = absurd (cc)
test_none false m h = refl

test_some : (b : Bool) (m n : ℕ) → cond b (Some m) None ≡ Some n → (b ≡ true) × (m ≡ n)
test_some true m n h = (refl, cc)
test_some false m n h = absurd (cc)

-- the larger block has room for all that was there
pub larger_more : (count : ℤ) (room words n : ℕ) → larger count room words ≡ Some n → words ≤ n
larger_more (negsuc m) room words n h = absurd (cc)
larger_more (pos count) room words n h =
    let p = test_some (nat_lt words (suc count * room)) (max (4 * room) (2 * count * room)) n h in
    let one_more : suc count * room ≡ count * room + room = omega arith in
    let twice : 2 * count * room ≡ 2 * (count * room) = omega arith in
    enough words (count * room) room n (sym (ap (nat_lt words) one_more) ∙ p.0) (sym (ap (max (4 * room)) twice) ∙ p.1)
  where
    enough : (w p r n : ℕ) → nat_lt w (p + r) ≡ true → max (4 * r) (2 * p) ≡ n → w ≤ n
    enough w p r n less is = grind (arith, nat_tests)

-- where there is room nothing changes
pub grows_not : (s : State) (x : checks.Reach) (block : ℕ) (count : ℤ) (room : ℕ) → larger count room (s.words block) ≡ None
    → grows s x block count room ≡ next s
grows_not s x block (negsuc m) room h = refl
grows_not s x block (pos count) room h =
    ap (λ t. cond t (moves_to (frees (takes (next s) (max (4 * room) (2 * count * room))) block) x (all_of s block) s.counts.blocks (pos count)) (next s))
    (test_none (nat_lt (s.words block) (suc count * room)) (max (4 * room) (2 * count * room)) h)

grows_so : (s : State) (x : checks.Reach) (block : ℕ) (count : ℤ) (room n : ℕ) → larger count room (s.words block) ≡ Some n
    → grows s x block count room ≡ moves_to (frees (takes (next s) n) block) x (all_of s block) s.counts.blocks count
grows_so s x block (negsuc m) room n h = absurd (cc)
grows_so s x block (pos count) room n h =
    let p = test_some (nat_lt (s.words block) (suc count * room)) (max (4 * room) (2 * count * room)) n h in
    ap (λ t. cond t (moves_to (frees (takes (next s) (max (4 * room) (2 * count * room))) block) x (all_of s block) s.counts.blocks (pos count)) (next s)) p.0
    ∙ ap (λ k. moves_to (frees (takes (next s) k) block) x (all_of s block) s.counts.blocks (pos count)) p.1

-- CELLS

-- the cells that are reached lie in a block that was taken
pub cells_before : (g : Ghosts) (store : Store) (fun : Fun) (s : State) → Represents g store fun s → (b from n : ℕ) → HasCells (live store.blocks b) from n
    → b < s.counts.blocks
cells_before g store fun s represents b from n there = parts (live store.blocks b) refl there
  where
    parts : (o : Option (List Cell)) → live store.blocks b ≡ o → HasCells o from n → b < s.counts.blocks
    parts None e h = absurd h
    parts (Some found) e h = (represents.held.known b found e).named

pub counted_before : (g : Ghosts) (store : Store) (fun : Fun) (s : State) → Represents g store fun s → (b from n : ℕ)
    → HasCells (live store.blocks b) from n → b < store.counts.blocks
counted_before g store fun s represents b from n there = let less = cells_before g store fun s represents b from n there in
    omega (arith, less, ap (λ (c : Counts). c.blocks) represents.counts)

module _ (old new : Store) (fun : Fun) (x : Reach) (block words n : ℕ) (count : ℤ)
    (regrows : Regrows old new x.range (record { block = block; from = 0; len = words }) n count)
    (there : HasCells (live old.blocks x.range.block) x.range.from x.range.len) (two : x.range.len ≡ 2) (more : words ≤ n) (small : n < 2 ^ 32)
    (g : Ghosts) (s : State) (represents : Represents g old fun s) (array : g.is_array block ≡ true) (was_taken : block < s.counts.blocks) where
  abbrev all : Range
  all = record { block = block; from = 0; len = words }

  abbrev pub with_new : Ghosts
  with_new = record { name = g.name; is_array = with_at g.is_array s.counts.blocks true }

  padded_size : length (regrows.row ++ replicate (n - length regrows.row) Unset) ≡ n
  padded_size = let size = row_size g old fun s represents all regrows.row regrows.is in
      omega (arith, length-append regrows.row (replicate (n - length regrows.row) Unset), length-replicate (n - length regrows.row) Unset, size, more)

  abbrev moved_in : ℕ → machine.Cells
  moved_in = with_at s.cells s.counts.blocks (first_cells s.cells (abstract_range all))

  stored_seen : Represents with_new regrows.mid fun (puts (record (takes s n) { cells = moved_in }) (abstract_range x.range) (header s.counts.blocks count))
  stored_seen =
      allotted_seen g old regrows.mid fun s represents x.range (regrows.row ++ replicate (n - length regrows.row) Unset) count regrows.allots there two
      (cells_before g old fun s represents x.range.block x.range.from x.range.len there)
      (first_cells s.cells (abstract_range all)) n padded_size small
      (padded_tells g old fun s represents all regrows.row regrows.is true (n - length regrows.row))

  -- the block that is freed is not looked at
  others_same : (b : ℕ) → nat_eq b block ≡ false → (i : ℕ)
      → with_cells (moved_to_new s.cells (abstract_range all) s.counts.blocks) (abstract_range x.range) (header s.counts.blocks count) b i ≡ with_cells
      moved_in (abstract_range x.range) (header s.counts.blocks count) b i
  others_same b differs i =
      ap (λ c. cond (nat_eq b x.range.block && within x.range.from x.range.len i) (header s.counts.blocks count (i - x.range.from)) c)
      (ap (λ t. cond (t && within 0 words i) machine.Unset (moved_in b i)) differs)

  pub regrown_seen : s.words block ≡ words
      → Represents with_new new fun (moves_to (frees (takes s n) block) (represented g s x) (all_of s block) s.counts.blocks count)
  regrown_seen size =
      subst (λ w. Represents with_new new fun (moves_to (frees (takes s n) block) (represented g s x) (record { block = block; from = 0; words = w })
      s.counts.blocks count)) (sym size)
      (freed_seen with_new regrows.mid new fun (puts (record (takes s n) { cells = moved_in }) (abstract_range x.range) (header s.counts.blocks count))
      stored_seen block regrows.frees
      (ap (λ t. cond t true (g.is_array block)) (less_before block s.counts.blocks was_taken) ∙ array) (omega (arith, was_taken))
      (with_cells (moved_to_new s.cells (abstract_range all) s.counts.blocks) (abstract_range x.range) (header s.counts.blocks count)) others_same)

-- an array grows: the answer of the instruction
pub regrown_goes : (old new : Store) (fun : Fun) (x : Reach) (block words n : ℕ) (count : ℤ) (room : ℕ)
    → Regrows old new x.range (record { block = block; from = 0; len = words }) n count → HasCells (live old.blocks x.range.block) x.range.from x.range.len
    → x.range.len ≡ 2 →
    larger count room words ≡ Some n → n < 2 ^ 32 → (step : State → State) →
    ((g : Ghosts) (s : State) → Represents g old fun s → (g.is_array block ≡ true) × (block < s.counts.blocks) × (s.words block ≡ words)
    × (step s ≡ grows s (represented g s x) block count room)) → Goes fun old new step
regrown_goes old new fun x block words n count room regrows there two is_larger small step is = goes_so fun old new step (λ g s represents.
    let d = is g s represents in
    let before = seen_at g old fun s (suc s.now.place) represents in (
      record { name = g.name; is_array = with_at g.is_array s.counts.blocks true },
      moves_to (frees (takes (next s) n) block) (represented g s x) (all_of s block) s.counts.blocks count,
      d.3 ∙ grows_so s (represented g s x) block count room n (ap (larger count room) d.2 ∙ is_larger),
      regrown_seen old new fun x block words n count regrows there two (larger_more count room words n is_larger) small g (next s) before d.0 d.1 d.2,
      record { now = refl; callers = refl; suspended = refl; left = refl; turns = refl; input = refl; cut = refl; output = refl; stop = refl },
    ))

-- an array has room: the answer of the instruction
pub room_goes : (store : Store) (fun : Fun) (x : Reach) (block words : ℕ) (count : ℤ) (room : ℕ) → larger count room words ≡ None → (step : State → State) →
    ((g : Ghosts) (s : State) → Represents g store fun s → (s.words block ≡ words) × (step s ≡ grows s (represented g s x) block count room))
    → Goes fun store store step
room_goes store fun x block words count room none step is = goes_so fun store store step (λ g s represents.
    let d = is g s represents in (
      g,
      next s,
      d.1 ∙ grows_not s (represented g s x) block count room (ap (larger count room) d.0 ∙ none),
      seen_at g store fun s (suc s.now.place) represents,
      record { now = refl; callers = refl; suspended = refl; left = refl; turns = refl; input = refl; cut = refl; output = refl; stop = refl },
    ))
