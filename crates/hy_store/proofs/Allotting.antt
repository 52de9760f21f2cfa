-- What is represented after an array's block is taken or freed.
use Rattle.std.proofs.Common.{◌≡◌, ◌<◌, ◌≤◌, ◌-◌, ◌^◌, ℕ, suc, Bool, true, false, nat_eq, cond, inl, inr, ℤ, pos, List, [], ◌∷◌, ◌++◌, length, replicate}
use Rattle.std.proofs.Common.{Option, Some, None, refl, sym, ap, subst, ◌∙◌, arith}
use Rattle.std.proofs.lemmas.List.{length-replicate}
use Rattle.hy_base.specs.declared.run.Counts.{Counts}
use Rattle.hy_access.specs.declared.access.Range.{Range}
use Rattle.hy_object.specs.declared.object.Fun.{Fun}
use Rattle.hy_object.specs.Checks.{frees, next, puts, takes}
use Rattle.hy_object.specs.Elements.{all_of, header}
use Rattle.hy_object.specs.States as machine
use Rattle.hy_object.specs.States.{Activation, Allocated, Event, Freed, State, first_cells, with_at, with_cells}
use Rattle.hy_store.specs.declared.frame.Frames.{Frames}
use Rattle.hy_store.specs.declared.opened.Opened.{Opened}
use Rattle.hy_store.specs.declared.store.Store.{Store}
use Rattle.hy_store.specs.Allots.{Allots, Frees, Takes}
use Rattle.hy_store.specs.Cells.{Cell, Unset, Word, Name}
use Rattle.hy_store.specs.Frames.{kept, slot_in}
use Rattle.hy_store.specs.Held.{AreHeld, IsGood, Tells, abstract_cell}
use Rattle.hy_store.specs.Memory.{Live, live, HasCells, IsRow, with_block}
use Rattle.hy_store.specs.Opened.{abstract_range}
use Rattle.hy_store.specs.Executes.{Forward, Goes}
use Rattle.hy_store.specs.Represents.{AreOpened, Ghosts, IsActive, IsKept, Represents, Stores, abstract_slot}
use Rattle.hy_store.proofs.Heading.{header_seen}
use Rattle.hy_store.proofs.Holding.{freed_one, same_or_other, still_good, taken_one, tells_unset}
use Rattle.hy_store.proofs.Order.{above, below, less_apart, less_before, less_or, same_test}
use Rattle.hy_store.proofs.Rows.{nth_behind, nth_front, nth_replicate}
use Rattle.hy_store.proofs.Storing.{seen_at, stored_seen}
use Rattle.hy_store.proofs.Wholes.{row_size, row_tells}

-- the instruction goes on so
pub goes_so : (fun : Fun) (old new : Store) (step : State → State)
    → ((g : Ghosts) (s : State) → Represents g old fun s → (after : Ghosts) × (t : State) × (step s ≡ t) × Represents after new fun t × Forward s t)
    → Goes fun old new step
goes_so fun old new step does = record {
  does = λ g s represents. let d = does g s represents in
      (d.0, subst (Represents d.0 new fun) (sym d.2) d.3, subst (Forward s) (sym d.2) d.4);
}

-- CELLS

-- what was there stays as it was
pub with_same : (cells : ℕ → machine.Cells) (k : ℕ) → with_at cells k (cells k) ≡ cells
with_same cells k = λ i b. each b i
  where
    each : (b : ℕ) → with_at cells k (cells k) b ≡ cells b
    each b = elim (same_or_other b k) [
      | inl same ↦ ap (λ t. cond t (cells k) (cells b)) same.0 ∙ ap cells (sym same.1)
      | inr differs ↦ ap (λ t. cond t (cells k) (cells b)) differs
    ]

-- a row with unset cells after it
pub padded_tells : (g : Ghosts) (store : Store) (fun : Fun) (s : State) (represents : Represents g store fun s) (r : Range) (row : List Cell)
    → IsRow (live store.blocks) r row → (v : Bool) (m : ℕ) →
    Tells (with_at g.is_array s.counts.blocks v) (suc s.counts.blocks) (row ++ replicate m Unset) (first_cells s.cells (abstract_range r))
padded_tells g store fun s represents r row is v m i c h =
    let size = row_size g store fun s represents r row is in
    elim (less_or i (length row)) [
      | inl less ↦
          let t = row_tells g store fun s represents r row is i c (sym (nth_front row (replicate m Unset) i less) ∙ h) in
          (rw (below i r.len (omega (arith, less, size))) t.0, still_good g.is_array s.counts.blocks v c t.1)
      | inr le ↦
          let u = nth_replicate m Unset (i - length row) c (sym (nth_behind row (replicate m Unset) i (i - length row) (omega (arith, le))) ∙ h) in (
            rw (above i r.len (omega (arith, le, size))) (ap abstract_cell u.1),
            subst (IsGood (with_at g.is_array s.counts.blocks v) (suc s.counts.blocks)) u.1 tt,
          )
    ]

module _ (is_array : ℕ → Bool) (taken : ℕ) (blocks : Live) (words freed : ℕ → ℕ) where
  -- the cells of a block that is not live are not looked at
  pub dead_cells : (old new : ℕ → machine.Cells) → AreHeld blocks is_array taken old words freed → (block : ℕ) → blocks block ≡ None
      → ((b : ℕ) → nat_eq b block ≡ false → (i : ℕ) → new b i ≡ old b i) → AreHeld blocks is_array taken new words freed
  dead_cells old new held block dead same = record {
    known = λ b found h.
        let k = held.known b found h in
        record {
          live = k.live;
          size = k.size;
          small = k.small;
          named = k.named;
          tells = λ i c at. let t = k.tells i c at in
              (same b (other b found h) i ∙ t.0, t.1);
        };
    gone = held.gone;
    fresh = held.fresh;
  }
    where
      none_some : {x : List Cell} → None ≡ Some x → ⊥
      none_some h = cc

      other : (b : ℕ) (found : List Cell) → blocks b ≡ Some found → nat_eq b block ≡ false
      other b found h = elim (same_or_other b block) [
        | inl same ↦ absurd (none_some (sym dead ∙ ap blocks (sym same.1) ∙ h))
        | inr differs ↦ differs
      ]

-- CHANGES OF BLOCKS

-- blocks are taken or freed, but no frame, and none comes back
module _ (g : Ghosts) (old new : Store) (fun : Fun) (s : State) (represents : Represents g old fun s) (is_array : ℕ
    → Bool) (opened_same : new.opened ≡ old.opened) (frames_same : new.frames ≡ old.frames) (frame_same : new.frame ≡ old.frame)
    (stay : (b : ℕ) (found : List Cell) → live old.blocks b ≡ Some found → g.is_array b ≡ false → (live new.blocks b ≡ Some found) × (is_array b ≡ false))
    (were : (b : ℕ) (found : List Cell) → b < s.counts.blocks → live new.blocks b ≡ Some found → live old.blocks b ≡ Some found) where
  kept_same : (f : ℕ) → kept new.frames f ≡ kept old.frames f
  kept_same f = ap (λ (fs : Frames). kept fs f) frames_same

  kept_own : kept new.frames new.frame ≡ kept old.frames old.frame
  kept_own = ap (kept new.frames) frame_same ∙ kept_same old.frame

  active_same : (a : Activation) → IsActive g old s.slots a → IsActive (record { name = g.name; is_array = is_array }) new s.slots a
  active_same a active = let p = stay a.frame active.own.0 active.own.1 active.no_array in record {
    own = (active.own.0, p.0, active.own.2);
    slots_are = λ k. active.slots_are k ∙ ap (λ o. abstract_slot (slot_in o k)) (sym (kept_same a.frame));
    mine = subst (λ o. IsKept o a.fun a.role) (sym (kept_same a.frame)) active.mine;
    no_array = p.1;
  }

  pub changed_seen : (cells : ℕ → machine.Cells) (words freed : ℕ → ℕ) (blocks n : ℕ) (journal : List Event) → s.counts.blocks ≤ blocks
      → AreHeld (live new.blocks) is_array blocks cells words freed → new.counts ≡ record (s.counts) { blocks = blocks; freed = n } →
      Represents (record { name = g.name; is_array = is_array }) new fun (record s {
        cells = cells;
        words = words;
        freed = freed;
        counts = record (s.counts) { blocks = blocks; freed = n };
        journal = journal;
      })
  changed_seen cells words freed blocks n journal le held counts =
      let p = stay old.frame represents.own.0 represents.own.1 represents.no_array in
      record {
        held = held;
        opened = subst (λ (o : Opened). AreOpened o (live new.blocks) blocks g.name s.access s.counts.opened) (sym opened_same) (record {
          told = represents.opened.told;
          ids = represents.opened.ids;
          all = represents.opened.all;
          inside = λ id one h. let i = represents.opened.inside id one h in
              record { named = omega (arith, i.named, le); fits = λ found k. i.fits found (were one.own.block found i.named k) };
        });
        frame = frame_same ∙ represents.frame;
        fun_is = represents.fun_is;
        own = (represents.own.0, ap (live new.blocks) frame_same ∙ p.0, represents.own.2);
        slots = λ k. represents.slots k ∙ ap (λ o. abstract_slot (slot_in o k)) (sym kept_own);
        mine = subst (λ o. IsKept o fun s.now.role) (sym kept_own) represents.mine;
        no_array = ap is_array frame_same ∙ p.1;
        counts = counts;
        waiting = λ i a h. active_same a (represents.waiting i a h);
        apart = represents.apart;
      }

-- a block is taken for an array
module _ (g : Ghosts) (old new : Store) (fun : Fun) (s : State) (represents : Represents g old fun s) (row : List Cell) (block_taken : Takes old new row) where
  taken : old.counts.blocks ≡ s.counts.blocks
  taken = ap (λ (c : Counts). c.blocks) represents.counts

  abbrev pub with_array : Ghosts
  with_array = record { name = g.name; is_array = with_at g.is_array s.counts.blocks true }

  taken_is : (b : ℕ) → live new.blocks b ≡ with_block (live old.blocks) s.counts.blocks (Some row) b
  taken_is b = block_taken.blocks b ∙ ap (λ n. with_block (live old.blocks) n (Some row) b) taken

  -- the blocks that were taken before
  pub taken_before : (b : ℕ) → b < s.counts.blocks → live new.blocks b ≡ live old.blocks b
  taken_before b less = taken_is b ∙ ap (λ t. cond t (Some row) (live old.blocks b)) (less_apart b s.counts.blocks less)

  pub taken_seen : (f : machine.Cells) (n : ℕ) → length row ≡ n → n < 2 ^ 32
      → Tells (with_at g.is_array s.counts.blocks true) (suc s.counts.blocks) row f →
      Represents with_array new fun (record (takes s n) { cells = with_at s.cells s.counts.blocks f })
  taken_seen f n size small tells =
      changed_seen g old new fun s represents (with_at g.is_array s.counts.blocks true) block_taken.opened block_taken.frames block_taken.frame
      (λ b found h no_array. let less = (represents.held.known b found h).named in
      (taken_before b less ∙ h, ap (λ t. cond t true (g.is_array b)) (less_before b s.counts.blocks less) ∙ no_array))
      (λ b found less h. sym (taken_before b less) ∙ h)
      (with_at s.cells s.counts.blocks f) (with_at s.words s.counts.blocks n) s.freed (suc s.counts.blocks) s.counts.freed
      (s.journal ++ Allocated s.counts.blocks ∷ []) (omega arith)
      (subst (λ m. AreHeld (live new.blocks) (with_at g.is_array s.counts.blocks true) (suc s.counts.blocks) (with_at s.cells s.counts.blocks f)
      (with_at s.words s.counts.blocks m) s.freed) size
      (taken_one g.is_array s.counts.blocks (live old.blocks) (live new.blocks) s.cells s.words s.freed represents.held true row f
      (omega (arith, size, small)) tells taken_is))
      (block_taken.counts ∙ ap (λ (c : Counts). record c { blocks = suc c.blocks }) represents.counts)

-- an array's block is freed, whatever becomes of its cells
module _ (g : Ghosts) (old new : Store) (fun : Fun) (s : State) (represents : Represents g old fun s) (block : ℕ) (block_freed : Frees old new block)
    (array : g.is_array block ≡ true) (was_taken : block < s.counts.blocks) where
  freed_other : (b : ℕ) → nat_eq block b ≡ false → live new.blocks b ≡ live old.blocks b
  freed_other b differs = block_freed.blocks b ∙ ap (λ t. cond t None (live old.blocks b)) differs

  freed_none : (b : ℕ) → nat_eq block b ≡ true → live new.blocks b ≡ None
  freed_none b same = block_freed.blocks b ∙ ap (λ t. cond t None (live old.blocks b)) same

  freed_stay : (b : ℕ) (found : List Cell) → live old.blocks b ≡ Some found → g.is_array b ≡ false → (live new.blocks b ≡ Some found) × (g.is_array b ≡ false)
  freed_stay b found h no_array = elim (same_or_other block b) [
    | inl same ↦ absurd (true_false (sym array ∙ ap g.is_array same.1 ∙ no_array))
    | inr differs ↦ (freed_other b differs ∙ h, no_array)
  ]
    where
      true_false : true ≡ false → ⊥
      true_false e = cc

  freed_were : (b : ℕ) (found : List Cell) → live new.blocks b ≡ Some found → live old.blocks b ≡ Some found
  freed_were b found h = elim (same_or_other block b) [
    | inl same ↦ absurd (none_some (sym (freed_none b same.0) ∙ h))
    | inr differs ↦ sym (freed_other b differs) ∙ h
  ]
    where
      none_some : {x : List Cell} → None ≡ Some x → ⊥
      none_some e = cc

  pub freed_seen : (cells : ℕ → machine.Cells) → ((b : ℕ) → nat_eq b block ≡ false → (i : ℕ) → cells b i ≡ s.cells b i)
      → Represents g new fun (record (frees s block) { cells = cells })
  freed_seen cells same =
      changed_seen g old new fun s represents g.is_array block_freed.opened block_freed.frames block_freed.frame freed_stay
      (λ b found less h. freed_were b found h)
      cells s.words (with_at s.freed block (suc (s.freed block))) s.counts.blocks (suc s.counts.freed) (s.journal ++ Freed block ∷ []) (omega arith)
      (dead_cells g.is_array s.counts.blocks (live new.blocks) s.words (with_at s.freed block (suc (s.freed block))) s.cells cells
      (freed_one g.is_array s.counts.blocks (live old.blocks) (live new.blocks) s.cells s.words s.freed represents.held block was_taken block_freed.blocks)
      block (freed_none block (same_test block)) same)
      (block_freed.counts ∙ ap (λ (c : Counts). record c { freed = suc c.freed }) represents.counts)

-- ARRAYS

-- a block is taken for the array with those two cells
module _ (g : Ghosts) (old new : Store) (fun : Fun) (s : State) (represents : Represents g old fun s) (r : Range) (row : List Cell) (count : ℤ)
    (allots : Allots old new r row count) (there : HasCells (live old.blocks r.block) r.from r.len) (two : r.len ≡ 2) (earlier : r.block < s.counts.blocks)
  where
    there_still : HasCells (live allots.mid.blocks r.block) r.from r.len
    there_still =
        subst (λ (o : Option (List Cell)). HasCells o r.from r.len) (sym (taken_before g old allots.mid fun s represents row allots.takes r.block earlier))
        there

    pub allotted_seen : (f : machine.Cells) (n : ℕ) → length row ≡ n → n < 2 ^ 32
        → Tells (with_at g.is_array s.counts.blocks true) (suc s.counts.blocks) row f →
        Represents (record { name = g.name; is_array = with_at g.is_array s.counts.blocks true }) new fun
        (puts (record (takes s n) { cells = with_at s.cells s.counts.blocks f }) (abstract_range r) (header s.counts.blocks count))
    allotted_seen f n size small tells =
        let at : old.counts.blocks ≡ s.counts.blocks = ap (λ (c : Counts). c.blocks) represents.counts in
        header_seen (record { name = g.name; is_array = with_at g.is_array s.counts.blocks true }) allots.mid new fun
        (record (takes s n) { cells = with_at s.cells s.counts.blocks f }) r s.counts.blocks count
        (taken_seen g old allots.mid fun s represents row allots.takes f n size small tells)
        (subst (λ b. Stores allots.mid new r (Name b ∷ Word count ∷ [])) at allots.stores) there_still two (omega arith)
        (ap (λ t. cond t true (g.is_array s.counts.blocks)) (same_test s.counts.blocks))

-- an array is made: the answer of the instruction
pub made_goes : (old new : Store) (fun : Fun) (r : Range) → Allots old new r [] (pos 0) → HasCells (live old.blocks r.block) r.from r.len → r.len ≡ 2
    → r.block < old.counts.blocks → (step : State → State) →
    ((g : Ghosts) (s : State) → Represents g old fun s → step s ≡ puts (takes (next s) 0) (abstract_range r) (header s.counts.blocks (pos 0)))
    → Goes fun old new step
made_goes old new fun r allots there two earlier step is = goes_so fun old new step (λ g s represents.
    let before = seen_at g old fun s (suc s.now.place) represents in
    let seen_so =
    allotted_seen g old new fun (next s) before r [] (pos 0) allots there two (omega (arith, earlier, ap (λ (c : Counts). c.blocks) represents.counts))
    (s.cells s.counts.blocks) 0 refl (omega arith) (nothing_told (with_at g.is_array s.counts.blocks true) (suc s.counts.blocks)
    (s.cells s.counts.blocks)) in (
      record { name = g.name; is_array = with_at g.is_array s.counts.blocks true },
      puts (takes (next s) 0) (abstract_range r) (header s.counts.blocks (pos 0)),
      is g s represents,
      subst (λ (cells : ℕ → machine.Cells). Represents (record { name = g.name; is_array = with_at g.is_array s.counts.blocks true }) new fun
          (puts (record (takes (next s) 0) { cells = cells }) (abstract_range r) (header s.counts.blocks (pos 0)))) (with_same s.cells s.counts.blocks)
          seen_so,
      record { now = refl; callers = refl; suspended = refl; left = refl; turns = refl; input = refl; cut = refl; output = refl; stop = refl },
    ))
  where
    nothing_told : (is_array : ℕ → Bool) (n : ℕ) (f : machine.Cells) → Tells is_array n [] f
    nothing_told is_array n f i c h = absurd (cc)

-- an array is freed: the answer of the instruction
pub freed_goes : (old mid new : Store) (fun : Fun) (r : Range) (block : ℕ) → Stores old mid r (replicate r.len Unset)
    → HasCells (live old.blocks r.block) r.from r.len → Frees mid new block
    → ((g : Ghosts) (s : State) → Represents g old fun s → (g.is_array block ≡ true) × (block < s.counts.blocks)) → (step : State → State) →
    ((g : Ghosts) (s : State) → Represents g old fun s → step s ≡ puts (frees (next s) block) (abstract_range r) machine.unset) → Goes fun old new step
freed_goes old mid new fun r block unsets there block_freed array step is = goes_so fun old new step (λ g s represents.
    let before = seen_at g old fun s (suc s.now.place) represents in
    let unset_so =
    stored_seen g old mid fun (next s) before r (replicate r.len Unset) machine.unset unsets there (length-replicate r.len Unset)
    (tells_unset g.is_array s.counts.blocks r.len) in
    let a = array g s represents in (
      g,
      puts (frees (next s) block) (abstract_range r) machine.unset,
      is g s represents,
      freed_seen g mid new fun (puts (next s) (abstract_range r) machine.unset) unset_so block block_freed a.0 a.1
          (with_cells s.cells (abstract_range r) machine.unset) (λ b differs i. refl),
      record { now = refl; callers = refl; suspended = refl; left = refl; turns = refl; input = refl; cut = refl; output = refl; stop = refl },
    ))

-- all cells of a block
pub all_is : (s : State) (block words : ℕ) (r : Range) → r ≡ record { block = block; from = 0; len = words } → s.words block ≡ words
    → all_of s block ≡ abstract_range r
all_is s block words r is size = ap (λ w. record { block = block; from = 0; words = w }) size ∙ ap abstract_range (sym is)
