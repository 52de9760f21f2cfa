-- What is represented after cells are stored.
use Rattle.std.proofs.Common.{◌≡◌, ◌≤◌, ◌+◌, ℕ, suc, ℤ, inl, inr, List, [], ◌∷◌, length, replicate, Option, Some, None, IsSomeAnd, refl, sym, ap, subst}
use Rattle.std.proofs.Common.{◌∙◌, arith}
use Rattle.std.proofs.lemmas.List.{length-replicate}
use Rattle.hy_access.specs.declared.access.Range.{Range}
use Rattle.hy_object.specs.declared.object.Fun.{Fun}
use Rattle.hy_object.specs.Checks.{Reach, goes_to, next, only, puts, store, transfers}
use Rattle.hy_object.specs.States as machine
use Rattle.hy_object.specs.States.{Activation, State, moved, with_cells}
use Rattle.hy_store.specs.declared.opened.Opened.{Opened}
use Rattle.hy_store.specs.declared.store.Store.{Store}
use Rattle.hy_store.specs.Cells.{Cell, Unset, Word, with_window}
use Rattle.hy_store.specs.Frames.{kept, slot_in}
use Rattle.hy_store.specs.Held.{AreHeld, Tells}
use Rattle.hy_store.specs.Memory.{Live, live, Becomes, HasCells, with_block}
use Rattle.hy_store.specs.Opened.{abstract_range}
use Rattle.hy_store.specs.Executes.{Forward, Goes, Writes}
use Rattle.hy_store.specs.Represents.{Ghosts, Represents, Moves, Stores, KeepsOthers, IsActive, IsInside, IsKept, AreOpened, abstract_slot, SameShape, shape}
use Rattle.hy_store.proofs.Rows.{length_stored}
use Rattle.hy_store.proofs.Holding.{same_or_other, stored, tells_unset, tells_word}
use Rattle.hy_store.proofs.Wholes.{row_tells}

-- a block that becomes other cells, as many, is found as they are
pub became : (old new : Live) (b : ℕ) (f : List Cell → List Cell) → Becomes old new b f → (found : List Cell) × (old b ≡ Some found)
    × ((other : ℕ) → new other ≡ with_block old b (Some (f found)) other)
became old new b f h = parts (old b) refl h
  where
    parts : (o : Option (List Cell)) → old b ≡ o → IsSomeAnd o (λ cells. (other : ℕ) → new other ≡ with_block old b (Some (f cells)) other)
        → (found : List Cell) × (old b ≡ Some found) × ((other : ℕ) → new other ≡ with_block old b (Some (f found)) other)
    parts None e h = absurd h
    parts (Some found) e h = (found, e, h)

pub fits_in : (o : Option (List Cell)) (found : List Cell) (from n : ℕ) → o ≡ Some found → HasCells o from n → from + n ≤ length found
fits_in o found from n e h = rw e at h

-- the lengths of all blocks stay where one is stored over
pub shape_kept : (old new : Live) (b from : ℕ) (found row : List Cell) → old b ≡ Some found → from + length row ≤ length found
    → ((other : ℕ) → new other ≡ with_block old b (Some (with_window found from row)) other) → SameShape old new
shape_kept old new b from found row is fits becomes other =
    elim (same_or_other b other) [
      | inl same ↦ rw (becomes other, same.0, ← same.1, is) (ap (λ n. Some n) (length_stored found row from fits))
      | inr differs ↦ rw (becomes other, differs) refl
    ]

pub found_again : (old new : Live) → SameShape old new → (b : ℕ) (cells : List Cell) → new b ≡ Some cells → (found : List Cell) × (old b ≡ Some found)
    × (length found ≡ length cells)
found_again old new same b cells h = parts (old b) refl (sym (same b) ∙ ap shape h)
  where
    parts : (o : Option (List Cell)) → old b ≡ o → shape o ≡ Some (length cells) → (found : List Cell) × (old b ≡ Some found) × (length found ≡ length cells)
    parts None e h = absurd (cc)
    parts (Some found) e h = (found, e, cc)

pub inside_again : (old new : Live) (taken : ℕ) (r : Range) → SameShape old new → IsInside old taken r → IsInside new taken r
inside_again old new taken r same inside = record {
  named = inside.named;
  fits = λ cells h. let p = found_again old new same r.block cells h in omega (arith, inside.fits p.0 p.1, p.2);
}

pub stored_shape : (old new : Store) (r : Range) (row : List Cell) → Stores old new r row → HasCells (live old.blocks r.block) r.from r.len
    → length row ≡ r.len → SameShape (live old.blocks) (live new.blocks)
stored_shape old new r row stores there size =
    let b = became (live old.blocks) (live new.blocks) r.block _ stores.becomes in
    shape_kept (live old.blocks) (live new.blocks) r.block r.from b.0 row b.1
    (subst (λ n. r.from + n ≤ length b.0) (sym size) (fits_in _ b.0 r.from r.len b.1 there)) b.2

module _ (g : Ghosts) (old new : Store) (fun : Fun) (s : State) (represents : Represents g old fun s) where
  active_again : (a : Activation) → KeepsOthers old new → SameShape (live old.blocks) (live new.blocks) → IsActive g old s.slots a → IsActive g new s.slots a
  active_again a others same active =
      let own = found_again (live new.blocks) (live old.blocks) (λ b. sym (same b)) a.frame active.own.0 active.own.1 in
      record {
        own = (own.0, own.1, own.2 ∙ active.own.2);
        slots_are = λ k. active.slots_are k ∙ ap (λ f. abstract_slot (slot_in (kept f a.frame) k)) (sym others.frames);
        mine = subst (λ f. IsKept (kept f a.frame) a.fun a.role) (sym others.frames) active.mine;
        no_array = active.no_array;
      }

  -- what is represented where the lengths of blocks stay, with the new cells
  pub seen_again : (cells : ℕ → machine.Cells) → KeepsOthers old new → SameShape (live old.blocks) (live new.blocks)
      → AreHeld (live new.blocks) g.is_array s.counts.blocks cells s.words s.freed → Represents g new fun (record s { cells = cells })
  seen_again cells others same held =
      let own = found_again (live new.blocks) (live old.blocks) (λ b. sym (same b)) old.frame represents.own.0 represents.own.1 in
      record {
        held = held;
        opened = subst (λ (o : Opened). AreOpened o (live new.blocks) s.counts.blocks g.name s.access s.counts.opened) (sym others.opened) (record {
          told = represents.opened.told;
          ids = represents.opened.ids;
          all = represents.opened.all;
          inside = λ id one h. inside_again (live old.blocks) (live new.blocks) s.counts.blocks one.own same (represents.opened.inside id one h);
        });
        frame = others.frame ∙ represents.frame;
        fun_is = represents.fun_is;
        own = (own.0, ap (live new.blocks) others.frame ∙ own.1, own.2 ∙ represents.own.2);
        slots = λ k. represents.slots k
            ∙ ap (λ o. abstract_slot (slot_in o k)) (sym (ap (kept new.frames) others.frame ∙ ap (λ f. kept f old.frame) others.frames));
        mine = subst (λ o. IsKept o fun s.now.role) (sym (ap (kept new.frames) others.frame ∙ ap (λ f. kept f old.frame) others.frames)) represents.mine;
        no_array = ap g.is_array others.frame ∙ represents.no_array;
        counts = others.counts ∙ represents.counts;
        waiting = λ i a h. active_again a others same (represents.waiting i a h);
        apart = represents.apart;
      }

  pub stored_seen : (r : Range) (row : List Cell) (f : machine.Cells) → Stores old new r row → HasCells (live old.blocks r.block) r.from r.len
      → length row ≡ r.len → Tells g.is_array s.counts.blocks row f → Represents g new fun (puts s (abstract_range r) f)
  stored_seen r row f stores there size tells =
      let b = became (live old.blocks) (live new.blocks) r.block _ stores.becomes in
      let fits : r.from + length row ≤ length b.0 = subst (λ n. r.from + n ≤ length b.0) (sym size) (fits_in _ b.0 r.from r.len b.1 there) in
      let held = stored g.is_array s.counts.blocks (live old.blocks) (live new.blocks) s.cells s.words s.freed represents.held r.block r.from b.0 row f b.1
      fits tells b.2 in
      seen_again (with_cells s.cells (abstract_range r) f) stores.others (stored_shape old new r row stores there size)
      (subst (λ n. AreHeld (live new.blocks) g.is_array s.counts.blocks (with_cells s.cells (record { block = r.block; from = r.from; words = n }) f)
      s.words s.freed) size held)

-- the place of the running activation is not looked at
pub seen_at : (g : Ghosts) (store : Store) (fun : Fun) (s : State) (place : ℕ) → Represents g store fun s → Represents g store fun (goes_to s place)
seen_at g store fun s place represents = record {
  held = represents.held;
  opened = represents.opened;
  frame = represents.frame;
  fun_is = represents.fun_is;
  own = represents.own;
  slots = represents.slots;
  mine = represents.mine;
  no_array = represents.no_array;
  counts = represents.counts;
  waiting = represents.waiting;
  apart = represents.apart;
}

-- cells are stored, and the next instruction follows
pub writes_row : (g : Ghosts) (old new : Store) (fun : Fun) (s : State) (r : Range) (row : List Cell) (f : machine.Cells) → Represents g old fun s
    → Stores old new r row → HasCells (live old.blocks r.block) r.from r.len → length row ≡ r.len → Tells g.is_array s.counts.blocks row f →
    Represents g new fun (puts (next s) (abstract_range r) f)
writes_row g old new fun s r row f represents stores there size tells =
    stored_seen g old new fun (next s) (seen_at g old fun s (suc s.now.place) represents) r row f stores there size tells

-- cells change, and the next instruction follows
pub goes : (fun : Fun) (old new : Store) (step : State → State) → Writes fun old new step → Goes fun old new step
goes fun old new step writes = record {
  does = λ g s represents.
      let d = writes.does g s represents in (
        g,
        subst (Represents g new fun) (sym d.1) d.2,
        subst (Forward s) (sym d.1) (record {
          now = refl;
          callers = refl;
          suspended = refl;
          left = refl;
          turns = refl;
          input = refl;
          cut = refl;
          output = refl;
          stop = refl;
        }),
      );
}

-- a word is stored: the answer of the instruction
pub writes_word : (old new : Store) (fun : Fun) (r : Range) (n : ℤ) (step : State → State) (x : Ghosts → State → Reach) → Stores old new r (Word n ∷ [])
    → HasCells (live old.blocks r.block) r.from r.len → r.len ≡ 1 →
    ((g : Ghosts) (s : State) → Represents g old fun s → ((x g s).range ≡ abstract_range r) × (step s ≡ store s (x g s) n)) → Goes fun old new step
writes_word old new fun r n step x stores there one does = goes fun old new step (record {
  others = stores.others;
  same = stored_shape old new r (Word n ∷ []) stores there (sym one);
  does = λ g s represents. let d = does g s represents in (
    with_cells s.cells (abstract_range r) (only (machine.Word n)),
    d.1 ∙ ap (λ (q : machine.Range). puts (next s) q (only (machine.Word n))) d.0,
    writes_row g old new fun s r (Word n ∷ []) (only (machine.Word n)) represents stores there (sym one) (tells_word g.is_array s.counts.blocks n),
  );
})

-- cells are stored: the answer of the instruction
pub writes_cells : (old new : Store) (fun : Fun) (r : Range) (row : List Cell) (step : State → State) (f : State → machine.Cells) → Stores old new r row
    → HasCells (live old.blocks r.block) r.from r.len → length row ≡ r.len →
    ((g : Ghosts) (s : State) → Represents g old fun s → (step s ≡ puts (next s) (abstract_range r) (f s)) × Tells g.is_array s.counts.blocks row (f s))
    → Goes fun old new step
writes_cells old new fun r row step f stores there size does = goes fun old new step (record {
  others = stores.others;
  same = stored_shape old new r row stores there size;
  does = λ g s represents. let d = does g s represents in
      (with_cells s.cells (abstract_range r) (f s), d.0, writes_row g old new fun s r row (f s) represents stores there size d.1);
})

pub there_again : (old new : Live) → SameShape old new → (b from n : ℕ) → HasCells (old b) from n → HasCells (new b) from n
there_again old new same b from n there = parts (old b) (new b) (same b) there
  where
    parts : (o p : Option (List Cell)) → shape p ≡ shape o → HasCells o from n → HasCells p from n
    parts None p e h = absurd h
    parts (Some found) None e h = absurd (cc)
    parts (Some found) (Some cells) e h = let size : length cells ≡ length found = cc in omega (arith, h)

pub same_twice : (a b c : Live) → SameShape a b → SameShape b c → SameShape a c
same_twice a b c x y name = y name ∙ x name

pub others_twice : (a b c : Store) → KeepsOthers a b → KeepsOthers b c → KeepsOthers a c
others_twice a b c x y = record { opened = y.opened ∙ x.opened; frames = y.frames ∙ x.frames; frame = y.frame ∙ x.frame; counts = y.counts ∙ x.counts }

module _ (old new : Store) (from to : Range) (moves : Moves old new from to) (x : HasCells (live old.blocks from.block) from.from from.len)
    (y : HasCells (live old.blocks to.block) to.from to.len) (size : to.len ≡ from.len) where
  pub moved_others : KeepsOthers old new
  moved_others = others_twice old moves.mid new moves.puts.others moves.unsets.others

  first_same : SameShape (live old.blocks) (live moves.mid.blocks)
  first_same = stored_shape old moves.mid to moves.row moves.puts y (moves.size ∙ sym size)

  still_there : HasCells (live moves.mid.blocks from.block) from.from from.len
  still_there = there_again (live old.blocks) (live moves.mid.blocks) first_same from.block from.from from.len x

  pub moved_same : SameShape (live old.blocks) (live new.blocks)
  moved_same = same_twice (live old.blocks) (live moves.mid.blocks) (live new.blocks) first_same
      (stored_shape moves.mid new from (replicate from.len Unset) moves.unsets still_there (length-replicate from.len Unset))

  pub moved_seen : (g : Ghosts) (fun : Fun) (s : State) → Represents g old fun s → Represents g new fun (transfers s (abstract_range from) (abstract_range to))
  moved_seen g fun s represents =
      let f : machine.Cells = machine.window s.cells (abstract_range from) in
      let first = stored_seen g old moves.mid fun s represents to moves.row f moves.puts y (moves.size
      ∙ sym size) (row_tells g old fun s represents from moves.row moves.is) in
      let last = stored_seen g moves.mid new fun (puts s (abstract_range to) f) first from (replicate from.len Unset) machine.unset moves.unsets still_there
      (length-replicate from.len Unset) (tells_unset g.is_array s.counts.blocks from.len) in
      record {
        held = last.held;
        opened = last.opened;
        frame = last.frame;
        fun_is = last.fun_is;
        own = last.own;
        slots = last.slots;
        mine = last.mine;
        no_array = last.no_array;
        counts = last.counts;
        waiting = last.waiting;
        apart = last.apart;
      }

  -- cells are moved: the answer of the instruction
  pub writes_moved : (fun : Fun) (step : State → State) → ((g : Ghosts) (s : State) → Represents g old fun s
      → step s ≡ transfers (next s) (abstract_range from) (abstract_range to)) → Goes fun old new step
  writes_moved fun step does = goes fun old new step (record {
    others = moved_others;
    same = moved_same;
    does = λ g s represents. (
      moved s.cells (abstract_range from) (abstract_range to),
      does g s represents,
      moved_seen g fun (next s) (seen_at g old fun s (suc s.now.place) represents),
    );
  })
