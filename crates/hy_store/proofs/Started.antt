-- What is represented after a function is started.
use Rattle.std.proofs.Common.{◌≡◌, ◌<◌, ◌≤◌, ◌+◌, ◌-◌, ◌^◌, ℕ, zero, suc, Bool, true, false, nat_eq, nat_lt, cond, inl, inr, List, [], ◌∷◌, ◌++◌, map}
use Rattle.std.proofs.Common.{length, replicate, Some, refl, sym, ap, subst, ◌∙◌, arith, length-append}
use Rattle.std.proofs.lemmas.Bool.Decides.{nat_tests}
use Rattle.std.proofs.lemmas.List.{length-replicate}
use Rattle.hy_links.specs.Chains.{AreApart, times}
use Rattle.hy_base.specs.declared.run.Counts.{Counts}
use Rattle.hy_access.specs.declared.access.Range.{Range}
use Rattle.hy_object.specs.declared.object.Fun.{Fun}
use Rattle.hy_object.specs.Checks.{with_turn, own_slot}
use Rattle.hy_object.specs.Controls.{start, at_next, given, first_slots}
use Rattle.hy_object.specs.States as machine
use Rattle.hy_object.specs.States.{State, Activation, nth, with_at, with_cells, first_cells}
use Rattle.hy_store.specs.declared.frame.Role.{Role}
use Rattle.hy_store.specs.declared.frame.Slot.{Slot}
use Rattle.hy_store.specs.declared.frame.Slot.TheVariants as holds
use Rattle.hy_store.specs.declared.opened.Opened.{Opened}
use Rattle.hy_store.specs.declared.store.Store.{Store}
use Rattle.hy_store.specs.Cells.{Cell, Unset, with_window}
use Rattle.hy_store.specs.Frames.{kept, slot_in, held_at}
use Rattle.hy_store.specs.Held.{AreHeld, Tells}
use Rattle.hy_store.specs.Memory.{live, HasCells, with_block}
use Rattle.hy_store.specs.Opened.{abstract_range}
use Rattle.hy_store.specs.Represents.{AreOpened, Ghosts, IsActive, IsInside, IsKept, SameShape, Represents, Starts, first_slot, given_slot, abstract_role}
use Rattle.hy_store.specs.Represents.{abstract_slot}
use Rattle.hy_store.proofs.Allotting.{padded_tells}
use Rattle.hy_store.proofs.Holding.{same_or_other, stored, taken_one, tells_unset}
use Rattle.hy_store.proofs.Order.{above, less_apart, less_before, less_or, same_test}
use Rattle.hy_store.proofs.Rows.{nth_get, nth_none}
use Rattle.hy_store.proofs.Storing.{became, fits_in, found_again, shape_kept}

none_of : (f : ℕ) (xs : List ℕ) → ((i n : ℕ) → nth xs i ≡ Some n → n < f) → times f xs ≡ 0
none_of f [] all = refl
none_of f (x ∷ xs) all = further x f xs (all 0 x refl) (none_of f xs (λ i n h. all (suc i) n h))
  where
    further : (m n : ℕ) (ms : List ℕ) → m < n → times n ms ≡ 0 → times n (m ∷ ms) ≡ 0
    further m n ms h e = grind (arith, nat_tests)

nth_map : (xs : List Activation) (i n : ℕ) → nth (map (λ (a : Activation). a.frame) xs) i ≡ Some n → (a : Activation) × (nth xs i ≡ Some a) × (a.frame ≡ n)
nth_map [] i n h = absurd (cc)
nth_map (x ∷ xs) zero n h = (x, refl, cc)
nth_map (x ∷ xs) (suc i) n h = nth_map xs i n h

module _ (old new : Store) (fun callee : Fun) (slot : ℕ) (r : Range) (role : Role) (starts : Starts old new callee slot r role)
    (there : HasCells (live old.blocks r.block) r.from r.len) (owned : r.len ≤ callee.words) (small : callee.words < 2 ^ 32)
    (lent : callee.accesses ≤ callee.slots) (g : Ghosts) (s : State) (represents : Represents g old fun s) where
  taken : old.counts.blocks ≡ s.counts.blocks
  taken = ap (λ (c : Counts). c.blocks) represents.counts

  abbrev pub started : Ghosts
  started = record { name = g.name; is_array = with_at g.is_array s.counts.blocks false }

  abbrev all : List Cell
  all = starts.row ++ replicate (callee.words - length starts.row) Unset

  all_size : length all ≡ callee.words
  all_size = omega (
    arith,
    length-append starts.row (replicate (callee.words - length starts.row) Unset),
    length-replicate (callee.words - length starts.row) Unset,
    starts.size,
    owned,
  )

  all_tells : Tells started.is_array (suc s.counts.blocks) all (first_cells s.cells (abstract_range r))
  all_tells = padded_tells g old fun s represents r starts.row starts.is false (callee.words - length starts.row)

  mid_is : (b : ℕ) → starts.mid b ≡ with_block (live old.blocks) s.counts.blocks (Some all) b
  mid_is b = starts.takes b ∙ ap (λ n. with_block (live old.blocks) n (Some all) b) taken

  mid_held : AreHeld starts.mid started.is_array (suc s.counts.blocks) (with_at s.cells s.counts.blocks (first_cells s.cells (abstract_range r)))
      (with_at s.words s.counts.blocks callee.words) s.freed
  mid_held = subst
      (λ n. AreHeld starts.mid started.is_array (suc s.counts.blocks) (with_at s.cells s.counts.blocks (first_cells s.cells (abstract_range r)))
      (with_at s.words s.counts.blocks n) s.freed) all_size
      (taken_one g.is_array s.counts.blocks (live old.blocks) starts.mid s.cells s.words s.freed represents.held false all
      (first_cells s.cells (abstract_range r)) (omega (arith, all_size, small)) all_tells mid_is)

  -- the blocks that were taken before
  mid_before : (b : ℕ) → b < s.counts.blocks → starts.mid b ≡ live old.blocks b
  mid_before b less = mid_is b ∙ ap (λ t. cond t (Some all) (live old.blocks b)) (less_apart b s.counts.blocks less)

  block_taken : r.block < s.counts.blocks
  block_taken = (represents.held.known r.block starts.is.found starts.is.is).named

  abbrev unsetting : List Cell → List Cell
  unsetting cells = with_window cells r.from (replicate r.len Unset)

  mid_found : (found : List Cell) × (starts.mid r.block ≡ Some found)
      × ((other : ℕ) → live new.blocks other ≡ with_block starts.mid r.block (Some (unsetting found)) other)
  mid_found = became starts.mid (live new.blocks) r.block unsetting starts.unsets

  mid_fits : r.from + length (replicate r.len Unset) ≤ length mid_found.0
  mid_fits = subst (λ n. r.from + n ≤ length mid_found.0) (sym (length-replicate r.len Unset))
      (fits_in (live old.blocks r.block) mid_found.0 r.from r.len (sym (mid_before r.block block_taken) ∙ mid_found.1) there)

  mid_shape : SameShape starts.mid (live new.blocks)
  mid_shape = shape_kept starts.mid (live new.blocks) r.block r.from mid_found.0 (replicate r.len Unset) mid_found.1 mid_fits mid_found.2

  new_held : AreHeld (live new.blocks) started.is_array (suc s.counts.blocks) (machine.moved_to_new s.cells (abstract_range r) s.counts.blocks)
      (with_at s.words s.counts.blocks callee.words) s.freed
  new_held = subst
      (λ n. AreHeld (live new.blocks) started.is_array (suc s.counts.blocks)
      (with_cells (with_at s.cells s.counts.blocks (first_cells s.cells (abstract_range r))) (record { block = r.block; from = r.from; words = n })
      machine.unset) (with_at s.words s.counts.blocks callee.words) s.freed) (length-replicate r.len Unset)
      (stored started.is_array (suc s.counts.blocks) starts.mid (live new.blocks) (with_at s.cells s.counts.blocks (first_cells s.cells (abstract_range r)))
      (with_at s.words s.counts.blocks callee.words) s.freed mid_held r.block r.from mid_found.0 (replicate r.len Unset) machine.unset mid_found.1
      mid_fits
      (tells_unset started.is_array (suc s.counts.blocks) r.len) mid_found.2)

  old_found : (b : ℕ) (cells : List Cell) → b < s.counts.blocks → live new.blocks b ≡ Some cells → (found : List Cell) × (live old.blocks b ≡ Some found)
      × (length found ≡ length cells)
  old_found b cells less h = let p = found_again starts.mid (live new.blocks) mid_shape b cells h in (p.0, sym (mid_before b less) ∙ p.1, p.2)

  new_found : (b : ℕ) (cells : List Cell) → live old.blocks b ≡ Some cells → (found : List Cell) × (live new.blocks b ≡ Some found)
      × (length found ≡ length cells)
  new_found b cells h = found_again (live new.blocks) starts.mid (λ c. sym (mid_shape c)) b cells (mid_before b (represents.held.known b cells h).named ∙ h)

  inside_now : (range : Range) → IsInside (live old.blocks) s.counts.blocks range → IsInside (live new.blocks) (suc s.counts.blocks) range
  inside_now range inside = record {
    named = omega (arith, inside.named);
    fits = λ cells h. let p = old_found range.block cells inside.named h in omega (arith, inside.fits p.0 p.1, p.2);
  }

  new_opened : AreOpened new.opened (live new.blocks) (suc s.counts.blocks) g.name s.access s.counts.opened
  new_opened = subst (λ (o : Opened). AreOpened o (live new.blocks) (suc s.counts.blocks) g.name s.access s.counts.opened) (sym starts.opened) (record {
    told = represents.opened.told;
    ids = represents.opened.ids;
    all = represents.opened.all;
    inside = λ id one h. inside_now one.own (represents.opened.inside id one h);
  })

  frame_is : new.frame ≡ s.counts.blocks
  frame_is = starts.frame ∙ taken

  new_own : (found : List Cell) × (live new.blocks s.counts.blocks ≡ Some found) × (length found ≡ callee.words)
  new_own =
      let p = found_again (live new.blocks) starts.mid (λ c. sym (mid_shape c)) s.counts.blocks all (mid_is s.counts.blocks
      ∙ ap (λ t. cond t (Some all) (live old.blocks s.counts.blocks)) (same_test s.counts.blocks)) in
      (p.0, p.1, p.2 ∙ all_size)

  kept_all : (b : ℕ) → kept new.frames b ≡ cond (nat_eq s.counts.blocks b) (Some (record { slots = starts.first; role = role })) (kept old.frames b)
  kept_all b = starts.keeps b ∙ ap (λ n. cond (nat_eq n b) (Some (record { slots = starts.first; role = role })) (kept old.frames b)) taken

  kept_new : kept new.frames s.counts.blocks ≡ Some (record { slots = starts.first; role = role })
  kept_new = kept_all s.counts.blocks
      ∙ ap (λ t. cond t (Some (record { slots = starts.first; role = role })) (kept old.frames s.counts.blocks)) (same_test s.counts.blocks)

  kept_before : (b : ℕ) → b < s.counts.blocks → kept new.frames b ≡ kept old.frames b
  kept_before b less = kept_all b
      ∙ ap (λ t. cond t (Some (record { slots = starts.first; role = role })) (kept old.frames b)) (less_apart b s.counts.blocks less)

  given_told : (x : Slot) (y : machine.Slot) → y ≡ abstract_slot x → given y ≡ abstract_slot (given_slot x)
  given_told holds.Empty y h = ap given h
  given_told (holds.Given a) y h = ap given h
  given_told (holds.Filled a) y h = ap given h
  given_told (holds.Yielded a frame) y h = ap given h

  first_at : (k : ℕ) → k < callee.slots
      → slot_in (Some (record { slots = starts.first; role = role })) k ≡ first_slot (kept old.frames old.frame) slot callee.accesses k
  first_at k less = ap held_at (starts.slots.each k less)

  none_at : (k : ℕ) → callee.slots ≤ k → slot_in (Some (record { slots = starts.first; role = role })) k ≡ holds.Empty
  none_at k le = ap held_at (nth_get starts.first k ∙ nth_none starts.first k (omega (arith, le, starts.slots.size)))

  chosen : (b : Bool) (x : Slot) (y : machine.Slot) → given y ≡ abstract_slot x → cond b (given y) machine.Empty ≡ abstract_slot (cond b x holds.Empty)
  chosen true x y h = h
  chosen false x y h = refl

  first_told : (k : ℕ) → first_slots s slot callee.accesses k ≡ abstract_slot (slot_in (Some (record { slots = starts.first; role = role })) k)
  first_told k = elim (less_or k callee.slots) [
    | inl less ↦ chosen (nat_lt k callee.accesses) (given_slot (slot_in (kept old.frames old.frame) (slot + k))) (own_slot s (slot + k))
        (given_told (slot_in (kept old.frames old.frame) (slot + k)) (own_slot s (slot + k)) (represents.slots (slot + k)))
        ∙ ap abstract_slot (sym (first_at k less))
    | inr le ↦ ap (λ t. cond t (given (own_slot s (slot + k))) machine.Empty) (above k callee.accesses (omega (arith, le, lent)))
        ∙ ap abstract_slot (sym (none_at k le))
  ]

  abbrev slots_now : ℕ → ℕ → machine.Slot
  slots_now = with_at s.slots s.counts.blocks (first_slots s slot callee.accesses)

  -- an activation that was there waits as it was
  waits : (a : Activation) → (own : (found : List Cell) × (live old.blocks a.frame ≡ Some found) × (length found ≡ a.fun.words))
      → ((k : ℕ) → s.slots a.frame k ≡ abstract_slot (slot_in (kept old.frames a.frame) k)) → IsKept (kept old.frames a.frame) a.fun a.role
      → g.is_array a.frame ≡ false →
      IsActive started new slots_now a
  waits a own slots mine no_array =
      let less = (represents.held.known a.frame own.0 own.1).named in
      let p = new_found a.frame own.0 own.1 in
      record {
        own = (p.0, p.1, p.2 ∙ own.2);
        slots_are = λ k. ap (λ t. (cond t (first_slots s slot callee.accesses) (s.slots a.frame)) k) (less_before a.frame s.counts.blocks less) ∙ slots k
            ∙ ap (λ o. abstract_slot (slot_in o k)) (sym (kept_before a.frame less));
        mine = subst (λ o. IsKept o a.fun a.role) (sym (kept_before a.frame less)) mine;
        no_array = ap (λ t. cond t false (g.is_array a.frame)) (less_before a.frame s.counts.blocks less) ∙ no_array;
      }

  caller_waits : IsActive started new slots_now (at_next s.now)
  caller_waits = waits (at_next s.now)
      (represents.own.0, ap (live old.blocks) (sym represents.frame) ∙ represents.own.1, represents.own.2 ∙ ap (λ (f : Fun). f.words) represents.fun_is)
      (λ k. represents.slots k ∙ ap (λ f. abstract_slot (slot_in (kept old.frames f) k)) represents.frame)
      (subst (λ f. IsKept (kept old.frames f) s.now.fun s.now.role) represents.frame
      (subst (λ f. IsKept (kept old.frames old.frame) f s.now.role) represents.fun_is represents.mine))
      (ap g.is_array (sym represents.frame) ∙ represents.no_array)

  all_wait : (i : ℕ) (a : Activation) → nth (at_next s.now ∷ s.callers ++ s.suspended) i ≡ Some a → IsActive started new slots_now a
  all_wait zero a h = let e : at_next s.now ≡ a = cc in subst (IsActive started new slots_now) e caller_waits
  all_wait (suc i) a h = let w = represents.waiting i a h in waits a w.own w.slots_are w.mine w.no_array

  frames_before : (i n : ℕ) → nth (s.now.frame ∷ map (λ (a : Activation). a.frame) (s.callers ++ s.suspended)) i ≡ Some n → n < s.counts.blocks
  frames_before zero n h =
      let e : s.now.frame ≡ n = cc in
      let k = (represents.held.known old.frame represents.own.0 represents.own.1).named in
      omega (arith, k, represents.frame, e)
  frames_before (suc i) n h =
      let p = nth_map (s.callers ++ s.suspended) i n h in
      let w = represents.waiting i p.0 p.1 in
      let k = (represents.held.known p.0.frame w.own.0 w.own.1).named in
      omega (arith, k, p.2)

  new_apart : AreApart (s.counts.blocks ∷ (s.now.frame ∷ map (λ (a : Activation). a.frame) (s.callers ++ s.suspended)))
  new_apart f =
      one_more s.counts.blocks f (s.now.frame ∷ map (λ (a : Activation). a.frame) (s.callers ++ s.suspended))
      (none_of s.counts.blocks (s.now.frame ∷ map (λ (a : Activation). a.frame) (s.callers ++ s.suspended)) frames_before) (represents.apart f)
    where
      one_more : (m n : ℕ) (ms : List ℕ) → times m ms ≡ 0 → times n ms ≤ 1 → times n (m ∷ ms) ≤ 1
      one_more m n ms none few = elim (same_or_other m n) [
        | inl same ↦ let e : times n ms ≡ 0 = ap (λ k. times k ms) (sym same.1) ∙ none in counted m n ms (omega (arith, e))
        | inr differs ↦ passed m n ms differs few
      ]
        where
          counted : (m n : ℕ) (ms : List ℕ) → times n ms ≤ 0 → times n (m ∷ ms) ≤ 1
          counted m n ms h = grind (arith, nat_tests)

          passed : (m n : ℕ) (ms : List ℕ) → nat_eq m n ≡ false → times n ms ≤ 1 → times n (m ∷ ms) ≤ 1
          passed m n ms d h = grind (arith, nat_tests)

  -- the machine starts the function so
  pub started_seen : (number left : ℕ) → Represents started new callee (start (with_turn s left) number callee slot (abstract_range r) (abstract_role role))
  started_seen number left = record {
    held = new_held;
    opened = new_opened;
    frame = frame_is;
    fun_is = refl;
    own = (new_own.0, ap (live new.blocks) frame_is ∙ new_own.1, new_own.2);
    slots = λ k. ap (λ t. (cond t (first_slots s slot callee.accesses) (s.slots s.counts.blocks)) k) (same_test s.counts.blocks) ∙ first_told k
        ∙ ap (λ o. abstract_slot (slot_in o k)) (sym (ap (kept new.frames) frame_is ∙ kept_new));
    mine = (record { slots = starts.first; role = role }, ap (kept new.frames) frame_is ∙ kept_new, starts.slots.size, refl);
    no_array = ap (with_at g.is_array s.counts.blocks false) frame_is ∙ ap (λ t. cond t false (g.is_array s.counts.blocks)) (same_test s.counts.blocks);
    counts = starts.counts ∙ ap (λ (c : Counts). record c { blocks = suc c.blocks; turns = suc c.turns }) represents.counts;
    waiting = all_wait;
    apart = new_apart;
  }
