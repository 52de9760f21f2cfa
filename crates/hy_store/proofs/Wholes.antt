-- Tests of the cells of a range.
use Rattle.std.proofs.Common.{◌≡◌, ◌<◌, ℕ, zero, suc, Bool, true, not, List, [], ◌∷◌, length, Some, slice_get, refl, sym, ap, subst, ◌∙◌}
use Rattle.std.proofs.lemmas.Bool.Decides.{same_from_decides}
use Rattle.hy_access.specs.declared.access.Range.{Range}
use Rattle.hy_object.specs.declared.object.Fun.{Fun}
use Rattle.hy_object.specs.Checks.{is_set, is_name, is_whole, is_nameless}
use Rattle.hy_object.specs.States as machine
use Rattle.hy_object.specs.States.{State, all_below, nth}
use Rattle.hy_store.specs.declared.store.Store.{Store}
use Rattle.hy_store.specs.Cells.{Cell, Unset, Word, Name, every, all_set, no_name, is_plain, cell_in}
use Rattle.hy_store.specs.Cells as cells
use Rattle.hy_store.specs.Held.{abstract_cell, IsGood, Tells}
use Rattle.hy_store.specs.Memory.{Live, live, IsRow}
use Rattle.hy_store.specs.Opened.{abstract_range}
use Rattle.hy_store.specs.Represents.{Ghosts, Represents}
use Rattle.hy_store.proofs.Counted.{both, joined, each_below, all_below_if}
use Rattle.hy_store.proofs.Rows.{nth_in, nth_there, length_window, nth_get}
use Rattle.hy_store.proofs.Holding.{tells_window}

every_then : (p : Cell → Bool) (xs : List Cell) → every p xs ≡ true → (i : ℕ) (c : Cell) → nth xs i ≡ Some c → p c ≡ true
every_then p [] all i c h = absurd (cc)
every_then p (x ∷ xs) all zero c h = let e : x ≡ c = cc in ap p (sym e) ∙ (both (p x) (every p xs) all).0
every_then p (x ∷ xs) all (suc i) c h = every_then p xs (both (p x) (every p xs) all).1 i c h

every_if : (p : Cell → Bool) (xs : List Cell) → ((i : ℕ) (c : Cell) → nth xs i ≡ Some c → p c ≡ true) → every p xs ≡ true
every_if p [] each = refl
every_if p (x ∷ xs) each = joined (p x) (every p xs) (each zero x refl) (every_if p xs (λ i c h. each (suc i) c h))

pub every_below : (test : machine.Cell → Bool) (p : Cell → Bool) → ((c : Cell) → test (abstract_cell c) ≡ p c)
    → (is_array : ℕ → Bool) (taken : ℕ) (row : List Cell) (f : machine.Cells) → Tells is_array taken row f →
    (n : ℕ) → length row ≡ n → all_below n (λ i. test (f i)) ≡ every p row
every_below test p agree is_array taken row f tells n size =
    same_from_decides {P = every p row ≡ true} (all_below n (λ i. test (f i))) (every p row) (
      λ all. every_if p row (λ i c h. sym (agree c) ∙ ap test (sym (tells i c h).0)
          ∙ each_below n (λ i. test (f i)) all i (subst (λ m. i < m) size (nth_in row i c h))),
      λ all. all_below_if n (λ i. test (f i)) (λ i below. let at = nth_there row i (subst (λ m. i < m) (sym size) below) in ap test (tells i at.0 at.1).0
          ∙ agree at.0 ∙ every_then p row all i at.0 at.1),
    )
    (λ h. h, λ h. h)

module _ (g : Ghosts) (store : Store) (fun : Fun) (s : State) (represents : Represents g store fun s) (r : Range) (row : List Cell)
    (is : IsRow (live store.blocks) r row) where
  pub row_tells : Tells g.is_array s.counts.blocks row (machine.window s.cells (abstract_range r))
  row_tells = rw is.row_is (tells_window g.is_array s.counts.blocks is.found (s.cells r.block) r.from r.len
      (represents.held.known r.block is.found is.is).tells)

  pub row_size : length row ≡ r.len
  row_size = ap length is.row_is ∙ length_window is.found r.from r.len is.fits

  pub whole_is : is_whole s (abstract_range r) ≡ all_set row
  whole_is = every_below is_set cells.is_set set_so g.is_array s.counts.blocks row (machine.window s.cells (abstract_range r)) row_tells r.len row_size
    where
      set_so : (c : Cell) → is_set (abstract_cell c) ≡ cells.is_set c
      set_so Unset = refl
      set_so (Word n) = refl
      set_so (Name b) = refl

  pub nameless_is : is_nameless s (abstract_range r) ≡ no_name row
  nameless_is =
      every_below (λ c. not (is_name c)) is_plain plain_so g.is_array s.counts.blocks row (machine.window s.cells (abstract_range r)) row_tells r.len
      row_size
    where
      plain_so : (c : Cell) → not (is_name (abstract_cell c)) ≡ is_plain c
      plain_so Unset = refl
      plain_so (Word n) = refl
      plain_so (Name b) = refl

  -- the cell at a place of the row
  pub cell_is : (i : ℕ) → i < r.len → machine.window s.cells (abstract_range r) i ≡ abstract_cell (cell_in (slice_get row i))
  cell_is i below =
      let at = nth_there row i (subst (λ m. i < m) (sym row_size) below) in
      (row_tells i at.0 at.1).0 ∙ ap abstract_cell (sym (ap cell_in (nth_get row i ∙ at.1)))

  -- a name in the row is that of an array's block
  pub name_is_good : (i : ℕ) → i < r.len → (b : ℕ) → cell_in (slice_get row i) ≡ Name b → IsGood g.is_array s.counts.blocks (Name b)
  name_is_good i below b h =
      let at = nth_there row i (subst (λ m. i < m) (sym row_size) below) in
      subst (IsGood g.is_array s.counts.blocks) (sym (ap cell_in (nth_get row i ∙ at.1)) ∙ h) (row_tells i at.0 at.1).1

pub row_length : (blocks : Live) (r : Range) (row : List Cell) → IsRow blocks r row → length row ≡ r.len
row_length blocks r row is = ap length is.row_is ∙ length_window is.found r.from r.len is.fits
