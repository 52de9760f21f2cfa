-- What is represented after two elements have changed places.
use Rattle.std.proofs.Common.{◌≡◌, suc, List, length, sym, ◌∙◌}
use Rattle.hy_access.specs.declared.access.Range.{Range}
use Rattle.hy_object.specs.declared.object.Fun.{Fun}
use Rattle.hy_object.specs.Checks.{next, puts}
use Rattle.hy_object.specs.States.{State, window, with_cells}
use Rattle.hy_store.specs.declared.store.Store.{Store}
use Rattle.hy_store.specs.Cells.{Cell}
use Rattle.hy_store.specs.Memory.{live, HasCells, IsRow}
use Rattle.hy_store.specs.Opened.{abstract_range}
use Rattle.hy_store.specs.Executes.{Goes}
use Rattle.hy_store.specs.Represents.{Ghosts, Represents, Stores}
use Rattle.hy_store.proofs.Storing.{goes, others_twice, same_twice, seen_at, stored_seen, stored_shape, there_again}
use Rattle.hy_store.proofs.Wholes.{row_length, row_tells}

-- Each of two rows is stored where the other was: the answer of the instruction. The two ranges may be one.
pub swaps_goes : (old mid new : Store) (fun : Fun) (a b : Range) (first second : List Cell) → IsRow (live old.blocks) a first
    → IsRow (live old.blocks) b second → Stores old mid a second → Stores mid new b first →
    HasCells (live old.blocks a.block) a.from a.len → HasCells (live old.blocks b.block) b.from b.len → a.len ≡ b.len → (step : State → State) →
    ((g : Ghosts) (s : State) → Represents g old fun s
    → step s ≡ puts (puts (next s) (abstract_range a) (window s.cells (abstract_range b))) (abstract_range b) (window s.cells (abstract_range a)))
    → Goes fun old new step
swaps_goes old mid new fun a b first second is_first is_second puts_a puts_b a_there b_there size step does =
    let size_a : length second ≡ a.len = row_length (live old.blocks) b second is_second ∙ sym size in
    let size_b : length first ≡ b.len = row_length (live old.blocks) a first is_first ∙ size in
    let same = stored_shape old mid a second puts_a a_there size_a in
    let still = there_again (live old.blocks) (live mid.blocks) same b.block b.from b.len b_there in
    goes fun old new step (record {
      others = others_twice old mid new puts_a.others puts_b.others;
      same = same_twice (live old.blocks) (live mid.blocks) (live new.blocks) same (stored_shape mid new b first puts_b still size_b);
      does = λ g s represents.
          let one = stored_seen g old mid fun (next s) (seen_at g old fun s (suc s.now.place) represents) a second (window s.cells (abstract_range b))
          puts_a a_there size_a (row_tells g old fun s represents b second is_second) in (
            with_cells (with_cells s.cells (abstract_range a) (window s.cells (abstract_range b))) (abstract_range b) (window s.cells (abstract_range a)),
            does g s represents,
            stored_seen g mid new fun (puts (next s) (abstract_range a) (window s.cells (abstract_range b))) one b first (window s.cells (abstract_range a))
                puts_b still size_b (row_tells g old fun s represents a first is_first),
          );
    })
