-- What is represented after an element has moved into an array or out of one.
use Rattle.std.proofs.Common.{◌≡◌, ℕ, zero, suc, not, ℤ, pos, negsuc, [], ◌∷◌, IsSome, true, refl, sym}
use Rattle.hy_access.specs.declared.access.Range.{Range}
use Rattle.hy_object.specs.declared.instr.Place.{Place}
use Rattle.hy_object.specs.declared.instr.Way.TheVariants as way
use Rattle.hy_object.specs.declared.object.Fun.{Fun}
use Rattle.hy_object.specs.declared.object.Object.{Object}
use Rattle.hy_object.specs.declared.stuck.Kind.TheVariants as kind
use Rattle.hy_object.specs.Arrays.{pop, pops, push, pushes}
use Rattle.hy_object.specs.Checks.{Reach, check, is_nameless, is_whole, may_write, meets, next, own_words, puts, transfers}
use Rattle.hy_object.specs.Elements.{array, header}
use Rattle.hy_object.specs.States.{State, moved, with_cells}
use Rattle.hy_store.specs.declared.store.Store.{Store}
use Rattle.hy_store.specs.Cells.{Word, Name}
use Rattle.hy_store.specs.Elements.{after_last, last, sides}
use Rattle.hy_store.specs.Memory.{live, HasCells}
use Rattle.hy_store.specs.Opened.{abstract_range}
use Rattle.hy_store.specs.Executes.{Goes}
use Rattle.hy_store.specs.Represents.{Ghosts, Moves, Represents, Stores}
use Rattle.hy_store.proofs.Heading.{header_seen, live_taken}
use Rattle.hy_store.proofs.Storing.{goes, moved_others, moved_same, moved_seen, others_twice, same_twice, seen_at, stored_shape, there_again}

-- an element moves, and the array's count is stored: the answer of the instruction
pub moves_goes : (old mid new : Store) (fun : Fun) (from to x : Range) (block : ℕ) (count : ℤ) → Moves old mid from to
    → HasCells (live old.blocks from.block) from.from from.len → HasCells (live old.blocks to.block) to.from to.len → to.len ≡ from.len →
    Stores mid new x (Name block ∷ Word count ∷ []) → HasCells (live old.blocks x.block) x.from x.len → x.len ≡ 2 → IsSome (live old.blocks block)
    → ((g : Ghosts) (s : State) → Represents g old fun s → g.is_array block ≡ true) → (step : State → State) →
    ((g : Ghosts) (s : State) → Represents g old fun s
    → step s ≡ puts (transfers (next s) (abstract_range from) (abstract_range to)) (abstract_range x) (header block count)) → Goes fun old new step
moves_goes old mid new fun from to x block count moves from_there to_there size stores there two lives is_array step does =
    let same = moved_same old mid from to moves from_there to_there size in
    let still = there_again (live old.blocks) (live mid.blocks) same x.block x.from x.len there in
    goes fun old new step (record {
      others = others_twice old mid new (moved_others old mid from to moves from_there to_there size) stores.others;
      same = same_twice (live old.blocks) (live mid.blocks) (live new.blocks) same
          (stored_shape mid new x (Name block ∷ Word count ∷ []) stores still (sym two));
      does = λ g s represents.
          let first = moved_seen old mid from to moves from_there to_there size g fun (next s) (seen_at g old fun s (suc s.now.place) represents) in (
            with_cells (moved s.cells (abstract_range from) (abstract_range to)) (abstract_range x) (header block count),
            does g s represents,
            header_seen g mid new fun (transfers (next s) (abstract_range from) (abstract_range to)) x block count first stores still two
                (live_taken g old fun s represents block lives) (is_array g s represents),
          );
    })

-- THE PARTS OF A PUSH AND OF A POP

pushes_is : (s : State) (x : Reach) (block : ℕ) (count : ℤ) (y : Reach) (width : ℕ) →
    pushes s x block count y width ≡ after_last s x block count y width
    (λ e n. check s kind.Lost (is_nameless s e) (puts (transfers (next s) y.range e) x.range (header block n)))
pushes_is s x block (negsuc n) y width = refl
pushes_is s x block (pos count) y width = refl

pub pushed_so : (s : State) (p : Place) (word width : ℕ) →
    push s p word width ≡ sides s p word width (λ x block count y. check s kind.Unset (is_whole s y.range)
    (after_last s x block count y width (λ e n. check s kind.Lost (is_nameless s e) (puts (transfers (next s) y.range e) x.range (header block n)))))
pushed_so s p word width = λ i.
    array s p way.Write (λ x block count.
    own_words s word width (λ y. check s kind.Range (not (meets x.range y.range))
    (check s kind.Access (may_write s y)
    (check s kind.Unset (is_whole s y.range)
    (pushes_is s x block count y width i)))))

pops_is : (object : Object) (s : State) (x : Reach) (block : ℕ) (count : ℤ) (y : Reach) (width span : ℕ) →
    pops object s x block count y width span ≡ last object s x block count y width span
    (λ e n. check s kind.Unset (is_whole s e) (puts (transfers (next s) e y.range) x.range (header block n)))
pops_is object s x block (negsuc n) y width span = refl
pops_is object s x block (pos zero) y width span = refl
pops_is object s x block (pos (suc k)) y width span = refl

pub popped_so : (object : Object) (s : State) (p : Place) (word width span : ℕ) →
    pop object s p word width span ≡ sides s p word width (λ x block count y. check s kind.Lost (is_nameless s y.range)
    (last object s x block count y width span (λ e n. check s kind.Unset (is_whole s e)
    (puts (transfers (next s) e y.range) x.range (header block n)))))
popped_so object s p word width span = λ i.
    array s p way.Write (λ x block count.
    own_words s word width (λ y. check s kind.Range (not (meets x.range y.range))
    (check s kind.Access (may_write s y)
    (check s kind.Lost (is_nameless s y.range)
    (pops_is object s x block count y width span i)))))
