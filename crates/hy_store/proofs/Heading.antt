-- The two cells of an array.
use Rattle.std.proofs.Common.{◌≡◌, ◌<◌, ℕ, zero, suc, Bool, true, false, ℤ, [], ◌∷◌, Option, Some, None, List, IsSome, refl, sym, ap, subst}
use Rattle.hy_access.specs.declared.access.Range.{Range}
use Rattle.hy_object.specs.declared.object.Fun.{Fun}
use Rattle.hy_object.specs.declared.stuck.Kind.{Kind}
use Rattle.hy_object.specs.Checks.{check, puts}
use Rattle.hy_object.specs.Elements.{header}
use Rattle.hy_object.specs.States.{State, Stuck}
use Rattle.hy_store.specs.declared.store.Store.{Store}
use Rattle.hy_store.specs.Cells.{Cell, Word, Name}
use Rattle.hy_store.specs.Held.{abstract_cell, IsGood, Tells}
use Rattle.hy_store.specs.Memory.{live, HasCells}
use Rattle.hy_store.specs.Opened.{abstract_range}
use Rattle.hy_store.specs.Represents.{Ghosts, Represents, Stores}
use Rattle.hy_store.proofs.Storing.{stored_seen}

-- a check that goes on, whatever follows, holds
pub holds_if : (s : State) (why : Kind) (b : Bool) → ((go : State) → check s why b go ≡ go) → b ≡ true
holds_if s why true h = refl
holds_if s why false h = let e : Some (Stuck why (record { fun = s.now.number; at = s.now.place })) ≡ None =
    ap (λ (t : State). t.stop) (h (record s { stop = None })) in absurd (cc)

-- a live block was taken
pub live_taken : (g : Ghosts) (store : Store) (fun : Fun) (s : State) → Represents g store fun s → (b : ℕ) → IsSome (live store.blocks b) → b < s.counts.blocks
live_taken g store fun s represents b lives = parts (live store.blocks b) refl lives
  where
    parts : (o : Option (List Cell)) → live store.blocks b ≡ o → IsSome o → b < s.counts.blocks
    parts None e h = absurd (cc)
    parts (Some found) e h = (represents.held.known b found e).named

pub tells_header : (is_array : ℕ → Bool) (taken block : ℕ) (count : ℤ) → block < taken → is_array block ≡ true
    → Tells is_array taken (Name block ∷ Word count ∷ []) (header block count)
tells_header is_array taken block count below array zero c h = let e : Name block ≡ c = cc in
    (ap abstract_cell e, subst (IsGood is_array taken) e (below, array))
tells_header is_array taken block count below array (suc zero) c h = let e : Word count ≡ c = cc in (ap abstract_cell e, subst (IsGood is_array taken) e tt)
tells_header is_array taken block count below array (suc (suc i)) c h = absurd (cc)

-- the name of an array's block, and a count, are stored in two cells
pub header_seen : (g : Ghosts) (old new : Store) (fun : Fun) (s : State) (r : Range) (block : ℕ) (count : ℤ) → Represents g old fun s
    → Stores old new r (Name block ∷ Word count ∷ []) → HasCells (live old.blocks r.block) r.from r.len → r.len ≡ 2 → block < s.counts.blocks
    → g.is_array block ≡ true →
    Represents g new fun (puts s (abstract_range r) (header block count))
header_seen g old new fun s r block count represents stores there two below array =
    stored_seen g old new fun s represents r (Name block ∷ Word count ∷ []) (header block count) stores there (sym two)
    (tells_header g.is_array s.counts.blocks block count below array)
