-- What is represented stays where every block has the cells that it had.
use Rattle.std.proofs.Common.{◌≡◌, ℕ, Bool, sym, ap, ◌∙◌}
use Rattle.hy_object.specs.declared.object.Fun.{Fun}
use Rattle.hy_object.specs.States as machine
use Rattle.hy_object.specs.States.{State}
use Rattle.hy_store.specs.declared.store.Store.{Store}
use Rattle.hy_store.specs.Held.{AreHeld}
use Rattle.hy_store.specs.Memory.{Live, live}
use Rattle.hy_store.specs.Represents.{Ghosts, Represents, KeepsOthers, shape}
use Rattle.hy_store.proofs.Storing.{seen_again}

pub held_again : (old new : Live) (is_array : ℕ → Bool) (taken : ℕ) (cells : ℕ → machine.Cells) (words freed : ℕ → ℕ) → ((b : ℕ) → new b ≡ old b)
    → AreHeld old is_array taken cells words freed → AreHeld new is_array taken cells words freed
held_again old new is_array taken cells words freed same held = record {
  known = λ b found is. held.known b found (sym (same b) ∙ is);
  gone = λ b below none. held.gone b below (sym (same b) ∙ none);
  fresh = held.fresh;
}

pub settled : (g : Ghosts) (old new : Store) (fun : Fun) (s : State) → KeepsOthers old new → ((b : ℕ) → live new.blocks b ≡ live old.blocks b)
    → Represents g old fun s → Represents g new fun s
settled g old new fun s others same represents =
    seen_again g old new fun s represents s.cells others (λ b. ap shape (same b))
    (held_again (live old.blocks) (live new.blocks) g.is_array s.counts.blocks s.cells s.words s.freed same represents.held)
