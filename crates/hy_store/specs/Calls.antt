-- What a run begins with, and what a call hands over.
use Rattle.std.specs.Prelude.{◌≡◌, ℕ, false, cond, nat_eq, [], replicate, Some, None}
use Rattle.hy_base.specs.Counted.{no_counts}
use Rattle.hy_store.specs.declared.frame.Role.TheVariants.{Called}
use Rattle.hy_store.specs.declared.frame.Slot.TheVariants.{Empty}
use Rattle.hy_store.specs.declared.store.Store.{Store}
use Rattle.hy_store.specs.Cells.{Unset}
use Rattle.hy_store.specs.Frames.{kept}
use Rattle.hy_store.specs.Memory.{live}
use Rattle.hy_store.specs.Names.{names}
use Rattle.hy_store.specs.Represents.{Ghosts}
use Rattle.hy_object.specs.declared.object.Fun.{Fun}
use Rattle.hy_object.specs.declared.stuck.Kind.TheVariants as kind
use Rattle.hy_object.specs.Checks.{Reach, check, is_whole, may_write, own_words}
use Rattle.hy_object.specs.Controls.{can_give}
use Rattle.hy_object.specs.States.{State}

-- what is handed to that function exists and may be moved
abbrev pub hands_to : State → Fun → (slot word : ℕ) → (Reach → State) → State
hands_to s fun slot word go =
    check s kind.Slot (can_give s slot fun.accesses)
    (own_words s word fun.owned (λ x. check s kind.Access (may_write s x)
    (check s kind.Unset (is_whole s x.range)
    (go x))))

-- before any access is opened and any array is made
abbrev pub no_ghosts : Ghosts
no_ghosts = record { name = λ slot. 0; is_array = λ block. false }

-- the frame of `main` is the one block, and `main` the one activation
pub record IsBegun (store : Store) (main : Fun) : Type 0 where
  pub blocks : (b : ℕ) → live store.blocks b ≡ cond (nat_eq 0 b) (Some (replicate main.words Unset)) None
  pub frames : (b : ℕ) → kept store.frames b ≡ cond (nat_eq 0 b) (Some (record { slots = replicate main.slots Empty; role = Called 0 })) None
  pub accesses : store.opened.accesses ≡ []
  pub none : (name : ℕ) → names store.opened name ≡ None
  pub frame : store.frame ≡ 0
  pub counts : store.counts ≡ record no_counts { turns = 1; blocks = 1 }
