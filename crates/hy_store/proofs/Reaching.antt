-- How a place is reached through a live access.
use Rattle.std.proofs.Common.{◌≡◌, ◌<◌, ◌+◌, ℕ, suc, nat_le, nat_eq, List, Option, Some, None, IsSomeAnd, refl, sym, ap, subst, ◌∙◌, arith}
use Rattle.std.specs.Option.{is_some}
use Rattle.hy_access.specs.declared.access.AccId.{AccId}
use Rattle.hy_access.specs.declared.access.Range.{Range}
use Rattle.hy_access.specs.Accesses as live
use Rattle.hy_object.specs.declared.object.Fun.{Fun}
use Rattle.hy_object.specs.declared.stuck.Kind.TheVariants as kind
use Rattle.hy_object.specs.Checks.{check, held, is_live, inside, reach_from, stuck, with_some}
use Rattle.hy_object.specs.Checks as checks
use Rattle.hy_object.specs.States.{State}
use Rattle.hy_store.specs.declared.store.Store.{Store}
use Rattle.hy_store.specs.Cells.{Cell}
use Rattle.hy_store.specs.Memory as memory
use Rattle.hy_store.specs.Names.{names}
use Rattle.hy_store.specs.Opened.{abstract_access}
use Rattle.hy_store.specs.Represents.{Ghosts, Represents, reach_in, represented, abstract_slot}
use Rattle.hy_store.specs.Frames.{kept, slot_in}

own_of : (o : Option live.Access) (one : live.Access) (own : Range) → o ≡ Some one → IsSomeAnd o (λ a. own ≡ a.own) → own ≡ one.own
own_of o one own h is = rw h at is

module _ (g : Ghosts) (store : Store) (fun : Fun) (s : State) (represents : Represents g store fun s) where
  pub live_is : (b : ℕ) → b < s.counts.blocks → (o : Option (List Cell)) → memory.live store.blocks b ≡ o → is_live s b ≡ is_some o
  live_is b below None h = represents.held.gone b below h
  live_is b below (Some found) h = let e = (represents.held.known b found h).live in ap (λ n. nat_eq n 0) e

  module _ (name : ℕ) (id : AccId) (named : names store.opened name ≡ Some id) (own : Range)
      (is : IsSomeAnd (live.access id store.opened.accesses) (λ a. own ≡ a.own)) where
    one : live.Access
    one = (represents.opened.ids name id named).0

    there : live.access id store.opened.accesses ≡ Some one
    unfolding one
    there = (represents.opened.ids name id named).1

    name_is : g.name id.slot ≡ name
    name_is = (represents.opened.ids name id named).2

    own_is : own ≡ one.own
    own_is = own_of _ one own there is

    found : s.access name ≡ Some (abstract_access s.access g.name id one)
    found = ap s.access (sym name_is) ∙ represents.opened.told.known id one there

    below : own.block < s.counts.blocks
    below = let i = represents.opened.inside id one there in omega (arith, i.named, ap (λ (r : Range). r.block) own_is)

    pub checks_in : (offset words : ℕ) (go : checks.Reach → State) → reach_in s name offset words go ≡
        check s kind.Freed (is_some (memory.live store.blocks own.block)) (check s kind.Range (nat_le (offset + words) own.len)
        (go (represented g s (record { range = record { block = own.block; from = own.from + offset; len = words }; through = Some id }))))
    checks_in offset words go =
        let P : Range → Type 0 =
        λ r. reach_in s name offset words go ≡ check s kind.Freed (is_live s r.block) (check s kind.Range (nat_le (offset + words) r.len)
        (go (represented g s (record { range = record { block = r.block; from = r.from + offset; len = words }; through = Some id })))) in
        let at_one : P one.own = rw (found, represents.opened.told.known id one there) refl in
        rw (← live_is own.block below (memory.live store.blocks own.block) refl) (subst P (sym own_is) at_one)

  -- a place through a slot
  pub reach_is : (base offset words slot name : ℕ) (go : checks.Reach → State) → base ≡ suc slot
      → held (abstract_slot (slot_in (kept store.frames store.frame) slot)) ≡ Some name →
      reach_from s base offset words go ≡ reach_in s name offset words go
  reach_is base offset words slot name go h is = rw (h, represents.slots slot, is) refl
