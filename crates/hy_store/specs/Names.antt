-- The ids of live accesses, by their names.
use Rattle.std.specs.Prelude.{◌≡◌, ◌++◌, ◌∷◌, [], ℕ, nat_eq, cond, List, Option, Some, None}
use Rattle.std.specs.HashMap.{get}
use Rattle.hy_access.specs.declared.access.AccId.{AccId}
use Rattle.hy_access.specs.declared.access.Range.{Range}
use Rattle.hy_access.specs.declared.access.Way.{Way}
use Rattle.hy_access.specs.Accesses.{Access, HasChild, IsLive, without_access}
use Rattle.hy_store.specs.declared.opened.Opened.{Opened}

abbrev pub Ids : Type 0
Ids = ℕ → Option AccId

abbrev pub names : Opened → Ids
names opened name = get nat_eq opened.ids name

-- what has that name is changed, all else equal
abbrev pub with_name : Ids → ℕ → Option AccId → Ids
with_name ids name id other = cond (nat_eq name other) id (ids other)

-- a new access is after all others, and is known by that name
pub record IsLent (old new : Opened) (name : ℕ) (own : Range) (header : Option Range) (way : Way) (parent : Option AccId) : Type 0 where
  pub id : AccId
  pub new_id : IsLive id old.accesses → ⊥
  pub accesses : new.accesses ≡ old.accesses ++ record { id = id; own = own; header = header; way = way; parent = parent } ∷ []
  pub ids : (other : ℕ) → names new other ≡ with_name (names old) name (Some id) other

-- the access of that id, if there is one, is live, and no live one was made from it
abbrev pub CanClose : Option AccId → List Access → Type 0
CanClose None live = Unit {0}
CanClose (Some id) live = IsLive id live × (HasChild id live → ⊥)

-- the list without the access of that id, if there is one
abbrev pub without_one : Option AccId → List Access → List Access
without_one None live = live
without_one (Some id) live = without_access id live

-- the access of that name is closed, if it was live, and all others stay
pub record IsClosed (old new : Opened) (name : ℕ) : Type 0 where
  pub accesses : new.accesses ≡ without_one (names old name) old.accesses
  pub ids : (other : ℕ) → names new other ≡ with_name (names old) name None other
