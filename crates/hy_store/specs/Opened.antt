-- How the live accesses of the program represent those of the machine.
use Rattle.std.specs.Prelude.{◌≡◌, ◌<◌, ℕ, List, [], ◌∷◌, Option, Some, None}
use Rattle.std.specs.Option.{option_map}
use Rattle.hy_access.specs.declared.access.AccId.{AccId}
use Rattle.hy_access.specs.declared.access.Range.{Range}
use Rattle.hy_access.specs.declared.access.Way.{Way}
use Rattle.hy_access.specs.declared.access.Way.TheVariants as kept
use Rattle.hy_access.specs.Accesses.{IsLive, IsLiveIfGiven}
use Rattle.hy_access.specs.Accesses as live
use Rattle.hy_object.specs.declared.instr.Way.TheVariants as way
use Rattle.hy_object.specs.declared.instr.Way as object
use Rattle.hy_object.specs.States as machine
use Rattle.hy_object.specs.Checks.{Reach}

abbrev pub abstract_range : Range → machine.Range
abstract_range r = record { block = r.block; from = r.from; words = r.len }

abbrev pub abstract_way : Way → object.Way
abstract_way kept.Read = way.Read
abstract_way kept.Write = way.Write

-- The machine's accesses by name.
abbrev pub Opened : Type 0
Opened = ℕ → Option machine.Access

abbrev pub chain_in : Option machine.Access → List ℕ
chain_in None = []
chain_in (Some a) = a.chain

abbrev pub way_in : Option machine.Access → object.Way
way_in None = way.Write
way_in (Some a) = a.way

-- the names of the access that memory is reached through, and of its ancestors; `name` gives the name of a live access
abbrev pub chain_of : Opened → (name : ℕ → ℕ) → Option AccId → List ℕ
chain_of access name None = []
chain_of access name (Some id) = chain_in (access (name id.slot))

abbrev pub way_of : Opened → (name : ℕ → ℕ) → Option AccId → object.Way
way_of access name None = way.Write
way_of access name (Some id) = way_in (access (name id.slot))

-- what the machine has of a live access
abbrev pub abstract_access : Opened → (name : ℕ → ℕ) → AccId → live.Access → machine.Access
abstract_access access name id one = record {
  range = abstract_range one.own;
  header = option_map abstract_range one.header;
  way = abstract_way one.way;
  chain = name id.slot ∷ chain_of access name one.parent;
}

-- The live accesses are those of the machine, of which so many were opened. Each live one has a name of its own.
pub record RepresentAccesses (accesses : List live.Access) (name : ℕ → ℕ) (access : Opened) (opened : ℕ) : Type 0 where
  pub known : (id : AccId) (one : live.Access) → live.access id accesses ≡ Some one → access (name id.slot) ≡ Some (abstract_access access name id one)
  pub named : (n : ℕ) (a : machine.Access) → access n ≡ Some a → (id : AccId) × (one : live.Access) × (live.access id accesses ≡ Some one) × (name id.slot ≡ n)
  pub own_name : (id other : AccId) (a b : live.Access) → live.access id accesses ≡ Some a → live.access other accesses ≡ Some b
      → name id.slot ≡ name other.slot → id ≡ other
  pub parents : (id : AccId) (one : live.Access) → live.access id accesses ≡ Some one → IsLiveIfGiven one.parent accesses
  pub before : (id : AccId) (one : live.Access) → live.access id accesses ≡ Some one → name id.slot < opened

-- a range, and how it is reached
abbrev pub abstract_reach : Opened → (name : ℕ → ℕ) → Range → Option AccId → Reach
abstract_reach access name range through = record { range = abstract_range range; way = way_of access name through; chain = chain_of access name through }
