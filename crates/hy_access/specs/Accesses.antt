-- The list of live accesses, and what they forbid.
use Rattle.std.specs.Prelude.{◌≡◌, ◌<◌, ◌≤◌, ◌+◌, ◌⊎◌, ℕ, List, map, Option, Some, None, IsSome, IsSomeAnd}
use Rattle.hy_links.specs.Chains.{AreApart}
use Rattle.hy_links.specs.Keyed.{numbered, without}
use Rattle.hy_links.specs.Linked.{look}
use Rattle.hy_access.specs.declared.access.AccId.{AccId}
use Rattle.hy_access.specs.declared.access.Range.{Range}
use Rattle.hy_access.specs.declared.access.Way.{Way}
use Rattle.hy_access.specs.declared.access.Way.TheVariants.{Write}

-- an access, and the id under which it is asked for
pub record Access : Type 0 where
  pub id : AccId
  pub own : Range
  pub header : Option Range
  pub way : Way
  pub parent : Option AccId

abbrev pub slot_of : Access → ℕ
slot_of access = access.id.slot

-- the access of this id, if it is live
abbrev pub access : AccId → List Access → Option Access
access id live = numbered slot_of id.slot live

abbrev pub IsLive : AccId → List Access → Type 0
IsLive id live = IsSome (access id live)

-- an id that is given is live
abbrev pub IsLiveIfGiven : Option AccId → List Access → Type 0
IsLiveIfGiven None live = Unit {0}
IsLiveIfGiven (Some id) live = IsLive id live

-- no two live accesses have one id
abbrev pub HaveOwnIds : List Access → Type 0
HaveOwnIds live = AreApart (map slot_of live)

-- the list without this access
abbrev pub without_access : AccId → List Access → List Access
without_access id live = without slot_of id.slot live

-- a live access has this one as its parent
pub record HasChild (id : AccId) (live : List Access) : Type 0 where
  pub child : AccId
  pub access_of : Access
  pub is_live : access child live ≡ Some access_of
  pub is_child : access_of.parent ≡ Some id

-- a cell of a block is one of a range's
pub record Covers (range : Range) (block cell : ℕ) : Type 0 where
  pub same_block : range.block ≡ block
  pub from : range.from ≤ cell
  pub to : cell < range.from + range.len

-- two ranges have a cell in common; a range without cells has none with any
pub record Meets (range other : Range) : Type 0 where
  pub block : ℕ
  pub cell : ℕ
  pub one : Covers range block cell
  pub both : Covers other block cell

-- an access meets a range by its own or by its header range
abbrev pub MeetsAccess : Range → Access → Type 0
MeetsAccess range one = Meets range one.own ⊎ IsSomeAnd one.header (Meets range)

abbrev pub parent_of : List Access → AccId → Option AccId
parent_of live id = look (λ one. one.parent) (access id live)

-- from an access by way of parents to one of these: itself, its parent, the parent of that, and so on
pub data HasAncestor (live : List Access) : AccId → AccId → Type 0 where
  itself : (id : AccId) → HasAncestor live id id
  above : (id parent to : AccId) → parent_of live id ≡ Some parent → HasAncestor live parent to → HasAncestor live id to

-- an access is the one through which memory is used, or one of the ancestors of that
abbrev pub IsThrough : List Access → Option AccId → AccId → Type 0
IsThrough live None id = ⊥
IsThrough live (Some through) id = HasAncestor live through id

-- all live writing accesses that meet the range are this one and its ancestors
abbrev pub MayRead : List Access → Range → Option AccId → Type 0
MayRead live range through =
    (id : AccId) (one : Access) → access id live ≡ Some one → one.way ≡ Write → MeetsAccess range one → IsThrough live through id

abbrev pub Writes : List Access → Option AccId → Type 0
Writes live None = Unit {0}
Writes live (Some through) = IsSomeAnd (access through live) (λ one. one.way ≡ Write)

-- all live accesses that meet the range are this one and its ancestors, and it writes; the own frame, which is no
-- access, may be written too
pub record MayWrite (live : List Access) (range : Range) (through : Option AccId) : Type 0 where
  pub alone : (id : AccId) (one : Access) → access id live ≡ Some one → MeetsAccess range one → IsThrough live through id
  pub writes : Writes live through
