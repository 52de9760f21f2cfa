-- How what the program keeps represents the state of the machine.
use Rattle.std.specs.Prelude.{◌≡◌, ◌<◌, ◌≤◌, ◌+◌, ◌-◌, ℕ, suc, cond, nat_le, nat_lt, slice_get, Bool, false, List, ◌∷◌, ◌++◌, map, length, replicate}
use Rattle.std.specs.Prelude.{Option, Some, Result, Ok, Err}
use Rattle.std.specs.Option.{option_map}
use Rattle.hy_access.specs.declared.access.AccId.{AccId}
use Rattle.hy_access.specs.declared.access.Range.{Range}
use Rattle.hy_access.specs.declared.access.Way.{Way as KeptWay}
use Rattle.hy_access.specs.Accesses as live
use Rattle.hy_access.specs.Accesses.{IsLiveIfGiven}
use Rattle.hy_object.specs.declared.object.Fun.{Fun}
use Rattle.hy_object.specs.declared.stuck.Kind.{Kind}
use Rattle.hy_object.specs.Checks.{stuck, with_some, check, is_live, inside}
use Rattle.hy_object.specs.declared.stuck.Kind.TheVariants as kind
use Rattle.hy_object.specs.Checks as machine_check
use Rattle.hy_object.specs.States as machine
use Rattle.hy_object.specs.States.{State, Activation, nth}
use Rattle.hy_links.specs.Chains.{AreApart}
use Rattle.hy_store.specs.declared.frame.Role.{Role}
use Rattle.hy_store.specs.declared.frame.Role.TheVariants.{Called, Projected, Sliding}
use Rattle.hy_store.specs.declared.frame.Slot.{Slot}
use Rattle.hy_store.specs.declared.frame.Slot.TheVariants.{Empty, Given, Filled, Yielded}
use Rattle.hy_store.specs.declared.reach.Reach.{Reach}
use Rattle.hy_store.specs.declared.opened.Opened.{Opened}
use Rattle.hy_store.specs.declared.store.Store.{Store}
use Rattle.hy_store.specs.Cells.{Cell, Unset, with_window}
use Rattle.hy_store.specs.Frames.{Changes, Kept, kept, slot_in, with_frame, with_slot}
use Rattle.hy_store.specs.Held.{AreHeld}
use Rattle.hy_store.specs.Memory.{Live, live, Becomes, HasCells, IsRow, with_block}
use Rattle.hy_store.specs.Names.{IsLent, names}
use Rattle.hy_store.specs.Opened.{RepresentAccesses, abstract_reach}
use Rattle.hy_store.specs.Opened as told

-- what is known of a run and kept nowhere: the names of live accesses by their ids, and which blocks are an array's
pub record Ghosts : Type 0 where
  pub name : ℕ → ℕ
  pub is_array : ℕ → Bool

-- a range lies in its block, if that is live
pub record IsInside (blocks : Live) (taken : ℕ) (range : Range) : Type 0 where
  pub named : range.block < taken
  pub fits : (found : List Cell) → blocks range.block ≡ Some found → range.from + range.len ≤ length found

-- the live accesses, each with its name, are those of the machine
pub record AreOpened (opened : Opened) (blocks : Live) (taken : ℕ) (name : ℕ → ℕ) (access : told.Opened) (count : ℕ) : Type 0 where
  pub told : RepresentAccesses opened.accesses name access count
  pub ids : (n : ℕ) (id : AccId) → names opened n ≡ Some id → (one : live.Access) × (live.access id opened.accesses ≡ Some one) × (name id.slot ≡ n)
  pub all : (id : AccId) (one : live.Access) → live.access id opened.accesses ≡ Some one → names opened (name id.slot) ≡ Some id
  pub inside : (id : AccId) (one : live.Access) → live.access id opened.accesses ≡ Some one → IsInside blocks taken one.own

abbrev pub abstract_slot : Slot → machine.Slot
abstract_slot Empty = machine.Empty
abstract_slot (Given a) = machine.Given a
abstract_slot (Filled a) = machine.Filled a
abstract_slot (Yielded a frame) = machine.Yielded a frame

abbrev pub abstract_role : Role → machine.Role
abstract_role (Called word) = machine.Called word
abstract_role (Projected slot) = machine.Projected slot
abstract_role Sliding = machine.Sliding

-- as many slots as the function has, and that role
abbrev pub IsKept : Option Kept → Fun → machine.Role → Type 0
IsKept found fun role = (one : Kept) × (found ≡ Some one) × (length one.slots ≡ fun.slots) × (abstract_role one.role ≡ role)

-- an activation that waits or is suspended has its frame, its slots and its role
pub record IsActive (g : Ghosts) (store : Store) (slots : ℕ → ℕ → machine.Slot) (a : Activation) : Type 0 where
  pub own : (found : List Cell) × (live store.blocks a.frame ≡ Some found) × (length found ≡ a.fun.words)
  pub slots_are : (k : ℕ) → slots a.frame k ≡ abstract_slot (slot_in (kept store.frames a.frame) k)
  pub mine : IsKept (kept store.frames a.frame) a.fun a.role
  pub no_array : g.is_array a.frame ≡ false

-- What the running activation of this function can reach is what the machine has.
pub record Represents (g : Ghosts) (store : Store) (fun : Fun) (s : State) : Type 0 where
  pub held : AreHeld (live store.blocks) g.is_array s.counts.blocks s.cells s.words s.freed
  pub opened : AreOpened store.opened (live store.blocks) s.counts.blocks g.name s.access s.counts.opened
  pub frame : store.frame ≡ s.now.frame
  pub fun_is : fun ≡ s.now.fun
  pub own : (found : List Cell) × (live store.blocks store.frame ≡ Some found) × (length found ≡ fun.words)
  pub slots : (k : ℕ) → s.slots s.now.frame k ≡ abstract_slot (slot_in (kept store.frames store.frame) k)
  pub mine : IsKept (kept store.frames store.frame) fun s.now.role
  pub no_array : g.is_array store.frame ≡ false
  pub counts : store.counts ≡ s.counts
  pub waiting : (i : ℕ) (a : Activation) → nth (s.callers ++ s.suspended) i ≡ Some a → IsActive g store s.slots a
  pub apart : AreApart (s.now.frame ∷ map (λ (a : Activation). a.frame) (s.callers ++ s.suspended))

-- there is a state that it represents
abbrev pub RepresentsSome : Store → Fun → Type 0
RepresentsSome store fun = (g : Ghosts) × (s : State) × Represents g store fun s

-- a check's answer goes on, or the machine is stuck for that reason
abbrev pub follow : {A : Type 0} → State → Result A Kind → (A → State) → State
follow s (Ok a) go = go a
follow s (Err why) go = stuck s why

-- so many cells that exist, through a live access
pub record Reaches (store : Store) (words : ℕ) (r : Reach) : Type 0 where
  pub through : IsLiveIfGiven r.through store.opened.accesses
  pub cells : HasCells (live store.blocks r.range.block) r.range.from r.range.len
  pub len : r.range.len ≡ words

abbrev pub represented : Ghosts → State → Reach → machine_check.Reach
represented g s r = abstract_reach s.access g.name r.range r.through

-- words that the access of that name reaches, from that offset on
abbrev pub reach_in : State → (name offset words : ℕ) → (machine_check.Reach → State) → State
reach_in s name offset words go =
    with_some s kind.Slot (s.access name) (λ a.
    check s kind.Freed (is_live s a.range.block)
    (check s kind.Range (nat_le (offset + words) a.range.words)
    (go (inside a offset words))))

-- all but the blocks stays
pub record KeepsOthers (old new : Store) : Type 0 where
  pub opened : new.opened ≡ old.opened
  pub frames : new.frames ≡ old.frames
  pub frame : new.frame ≡ old.frame
  pub counts : new.counts ≡ old.counts

-- these cells are stored in that range, all else equal
pub record Stores (old new : Store) (range : Range) (row : List Cell) : Type 0 where
  pub others : KeepsOthers old new
  pub becomes : Becomes (live old.blocks) (live new.blocks) range.block (λ cells. with_window cells range.from row)

abbrev pub shape : Option (List Cell) → Option ℕ
shape found = option_map length found

-- the blocks have the lengths that they had
abbrev pub SameShape : Live → Live → Type 0
SameShape old new = (b : ℕ) → shape (new b) ≡ shape (old b)

-- the cells of one range go to another, and are unset where they were
pub record Moves (old new : Store) (from to : Range) : Type 0 where
  pub row : List Cell
  pub mid : Store
  pub is : IsRow (live old.blocks) from row
  pub size : length row ≡ from.len
  pub puts : Stores old mid to row
  pub unsets : Stores mid new from (replicate from.len Unset)

-- what a new activation has of the caller's slots
abbrev pub given_slot : Slot → Slot
given_slot Empty = Empty
given_slot (Given a) = Given a
given_slot (Filled a) = Given a
given_slot (Yielded a frame) = Given a

abbrev pub first_slot : Option Kept → (slot accesses k : ℕ) → Slot
first_slot caller slot accesses k = cond (nat_lt k accesses) (given_slot (slot_in caller (slot + k))) Empty

-- the first slots are the caller's from that one on, and all others are empty
pub record AreFirst (caller : Option Kept) (slot : ℕ) (fun : Fun) (row : List Slot) : Type 0 where
  pub size : length row ≡ fun.slots
  pub each : (k : ℕ) → k < fun.slots → slice_get row k ≡ Some (first_slot caller slot fun.accesses k)

-- A function is started in a new frame, into which the cells of that range are moved.
pub record Starts (old new : Store) (fun : Fun) (slot : ℕ) (range : Range) (role : Role) : Type 0 where
  pub row : List Cell
  pub first : List Slot
  pub mid : Live
  pub is : IsRow (live old.blocks) range row
  pub size : length row ≡ range.len
  pub slots : AreFirst (kept old.frames old.frame) slot fun first
  pub takes : (b : ℕ) → mid b ≡ with_block (live old.blocks) old.counts.blocks (Some (row ++ replicate (fun.words - length row) Unset)) b
  pub unsets : Becomes mid (live new.blocks) range.block (λ cells. with_window cells range.from (replicate range.len Unset))
  pub keeps : (b : ℕ) → kept new.frames b ≡ with_frame (kept old.frames) old.counts.blocks (Some (record { slots = first; role = role })) b
  pub opened : new.opened ≡ old.opened
  pub frame : new.frame ≡ old.counts.blocks
  pub counts : new.counts ≡ record (old.counts) { blocks = suc old.counts.blocks; turns = suc old.counts.turns }

-- an access to that range was opened under the next name, and a slot of the running activation holds it
pub record Opens (old new : Store) (slot : ℕ) (range : Range) (header : Option Range) (way : KeptWay) (parent : Option AccId) : Type 0 where
  pub blocks : new.blocks ≡ old.blocks
  pub frame : new.frame ≡ old.frame
  pub counts : new.counts ≡ record (old.counts) { opened = suc old.counts.opened }
  pub lent : IsLent old.opened new.opened old.counts.opened range header way parent
  pub filled : Changes (kept old.frames) (kept new.frames) old.frame (with_slot slot (Filled old.counts.opened))
