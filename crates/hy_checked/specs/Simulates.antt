-- How the machine that runs simulates the machine of the definitions.
use Rattle.std.specs.Prelude.{◌≡◌, ◌<◌, ◌≤◌, ◌+◌, ◌^◌, ℕ, suc, List, [], ◌∷◌, ◌++◌, length, Option, None, Some, IsSomeAnd}
use Rattle.std.specs.List.{AllByRecursion}
use Rattle.hy_frames.specs.declared.id.ActId.{ActId}
use Rattle.hy_frames.specs.declared.id.Standing.{Standing}
use Rattle.hy_frames.specs.declared.id.Standing.TheVariants.{Running, Suspended}
use Rattle.hy_frames.specs.Activations as acts
use Rattle.hy_object.specs.declared.instr.Instr.{Instr}
use Rattle.hy_object.specs.declared.object.Fun.{Fun}
use Rattle.hy_object.specs.declared.object.Object.{Object}
use Rattle.hy_object.specs.Grammar.{IsInGrammar}
use Rattle.hy_object.specs.States.{Activation, Projected, Sliding, State, nth}
use Rattle.hy_store.specs.Represents.{Ghosts, Represents}
use Rattle.hy_checked.specs.declared.machine.Machine.{Machine}
use Rattle.hy_checked.specs.declared.machine.Waiting.{Waiting}

-- where a live activation goes on
abbrev pub waits_as : acts.Activation → Waiting
waits_as one = record { number = one.function; place = one.code_place; frame = one.frame }

-- the live activation of this id goes on there
abbrev pub WaitsAs : Machine → ActId → Waiting → Type 0
WaitsAs m act w = IsSomeAnd (acts.activation act m.acts) (λ one. w ≡ waits_as one)

-- the running activation has that caller, or none
abbrev pub HasCaller : Machine → Option ActId → Type 0
HasCaller m caller = IsSomeAnd (acts.activation m.running m.acts) (λ one. caller ≡ acts.caller_of one.standing)

-- an activation that waits or is suspended, and where it goes on
pub record IsKeptAs (object : Object) (w : Waiting) (a : Activation) : Type 0 where
  pub number : a.number ≡ w.number
  pub place : a.place ≡ w.place
  pub frame : a.frame ≡ w.frame
  pub fun : nth object.funs a.number ≡ Some a.fun

-- The live activation of this id stands so, and is this one, which does not run.
pub record IsPausedAs (object : Object) (live : List acts.Activation) (act : ActId) (standing : Standing) (a : Activation) : Type 0 where
  pub one : acts.Activation
  pub is : acts.activation act live ≡ Some one
  pub standing_is : one.standing ≡ standing
  pub kept : IsKeptAs object (waits_as one) a

-- The live activation of this id runs with that caller, and is this one. Its place is not kept while it runs.
pub record IsRunningAs (live : List acts.Activation) (act : ActId) (caller : Option ActId) (a : Activation) : Type 0 where
  pub one : acts.Activation
  pub is : acts.activation act live ≡ Some one
  pub standing_is : one.standing ≡ Running caller
  pub number : a.number ≡ one.function
  pub frame : a.frame ≡ one.frame

-- The activation of this id and the callers after it are the activations, the innermost first.
abbrev pub AreCallers : Object → List acts.Activation → Option ActId → List Activation → Type 0
AreCallers object live caller [] = caller ≡ None
AreCallers object live caller (a ∷ rest) = (act : ActId) × (next : Option ActId)
    × ((caller ≡ Some act) × (IsPausedAs object live act (Running next) a × AreCallers object live next rest))

-- the last of these ids and those below it are of the activations, the first one first
abbrev pub AreSuspended : Object → List acts.Activation → List ActId → List Activation → Type 0
AreSuspended object live suspended_ids [] = suspended_ids ≡ []
AreSuspended object live suspended_ids (a ∷ rest) = (act : ActId) × (below : List ActId)
    × ((suspended_ids ≡ below ++ act ∷ []) × (IsPausedAs object live act Suspended a × AreSuspended object live below rest))

-- a subscript hands out to a slot that its caller has
abbrev pub HandsTo : Activation → Activation → Type 0
HandsTo a caller = (slot : ℕ) → a.role ≡ Projected slot → slot < caller.fun.slots

-- each hands out to the next
abbrev pub AreHanded : Activation → List Activation → Type 0
AreHanded a [] = Unit {0}
AreHanded a (caller ∷ rest) = HandsTo a caller × AreHanded caller rest

abbrev pub AreSliding : List Activation → Type 0
AreSliding suspended = AllByRecursion (λ (a : Activation). a.role ≡ Sliding) suspended

-- The machine has what the state has, but for the outside.
pub record Simulates (object : Object) (m : Machine) (s : State) : Type 0 where
  pub ghosts : Ghosts
  pub represents : Represents ghosts m.store s.now.fun s
  pub fun : nth object.funs s.now.number ≡ Some s.now.fun
  pub number : s.now.number ≡ m.number
  pub place : s.now.place ≡ m.place
  pub left : s.left ≡ m.left
  pub turns : s.counts.turns + s.left ≤ 2 ^ 32
  pub going : s.stop ≡ None
  pub caller : Option ActId
  pub running : IsRunningAs m.acts m.running caller s.now
  pub callers : AreCallers object m.acts caller s.callers
  pub suspended : AreSuspended object m.acts m.suspended_ids.items s.suspended
  -- no other activation is live
  pub all : length m.acts ≡ suc (length s.callers + length s.suspended)
  pub handed : AreHanded s.now s.callers
  pub sliding : AreSliding s.suspended

-- The machine is about to do this instruction of this function.
pub record IsAt (object : Object) (m : Machine) (fun : Fun) (i : Instr) : Type 0 where
  pub grammar : IsInGrammar object
  pub state : State
  pub simulates : Simulates object m state
  pub fun_is : nth object.funs m.number ≡ Some fun
  pub instr_is : nth fun.code m.place ≡ Some i

-- there is a state that it simulates
abbrev pub SimulatesSome : Object → Machine → Type 0
SimulatesSome object m = (s : State) × Simulates object m s
