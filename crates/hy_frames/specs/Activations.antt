-- The list of live activations, and what becomes of it.
use Rattle.std.specs.Prelude.{ℕ, List, map, Option, Some, None, IsSome, IsSomeAnd, Bool, true, false, ◌≡◌}
use Rattle.hy_links.specs.Chains.{AreApart}
use Rattle.hy_links.specs.Keyed.{numbered, without, changed}
use Rattle.hy_frames.specs.declared.id.ActId.{ActId}
use Rattle.hy_frames.specs.declared.id.Standing.{Standing}
use Rattle.hy_frames.specs.declared.id.Standing.TheVariants.{Running, Suspended}

-- an activation, and the id under which it is asked for
pub record Activation : Type 0 where
  pub id : ActId
  pub function : ℕ
  pub frame : ℕ
  pub code_place : ℕ
  pub standing : Standing

abbrev pub slot_of : Activation → ℕ
slot_of activation = activation.id.slot

-- the activation of this id, if it is live
abbrev pub activation : ActId → List Activation → Option Activation
activation act live = numbered slot_of act.slot live

abbrev pub IsLive : ActId → List Activation → Type 0
IsLive act live = IsSome (activation act live)

-- no two live activations have one id
abbrev pub HaveOwnIds : List Activation → Type 0
HaveOwnIds live = AreApart (map slot_of live)

-- the caller of an activation: none while it is suspended, and none where it was started without one and was never resumed
abbrev pub caller_of : Standing → Option ActId
caller_of (Running caller) = caller
caller_of Suspended = None

abbrev pub is_suspended : Standing → Bool
is_suspended (Running caller) = false
is_suspended Suspended = true

abbrev pub IsRunning : ActId → List Activation → Type 0
IsRunning act live = IsSomeAnd (activation act live) (λ a. is_suspended a.standing ≡ false)

abbrev pub IsSuspended : ActId → List Activation → Type 0
IsSuspended act live = IsSomeAnd (activation act live) (λ a. is_suspended a.standing ≡ true)

-- an activation as it is started: at place 0, and running
abbrev pub started : ActId → ℕ → ℕ → Option ActId → Activation
started act function frame caller =
    record { id = act; function = function; frame = frame; code_place = 0; standing = Running caller }

-- the list with this activation changed, and no other
abbrev pub with_activation : ActId → (Activation → Activation) → List Activation → List Activation
with_activation act change live = changed slot_of act.slot change live

-- the list without this activation
abbrev pub without_activation : ActId → List Activation → List Activation
without_activation act live = without slot_of act.slot live

abbrev pub suspended : Activation → Activation
suspended a = record a { standing = Suspended }

abbrev pub resumed : ActId → Activation → Activation
resumed caller a = record a { standing = Running (Some caller) }

abbrev pub gone_to : ℕ → Activation → Activation
gone_to place a = record a { code_place = place }
