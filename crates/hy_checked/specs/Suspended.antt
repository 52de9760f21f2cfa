-- Which suspended activation has a frame.
use Rattle.std.specs.Prelude.{◌≡◌, ◌≢◌, ◌≤◌, ℕ, suc, List, Option, None, Some}
use Rattle.hy_frames.specs.declared.id.ActId.{ActId}
use Rattle.hy_frames.specs.Activations as acts
use Rattle.hy_object.specs.States.{nth}

-- each of these ids is of a live activation
abbrev pub AreLive : List acts.Activation → List ActId → Type 0
AreLive live kept = (k : ℕ) (act : ActId) → nth kept k ≡ Some act → acts.IsLive act live

-- no activation of that frame is kept from that place on
abbrev pub IsNoneFrom : List acts.Activation → List ActId → (frame at : ℕ) → Type 0
IsNoneFrom live kept frame at = (k : ℕ) (act : ActId) (one : acts.Activation) → at ≤ k → nth kept k ≡ Some act
    → acts.activation act live ≡ Some one
    → one.frame ≢ frame

-- the last one of that frame is kept at that place
pub record IsLastAt (live : List acts.Activation) (kept : List ActId) (frame at : ℕ) : Type 0 where
  pub act : ActId
  pub one : acts.Activation
  pub is : nth kept at ≡ Some act
  pub one_is : acts.activation act live ≡ Some one
  pub frame_is : one.frame ≡ frame
  pub none_behind : IsNoneFrom live kept frame (suc at)

abbrev pub IsLast : List acts.Activation → List ActId → (frame : ℕ) → Option ℕ → Type 0
IsLast live kept frame None = IsNoneFrom live kept frame 0
IsLast live kept frame (Some at) = IsLastAt live kept frame at
