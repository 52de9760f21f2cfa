-- What all objects of the outside have in common: a count of faults, and what they may tell.
use Rattle.std.specs.Prelude.{ℕ, suc, Option, Some, None, Result, Ok, Err}

-- the count of faults after a call: it rises by one exactly where the call fails
abbrev pub faults_after : {T E : Type 0} → ℕ → Result T E → ℕ
faults_after before (Ok value) = before
faults_after before (Err failure) = suc before

-- What was told before the call and what is known after it are related so. It tells after the call only if it told before.
abbrev pub StillTells : {T : Type 0} → Option T → Option T → (T → T → Type 0) → Type 0
StillTells old None R = Unit {0}
StillTells None (Some new) R = ⊥
StillTells (Some old) (Some new) R = R old new
