-- What a call does to files. What they hold is an answer to a name, never one map.
use Rattle.std.specs.Prelude.{◌≡◌, ◌≢◌, ℕ, suc, ◌+◌, List, take, Result, Ok, Err}
use Rattle.hy_base.specs.declared.files.FileFault.{FileFault}
use Rattle.hy_base.specs.declared.files.FileFault.TheVariants as fault

-- what is known of a name
pub data Held : Type 0 where
  Untold : Held
  Missing : Held
  Holding : (bytes : List ℕ) → Held

-- the bytes of a name are known
abbrev pub IsHolding : Held → Type 0
IsHolding Untold = ⊥
IsHolding Missing = ⊥
IsHolding (Holding bytes) = Unit {0}

-- the count of faults after a call: it rises by one exactly where the call answers that it failed
abbrev pub file_faults_after : {T : Type 0} → ℕ → Result T FileFault → ℕ
file_faults_after before (Ok value) = before
file_faults_after before (Err fault.Failed) = suc before
file_faults_after before (Err fault.NoMemory) = before

-- these bytes were loaded under a name of which this is known
abbrev pub Loads : Held → ℕ → List ℕ → Type 0
Loads Untold most bytes = Unit {0}
Loads Missing most bytes = ⊥
Loads (Holding whole) most bytes = bytes ≡ take (most + 1) whole

-- A name of which something was told holds the bytes that are stored under it. Another may stay untold.
abbrev pub IsStored : Held → Held → List ℕ → Type 0
IsStored Untold Untold bytes = Unit {0}
IsStored old new bytes = new ≡ Holding bytes

-- A call of `store`. Other names keep what they hold. After a failure nothing is known of this one.
abbrev pub Stores : (List ℕ → Held) → (List ℕ → Held) → List ℕ → List ℕ → Result (Unit {0}) FileFault → Type 0
Stores old new name bytes (Ok done) = IsStored (old name) (new name) bytes × ((n : List ℕ) → n ≢ name → new n ≡ old n)
Stores old new name bytes (Err fault.Failed) = (new name ≡ Untold) × ((n : List ℕ) → n ≢ name → new n ≡ old n)
Stores old new name bytes (Err fault.NoMemory) = (n : List ℕ) → new n ≡ old n
