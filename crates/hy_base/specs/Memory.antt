-- What the objects in memory hold, and which of their calls fail.
use Rattle.std.specs.Prelude.{ℕ, ◌≤◌, ◌==◌, ◌^◌, ◌+◌, ◌-◌, min, Bool, true, false, List, take, Option, Some, None, Contains, find}
use Rattle.std.specs.Option.{option_map}
use Rattle.std.specs.HashMap.{HashMap, get_by_text}
use Rattle.std.specs.Prelude.{String}
use Rattle.std.specs.Prelude.{Vec}
use Rattle.hy_base.specs.Files.{Held, Untold, Missing, Holding}

-- what a name stands for
abbrev pub bytes_under : {Y Z S : Type 0} → HashMap (String Y) (Vec ℕ Z) S → List ℕ → Option (List ℕ)
bytes_under contents name = option_map (λ file. file.items) (get_by_text contents name)

-- what is known of a name that stands for these bytes, or for none
abbrev pub held : Bool → Option (List ℕ) → Held
held true bytes = Untold
held false None = Missing
held false (Some bytes) = Holding bytes

-- the number of the call after this one
abbrev pub next_call : ℕ → ℕ
next_call number = min (number + 1) (2 ^ 64 - 1)

-- some number of a call that fails is this one or a later one
abbrev pub IsToCome : List ℕ → ℕ → Type 0
IsToCome failing number = (k : ℕ) × Contains failing k × (number ≤ k)

-- how many bytes go out in this call, where it is one that fails
abbrev pub cut_at : List (ℕ × ℕ) → ℕ → Option ℕ
cut_at failing number = option_map (λ entry. entry.1) (find (λ entry. entry.0 == number) failing)

-- what goes out of a piece
abbrev pub cut : Option ℕ → List ℕ → List ℕ
cut None piece = piece
cut (Some count) piece = take count piece
