-- Numbers as bytes: one spelling for each.
use Rattle.std.specs.Prelude.{ℕ, zero, suc, ◌+◌, ◌-◌, ◌/◌, ◌%◌, List, [], ◌∷◌, ℤ, pos, negsuc, Bool, true, false, nat_lt, if◌then◌else◌}

-- groups of seven bits, the lowest first; a group that is not the last has 128 added
abbrev pub groups : ℕ → ℕ → List ℕ
groups zero n = []
groups (suc k) n = if nat_lt n 128 then n ∷ [] else (128 + n % 128) ∷ groups k (n / 128)

-- a count: a number below 2^32 in its shortest form
unfoldable pub count_bytes : ℕ → List ℕ
count_bytes n = groups 5 n

-- a group in two's complement, by the sign of its number
abbrev pub low_group : Bool → ℕ → ℕ
low_group false group = group
low_group true group = 127 - group

-- The groups of a signed number: of itself, or of one less than its negation. The last group has the sign in its highest
-- bit, so it holds six bits of the number.
abbrev pub signed_groups : ℕ → Bool → ℕ → List ℕ
signed_groups zero negative n = []
signed_groups (suc k) negative n = if nat_lt n 64 then low_group negative n ∷ [] else (128 + low_group negative (n % 128)) ∷ signed_groups k negative (n / 128)

unfoldable pub signed_bytes : Bool → ℕ → List ℕ
signed_bytes negative n = signed_groups 10 negative n

-- a value: a number of 64 bits in its shortest form
abbrev pub value_bytes : ℤ → List ℕ
value_bytes (pos n) = signed_bytes false n
value_bytes (negsuc n) = signed_bytes true n
