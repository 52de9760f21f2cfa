-- Numbers of digits, as far as 64 bits hold them.
use Rattle.std.specs.Prelude.{ℕ, ◌-◌, ◌^◌, min, List, Option}
use Rattle.std.specs.Option.{option_map}
use Rattle.hy_base.specs.Lines.{digits_from, digits}

-- the number, or the greatest of 64 bits where it is more
abbrev pub capped : ℕ → ℕ
capped n = min n (2 ^ 64 - 1)

abbrev pub capped_from : ℕ → List ℕ → Option ℕ
capped_from n bytes = option_map capped (digits_from n bytes)

abbrev pub capped_digits : List ℕ → Option ℕ
capped_digits bytes = option_map capped (digits bytes)
