-- The line that `read` takes of the input, and the number in it.
use Rattle.std.specs.Prelude.{ℕ, zero, suc, ◌+◌, ◌-◌, ◌*◌, ◌==◌, ◌&&◌, Bool, true, false, List, [], ◌∷◌, reverse, Option, Some, None, ℤ, pos, neg_ℤ, nat_le}
use Rattle.std.specs.Prelude.{if◌then◌else◌}
use Rattle.hy_base.specs.Numbers.{fits}

-- The bytes up to a line feed, without it, and what is left after it; or the bytes up to the end of the input; or too many
-- bytes without a line feed, and what is left after them.
pub data Split : Type 0 where
  Line : (bytes rest : List ℕ) → Split
  Last : (bytes : List ℕ) → Split
  TooLong : (rest : List ℕ) → Split

abbrev pub ahead : ℕ → Split → Split
ahead b (Line bytes rest) = Line (b ∷ bytes) rest
ahead b (Last bytes) = Last (b ∷ bytes)
ahead b (TooLong rest) = TooLong rest

-- at most so many bytes are taken
abbrev pub split_line : ℕ → List ℕ → Split
split_line zero bytes = TooLong bytes
split_line (suc n) [] = Last []
split_line (suc n) (b ∷ bytes) = if b == 10 then Line [] bytes else ahead b (split_line n bytes)

abbrev pub drop_spaces : List ℕ → List ℕ
drop_spaces [] = []
drop_spaces (b ∷ bytes) = if b == 32 then drop_spaces bytes else b ∷ bytes

-- without one carriage return at the front
abbrev pub drop_return : List ℕ → List ℕ
drop_return [] = []
drop_return (b ∷ bytes) = if b == 13 then bytes else b ∷ bytes

-- without a final carriage return, and then without spaces at both ends
abbrev pub trimmed : List ℕ → List ℕ
trimmed line = drop_spaces (reverse (drop_spaces (drop_return (reverse line))))

-- the number that the digits go on to from n
abbrev pub digits_from : ℕ → List ℕ → Option ℕ
digits_from n [] = Some n
digits_from n (b ∷ bytes) = if nat_le 48 b && nat_le b 57 then digits_from (10 * n + (b - 48)) bytes else None

-- one or more digits
abbrev pub digits : List ℕ → Option ℕ
digits [] = None
digits (b ∷ bytes) = digits_from 0 (b ∷ bytes)

abbrev pub signed : (ℤ → ℤ) → Option ℕ → Option ℤ
signed f None = None
signed f (Some n) = if fits (f (pos n)) then Some (f (pos n)) else None

abbrev pub number_of : List ℕ → Option ℤ
number_of [] = None
number_of (b ∷ bytes) = if b == 45 then signed neg_ℤ (digits bytes) else signed (λ n. n) (digits (b ∷ bytes))

-- what `read` gives, and the input that is left
pub data Got : Type 0 where
  Gives : ℤ → (rest : List ℕ) → Got
  Fails : (rest : List ℕ) → Got
  Wants : Got

abbrev pub got : Option ℤ → List ℕ → Got
got None rest = Fails rest
got (Some n) rest = Gives n rest

abbrev pub got_last : Bool → List ℕ → Got
got_last true bytes = Wants
got_last false [] = Fails []
got_last false (b ∷ bytes) = got (number_of (trimmed (b ∷ bytes))) []

abbrev pub got_line : Bool → Split → Got
got_line cut (Line bytes rest) = got (number_of (trimmed bytes)) rest
got_line cut (Last bytes) = got_last cut bytes
got_line cut (TooLong rest) = Fails rest

-- `read` of this input, which is a beginning only where `cut` holds
abbrev pub read_line : (cut : Bool) → (input : List ℕ) → Got
read_line cut input = got_line cut (split_line 4097 input)
