-- The integer types, and what their arithmetic gives.
use Rattle.std.specs.Prelude.{◌^◌, ◌-◌, ◌==◌, Bool, true, false, ℕ, zero, suc, nat_lt, if◌then◌else◌, Result, Ok, Err}
use Rattle.std.specs.Prelude.{ℤ, pos, negsuc, ◌+ℤ◌, ◌-ℤ◌, ◌*ℤ◌, neg_ℤ, int_div, int_rem, int_lt}
use Rattle.hy_base.specs.declared.numbers.IntegerType.{IntegerType}
use Rattle.hy_base.specs.declared.numbers.IntegerType.TheVariants.{Int, Sized}
use Rattle.hy_base.specs.declared.numbers.Num.TheVariants.{I8, I16, I32, U8, U16, U32, U64}
use Rattle.hy_base.specs.declared.numbers.Operation.{Operation}
use Rattle.hy_base.specs.declared.numbers.Operation.TheVariants.{Add, Sub, Mul, Div, Rem}
use Rattle.hy_base.specs.declared.run.TrapKind.{TrapKind}
use Rattle.hy_base.specs.declared.run.TrapKind.TheVariants.{Overflow, Divide}

-- how many integers of a type are below zero: 128 of Int8, and none of UInt8
abbrev pub negatives : IntegerType → ℕ
negatives Int = 2 ^ 63
negatives (Sized I8) = 2 ^ 7
negatives (Sized I16) = 2 ^ 15
negatives (Sized I32) = 2 ^ 31
negatives (Sized U8) = 0
negatives (Sized U16) = 0
negatives (Sized U32) = 0
negatives (Sized U64) = 0

-- the least number above those of a type: 128 for Int8, and 256 for UInt8
abbrev pub limit : IntegerType → ℕ
limit Int = 2 ^ 63
limit (Sized I8) = 2 ^ 7
limit (Sized I16) = 2 ^ 15
limit (Sized I32) = 2 ^ 31
limit (Sized U8) = 2 ^ 8
limit (Sized U16) = 2 ^ 16
limit (Sized U32) = 2 ^ 32
limit (Sized U64) = 2 ^ 64

-- the number of a type, by which two are compared: its sized types in the order of `Num`, and then Int
abbrev pub type_number : IntegerType → ℕ
type_number (Sized I8) = 0
type_number (Sized I16) = 1
type_number (Sized I32) = 2
type_number (Sized U8) = 3
type_number (Sized U16) = 4
type_number (Sized U32) = 5
type_number (Sized U64) = 6
type_number Int = 7

-- whether some of the integers of a type are below zero
abbrev pub is_signed : IntegerType → Bool
is_signed t = nat_lt 0 (negatives t)

abbrev pub least : IntegerType → ℤ
least t = neg_ℤ (pos (negatives t))

abbrev pub greatest : IntegerType → ℤ
greatest t = pos (limit t - 1)

-- whether an integer is one of a type
abbrev pub is_in : IntegerType → ℤ → Bool
is_in t (pos n) = nat_lt n (limit t)
is_in t (negsuc n) = nat_lt n (negatives t)

-- whether it is one of Int
abbrev pub fits : ℤ → Bool
fits n = is_in Int n

-- an integer as one of a type: outside it, that overflows
abbrev pub fitting : IntegerType → ℤ → Result ℤ TrapKind
fitting t n = if is_in t n then Ok n else Err Overflow

-- what a division by this divisor gives
abbrev pub unless_zero : (divisor : ℤ) → Result ℤ TrapKind → Result ℤ TrapKind
unless_zero (pos zero) given = Err Divide
unless_zero (pos (suc n)) given = given
unless_zero (negsuc n) given = given

-- whether the first is the least integer of a signed type, and the second -1
abbrev pub is_least_by_minus_one : IntegerType → ℤ → ℤ → Bool
is_least_by_minus_one t (pos m) y = false
is_least_by_minus_one t (negsuc m) (pos n) = false
is_least_by_minus_one t (negsuc m) (negsuc zero) = negatives t == suc m
is_least_by_minus_one t (negsuc m) (negsuc (suc n)) = false

-- What an operation of a type gives. The remainder of the least integer of a signed type by -1 overflows, as the quotient does.
abbrev pub calculated : IntegerType → Operation → ℤ → ℤ → Result ℤ TrapKind
calculated t Add x y = fitting t (x +ℤ y)
calculated t Sub x y = fitting t (x -ℤ y)
calculated t Mul x y = fitting t (x *ℤ y)
calculated t Div x y = unless_zero y (fitting t (int_div x y))
calculated t Rem x y = unless_zero y (if is_least_by_minus_one t x y then Err Overflow else fitting t (int_rem x y))

-- WORDS: a machine has an integer of any of the types in a word of 64 bits, with a sign

-- the integer that a word stands for: itself, but as a UInt64 a negative one stands for the integer 2^64 above it
abbrev pub of_word : IntegerType → ℤ → ℤ
of_word Int w = w
of_word (Sized U64) (pos n) = pos n
of_word (Sized U64) (negsuc n) = negsuc n +ℤ pos (2 ^ 64)
of_word (Sized I8) w = w
of_word (Sized I16) w = w
of_word (Sized I32) w = w
of_word (Sized U8) w = w
of_word (Sized U16) w = w
of_word (Sized U32) w = w

-- the word that stands for an integer
abbrev pub word_of : ℤ → ℤ
word_of n = if int_lt n (pos (2 ^ 63)) then n else n -ℤ pos (2 ^ 64)
