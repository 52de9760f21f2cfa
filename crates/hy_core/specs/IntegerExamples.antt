-- Small cores that compute with integers at the edges of their types, and what they print: the same in both memories.
use Rattle.std.specs.Prelude.{◌++◌, ◌^◌, ◌-◌, ℕ, List, [], ◌∷◌, Some, ℤ, pos, neg_ℤ, codes, Result, Ok, Err}
use Rattle.std.specs.List.{AllByRecursion}
use Rattle.std.specs.Fmt.{signed_decimal}
use Rattle.hy_base.specs.declared.numbers.IntegerType.{IntegerType}
use Rattle.hy_base.specs.declared.numbers.IntegerType.TheVariants.{Int, Sized}
use Rattle.hy_base.specs.declared.numbers.Num.TheVariants.{I8, I16, I32, U8, U16, U32, U64}
use Rattle.hy_base.specs.declared.run.End.TheVariants as end
use Rattle.hy_base.specs.declared.run.TrapKind.{TrapKind}
use Rattle.hy_base.specs.declared.run.TrapKind.TheVariants.{Overflow, Divide}
use Rattle.hy_types.specs.declared.kinds.TyId.{TyId}
use Rattle.hy_types.specs.declared.kinds.Ty.TheVariants as ty
use Rattle.hy_core.specs.Plain.{Operator, Add, Sub, Mul, Div, Rem, Neg, Convert, Eq, Lt, Stmt, Set, Core}
use Rattle.hy_core.specs.Control.{Stuck, Ends}
use Rattle.hy_core.specs.Meaning.{Report}
use Rattle.hy_core.specs.Notation.{of, print, compute, tell, id, unit, number, truth, main, checked, index_span, trap_span}
use Rattle.hy_core.specs.Examples.{Shows, leave}

-- the number of a type in the table
abbrev pub type_id : IntegerType → TyId
type_id Int = number
type_id (Sized I8) = id 3
type_id (Sized I16) = id 4
type_id (Sized I32) = id 5
type_id (Sized U8) = id 6
type_id (Sized U16) = id 7
type_id (Sized U32) = id 8
type_id (Sized U64) = id 9

abbrev pub core_of : List TyId → List Stmt → Core
core_of locals body = record {
  types = record {
    types = ty.Tuple [] ∷ ty.Int ∷ ty.Bool ∷ ty.Sized I8 ∷ ty.Sized I16 ∷ ty.Sized I32 ∷ ty.Sized U8 ∷ ty.Sized U16 ∷ ty.Sized U32 ∷ ty.Sized U64 ∷ [];
    products = [];
  };
  funs = main (unit ∷ locals) body ∷ [];
  spans = index_span ∷ trap_span ∷ [];
  deinits = [];
}

-- what is written at the end of a run of one turn, and how it ends
abbrev pub report : List ℕ → Result ℤ TrapKind → Report
report before (Ok n) = record { output = before ++ (signed_decimal n ++ 10 ∷ []); halt = Some (Ends end.Done); taken = 0; turns = 1; opened = 0 }
report before (Err kind) = record { output = before; halt = Some (Ends (end.Trap kind trap_span)); taken = 0; turns = 1; opened = 0 }

-- an integer of `Int` that becomes one of a type and is printed
abbrev pub Converts : IntegerType × ℤ × Result ℤ TrapKind → Type 0
Converts (t, a, r) = Shows
    (checked (core_of (number ∷ type_id t ∷ []) (Set (of 1) a ∷ compute (Convert t) 2 (of 1 ∷ []) ∷ print (of 2) ∷ leave 0)) 1) 8 (report [] r)

-- two that become integers of a type, an operation on them, and its result printed
abbrev pub Computes : IntegerType × Operator × ℤ × ℤ × Result ℤ TrapKind → Type 0
Computes (t, o, a, b, r) = Shows
    (checked (core_of (number ∷ number ∷ type_id t ∷ type_id t ∷ []) (
    Set (of 1) a ∷ Set (of 2) b ∷ compute (Convert t) 3 (of 1 ∷ []) ∷ compute (Convert t) 4 (of 2 ∷ [])
    ∷ compute o 3 (of 3 ∷ of 4 ∷ []) ∷ print (of 3) ∷ leave 0)) 1)
    12 (report [] r)

-- one that becomes an integer of a type, that with the other sign, and its result printed
abbrev pub Negates : IntegerType × ℤ × Result ℤ TrapKind → Type 0
Negates (t, a, r) = Shows
    (checked (core_of (number ∷ type_id t ∷ []) (Set (of 1) a ∷ compute (Convert t) 2 (of 1 ∷ []) ∷ compute Neg 2 (of 2 ∷ []) ∷ print (of 2) ∷ leave 0)) 1)
    10 (report [] r)

abbrev pub minus : ℕ → ℤ
minus n = neg_ℤ (pos n)

abbrev pub conversions : List (IntegerType × ℤ × Result ℤ TrapKind)
conversions =
    (Sized I8, pos 127, Ok (pos 127)) ∷ (Sized I8, pos 128, Err Overflow) ∷ (Sized I8, minus 128, Ok (minus 128)) ∷ (Sized I8, minus 129, Err Overflow)
    ∷ (Sized I16, pos 32767, Ok (pos 32767)) ∷ (Sized I16, pos 32768, Err Overflow)
    ∷ (Sized I16, minus 32768, Ok (minus 32768)) ∷ (Sized I16, minus 32769, Err Overflow)
    ∷ (Sized I32, pos 2147483647, Ok (pos 2147483647)) ∷ (Sized I32, pos 2147483648, Err Overflow)
    ∷ (Sized I32, minus 2147483648, Ok (minus 2147483648)) ∷ (Sized I32, minus 2147483649, Err Overflow)
    ∷ (Sized U8, pos 255, Ok (pos 255)) ∷ (Sized U8, pos 256, Err Overflow) ∷ (Sized U8, pos 0, Ok (pos 0)) ∷ (Sized U8, minus 1, Err Overflow)
    ∷ (Sized U16, pos 65535, Ok (pos 65535)) ∷ (Sized U16, pos 65536, Err Overflow) ∷ (Sized U16, minus 1, Err Overflow)
    ∷ (Sized U32, pos 4294967295, Ok (pos 4294967295)) ∷ (Sized U32, pos 4294967296, Err Overflow) ∷ (Sized U32, minus 1, Err Overflow)
    ∷ (Sized U64, pos 9223372036854775807, Ok (pos 9223372036854775807)) ∷ (Sized U64, minus 1, Err Overflow)
    ∷ (Int, minus 1, Ok (minus 1)) ∷ []

abbrev pub computations : List (IntegerType × Operator × ℤ × ℤ × Result ℤ TrapKind)
computations =
    (Sized I8, Add, pos 100, pos 27, Ok (pos 127)) ∷ (Sized I8, Add, pos 100, pos 28, Err Overflow)
    ∷ (Sized I8, Sub, minus 127, pos 1, Ok (minus 128)) ∷ (Sized I8, Sub, minus 128, pos 1, Err Overflow)
    ∷ (Sized I8, Mul, minus 64, pos 2, Ok (minus 128)) ∷ (Sized I8, Mul, pos 64, pos 2, Err Overflow)
    ∷ (Sized I8, Div, minus 7, pos 2, Ok (minus 3)) ∷ (Sized I8, Div, minus 128, minus 1, Err Overflow) ∷ (Sized I8, Div, pos 1, pos 0, Err Divide)
    ∷ (Sized I8, Rem, minus 7, pos 2, Ok (minus 1)) ∷ (Sized I8, Rem, minus 128, minus 1, Err Overflow) ∷ (Sized I8, Rem, pos 0, pos 0, Err Divide)
    ∷ (Sized I16, Rem, minus 32768, minus 1, Err Overflow) ∷ (Sized I32, Rem, minus 2147483648, minus 1, Err Overflow)
    ∷ (Sized I32, Rem, minus 2147483647, minus 1, Ok (pos 0))
    ∷ (Sized U8, Add, pos 250, pos 5, Ok (pos 255)) ∷ (Sized U8, Add, pos 255, pos 1, Err Overflow) ∷ (Sized U8, Sub, pos 0, pos 1, Err Overflow)
    ∷ (Sized U8, Mul, pos 16, pos 16, Err Overflow) ∷ (Sized U8, Div, pos 255, pos 2, Ok (pos 127)) ∷ (Sized U8, Rem, pos 255, pos 2, Ok (pos 1))
    ∷ (Sized U16, Mul, pos 256, pos 256, Err Overflow) ∷ (Sized U32, Mul, pos 65536, pos 65536, Err Overflow)
    ∷ (Sized U64, Add, pos 9223372036854775807, pos 9223372036854775807, Ok (pos 18446744073709551614))
    ∷ (Sized U64, Mul, pos 4294967296, pos 4294967296, Err Overflow) ∷ (Sized U64, Sub, pos 0, pos 1, Err Overflow)
    ∷ (Int, Rem, minus 9223372036854775807, minus 1, Ok (pos 0)) ∷ []

abbrev pub negations : List (IntegerType × ℤ × Result ℤ TrapKind)
negations =
    (Sized I8, pos 127, Ok (minus 127)) ∷ (Sized I8, minus 128, Err Overflow)
    ∷ (Sized I16, minus 32768, Err Overflow) ∷ (Sized I32, minus 2147483648, Err Overflow) ∷ []

-- var m = UInt64(9223372036854775807); m = m * UInt64(2) + UInt64(1); print(m); print(UInt64(1) < m); print(m == m);
-- print(Int(m)), which is out of range
abbrev pub greatest_of_all : Core
greatest_of_all = core_of (number ∷ type_id (Sized U64) ∷ type_id (Sized U64) ∷ truth ∷ []) (
    Set (of 1) (pos 9223372036854775807) ∷ compute (Convert (Sized U64)) 2 (of 1 ∷ [])
    ∷ Set (of 1) (pos 2) ∷ compute (Convert (Sized U64)) 3 (of 1 ∷ []) ∷ compute Mul 2 (of 2 ∷ of 3 ∷ [])
    ∷ Set (of 1) (pos 1) ∷ compute (Convert (Sized U64)) 3 (of 1 ∷ []) ∷ compute Add 2 (of 2 ∷ of 3 ∷ [])
    ∷ print (of 2) ∷ tell Lt 4 (of 3 ∷ of 2 ∷ []) ∷ print (of 4) ∷ tell Eq 4 (of 2 ∷ of 2 ∷ []) ∷ print (of 4)
    ∷ compute (Convert Int) 1 (of 2 ∷ []) ∷ print (of 1) ∷ leave 0)

-- an `Int8` and an `Int` have no sum, and are not compared
abbrev pub two_types : Operator → Core
two_types o = core_of (number ∷ type_id (Sized I8) ∷ truth ∷ []) (
    Set (of 1) (pos 1) ∷ compute (Convert (Sized I8)) 2 (of 1 ∷ []) ∷ compute o 3 (of 2 ∷ of 1 ∷ []) ∷ leave 0)

abbrev pub IsStuck : Operator → Type 0
IsStuck o = Shows (checked (two_types o) 1) 6 (record { output = []; halt = Some Stuck; taken = 0; turns = 1; opened = 0 })

pub record IntegerExamples : Type 0 where
  pub conversions : AllByRecursion Converts conversions
  pub computations : AllByRecursion Computes computations
  pub negations : AllByRecursion Negates negations
  pub greatest : Shows (checked greatest_of_all 1) 20
      (report (signed_decimal (pos (2 ^ 64 - 1)) ++ 10 ∷ (codes "true" ++ 10 ∷ (codes "true" ++ 10 ∷ []))) (Err Overflow))
  pub stuck : AllByRecursion IsStuck (Add ∷ Eq ∷ Lt ∷ [])
