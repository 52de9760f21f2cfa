-- What the built-in operations give.
use Rattle.std.specs.Prelude.{◌≡◌, Result, Ok, Err, ℕ, ◌==◌, Bool, true, false, not, List, [], ◌∷◌, ◌++◌, Option, Some, None, ℤ, pos, negsuc, neg_ℤ, nat_lt}
use Rattle.std.specs.Prelude.{if◌then◌else◌, codes}
use Rattle.std.specs.Fmt.{signed_decimal}
use Rattle.hy_base.specs.declared.numbers.IntegerType.{IntegerType}
use Rattle.hy_base.specs.declared.numbers.IntegerType.TheVariants.{Int, Sized}
use Rattle.hy_base.specs.declared.numbers.Operation.{Operation}
use Rattle.hy_base.specs.Numbers.{is_in, fitting, calculated, type_number}
use Rattle.hy_base.specs.declared.run.TrapKind.{TrapKind}
use Rattle.hy_core.specs.Values.{Val, Unset, Number, Truth, Tuple, Product, Array, Vals, No, And}

-- INTEGERS

abbrev pub same_type : IntegerType → IntegerType → Bool
same_type t u = type_number t == type_number u

-- what is made of an integer
abbrev pub of_integer : {A : Type 0} → (IntegerType → ℤ → Option A) → Val → Option A
of_integer f Unset = None
of_integer f (Number t n) = f t n
of_integer f (Truth b) = None
of_integer f (Tuple vs) = None
of_integer f (Product d vs) = None
of_integer f (Array vs) = None

-- what is made of two integers of one type
abbrev pub of_integers : {A : Type 0} → (IntegerType → ℤ → ℤ → A) → Val → Val → Option A
of_integers f v w = of_integer (λ t m. of_integer (λ u n. if same_type t u then Some (f t m n) else None) w) v

-- a result of arithmetic as a value of its type
abbrev pub as_value : IntegerType → Result ℤ TrapKind → Result Val TrapKind
as_value t (Ok n) = Ok (Number t n)
as_value t (Err kind) = Err kind

-- the result of an operation on two integers, in their type
abbrev pub operated : Operation → Val → Val → Option (Result Val TrapKind)
operated o v w = of_integers (λ t m n. as_value t (calculated t o m n)) v w

-- an integer with the other sign, in its type
abbrev pub negated : Val → Option (Result Val TrapKind)
negated v = of_integer (λ t n. Some (as_value t (fitting t (neg_ℤ n)))) v

-- an integer in another type
abbrev pub converted : IntegerType → Val → Option (Result Val TrapKind)
converted t v = of_integer (λ u n. Some (as_value t (fitting t n))) v

-- whether two integers are in that order
abbrev pub ordered : (ℤ → ℤ → Bool) → Val → Val → Option Bool
ordered f v w = of_integers (λ t m n. f m n) v w

-- a number of a sized type is one of the type
abbrev pub InRange : IntegerType → ℤ → Type 0
InRange Int n = Unit {0}
InRange (Sized num) n = is_in (Sized num) n ≡ true

-- WHAT OPERATIONS GIVE

abbrev pub same_numbers : ℤ → ℤ → Bool
same_numbers (pos m) (pos n) = m == n
same_numbers (pos m) (negsuc n) = false
same_numbers (negsuc m) (pos n) = false
same_numbers (negsuc m) (negsuc n) = m == n

abbrev pub same_flags : Bool → Bool → Bool
same_flags true b = b
same_flags false b = not b

-- whether two integers of one type, or two truth values, are the same
abbrev pub equal : Val → Val → Option Bool
equal Unset w = None
equal (Number t m) Unset = None
equal (Number t m) (Number u n) = if same_type t u then Some (same_numbers m n) else None
equal (Number t m) (Truth b) = None
equal (Number t m) (Tuple ws) = None
equal (Number t m) (Product d ws) = None
equal (Number t m) (Array ws) = None
equal (Truth a) Unset = None
equal (Truth a) (Number t n) = None
equal (Truth a) (Truth b) = Some (same_flags a b)
equal (Truth a) (Tuple ws) = None
equal (Truth a) (Product d ws) = None
equal (Truth a) (Array ws) = None
equal (Tuple vs) w = None
equal (Product d vs) w = None
equal (Array vs) w = None

-- the line that a number or truth value prints as
abbrev pub line_of : Val → Option (List ℕ)
line_of Unset = None
line_of (Number t n) = Some (signed_decimal n ++ 10 ∷ [])
line_of (Truth true) = Some (codes "true" ++ 10 ∷ [])
line_of (Truth false) = Some (codes "false" ++ 10 ∷ [])
line_of (Tuple vs) = None
line_of (Product d vs) = None
line_of (Array vs) = None

-- the place in a list of that length
abbrev pub index_in : ℕ → ℤ → Option ℕ
index_in n (pos i) = if nat_lt i n then Some i else None
index_in n (negsuc i) = None

abbrev pub at_end : Vals → Val → Vals
at_end No v = And v No
at_end (And w ws) v = And w (at_end ws v)

-- all but the last, and the last
pub record Popped : Type 0 where
  pub rest : Vals
  pub last : Val

abbrev pub popped : Val → Vals → Popped
popped v No = record { rest = No; last = v }
popped v (And w ws) = let p = popped w ws in record { rest = And v p.rest; last = p.last }

-- a value of so many parts, none of which is set
abbrev pub blanks : {A : Type 0} → List A → Vals
blanks [] = No
blanks (t ∷ ts) = And Unset (blanks ts)
