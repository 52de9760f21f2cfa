-- What is seen of a value of a known kind.
use Rattle.std.specs.Prelude.{ℤ, pos, Bool, false}
use Rattle.hy_base.specs.declared.numbers.IntegerType.TheVariants as integer
use Rattle.hy_types.specs.Types as Y
use Rattle.hy_types.specs.Types.{PlainType}
use Rattle.hy_signatures.specs.PlainTypes.{unit}
use Rattle.hy_core.specs.Values.{Val, Number, Truth, Tuple, Product, Array, Vals, No}

-- whether a value is `true`
abbrev pub is_true : Val → Bool
is_true (Truth b) = b
is_true v = false

-- the integer that a value is
abbrev pub integer_in : Val → ℤ
integer_in (Number t n) = n
integer_in v = pos 0

-- the elements of an array
abbrev pub elements_in : Val → Vals
elements_in (Array vs) = vs
elements_in v = No

-- the parts of a product or tuple
abbrev pub parts_in : Val → Vals
parts_in (Tuple vs) = vs
parts_in (Product d vs) = vs
parts_in v = No

-- the type that a value names: an integer type, `Bool`, or a product by its declaration
abbrev pub type_named : Val → PlainType
type_named (Number integer.Int n) = Y.Int
type_named (Number (integer.Sized num) n) = Y.Sized num
type_named (Truth b) = Y.Bool
type_named (Product d vs) = Y.Product d
type_named v = unit

-- the value of what gives nothing
abbrev pub unit_value : Val
unit_value = Tuple No
