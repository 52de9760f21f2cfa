-- What can be asked of types as plain data.
use Rattle.std.specs.Prelude.{ℕ, ◌==◌, ◌-◌, ◌&&◌, ◌||◌, Bool as Truth, true, false, List, [], ◌∷◌, Option, Some, None, cond, option_and_then, unwrap_or, not}
use Rattle.hy_base.specs.Numbers.{negatives, limit}
use Rattle.hy_base.specs.declared.numbers.IntegerType.TheVariants as integer
use Rattle.hy_base.specs.declared.numbers.Num.{Num}
use Rattle.hy_types.specs.Types.{PlainType, PlainTypes, Int, Sized, Bool, Tuple, Product, Array, Param, End, More}

abbrev pub types : List PlainType → PlainTypes
types [] = End
types (type ∷ more) = More type (types more)

abbrev pub unit : PlainType
unit = Tuple End

-- the part of a tuple at a place
abbrev pub part_at : ℕ → PlainTypes → Option PlainType
part_at place End = None
part_at place (More first rest) = cond (place == 0) (Some first) (part_at (place - 1) rest)

-- EQUALITY: products by their declaration, the rest by structure

abbrev pub same_num : Num → Num → Truth
same_num a b = (negatives (integer.Sized a) == negatives (integer.Sized b)) && (limit (integer.Sized a) == limit (integer.Sized b))

abbrev mutual
  pub same_type : PlainType → PlainType → Truth
  same_type Int Int = true
  same_type Bool Bool = true
  same_type (Sized a) (Sized b) = same_num a b
  same_type (Tuple ps) (Tuple qs) = same_types ps qs
  same_type (Product a) (Product b) = a == b
  same_type (Array a) (Array b) = same_type a b
  same_type (Param a) (Param b) = a == b
  same_type a b = false

  pub same_types : PlainTypes → PlainTypes → Truth
  same_types End End = true
  same_types (More p ps) (More q qs) = same_type p q && same_types ps qs
  same_types ps qs = false

-- KINDS OF TYPES

abbrev pub is_integer : PlainType → Truth
is_integer Int = true
is_integer (Sized num) = true
is_integer type = false

abbrev pub is_signed : PlainType → Truth
is_signed Int = true
is_signed (Sized num) = not (negatives (integer.Sized num) == 0)
is_signed type = false

abbrev pub is_bool : PlainType → Truth
is_bool Bool = true
is_bool type = false

-- TYPE PARAMETERS

-- whether a type speaks of a type parameter
abbrev mutual
  pub mentions : ℕ → PlainType → Truth
  mentions place Int = false
  mentions place Bool = false
  mentions place (Sized num) = false
  mentions place (Tuple parts) = mentioned_in place parts
  mentions place (Product declaration) = false
  mentions place (Array element) = mentions place element
  mentions place (Param other) = other == place

  pub mentioned_in : ℕ → PlainTypes → Truth
  mentioned_in place End = false
  mentioned_in place (More first rest) = mentions place first || mentioned_in place rest

-- the types that are found for type parameters so far
abbrev pub Found : Type 0
Found = ℕ → Option PlainType

abbrev pub nothing_found : Found
nothing_found = λ place. None

abbrev pub with_found : ℕ → PlainType → Found → Found
with_found place type found = λ other. cond (other == place) (Some type) (found other)

-- a parameter for which a type was found has to be that type
abbrev pub fill : ℕ → PlainType → Option PlainType → Found → Option Found
fill place given None found = Some (with_found place given found)
fill place given (Some type) found = cond (same_type type given) (Some found) None

-- What is found where a wanted type is matched with a given one, whose own parameters are fixed types; nothing where no types
-- in place of the wanted one's parameters make it the given one.
abbrev mutual
  pub matched : PlainType → PlainType → Found → Option Found
  matched Int Int found = Some found
  matched Bool Bool found = Some found
  matched (Sized a) (Sized b) found = cond (same_num a b) (Some found) None
  matched (Tuple ps) (Tuple qs) found = matched_all ps qs found
  matched (Product a) (Product b) found = cond (a == b) (Some found) None
  matched (Array a) (Array b) found = matched a b found
  matched (Param place) given found = fill place given (found place) found
  matched wanted given found = None

  pub matched_all : PlainTypes → PlainTypes → Found → Option Found
  matched_all End End found = Some found
  matched_all (More p ps) (More q qs) found = option_and_then (matched_all ps qs) (matched p q found)
  matched_all ps qs found = None

-- a type with what was found in place of its parameters
abbrev mutual
  pub replaced : Found → PlainType → PlainType
  replaced found Int = Int
  replaced found Bool = Bool
  replaced found (Sized num) = Sized num
  replaced found (Tuple parts) = Tuple (replaced_all found parts)
  replaced found (Product declaration) = Product declaration
  replaced found (Array element) = Array (replaced found element)
  replaced found (Param place) = unwrap_or (found place) (Param place)

  pub replaced_all : Found → PlainTypes → PlainTypes
  replaced_all found End = End
  replaced_all found (More first rest) = More (replaced found first) (replaced_all found rest)
