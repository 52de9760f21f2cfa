-- Values as trees of parts, and the parts of a value by path.
use Rattle.std.specs.Prelude.{◌≡◌, ◌≢◌, ◌⊎◌, ℕ, zero, suc, ◌<◌, ◌==◌, ℤ, Bool, true, false, ◌&&◌, ◌||◌, List, [], ◌∷◌}
use Rattle.hy_base.specs.declared.numbers.IntegerType.{IntegerType}

mutual
  -- a number has its integer type, and a product its declaration
  pub data Val : Type 0 where
    Unset : Val
    Number : IntegerType → ℤ → Val
    Truth : Bool → Val
    Tuple : Vals → Val
    Product : (declaration : ℕ) → Vals → Val
    Array : Vals → Val

  pub data Vals : Type 0 where
    No : Vals
    And : Val → Vals → Vals

-- one step into a value: to a part of a product or tuple, or to an element of an array, by its number
pub data Selector : Type 0 where
  PartAt : ℕ → Selector
  ElementAt : ℕ → Selector

abbrev pub selector_eq : Selector → Selector → Bool
selector_eq (PartAt i) (PartAt j) = i == j
selector_eq (PartAt i) (ElementAt j) = false
selector_eq (ElementAt i) (PartAt j) = false
selector_eq (ElementAt i) (ElementAt j) = i == j

-- the parts and elements to enter, one after another
abbrev pub Path : Type 0
Path = List Selector

abbrev pub many : Vals → ℕ
many No = zero
many (And v vs) = suc (many vs)

abbrev pub nth : ℕ → Vals → Val
nth k No = Unset
nth zero (And v vs) = v
nth (suc k) (And v vs) = nth k vs

abbrev pub with_nth : ℕ → Val → Vals → Vals
with_nth k w No = No
with_nth zero w (And v vs) = And w vs
with_nth (suc k) w (And v vs) = And v (with_nth k w vs)

-- the part or element of a value, or `Unset` where it has none
abbrev pub part : Selector → Val → Val
part s Unset = Unset
part s (Number t n) = Unset
part s (Truth b) = Unset
part (PartAt k) (Tuple vs) = nth k vs
part (ElementAt k) (Tuple vs) = Unset
part (PartAt k) (Product d vs) = nth k vs
part (ElementAt k) (Product d vs) = Unset
part (PartAt k) (Array vs) = Unset
part (ElementAt k) (Array vs) = nth k vs

-- the value with another part or element, where it has that
abbrev pub with_part : Selector → Val → Val → Val
with_part s w Unset = Unset
with_part s w (Number t n) = Number t n
with_part s w (Truth b) = Truth b
with_part (PartAt k) w (Tuple vs) = Tuple (with_nth k w vs)
with_part (ElementAt k) w (Tuple vs) = Tuple vs
with_part (PartAt k) w (Product d vs) = Product d (with_nth k w vs)
with_part (ElementAt k) w (Product d vs) = Product d vs
with_part (PartAt k) w (Array vs) = Array vs
with_part (ElementAt k) w (Array vs) = Array (with_nth k w vs)

-- the value at a path
abbrev pub get : Path → Val → Val
get [] v = v
get (s ∷ p) v = get p (part s v)

-- the value with another one at the path
abbrev pub put : Path → Val → Val → Val
put [] w v = w
put (s ∷ p) w v = with_part s (put p w (part s v)) v

-- The places at the paths never overlap: the paths part at two parts of one value. A place and one inside it overlap, and so do
-- all elements of one array.
abbrev pub Apart : Path → Path → Type 0
Apart [] q = ⊥
Apart (s ∷ p) [] = ⊥
Apart (PartAt i ∷ p) (PartAt j ∷ q) = (i ≢ j) ⊎ Apart p q
Apart (PartAt i ∷ p) (ElementAt j ∷ q) = ⊥
Apart (ElementAt i ∷ p) (PartAt j ∷ q) = ⊥
Apart (ElementAt i ∷ p) (ElementAt j ∷ q) = ⊥

-- Neither path begins the other. What is at the one is no part of what is at the other.
abbrev pub Diverge : Path → Path → Type 0
Diverge [] q = ⊥
Diverge (s ∷ p) [] = ⊥
Diverge (s ∷ p) (t ∷ q) = (s ≢ t) ⊎ Diverge p q

-- the path q goes through the end of h
abbrev pub Within : Path → Path → Type 0
Within [] q = Unit {0}
Within (s ∷ h) [] = ⊥
Within (s ∷ h) (t ∷ q) = (s ≡ t) × Within h q

-- what stands at the top of a value
pub data Shape : Type 0 where
  Nothing : Shape
  Scalar : IntegerType → ℤ → Shape
  Flag : Bool → Shape
  Parts : ℕ → Shape
  Fields : (declaration count : ℕ) → Shape
  Elements : ℕ → Shape

abbrev pub shape : Val → Shape
shape Unset = Nothing
shape (Number t n) = Scalar t n
shape (Truth b) = Flag b
shape (Tuple vs) = Parts (many vs)
shape (Product d vs) = Fields d (many vs)
shape (Array vs) = Elements (many vs)

abbrev pub Has : Selector → Shape → Type 0
Has s Nothing = ⊥
Has s (Scalar t n) = ⊥
Has s (Flag b) = ⊥
Has (PartAt k) (Parts n) = k < n
Has (ElementAt k) (Parts n) = ⊥
Has (PartAt k) (Fields d n) = k < n
Has (ElementAt k) (Fields d n) = ⊥
Has (PartAt k) (Elements n) = ⊥
Has (ElementAt k) (Elements n) = k < n

-- each step of the path enters a part or element that the value has
abbrev pub IsThere : Path → Val → Type 0
IsThere [] v = Unit {0}
IsThere (s ∷ p) v = Has s (shape v) × IsThere p (part s v)

-- no part at any depth is unset
abbrev mutual
  pub is_whole : Val → Bool
  is_whole Unset = false
  is_whole (Number t n) = true
  is_whole (Truth b) = true
  is_whole (Tuple vs) = all_whole vs
  is_whole (Product d vs) = all_whole vs
  is_whole (Array vs) = all_whole vs

  pub all_whole : Vals → Bool
  all_whole No = true
  all_whole (And v vs) = is_whole v && all_whole vs

-- Nothing in it is set. A product or tuple without parts is set or unset as a number is, and so is an array.
abbrev mutual
  pub is_blank : Val → Bool
  is_blank Unset = true
  is_blank (Number t n) = false
  is_blank (Truth b) = false
  is_blank (Tuple vs) = some_blank vs
  is_blank (Product d vs) = some_blank vs
  is_blank (Array vs) = false

  some_blank : Vals → Bool
  some_blank No = false
  some_blank (And v vs) = is_blank v && all_blank vs

  pub all_blank : Vals → Bool
  all_blank No = true
  all_blank (And v vs) = is_blank v && all_blank vs

-- an array is set in it
abbrev mutual
  pub holds_array : Val → Bool
  holds_array Unset = false
  holds_array (Number t n) = false
  holds_array (Truth b) = false
  holds_array (Tuple vs) = any_array vs
  holds_array (Product d vs) = any_array vs
  holds_array (Array vs) = true

  pub any_array : Vals → Bool
  any_array No = false
  any_array (And v vs) = holds_array v || any_array vs

-- an array in it has an element that holds an array
abbrev mutual
  pub nests_array : Val → Bool
  nests_array Unset = false
  nests_array (Number t n) = false
  nests_array (Truth b) = false
  nests_array (Tuple vs) = any_nests vs
  nests_array (Product d vs) = any_nests vs
  nests_array (Array vs) = any_array vs

  pub any_nests : Vals → Bool
  any_nests No = false
  any_nests (And v vs) = nests_array v || any_nests vs
