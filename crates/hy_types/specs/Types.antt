-- Tables of types, and the types that their numbers stand for.
use Rattle.std.specs.Prelude.{◌≡◌, ◌==◌, ◌<◌, ◌++◌, ℕ, List, [], ◌∷◌, length, reverse, if◌then◌else◌, Option, slice_get}
use Rattle.std.specs.Map.{lookup}
use Rattle.hy_base.specs.declared.numbers.Num.{Num}
use Rattle.hy_types.specs.declared.kinds.TyId.{TyId}
use Rattle.hy_types.specs.declared.kinds.Ty.{Ty}
use Rattle.hy_types.specs.declared.kinds.Ty.TheVariants as ty

-- a table: its types, each at the place that is its number, and the parts of the products that were declared, in order
pub record Table : Type 0 where
  pub types : List Ty
  pub products : List (ℕ × List TyId)

-- the row of a number
abbrev pub row_at : Table → TyId → Option Ty
row_at table id = slice_get table.types id.at

-- a number is one of the table's
abbrev pub HasId : Table → TyId → Type 0
HasId table id = id.at < length table.types

-- all of these are below a number
abbrev pub AllBelow : ℕ → List TyId → Type 0
AllBelow count [] = Unit {0}
AllBelow count (id ∷ ids) = (id.at < count) × AllBelow count ids

-- all of these are the table's
abbrev pub HasIds : Table → List TyId → Type 0
HasIds table ids = AllBelow (length table.types) ids

-- the parts that a product was declared with
abbrev pub declared : Table → ℕ → Option (List TyId)
declared table product = lookup (λ other. product == other) table.products

-- a type by itself: products by their declaration, the rest by structure
mutual
  pub data PlainType : Type 0 where
    Int : PlainType
    Sized : Num → PlainType
    Bool : PlainType
    Tuple : (parts : PlainTypes) → PlainType
    Product : (declaration : ℕ) → PlainType
    Array : (element : PlainType) → PlainType
    Param : (place : ℕ) → PlainType

  pub data PlainTypes : Type 0 where
    End : PlainTypes
    More : (first : PlainType) (rest : PlainTypes) → PlainTypes

abbrev pub plain_types : (TyId → PlainType) → List TyId → PlainTypes
plain_types plain [] = End
plain_types plain (id ∷ ids) = More (plain id) (plain_types plain ids)

-- the type of a row, where each number stands for such a type
abbrev pub meant : (TyId → PlainType) → Ty → PlainType
meant plain ty.Int = Int
meant plain (ty.Sized num) = Sized num
meant plain ty.Bool = Bool
meant plain (ty.Tuple parts) = Tuple (plain_types plain parts)
meant plain (ty.Product declaration) = Product declaration
meant plain (ty.Array element) = Array (plain element)
meant plain (ty.Param place) = Param place

-- the type of a number, where the rows are given from the last to the first: a row speaks of rows before it
abbrev pub type_in : List Ty → TyId → PlainType
type_in [] id = Int
type_in (row ∷ before) id = if id.at == length before then meant (type_in before) row else type_in before id

-- the type of a number of the table
abbrev pub type_of : Table → TyId → PlainType
type_of table id = type_in (reverse table.types) id

-- the type of a row over the table
abbrev pub type_of_row : Table → Ty → PlainType
type_of_row table row = meant (type_of table) row

-- the numbers that a row speaks of
abbrev pub mentioned : Ty → List TyId
mentioned ty.Int = []
mentioned (ty.Sized num) = []
mentioned ty.Bool = []
mentioned (ty.Tuple parts) = parts
mentioned (ty.Product declaration) = []
mentioned (ty.Array element) = element ∷ []
mentioned (ty.Param place) = []

-- each row of the one table stands at its place in the other, and the products are the same
pub record Extends (old new : Table) : Type 0 where
  pub more : List Ty
  pub types : new.types ≡ old.types ++ more
  pub products : new.products ≡ old.products
