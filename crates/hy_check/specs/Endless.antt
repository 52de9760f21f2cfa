-- Products that hold themselves other than through arrays.
use Rattle.std.specs.Prelude.{ℕ, zero, suc, ◌==◌, ◌||◌, Bool as Truth, false, List, [], ◌∷◌, ◌++◌, length, flat_map}
use Rattle.hy_types.specs.Types as Y
use Rattle.hy_types.specs.Types.{PlainType, PlainTypes}
use Rattle.hy_signatures.specs.Declarations.{Source, Field, fields_of}

-- the products that a type is or has as parts, outside arrays
abbrev mutual
  pub products_in : PlainType → List ℕ
  products_in Y.Int = []
  products_in Y.Bool = []
  products_in (Y.Sized num) = []
  products_in (Y.Tuple parts) = products_among parts
  products_in (Y.Product declaration) = declaration ∷ []
  products_in (Y.Array element) = []
  products_in (Y.Param place) = []

  pub products_among : PlainTypes → List ℕ
  products_among Y.End = []
  products_among (Y.More first rest) = products_in first ++ products_among rest

-- the products in the fields of a product
abbrev pub products_of : Source → ℕ → List ℕ
products_of source product = flat_map (λ (field : Field). products_in field.type) (fields_of source (Y.Product product))

-- the products that lie in a product, so many fields deep at most
abbrev pub lying_in : ℕ → Source → ℕ → List ℕ
lying_in zero source product = []
lying_in (suc depth) source product = products_of source product ++ flat_map (lying_in depth source) (products_of source product)

abbrev pub has : ℕ → List ℕ → Truth
has wanted [] = false
has wanted (one ∷ more) = (wanted == one) || has wanted more

-- a product that lies in itself does so no deeper than there are declarations
abbrev pub holds_itself : Source → ℕ → Truth
holds_itself source product = has product (lying_in (length source.decls) source product)
