-- What the code's words for types with a name show.
use Rattle.hy_types.specs.Types as Y
use Rattle.hy_types.specs.Types.{PlainType}
use Rattle.hy_signatures.specs.PlainTypes.{unit}
use Rattle.hy_signatures.specs.declared.named.Named.{Named}
use Rattle.hy_signatures.specs.declared.named.Named.TheVariants as named

abbrev pub named_shown : Named → PlainType
named_shown named.Int = Y.Int
named_shown named.Bool = Y.Bool
named_shown (named.Sized num) = Y.Sized num
named_shown named.Unit = unit
named_shown (named.Product declaration) = Y.Product declaration
named_shown (named.Param place) = Y.Param place
