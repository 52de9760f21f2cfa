-- The types that operators and predeclared calls want and give.
use Rattle.hy_types.specs.Types as Y
use Rattle.hy_types.specs.Types.{Table}
use Rattle.hy_signatures.specs.Numbered.{IsNumber}
use Rattle.hy_signatures.specs.PlainTypes.{unit}
use Rattle.hy_signatures.specs.declared.types.Basics.{Basics}

pub record AreBasics (table : Table) (basics : Basics) : Type 0 where
  pub int : IsNumber table Y.Int basics.int
  pub truth : IsNumber table Y.Bool basics.truth
  pub unit : IsNumber table unit basics.unit
