-- What the code's tables of a source show.
use Rattle.hy_types.specs.Types.{Table}
use Rattle.hy_signatures.specs.CallablesShown.{AreCallables}
use Rattle.hy_signatures.specs.Declarations.{Source}
use Rattle.hy_signatures.specs.OwnersShown.{AreOwners}
use Rattle.hy_signatures.specs.TraitsShown.{AreTraits}
use Rattle.hy_signatures.specs.declared.tables.Tables.{Tables}

-- the tables of a source
pub record AreTables (table : Table) (source : Source) (tables : Tables) : Type 0 where
  pub callables : AreCallables table source tables.callables
  pub owners : AreOwners table source tables.owners
  pub traits : AreTraits table source tables.traits
