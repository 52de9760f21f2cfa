-- The tables of a source, in a table of types that grows.
use Rattle.hy_tree.specs.Denotes.{callable_of}
use Rattle.hy_types.specs.Types.{Table, Extends}
use Rattle.hy_signatures.specs.CallablesShown.{AreCallables}
use Rattle.hy_signatures.specs.Declarations.{Source, members_in, declares_copyable, members_of_trait}
use Rattle.hy_signatures.specs.NamedShown.{named_shown}
use Rattle.hy_signatures.specs.OwnersShown.{AreOwners, owner_at}
use Rattle.hy_signatures.specs.TablesShown.{AreTables}
use Rattle.hy_signatures.specs.TraitsShown.{AreTraits, trait_at}
use Rattle.hy_signatures.specs.declared.callables.Callables.{Callables}
use Rattle.hy_signatures.specs.declared.owners.Owners.{Owners}
use Rattle.hy_signatures.specs.declared.tables.Tables.{Tables}
use Rattle.hy_signatures.specs.declared.traits.Traits.{Traits}
use Rattle.hy_signatures.proofs.CallableTables.{types_kept}
use Rattle.hy_signatures.proofs.OwnerTables.{owner_kept}
use Rattle.hy_signatures.proofs.TraitTables.{trait_kept}

pub callables_kept : (old new : Table) (source : Source) (callables : Callables) → Extends old new → AreCallables old source callables
    → AreCallables new source callables
callables_kept old new source callables stays are = record {
  shown = are.shown;
  types = λ node row at. types_kept old new source (callable_of row.callable.now) row stays (are.types node row at);
}

pub owners_kept : (old new : Table) (source : Source) (owners : Owners) → Extends old new → AreOwners old source owners → AreOwners new source owners
owners_kept old new source owners stays are = λ named.
    owner_kept old new source (members_in source (named_shown named) source.decls) (declares_copyable source (named_shown named) source.decls)
    (owner_at owners named) stays (are named)

pub traits_kept : (old new : Table) (source : Source) (traits : Traits) → Extends old new → AreTraits old source traits → AreTraits new source traits
traits_kept old new source traits stays are = λ node.
    trait_kept old new source (members_of_trait node source.decls) (trait_at traits node) stays (are node)

-- what the tables say of types stays right
pub tables_kept : (old new : Table) (source : Source) (tables : Tables) → Extends old new → AreTables old source tables → AreTables new source tables
tables_kept old new source tables stays are = record {
  callables = callables_kept old new source tables.callables stays are.callables;
  owners = owners_kept old new source tables.owners stays are.owners;
  traits = traits_kept old new source tables.traits stays are.traits;
}
